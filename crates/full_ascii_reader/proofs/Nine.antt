-- Any nine bits begin a code: which one, by what number they are.
-- Assumes nothing.
use mathlib.Core.Path.{◌≡◌, refl, sym, ap, ap₂, subst, subst₂, subst⁻¹, ◌∙◌}
use mathlib.Core.List.{List, [], ◌∷◌, ◌++◌}
use Prim.Native.Nat.{ℕ, ◌+◌, ◌/◌, ◌≤◌, ◌<◌}
use native.Mathlib.Omega.{arith}
use lib.Dec.{T, lit≤}
use lib.ListN.{length}
use Rattle.bits.specs.Word.{bit}
use Rattle.codes.specs.Chain.{Entry, Begins}
use Rattle.codes.specs.Pack.{low}
use Rattle.codes.proofs.LowBits.{length-low, low-add}
use Rattle.full_ascii.specs.Table.{HT, LF, CR, six, seven, special, pair, table}
use Rattle.codes.specs.Steps.Taken.{FirstCode, characters_of, one_character}
use Rattle.full_ascii.specs.Writer.{coded, own}
use Rattle.full_ascii.proofs.Entries.{own_in, own-says, own-lower, own-upper, printed-coded, pair-in}

-- a character's own code
takes-own : (w c width : ℕ) → T (coded c) → Begins (own c).code (low 9 w) → width ≡ length (own c).code → 5 ≤ width → width ≤ 9
    → FirstCode table w (one_character width c)
unfolding characters_of
takes-own w c width t b x h k = record {
  entry = own c;
  legal = own_in c t;
  begins = b;
  width = x;
  says = own-says c;
  counts = ap length (own-says c);
  short = h;
  long = k;
  some = lit≤ tt;
  few = lit≤ tt;
}

pub takes-six : (w c : ℕ) → w < 256 → c ≡ w / 8 + 32 → FirstCode table w (one_character 6 c)
unfolding six
takes-six w c h e =
    let own_code : (own c).code ≡ low 6 (w / 8) =
    ap (λ (e : Entry). e.code) (own-lower c (omega arith) (omega arith)) ∙ ap (low 6) (omega arith) in
    takes-own w c 6 (printed-coded c (omega arith) (omega arith))
    (low 3 w, low-add 6 3 w ∙ ap (λ (l : List ℕ). l ++ low 3 w) (sym own_code)) (sym (ap length own_code ∙ length-low 6 (w / 8)))
    (lit≤ tt) (lit≤ tt)

pub takes-seven : (w : ℕ) → 256 ≤ w → w < 508 → FirstCode table w (one_character 7 (w / 4))
unfolding seven
takes-seven w h k =
    let c : ℕ = w / 4 in
    let own_code : (own c).code ≡ low 7 c = ap (λ (e : Entry). e.code) (own-upper c (omega arith)) in
    takes-own w c 7 (printed-coded c (omega arith) (omega arith))
    (low 2 w, low-add 7 2 w ∙ ap (λ (l : List ℕ). l ++ low 2 w) (sym own_code)) (sym (ap length own_code ∙ length-low 7 c))
    (lit≤ tt) (lit≤ tt)

-- by the seven bits that begin the nine
pub takes-lower : (w bits : ℕ) → w / 4 ≡ bits → bits < 64 → FirstCode table w (one_character (6 + bits / 64) (bits / 2 + 32))
takes-lower w bits e h =
    subst (λ (k : ℕ). FirstCode table w (one_character k (bits / 2 + 32))) (let x : 6 ≡ 6 + bits / 64 = omega arith in x)
    (takes-six w (bits / 2 + 32) (omega arith) (omega arith))

pub takes-upper : (w bits : ℕ) → w / 4 ≡ bits → 64 ≤ bits → bits < 127 → FirstCode table w (one_character (6 + bits / 64) bits)
takes-upper w bits e h k =
    subst₂ (λ (k c : ℕ). FirstCode table w (one_character k c)) (let x : 7 ≡ 6 + bits / 64 = omega arith in x) e (takes-seven w (omega arith) (omega arith))

-- seven ones, then two bits
pub takes-tab : (w : ℕ) → w ≡ 508 → FirstCode table w (one_character 9 HT)
unfolding own coded special low bit
takes-tab w e = subst⁻¹ (λ (n : ℕ). FirstCode table n (one_character 9 HT)) e (takes-own 508 HT 9 tt ([], refl) refl (lit≤ tt) (lit≤ tt))

pub takes-return : (w : ℕ) → w ≡ 509 → FirstCode table w (one_character 9 CR)
unfolding own coded special low bit
takes-return w e = subst⁻¹ (λ (n : ℕ). FirstCode table n (one_character 9 CR)) e (takes-own 509 CR 9 tt ([], refl) refl (lit≤ tt) (lit≤ tt))

pub takes-feed : (w : ℕ) → w ≡ 510 → FirstCode table w (one_character 9 LF)
unfolding own coded special low bit
takes-feed w e = subst⁻¹ (λ (n : ℕ). FirstCode table n (one_character 9 LF)) e (takes-own 510 LF 9 tt ([], refl) refl (lit≤ tt) (lit≤ tt))

pub takes-pair : {first second : ℕ} (w : ℕ) → w ≡ 511 → first ≡ CR → second ≡ LF
    → FirstCode table w (record { width = 9; count = 2; first = first; second = second })
unfolding pair special low bit characters_of
takes-pair {first} {second} w e f s = record {
  entry = pair;
  legal = pair-in;
  begins = ([], ap (low 9) e);
  width = refl;
  says = ap₂ (λ (a b : ℕ). a ∷ b ∷ []) (sym f) (sym s);
  counts = refl;
  short = lit≤ tt;
  long = lit≤ tt;
  some = lit≤ tt;
  few = lit≤ tt;
}
