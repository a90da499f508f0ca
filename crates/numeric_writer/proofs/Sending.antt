-- What goes for a text as the writer sends it: for a character, for the next ones, and the space at the end.
-- Assumes nothing.
use mathlib.Core.Path.{◌≡◌, refl, sym, ap, subst, subst⁻¹, subst₂, ◌∙◌}
use mathlib.Core.Bool.{Bool, true, false, cond, not, ◌&&◌, ◌||◌, and-false}
use mathlib.Core.List.{List, []}
use Prim.Native.Nat.{ℕ, zero, suc, ◌+◌, ◌*◌, ◌/◌, ◌%◌, ◌^◌, ◌≤◌, ◌<◌}
use native.Mathlib.Omega.{arith}
use lib.Dec.{T, leb, ltb, eqb, leb→le, le→leb, ltb→lt, lit≤, lit<}
use lib.ListN.{length}
use borrow.Author.Tests.{ne_eqb}
use Rattle.bits.specs.First.{first}
use Rattle.bits.specs.Numbers.{numbers}
use Rattle.bits.specs.Word.{bit}
use Rattle.codes.specs.Chain.{Entry, codes}
use Rattle.codes.specs.Consecutive.{code_for, consecutive}
use Rattle.codes.specs.LineEnds.{each_after, ended}
use Rattle.codes.specs.Lookup.{same, found, saying}
use Rattle.codes.specs.Pack.{low, gap}
use Rattle.codes.specs.Steps.Sending.{Sends, SendsBits}
use Rattle.codes.specs.declared.Held.{Held}
use Rattle.bits.proofs.Said.{and_left, and_right, and_both}
use Rattle.codes.proofs.ByteTests.{implied-below}
use Rattle.codes.proofs.EveryElement.{every}
use Rattle.codes.proofs.Lookup.{same-is}
use Rattle.codes.proofs.LastBytes.{gap-none}
use Rattle.codes.proofs.PutSoFar.{sends-bits}
use Rattle.numeric.specs.Table.{characters, table}
use Rattle.numeric.specs.Translation.{sent, itself, specials, translation}
use Rattle.numeric.specs.Writer.{own, base_of, ours}
use Rattle.numeric.specs.Steps.InFour.{in_four, bits_for, bits_from}
use Rattle.numeric.proofs.InFour.{ours-length, pad-length, pad-odd, pad-even, bits-end}
use Rattle.numeric_writer.specs.Steps.Sending.{stands, OwnOf, Packed}
use Rattle.numeric_writer.proofs.Counting.{own-nothing, own_same}
use Rattle.numeric_writer.proofs.Tests.{colon_codes}

-- ---- what goes for one character

-- what goes for a character that is no line end, as the code picks it: how many bits, and in the lowest eight the codes
abbrev is_base : ℕ → Bool
is_base c = eqb c 32 || (leb 43 c && leb c 57)

abbrev picked_base : ℕ → ℕ
picked_base c = cond (eqb c 32) 0x40A (0x400 + c % 16)

abbrev picked_other : ℕ → ℕ
picked_other c = cond (eqb c 61) 0x8DB (cond (eqb c 58) colon_codes (cond (eqb c 35) 0x8BD 0x8DD))

abbrev goes : ℕ → ℕ → Bool
goes c packed = same (bits_for 0 c) (low (packed / 256) (packed % 256)) && (ltb (packed % 256) (2 ^ (packed / 256)) && leb (packed / 256) 8)

abbrev plain : ℕ → Bool
plain c = stands c && leb 32 c

all-base : T (every (λ (c : ℕ). not (plain c && is_base c) || goes c (picked_base c)) (numbers 0 256))
unfolding bits_for in_four own each_after translation itself specials sent table consecutive code_for characters numbers ended found saying same codes low bit first
    every
all-base = tt

all_others : T (every (λ (c : ℕ). not (plain c && not (is_base c)) || goes c (picked_other c)) (numbers 0 256))
unfolding bits_for in_four own each_after translation itself specials sent table consecutive code_for characters numbers ended found saying same codes low bit first
    every
all_others = tt

own-goes : (c packed : ℕ) → T (goes c packed) → Packed c packed
own-goes c packed t =
    let bits : Bool = same (bits_for 0 c) (low (packed / 256) (packed % 256)) in
    let small : Bool = ltb (packed % 256) (2 ^ (packed / 256)) in
    let few : Bool = leb (packed / 256) 8 in
    let sizes : T (small && few) = and_right bits (small && few) t in
    record {
      same = same-is (bits_for 0 c) (low (packed / 256) (packed % 256)) (and_left bits (small && few) t);
      fits = ltb→lt (packed % 256) (2 ^ (packed / 256)) (and_left small few sizes);
      long = leb→le (packed / 256) 8 (and_right small few sizes);
    }

module _ (c : ℕ) (h : c < 256) (s : T (stands c) × (32 ≤ c)) where
  plain-told : T (plain c)
  plain-told = and_both (stands c) (leb 32 c) s.0 (le→leb 32 c s.1)

  pub base_goes : {packed : ℕ} → is_base c ≡ true → packed ≡ cond (eqb c 32) 0x40A (0x400 + c % 16) → Packed c packed
  base_goes b e =
      subst⁻¹ (Packed c) e
      (own-goes c (picked_base c)
      (implied-below 256 (λ (x : ℕ). plain x && is_base x) (λ (x : ℕ). goes x (picked_base x)) all-base c h
      (and_both (plain c) (is_base c) plain-told (subst⁻¹ T b tt))))

  pub others-go : {hash colon packed : ℕ} → is_base c ≡ false → hash ≡ cond (eqb c 35) 0x8BD 0x8DD → colon ≡ cond (eqb c 58) colon_codes hash
      → packed ≡ cond (eqb c 61) 0x8DB colon → Packed c packed
  others-go b e₁ e₂ e₃ =
      let or : ℕ → ℕ → ℕ → ℕ = λ character code. cond (eqb c character) code in
      subst⁻¹ (Packed c) (e₃ ∙ ap (or 61 0x8DB) (e₂ ∙ ap (or 58 colon_codes) e₁))
      (own-goes c (picked_other c)
      (implied-below 256 (λ (x : ℕ). plain x && not (is_base x)) (λ (x : ℕ). goes x (picked_other x)) all_others c h
      (and_both (plain c) (not (is_base c)) plain-told (subst⁻¹ (λ (x : Bool). T (not x)) b tt))))

-- ---- after another character

pub own-none : (before c : ℕ) {bits width : ℕ} → (eqb before 13 && eqb c 10) ≡ true → bits ≡ 0 → width ≡ 0
    → OwnOf before c (record { bits = bits; width = width; count = 1 })
unfolding bits_for in_four each_after codes low
own-none before c e x y =
    subst₂ (λ (bits width : ℕ). OwnOf before c (record { bits = bits; width = width; count = 1 })) (sym x) (sym y)
    (record { same = ap (λ (es : List Entry). in_four (codes es)) (own-nothing before c e); fits = lit< tt; long = lit≤ tt; count = refl })

abbrev pair : ℕ → Bool
pair c = same (bits_for 0 c) (low 8 0xBB)

all-pairs : T (every (λ (c : ℕ). not (stands c) || pair c) (numbers 0 32))
unfolding bits_for in_four own each_after translation itself specials sent table consecutive code_for characters numbers ended found saying same codes low bit first
    every
all-pairs = tt

pub own_pair : (before c : ℕ) {bits width : ℕ} → T (stands c) × (c < 32) → (eqb before 13 && eqb c 10) ≡ false → bits ≡ 0xBB → width ≡ 8
    → OwnOf before c (record { bits = bits; width = width; count = 1 })
unfolding bits_for
own_pair before c s e x y =
    subst₂ (λ (bits width : ℕ). OwnOf before c (record { bits = bits; width = width; count = 1 })) (sym x) (sym y)
    (record {
      same = ap (λ (es : List Entry). in_four (codes es)) (own_same before c e)
          ∙ same-is (bits_for 0 c) (low 8 0xBB) (implied-below 32 stands pair all-pairs c s.1 s.0);
      fits = lit< tt;
      long = lit≤ tt;
      count = refl;
    })

pub own-some : (before c packed : ℕ) {bits width : ℕ} → 32 ≤ c → Packed c packed → bits ≡ packed % 256 → width ≡ packed / 256
    → OwnOf before c (record { bits = bits; width = width; count = 1 })
unfolding bits_for
own-some before c packed h o x y =
    let no-feed : (eqb before 13 && eqb c 10) ≡ false =
    ap (λ (b : Bool). eqb before 13 && b) (ne_eqb c 10 (λ e. omega arith)) ∙ and-false (eqb before 13) in
    subst₂ (λ (bits width : ℕ). OwnOf before c (record { bits = bits; width = width; count = 1 })) (sym x) (sym y)
    (record {
      same = ap (λ (es : List Entry). in_four (codes es)) (own_same before c no-feed) ∙ o.same;
      fits = o.fits;
      long = o.long;
      count = refl;
    })

-- ---- the space at the end

odd : (have m : ℕ) → (have + 4 * m) % 8 ≡ 0 → m < 2 → have % 8 ≡ 4 → m ≡ 1
odd have zero w l h = absurd (let no' : ⊥ = omega arith in no')
odd have (suc zero) w l h = refl
odd have (suc (suc m)) w l h = absurd (let no' : ⊥ = omega arith in no')

even : (have m : ℕ) → (have + 4 * m) % 8 ≡ 0 → m < 2 → (have % 8 ≡ 4 → ⊥) → m ≡ 0
even have zero w l h = refl
even have (suc zero) w l h = absurd (h (let four : have % 8 ≡ 4 = omega arith in four))
even have (suc (suc m)) w l h = absurd (let no' : ⊥ = omega arith in no')

-- with what is held and the fill it makes whole bytes, and there is no fill
module _ (t : List ℕ) (have : ℕ) (whole : (have + length (bits_from t (length t)) + gap (length (codes (ours t)))) % 8 ≡ 0) where
  abbrev size : ℕ
  size = length (base_of t)

  pub end-length : length (bits_from t (length t)) ≡ 4 * (size % 2)
  end-length = ap length (bits-end t (length t) (omega arith)) ∙ pad-length size

  halves : (have + 4 * (size % 2)) % 8 ≡ 0
  halves =
      let bytes : length (codes (ours t)) ≡ 8 * ((size + 1) / 2) = omega (arith, ours-length t) in
      omega (arith, whole, end-length, gap-none (length (codes (ours t))) ((size + 1) / 2) bytes)

  pub end-space : have % 8 ≡ 4 → bits_from t (length t) ≡ low 4 10
  end-space h = bits-end t (length t) (omega arith) ∙ pad-odd size (odd have (size % 2) halves (omega arith) h)

  pub end-nothing : (have % 8 ≡ 4 → ⊥) → bits_from t (length t) ≡ []
  end-nothing h = bits-end t (length t) (omega arith) ∙ pad-even size (even have (size % 2) halves (omega arith) h)

-- the space sent
pub space-sent : (out exit : List ℕ) (b r : Held) {row : List ℕ} {width number : ℕ} → b.have < 32 → row ≡ low 4 10 → Sends out exit b width number r → width ≡ 4
    → number ≡ 10 → SendsBits out exit b row r
space-sent out exit b r h e s x y =
    subst (λ (l : List ℕ). SendsBits out exit b l r) (sym e)
    (sends-bits out exit b 4 10 r h (lit≤ tt) (subst₂ (λ (w n : ℕ). Sends out exit b w n r) x y s))
