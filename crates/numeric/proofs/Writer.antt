-- What our writer builds is a building of what its text comes back as, and there is no other. Texts that can be read have codes, and are never empty.
-- Assumes nothing.
use mathlib.Core.Path.{◌≡◌, refl, sym, ap, ap₂, subst, subst⁻¹, ◌∙◌}
use mathlib.Core.Bool.{Bool, true, false, not, cond}
use mathlib.Core.Logic.{inl, ⊎_elim}
use mathlib.Core.List.{List, [], ◌∷◌, ◌++◌, append-nil, Memᴰ}
use Prim.Native.Nat.{ℕ, ◌-◌, ◌*◌, ◌/◌, ◌%◌, ◌≤◌, ◌<◌, zero-le}
use native.Mathlib.Omega.{arith}
use lib.Dec.{T, T_not, eqb, lit<}
use lib.ListN.{length, length-append, take, get_or}
use Rattle.bits.specs.Numbers.{numbers}
use Rattle.bits.specs.Row.{Bytes}
use Rattle.codes.specs.Chain as chain
use Rattle.codes.specs.Chain.{Entry, Row, codes, texts, bits_in, Malformed}
use Rattle.codes.specs.Coded.{last_of}
use Rattle.codes.specs.LineEnds.{each_after, ended, line_ends}
use Rattle.codes.specs.Lookup.{found, saying, meaning}
use Rattle.codes.specs.Pack.{gap, written}
use Rattle.bits.proofs.Said.{and_left}
use Rattle.codes.proofs.BitsInBytes.{written-built}
use Rattle.codes.proofs.WriterLaws.{written-entries}
use Rattle.codes.proofs.CodedBehind.{coded-after, after-coded}
use Rattle.codes.proofs.DataLaws.{DataLaws}
use Rattle.codes.proofs.EveryElement.{every, every-at}
use Rattle.codes.proofs.LineTables.{ended_some, line-pieces, line-whole, lines-kept}
use Rattle.codes.proofs.Lookup.{meant}
use Rattle.codes.proofs.OneBuilding.{same-data}
use Rattle.codes.proofs.OneReading.{one_place}
use Rattle.codes.proofs.PassedEntries.{codes-append, texts-append}
use Rattle.codes.proofs.Pieces.{AllIn, row-all, all_row, all_append}
use Rattle.codes.proofs.Pieces as pieces
use Rattle.numeric.specs.Table.{characters, table, scheme}
use Rattle.numeric.specs.Translation.{sent, itself, specials, translation, Apart, AllApart, Translates, translated}
use Rattle.numeric.specs.Data.{Built}
use Rattle.numeric.specs.Steps.Text.{spelled, text_of}
use Rattle.numeric.specs.Writer.{own, base_of, clashes, coded_behind, coded, AllCoded, evened, sent_for, ours, comes_back}
use Rattle.numeric.proofs.Table as four-bits
use Rattle.numeric.proofs.Translation.{mutes, itself-in}
use Rattle.numeric.proofs.Clashes.{lines, distinct, ends, coded-apart, apart-coded, start-clear}
use Rattle.numeric.proofs.Fours.{its_own, distinct-texts, own-pieces, four-each, fours-says, fours-in, two-each}
use Rattle.numeric.proofs.InFour.{evened-length, sent-base, ours-binary}
use Rattle.numeric.proofs.Data.{character-in, text-built, one-built, never-malformed}

-- Base characters sent for a text

unfoldable padding : ℕ → List Entry
padding n = cond (eqb (n % 2) 1) (itself 32 ∷ []) []

-- no sequence of Table 5 ends in a space
unfoldable spaced : Entry → Bool
spaced e = eqb (get_or e.code 1 0) 32

unspaced : T (every (λ (e : Entry). not (spaced e)) specials)
unfolding specials sent every spaced
unspaced = tt

space-in : Memᴰ 32 characters
unfolding characters numbers
space-in = character-in characters 10 (lit< tt)

space-apart : (c : ℕ) → meaning specials (c ∷ 32 ∷ []) ≡ []
unfolding spaced
space-apart c =
    ⊎_elim (λ n. n)
    (λ o. absurd (T_not (spaced o.0) (every-at (λ (e : Entry). not (spaced e)) specials unspaced o.0 o.1) (subst⁻¹ space o.2 tt)))
    (meant specials (c ∷ 32 ∷ []))
  where
    space : List ℕ → Type 0
    space u = T (eqb (get_or u 1 0) 32)

module _ (n : ℕ) where
  padding-in : AllIn translation (padding n)
  unfolding padding
  padding-in = pick (eqb (n % 2) 1)
    where
      pick : (odd : Bool) → AllIn translation (cond odd (itself 32 ∷ []) [])
      pick true = (itself-in 32 space-in, tt)
      pick false = tt

  padding-says : texts (padding n) ≡ evened n
  unfolding padding evened texts itself sent
  padding-says = pick (eqb (n % 2) 1)
    where
      pick : (odd : Bool) → texts (cond odd (itself 32 ∷ []) []) ≡ cond odd (32 ∷ []) []
      pick true = refl
      pick false = refl

  padding-codes : codes (padding n) ≡ evened n
  unfolding padding evened codes itself sent
  padding-codes = pick (eqb (n % 2) 1)
    where
      pick : (odd : Bool) → codes (cond odd (itself 32 ∷ []) []) ≡ cond odd (32 ∷ []) []
      pick true = refl
      pick false = refl

  padding-ready : (c : ℕ) → Apart (c ∷ []) (codes (padding n))
  unfolding padding codes itself sent
  padding-ready c = pick (eqb (n % 2) 1)
    where
      pick : (odd : Bool) → Apart (c ∷ []) (codes (cond odd (itself 32 ∷ []) []))
      pick true = space-apart c
      pick false = tt

  padding-apart : AllApart (padding n)
  unfolding padding codes itself sent
  padding-apart = pick (eqb (n % 2) 1)
    where
      pick : (odd : Bool) → AllApart (cond odd (itself 32 ∷ []) [])
      pick true = (tt, tt)
      pick false = tt

  -- where it is even already there is nothing
  evened-none : n % 2 ≡ 0 → evened n ≡ []
  unfolding evened
  evened-none x = ap (λ (k : ℕ). cond (eqb k 1) (32 ∷ []) []) x

own_in : (t : List ℕ) → AllIn translation (each_after own 0 t)
unfolding own
own_in t = pieces.pieces-in ended translation (line-pieces translation lines) distinct (line-whole translation lines ends) t 0

own-says : (t : List ℕ) → AllCoded t → texts (each_after own 0 t) ≡ line_ends t
unfolding own coded_behind line_ends
own-says t h =
    pieces.pieces-says ended translation (line-pieces translation lines) distinct (line-whole translation lines ends) t known 0
  where
    known : (i : ℕ) → i < length t → T (found (saying translation (ended 0 (get_or t i 0))))
    known i l =
        let before = last_of (take i t) in
        let c = get_or t i 0 in
        and_left (found (saying translation (ended 0 c))) (not (clashes before (codes (saying translation (ended before c))))) (h i l)

-- what our writer sends for a text that has codes
ours-translates : (t : List ℕ) → AllCoded t → Translates (sent_for t) (comes_back t)
unfolding sent_for comes_back base_of
ours-translates t h =
    let pad = padding (length (codes (each_after own 0 t))) in
    record {
      entries = each_after own 0 t ++ pad;
      row = all_row translation mutes 0 (each_after own 0 t ++ pad) (all_append translation (each_after own 0 t) pad (own_in t) (padding-in (length (codes (each_after own 0 t)))));
      apart = coded-apart pad (padding-ready (length (codes (each_after own 0 t)))) (padding-apart (length (codes (each_after own 0 t)))) t 0 (coded-after coded_behind t h);
      says = texts-append (each_after own 0 t) pad ∙ ap₂ (λ (x y : List ℕ). x ++ y) (own-says t h) (padding-says (length (codes (each_after own 0 t))));
      is = codes-append (each_after own 0 t) pad ∙ ap (λ (l : List ℕ). codes (each_after own 0 t) ++ l) (padding-codes (length (codes (each_after own 0 t))));
    }

-- and nothing else can be sent for it
one-sending : (base text : List ℕ) → Translates base text → base ≡ base_of text
unfolding base_of own
one-sending base text t =
    sym t.is
    ∙ ap codes (sym (pieces.pieces-back ended translation (line-pieces translation lines) distinct t.entries (row-all translation 0 0 0 t.entries t.row) 0))
    ∙ ap (λ (u : List ℕ). codes (each_after (λ b c. saying translation (ended b c)) 0 u)) t.says

-- Our data

sent-even : (t : List ℕ) → length (sent_for t) % 2 ≡ 0
unfolding sent_for
sent-even t = omega (arith, length-append (base_of t) (evened (length (base_of t))), evened-length (length (base_of t)))

ours-says : (t : List ℕ) → texts (ours t) ≡ sent_for t
unfolding ours
ours-says t = fours-says (sent_for t) (sent-base t)

ours-size : (t : List ℕ) → length (codes (ours t)) ≡ 4 * length (sent_for t)
unfolding ours
ours-size t = four-each (ours t) (fours-in (sent_for t)) ∙ ap (λ (u : List ℕ). 4 * length u) (ours-says t)

ours-row : (t : List ℕ) → Row scheme 0 (ours t) 0
unfolding ours
ours-row t = all_row table four-bits.mutes 0 (ours t) (fours-in (sent_for t))

even-closes : (n k : ℕ) → n ≡ 4 * k → k % 2 ≡ 0 → gap n ≤ 0
unfolding gap
even-closes n k x y =
    let eights : n ≡ 8 * (k / 2) = omega arith in
    let none : n % 8 ≡ 0 = omega (arith, eights) in
    subst⁻¹ (λ (r : ℕ). (8 - r) % 8 ≤ 0) none zero-le

ours-built : (t : List ℕ) → AllCoded t → Built (comes_back t) (written (ours t))
ours-built t h =
    record {
      base = sent_for t;
      translates = ours-translates t h;
      codes = subst (λ (u : List ℕ). chain.Built scheme u (written (ours t))) (ours-says t)
          (written-built (ours t) (even-closes (length (codes (ours t))) (length (sent_for t)) (ours-size t) (sent-even t)) (ours-row t)
          (ours-binary t));
    }

-- of these entries, and of no others
pub ours-entries : (t u : List ℕ) (b : Built u (written (ours t))) → b.codes.entries ≡ ours t
ours-entries t u b =
    written-entries four-bits.laws (ours t) (even-closes (length (codes (ours t))) (length (sent_for t)) (ours-size t) (sent-even t)) (ours-row t)
    (ours-binary t) b.codes

-- all data that carries one text has the same base characters
same_base : (text a b : List ℕ) (p : Built text a) (q : Built text b) → p.base ≡ q.base
same_base text a b p q = one-sending p.base text p.translates ∙ sym (one-sending q.base text q.translates)

-- four bits for each, before a fill that has none
base-bits : (text carried : List ℕ) (b : Built text carried) → bits_in b.codes ≡ 4 * length b.base
base-bits text carried b =
    let c = b.codes in
    four-each c.entries (row-all table 0 0 0 c.entries c.row) ∙ ap (λ (u : List ℕ). 4 * length u) c.says

-- and so as many bits before its fill
pub same_bits : (text a b : List ℕ) (p : Built text a) (q : Built text b) → bits_in p.codes ≡ bits_in q.codes
same_bits text a b p q = base-bits text a p ∙ ap (λ (u : List ℕ). 4 * length u) (same_base text a b p q) ∙ sym (base-bits text b q)

-- so there are no two buildings of a text
pub one-building : (text a b : List ℕ) → Bytes a → Bytes b → Built text a → Built text b → a ≡ b
one-building text a b h k p q =
    let c = p.codes in
    let d = q.codes in
    same-data (lit< tt) a b c d
    (pieces.one-row its_own table own-pieces distinct-texts c.entries d.entries (row-all table 0 0 0 c.entries c.row) (row-all table 0 0 0 d.entries d.row)
    (c.says ∙ same_base text a b p q ∙ sym d.says))
    h k

-- Texts that are carried

kept : (t carried : List ℕ) → Built t carried → comes_back t ≡ t
unfolding comes_back
kept t carried b =
    let s = b.translates in
    let ended_so : line_ends t ≡ t =
    subst (λ (u : List ℕ). line_ends u ≡ u) s.says (lines-kept translation lines s.entries (row-all translation 0 0 0 s.entries s.row)) in
    let even : length (base_of t) % 2 ≡ 0 = omega (arith, two-each b.base carried b.codes, ap length (one-sending b.base t s)) in
    ap₂ (λ (x y : List ℕ). x ++ y) ended_so (evened-none (length (base_of t)) even) ∙ append-nil t

back-coded : (t carried : List ℕ) → Built (comes_back t) carried → AllCoded t
unfolding comes_back line_ends own
back-coded t carried b =
    let s = b.translates in
    let f = pieces.pieces-front ended translation (line-pieces translation lines) distinct (line-whole translation lines ends) t s.entries
    (row-all translation 0 0 0 s.entries s.row) 0 (evened (length (base_of t))) s.says in
    after-coded coded_behind t
    (apart-coded f.others t 0 f.coded (subst AllApart f.is s.apart) (start-clear (codes (each_after own 0 t ++ f.others))))

built-coded : (t carried : List ℕ) → Built t carried → AllCoded t
built-coded t carried b = back-coded t carried (subst⁻¹ (λ (u : List ℕ). Built u carried) (kept t carried b) b)

built-some : (t carried : List ℕ) → 0 < length carried → Built t carried → 0 < length t
unfolding base_of each_after codes
built-some [] carried some b =
    absurd (let no : ⊥ = omega (arith, some, two-each b.base carried b.codes, ap length (one-sending b.base [] b.translates)) in no)
built-some (c ∷ t) carried some b = omega arith

built-none : (t : List ℕ) → Built t [] → t ≡ []
unfolding text_of translated spelled
built-none t b = one-built t [] [] b (text-built [])

given-some : (t : List ℕ) → 0 < length t → AllCoded t → 0 < length (comes_back t)
unfolding comes_back
given-some t some h = omega (arith, ended_some t some, length-append (line_ends t) (evened (length (base_of t))))

pub data-laws : DataLaws Built (Malformed scheme) coded comes_back (λ t. written (ours t))
data-laws = record {
  one-carried = one-built;
  one-malformed = λ i j carried p q. one_place four-bits.laws p q;
  never-malformed = λ t carried i p q. never-malformed carried i q;
  either = λ carried. inl (text_of carried, text-built carried);
  carried-coded = built-coded;
  carried-kept = kept;
  back-coded = back-coded;
  made-carries = ours-built;
  carried_some = built-some;
  carried_none = built-none;
  given-some = given-some;
}
