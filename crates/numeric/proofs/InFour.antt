-- What our writer builds of a text, in bits: character by character, and how many.
-- Assumes nothing.
use mathlib.Core.Path.{◌≡◌, refl, sym, ap, ◌∙◌}
use mathlib.Core.Bool.{Bool, true, false, cond}
use mathlib.Core.List.{List, [], ◌∷◌, ◌++◌, append_assoc}
use Prim.Native.Nat.{ℕ, ◌+◌, ◌*◌, ◌/◌, ◌%◌, ◌≤◌, ◌<◌}
use native.Mathlib.Omega.{arith}
use lib.Dec.{T, eqb}
use lib.ListN.{length, take, drop, get_or, length-append}
use borrow.Author.Tests.{eqb-true, eqb-false, eq-eqb, ne_eqb}
use Rattle.bits.specs.First.{first}
use Rattle.bits.specs.Numbers.{numbers}
use Rattle.bits.specs.Word.{bit}
use Rattle.codes.specs.Chain.{Entry, codes}
use Rattle.codes.specs.Coded.{last_of}
use Rattle.codes.specs.Consecutive.{code_for, consecutive}
use Rattle.codes.specs.LineEnds.{each_after, ended}
use Rattle.codes.specs.Lookup.{same, found, saying}
use Rattle.codes.specs.Pack.{Binary, low, written}
use Rattle.codes.proofs.BitsInBytes.{binary, length-written}
use Rattle.codes.proofs.EachAfter.{each_append, each-every, each_next, each-end}
use Rattle.codes.proofs.EveryElement.{every, every_append}
use Rattle.codes.proofs.FoundEntries.{wide, saying-every, codes-every, codes-binary, codes-width, each-found}
use Rattle.codes.proofs.PassedEntries.{codes-append}
use Rattle.numeric.specs.Table.{characters, table}
use Rattle.numeric.specs.Translation.{sent, itself, specials, translation}
use Rattle.numeric.specs.Writer.{own, base_of, evened, sent_for, ours}
use Rattle.numeric.specs.Steps.InFour.{in_four, bits_for, bits_from}

-- ---- base characters in four bits

pub in-four-append : (a b : List ℕ) → in_four (a ++ b) ≡ in_four a ++ in_four b
unfolding in_four
in-four-append a b =
    ap codes (each_append (λ (c : ℕ). saying table (c ∷ [])) 0 a b)
    ∙ codes-append (each_after (λ before c. saying table (c ∷ [])) 0 a) (each_after (λ before c. saying table (c ∷ [])) 0 b)

-- a base character
unfoldable pub is_base : ℕ → Bool
is_base c = found (saying table (c ∷ []))

in-four-length : (base : List ℕ) → T (every is_base base) → length (in_four base) ≡ 4 * length base
unfolding in_four is_base table consecutive code_for characters numbers low bit wide every
in-four-length base t =
    codes-width 4 (each_after (λ before c. saying table (c ∷ [])) 0 base)
    (each-every (wide 4) (λ before c. saying table (c ∷ [])) (λ b c. saying-every (wide 4) table tt (c ∷ [])) 0 base)
    ∙ ap (λ (n : ℕ). 4 * n) (each-found table 0 base t)

-- what goes for a text are base characters
base-of-base : (text : List ℕ) → T (every is_base (base_of text))
unfolding base_of own is_base translation itself specials sent table consecutive code_for characters numbers saying same found every first
base-of-base text =
    codes-every is_base (each_after own 0 text)
    (each-every (λ (e : Entry). every is_base e.code) own
    (λ b c. saying-every (λ (e : Entry). every is_base e.code) translation tt (ended b c)) 0 text)

evened-base : (n : ℕ) → T (every is_base (evened n))
unfolding evened is_base table consecutive code_for characters numbers saying same found every first
evened-base n = pick (eqb (n % 2) 1)
  where
    pick : (b : Bool) → T (every is_base (cond b (32 ∷ []) []))
    pick true = tt
    pick false = tt

pub evened-length : (n : ℕ) → length (evened n) ≡ n % 2
unfolding evened
evened-length n = pick (eqb (n % 2) 1) refl
  where
    pick : (b : Bool) → eqb (n % 2) 1 ≡ b → length {A = ℕ} (cond b (32 ∷ []) []) ≡ n % 2
    pick true e = sym (eqb-true (n % 2) 1 e)
    pick false e =
        let no' : n % 2 ≡ 1 → ⊥ = eqb-false (n % 2) 1 e in
        let none : 0 ≡ n % 2 = omega arith in none

pub sent-base : (text : List ℕ) → T (every is_base (sent_for text))
unfolding sent_for
sent-base text = every_append is_base (base_of text) (evened (length (base_of text))) (base-of-base text) (evened-base (length (base_of text)))

-- the space's four bits where the number is odd
pub pad-length : (n : ℕ) → length (in_four (evened n)) ≡ 4 * (n % 2)
pad-length n = in-four-length (evened n) (evened-base n) ∙ ap (λ (k : ℕ). 4 * k) (evened-length n)

pub pad-odd : (n : ℕ) → n % 2 ≡ 1 → in_four (evened n) ≡ low 4 10
unfolding in_four evened each_after table consecutive code_for characters numbers saying same codes low bit first
pad-odd n h = ap (λ (b : Bool). in_four (cond b (32 ∷ []) [])) (eq-eqb (n % 2) 1 h)

pub pad-even : (n : ℕ) → n % 2 ≡ 0 → in_four (evened n) ≡ []
unfolding in_four evened each_after codes
pad-even n h = ap (λ (b : Bool). in_four (cond b (32 ∷ []) [])) (ne_eqb (n % 2) 1 (λ e. let no' : ⊥ = omega arith in no'))

-- ---- what our writer builds

module _ (text : List ℕ) where
  pub ours-binary : Binary (codes (ours text))
  unfolding ours table consecutive code_for characters numbers low bit binary every
  ours-binary =
      codes-binary (ours text) (each-every binary (λ before c. saying table (c ∷ [])) (λ b c. saying-every binary table tt (c ∷ [])) 0 (sent_for text))

  pub ours-bits : codes (ours text) ≡ bits_from text 0
  unfolding ours sent_for base_of bits_from in_four last_of
  ours-bits = in-four-append (base_of text) (evened (length (base_of text)))

  pub ours-length : length (codes (ours text)) ≡ 4 * (length (base_of text) + length (base_of text) % 2)
  unfolding ours sent_for in_four
  ours-length =
      in-four-length (sent_for text) (sent-base text)
      ∙ ap (λ (n : ℕ). 4 * n)
      (length-append (base_of text) (evened (length (base_of text))) ∙ ap (λ (n : ℕ). length (base_of text) + n) (evened-length (length (base_of text))))

  pub data-length : length (written (ours text)) ≡ (length (base_of text) + 1) / 2
  data-length =
      let pairs : length (base_of text) + length (base_of text) % 2 ≡ 2 * ((length (base_of text) + 1) / 2) = omega arith in
      omega (arith, length-written (ours text), ours-length)

  -- the bits of the text's characters, one by one, and the end
  pub bits-next : (i : ℕ) → i < length text → bits_from text i ≡ bits_for (last_of (take i text)) (get_or text i 0) ++ bits_from text (i + 1)
  unfolding bits_from bits_for
  bits-next i h =
      let here : List ℕ = codes (own (last_of (take i text)) (get_or text i 0)) in
      let later : List ℕ = codes (each_after own (last_of (take (i + 1) text)) (drop (i + 1) text)) in
      let pad : List ℕ = in_four (evened (length (base_of text))) in
      ap (λ (l : List ℕ). in_four l ++ pad) (each_next own text i h)
      ∙ ap (λ (l : List ℕ). l ++ pad) (in-four-append here later)
      ∙ append_assoc (in_four here) (in_four later) pad

  pub bits-end : (i : ℕ) → length text ≤ i → bits_from text i ≡ in_four (evened (length (base_of text)))
  unfolding bits_from in_four each_after codes
  bits-end i h = ap (λ (l : List ℕ). in_four l ++ in_four (evened (length (base_of text)))) (each-end own text i h)
