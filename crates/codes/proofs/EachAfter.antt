-- Characters that are told by the one before them: the last of a row; what each character gives, in a row; a number for each, and their sum.
-- Assumes nothing.
use mathlib.Core.Path.{◌≡◌, refl, sym, ap, ap₂, ◌∙◌}
use mathlib.Core.Bool.{Bool}
use mathlib.Core.List.{List, [], ◌∷◌, ◌++◌, append_assoc}
use Prim.Native.Nat.{ℕ, suc, ◌+◌, ◌-◌, ◌≤◌, ◌<◌}
use native.Mathlib.Numerals.{add-one}
use native.Mathlib.Omega.{arith}
use lib.Dec.{T}
use lib.ListN.{length, take, drop, get_or, length-append, drop_of_length-le}
use lib.Seq.{take-suc, drop-cons}
use Rattle.codes.specs.Chain.{Entry, codes}
use Rattle.codes.specs.Coded.{last_of}
use Rattle.codes.specs.LineEnds.{each_after}
use Rattle.codes.specs.Steps.Summed.{sum_after, SumUpTo}
use Rattle.codes.proofs.EveryElement.{every, every_append}
use Rattle.codes.proofs.PassedEntries.{codes-append}

-- ---- the last of a row

pub last-append : (row : List ℕ) (c : ℕ) → last_of (row ++ (c ∷ [])) ≡ c
unfolding last_of
last-append [] c = refl
last-append (b ∷ []) c = refl
last-append (b ∷ d ∷ row) c = last-append (d ∷ row) c

-- the character right before a place
pub last_taken : (text : List ℕ) (i : ℕ) → 1 ≤ i → i ≤ length text → last_of (take i text) ≡ get_or text (i - 1) 0
last_taken text i some within =
    ap (λ (k : ℕ). last_of (take k text)) (let e : i ≡ suc (i - 1) = omega arith in e)
    ∙ ap last_of (take-suc text (i - 1) 0 (omega arith))
    ∙ last-append (take (i - 1) text) (get_or text (i - 1) 0)

-- ---- what each character gives

-- where it does not depend on the one before
module _ {A : Type 0} (gives : ℕ → List A) where
  pub each-alone : (b d : ℕ) (text : List ℕ) → each_after (λ before c. gives c) b text ≡ each_after (λ before c. gives c) d text
  unfolding each_after
  each-alone b d [] = refl
  each-alone b d (c ∷ text) = refl

  pub each_append : (b : ℕ) (s t : List ℕ)
      → each_after (λ before c. gives c) b (s ++ t) ≡ each_after (λ before c. gives c) b s ++ each_after (λ before c. gives c) b t
  unfolding each_after
  each_append b [] t = refl
  each_append b (c ∷ s) t =
      ap (λ (l : List A). gives c ++ l)
      (each_append c s t ∙ ap (λ (l : List A). each_after (λ before x. gives x) c s ++ l) (each-alone c b t))
      ∙ sym (append_assoc (gives c) (each_after (λ before x. gives x) c s) (each_after (λ before x. gives x) b t))

-- a test of all that can be given
pub each-every : {A : Type 0} (f : A → Bool) (gives : ℕ → ℕ → List A) → ((b c : ℕ) → T (every f (gives b c)))
    → (b : ℕ) (text : List ℕ) → T (every f (each_after gives b text))
unfolding each_after every
each-every f gives all b [] = tt
each-every f gives all b (c ∷ text) = every_append f (gives b c) (each_after gives c text) (all b c) (each-every f gives all c text)

-- entries for each character
module _ (gives : ℕ → ℕ → List Entry) where
  pub each_codes : (b c : ℕ) (text : List ℕ) → codes (each_after gives b (c ∷ text)) ≡ codes (gives b c) ++ codes (each_after gives c text)
  unfolding each_after
  each_codes b c text = codes-append (gives b c) (each_after gives c text)

  -- the codes of a text from a place on: those of its character and of the rest, and none at the end
  pub each_next : (text : List ℕ) (i : ℕ) → i < length text
      → codes (each_after gives (last_of (take i text)) (drop i text))
      ≡ codes (gives (last_of (take i text)) (get_or text i 0)) ++ codes (each_after gives (last_of (take (i + 1) text)) (drop (i + 1) text))
  each_next text i h =
      let before : ℕ = last_of (take i text) in
      let c : ℕ = get_or text i 0 in
      let behind : c ≡ last_of (take (i + 1) text) =
      sym (ap (λ (k : ℕ). last_of (take k text)) (add-one i) ∙ ap last_of (take-suc text i 0 h) ∙ last-append (take i text) c) in
      ap (λ (l : List ℕ). codes (each_after gives before l)) (drop-cons text i 0 h)
      ∙ each_codes before c (drop (suc i) text)
      ∙ ap₂ (λ (b k : ℕ). codes (gives before c) ++ codes (each_after gives b (drop k text))) behind (sym (add-one i))

  pub each-end : (text : List ℕ) (i : ℕ) → length text ≤ i → codes (each_after gives (last_of (take i text)) (drop i text)) ≡ []
  unfolding each_after codes
  each-end text i h = ap (λ (l : List ℕ). codes (each_after gives (last_of (take i text)) l)) (drop_of_length-le text h)

  pub each-length : (b : ℕ) (text : List ℕ) → length (codes (each_after gives b text)) ≡ sum_after (λ before c. length (codes (gives before c))) b text
  unfolding each_after codes sum_after
  each-length b [] = refl
  each-length b (c ∷ text) =
      omega (arith, ap length (each_codes b c text), length-append (codes (gives b c)) (codes (each_after gives c text)), each-length c text)

-- ---- a number for each character

module _ (number : ℕ → ℕ → ℕ) (text : List ℕ) where
  -- at a place of the text, and at its end
  pub sum-next : (before i : ℕ) → i < length text
      → sum_after number before (drop i text) ≡ number before (get_or text i 0) + sum_after number (get_or text i 0) (drop (i + 1) text)
  unfolding sum_after
  sum-next before i h =
      ap (sum_after number before) (drop-cons text i 0 h)
      ∙ ap (λ (k : ℕ). number before (get_or text i 0) + sum_after number (get_or text i 0) (drop k text)) (sym (add-one i))

  pub sum-end : (before i : ℕ) → length text ≤ i → sum_after number before (drop i text) ≡ 0
  unfolding sum_after
  sum-end before i h = ap (sum_after number before) (drop_of_length-le text h)

  -- a character more
  pub sum_more : (from i n k : ℕ) → 1 ≤ i → i < length text → SumUpTo number text from i n → k ≡ number (get_or text (i - 1) 0) (get_or text i 0)
      → SumUpTo number text from (i + 1) (n + k)
  sum_more from i n k o h b e =
      let here : i + 1 - 1 ≡ i = omega arith in
      omega (arith, b, e, sum-next (get_or text (i - 1) 0) i h, ap (λ (j : ℕ). sum_after number (get_or text j 0) (drop (i + 1) text)) here)
