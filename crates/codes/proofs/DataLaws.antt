-- What holds of the data of a format, and that it holds of every compaction scheme whose writer has the laws.
-- Assumes nothing.
use mathlib.Core.Bool.{Bool}
use mathlib.Core.List.{List, []}
use mathlib.Core.Logic.{◌⊎◌, inl, inr}
use mathlib.Core.Path.{◌≡◌}
use Prim.Native.Nat.{ℕ, ◌<◌}
use lib.ListN.{length}
use Rattle.bits.specs.Row.{bits}
use Rattle.codes.specs.Chain.{Entry, Scheme, Builds, Stuck, Built, Malformed}
use Rattle.codes.specs.Coded.{CodedBelow}
use Rattle.codes.specs.Pack.{written}
use Rattle.codes.proofs.Fill.{no-fill}
use Rattle.codes.proofs.OneReading.{Answer, text, stuck, Means, answer, always, builds-end, one-text, one_place, never_both}
use Rattle.codes.proofs.SchemeLaws.{Laws}
use Rattle.codes.proofs.WriterLaws.{WriterLaws}

-- which texts data carries and at which bits it is malformed, which characters have codes, what a text comes back as, and what our writer makes of it
pub record DataLaws (Carried : List ℕ → List ℕ → Type 0) (Place : List ℕ → ℕ → Type 0) (has : List ℕ → ℕ → Bool) (given made : List ℕ → List ℕ) : Type 0 where
  -- one text or one place, never both and always one
  pub one-carried : (t u carried : List ℕ) → Carried t carried → Carried u carried → t ≡ u
  pub one-malformed : (i j : ℕ) (carried : List ℕ) → Place carried i → Place carried j → i ≡ j
  pub never-malformed : (t carried : List ℕ) (i : ℕ) → Carried t carried → Place carried i → ⊥
  pub either : (carried : List ℕ) → ((t : List ℕ) × Carried t carried) ⊎ ((i : ℕ) × Place carried i)
  -- a text that is carried has codes, and comes back as it is; and a text has codes if what it comes back as is carried
  pub carried-coded : (t carried : List ℕ) → Carried t carried → CodedBelow has t (length t)
  pub carried-kept : (t carried : List ℕ) → Carried t carried → given t ≡ t
  pub back-coded : (t carried : List ℕ) → Carried (given t) carried → CodedBelow has t (length t)
  -- what our writer makes of a text that has codes carries what the text comes back as
  pub made-carries : (t : List ℕ) → CodedBelow has t (length t) → Carried (given t) (made t)
  -- some data, some text; no data, no text; and some text comes back as some
  pub carried_some : (t carried : List ℕ) → 0 < length carried → Carried t carried → 0 < length t
  pub carried_none : (t : List ℕ) → Carried t [] → t ≡ []
  pub given-some : (t : List ℕ) → 0 < length t → CodedBelow has t (length t) → 0 < length (given t)

-- what a computed reading means, as a text or a place
text-or-place : (scheme : Scheme) (bs : List ℕ) (a : Answer) → Means scheme 0 bs a
    → ((t : List ℕ) × Builds scheme 0 bs t) ⊎ ((i : ℕ) × Stuck scheme 0 bs i)
text-or-place scheme bs (text t codes) m = inl (t, m.0)
text-or-place scheme bs (stuck i codes) m = inr (i, m.0)

module _ {scheme : Scheme} (laws : Laws scheme) where
  pub scheme-either : (carried : List ℕ) → ((t : List ℕ) × Built scheme t carried) ⊎ ((i : ℕ) × Malformed scheme carried i)
  scheme-either carried = text-or-place scheme (bits carried) (answer scheme (length (bits carried)) 0 (bits carried)) (always laws 0 (bits carried))

  pub built-none : (t : List ℕ) → Built scheme t [] → t ≡ []
  unfolding bits
  built-none t b = one-text laws b (builds-end scheme (no-fill scheme.unused))

  pub scheme-data : {has : List ℕ → ℕ → Bool} {given : List ℕ → List ℕ} {ours : List ℕ → List Entry} → WriterLaws scheme has given ours
      → DataLaws (Built scheme) (Malformed scheme) has given (λ t. written (ours t))
  scheme-data w = record {
    one-carried = λ t u carried p q. one-text laws p q;
    one-malformed = λ i j carried p q. one_place laws p q;
    never-malformed = λ t carried i p q. never_both laws p q;
    either = scheme-either;
    carried-coded = w.built-coded;
    carried-kept = w.built-kept;
    back-coded = w.back-coded;
    made-carries = w.ours-built;
    carried_some = w.built-nonempty;
    carried_none = built-none;
    given-some = w.given-nonempty;
  }
