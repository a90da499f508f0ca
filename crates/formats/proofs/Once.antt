-- The promise of each function leaves one answer, and one content of the buffer.
-- Assumes nothing.
use mathlib.Core.List.{List}
use mathlib.Core.Path.{◌≡◌, subst}
use Prim.Native.Nat.{ℕ}
use lib.ListN.{length}
use Rattle.header.specs.declared.Format.{Format}
use Rattle.codes.specs.Steps.Laid.{Fronted}
use Rattle.codes.specs.Steps.Measure.{Outcome, TakesApart}
use Rattle.codes.specs.Steps.Size.{Needed, FindsUncoded, Needs}
use Rattle.std.specs.Prelude.{Option}
use Rattle.codes.proofs.OneAnswer.{one-coming, one-search, one-need, one-front}
use Rattle.formats.specs.Data.{CarriesIn, UnreadableAfter, coded, data_of}
use Rattle.formats.specs.Steps.Text.{PutsText}
use Rattle.formats.proofs.Codes.{carries-in-one, unreadable-after-one}
use Rattle.formats.proofs.Formats.{carries-one, never-unreadable}

module _ (format : Format) (text : List ℕ) where
  pub first-uncoded-once : (a b : Option ℕ) → FindsUncoded (coded format) text a → FindsUncoded (coded format) text b → a ≡ b
  first-uncoded-once = one-search (coded format) text

  module _ (most : ℕ) where
    pub data-length-once : (a b : Needed) → Needs most (coded format) text (data_of format text) a → Needs most (coded format) text (data_of format text) b → a ≡ b
    data-length-once = one-need (coded format) text most (data_of format text)

  pub put-data-once : (entry x y : List ℕ) (r q : ℕ) → Fronted (data_of format text) entry x r → Fronted (data_of format text) entry y q → (x ≡ y) × (r ≡ q)
  put-data-once entry x y r q h k = one-front h k

module _ (format : Format) (carried : List ℕ) where
  pub take-apart-once : (a b : Outcome) → TakesApart (CarriesIn format carried) (UnreadableAfter format carried) (length carried) a
      → TakesApart (CarriesIn format carried) (UnreadableAfter format carried) (length carried) b → a ≡ b
  take-apart-once =
      one-coming (CarriesIn format carried) (UnreadableAfter format carried) (λ t u k l p q. carries-in-one format t u carried p q)
      (λ i j k l p q. unreadable-after-one format i j carried p q) (λ t i k l p q. never-unreadable format t carried i p.0 q.0) (length carried)

  pub put-text-once : (entry x y : List ℕ) (r q : ℕ) → PutsText format carried entry x r → PutsText format carried entry y q → (x ≡ y) × (r ≡ q)
  put-text-once entry x y r q h k =
      one-front
      (subst (λ (t : List ℕ). Fronted t entry x r) (carries-one format h.text k.text carried h.carries k.carries) h.front)
      k.front
