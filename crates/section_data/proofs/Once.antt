-- The promise of each function leaves one answer, and one content of the buffer.
-- Assumes nothing.
use mathlib.Core.List.{List}
use mathlib.Core.Path.{◌≡◌, sym, subst}
use Prim.Native.Nat.{ℕ, ◌≤◌}
use lib.ListN.{length}
use Rattle.header.specs.declared.Format.{Format}
use Rattle.codes.specs.Steps.Measure.{Outcome, TakesApart}
use Rattle.formats.specs.Data.{CarriesIn, UnreadableAfter}
use Rattle.formats.specs.Steps.Text.{PutsText}
use Rattle.formats.proofs.Once as once
use Rattle.sections.specs.Sections.{sent_length, joined}
use Rattle.sections.proofs.Found.{joined_length}

module _ (format : Format) (n : ℕ) (came : List ℕ) (whole : sent_length n ≤ length came) where
  abbrev Comes : ℕ → Outcome → Type 0
  Comes = TakesApart (CarriesIn format (joined n came)) (UnreadableAfter format (joined n came))

  pub take-apart-once : (a b : Outcome) → Comes n a → Comes n b → a ≡ b
  take-apart-once a b p q =
      let long = sym (joined_length n came whole) in
      once.take-apart-once format (joined n came) a b (subst (λ (m : ℕ). Comes m a) long p) (subst (λ (m : ℕ). Comes m b) long q)

  pub put-text-once : (entry x y : List ℕ) (r q : ℕ) → PutsText format (joined n came) entry x r → PutsText format (joined n came) entry y q → (x ≡ y) × (r ≡ q)
  put-text-once = once.put-text-once format (joined n came)
