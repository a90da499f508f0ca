-- What the writer answers to some text in a format of ours, by what its data came to.
-- Assumes nothing.
use Rattle.std.specs.Prelude.{Ok, Err, IsErrAnd}
use mathlib.Core.Bool.{Bool}
use mathlib.Core.List.{List}
use mathlib.Core.Path.{◌≡◌, refl, subst⁻¹}
use Prim.Native.Nat.{ℕ, ◌<◌}
use lib.ListN.{length}
use Rattle.header.specs.declared.Format.{Format}
use Rattle.header.specs.Formats.{format_number}
use Rattle.codes.specs.declared.Unfit.{Unfit}
use Rattle.codes.specs.declared.Unfit.TheVariants.{NoCode, TooMany}
use Rattle.codes.specs.Steps.Size.{Needed, Needs}
use Rattle.refusals.specs.declared.WriteRefusal.{WriteRefusal}
use Rattle.refusals.specs.Steps.Passed.{unfit_as}
use Rattle.terms.specs.declared.Terms.{Terms}
use Rattle.formats.specs.Data.{coded, data_of}
use Rattle.writer.specs.Writer.{WriteAnswer, WriteRefuses, Writes}
use Rattle.writer.proofs.WriteStages.{clear-nine, clear-eleven}

-- what the text needs
abbrev pub NeedsIn : ℕ → Format → List ℕ → Needed → Type 0
NeedsIn most format text = Needs most (coded format) text (data_of format text)

module _ (terms : Terms) (number : ℕ) (sync : Bool) (text entry : List ℕ) (format : Format) (is : format_number format ≡ number) (some : 0 < length text) where
  -- as `?` hands it on
  pub refused-data : (unfit : Unfit) → NeedsIn terms.most format text (Err unfit) → (answer : WriteAnswer)
      → IsErrAnd answer (λ (r : WriteRefusal). r ≡ unfit_as unfit) → Writes terms number sync text entry answer entry
  refused-data unfit p (Ok n) none = absurd none
  refused-data unfit p (Err r) same = (subst⁻¹ (WriteRefuses terms number text (length entry)) same (refuses unfit p), refl)
    where
      refuses : (unfit : Unfit) → NeedsIn terms.most format text (Err unfit) → WriteRefuses terms number text (length entry) (unfit_as unfit)
      refuses (NoCode i) p = record { fault = (format, is, p); first = clear-nine terms number text (length entry) format is some }
      refuses TooMany p = record { fault = (format, is, p.1); first = clear-eleven terms number text (length entry) format is some p.0 }
