-- Data of Compact Numeric: all of it has a text, which its functions compute.
-- Assumes nothing.
use mathlib.Core.List.{List}
use mathlib.Core.Path.{◌≡◌, refl, subst, subst⁻¹}
use Prim.Native.Nat.{ℕ, ◌≤◌}
use lib.ListN.{length}
use Rattle.header.specs.declared.Format.{Format}
use Rattle.header.specs.declared.Format.TheVariants.{Numeric}
use Rattle.codes.specs.Steps.Laid.{Fronted}
use Rattle.codes.specs.Steps.Measure.{Measured, extent}
use Rattle.std.specs.Prelude.{Ok}
use Rattle.numeric.specs.Steps.Text.{spelled, text_of}
use Rattle.numeric.proofs.Data.{text-built, one-built, count-built}
use Rattle.formats.specs.Steps.Text.{MeasuresData, HasRoom, PutsText}

-- where the format is Numeric. Each number of the answer stands with what it must be, so that a wrong one is refused where it stands
module _ (format : Format) (told : format ≡ Numeric) (carried : List ℕ) where
  pub numeric-measures : (r : Measured) → r ≡ Ok (extent (length (text_of carried)) (length (spelled carried))) → MeasuresData format carried r
  numeric-measures r e =
      subst⁻¹ (MeasuresData format carried) e
      (subst⁻¹ (λ (k : Format). MeasuresData k carried (Ok (extent (length (text_of carried)) (length (spelled carried))))) told
      (text_of carried, refl, (text-built carried, count-built (text_of carried) carried (text-built carried))))

  pub numeric-room : (room : ℕ) → HasRoom format carried room → length (text_of carried) ≤ room
  numeric-room room h =
      let held = subst (λ (k : Format). HasRoom k carried room) told h in
      subst (λ (t : List ℕ). length t ≤ room) (one-built held.text (text_of carried) carried held.carries (text-built carried)) held.fits

  pub numeric-text : (entry exit : List ℕ) (r : ℕ) → Fronted (text_of carried) entry exit r → PutsText format carried entry exit r
  numeric-text entry exit r f =
      subst⁻¹ (λ (k : Format). PutsText k carried entry exit r) told (record { text = text_of carried; carries = text-built carried; front = f })
