-- Open data: each byte is its own, so a text is its own data.
-- Assumes nothing.
use mathlib.Core.List.{List, ◌++◌}
use mathlib.Core.Path.{◌≡◌, refl, sym, ap, ◌∙◌, subst, subst⁻¹}
use Prim.Native.Nat.{ℕ, ◌≤◌}
use native.Mathlib.Omega.{arith}
use lib.ListN.{length, take, drop}
use lib.Seq.{take-length}
use Rattle.header.specs.declared.Format.{Format}
use Rattle.header.specs.declared.Format.TheVariants.{Open}
use Rattle.codes.specs.Steps.Laid.{Fronted}
use Rattle.codes.specs.Steps.Measure.{extent}
use Rattle.std.specs.Prelude.{Ok}
use Rattle.formats.specs.Steps.Text.{MeasuresData, HasRoom, PutsText}

-- a copy stands at the front of the buffer
copied : (row entry exit : List ℕ) (r : ℕ) → r ≡ length row → exit ≡ take (length row) row ++ drop (length row) entry → Fronted row entry exit r
copied row entry exit r long whole =
    record {
      size = long;
      whole = whole ∙ ap (λ (l : List ℕ). l ++ drop (length row) entry) (take-length row) ∙ ap (λ (n : ℕ). row ++ drop n entry) (sym long);
    }

-- where the format is Open. Each number of the answer stands with what it must be, so that a wrong one is refused where it stands
module _ (format : Format) (told : format ≡ Open) where
  module _ (carried : List ℕ) where
    pub open-measures : (n codes : ℕ) → n ≡ length carried → codes ≡ 0 → MeasuresData format carried (Ok (extent n codes))
    open-measures n codes e d = subst⁻¹ (λ (k : Format). MeasuresData k carried (Ok (extent n codes))) told (carried, sym e, (refl, sym d))

    pub open-room : (room : ℕ) → HasRoom format carried room → length carried ≤ room
    open-room room h = let held = subst (λ (k : Format). HasRoom k carried room) told h in omega (arith, ap length held.carries, held.fits)

    pub open-text : (entry exit : List ℕ) (r : ℕ) → r ≡ length carried → exit ≡ take (length carried) carried ++ drop (length carried) entry
        → PutsText format carried entry exit r
    open-text entry exit r long whole =
        subst⁻¹ (λ (k : Format). PutsText k carried entry exit r) told
        (record { text = carried; carries = refl; front = copied carried entry exit r long whole })
