-- A format whose data is of a scheme: what the scheme's functions ask and answer is what the format's do.
-- Assumes nothing.
use mathlib.Core.List.{List, ◌++◌}
use mathlib.Core.Path.{◌≡◌, sym, ap, ◌∙◌, subst⁻¹}
use Prim.Native.Nat.{ℕ}
use native.Mathlib.Nat.{zero-add}
use lib.ListN.{length, drop}
use Rattle.bits.specs.Row.{bits}
use Rattle.header.specs.declared.Format.{Format}
use Rattle.header.specs.declared.Format.TheVariants.{PseudoBinary, Shef, FullAscii}
use Rattle.codes.specs.Chain.{Scheme, Built}
use Rattle.codes.specs.Steps.Laid.{laid, Placed}
use Rattle.codes.specs.Steps.Measure.{Measured, extent, malformed_at, Measures}
use Rattle.std.specs.Prelude.{Ok, Err}
use Rattle.full_ascii.specs.Table as ascii
use Rattle.pseudo_binary.specs.Table as pseudo
use Rattle.shef.specs.Table as shef
use Rattle.formats.specs.Data.{Carries}
use Rattle.formats.specs.Steps.Text.{MeasuresData, PutsText}

pub record OfScheme (scheme : Scheme) (format : Format) : Type 0 where
  pub carries : (text carried : List ℕ) → Built scheme text carried → Carries format text carried
  pub built : (text carried : List ℕ) → Carries format text carried → Built scheme text carried
  pub text : (carried : List ℕ) (n codes : ℕ) → Measures scheme (bits carried) (Ok (extent n codes)) → MeasuresData format carried (Ok (extent n codes))
  pub place : (carried : List ℕ) (i codes : ℕ) → Measures scheme (bits carried) (Err (malformed_at i codes)) → MeasuresData format carried (Err (malformed_at i codes))

pub of-pseudo-binary : (format : Format) → format ≡ PseudoBinary → OfScheme pseudo.scheme format
of-pseudo-binary format told =
    subst⁻¹ (OfScheme pseudo.scheme) told
    (record { carries = λ text carried b. b; built = λ text carried b. b; text = λ carried n codes m. m; place = λ carried i codes m. m })

pub of-shef : (format : Format) → format ≡ Shef → OfScheme shef.scheme format
of-shef format told =
    subst⁻¹ (OfScheme shef.scheme) told
    (record { carries = λ text carried b. b; built = λ text carried b. b; text = λ carried n codes m. m; place = λ carried i codes m. m })

pub of-full-ascii : (format : Format) → format ≡ FullAscii → OfScheme ascii.scheme format
of-full-ascii format told =
    subst⁻¹ (OfScheme ascii.scheme) told
    (record { carries = λ text carried b. b; built = λ text carried b. b; text = λ carried n codes m. m; place = λ carried i codes m. m })

module _ {scheme : Scheme} {format : Format} (o : OfScheme scheme format) (carried : List ℕ) where
  pub scheme-measures : (r : Measured) → Measures scheme (bits carried) r → MeasuresData format carried r
  scheme-measures (Ok e) m = o.text carried e.characters e.codes m
  scheme-measures (Err at) m = o.place carried at.bit at.codes m

  pub scheme-text : (entry exit : List ℕ) (r : ℕ) → Placed scheme (bits carried) entry exit 0 r → PutsText format carried entry exit r
  unfolding laid
  scheme-text entry exit r p =
      record {
        text = p.text;
        carries = o.carries p.text carried p.reads;
        front = record {
          size = p.place ∙ zero-add (length p.text);
          whole = p.whole ∙ ap (λ (k : ℕ). p.text ++ drop k entry) (sym p.place);
        };
      }
