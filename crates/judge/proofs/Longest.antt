-- How long a text can be that so much data carries: in every format no longer than in Pseudo Binary, where six bits say sixteen characters.
-- Assumes nothing.
use mathlib.Core.List.{List, [], append-nil}
use mathlib.Core.Path.{refl, sym, ap, ◌∙◌}
use Prim.Native.Nat.{ℕ, ◌*◌, ◌/◌, ◌≤◌}
use native.Mathlib.Omega.{arith}
use lib.Dec.{T}
use lib.ListN.{length}
use Rattle.header.specs.declared.Format.{Format}
use Rattle.header.specs.declared.Format.TheVariants.{Open, PseudoBinary, Numeric, Shef, FullAscii}
use Rattle.bits.specs.Numbers.{numbers}
use Rattle.codes.specs.Chain.{single, codes, Builds}
use Rattle.codes.proofs.EveryElement.{every}
use Rattle.codes.proofs.SizeBounds.{brief, builds-within, few-codes, short-text}
use Rattle.full_ascii.specs.Table as ascii
use Rattle.full_ascii.proofs.Table as ascii-table
use Rattle.numeric.specs.Table as numeric
use Rattle.numeric.specs.Translation.{sent, itself, specials, translation, Translates}
use Rattle.numeric.proofs.Fours.{two-each}
use Rattle.pseudo_binary.proofs.Bound.{built-bound}
use Rattle.shef.specs.Table as shef
use Rattle.shef.proofs.Table as shef-table
use Rattle.formats.specs.Data.{Carries}

briefs : T (every (brief 1) translation)
unfolding translation specials itself sent numeric.characters numbers every brief
briefs = tt

-- in Numeric no character is said by less than one base character
no-fewer-base : (base text : List ℕ) → Translates base text → length text ≤ length base
no-fewer-base base text t = omega (arith, builds-within (single translation 0) 1 (λ m. briefs) {m = 0} {bs = base} {t = text} built)
  where
    built : Builds (single translation 0) 0 base text
    built = record {
      entries = t.entries;
      fill = [];
      row = t.row;
      says = t.says;
      ends = record { few = omega arith; ones = refl };
      bits = sym t.is ∙ sym (append-nil (codes t.entries));
    }

pub text-few : (format : Format) (text carried : List ℕ) → Carries format text carried → length text ≤ 16 * (8 * length carried / 6)
text-few Open text carried b = omega (arith, ap length b)
text-few PseudoBinary text carried b = built-bound carried b
text-few Numeric text carried b = omega (arith, no-fewer-base b.base text b.translates, two-each b.base carried b.codes)
text-few Shef text carried b =
    omega (arith, few-codes shef.scheme 5 2 shef-table.all-sized carried b, short-text shef.scheme 5 2 shef-table.all-sized carried b)
text-few FullAscii text carried b =
    omega (arith, few-codes ascii.scheme 6 2 ascii-table.all-sized carried b, short-text ascii.scheme 6 2 ascii-table.all-sized carried b)
