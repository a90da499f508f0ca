-- Data in one piece: the only section where it lies, and several in a buffer.
-- Assumes nothing.
use mathlib.Core.List.{List, ◌++◌}
use mathlib.Core.Path.{◌≡◌, refl, sym, ap, ap₂, subst, subst₂, ◌∙◌}
use Prim.Native.Nat.{ℕ, zero, suc, ◌≤◌, ◌<◌}
use native.Mathlib.Omega.{arith}
use lib.ListN.{length, take, drop}
use lib.Seq.{take-length}
use Rattle.header.specs.declared.Format.{Format}
use Rattle.header.specs.declared.Format.TheVariants.{Open}
use Rattle.codes.specs.Steps.Measure.{Outcome, extent, countable, TakesApart}
use Rattle.std.specs.Prelude.{Ok}
use Rattle.formats.specs.Data.{CarriesIn, UnreadableAfter}
use Rattle.formats.specs.Steps.Text.{HasRoom, PutsText}
use Rattle.formats.proofs.OpenData.{open-measures, open-room, open-text}
use Rattle.sections.specs.Sections.{sent_length, in_turn, joined}
use Rattle.sections.proofs.Found.{joined_length}
use Rattle.sections.proofs.OneSection.{one-joined}

-- a piece that has the data of all sections
module _ (n : ℕ) (came piece : List ℕ) (is : piece ≡ joined n came) where
  pub apart : (format : Format) (outcome : Outcome) → length piece ≡ n
      → TakesApart (CarriesIn format piece) (UnreadableAfter format piece) (length piece) outcome
      → TakesApart (CarriesIn format (joined n came)) (UnreadableAfter format (joined n came)) n outcome
  apart format outcome long =
      subst₂ (λ (l : List ℕ) (m : ℕ). TakesApart (CarriesIn format l) (UnreadableAfter format l) m outcome) is long

  pub room : (format : Format) (r : ℕ) → HasRoom format (joined n came) r → HasRoom format piece r
  room format r = subst (λ (l : List ℕ). HasRoom format l r) (sym is)

  pub put : (format : Format) (entry exit : List ℕ) (r : ℕ) → PutsText format piece entry exit r → PutsText format (joined n came) entry exit r
  put format entry exit r = subst (λ (l : List ℕ). PutsText format l entry exit r) is

-- ---- the pieces

-- the only section, as a part of what came
pub part-is : (n : ℕ) (came : List ℕ) → n ≤ 4000 → take n came ≡ joined n came
unfolding joined in_turn
part-is zero came few = refl
part-is (suc n) came few = sym (one-joined (suc n) came (omega arith) few)

pub part-long : (n : ℕ) (came : List ℕ) → sent_length n ≤ length came → n ≤ 4000 → length (take n came) ≡ n
part-long n came whole few = ap length (part-is n came few) ∙ joined_length n came whole

-- and copied to the front of a buffer
pub part-copied : (n : ℕ) (came : List ℕ) → sent_length n ≤ length came → n ≤ 4000 → (entry exit : List ℕ) (r : ℕ)
    → (let part = take n came in r ≡ length part × (exit ≡ take (length part) part ++ drop (length part) entry))
    → (r ≡ n) × (exit ≡ joined n came ++ drop n entry)
part-copied n came whole few entry exit r (size, put) =
    let long = part-long n came whole few in (
      size ∙ long,
      put
          ∙ ap₂ (λ (l : List ℕ) (m : ℕ). l ++ drop m entry) (take-length (take n came) ∙ part-is n came few) long,
    )

-- ---- open data, which is the text: no piece is asked for. Each number of the answer stands with what it must be, so that a wrong one is refused where it stands

module _ (format : Format) (told : format ≡ Open) (n : ℕ) (came : List ℕ) (whole : sent_length n ≤ length came) where
  long : length (joined n came) ≡ n
  long = joined_length n came whole

  pub open-apart : n < countable → (text codes : ℕ) → text ≡ n → codes ≡ 0
      → TakesApart (CarriesIn format (joined n came)) (UnreadableAfter format (joined n came)) n (Ok (extent text codes))
  open-apart counted text codes e d = (counted, open-measures format told (joined n came) text codes (e ∙ sym long) d)

  pub open-fits : (r : ℕ) → HasRoom format (joined n came) r → n ≤ r
  open-fits r h = omega (arith, long, open-room format told (joined n came) r h)

  pub open-put : (entry exit : List ℕ) → exit ≡ joined n came ++ drop n entry → (r : ℕ) → r ≡ n → PutsText format (joined n came) entry exit r
  open-put entry exit joins r e =
      open-text format told (joined n came) entry exit r (e ∙ sym long)
      (joins ∙ ap₂ (λ (l : List ℕ) (m : ℕ). l ++ drop m entry) (sym (take-length (joined n came))) (sym long))
