-- What holds of the data of every format: one text or one place, never both and always one; what our writer makes of a text carries what the text comes
-- back as; a text that is carried has codes, comes back as it is, and is not empty where the data is not. (That none has fewer bits, or bytes: Bits.)
-- Assumes nothing.
use mathlib.Core.List.{List, [], ◌∷◌}
use mathlib.Core.Logic.{◌⊎◌, inl}
use mathlib.Core.Path.{◌≡◌, refl, sym, ap, ◌∙◌, subst}
use Prim.Native.Nat.{ℕ, ◌<◌, zero-le, suc-le-suc}
use native.Mathlib.Omega.{arith}
use lib.ListN.{length}
use Rattle.header.specs.declared.Format.{Format}
use Rattle.header.specs.declared.Format.TheVariants.{Open, PseudoBinary, Numeric, Shef, FullAscii}
use Rattle.codes.proofs.DataLaws.{DataLaws, scheme-data}
use Rattle.full_ascii.proofs.Table as ascii-table
use Rattle.full_ascii.proofs.Writer as ascii-built
use Rattle.numeric.proofs.Writer as numeric-built
use Rattle.pseudo_binary.proofs.Table as pseudo-table
use Rattle.pseudo_binary.proofs.Writer as pseudo-built
use Rattle.shef.proofs.Table as shef-table
use Rattle.shef.proofs.Writer as shef-built
use Rattle.formats.specs.Data.{Carries, Unreadable, coded, AllCoded, data_of, comes_back}

open-laws : DataLaws (Carries Open) (Unreadable Open) (coded Open) (comes_back Open) (data_of Open)
open-laws = record {
  one-carried = λ t u carried p q. sym p ∙ q;
  one-malformed = λ i j carried p q. absurd p;
  never-malformed = λ t carried i p q. q;
  either = λ carried. inl (carried, refl);
  carried-coded = λ t carried p i lt. tt;
  carried-kept = λ t carried p. refl;
  back-coded = λ t carried p i lt. tt;
  made-carries = λ t h. refl;
  carried_some = λ t carried some p. omega (arith, ap length p);
  carried_none = λ t p. sym p;
  given-some = λ t some h. some;
}

pub laws : (format : Format) → DataLaws (Carries format) (Unreadable format) (coded format) (comes_back format) (data_of format)
laws Open = open-laws
laws PseudoBinary = scheme-data pseudo-table.laws pseudo-built.writer-laws
laws Numeric = numeric-built.data-laws
laws Shef = scheme-data shef-table.laws shef-built.writer-laws
laws FullAscii = scheme-data ascii-table.laws ascii-built.writer-laws

module _ (format : Format) where
  pub carries-one : (t u carried : List ℕ) → Carries format t carried → Carries format u carried → t ≡ u
  carries-one = (laws format).one-carried

  pub unreadable-one : (i j : ℕ) (carried : List ℕ) → Unreadable format carried i → Unreadable format carried j → i ≡ j
  unreadable-one = (laws format).one-malformed

  pub never-unreadable : (t carried : List ℕ) (i : ℕ) → Carries format t carried → Unreadable format carried i → ⊥
  never-unreadable = (laws format).never-malformed

  -- data is readable or it is not
  pub readable : (carried : List ℕ) → ((t : List ℕ) × Carries format t carried) ⊎ ((bit : ℕ) × Unreadable format carried bit)
  readable = (laws format).either

  -- a text that is carried has codes, and comes back as it is; and a text has codes if what it comes back as is carried
  pub carries-coded : (text carried : List ℕ) → Carries format text carried → AllCoded format text
  carries-coded = (laws format).carried-coded

  pub carries_kept : (text carried : List ℕ) → Carries format text carried → comes_back format text ≡ text
  carries_kept = (laws format).carried-kept

  pub back-coded : (text carried : List ℕ) → Carries format (comes_back format text) carried → AllCoded format text
  back-coded = (laws format).back-coded

  -- what our writer makes of a text that has codes carries what the text comes back as
  pub writer-carries : (text : List ℕ) → AllCoded format text → Carries format (comes_back format text) (data_of format text)
  writer-carries = (laws format).made-carries

  -- what is carried is carried by what our writer makes of it
  pub carries-again : (text carried : List ℕ) → Carries format text carried → Carries format text (data_of format text)
  carries-again text carried p =
      subst (λ (t : List ℕ). Carries format t (data_of format text)) (carries_kept text carried p) (writer-carries text (carries-coded text carried p))

  -- some data, some text; and some text, some data
  pub carries-some : (text carried : List ℕ) → 0 < length carried → Carries format text carried → 0 < length text
  carries-some = (laws format).carried_some

  pub data-some : (text : List ℕ) → 0 < length text → AllCoded format text → 0 < length (data_of format text)
  data-some t some coded = pick (data_of format t) refl
    where
      pick : (l : List ℕ) → data_of format t ≡ l → 0 < length l
      pick (b ∷ l) e = suc-le-suc zero-le
      pick [] e =
          let none = (laws format).carried_none (comes_back format t) (subst (Carries format (comes_back format t)) e (writer-carries t coded)) in
          absurd (let no' : ⊥ = omega (arith, ap length none, (laws format).given-some t some coded) in no')
