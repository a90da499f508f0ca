-- Of two makers' data of one text, in a compaction scheme, neither is the front of the other: what would stand behind it is more than fill, and so says
-- something.
-- Assumes nothing.
use mathlib.Core.List.{List, [], ◌∷◌, ◌++◌, append_assoc, append_cancel_left}
use mathlib.Core.Path.{◌≡◌, refl, sym, ap, ap₂, subst, subst⁻¹, ◌∙◌}
use Prim.Native.Nat.{ℕ, ◌≤◌, ◌<◌}
use native.Mathlib.Decide.{dec_le}
use native.Mathlib.Omega.{arith}
use lib.ListN.{length, length-append}
use Rattle.bits.specs.Row.{bits}
use Rattle.codes.specs.Chain.{Entry, Scheme, In, state_after, Row, codes, texts, Fill, Builds, Built}
use Rattle.codes.proofs.BitsInBytes.{length-bits}
use Rattle.codes.proofs.PassedEntries.{texts-append}
use Rattle.codes.proofs.NonemptyText.{Speaks, never-silent}
use Rattle.codes.proofs.SchemeLaws.{Laws}
use Rattle.apart.proofs.Parted.{bits-append}

-- a row that is its own front has nothing behind it
none-behind : (a rest : List ℕ) → length (a ++ rest) ≤ length a → rest ≡ []
none-behind a [] few = refl
none-behind a (x ∷ rest) few = absurd (let no' : ⊥ = omega (arith, length-append a (x ∷ rest)) in no')

module _ {scheme : Scheme} (laws : Laws scheme) where
  -- entries that begin the bits which other entries and fill take are the front of these others
  pub record Followed (n : ℕ) (es ds : List Entry) (x f : List ℕ) : Type 0 where
    pub more : List Entry
    pub row : Row scheme n more 0
    pub is : ds ≡ es ++ more
    pub takes : x ≡ codes more ++ f

  followed : (m n : ℕ) (es ds : List Entry) (x f : List ℕ) → Row scheme m es n → Row scheme m ds 0 → Fill scheme.unused f
      → codes es ++ x ≡ codes ds ++ f → Followed n es ds x f
  unfolding codes
  followed m n [] ds x f re rd fill e = record { more = ds; row = subst (λ (k : ℕ). Row scheme k ds 0) re rd; is = refl; takes = e }
  followed m n (e ∷ es) [] x f re rd fill y =
      absurd (laws.no-fill e (subst (λ (k : ℕ). In e (scheme.table k)) rd re.0) f fill (codes es ++ x, sym y ∙ append_assoc e.code (codes es) x))
  followed m n (e ∷ es) (d ∷ ds) x f re rd fill y =
      let left : codes (e ∷ es) ++ x ≡ e.code ++ (codes es ++ x) = append_assoc e.code (codes es) x in
      let right : codes (e ∷ es) ++ x ≡ d.code ++ (codes ds ++ f) = y ∙ append_assoc d.code (codes ds) f in
      let same : e ≡ d = laws.alone m e d re.0 rd.0 (codes (e ∷ es) ++ x) (codes es ++ x, left) (codes ds ++ f, right) in
      let rest : codes es ++ x ≡ codes ds ++ f =
      append_cancel_left e.code (codes es ++ x) (codes ds ++ f) (sym left ∙ right ∙ ap (λ (z : Entry). z.code ++ (codes ds ++ f)) (sym same)) in
      let row : Row scheme (state_after m e) ds 0 = subst⁻¹ (λ (z : Entry). Row scheme (state_after m z) ds 0) same rd.1 in
      let ih = followed (state_after m e) n es ds x f re.1 row fill rest in
      record { more = ih.more; row = ih.row; is = ap₂ (λ (z : Entry) (l : List Entry). z ∷ l) (sym same) ih.is; takes = ih.takes }

  -- what follows one building of a text in another is no more than fill
  pub no_front : Speaks scheme → scheme.unused < 8 → {text : List ℕ} (a rest : List ℕ) → Built scheme text a → Built scheme text (a ++ rest) → rest ≡ []
  no_front sounds few {text} a rest p q = pick (dec_le (length x) scheme.unused)
    where
      x : List ℕ
      x = p.fill ++ bits rest

      takes : codes p.entries ++ x ≡ codes q.entries ++ q.fill
      takes =
          sym (append_assoc (codes p.entries) p.fill (bits rest)) ∙ ap (λ (l : List ℕ). l ++ bits rest) (sym p.bits) ∙ sym (bits-append a rest) ∙ q.bits

      f : Followed 0 p.entries q.entries x q.fill
      f = followed 0 0 p.entries q.entries x q.fill p.row q.row q.ends takes

      behind : Builds scheme 0 x (texts f.more)
      behind = record { entries = f.more; fill = q.fill; row = f.row; says = refl; ends = q.ends; bits = f.takes }

      silent : length (texts f.more) ≡ 0
      silent =
          omega (
            arith,
            ap length p.says,
            ap length (sym q.says ∙ ap texts f.is ∙ texts-append p.entries f.more),
            length-append (texts p.entries) (texts f.more),
          )

      pick : Dec (length x ≤ scheme.unused) → rest ≡ []
      pick (yes short) = none-behind a rest (omega (arith, length-append a rest, length-append p.fill (bits rest), length-bits rest))
      pick (no long) = absurd (let no' : ⊥ = omega (arith, silent, never-silent sounds behind (omega arith)) in no')
