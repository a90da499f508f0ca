-- What a scheme's writer has, and what follows of the data that it writes and of the texts that can be read, whatever the tables.
-- Assumes nothing.
use mathlib.Core.Path.{◌≡◌, sym, ◌∙◌, subst}
use mathlib.Core.Bool.{Bool}
use mathlib.Core.List.{List, [], ◌∷◌}
use Prim.Native.Nat.{ℕ, ◌≤◌, ◌<◌}
use native.Mathlib.Omega.{arith}
use lib.Dec.{T}
use lib.ListN.{length}
use Rattle.bits.specs.Row.{Bytes}
use Rattle.codes.specs.Chain.{Entry, Scheme, state_after, Row, codes, texts, bits_in, Built}
use Rattle.codes.specs.Pack.{Binary, written}
use Rattle.codes.specs.Coded.{alone, CodedBelow}
use Rattle.codes.proofs.CodedTexts.{coded_none, coded-append, coded-every}
use Rattle.codes.proofs.EveryElement.{every, every-at}
use Rattle.codes.proofs.BitsInBytes.{Closes, binary, row-binary, written-built, written-bytes, built-closes, length-bits}
use Rattle.codes.proofs.NonemptyText.{Speaks, never-silent}
use Rattle.codes.proofs.OneReading.{one-row}
use Rattle.codes.proofs.SchemeLaws.{Laws}

-- each character that the entry says has a code
unfoldable pub spells : (ℕ → Bool) → Entry → Bool
spells has e = every has e.says

-- where characters have codes by themselves, what a row says has codes if each entry spells such characters: a test of the tables
module _ (scheme : Scheme) (has : ℕ → Bool) (all-spell : (m : ℕ) → T (every (spells has) (scheme.table m))) where
  row-coded : (m n : ℕ) (es : List Entry) → Row scheme m es n → CodedBelow (alone has) (texts es) (length (texts es))
  unfolding texts spells
  row-coded m n [] r = coded_none has
  row-coded m n (e ∷ es) r =
      coded-append has e.says (texts es) (coded-every has e.says (every-at (spells has) (scheme.table m) (all-spell m) e r.0))
      (row-coded (state_after m e) n es r.1)

  pub said-coded : (t : List ℕ) (es : List Entry) → Row scheme 0 es 0 → texts es ≡ t → CodedBelow (alone has) t (length t)
  said-coded t es r x = subst (λ (u : List ℕ). CodedBelow (alone has) u (length u)) x (row-coded 0 0 es r)

-- what entries are written as is a building of these entries, and of no others
pub written-entries : {scheme : Scheme} → Laws scheme → (es : List Entry) → Closes scheme es → Row scheme 0 es 0 → Binary (codes es) → {u : List ℕ}
    → (b : Built scheme u (written es)) → b.entries ≡ es
unfolding written-built
written-entries laws es few r h b = one-row laws b (written-built es few r h)

-- `ours` is what the writer builds of a text, and `given` is what that text comes back as: itself, unless the tables cannot tell it from another
pub record WriterFacts (scheme : Scheme) (has : List ℕ → ℕ → Bool) (given : List ℕ → List ℕ) (ours : List ℕ → List Entry) : Type 0 where
  -- of a text with codes it is a row that closes and says what comes back, and no such row is shorter
  pub row : (t : List ℕ) → CodedBelow has t (length t) → Row scheme 0 (ours t) 0
  pub closes : (t : List ℕ) → CodedBelow has t (length t) → Closes scheme (ours t)
  pub says : (t : List ℕ) → CodedBelow has t (length t) → texts (ours t) ≡ given t
  pub shortest : (t : List ℕ) → CodedBelow has t (length t) → (es : List Entry) → Row scheme 0 es 0 → Closes scheme es → texts es ≡ given t
      → length (codes (ours t)) ≤ length (codes es)
  -- a text that is not empty does not come back empty
  pub nonempty : (t : List ℕ) → 0 < length t → CodedBelow has t (length t) → 0 < length (given t)
  -- what a row that closes says comes back as it is
  pub kept : (es : List Entry) → Row scheme 0 es 0 → Closes scheme es → given (texts es) ≡ texts es
  -- a text has codes if a row says what it comes back as (`said-coded`, where that is itself and a test of the tables shows it)
  pub coded : (t : List ℕ) (es : List Entry) → Row scheme 0 es 0 → texts es ≡ given t → CodedBelow has t (length t)
  -- two tests of the tables: codes are bits, and something is said
  pub all-bits : (m : ℕ) → T (every binary (scheme.table m))
  pub sounds : Speaks scheme
  -- and fewer bits may be unused than a byte has
  pub few : scheme.unused < 8

-- what follows of that
pub record WriterLaws (scheme : Scheme) (has : List ℕ → ℕ → Bool) (given : List ℕ → List ℕ) (ours : List ℕ → List Entry) : Type 0 where
  -- what the writer builds is a building of the text that comes back, in bytes
  pub ours-binary : (t : List ℕ) → CodedBelow has t (length t) → Binary (codes (ours t))
  pub ours-bytes : (t : List ℕ) → CodedBelow has t (length t) → Bytes (written (ours t))
  pub ours-built : (t : List ℕ) → CodedBelow has t (length t) → Built scheme (given t) (written (ours t))
  -- of these entries, and of no others
  pub ours-entries : Laws scheme → (t u : List ℕ) → CodedBelow has t (length t) → (b : Built scheme u (written (ours t))) → b.entries ≡ ours t
  -- and that text is not empty where the text is not
  pub given-nonempty : (t : List ℕ) → 0 < length t → CodedBelow has t (length t) → 0 < length (given t)
  -- no building of that text has fewer bits before its fill than the writer's
  pub no-shorter : (t sent : List ℕ) → CodedBelow has t (length t) → (b : Built scheme (given t) sent) → length (codes (ours t)) ≤ bits_in b
  -- a text has codes if what it comes back as was built
  pub back-coded : (t sent : List ℕ) → Built scheme (given t) sent → CodedBelow has t (length t)
  -- a text that was built has codes, comes back as it is, and is built again by the writer; and if its data has a byte or more, it is not empty
  pub built-coded : (t sent : List ℕ) → Built scheme t sent → CodedBelow has t (length t)
  pub built-kept : (t sent : List ℕ) → Built scheme t sent → given t ≡ t
  pub built-again : (t sent : List ℕ) → Built scheme t sent → Built scheme t (written (ours t))
  pub built-nonempty : (t sent : List ℕ) → 0 < length sent → Built scheme t sent → 0 < length t

module _ {scheme : Scheme} {has : List ℕ → ℕ → Bool} {given : List ℕ → List ℕ} {ours : List ℕ → List Entry} (w : WriterFacts scheme has given ours) where
  codes-binary : (t : List ℕ) → CodedBelow has t (length t) → Binary (codes (ours t))
  codes-binary t h = row-binary scheme w.all-bits 0 0 (ours t) (w.row t h)

  none-shorter : (t sent : List ℕ) → CodedBelow has t (length t) → (b : Built scheme (given t) sent) → length (codes (ours t)) ≤ bits_in b
  none-shorter t sent h b = w.shortest t h b.entries b.row (built-closes sent b) b.says

  built : (t : List ℕ) → CodedBelow has t (length t) → Built scheme (given t) (written (ours t))
  built t h =
      subst (λ (u : List ℕ). Built scheme u (written (ours t))) (w.says t h) (written-built (ours t) (w.closes t h) (w.row t h) (codes-binary t h))

  same : (t sent : List ℕ) → Built scheme t sent → given t ≡ t
  same t sent b = subst (λ (u : List ℕ). given u ≡ u) b.says (w.kept b.entries b.row (built-closes sent b))

  text-coded : (t sent : List ℕ) → Built scheme t sent → CodedBelow has t (length t)
  text-coded t sent b = w.coded t b.entries b.row (b.says ∙ sym (same t sent b))

  pub writer-laws : WriterLaws scheme has given ours
  writer-laws = record {
    ours-binary = codes-binary;
    ours-bytes = λ t h. written-bytes (ours t) (codes-binary t h);
    ours-built = built;
    ours-entries = λ laws t u h b. written-entries laws (ours t) (w.closes t h) (w.row t h) (codes-binary t h) b;
    given-nonempty = w.nonempty;
    no-shorter = none-shorter;
    back-coded = λ t sent b. w.coded t b.entries b.row b.says;
    built-coded = text-coded;
    built-kept = same;
    built-again = λ t sent b. subst (λ (u : List ℕ). Built scheme u (written (ours t))) (same t sent b) (built t (text-coded t sent b));
    built-nonempty = λ t sent h b. never-silent w.sounds b (omega (arith, length-bits sent, w.few));
  }
