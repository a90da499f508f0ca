-- What our writer builds is a building of its text and no building of that text is shorter. Texts that can be read have codes, and are never empty.
-- Assumes nothing.
use mathlib.Core.Path.{◌≡◌, refl, subst⁻¹}
use mathlib.Core.Logic.{inl, inr}
use mathlib.Core.List.{List, ◌∷◌, ◌++◌}
use Prim.Native.Nat.{ℕ, ◌+◌, ◌≤◌}
use native.Mathlib.Nat.{le_of_eq}
use native.Mathlib.Omega.{arith}
use lib.Dec.{T, lit<}
use lib.ListN.{length}
use Rattle.bits.specs.Numbers.{numbers}
use Rattle.bits.specs.Word.{bit}
use Rattle.codes.specs.Coded.{alone}
use Rattle.codes.specs.Chain.{Entry, codes, texts, Builds}
use Rattle.codes.specs.Pack.{low}
use Rattle.codes.proofs.EveryElement.{every}
use Rattle.codes.proofs.ReadingAgrees.{Agrees, agrees}
use Rattle.codes.proofs.LeastCost.{Cost, cost-shortest}
use Rattle.codes.proofs.BitsInBytes.{gap-few}
use Rattle.codes.proofs.SingleTable.{builds-one}
use Rattle.codes.proofs.WriterLaws as writing
use Rattle.codes.proofs.WriterLaws.{spells, said-coded, WriterFacts, WriterLaws}
use Rattle.full_ascii.specs.Table.{LF, CR, six, seven, special, pair, table, scheme}
use Rattle.full_ascii.specs.Writer.{comes_back, coded, own, ours}
use Rattle.full_ascii.proofs.Table.{laws, sounds, mutes, all-bits}
use Rattle.full_ascii.proofs.Entries.{Sayer, entry_of, own_in, own-says, pair-in}
use Rattle.full_ascii.proofs.Ours.{ours-says, ours-row, size, size-own}

pub size-pair : (t : List ℕ) → size (CR ∷ LF ∷ t) ≡ length pair.code + size t
unfolding size ours codes own pair special low bit
size-pair t = omega arith

sayer-size : (e : Entry) (t : List ℕ) → Sayer e → size (e.says ++ t) ≤ length e.code + size t
unfolding pair special
sayer-size e t (inl s) =
    subst⁻¹ (λ (d : Entry). size (d.says ++ t) ≤ length d.code + size t) s.2
    (subst⁻¹ (λ (u : List ℕ). size (u ++ t) ≤ length (own s.0).code + size t) (own-says s.0) (size-own s.0 t))
sayer-size e t (inr x) =
    subst⁻¹ (λ (d : Entry). size (d.says ++ t) ≤ length d.code + size t) x (le_of_eq (size-pair t))

cost : Cost scheme (λ (m : ℕ) (t : List ℕ). size t)
unfolding size ours codes
cost = record { nothing = refl; entry = λ m e es h r. sayer-size e (texts es) (entry_of e h) }

-- what the writer has, and what follows of it
all-spell : (m : ℕ) → T (every (spells coded) (scheme.table m))
unfolding table six seven special pair numbers coded every spells
all-spell m = tt

writer : WriterFacts scheme (alone coded) comes_back ours
unfolding size
writer = record {
  row = ours-row;
  closes = λ t h. gap-few (length (codes (ours t)));
  says = λ t h. ours-says t;
  shortest = λ t h es r x says. cost-shortest ours cost (λ u. refl) t es r says;
  nonempty = λ t some h. some;
  kept = λ es r x. refl;
  coded = said-coded scheme coded all-spell;
  all-bits = all-bits;
  sounds = sounds;
  few = lit< tt;
}

pub writer-laws : WriterLaws scheme (alone coded) comes_back ours
writer-laws = writing.writer-laws writer

-- what reading gives, and what a maker may build, agree
pub reading-agrees : Agrees scheme
reading-agrees = agrees laws

-- a line end reads the same, cut either way
pub either_way : {bs t : List ℕ} → Builds scheme 0 bs t
    → Builds scheme 0 ((own CR).code ++ ((own LF).code ++ bs)) (CR ∷ LF ∷ t) × Builds scheme 0 (pair.code ++ bs) (CR ∷ LF ∷ t)
unfolding own pair special coded
either_way r = (builds-one mutes 7 (own_in CR tt) (builds-one mutes 7 (own_in LF tt) r), builds-one mutes 7 pair-in r)
