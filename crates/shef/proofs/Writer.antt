-- What our writer builds is a building of what its text comes back as, and there is no other. Texts that can be read have codes, and are never empty.
-- Assumes nothing.
use mathlib.Core.Path.{◌≡◌, sym, ap, ◌∙◌}
use mathlib.Core.List.{List, [], ◌∷◌, append-nil}
use Prim.Native.Nat.{ℕ}
use native.Mathlib.Nat.{le_of_eq}
use lib.Dec.{T, lit<}
use lib.ListN.{length}
use Rattle.bits.specs.First.{first}
use Rattle.bits.specs.Numbers.{numbers}
use Rattle.bits.specs.Row.{Bytes}
use Rattle.codes.specs.Chain.{Entry, Row, codes, texts, bits_in, Built}
use Rattle.codes.specs.Coded.{alone}
use Rattle.codes.specs.Consecutive.{code_for, consecutive}
use Rattle.codes.specs.LineEnds.{LF, CR, each_after, ended, line_ends}
use Rattle.codes.specs.Lookup.{same, found, saying}
use Rattle.codes.proofs.BitsInBytes.{gap-few}
use Rattle.codes.proofs.EveryElement.{every}
use Rattle.codes.proofs.LineTables.{lined, one_piece, ended_some, line-pieces, line-whole, lines-kept}
use Rattle.codes.proofs.Lookup.{unlike}
use Rattle.codes.proofs.OneBuilding.{same-data}
use Rattle.codes.proofs.Pieces.{AllIn, row-all, all_row}
use Rattle.codes.proofs.Pieces as pieces
use Rattle.codes.proofs.WriterLaws as writing
use Rattle.codes.proofs.WriterLaws.{WriterFacts, WriterLaws}
use Rattle.numeric.specs.Table.{characters}
use Rattle.shef.specs.Table.{table, scheme}
use Rattle.shef.specs.Writer.{coded, AllCoded, own, ours, comes_back}
use Rattle.shef.proofs.Table.{sounds, mutes, all-bits}

-- each entry says a character that is part of no line end, or a line end; no two say the same; and one says a line end
lines : T (every lined table)
unfolding table consecutive code_for characters numbers every lined one_piece
lines = tt

distinct : T (unlike (λ e. e.says) table)
unfolding table consecutive code_for characters numbers every unlike same
distinct = tt

ends : T (found (saying table (CR ∷ LF ∷ [])))
unfolding table consecutive code_for characters numbers saying first found same
ends = tt

abbrev in_table : (es : List Entry) → Row scheme 0 es 0 → AllIn table es
in_table es r = row-all table 7 0 0 es r

ours_in : (t : List ℕ) → AllIn table (ours t)
unfolding ours own
ours_in t = pieces.pieces-in ended table (line-pieces table lines) distinct (line-whole table lines ends) t 0

ours-says : (t : List ℕ) → AllCoded t → texts (ours t) ≡ line_ends t
unfolding ours own coded line_ends
ours-says t h = pieces.pieces-says ended table (line-pieces table lines) distinct (line-whole table lines ends) t h 0

-- no text has two rows
pub one-row : (es ds : List Entry) → Row scheme 0 es 0 → Row scheme 0 ds 0 → texts es ≡ texts ds → es ≡ ds
one-row es ds r q = pieces.one-row ended table (line-pieces table lines) distinct es ds (in_table es r) (in_table ds q)

-- nor two buildings
pub one-building : (text a b : List ℕ) → Bytes a → Bytes b → Built scheme text a → Built scheme text b → a ≡ b
one-building text a b h k p q = same-data (lit< tt) a b p q (one-row p.entries q.entries p.row q.row (p.says ∙ sym q.says)) h k

-- data that carries one text has as many bits before its fill
pub same_bits : {text : List ℕ} (a b : List ℕ) (p : Built scheme text a) (q : Built scheme text b) → bits_in p ≡ bits_in q
same_bits a b p q = ap (λ (es : List Entry). length (codes es)) (one-row p.entries q.entries p.row q.row (p.says ∙ sym q.says))

ours-row : (t : List ℕ) → Row scheme 0 (ours t) 0
ours-row t = all_row table mutes 7 (ours t) (ours_in t)

-- a text has codes if entries say what it comes back as
back : (t : List ℕ) (es : List Entry) → Row scheme 0 es 0 → texts es ≡ line_ends t → AllCoded t
unfolding coded line_ends
back t es r x =
    (pieces.pieces-front ended table (line-pieces table lines) distinct (line-whole table lines ends) t es (in_table es r) 0 []
    (x ∙ sym (append-nil (each_after ended 0 t)))).coded

writer : WriterFacts scheme (alone coded) comes_back ours
writer = record {
  row = λ t h. ours-row t;
  closes = λ t h. gap-few (length (codes (ours t)));
  says = ours-says;
  shortest = λ t h es r x says. le_of_eq (ap (λ (ds : List Entry). length (codes ds)) (one-row (ours t) es (ours-row t) r (ours-says t h ∙ sym says)));
  nonempty = λ t some h. ended_some t some;
  kept = λ es r x. lines-kept table lines es (in_table es r);
  coded = back;
  all-bits = all-bits;
  sounds = sounds;
  few = lit< tt;
}

pub writer-laws : WriterLaws scheme (alone coded) comes_back ours
writer-laws = writing.writer-laws writer
