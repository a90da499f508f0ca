-- What cuts cost: no data of a text has more than twice the bits of another before its fill; and line ends, each as two codes, have just that.
-- Assumes nothing.
use mathlib.Core.Path.{◌≡◌, refl, sym, ap, ◌∙◌}
use mathlib.Core.Bool.{Bool, cond, ◌&&◌}
use mathlib.Core.List.{List, [], ◌∷◌}
use Prim.Native.Nat.{ℕ, zero, suc, ◌+◌, ◌*◌, ◌≤◌}
use native.Mathlib.Omega.{arith}
use lib.Dec.{T, leb, leb→le}
use lib.ListN.{length}
use Rattle.bits.specs.Numbers.{numbers}
use Rattle.bits.specs.Word.{bit}
use Rattle.bits.proofs.Said.{and_left, and_right}
use Rattle.codes.specs.Chain.{Entry, In, Row, codes, texts, bits_in, Built}
use Rattle.codes.specs.Pack.{low, written}
use Rattle.codes.proofs.BitsInBytes.{gap-few, row-built}
use Rattle.codes.proofs.EveryElement.{every, every-at}
use Rattle.codes.proofs.SingleTable.{row_one}
use Rattle.codes.proofs.Weighed.{weight, Weighing, times-at-most}
use Rattle.full_ascii.specs.Table.{LF, CR, six, seven, special, pair, table, scheme}
use Rattle.full_ascii.specs.Writer.{coded, own, ours}
use Rattle.full_ascii.proofs.Entries.{own_in}
use Rattle.full_ascii.proofs.Table.{mutes, all-bits}
use Rattle.full_ascii.proofs.Ours.{size}
use Rattle.full_ascii.proofs.Writer.{size-pair}

-- ---- twice at most

-- the bits of a character's own code
unfoldable weigh : ℕ → ℕ
weigh c = cond (leb 32 c) (cond (leb c 63) 6 7) 9

-- an entry has no more bits than what it says weighs, and no less than half
unfoldable weighed : Entry → Bool
weighed e = leb (length e.code) (weight weigh e.says) && leb (weight weigh e.says) (2 * length e.code)

all-weighed : T (every weighed table)
unfolding table six seven special pair numbers low every weight weigh weighed
all-weighed = tt

module _ (e : Entry) (h : In e table) where
  bits-few : Bool
  bits-few = leb (length e.code) (weight weigh e.says)

  bits-many : Bool
  bits-many = leb (weight weigh e.says) (2 * length e.code)

  heavy : length e.code + 0 ≤ weight weigh e.says + 0
  unfolding weighed bits-few bits-many
  heavy = omega (arith, leb→le (length e.code) (weight weigh e.says) (and_left bits-few bits-many (every-at weighed table all-weighed e h)))

  light : weight weigh e.says + 0 ≤ 2 * length e.code + 0
  unfolding weighed bits-few bits-many
  light = omega (arith, leb→le (weight weigh e.says) (2 * length e.code) (and_right bits-few bits-many (every-at weighed table all-weighed e h)))

weighing : Weighing scheme weigh (λ m. 0) (λ m. 0) 2
weighing = record { heavy = λ m. heavy; light = λ m. light }

pub twice : {text : List ℕ} (a b : List ℕ) (p : Built scheme text a) (q : Built scheme text b) → bits_in p ≤ 2 * bits_in q
twice a b p q = times-at-most weighing p.entries q.entries p.row q.row (p.says ∙ sym q.says)

-- ---- line ends

-- so many of them
unfoldable pub ends : ℕ → List ℕ
ends zero = []
ends (suc n) = CR ∷ LF ∷ ends n

-- each as two codes
unfoldable pub apart : ℕ → List Entry
apart zero = []
apart (suc n) = own CR ∷ own LF ∷ apart n

apart-row : (n : ℕ) → Row scheme 0 (apart n) 0
unfolding apart coded
apart-row zero = refl
apart-row (suc n) = row_one mutes 7 (own LF ∷ apart n) (own_in CR tt) (row_one mutes 7 (apart n) (own_in LF tt) (apart-row n))

apart-says : (n : ℕ) → texts (apart n) ≡ ends n
unfolding apart ends texts own special
apart-says zero = refl
apart-says (suc n) = ap (λ (t : List ℕ). CR ∷ LF ∷ t) (apart-says n)

apart-bits : (n : ℕ) → length (codes (apart n)) ≡ 18 * n
unfolding apart codes own special low bit
apart-bits zero = refl
apart-bits (suc n) = omega (arith, apart-bits n)

-- eighteen bits each, where ours has nine
pub apart-built : (n : ℕ) → (b : Built scheme (ends n) (written (apart n))) × (bits_in b ≡ 18 * n)
apart-built n =
    let b = row-built scheme all-bits (apart n) (gap-few (length (codes (apart n)))) (apart-row n) (apart-says n) in
    (b.0, b.1 ∙ apart-bits n)

pub ends-bits : (n : ℕ) → length (codes (ours (ends n))) ≡ 9 * n
unfolding ends size ours codes pair special low bit
ends-bits zero = refl
ends-bits (suc n) = omega (arith, size-pair (ends n), ends-bits n)
