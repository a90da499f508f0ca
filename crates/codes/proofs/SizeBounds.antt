-- How many codes data can have, how long a text can be, and where a reading can be stuck.
-- Assumes nothing.
use mathlib.Core.Path.{ap}
use mathlib.Core.Bool.{Bool, ◌&&◌}
use mathlib.Core.List.{List, [], ◌∷◌}
use Prim.Native.Nat.{ℕ, ◌+◌, ◌*◌, ◌≤◌, zero-le}
use native.Mathlib.Nat.{mul-add, mul-le-mul_left}
use native.Mathlib.Numerals.{unary_clauses}
use native.Mathlib.Omega.{arith}
use lib.Dec.{T, leb, leb→le}
use lib.ListN.{length, length-append}
use Rattle.codes.specs.Chain.{Entry, Scheme, In, state_after, Row, codes, texts, Builds, Stuck, count_in, count_before, Built, Malformed}
use Rattle.codes.specs.Steps.Passed.{Passed}
use Rattle.bits.proofs.Said.{and_left, and_right}
use Rattle.codes.proofs.EveryElement.{every, every-at}
use Rattle.codes.proofs.BitsInBytes.{length-bits}
use Rattle.codes.proofs.SchemeLaws.{Laws}

-- the entry says at most k characters a bit
unfoldable pub brief : ℕ → Entry → Bool
brief k e = leb (length e.says) (k * length e.code)

module _ (scheme : Scheme) (k : ℕ) (all : (m : ℕ) → T (every (brief k) (scheme.table m))) where
  row_within : (m n : ℕ) (es : List Entry) → Row scheme m es n → length (texts es) ≤ k * length (codes es)
  unfolding codes texts brief
  row_within m n [] r = zero-le
  row_within m n (e ∷ es) r =
      omega (
        arith,
        leb→le (length e.says) (k * length e.code) (every-at (brief k) (scheme.table m) (all m) e r.0),
        row_within (state_after m e) n es r.1,
        length-append e.says (texts es),
        ap (λ (x : ℕ). k * x) (length-append e.code (codes es)),
        mul-add k (length e.code) (length (codes es)),
      )

  -- and so does a reading
  pub builds-within : {m : ℕ} {bs t : List ℕ} → Builds scheme m bs t → length t ≤ k * length bs
  builds-within {m} {bs} {t} r =
      let front : length (codes r.entries) ≤ length bs = omega (arith, ap length r.bits, length-append (codes r.entries) r.fill) in
      omega (arith, ap length r.says, row_within m 0 r.entries r.row, mul-le-mul_left k front)

-- a code has a bit or more, so there are no more codes than bits
module _ {scheme : Scheme} (laws : Laws scheme) where
  row_count : (m n : ℕ) (es : List Entry) → Row scheme m es n → length es ≤ length (codes es)
  unfolding codes
  row_count m n [] r = zero-le
  row_count m n (e ∷ es) r = omega (arith, laws.has-bits m e r.0, row_count (state_after m e) n es r.1, length-append e.code (codes es))

  pub builds-count : {m : ℕ} {bs t : List ℕ} (b : Builds scheme m bs t) → count_in b ≤ length bs
  builds-count {m} b = omega (arith, row_count m 0 b.entries b.row, ap length b.bits, length-append (codes b.entries) b.fill)

  pub stuck-count : {m i : ℕ} {bs : List ℕ} (s : Stuck scheme m bs i) → count_before s ≤ length bs
  stuck-count {m} s = omega (arith, row_count m s.state s.entries s.row, ap length s.bits, length-append (codes s.entries) s.rest)

  pub passed-within : {bs rest said : List ℕ} {m k : ℕ} → Passed scheme bs m rest said k → k + length rest ≤ length bs
  passed-within {rest = rest} {m = m} p =
      omega (arith, p.count, row_count 0 m p.entries p.row, ap length p.bits, length-append (codes p.entries) rest)

pub stuck-within : {scheme : Scheme} {m i : ℕ} {bs : List ℕ} → Stuck scheme m bs i → i ≤ length bs
stuck-within s = omega (arith, s.place, ap length s.bits, length-append (codes s.entries) s.rest)

-- a code of so many bits or more, and so many characters or fewer
unfoldable pub sized : ℕ → ℕ → Entry → Bool
sized shortest longest e = leb shortest (length e.code) && leb (length e.says) longest

module _ (scheme : Scheme) (shortest longest : ℕ) (t : (m : ℕ) → T (every (sized shortest longest) (scheme.table m))) where
  entry-sized : (m : ℕ) (e : Entry) → In e (scheme.table m) → (shortest ≤ length e.code) × (length e.says ≤ longest)
  unfolding sized
  entry-sized m e h =
      let a : Bool = leb shortest (length e.code) in
      let b : Bool = leb (length e.says) longest in
      let u : T (a && b) = every-at (sized shortest longest) (scheme.table m) (t m) e h in
      (leb→le shortest (length e.code) (and_left a b u), leb→le (length e.says) longest (and_right a b u))

  row_sized : (m n : ℕ) (es : List Entry) → Row scheme m es n
      → (shortest * length es ≤ length (codes es)) × (length (texts es) ≤ longest * length es)
  unfolding codes texts
  row_sized m n [] r = (omega arith, omega arith)
  row_sized m n (e ∷ es) r =
      let s = entry-sized m e r.0 in
      let l = row_sized (state_after m e) n es r.1 in (
        simp unary_clauses (omega (arith, length-append e.code (codes es), s.0, l.0)),
        simp unary_clauses (omega (arith, length-append e.says (texts es), s.1, l.1)),
      )

  -- how many codes a building has, or a reading that is stuck has read, and how long the text of a building is
  pub few-codes : {text : List ℕ} (sent : List ℕ) (b : Built scheme text sent) → shortest * count_in b ≤ 8 * length sent
  few-codes sent b =
      omega (
        arith,
        (row_sized 0 0 b.entries b.row).0,
        length-bits sent,
        ap length b.bits,
        length-append (codes b.entries) b.fill,
      )

  pub few-before : {i : ℕ} (sent : List ℕ) (s : Malformed scheme sent i) → shortest * count_before s ≤ 8 * length sent
  few-before sent s =
      omega (
        arith,
        (row_sized 0 s.state s.entries s.row).0,
        length-bits sent,
        ap length s.bits,
        length-append (codes s.entries) s.rest,
      )

  pub short-text : {text : List ℕ} (sent : List ℕ) (b : Built scheme text sent) → length text ≤ longest * count_in b
  short-text sent b = omega (arith, (row_sized 0 0 b.entries b.row).1, ap length b.says)
