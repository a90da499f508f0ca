-- After the last character of a text: what goes behind it, and that nothing is still to come then. And when a text is certainly too long.
-- Assumes nothing.
use mathlib.Core.Path.{◌≡◌, sym, subst}
use mathlib.Core.List.{List, [], ◌++◌, append-nil}
use Prim.Native.Nat.{ℕ, ◌+◌, ◌*◌, ◌/◌, ◌%◌, ◌≤◌, ◌<◌}
use native.Mathlib.Nat.{div-lt_iff_lt-mul, mul_comm}
use native.Mathlib.Omega.{arith}
use lib.ListN.{length}
use Rattle.codes.specs.Chain.{Entry, codes}
use Rattle.codes.specs.Pack.{Binary, gap, written}
use Rattle.codes.specs.Steps.Sending.{SendsBits, PutSoFar}
use Rattle.codes.specs.declared.Held.{Held}
use Rattle.codes.proofs.PutSoFar.{put_whole, put-room, put-sent}

-- more characters than the room has for so many bits each two
pub too-long : (room fewest size : ℕ) → 1 ≤ fewest → room / fewest < size → room < fewest * size
too-long room fewest size some h = subst (λ (n : ℕ). room < n) (mul_comm size fewest) ((div-lt_iff_lt-mul some).0 h)

module _ (es : List Entry) (entry : List ℕ) (binary : Binary (codes es)) (held : length (written es) ≤ length entry) (out : List ℕ) (b : Held)
    (rest : ℕ → List ℕ) (i size : ℕ) (p : PutSoFar es entry out b (rest i)) (within : i ≤ size) (past : size ≤ i) where
  abbrev last : List ℕ
  last = rest size

  to-come : PutSoFar es entry out b last
  to-come = subst (λ (k : ℕ). PutSoFar es entry out b (rest k)) (let e : i ≡ size = omega arith in e) p

  before-none : PutSoFar es entry out b (last ++ [])
  before-none = subst (PutSoFar es entry out b) (sym (append-nil last)) to-come

  pub end-whole : (b.have + length last + gap (length (codes es))) % 8 ≡ 0
  end-whole = put_whole es entry binary held out b last to-come

  pub end-room : b.n + (b.have + length last) / 8 ≤ length out
  end-room = put-room es entry binary held out b last [] before-none

  pub end-sent : (exit : List ℕ) (r : Held) → SendsBits out exit b last r → PutSoFar es entry exit r []
  end-sent exit r s = put-sent es entry binary held out b last [] before-none exit r s

-- nothing goes behind it
pub nothing-sent : (out : List ℕ) (b : Held) {row : List ℕ} → b.have < 32 → row ≡ [] → SendsBits out out b row b
nothing-sent out b h e =
    subst (λ (l : List ℕ). SendsBits out out b l b) (sym e) (record { few = h; place = omega arith; same = λ w front m rest bytes room p. p })
