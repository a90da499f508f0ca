-- At most one valid header lies within two bits of a word; and of a word that is too far from one, but not so far that it may be near another, none does.
-- Assumes nothing.
use mathlib.Core.Path.{◌≡◌, sym, subst}
use Prim.Native.Nat.{ℕ, ◌+◌, ◌≤◌, ◌<◌}
use native.Mathlib.Omega.{arith}
use Rattle.header.specs.Valid.{Valid}
use Rattle.distance.specs.Distance.{distance, ValidWithin}
use Rattle.distance.proofs.Apart.{near_same}
use Rattle.distance.proofs.Words.{distance-comm, distance-round}

pub one-near : (limit received v w : ℕ) → limit ≤ 2 → ValidWithin limit received v → ValidWithin limit received w → v ≡ w
one-near limit received v w le nv nw =
    near_same v w nv.valid nw.valid (omega (arith, distance-round v received w, distance-comm v received, nv.near, nw.near))

-- a word more than `limit` bits from a valid header, but with these no more than four, is not within `limit` bits of any
pub none_within : (limit received v : ℕ) → Valid v → limit < distance received v → limit + distance received v ≤ 4 → (w : ℕ) → ValidWithin limit received w → ⊥
none_within limit received v valid more few w nw =
    let same : v ≡ w = near_same v w valid nw.valid (omega (arith, distance-round v received w, distance-comm v received, nw.near)) in
    omega (arith, more, subst (λ (x : ℕ). distance received x ≤ limit) (sym same) nw.near)
