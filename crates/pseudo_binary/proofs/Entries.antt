-- The entries of the tables: indicators of each kind, up to the most that one counts, and the 64 values.
-- Assumes nothing.
use mathlib.Core.Path.{◌≡◌, refl, sym}
use mathlib.Core.Logic.{⊎_elim}
use mathlib.Core.List.Memᴰ
use Prim.Native.Nat.{ℕ, suc, pred, ◌≤◌, ◌<◌}
use native.Mathlib.Nat.{add-zero}
use native.Mathlib.Omega.{arith}
use Rattle.bits.specs.Numbers.{numbers}
use Rattle.bits.proofs.Numbers.{in-numbers, numbers-in}
use Rattle.codes.specs.Chain.{Entry, In, state_after}
use Rattle.pseudo_binary.specs.Table.{Kind, values, spaces, slashes, indicator, most, indicators, six, tables}
use Rattle.pseudo_binary.specs.Writer.{our_most}

-- an indicator of ours counts one at the least, and no more than one can
pub pred-our-most : (k : Kind) → suc (pred (our_most k)) ≡ our_most k
unfolding our_most
pred-our-most values = refl
pred-our-most spaces = refl
pred-our-most slashes = refl

pub our-most-few : (k : Kind) → our_most k ≤ most k
unfolding our_most most
our-most-few values = omega arith
our-most-few spaces = omega arith
our-most-few slashes = omega arith

counted-in : (k : Kind) (c : ℕ) → c < most k → In (indicator k c) (indicators k)
unfolding indicators
counted-in k c h = Memᴰ.map (indicator k) (numbers-in 0 (most k) c (omega arith) (omega arith))

pub indicator-in : (k : Kind) (c : ℕ) → c < most k → In (indicator k c) (tables 0)
unfolding tables
indicator-in values c h = Memᴰ.append_left _ (counted-in values c h)
indicator-in spaces c h = Memᴰ.append_right (indicators values) (Memᴰ.append_left (indicators slashes) (counted-in spaces c h))
indicator-in slashes c h = Memᴰ.append_right (indicators values) (Memᴰ.append_right (indicators spaces) (counted-in slashes c h))

pub six-in : (m v : ℕ) → v < 64 → In (six v) (tables (suc m))
unfolding tables
six-in m v h = Memᴰ.map six (numbers-in 0 64 v (omega arith) h)

-- and no others
abbrev pub Indicator : Entry → Type 0
Indicator e = (k : Kind) × (c : ℕ) × (c < most k) × (e ≡ indicator k c)

of-count : {e : Entry} (k : Kind) → In e (indicators k) → Indicator e
unfolding indicators
of-count k h =
    let m = Memᴰ.of_map (indicator k) (numbers 0 (most k)) h in
    let r = in-numbers 0 (most k) m.0 m.1 in
    (k, m.0, omega arith, sym m.2)

pub indicator-of : {e : Entry} → In e (tables 0) → Indicator e
unfolding tables
indicator-of h =
    ⊎_elim (of-count values) (λ j. ⊎_elim (of-count spaces) (of-count slashes) (Memᴰ.append_cases (indicators spaces) j))
    (Memᴰ.append_cases (indicators values) h)

pub six-of : {e : Entry} (m : ℕ) → In e (tables (suc m)) → (v : ℕ) × (v < 64) × (e ≡ six v)
unfolding tables
six-of m h =
    let l = Memᴰ.of_map six (numbers 0 64) h in
    let r = in-numbers 0 64 l.0 l.1 in
    (l.0, omega arith, sym l.2)

-- a value uses up one of those announced
pub after-six : (m v : ℕ) → state_after (suc m) (six v) ≡ m
unfolding state_after six
after-six m v = add-zero m
