-- The header that a packet is read as is one, and what is said under it is said of it.
-- Assumes nothing.
use mathlib.Core.List.{List}
use mathlib.Core.Path.{◌≡◌, subst}
use Prim.Native.Nat.{ℕ}
use Rattle.distance.specs.Distance.{ValidWithin}
use Rattle.distance.proofs.Unique.{one-near}
use Rattle.terms.specs.declared.Terms.{Terms}
use Rattle.examine.specs.Examine.{UnderHeader}
use Rattle.packet.specs.Packet.{received}
use Rattle.terms.specs.Terms.{MayBeNamed}

module _ (terms : Terms) (named : MayBeNamed terms) (packet : List ℕ) where
  pub one-header : (v w : ℕ) → ValidWithin terms.mend (received packet) v → ValidWithin terms.mend (received packet) w → v ≡ w
  one-header v w = one-near terms.mend (received packet) v w named.bits

  -- a condition, of a header that the packet is read as
  pub under : (Condition : ℕ → Type 0) (header : ℕ) → ValidWithin terms.mend (received packet) header → UnderHeader terms packet Condition
      → Condition header
  under Condition header near (other, near', said) = subst Condition (one-header other header near' near) said
