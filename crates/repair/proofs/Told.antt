-- What the entry of a difference says: the bits that account for it, or that no bits do.
-- Assumes nothing.
use mathlib.Core.List.Memᴰ
use mathlib.Core.List.{List, [], ◌∷◌, Memᴰ}
use mathlib.Core.Logic.{◌⊎◌, inl, inr}
use mathlib.Core.Path.{◌≡◌, refl, sym, ap, ap₂, ◌∙◌, subst, subst⁻¹}
use Prim.Native.Nat.{ℕ, ◌+◌, ◌*◌, ◌/◌, ◌%◌, ◌^◌, ◌≤◌, ◌<◌}
use native.Mathlib.Nat.{mod-eq_of_lt, zero-add, add-zero}
use native.Mathlib.Omega.{arith}
use lib.Count.{ones_in}
use lib.Dec.{T, eqb, eqb→eq, eqb_refl}
use lib.ListN.{length, get_or}
use lib.Pow.{pow-lt}
use Rattle.bits.specs.First.{first}
use Rattle.bits.specs.Turnings.{turnings, mask_of}
use Rattle.bits.proofs.First.{Searched, searched}
use Rattle.bits.proofs.Numbers.{map-numbers}
use Rattle.bits.proofs.Turnings.{Turning, turning-told, every-turning}
use Rattle.distance.specs.Steps.Left.{left}
use Rattle.distance.proofs.Left.{left-nothing}
use Rattle.repair.specs.Steps.Repair.{Accounts}
use Rattle.repair.specs.Table.{Leaving, leavings, entry_for, nothing, entry_of, entry_in, entries_in, entries}

-- ---- the ways

-- a way that leaves a difference accounts for it,
way-accounts : (difference : ℕ) (places : List ℕ) → Memᴰ places (turnings 2 31) → left (mask_of places) ≡ difference → Accounts difference (mask_of places)
way-accounts difference places m leaves =
    let told = turning-told 2 31 places m in
    record { bits = told.1.bits; few = omega (arith, told.0, told.1.ones); leaves = leaves }

-- and what accounts for it is one
accounts-way : (difference mask : ℕ) → Accounts difference mask
    → (way : Leaving) × Memᴰ way leavings × T (eqb way.0 difference)
unfolding leavings
accounts-way difference mask a =
    let found = every-turning 2 31 mask a.bits a.few in
    let leaves : left (mask_of found.0) ≡ difference = ap left found.2 ∙ a.leaves in
    ((left (mask_of found.0), found.0), Memᴰ.map (λ (places : List ℕ). (left (mask_of places), places)) found.1, subst (λ (n : ℕ). T (eqb (left (mask_of found.0)) n)) leaves (eqb_refl (left (mask_of found.0))))

-- ---- the places that an entry names

-- the word with ones at both, but for the parity's place
unfoldable pub bits_named : ℕ → ℕ
bits_named entry = 2 ^ (entry / 100) % 2 ^ 31 + 2 ^ (entry % 100) % 2 ^ 31

pub record Names (entry : ℕ) (places : List ℕ) : Type 0 where
  pub higher : entry / 100 < 32
  pub lower : entry % 100 < 32
  pub mask : bits_named entry ≡ mask_of places

place-bit : (place : ℕ) → place < 31 → 2 ^ place % 2 ^ 31 ≡ 2 ^ place
place-bit place low = mod-eq_of_lt (pow-lt low)

-- of an entry by its two places
by-places : (high low : ℕ) (entry : ℕ) → high < 32 → low < 32 → entry ≡ high * 100 + low
    → (entry / 100 ≡ high) × (entry % 100 ≡ low)
by-places high low entry h l e = (omega arith, omega arith)

-- one bit
pub one-named : (place : ℕ) → place < 31 → bits_named (3100 + place) ≡ 2 ^ place
unfolding bits_named
one-named place low =
    let p = by-places 31 place (3100 + place) (omega arith) (omega arith) (omega arith) in
    ap₂ (λ (x y : ℕ). 2 ^ x % 2 ^ 31 + 2 ^ y % 2 ^ 31) p.0 p.1
    ∙ ap (λ (n : ℕ). 0 + n) (place-bit place low)
    ∙ zero-add (2 ^ place)

names : (places : List ℕ) → length places ≤ 2 → Turning 31 places → Names (entry_for places) places
unfolding entry_for bits_named mask_of
names [] few t = record { higher = omega arith; lower = omega arith; mask = refl }
names (place ∷ []) few t =
    let p = by-places 31 place (3100 + place) (omega arith) (omega (arith, t.below.0)) (omega arith) in
    record {
      higher = omega (arith, p.0);
      lower = omega (arith, p.1, t.below.0);
      mask = one-named place t.below.0 ∙ sym (add-zero (2 ^ place));
    }
names (high ∷ low ∷ []) few t =
    let p = by-places high low (high * 100 + low) (omega (arith, t.below.0)) (omega (arith, t.below.1.0)) (omega arith) in
    record {
      higher = omega (arith, p.0, t.below.0);
      lower = omega (arith, p.1, t.below.1.0);
      mask =
          ap₂ (λ (x y : ℕ). 2 ^ x % 2 ^ 31 + 2 ^ y % 2 ^ 31) p.0 p.1
          ∙ ap₂ (λ (x y : ℕ). x + y) (place-bit high t.below.0) (place-bit low t.below.1.0)
          ∙ (let e : 2 ^ high + 2 ^ low ≡ 2 ^ high + (2 ^ low + 0) = omega arith in e);
    }
names (a ∷ b ∷ c ∷ more) few t = absurd (let no' : ⊥ = omega arith in no')

-- ---- the entry of a difference

-- it names bits that account for the difference, or says that there are none
abbrev EntrySays : ℕ → ℕ → Type 0
EntrySays difference entry =
    ((entry ≡ nothing) × ((mask : ℕ) → Accounts difference mask → ⊥))
    ⊎ ((places : List ℕ) × Names entry places × Accounts difference (mask_of places))

found-says : (difference : ℕ) → Searched (λ (way : Leaving). eqb way.0 difference) leavings (first (λ (way : Leaving). eqb way.0 difference) leavings)
    → EntrySays difference (entry_in leavings difference)
unfolding entry_in entry_of leavings
found-says difference (inl none) =
    inl (ap entry_of none.0, λ mask a. let way = accounts-way difference mask a in none.1 way.0 way.1 way.2)
found-says difference (inr some) =
    let way = some.0 in
    let made = Memᴰ.of_map (λ (places : List ℕ). (left (mask_of places), places)) (turnings 2 31) some.1.stands in
    let places = made.0 in
    let told = turning-told 2 31 places made.1 in
    let leaves : left (mask_of places) ≡ difference = ap (λ (w : Leaving). w.0) made.2 ∙ eqb→eq way.0 difference some.1.passes in
    let entry : entry_for places ≡ entry_of (first (λ (w : Leaving). eqb w.0 difference) leavings) =
    ap (λ (w : Leaving). entry_for w.1) made.2 ∙ sym (ap entry_of some.2) in
    inr (places, subst (λ (n : ℕ). Names n places) entry (names places told.0 told.1), way-accounts difference places made.1 leaves)

entry_at : (difference : ℕ) → difference < 2 ^ 10 → get_or entries difference 0 ≡ entry_in leavings difference
unfolding entries entries_in
entry_at difference low = map-numbers (entry_in leavings) 0 1024 difference (omega arith) ∙ ap (entry_in leavings) (zero-add difference)

entry-says : (difference : ℕ) → difference < 2 ^ 10 → EntrySays difference (get_or entries difference 0)
entry-says difference low =
    subst (EntrySays difference) (sym (entry_at difference low)) (found-says difference (searched (λ (way : Leaving). eqb way.0 difference) leavings))

-- ---- in the code's terms

module _ (difference : ℕ) (low : difference < 2 ^ 10) (entry : ℕ) (is : entry ≡ get_or entries difference 0) where
  says : EntrySays difference entry
  says = subst⁻¹ (EntrySays difference) is (entry-says difference low)

  -- an entry that names bits is not the one that says there are none
  apart : (places : List ℕ) → Names entry places → entry ≡ nothing → ⊥
  unfolding nothing
  apart places n e = omega (arith, n.higher, e)

  pub none_told : entry ≡ nothing → (mask : ℕ) → Accounts difference mask → ⊥
  none_told e = pick says
    where
      pick : EntrySays difference entry → (mask : ℕ) → Accounts difference mask → ⊥
      pick (inl none) = none.1
      pick (inr some) = absurd (apart some.0 some.1 e)

  pub record BitsTold : Type 0 where
    pub higher : entry / 100 < 32
    pub lower : entry % 100 < 32
    pub account : (mask : ℕ) → mask ≡ bits_named entry → Accounts difference mask

  pub bits-told : (entry ≡ nothing → ⊥) → BitsTold
  bits-told other = pick says
    where
      pick : EntrySays difference entry → BitsTold
      pick (inl none) = absurd (other none.0)
      pick (inr some) =
          let n = some.1 in
          record { higher = n.higher; lower = n.lower; account = λ mask e. subst (Accounts difference) (sym (e ∙ n.mask)) some.2 }

-- no difference: no bit
pub no_bits : Accounts 0 0
unfolding ones_in
no_bits = record { bits = omega arith; few = omega arith; leaves = left-nothing }
