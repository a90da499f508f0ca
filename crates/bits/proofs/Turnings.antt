-- The ways to turn over at most so many bits: each has its places below the width, and as many ones as places; and every number with so few ones is one.
-- Assumes nothing.
use mathlib.Core.List.Memᴰ
use mathlib.Core.List.{List, [], ◌∷◌, ◌++◌, map, Memᴰ}
use mathlib.Core.Logic.{◌⊎◌, inl, inr}
use mathlib.Core.Path.{◌≡◌, refl, sym, ap, ◌∙◌, subst}
use Prim.Native.Nat.{ℕ, zero, suc, ◌+◌, ◌^◌, ◌≤◌, ◌<◌}
use native.Mathlib.Nat.{pow-suc}
use native.Mathlib.Decide.{dec_le}
use native.Mathlib.Omega.{arith}
use lib.Arith.{lt-one}
use lib.Count.{ones_in}
use lib.ListN.{length}
use lib.Pow.{pow_pos}
use Rattle.bits.specs.Turnings.{chosen, turnings, mask_of}
use Rattle.bits.proofs.Ones.{ones_of_zero, no_ones, Top, top, without-top, with-top}

-- every place is below a width
abbrev pub Below : ℕ → List ℕ → Type 0
Below width [] = Unit {0}
Below width (place ∷ places) = (place < width) × Below width places

below_more : (width : ℕ) (places : List ℕ) → Below width places → Below (suc width) places
below_more width [] b = tt
below_more width (place ∷ places) b = (omega (arith, b.0), below_more width places b.1)

-- ---- what is chosen

pub record Turning (width : ℕ) (places : List ℕ) : Type 0 where
  pub below : Below width places
  pub bits : mask_of places < 2 ^ width
  pub ones : ones_in width (mask_of places) ≡ length places

none-turned : (width : ℕ) → Turning width []
unfolding mask_of
none-turned width = record { below = tt; bits = pow_pos width; ones = ones_of_zero width }

-- with the highest place,
highest-turned : (width : ℕ) (places : List ℕ) → Turning width places → Turning (suc width) (width ∷ places)
unfolding mask_of
highest-turned width places t =
    record {
      below = (omega arith, below_more width places t.below);
      bits = omega (arith, t.bits, pow-suc 2 width);
      ones = with-top width (mask_of places) t.bits ∙ ap suc t.ones;
    }

-- and without it
wider-turned : (width : ℕ) (places : List ℕ) → Turning width places → Turning (suc width) places
wider-turned width places t =
    record {
      below = below_more width places t.below;
      bits = omega (arith, t.bits, pow-suc 2 width, pow_pos width);
      ones = without-top width (mask_of places) t.bits ∙ t.ones;
    }

chosen-told : (many width : ℕ) (places : List ℕ) → Memᴰ places (chosen many width) → (length places ≡ many) × Turning width places
unfolding chosen
chosen-told zero width places m =
    subst (λ (l : List ℕ). (length l ≡ 0) × Turning width l) (sym (Memᴰ.eq_of_singleton m)) (refl, none-turned width)
chosen-told (suc many) zero places m = absurd (Memᴰ.not-nil m)
chosen-told (suc many) (suc width) places m =
    pick (chosen-told many width) (chosen-told (suc many) width)
    (Memᴰ.append_cases (map (λ (l : List ℕ). width ∷ l) (chosen many width)) m)
  where
    pick : ((l : List ℕ) → Memᴰ l (chosen many width) → (length l ≡ many) × Turning width l)
        → ((l : List ℕ) → Memᴰ l (chosen (suc many) width) → (length l ≡ suc many) × Turning width l)
        → Memᴰ places (map (λ (l : List ℕ). width ∷ l) (chosen many width)) ⊎ Memᴰ places (chosen (suc many) width)
        → (length places ≡ suc many) × Turning (suc width) places
    pick with_it without (inl m') =
        let from = Memᴰ.of_map (λ (l : List ℕ). width ∷ l) (chosen many width) m' in
        let told = with_it from.0 from.1 in
        subst (λ (l : List ℕ). (length l ≡ suc many) × Turning (suc width) l) from.2 (ap suc told.0, highest-turned width from.0 told.1)
    pick with_it without (inr m') = let told = without places m' in (told.0, wider-turned width places told.1)

-- each number is chosen among those with as many ones
abbrev Chosen : ℕ → ℕ → ℕ → Type 0
Chosen many width mask = (places : List ℕ) × Memᴰ places (chosen many width) × (mask_of places ≡ mask)

none-chosen : (width mask : ℕ) → mask ≡ 0 → Chosen 0 width mask
unfolding chosen mask_of
none-chosen width mask e = ([], Memᴰ.head refl, sym e)

highest-chosen : (many width mask rest : ℕ) → mask ≡ 2 ^ width + rest → Chosen many width rest → Chosen (suc many) (suc width) mask
unfolding chosen mask_of
highest-chosen many width mask rest e c = (
  width ∷ c.0,
  Memᴰ.append_left (chosen (suc many) width) (Memᴰ.map (λ (l : List ℕ). width ∷ l) c.1),
  ap (λ (n : ℕ). 2 ^ width + n) c.2 ∙ sym e,
)

wider-chosen : (many width mask : ℕ) → Chosen (suc many) width mask → Chosen (suc many) (suc width) mask
unfolding chosen
wider-chosen many width mask c = (c.0, Memᴰ.append_right (map (λ (l : List ℕ). width ∷ l) (chosen many width)) c.1, c.2)

every-chosen : (width many mask : ℕ) → mask < 2 ^ width → ones_in width mask ≡ many → Chosen many width mask
every-chosen width zero mask h e = none-chosen width mask (no_ones width mask h e)
every-chosen zero (suc many) mask h e = absurd (let no' : ⊥ = omega (arith, ap (ones_in 0) (lt-one h), ones_of_zero 0) in no')
every-chosen (suc width) (suc many) mask h e = pick (every-chosen width many) (every-chosen width (suc many)) (top width mask h)
  where
    pick : ((rest : ℕ) → rest < 2 ^ width → ones_in width rest ≡ many → Chosen many width rest)
        → ((rest : ℕ) → rest < 2 ^ width → ones_in width rest ≡ suc many → Chosen (suc many) width rest)
        → Top width mask → Chosen (suc many) (suc width) mask
    pick with_it without (inl low) = wider-chosen many width mask (without mask low (sym (without-top width mask low) ∙ e))
    pick with_it without (inr (rest, low, whole)) =
        highest-chosen many width mask rest whole
        (with_it rest low (omega (arith, with-top width rest low, e, ap (ones_in (suc width)) whole)))

-- ---- at most so many

pub turning-told : (most width : ℕ) (places : List ℕ) → Memᴰ places (turnings most width) → (length places ≤ most) × Turning width places
unfolding turnings
turning-told zero width places m = let told = chosen-told zero width places m in (omega (arith, told.0), told.1)
turning-told (suc most) width places m = pick (turning-told most width places) (Memᴰ.append_cases (turnings most width) m)
  where
    pick : (Memᴰ places (turnings most width) → (length places ≤ most) × Turning width places)
        → Memᴰ places (turnings most width) ⊎ Memᴰ places (chosen (suc most) width) → (length places ≤ suc most) × Turning width places
    pick fewer (inl m') = let told = fewer m' in (omega (arith, told.0), told.1)
    pick fewer (inr m') = let told = chosen-told (suc most) width places m' in (omega (arith, told.0), told.1)

among : (most width many : ℕ) (places : List ℕ) → many ≤ most → Memᴰ places (chosen many width) → Memᴰ places (turnings most width)
unfolding turnings
among zero width zero places h m = m
among zero width (suc many) places h m = absurd (let no' : ⊥ = omega arith in no')
among (suc most) width many places h m = pick (among most width many places) (dec_le many most)
  where
    pick : (many ≤ most → Memᴰ places (chosen many width) → Memᴰ places (turnings most width)) → Dec (many ≤ most)
        → Memᴰ places (turnings most width ++ chosen (suc most) width)
    pick fewer (yes le) = Memᴰ.append_left (chosen (suc most) width) (fewer le m)
    pick fewer (no more) =
        Memᴰ.append_right (turnings most width) (subst (λ (n : ℕ). Memᴰ places (chosen n width)) (let all : many ≡ suc most = omega arith in all) m)

pub every-turning : (most width mask : ℕ) → mask < 2 ^ width → ones_in width mask ≤ most
    → (places : List ℕ) × Memᴰ places (turnings most width) × (mask_of places ≡ mask)
every-turning most width mask h few =
    let c = every-chosen width (ones_in width mask) mask h refl in
    (c.0, among most width (ones_in width mask) c.0 few c.1, c.2)
