-- `writer::put_header` meets its contract.
-- Assumes nothing.
use mathlib.Core.List.{List, [], ◌∷◌}
use mathlib.Core.Path.{◌≡◌, refl, ap, ◌∙◌}
use Prim.Native.Nat.{ℕ, ◌≤◌}
use native.Mathlib.Omega.{arith}
use lib.ListN.{length, get_or, set, drop}
use Rattle.header.specs.Fields.{bytes_of}
use Rattle.writer.proofs.put_header.Goals as goal

four : (s : List ℕ) (a b c d : ℕ) → 4 ≤ length s → set (set (set (set s 0 a) 1 b) 2 c) 3 d ≡ a ∷ b ∷ c ∷ d ∷ drop 4 s
four [] a b c d h = absurd (let no' : ⊥ = omega arith in no')
four (w ∷ []) a b c d h = absurd (let no' : ⊥ = omega arith in no')
four (w ∷ x ∷ []) a b c d h = absurd (let no' : ⊥ = omega arith in no')
four (w ∷ x ∷ y ∷ []) a b c d h = absurd (let no' : ⊥ = omega arith in no')
four (w ∷ x ∷ y ∷ z ∷ s) a b c d h = refl

pub returns : goal.returns
unfolding bytes_of
returns c =
    let s = c.args.packet.now in
    four s _ _ _ _ c.requires
    ∙ ap (λ (l : List ℕ). get_or l 0 0 ∷ get_or l 1 0 ∷ get_or l 2 0 ∷ get_or l 3 0 ∷ drop 4 s) c.to_be_bytes.ensures
