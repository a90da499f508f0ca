-- Bytes of a buffer moved from one place to another: eight, one, and many, the last first.
-- Assumes nothing.
use mathlib.Core.List.{List, [], ◌∷◌, ◌++◌, append_assoc}
use mathlib.Core.Path.{◌≡◌, refl, sym, ap, ap₂, ◌∙◌}
use Prim.Native.Nat.{ℕ, zero, suc, ◌+◌, ◌<◌, ◌≤◌}
use native.Mathlib.Numerals.{add-one}
use native.Mathlib.Omega.{arith}
use lib.ListN.{length, take, drop, get_or, set, length-append, length-drop, take-append-drop}
use lib.Seq.{take-append-le, take-take, drop_at, drop-cons, drop-drop, drop-append-le, get_or-drop, set_split, sets-eq, length-take-le}
use Rattle.sections.specs.Steps.Moved.{moved_up}

-- ---- rows within rows

-- what lies in the front of a row lies in the row
pub within : (a b m : ℕ) (s : List ℕ) → a + b ≤ m → take b (drop a (take m s)) ≡ take b (drop a s)
within zero b m s fits = take-take b m s (omega arith)
within (suc a) b zero s fits = absurd (omega arith)
within (suc a) b (suc m) [] fits = refl
within (suc a) b (suc m) (x ∷ s) fits = within a b m s (omega arith)

-- ---- eight bytes, and one

first-eight : (l : List ℕ) → 8 ≤ length l
    → get_or l 0 0 ∷ get_or l 1 0 ∷ get_or l 2 0 ∷ get_or l 3 0 ∷ get_or l 4 0 ∷ get_or l 5 0 ∷ get_or l 6 0 ∷ get_or l 7 0 ∷ [] ≡ take 8 l
first-eight (a ∷ b ∷ c ∷ d ∷ e ∷ f ∷ g ∷ h ∷ l) enough = refl
first-eight (a ∷ b ∷ c ∷ d ∷ e ∷ f ∷ g ∷ []) enough = absurd (let no' : ⊥ = omega arith in no')
first-eight (a ∷ b ∷ c ∷ d ∷ e ∷ f ∷ []) enough = absurd (let no' : ⊥ = omega arith in no')
first-eight (a ∷ b ∷ c ∷ d ∷ e ∷ []) enough = absurd (let no' : ⊥ = omega arith in no')
first-eight (a ∷ b ∷ c ∷ d ∷ []) enough = absurd (let no' : ⊥ = omega arith in no')
first-eight (a ∷ b ∷ c ∷ []) enough = absurd (let no' : ⊥ = omega arith in no')
first-eight (a ∷ b ∷ []) enough = absurd (let no' : ⊥ = omega arith in no')
first-eight (a ∷ []) enough = absurd (let no' : ⊥ = omega arith in no')
first-eight [] enough = absurd (let no' : ⊥ = omega arith in no')

-- eight bytes from a place on
pub eight-from : (s : List ℕ) (p : ℕ) → p + 8 ≤ length s
    → get_or s p 0 ∷ get_or s (p + 1) 0 ∷ get_or s (p + 2) 0 ∷ get_or s (p + 3) 0 ∷ get_or s (p + 4) 0 ∷ get_or s (p + 5) 0 ∷ get_or s (p + 6) 0 ∷ get_or s (p + 7) 0 ∷ []
    ≡ take 8 (drop p s)
eight-from s p fits =
    let at : (k : ℕ) → get_or (drop p s) k 0 ≡ get_or s (p + k) 0 = λ k. get_or-drop p s k 0 in
    let first : get_or (drop p s) 0 0 ≡ get_or s p 0 = at 0 ∙ ap (λ (k : ℕ). get_or s k 0) (let same : p + 0 ≡ p = omega arith in same) in
    (λ i.
    sym first i ∷ sym (at 1) i ∷ sym (at 2) i ∷ sym (at 3) i ∷ sym (at 4) i ∷ sym (at 5) i ∷ sym (at 6) i ∷ sym (at 7) i ∷ [])
    ∙ first-eight (drop p s) (omega (arith, length-drop p s))

-- and eight put there
pub eight-put : (s : List ℕ) (p a b c d e f g h : ℕ) → p + 8 ≤ length s
    → set (set (set (set (set (set (set (set s p a) (p + 1) b) (p + 2) c) (p + 3) d) (p + 4) e) (p + 5) f) (p + 6) g) (p + 7) h
    ≡ take p s ++ ((a ∷ b ∷ c ∷ d ∷ e ∷ f ∷ g ∷ h ∷ []) ++ drop (p + 8) s)
eight-put s p a b c d e f g h fits =
    let p1 : p + 1 ≡ suc p = omega arith in
    let p2 : p + 2 ≡ suc (suc p) = omega arith in
    let p3 : p + 3 ≡ suc (suc (suc p)) = omega arith in
    let p4 : p + 4 ≡ suc (suc (suc (suc p))) = omega arith in
    let p5 : p + 5 ≡ suc (suc (suc (suc (suc p)))) = omega arith in
    let p6 : p + 6 ≡ suc (suc (suc (suc (suc (suc p))))) = omega arith in
    let p7 : p + 7 ≡ suc (suc (suc (suc (suc (suc (suc p)))))) = omega arith in
    (λ i. set (set (set (set (set (set (set (set s p a) (p1 i) b) (p2 i) c) (p3 i) d) (p4 i) e) (p5 i) f) (p6 i) g) (p7 i) h)
    ∙ sets-eq (a ∷ b ∷ c ∷ d ∷ e ∷ f ∷ g ∷ h ∷ []) s p fits
    ∙ append_assoc (take p s) (a ∷ b ∷ c ∷ d ∷ e ∷ f ∷ g ∷ h ∷ []) (drop (p + 8) s)

-- one byte, read at one place and put at another
pub one-moved : (s : List ℕ) (from to : ℕ) → from < length s → to < length s
    → set s to (get_or s from 0) ≡ take to s ++ (take 1 (drop from s) ++ drop (to + 1) s)
one-moved s from to there room =
    set_split s to (get_or s from 0) room
    ∙ ap₂ (λ (l : List ℕ) (m : ℕ). take to s ++ (l ++ drop m s)) (sym (ap (take 1) (drop-cons s from 0 there))) (sym (add-one to))

-- ---- bytes moved up, the last first

module _ (s : List ℕ) (from to count : ℕ) (up : from ≤ to) (room : to + count ≤ length s) where
  abbrev moved : ℕ → List ℕ
  moved = moved_up s from to count

  row-length : length (take count (drop from s)) ≡ count
  row-length = length-take-le count (drop from s) (omega (arith, length-drop from s))

  pub moved-next : (left next few : ℕ) → left ≡ next + few → left ≤ count → (body after : List ℕ) → body ≡ moved left
      → after ≡ take (to + next) body ++ (take few (drop (from + next) body) ++ drop (to + next + few) body) → after ≡ moved next
  moved-next left next few e le body after is moves =
      let row = take count (drop from s) in
      let tail = drop (to + count) s in
      let behind = drop left row ++ tail in
      let long : length (take (to + left) s) ≡ to + left = length-take-le (to + left) s (omega arith) in
      let front : take (to + next) (moved left) ≡ take (to + next) s =
      take-append-le (to + next) (take (to + left) s) behind (omega (arith, long)) ∙ take-take (to + next) (to + left) s (omega arith) in
      let middle : take few (drop (from + next) (moved left)) ≡ take few (drop next row) =
      ap (take few) (drop-append-le (from + next) (take (to + left) s) behind (omega (arith, long)))
      ∙ take-append-le few (drop (from + next) (take (to + left) s)) behind (omega (arith, long, length-drop (from + next) (take (to + left) s)))
      ∙ within (from + next) few (to + left) s (omega arith)
      ∙ sym (within next few count (drop from s) (omega arith) ∙ ap (take few) (drop-drop next from s)) in
      let end : drop (to + next + few) (moved left) ≡ behind = drop_at (take (to + left) s) behind (to + next + few) (omega (arith, long)) in
      let rest : take few (drop next row) ++ drop left row ≡ drop next row =
      ap (λ (l : List ℕ). take few (drop next row) ++ l) (ap (λ (m : ℕ). drop m row) e ∙ sym (drop-drop few next row))
      ∙ take-append-drop few (drop next row) in
      moves
      ∙ ap (λ (b : List ℕ). take (to + next) b ++ (take few (drop (from + next) b) ++ drop (to + next + few) b)) is
      ∙ ap₂ (λ (l m : List ℕ). l ++ m) front
      (ap₂ (λ (l m : List ℕ). l ++ m) middle end
      ∙ sym (append_assoc (take few (drop next row)) (drop left row) tail)
      ∙ ap (λ (l : List ℕ). l ++ tail) rest)

  pub moved_length : (left : ℕ) → left ≤ count → length (moved left) ≡ length s
  moved_length left le =
      let row = take count (drop from s) in
      omega (
        arith,
        length-append (take (to + left) s) (drop left row ++ drop (to + count) s),
        length-append (drop left row) (drop (to + count) s),
        length-take-le (to + left) s (omega arith),
        length-drop left row,
        row-length,
        length-drop (to + count) s,
      )

  -- the rest moved after some
  pub rest-moved : (left : ℕ) → left ≤ count → (body after : List ℕ) → body ≡ moved left → after ≡ moved_up body from to left 0
      → after ≡ take to s ++ (take count (drop from s) ++ drop (to + count) s)
  rest-moved left le body after is moves =
      moved-next left 0 left (omega arith) le body after is
      (moves
      ∙ (let none : from ≡ from + 0 = omega arith in
      let end : to + left ≡ to + 0 + left = omega arith in
      λ i. take (to + 0) body ++ (take left (drop (none i) body) ++ drop (end i) body)))
      ∙ ap (λ (m : ℕ). take m s ++ (take count (drop from s) ++ drop (to + count) s)) (let same : to + 0 ≡ to = omega arith in same)
