-- Sections as functions take them, and rows that are put into a part of a buffer.
-- Assumes nothing.
use mathlib.Core.Bool.{Bool}
use mathlib.Core.List.{List, [], ◌∷◌, ◌++◌, append_assoc}
use mathlib.Core.Path.{◌≡◌, sym, ap, ap₂, ◌∙◌, subst₂}
use Prim.Native.Nat.{ℕ, ◌+◌, ◌-◌, ◌*◌, ◌<◌, ◌≤◌, min}
use native.Mathlib.Numerals.{add-one}
use native.Mathlib.Omega.{arith}
use lib.ListN.{length, take, drop, get_or, length-drop, take-append-drop}
use lib.Seq.{take_at, take-length, drop_at, drop-drop, drop-append-le, length-take-le}
use Rattle.bits.specs.Says.{Says}
use Rattle.checksum.specs.Checksum.{checksum_bytes}
use Rattle.sections.specs.Sections.{section_count, sent_length, in_turn, size_of, section_in, sum_behind, RightSum}
use Rattle.sections.proofs.Found.{section-in-length, joined-front-length}
use Rattle.sections.proofs.OneSection.{two_bytes}

-- ---- a section, as it is lent

module _ (n k size : ℕ) (came : List ℕ) (is : size ≡ size_of n k) where
  pub lent-section : take (k * 4002 + size - k * 4002) (drop (k * 4002) came) ≡ section_in n came k
  unfolding section_in
  lent-section = ap (λ (m : ℕ). take m (drop (k * 4002) came)) (let same : k * 4002 + size - k * 4002 ≡ size_of n k = omega arith in same)

  lent-sum : k * 4002 + size + 2 ≤ length came
      → get_or came (k * 4002 + size) 0 ∷ get_or came (k * 4002 + size + 1) 0 ∷ [] ≡ sum_behind n came k
  unfolding sum_behind
  lent-sum fits =
      sym (two_bytes came (k * 4002 + size) fits) ∙ ap (λ (m : ℕ). take 2 (drop (k * 4002 + m) came)) is

  -- what the test of its checksum says
  pub tested : k * 4002 + size + 2 ≤ length came → (answer : Bool)
      → Says answer
      (get_or came (k * 4002 + size) 0 ∷ get_or came (k * 4002 + size + 1) 0 ∷ [] ≡ checksum_bytes (take (k * 4002 + size - k * 4002) (drop (k * 4002) came)))
      → Says answer (RightSum n came k)
  tested fits answer says = subst₂ (λ (x y : List ℕ). Says answer (x ≡ checksum_bytes y)) (lent-sum fits) lent-section says

-- ---- a part of a buffer that was lent, with a row put at its front

-- the part of k bytes from place a on
pub part-put : (s row x : List ℕ) (a k z : ℕ) → z ≤ k → a + k ≤ length s → x ≡ row ++ drop z (take k (drop a s))
    → take a s ++ (x ++ drop k (drop a s)) ≡ take a s ++ (row ++ drop (a + z) s)
part-put s row x a k z held room put =
    let lent : length (take k (drop a s)) ≡ k = length-take-le k (drop a s) (omega (arith, length-drop a s)) in
    ap (λ (l : List ℕ). take a s ++ l)
    (ap (λ (l : List ℕ). l ++ drop k (drop a s)) put
    ∙ append_assoc row (drop z (take k (drop a s))) (drop k (drop a s))
    ∙ ap (λ (l : List ℕ). row ++ l)
    (sym (drop-append-le z (take k (drop a s)) (drop k (drop a s)) (omega arith))
    ∙ ap (drop z) (take-append-drop k (drop a s))
    ∙ drop-drop z a s))

-- all from place a on, where rows of so many bytes stand before it
put_next : (front row out₀ out x : List ℕ) (a z : ℕ) → a + z ≤ length out → length front ≡ a → out ≡ front ++ drop a out₀
    → x ≡ row ++ drop z (take (length out - a) (drop a out))
    → take a out ++ (x ++ drop (length out - a) (drop a out)) ≡ (front ++ row) ++ drop (a + z) out₀
put_next front row out₀ out x a z room long there put =
    part-put out row x a (length out - a) z (omega arith) (omega arith) put
    ∙ ap₂ (λ (l m : List ℕ). l ++ (row ++ m)) (ap (take a) there ∙ take_at front (drop a out₀) a long)
    (sym (drop-drop z a out) ∙ ap (drop z) (ap (drop a) there ∙ drop_at front (drop a out₀) a long) ∙ drop-drop z a out₀)
    ∙ sym (append_assoc front row (drop (a + z) out₀))

-- section k behind those before it, in a buffer
pub join-next : (n : ℕ) (came : List ℕ) → sent_length n ≤ length came → (k size : ℕ) → k < section_count n → size ≡ size_of n k
    → (out₀ out x : List ℕ) → n ≤ length out → out ≡ in_turn (section_in n came) k ++ drop (min n (k * 4000)) out₀
    → (let part = take (k * 4002 + size - k * 4002) (drop (k * 4002) came) in
    x ≡ take (length part) part ++ drop (length part) (take (length out - k * 4000) (drop (k * 4000) out)))
    → take (k * 4000) out ++ (x ++ drop (length out - k * 4000) (drop (k * 4000) out))
    ≡ in_turn (section_in n came) (k + 1) ++ drop (min n ((k + 1) * 4000)) out₀
unfolding in_turn
join-next n came whole k size lt is out₀ out x room there put =
    let front = in_turn (section_in n came) k in
    let row = section_in n came k in
    let place : min n (k * 4000) ≡ k * 4000 = omega arith in
    let long : length row ≡ size_of n k = section-in-length n came whole k lt in
    let behind = take (length out - k * 4000) (drop (k * 4000) out) in
    put_next front row out₀ out x (k * 4000) size (omega arith) (joined-front-length n came whole k (omega arith) ∙ place)
    (there ∙ ap (λ (m : ℕ). front ++ drop m out₀) place)
    (put ∙ ap (λ (l : List ℕ). take (length l) l ++ drop (length l) behind) (lent-section n k size came is)
    ∙ ap₂ (λ (l : List ℕ) (m : ℕ). l ++ drop m behind) (take-length row) (long ∙ sym is))
    ∙ ap₂ (λ (l : List ℕ) (m : ℕ). l ++ drop m out₀) (ap (in_turn (section_in n came)) (sym (add-one k)))
    (let next : k * 4000 + size ≡ min n ((k + 1) * 4000) = omega arith in next)
