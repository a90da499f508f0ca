-- Values as they are taken out of the bits, one or eight at a time, and laid as characters.
-- Assumes nothing.
use mathlib.Core.Path.{◌≡◌, refl, sym, ap, ap₂, subst⁻¹, ◌∙◌}
use mathlib.Core.List.{List, [], ◌∷◌, ◌++◌, append_assoc}
use Prim.Native.Nat.{ℕ, zero, suc, ◌+◌, ◌-◌, ◌*◌, ◌/◌, ◌%◌, ◌^◌, ◌≤◌, ◌<◌}
use native.Mathlib.Nat.{zero-add, suc-add}
use native.Mathlib.Omega.{arith}
use lib.ListN.{length, take, drop, get_or, set, length-append, length-set}
use lib.Pow.{field, mod-mod-pow, shr-shr}
use lib.Seq.{length-take-le, take_at, drop-drop, drop-append-add}
use Rattle.bits.specs.Row.{bits}
use Rattle.codes.specs.Steps.BitBuffer.{ahead}
use Rattle.codes.specs.Steps.Laid.{laid}
use Rattle.codes.specs.Pack.{value}
use Rattle.codes.specs.Steps.EightBytes.{eight_at, spilled}
use Rattle.codes.proofs.LaidRows.{laid_nil, laid-laid, length-laid, set-laid}
use Rattle.codes.proofs.LowBits.{value_low}
use Rattle.codes.proofs.EachByte.{each_at}
use Rattle.codes.proofs.EightBytes.{eight-bits}
use Rattle.pseudo_binary.specs.Table.{character_of}
use Rattle.pseudo_binary_reader.specs.Steps.Taken.{Spread, Eight, Top, characters_in}
use Rattle.pseudo_binary_reader.proofs.Starts.{ahead-part}
use Rattle.pseudo_binary_reader.proofs.Values.{length-characters}

-- some values and then more
pub characters-add : (k m : ℕ) (bs : List ℕ) → characters_in (k + m) bs ≡ characters_in k bs ++ characters_in m (drop (6 * k) bs)
unfolding characters_in
characters-add zero m bs = ap (λ (n : ℕ). characters_in n bs) (zero-add m)
characters-add (suc k) m bs =
    ap (λ (n : ℕ). characters_in n bs) (suc-add k m)
    ∙ ap (λ (l : List ℕ). character_of (value (take 6 bs)) ∷ l)
    (characters-add k m (drop 6 bs)
    ∙ ap (λ (l : List ℕ). characters_in k (drop 6 bs) ++ characters_in m l)
    (drop-drop (6 * k) 6 bs ∙ ap (λ (n : ℕ). drop n bs) (let e : 6 + 6 * k ≡ 6 * suc k = omega arith in e)))

-- the first k values of the bits are laid from place n on
module _ (bs entry out : List ℕ) (n k : ℕ) (so_far : out ≡ laid entry n (characters_in k bs)) (room : n + k ≤ length entry) where
  pub taken-length : length out ≡ length entry
  taken-length = ap length so_far ∙ length-laid entry n (characters_in k bs) (omega (arith, length-characters k bs))

  -- and then m more
  pub taken_more : (exit : List ℕ) (m place : ℕ) → place ≡ n + k → exit ≡ laid out place (characters_in m (drop (6 * k) bs))
      → exit ≡ laid entry n (characters_in (k + m) bs)
  taken_more exit m place e d =
      d
      ∙ ap (λ (l : List ℕ). laid l place (characters_in m (drop (6 * k) bs))) so_far
      ∙ laid-laid entry n place (characters_in k bs) (characters_in m (drop (6 * k) bs)) (omega (arith, length-characters k bs))
      (omega (arith, length-characters k bs))
      ∙ ap (laid entry n) (sym (characters-add k m bs))

  -- or one
  pub taken-one : (x : ℕ) → n + k < length entry → x ≡ character_of (value (take 6 (drop (6 * k) bs)))
      → set out (n + k) x ≡ laid entry n (characters_in (k + 1) bs)
  unfolding characters_in
  taken-one x h e =
      taken_more (set out (n + k) x) 1 (n + k) refl
      (set-laid out (n + k) x (omega (arith, taken-length)) ∙ ap (λ (y : ℕ). laid out (n + k) (y ∷ [])) e)

pub taken_none : (bs entry : List ℕ) (n : ℕ) → entry ≡ laid entry n (characters_in 0 bs)
unfolding characters_in
taken_none bs entry n = sym (laid_nil entry n)

-- k bytes of a number, stored in a row, are the characters of k values
pub spilled-characters : (k : ℕ) (bs out : List ℕ) (n c have : ℕ) → n + k ≤ length out
    → ((i : ℕ) → i < k → c / 2 ^ (have - 8 - 8 * i) % 256 ≡ character_of (value (take 6 (drop (6 * i) bs))))
    → spilled k out n c have ≡ laid out n (characters_in k bs)
unfolding spilled characters_in
spilled-characters zero bs out n c have room each = sym (laid_nil out n)
spilled-characters (suc k) bs out n c have room each =
    let x : ℕ = c / 2 ^ (have - 8) % 256 in
    let later : List ℕ = characters_in k (drop 6 bs) in
    spilled-characters k (drop 6 bs) (set out n x) (n + 1) c (have - 8) (omega (arith, length-set out n x))
    (λ i l.
    ap (λ (j : ℕ). c / 2 ^ j % 256) (let e : have - 8 - 8 - 8 * i ≡ have - 8 - 8 * suc i = omega arith in e)
    ∙ each (suc i) (omega arith)
    ∙ ap (λ (r : List ℕ). character_of (value (take 6 r)))
    (ap (λ (j : ℕ). drop j bs) (let e : 6 * suc i ≡ 6 + 6 * i = omega arith in e) ∙ sym (drop-drop (6 * i) 6 bs)))
    ∙ ap (λ (d : List ℕ). laid d (n + 1) later) (set-laid out n x (omega arith))
    ∙ laid-laid out n (n + 1) (x ∷ []) later (omega arith) refl
    ∙ ap (λ (y : ℕ). laid out n (y ∷ later))
    (ap (λ (j : ℕ). c / 2 ^ j % 256) (let e : have - 8 ≡ have - 8 - 8 * 0 = omega arith in e) ∙ each 0 (omega arith))

-- so eight bytes, four and four
pub eight-laid : (bs out mid exit : List ℕ) (n c : ℕ) → n + 8 ≤ length out → Eight bs c → mid ≡ spilled 4 out n c 64
    → exit ≡ spilled 4 mid (n + 4) c 32 → exit ≡ laid out n (characters_in 8 bs)
eight-laid bs out mid exit n c room eight x y =
    let four : mid ≡ laid out n (characters_in 4 bs) = x ∙ spilled-characters 4 bs out n c 64 (omega arith) (λ i h. eight i (omega arith)) in
    taken_more bs out mid n 4 four (omega arith) exit 4 (n + 4) refl
    (y
    ∙ spilled-characters 4 (drop 24 bs) mid (n + 4) c 32 (omega (arith, taken-length bs out mid n 4 four (omega arith)))
    (λ i h.
    ap (λ (j : ℕ). c / 2 ^ j % 256) (let d : 24 - 8 * i ≡ 56 - 8 * (4 + i) = omega arith in d)
    ∙ eight (4 + i) (omega arith)
    ∙ ap (λ (r : List ℕ). character_of (value (take 6 r)))
    (ap (λ (j : ℕ). drop j bs) (let d : 6 * (4 + i) ≡ 24 + 6 * i = omega arith in d) ∙ sym (drop-drop (6 * i) 24 bs))))

-- a row over one that is no longer and starts where it does
laid-over : (d : List ℕ) (n : ℕ) (b c : List ℕ) → n + length b ≤ length d → length b ≤ length c → laid (laid d n b) n c ≡ laid d n c
unfolding laid
laid-over d n b c h l =
    let front : length (take n d) ≡ n = length-take-le n d (omega arith) in
    let tail : List ℕ = drop (n + length b) d in
    let more : ℕ = length c - length b in
    ap₂ (λ (x y : List ℕ). x ++ (c ++ y))
    (take_at (take n d) (b ++ tail) n front)
    (ap₂ (λ (k : ℕ) (x : List ℕ). drop k x)
    (let e : n + length c ≡ length (take n d ++ b) + more = omega (arith, length-append (take n d) b, front) in e) (sym (append_assoc (take n d) b tail))
    ∙ drop-append-add (take n d ++ b) tail more
    ∙ drop-drop more (n + length b) d
    ∙ ap (λ (k : ℕ). drop k d) (let e : n + length b + more ≡ n + length c = omega arith in e))

-- after the first k values the eight from the j-th on, some of which may be among those
pub taken-over : (bs entry mid exit : List ℕ) (n k j : ℕ) → mid ≡ laid entry n (characters_in k bs) → n + k ≤ length entry → j ≤ k → k ≤ j + 8
    → exit ≡ laid mid (n + j) (characters_in 8 (drop (6 * j) bs)) → exit ≡ laid entry n (characters_in (j + 8) bs)
taken-over bs entry mid exit n k j so_far room low high d =
    let rest : List ℕ = drop (6 * j) bs in
    let first : List ℕ = laid entry n (characters_in j bs) in
    let same : length first ≡ length entry = length-laid entry n (characters_in j bs) (omega (arith, length-characters j bs)) in
    let again : mid ≡ laid first (n + j) (characters_in (k - j) rest) =
    so_far
    ∙ ap (λ (m : ℕ). laid entry n (characters_in m bs)) (let e : k ≡ j + (k - j) = omega arith in e)
    ∙ ap (laid entry n) (characters-add j (k - j) bs)
    ∙ sym (laid-laid entry n (n + j) (characters_in j bs) (characters_in (k - j) rest) (omega (arith, length-characters j bs)) (omega (arith, length-characters j bs))) in
    taken_more bs entry first n j refl (omega arith) exit 8 (n + j) refl
    (d
    ∙ ap (λ (l : List ℕ). laid l (n + j) (characters_in 8 rest)) again
    ∙ laid-over first (n + j) (characters_in (k - j) rest) (characters_in 8 rest)
    (omega (arith, same, length-characters (k - j) rest)) (omega (arith, length-characters (k - j) rest, length-characters 8 rest)))

-- of eight bytes that are the characters of values, those after the first `done` are at the top of c
abbrev pub Left : List ℕ → ℕ → ℕ → Type 0
Left bs done c = (i : ℕ) → done + i < 8 → c / 2 ^ (56 - 8 * i) % 256 ≡ character_of (value (take 6 (drop (6 * (done + i)) bs)))

pub left-all : (bs : List ℕ) (c : ℕ) → Eight bs c → Left bs 0 c
left-all bs c eight i h =
    eight i (omega arith) ∙ ap (λ (j : ℕ). character_of (value (take 6 (drop (6 * j) bs)))) (let e : i ≡ 0 + i = omega arith in e)

-- the first of them
pub left-first : (bs : List ℕ) (done c : ℕ) → done < 8 → c < 2 ^ 64 → Left bs done c → c / 2 ^ 56 ≡ character_of (value (take 6 (drop (6 * done) bs)))
left-first bs done c h small left =
    (let e : c / 2 ^ 56 ≡ c / 2 ^ 56 % 256 = omega arith in e)
    ∙ left 0 (omega arith)
    ∙ ap (λ (j : ℕ). character_of (value (take 6 (drop (6 * j) bs)))) (let e : done + 0 ≡ done = omega arith in e)

-- and then the others
byte-up : (c i : ℕ) → i < 7 → c * 256 % 2 ^ 64 / 2 ^ (56 - 8 * i) % 256 ≡ c / 2 ^ (56 - 8 * suc i) % 256
byte-up c =
    each_at 7 (λ (i : ℕ). c * 256 % 2 ^ 64 / 2 ^ (56 - 8 * i) % 256 ≡ c / 2 ^ (56 - 8 * suc i) % 256)
    (omega arith, (omega arith, (omega arith, (omega arith, (omega arith, (omega arith, (omega arith, tt)))))))

pub left-next : (bs : List ℕ) (done c : ℕ) → Left bs done c → Left bs (done + 1) (c * 256 % 2 ^ 64)
left-next bs done c left i h =
    byte-up c i (omega arith)
    ∙ left (suc i) (omega arith)
    ∙ ap (λ (j : ℕ). character_of (value (take 6 (drop (6 * j) bs)))) (let e : done + suc i ≡ done + 1 + i = omega arith in e)

-- the value at bit `at`, in a buffer that starts r bits before it
pub value-part : (s : List ℕ) (held have next q r at shift : ℕ) → ahead s held have next ≡ bits (drop q s) → q * 8 + r ≡ at → shift + 6 + r ≡ have
    → held / 2 ^ shift % 64 ≡ value (take 6 (drop at (bits s)))
value-part s held have next q r at shift e place size =
    sym (value_low 6 (held / 2 ^ shift)) ∙ ap value (ahead-part s held have next q r at 6 shift e place size)

-- the k-th value of 48 bits
nth-value : (x n k : ℕ) → k < 8 → x / 2 ^ n % 2 ^ 48 / 2 ^ (42 - 6 * k) % 64 ≡ x / 2 ^ (n + (42 - 6 * k)) % 64
nth-value x n k h =
    ap (λ (y : ℕ). y % 64)
    (ap (λ (j : ℕ). x / 2 ^ n % 2 ^ j / 2 ^ (42 - 6 * k)) (let e : 48 ≡ 6 * k + 6 + (42 - 6 * k) = omega arith in e)
    ∙ field (x / 2 ^ n) (6 * k + 6) (42 - 6 * k))
    ∙ mod-mod-pow (x / 2 ^ n / 2 ^ (42 - 6 * k)) (6 * k) 6
    ∙ ap (λ (y : ℕ). y % 64) (shr-shr x n (42 - 6 * k))

-- the eight values from bit `at` on, out of eight bytes that they are in
pub word-eight : (s : List ℕ) (q behind at c : ℕ) → q + 8 ≤ length s → ((i : ℕ) → get_or s i 0 < 256) → at + behind ≡ q * 8 + 16 → behind ≤ 16
    → Spread (eight_at s q / 2 ^ behind % 2 ^ 48) c → Eight (drop at (bits s)) c
unfolding ahead
word-eight s q behind at c inside bytes place few spread k h =
    let x : ℕ = eight_at s q in
    spread k h
    ∙ ap character_of
    (nth-value x behind k h
    ∙ value-part s x 64 (q + 8) q (16 - behind + 6 * k) (at + 6 * k) (behind + (42 - 6 * k)) (eight-bits s q inside bytes) (omega arith) (omega arith)
    ∙ ap (λ (l : List ℕ). value (take 6 l)) (sym (drop-drop (6 * k) at (bits s))))

pub eight-after : (row : List ℕ) (at k c : ℕ) → Eight (drop (at + 6 * k) row) c → Eight (drop (6 * k) (drop at row)) c
eight-after row at k c = subst⁻¹ (λ (l : List ℕ). Eight l c) (drop-drop (6 * k) at row)

-- those after the first eight bits, out of the bits at the top of x
pub top-eight : (bs : List ℕ) (x c : ℕ) → Top bs x → Spread (x / 2 ^ 8 % 2 ^ 48) c → Eight (drop 8 bs) c
top-eight bs x c top spread k h =
    spread k h
    ∙ ap character_of
    (nth-value x 8 k h
    ∙ ap (λ (j : ℕ). x / 2 ^ j % 64) (let e : 8 + (42 - 6 * k) ≡ 64 - (8 + 6 * k + 6) = omega arith in e)
    ∙ sym (value_low 6 (x / 2 ^ (64 - (8 + 6 * k + 6))))
    ∙ ap value (top (8 + 6 * k) 6 (omega arith) ∙ ap (take 6) (sym (drop-drop (6 * k) 8 bs))))
