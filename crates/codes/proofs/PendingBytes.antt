-- What is pending of bytes that go into a buffer: bits are pushed, bytes go out, until nothing is pending.
-- Assumes nothing.
use mathlib.Core.Path.{◌≡◌, refl, sym, ap, ap₂, subst₂, ◌∙◌}
use mathlib.Core.List.{List, [], ◌∷◌, ◌++◌, append_assoc}
use Prim.Native.Nat.{ℕ, zero, suc, zero-le, ◌+◌, ◌-◌, ◌*◌, ◌/◌, ◌%◌, ◌^◌, ◌≤◌, ◌<◌}
use native.Mathlib.Nat.{add-zero}
use native.Mathlib.Numerals.{add-one}
use native.Mathlib.Omega.{arith}
use lib.ListN.{length, take, drop, get_or, set, length-take, length-append, length-drop}
use lib.Seq.{take_all, take-suc, length-take-le}
use Rattle.bits.specs.Row.{bits, Bytes}
use Rattle.codes.specs.Pack.{low}
use Rattle.codes.specs.Steps.Laid.{laid}
use Rattle.codes.specs.Steps.Pending.{Pending}
use Rattle.codes.specs.Steps.EightBytes.{spilled}
use Rattle.codes.proofs.PushedBits.{byte-there, next-byte, still-pending}
use Rattle.codes.proofs.LaidRows.{laid_nil, laid-laid, length-laid, set-laid}
use Rattle.codes.proofs.LowBits.{length-low}
use Rattle.codes.proofs.BitsInBytes.{length-bits}

pub pending-none : (w out : List ℕ) (m : ℕ) → Pending w out out m m 0 0 (bits w)
unfolding low
pending-none w out m = record { count = 0; place = sym (add-zero m); within = zero-le; pending = refl; whole = sym (laid_nil out m) }

pub pending-push : (w entry out : List ℕ) (m n held have held' width number : ℕ) (rest : List ℕ) → have + width ≤ 64
    → ((k : ℕ) → k + width ≤ 64 → low (k + width) held' ≡ low k held ++ low width number)
    → Pending w entry out m n held have (low width number ++ rest) → Pending w entry out m n held' (have + width) rest
pending-push w entry out m n held have held' width number rest h e p = record {
  count = p.count;
  place = p.place;
  within = p.within;
  pending = p.pending ∙ sym (append_assoc (low have held) (low width number) rest)
      ∙ ap (λ (l : List ℕ). l ++ rest) (sym (e have h));
  whole = p.whole;
}

-- there is room for a row that is pending
pub row_room : (w entry out : List ℕ) (m n held have : ℕ) (row rest : List ℕ) → m + length w ≤ length entry
    → Pending w entry out m n held have (row ++ rest) → n + (have + length row) / 8 ≤ length entry
row_room w entry out m n held have row rest room p =
    omega (
      arith,
      p.place,
      p.within,
      ap length p.pending,
      length-bits (drop p.count w),
      length-drop p.count w,
      length-append (low have held) (row ++ rest),
      length-append row rest,
      length-low have held,
    )

module _ (w entry : List ℕ) (m : ℕ) (bytes : Bytes w) (room : m + length w ≤ length entry) where
  pub pending-length : (out : List ℕ) (n held have : ℕ) (rest : List ℕ) → Pending w entry out m n held have rest → length out ≡ length entry
  pending-length out n held have rest p =
      ap length p.whole ∙ length-laid entry m (take p.count w) (omega (arith, length-take p.count w))

  pub pending-room : (out : List ℕ) (n held have : ℕ) (rest : List ℕ) → 8 ≤ have → Pending w entry out m n held have rest → n < length entry
  pending-room out n held have rest h p =
      omega (arith, p.place, byte-there w p.count held have rest bytes h p.pending)

  pub pending-byte : (out : List ℕ) (n held have : ℕ) (rest : List ℕ) → 8 ≤ have → Pending w entry out m n held have rest
      → Pending w entry (set out n (held / 2 ^ (have - 8) % 256)) m (n + 1) held (have - 8) rest
  pending-byte out n held have rest h p =
      let k : ℕ = p.count in
      let there : k < length w = byte-there w k held have rest bytes h p.pending in
      let size : length (take k w) ≡ k = length-take-le k w (omega arith) in
      record {
        count = k + 1;
        place = omega (arith, p.place);
        within = omega arith;
        pending = still-pending w k held have rest bytes h p.pending;
        whole = ap₂ (λ (l : List ℕ) (v : ℕ). set l n v) p.whole (sym (next-byte w k held have rest bytes h p.pending))
            ∙ set-laid (laid entry m (take k w)) n (get_or w k 0)
            (omega (arith, p.place, length-laid entry m (take k w) (omega arith)))
            ∙ laid-laid entry m n (take k w) (get_or w k 0 ∷ []) (omega arith) (omega (arith, p.place))
            ∙ ap (laid entry m) (sym (take-suc w k 0 there) ∙ ap (λ (i : ℕ). take i w) (sym (add-one k)));
      }

  pub pending-bytes : (k : ℕ) (out : List ℕ) (n held have : ℕ) (rest : List ℕ) → k * 8 ≤ have → Pending w entry out m n held have rest
      → Pending w entry (spilled k out n held have) m (n + k) held (have - k * 8) rest
  unfolding spilled
  pending-bytes zero out n held have rest h p =
      subst₂ (λ (i j : ℕ). Pending w entry out m i held j rest) (sym (add-zero n)) (let e : have ≡ have - 0 = omega arith in e) p
  pending-bytes (suc k) out n held have rest h p =
      subst₂ (λ (i j : ℕ). Pending w entry (spilled k (set out n (held / 2 ^ (have - 8) % 256)) (n + 1) held (have - 8)) m i held j rest)
      (let e : n + 1 + k ≡ n + suc k = omega arith in e) (let e : have - 8 - k * 8 ≡ have - suc k * 8 = omega arith in e)
      (pending-bytes k (set out n (held / 2 ^ (have - 8) % 256)) (n + 1) held (have - 8) rest (omega arith)
      (pending-byte out n held have rest (omega arith) p))

  -- nothing is pending: the bytes are all there
  pub pending_done : (out : List ℕ) (n held : ℕ) → Pending w entry out m n held 0 [] → (out ≡ laid entry m w) × (n ≡ m + length w)
  unfolding low
  pending_done out n held p =
      let end : length w ≤ p.count =
      omega (arith, ap length p.pending, length-bits (drop p.count w), length-drop p.count w) in
      (p.whole ∙ ap (laid entry m) (take_all p.count w end), omega (arith, p.place, p.within))
