-- The register after a row of bytes: it goes on from byte to byte.
-- Assumes nothing.
use mathlib.Core.Path.{◌≡◌, refl, sym, ap, ◌∙◌}
use mathlib.Core.List.{List, [], ◌∷◌, ◌++◌}
use Prim.Native.Nat.{ℕ, ◌+◌, ◌*◌, ◌^◌, ◌<◌}
use native.Mathlib.Numerals.{add-one}
use lib.ListN.{length, get_or, take, drop, take-append-drop}
use lib.Seq.{drop-cons, drop-drop, take-add}
use lib.Bits.{bit_xor}
use Rattle.register.specs.Register.{bit_step, bit_steps, byte_step, checksum_from}
use Rattle.register.proofs.Register.{bit-lt, steps-lt}

checksum-append : (r : ℕ) (a b : List ℕ) → checksum_from r (a ++ b) ≡ checksum_from (checksum_from r a) b
unfolding checksum_from
checksum-append r [] b = refl
checksum-append r (x ∷ a) b = checksum-append (byte_step r x) a b

-- the byte at a place, and then those behind it
pub checksum-next : (r : ℕ) (s : List ℕ) (i : ℕ) → i < length s
    → checksum_from (byte_step r (get_or s i 0)) (drop (i + 1) s) ≡ checksum_from r (drop i s)
unfolding checksum_from
checksum-next r s i h = rw (add-one, drop-cons s i 0)

-- the register after the bytes before a place, and some more
pub checksum-more : (n i r : ℕ) (s : List ℕ) → checksum_from (checksum_from r (take i s)) (take n (drop i s)) ≡ checksum_from r (take (i + n) s)
checksum-more n i r s = sym (checksum-append r (take i s) (take n (drop i s))) ∙ ap (checksum_from r) (sym (take-add i n s))

-- one byte more of those from a place on
pub checksum-last : (k i r : ℕ) (s : List ℕ) → i + k < length s
    → byte_step (checksum_from r (take k (drop i s))) (get_or s (i + k) 0) ≡ checksum_from r (take (k + 1) (drop i s))
unfolding checksum_from
checksum-last k i r s h =
    sym (ap (λ (t : List ℕ). checksum_from (checksum_from r (take k (drop i s))) (take 1 t)) (drop-drop k i s ∙ drop-cons s (i + k) 0 h))
    ∙ checksum-more 1 k r (drop i s)

-- and all that are left
pub checksum-rest : (i r : ℕ) (s : List ℕ) → checksum_from (checksum_from r (take i s)) (drop i s) ≡ checksum_from r s
checksum-rest i r s = sym (checksum-append r (take i s) (drop i s)) ∙ ap (checksum_from r) (take-append-drop i s)

pub byte-lt : (r b : ℕ) → byte_step r b < 2 ^ 16
unfolding byte_step bit_steps
byte-lt r b = steps-lt 7 (bit_step (bit_xor r (b * 2 ^ 8))) (bit-lt (bit_xor r (b * 2 ^ 8)))
