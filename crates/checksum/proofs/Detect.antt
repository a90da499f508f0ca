-- What the checksum detects: rows of bytes that differ in one byte only, or in two neighbouring bytes only, have different checksums.
-- Two neighbouring bytes enter the register as one word of sixteen bits, which it holds whole, and its steps bring no two words together.
-- Assumes nothing.
use mathlib.Core.Path.{◌≡◌, refl, sym, ap, ap₂, ◌∙◌}
use mathlib.Core.List.{List, [], ◌∷◌}
use mathlib.Core.Logic.{◌≢◌}
use Prim.Native.Nat.{ℕ, zero, suc, ◌+◌, ◌*◌, ◌^◌, ◌<◌}
use native.Mathlib.Omega.{arith}
use lib.Dec.{lit<}
use lib.Bits.{bit_xor, xor_comm, xor_shifted}
use Rattle.bits.specs.Row.{Bytes}
use Rattle.bits.proofs.Xor.{xor_assoc}
use Rattle.register.specs.Register.{start, bit_steps, byte_step, checksum_from}
use Rattle.register.proofs.Register.{steps-xor, steps-add, steps_low, steps-tell}
use Rattle.register.proofs.Row.{byte-lt}
use Rattle.checksum.proofs.Row.{sent-tells}
use Rattle.checksum.specs.Checksum.{checksum_of, checksum_bytes}
use Rattle.checksum.specs.Alike.{AlikeBut}
use Rattle.checksum.proofs.Alike.{head, tail, back}

-- a byte takes two registers to two
byte-tells : (r q b : ℕ) → r < 2 ^ 16 → q < 2 ^ 16 → b < 256 → byte_step r b ≡ byte_step q b → r ≡ q
unfolding byte_step
byte-tells r q b hr hq hb e =
    steps-tell 8 (b * 2 ^ 8) r q (omega arith) hr hq
    (ap (bit_steps 8) (xor_comm (b * 2 ^ 8) r) ∙ e ∙ ap (bit_steps 8) (xor_comm q (b * 2 ^ 8)))

-- and so does a row of bytes
row-tells : (s : List ℕ) (r q : ℕ) → Bytes s → r < 2 ^ 16 → q < 2 ^ 16 → checksum_from r s ≡ checksum_from q s → r ≡ q
unfolding checksum_from
row-tells [] r q hs hr hq e = e
row-tells (b ∷ s) r q hs hr hq e =
    byte-tells r q b hr hq hs.0 (row-tells s (byte_step r b) (byte_step q b) hs.1 (byte-lt r b) (byte-lt q b) e)

-- two neighbouring bytes enter as one word
word : (r x y : ℕ) → y < 256 → byte_step (byte_step r x) y ≡ bit_steps 16 (bit_xor r (x * 2 ^ 8 + y))
unfolding byte_step
word r x y hy =
    let entered = bit_xor r (x * 2 ^ 8) in
    ap (λ (n : ℕ). bit_steps 8 (bit_xor (bit_steps 8 entered) n)) (sym (steps_low 8 y (omega arith)))
    ∙ ap (bit_steps 8) (sym (steps-xor 8 entered y))
    ∙ sym (steps-add 8 8 (bit_xor entered y))
    ∙ ap (bit_steps 16) (xor_assoc r (x * 2 ^ 8) y ∙ ap (bit_xor r) (xor_shifted x 8 y hy))

-- so that two neighbouring bytes are told, whatever row follows
two-tell : (r x x' y y' : ℕ) (s : List ℕ) → r < 2 ^ 16 → Bytes (x ∷ x' ∷ s) → Bytes (y ∷ y' ∷ s)
    → checksum_from r (x ∷ x' ∷ s) ≡ checksum_from r (y ∷ y' ∷ s) → (x ≡ y) × (x' ≡ y')
unfolding checksum_from
two-tell r x x' y y' s hr (hx, (hx', hs)) (hy, (hy', _)) e =
    let p = byte_step (byte_step r x) x' in
    let q = byte_step (byte_step r y) y' in
    let met : p ≡ q = row-tells s p q hs (byte-lt (byte_step r x) x') (byte-lt (byte_step r y) y') e in
    let entered : bit_steps 16 (bit_xor r (x * 2 ^ 8 + x')) ≡ bit_steps 16 (bit_xor r (y * 2 ^ 8 + y')) = sym (word r x x' hx') ∙ met ∙ word r y y' hy' in
    omega (arith, steps-tell 16 r (x * 2 ^ 8 + x') (y * 2 ^ 8 + y') hr (omega arith) (omega arith) entered)

-- the bytes in front of the place enter one register; a last byte is told as if a zero followed it
detects-from : (place r : ℕ) (a b : List ℕ) → AlikeBut place a b → Bytes a → Bytes b → r < 2 ^ 16
    → checksum_from r a ≡ checksum_from r b → a ≡ b
unfolding checksum_from
detects-from place r [] [] h ha hb hr e = refl
detects-from place r [] (y ∷ b) h ha hb hr e = absurd (omega arith)
detects-from place r (x ∷ a) [] h ha hb hr e = absurd (omega arith)
detects-from zero r (x ∷ []) (y ∷ []) h ha hb hr e =
    ap (λ (n : ℕ). n ∷ []) (two-tell r x 0 y 0 [] hr (ha.0, (lit< tt, tt)) (hb.0, (lit< tt, tt)) (ap (λ (q : ℕ). byte_step q 0) e)).0
detects-from zero r (x ∷ x' ∷ a) (y ∷ []) h ha hb hr e = absurd (omega arith)
detects-from zero r (x ∷ []) (y ∷ y' ∷ b) h ha hb hr e = absurd (omega arith)
detects-from zero r (x ∷ x' ∷ a) (y ∷ y' ∷ b) h ha hb hr e =
    let one : checksum_from r (x ∷ x' ∷ a) ≡ checksum_from r (y ∷ y' ∷ a) = e ∙ ap (checksum_from (byte_step (byte_step r y) y')) (sym (back h)) in
    let told : (x ≡ y) × (x' ≡ y') = two-tell r x x' y y' a hr ha (hb.0, (hb.1.0, ha.1.1)) one in
    cc (back h)
detects-from (suc place) r (x ∷ a) (y ∷ b) h ha hb hr e =
    ap₂ ◌∷◌ (head h)
    (detects-from place (byte_step r x) a b (tail h) ha.1 hb.1 (byte-lt r x) (e ∙ ap (λ (n : ℕ). checksum_from (byte_step r n) b) (sym (head h))))

-- rows of bytes that are alike but at a place and the next, and are not the same, have different checksums
pub detects : {place : ℕ} {a b : List ℕ} → AlikeBut place a b → Bytes a → Bytes b → a ≢ b → checksum_of a ≢ checksum_of b
unfolding checksum_of start
detects {place} {a} {b} h ha hb differ e = differ (detects-from place start a b h ha hb (lit< tt) e)

-- and so have the two bytes that a reader compares
pub checksum-bytes-detect : {place : ℕ} {a b : List ℕ} → AlikeBut place a b → Bytes a → Bytes b → a ≢ b → checksum_bytes a ≢ checksum_bytes b
checksum-bytes-detect {a = a} {b = b} h ha hb differ e = detects h ha hb differ (sent-tells a b e)
