-- What the mask of an accepted packet says.
-- Assumes nothing.
use mathlib.Core.List.{List}
use mathlib.Core.Path.{◌≡◌, sym, ap, ◌∙◌, subst₂}
use Prim.Native.Nat.{ℕ, ◌/◌, ◌%◌, ◌^◌}
use native.Mathlib.Omega.{arith}
use lib.Bits.{bit_xor, xor_shr, xor_mod}
use lib.Count.{ones_in}
use Rattle.bits.specs.Word.{differences}
use Rattle.bits.proofs.Xor.{xor-undo}
use Rattle.header.specs.declared.Format.{Format}
use Rattle.header.specs.Valid.{flag_in, length_in, check_in}
use Rattle.distance.specs.Distance.{distance}
use Rattle.terms.specs.declared.Terms.{Terms}
use Rattle.examine.specs.declared.Reading.{Reading}
use Rattle.examine.specs.Examine.{Allowed, Accepts}
use Rattle.packet.specs.Packet.{received}
use Rattle.demands.specs.WhichBits.{WhichBits}

module _ (terms : Terms) (packet : List ℕ) (reading : Reading) (text : List ℕ) (a : Accepts terms packet reading text) where
  mask_is : reading.mask ≡ bit_xor (received packet) a.header
  mask_is = ap (λ (r : Reading). r.mask) a.is

  -- in all bits of a header
  ones-counted : (width : ℕ) → width ≡ 32 → reading.mended ≡ ones_in width reading.mask
  unfolding distance differences
  ones-counted width e =
      ap (λ (r : Reading). r.mended) a.is
      ∙ ap (λ (r : Reading). ones_in 32 r.mask) (sym a.is)
      ∙ ap (λ (w : ℕ). ones_in w reading.mask) (sym e)

  header-back : Allowed terms packet reading.format (bit_xor (received packet) reading.mask) text
  header-back =
      subst₂ (λ (format : Format) (header : ℕ). Allowed terms packet format header text)
      (ap (λ (r : Reading). r.format) (sym a.is))
      (sym (ap (bit_xor (received packet)) mask_is ∙ xor-undo (received packet) a.header))
      a.allowed

  in_order : (flag_in reading.mask ≡ bit_xor (flag_in (received packet)) (flag_in a.header))
      × (length_in reading.mask ≡ bit_xor (length_in (received packet)) (length_in a.header))
      × (check_in reading.mask ≡ bit_xor (check_in (received packet)) (check_in a.header))
  unfolding flag_in length_in check_in
  in_order =
      let word = received packet in
      let header = a.header in (
        ap flag_in mask_is ∙ xor_shr word header 24,
        ap length_in mask_is ∙ ap (λ (n : ℕ). n % 2 ^ 14) (xor_shr word header 10) ∙ xor_mod (word / 2 ^ 10) (header / 2 ^ 10) 14,
        ap check_in mask_is ∙ xor_mod word header 10,
      )

pub which-bits : (terms : Terms) → WhichBits terms
which-bits terms =
    record {
      ones-counted = λ packet reading text a. ones-counted terms packet reading text a _ (omega arith);
      header-back = header-back terms;
      in_order = in_order terms;
    }
