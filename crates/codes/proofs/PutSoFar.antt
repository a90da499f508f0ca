-- The data of entries put into a buffer: nothing yet, bits sent, and the last of them flushed.
-- Assumes nothing.
use mathlib.Core.Path.{◌≡◌, sym, ap, subst, subst⁻¹, subst₂, ◌∙◌}
use mathlib.Core.List.{List, [], ◌++◌, append_assoc}
use Prim.Native.Nat.{ℕ, ◌+◌, ◌-◌, ◌*◌, ◌/◌, ◌%◌, ◌^◌, ◌≤◌, ◌<◌}
use native.Mathlib.Nat.{zero-add}
use native.Mathlib.Omega.{arith}
use lib.Dec.{lit<}
use lib.ListN.{length, drop, replicate, length-append, length-replicate}
use Rattle.bits.specs.Row.{Bytes}
use Rattle.codes.specs.Chain.{Entry, codes}
use Rattle.codes.specs.Pack.{Binary, low, gap, written}
use Rattle.codes.specs.Steps.EightBytes.{spilled}
use Rattle.codes.specs.Steps.Laid.{laid, Flushed, Fronted}
use Rattle.codes.specs.Steps.Pending.{Pending}
use Rattle.codes.specs.Steps.Sending.{FirstOf, Sends, SendsBits, PutSoFar}
use Rattle.codes.specs.declared.Held.{Held}
use Rattle.codes.specs.declared.Sent.{Sent}
use Rattle.codes.proofs.BitsInBytes.{bits-written, written-bytes, gap-few, length-bits}
use Rattle.codes.proofs.LastBytes.{flush-room, flushed}
use Rattle.codes.proofs.LowBits.{length-low}
use Rattle.codes.proofs.PendingBytes.{pending-none, pending-push, pending-length, pending-bytes, row_room}

-- a number that is sent, as the bits that come next
pub sends-bits : (entry exit : List ℕ) (b : Held) (width number : ℕ) (r : Held) → b.have < 32 → width ≤ 32 → Sends entry exit b width number r
    → SendsBits entry exit b (low width number) r
sends-bits entry exit b width number r h k s =
    let four : ℕ = (b.have + width) / 32 * 4 in
    let left : (b.have + width) - four * 8 ≡ r.have = omega (arith, s.have) in
    record {
      few = omega (arith, s.have);
      place = omega (arith, s.have, s.place, length-low width number);
      same = λ w front m rest bytes room p.
          subst⁻¹ (λ (x : List ℕ). Pending w front x m r.n r.held r.have rest) s.whole
          (subst₂ (λ (i j : ℕ). Pending w front (spilled four entry b.n r.held (b.have + width)) m i r.held j rest) (sym s.place) left
          (pending-bytes w front m bytes room four entry b.n r.held (b.have + width) rest (omega arith)
          (pending-push w front entry m b.n b.held b.have r.held width number rest (omega arith) s.held p)));
    }

module _ (es : List Entry) (entry : List ℕ) (binary : Binary (codes es)) (held : length (written es) ≤ length entry) where
  abbrev ones : List ℕ
  ones = replicate (gap (length (codes es))) 1

  bytes : Bytes (written es)
  bytes = written-bytes es binary

  room : 0 + length (written es) ≤ length entry
  room = omega arith

  pub put-none : PutSoFar es entry entry (record { n = 0; held = 0; have = 0 }) (codes es)
  put-none = record {
    few = lit< tt;
    pending = subst (Pending (written es) entry entry 0 0 0 0) (bits-written es binary) (pending-none (written es) entry 0);
  }

  module _ (out : List ℕ) (b : Held) where
    pub put-length : (rest : List ℕ) → PutSoFar es entry out b rest → length out ≡ length entry
    put-length rest p = pending-length (written es) entry 0 bytes room out b.n b.held b.have (rest ++ ones) p.pending

    -- what is held and what is still to come, with the fill, are whole bytes
    pub put_whole : (rest : List ℕ) → PutSoFar es entry out b rest → (b.have + length rest + gap (length (codes es))) % 8 ≡ 0
    put_whole rest p =
        omega (
          arith,
          ap length p.pending.pending,
          length-bits (drop p.pending.count (written es)),
          length-append (low b.have b.held) (rest ++ ones),
          length-append rest ones,
          length-low b.have b.held,
          length-replicate {A = ℕ} (gap (length (codes es))) 1,
        )

    -- the bits that come next
    module _ (row rest : List ℕ) (p : PutSoFar es entry out b (row ++ rest)) where
      to-come : Pending (written es) entry out 0 b.n b.held b.have (row ++ (rest ++ ones))
      to-come = subst (Pending (written es) entry out 0 b.n b.held b.have) (append_assoc row rest ones) p.pending

      pub put-room : b.n + (b.have + length row) / 8 ≤ length out
      put-room =
          omega (arith, put-length (row ++ rest) p, row_room (written es) entry out 0 b.n b.held b.have row (rest ++ ones) room to-come)

      pub put-sent : (exit : List ℕ) (r : Held) → SendsBits out exit b row r → PutSoFar es entry exit r rest
      put-sent exit r s = record { few = s.few; pending = s.same (written es) entry 0 (rest ++ ones) bytes room to-come }

    -- the first of the bits of a text from its place i on
    module _ (bits : ℕ → List ℕ) (size i most : ℕ) (r : Sent) (short : most ≤ 32) (f : FirstOf bits size i most r) (p : PutSoFar es entry out b (bits i)) where
      first-come : PutSoFar es entry out b (low r.width r.bits ++ bits (i + r.count))
      first-come = subst (PutSoFar es entry out b) f.same p

      pub first-ready : (b.have < 32) × (r.width ≤ 32) × (r.bits < 2 ^ r.width) × (b.n + (b.have + r.width) / 8 ≤ length out)
      first-ready = (
        p.few,
        omega (arith, f.long),
        f.fits,
        omega (arith, put-room (low r.width r.bits) (bits (i + r.count)) first-come, length-low r.width r.bits),
      )

      pub first-sent : (exit : List ℕ) (q : Held) → Sends out exit b r.width r.bits q → PutSoFar es entry exit q (bits (i + r.count))
      first-sent exit q s =
          put-sent (low r.width r.bits) (bits (i + r.count)) first-come exit q
          (sends-bits out exit b r.width r.bits q p.few (omega (arith, f.long)) s)

    -- nothing is still to come
    module _ (p : PutSoFar es entry out b []) where
      pub put-flush-room : b.n + (b.have + 7) / 8 ≤ length out
      put-flush-room =
          omega (
            arith,
            put-length [] p,
            flush-room (written es) entry out 0 b.n b.held b.have (gap (length (codes es))) bytes room (gap-few (length (codes es))) p.pending,
          )

      pub put-flushed : (exit : List ℕ) (r : ℕ) → Flushed (low b.have b.held) out exit b.n r → Fronted (written es) entry exit r
      unfolding laid
      put-flushed exit r f =
          let d =
          flushed (written es) entry out 0 b.n b.held b.have (gap (length (codes es))) bytes room (gap-few (length (codes es))) p.pending exit r
          f in
          record { size = d.1 ∙ zero-add (length (written es)); whole = d.0 ∙ ap (λ (k : ℕ). written es ++ drop k entry) (sym d.1) }
