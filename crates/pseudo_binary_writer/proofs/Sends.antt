-- Rows of bits that are sent one after the other, and what of our codes of a text they are.
-- Assumes nothing.
use mathlib.Core.Path.{◌≡◌, sym, ap, subst, subst₂, ◌∙◌}
use mathlib.Core.List.{List, ◌++◌, append_assoc}
use Prim.Native.Nat.{ℕ, ◌+◌, ◌-◌, ◌≤◌, ◌<◌}
use native.Mathlib.Omega.{arith}
use lib.ListN.{length, take, drop, length-append, length-drop}
use lib.Seq.{drop-drop}
use Rattle.codes.specs.Chain.{codes}
use Rattle.codes.specs.Pack.{low}
use Rattle.codes.proofs.LowBits.{length-low}
use Rattle.codes.specs.Steps.Pending.{Pending}
use Rattle.codes.specs.Steps.Sending.{SendsBits}
use Rattle.codes.specs.declared.Held.{Held}
use Rattle.pseudo_binary.specs.Table.{values}
use Rattle.pseudo_binary.specs.Writer.{Alike, ours_after}
use Rattle.pseudo_binary_writer.specs.Steps.Sending.{NextOf, four_values, eight_values}
use Rattle.pseudo_binary_writer.specs.declared.Sent.{Sent}
use Rattle.pseudo_binary_writer.proofs.Announced.{four-next}

-- two rows are one
pub sends-both : (entry middle exit : List ℕ) (b r z : Held) (x y : List ℕ) → SendsBits entry middle b x r → SendsBits middle exit r y z
    → SendsBits entry exit b (x ++ y) z
sends-both entry middle exit b r z x y f g = record {
  few = g.few;
  place = omega (arith, f.place, g.place, length-append x y);
  same = λ w front m rest bytes room p.
      g.same w front m rest bytes room
      (f.same w front m (y ++ rest) bytes room (subst (Pending w front entry m b.n b.held b.have) (append_assoc x y rest) p));
}

-- where m values are announced from place i of the text on, this row comes next; after it k values are announced, from place j on
pub record Proceeds (t : List ℕ) (i m : ℕ) (row : List ℕ) (j k : ℕ) : Type 0 where
  pub next : codes (ours_after m (drop i t)) ≡ row ++ codes (ours_after k (drop j t))
  pub some : 1 ≤ length row
  pub within : j + k ≤ length t
  pub alike : Alike values (take k (drop j t))

module _ (t : List ℕ) (i m : ℕ) (row : List ℕ) (j k : ℕ) (f : Proceeds t i m row j k) where
  -- fewer bits are left
  pub row-fewer : length (codes (ours_after k (drop j t))) < length (codes (ours_after m (drop i t)))
  row-fewer = omega (arith, ap length f.next, length-append row (codes (ours_after k (drop j t))), f.some)

proceeds-both : (t : List ℕ) (h i j k m n : ℕ) (x y : List ℕ) → Proceeds t h k x i m → Proceeds t i m y j n → Proceeds t h k (x ++ y) j n
proceeds-both t h i j k m n x y f g = record {
  next = f.next ∙ ap (λ (l : List ℕ). x ++ l) g.next ∙ sym (append_assoc x y (codes (ours_after n (drop j t))));
  some = omega (arith, f.some, length-append x y);
  within = g.within;
  alike = g.alike;
}

pub next-proceeds : (t : List ℕ) (i m : ℕ) (r : Sent) → i ≤ length t → NextOf m (drop i t) r
    → Proceeds t i m (low r.width r.bits) (i + r.count) r.values
next-proceeds t i m r h f =
    let later : drop r.count (drop i t) ≡ drop (i + r.count) t = drop-drop r.count i t in
    record {
      next = f.next ∙ ap (λ (l : List ℕ). low r.width r.bits ++ codes (ours_after r.values l)) later;
      some = omega (arith, f.short, length-low r.width r.bits);
      within = omega (arith, f.within, length-drop i t);
      alike = subst (λ (l : List ℕ). Alike values (take r.values l)) later f.alike;
    }

-- four values, and eight
module _ (t : List ℕ) where
  pub eight-length : (i : ℕ) → length (eight_values t i) ≡ 48
  eight-length i =
      omega (
        arith,
        length-append (low 24 (four_values t i)) (low 24 (four_values t (i + 4))),
        length-low 24 (four_values t i),
        length-low 24 (four_values t (i + 4)),
      )

  four-proceeds : (i m : ℕ) → i + m ≤ length t → Alike values (take m (drop i t)) → 4 ≤ m → Proceeds t i m (low 24 (four_values t i)) (i + 4) (m - 4)
  four-proceeds i m h a k = next-proceeds t i m _ (omega arith) (four-next t i m h a k)

  pub eight-proceeds : (i m : ℕ) → i + m ≤ length t → Alike values (take m (drop i t)) → 8 ≤ m
      → Proceeds t i m (eight_values t i) (i + 8) (m - 8)
  eight-proceeds i m h a k =
      let f : Proceeds t i m (low 24 (four_values t i)) (i + 4) (m - 4) = four-proceeds i m h a (omega arith) in
      subst₂ (λ (j n : ℕ). Proceeds t i m (eight_values t i) j n)
      (let e : i + 4 + 4 ≡ i + 8 = omega arith in e) (let e : m - 4 - 4 ≡ m - 8 = omega arith in e)
      (proceeds-both t i (i + 4) (i + 4 + 4) m (m - 4) (m - 4 - 4) _ _ f (four-proceeds (i + 4) (m - 4) f.within f.alike (omega arith)))
