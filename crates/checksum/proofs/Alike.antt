-- Rows that differ in one byte, or in two neighbouring bytes, taken apart: what stands in front of these and behind them is the same.
-- Assumes nothing.
use mathlib.Core.Path.{◌≡◌, ap}
use mathlib.Core.List.{List, ◌∷◌}
use Prim.Native.Nat.{ℕ, suc, pred}
use native.Mathlib.Omega.{arith}
use lib.Seq.{ext_get_or}
use Rattle.checksum.specs.Alike.{AlikeBut}

pub head : {place x y : ℕ} {a b : List ℕ} → AlikeBut (suc place) (x ∷ a) (y ∷ b) → x ≡ y
head h = h.alike 0 (λ e. omega arith) (λ e. omega arith)

pub tail : {place x y : ℕ} {a b : List ℕ} → AlikeBut (suc place) (x ∷ a) (y ∷ b) → AlikeBut place a b
tail h =
    record {
      same_length = ap pred h.same_length;
      alike = λ k here there. h.alike (suc k) (λ e. here (ap pred e)) (λ e. there (ap pred e));
    }

pub back : {x x' y y' : ℕ} {a b : List ℕ} → AlikeBut 0 (x ∷ x' ∷ a) (y ∷ y' ∷ b) → a ≡ b
back {a = a} {b = b} h =
    ext_get_or 0 a b (ap (λ (n : ℕ). pred (pred n)) h.same_length)
    (λ k in_row. h.alike (suc (suc k)) (λ e. omega arith) (λ e. omega arith))
