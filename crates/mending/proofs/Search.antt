-- Mending answers as the search does.
-- Assumes nothing.
use mathlib.Core.List.{List, Memᴰ}
use mathlib.Core.Logic.{inl, inr}
use mathlib.Core.Path.{◌≡◌, sym, ap, ◌∙◌, subst, subst⁻¹}
use Prim.Native.Nat.{ℕ, ◌%◌, ◌^◌, ◌<◌}
use native.Mathlib.Omega.{arith}
use lib.Bits.{bit_xor, xor_lt}
use lib.Count.{ones_in}
use lib.Dec.{T, eqb, eqb→eq, eqb_refl}
use lib.ListN.{length}
use Rattle.bits.specs.First.{first}
use Rattle.bits.specs.Turnings.{turnings, mask_of}
use Rattle.bits.specs.Word.{differences}
use Rattle.bits.proofs.First.{Searched, searched}
use Rattle.bits.proofs.Said.{and_left, and_right, and_both}
use Rattle.bits.proofs.Turnings.{turning-told, every-turning}
use Rattle.bits.proofs.Xor.{xor-undo}
use Rattle.header.specs.Check.{check_of}
use Rattle.header.specs.Flag.{Odd}
use Rattle.header.specs.Valid.{Valid, flag_in, check_in, information_in}
use Rattle.distance.specs.Distance.{distance, ValidWithin}
use Rattle.mending.specs.declared.Mending.TheVariants.{Mended}
use Rattle.mending.specs.Mends.{MendsWithin}
use Rattle.mending.specs.Search.{is_valid, turned_over, answer_of, search, AsSearched}
use Rattle.mending.proofs.Unique.{one_answer}

-- ---- the test of a header

pub valid-passes : (h : ℕ) → Valid h → T (is_valid h)
unfolding is_valid Odd
valid-passes h v =
    and_both (eqb (check_in h) (check_of (information_in h))) (eqb (ones_in 8 (flag_in h) % 2) 1)
    (subst (λ (n : ℕ). T (eqb (check_in h) n)) v.checked (eqb_refl (check_in h)))
    (subst⁻¹ (λ (n : ℕ). T (eqb n 1)) v.parity tt)

pub passing-valid : (h : ℕ) → h < 2 ^ 32 → T (is_valid h) → Valid h
unfolding is_valid Odd
passing-valid h lt t =
    let check = eqb (check_in h) (check_of (information_in h)) in
    let parity = eqb (ones_in 8 (flag_in h) % 2) 1 in
    record {
      bits = lt;
      checked = eqb→eq (check_in h) (check_of (information_in h)) (and_left check parity t);
      parity = eqb→eq (ones_in 8 (flag_in h) % 2) 1 (and_right check parity t);
    }

-- ---- what the search finds

module _ (limit received : ℕ) (word : received < 2 ^ 32) where
  -- a way that gives a valid header: it is as many bits away as were turned over
  found-mends : (places : List ℕ) → Memᴰ places (turnings limit 32) → T (is_valid (turned_over places received))
      → MendsWithin limit received (Mended (turned_over places received) (length places))
  unfolding turned_over distance differences
  found-mends places m t =
      let told = turning-told limit 32 places m in
      let away : ones_in 32 (bit_xor received (bit_xor received (mask_of places))) ≡ length places = ap (ones_in 32) (xor-undo received (mask_of places)) ∙ told.1.ones in
      (record { valid = passing-valid (bit_xor received (mask_of places)) (xor_lt 32 received (mask_of places) word told.1.bits) t; near = omega (arith, away, told.0) }, sym away)

  -- a valid header that is near is one of the ways
  near-found : (v : ℕ) → ValidWithin limit received v → (places : List ℕ) × Memᴰ places (turnings limit 32) × T (is_valid (turned_over places received))
  unfolding turned_over distance differences
  near-found v n =
      let way = every-turning limit 32 (bit_xor received v) (xor_lt 32 received v word n.valid.bits) n.near in
      let there : v ≡ bit_xor received (mask_of way.0) = sym (xor-undo received v) ∙ ap (bit_xor received) (sym way.2) in
      (way.0, way.1, subst (λ (h : ℕ). T (is_valid h)) there (valid-passes v n.valid))

  -- what is found among the ways to turn over bits of so wide a word
  abbrev found_in : ℕ → List (List ℕ)
  found_in width = first (λ (places : List ℕ). is_valid (turned_over places received)) (turnings limit width)

  answers : Searched (λ (places : List ℕ). is_valid (turned_over places received)) (turnings limit 32) (found_in 32)
      → MendsWithin limit received (answer_of received (found_in 32))
  unfolding answer_of
  answers (inl none) =
      subst⁻¹ (λ (found : List (List ℕ)). MendsWithin limit received (answer_of received found)) none.0
      (λ v n. let way = near-found v n in none.1 way.0 way.1 way.2)
  answers (inr some) =
      subst⁻¹ (λ (found : List (List ℕ)). MendsWithin limit received (answer_of received found)) some.2 (found-mends some.0 some.1.stands some.1.passes)

  -- of all 32 bits
  answers_of : (width : ℕ) → width ≡ 32 → MendsWithin limit received (answer_of received (found_in width))
  answers_of width e =
      subst⁻¹ (λ (w : ℕ). MendsWithin limit received (answer_of received (found_in w))) e
      (answers (searched (λ (places : List ℕ). is_valid (turned_over places received)) (turnings limit 32)))

  -- the search keeps the promise of mending
  pub search-mends : MendsWithin limit received (search limit received)
  unfolding search
  search-mends = answers_of _ (omega arith)

pub as-searched : AsSearched
as-searched limit received le word answer mends = one_answer limit received le answer (search limit received) mends (search-mends limit received word)
