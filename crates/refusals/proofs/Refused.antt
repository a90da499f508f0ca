-- A refusal is its number, its value and its codes, and the first match is one; over the refusals of any entry point.
-- Assumes nothing.
use mathlib.Core.List.{List}
use mathlib.Core.Logic.{⊎_elim, ◌↔◌}
use mathlib.Core.Path.{◌≡◌, refl, sym, ap, ◌∙◌, subst, subst₂}
use Prim.Native.Nat.{ℕ, suc, ◌<◌}
use native.Mathlib.Decide.{dec_lt}
use native.Mathlib.Nat.{eq-or-lt_of_le, le_of_suc-le-suc}
use native.Mathlib.Omega.{arith}
use lib.ListN.{get_or}
use Rattle.refusals.specs.Match.{ToldAs, FirstMatch, turn_in}
use Rattle.refusals.specs.Refusals.{Told, number_in}

-- a refusal is known by what it is told as
pub record Known (Refusal : Type 0) (told : Refusal → Told) : Type 0 where
  pub from : Told → Refusal
  pub back : (r : Refusal) → from (told r) ≡ r

-- each refusal's number stands in the order of the tests, so the turn tells the number
pub record Ordered (Refusal : Type 0) (told : Refusal → Told) (order : List ℕ) : Type 0 where
  pub stands : (r : Refusal) → number_in (told r) ≡ get_or order (turn_in order (number_in (told r))) 0

module _ {Refusal : Type 0} {told : Refusal → Told} {order : List ℕ} (ordered : Ordered Refusal told order) where
  pub at_turn : (r : Refusal) (turn : ℕ) → turn_in order (number_in (told r)) ≡ turn → number_in (told r) ≡ get_or order turn 0
  at_turn r turn e = ordered.stands r ∙ ap (λ (k : ℕ). get_or order k 0) e

  pub one_number : (r s : Refusal) → turn_in order (number_in (told r)) ≡ turn_in order (number_in (told s)) → number_in (told r) ≡ number_in (told s)
  one_number r s e = at_turn r (turn_in order (number_in (told s))) e ∙ sym (ordered.stands s)

module _ {Refusal : Type 0} {told : Refusal → Told} (known : Known Refusal told) (Fault : Refusal → Type 0) (turn : ℕ → ℕ) where
  -- no condition holds that is tested before that of this number
  abbrev pub Clear : ℕ → Type 0
  Clear number = (other : Refusal) → turn (number_in (told other)) < turn number → Fault other → ⊥

  -- a refusal of this number, by what else is told
  by-told : (k : ℕ) (r : Refusal) → number_in (told r) ≡ k → Fault r → Fault (known.from (k, (told r).1, (told r).2))
  by-told k r e f = subst Fault (sym (known.back r) ∙ ap (λ (n : ℕ). known.from (n, (told r).1, (told r).2)) e) f

  -- one test more that is passed, that of number k, and the next one's number is l
  pub clear_next : (k l : ℕ) → ((r : Refusal) → turn (number_in (told r)) ≡ turn k → number_in (told r) ≡ k) → turn l ≡ suc (turn k)
      → Clear k → ((v c : ℕ) → Fault (known.from (k, v, c)) → ⊥) → Clear l
  clear_next k l alone next clear none other lt f =
      ⊎_elim (λ e. none (told other).1 (told other).2 (by-told k other (alone other e) f)) (λ less. clear other less f)
      (eq-or-lt_of_le (le_of_suc-le-suc (subst (λ (n : ℕ). turn (number_in (told other)) < n) next lt)))

  -- where the condition that is tested first of all holds, the first match is of that turn
  pub first-of-all : (r s : Refusal) → turn (number_in (told s)) ≡ 0 → Fault s → FirstMatch Refusal told Fault turn r → turn (number_in (told r)) ≡ 0
  first-of-all r s e f p = pick (dec_lt (turn (number_in (told s))) (turn (number_in (told r))))
    where
      pick : Dec (turn (number_in (told s)) < turn (number_in (told r))) → turn (number_in (told r)) ≡ 0
      pick (yes lt) = absurd (p.first s lt f)
      pick (no ge) = omega (arith, e)

  -- two first matches are of one turn; they are the same where one turn has one number, and of one number all else that is told is the same
  pub match-one : ((r s : Refusal) → turn (number_in (told r)) ≡ turn (number_in (told s)) → number_in (told r) ≡ number_in (told s))
      → ((r : Refusal) (v c : ℕ) → Fault r → Fault (known.from (number_in (told r), v, c)) → r ≡ known.from (number_in (told r), v, c))
      → (r s : Refusal) → FirstMatch Refusal told Fault turn r → FirstMatch Refusal told Fault turn s → r ≡ s
  match-one one_number one_told r s p q =
      let same = one_number r s (pick (dec_lt (turn (number_in (told r))) (turn (number_in (told s)))) (dec_lt (turn (number_in (told s))) (turn (number_in (told r))))) in
      let is : s ≡ known.from (number_in (told r), (told s).1, (told s).2) =
      sym (known.back s) ∙ ap (λ (n : ℕ). known.from (n, (told s).1, (told s).2)) (sym same) in
      one_told r (told s).1 (told s).2 p.fault (subst Fault is q.fault) ∙ sym is
    where
      pick : Dec (turn (number_in (told r)) < turn (number_in (told s))) → Dec (turn (number_in (told s)) < turn (number_in (told r)))
          → turn (number_in (told r)) ≡ turn (number_in (told s))
      pick (yes lt) d = absurd (q.first r lt p.fault)
      pick (no ge) (yes lt) = absurd (p.first s lt q.fault)
      pick (no ge) (no le) = omega arith

-- the first match, said of what is told
pub numbered : (Refusal : Type 0) (told : Refusal → Told) (Fault : Refusal → Type 0) (turn : ℕ → ℕ) (as-told : Told)
    → ToldAs Refusal told (FirstMatch Refusal told Fault turn) as-told
    ↔ (ToldAs Refusal told Fault as-told
    × ((earlier : Told) → turn (number_in earlier) < turn (number_in as-told) → ToldAs Refusal told Fault earlier → ⊥))
numbered Refusal told Fault turn as-told = (
  λ f. (
    (f.0, f.1, f.2.fault),
    λ earlier lt g.
        f.2.first g.0 (subst₂ (λ (m n : ℕ). turn m < turn n) (sym (ap number_in g.1)) (sym (ap number_in f.1)) lt) g.2,
  ),
  λ f.
      let r = f.0.0 in (
        r,
        f.0.1,
        record {
          fault = f.0.2;
          first = λ other lt g.
              f.1 (told other) (subst (λ (n : ℕ). turn (number_in (told other)) < turn n) (ap number_in f.0.1) lt) (other, refl, g);
        },
      ),
)
