-- The first indicator of ours of a text, as the writer sends it.
-- Assumes nothing.
use mathlib.Core.Path.{◌≡◌, refl, sym, ap, ap₂, subst, subst⁻¹, ◌∙◌}
use mathlib.Core.Bool.{Bool, true, false, cond}
use mathlib.Core.List.{List, [], ◌∷◌, ◌++◌}
use Prim.Native.Nat.{ℕ, zero, suc, pred, ◌+◌, ◌-◌, ◌*◌, ◌/◌, ◌%◌, ◌≤◌, ◌<◌}
use native.Mathlib.Nat.{add-zero}
use native.Mathlib.Omega.{arith}
use lib.Dec.{lit≤}
use lib.ListN.{length, drop, get_or}
use lib.Seq.{drop-cons}
use borrow.Author.Tests.{eq-eqb}
use Rattle.bits.specs.Word.{bit}
use Rattle.codes.specs.Chain.{Entry, codes}
use Rattle.codes.specs.Pack.{low}
use Rattle.codes.proofs.LowBits.{low-join}
use Rattle.pseudo_binary.specs.Table.{SPACE, SLASH, Kind, values, spaces, slashes, is_of, indicator}
use Rattle.pseudo_binary.specs.Writer.{kind, run, besides, our_most, ours_after, ours}
use Rattle.pseudo_binary_writer.specs.Steps.Sending.{FirstIndicatorOf}
use Rattle.pseudo_binary.proofs.Characters.{of-kind}
use Rattle.pseudo_binary.proofs.Entries.{pred-our-most}
use Rattle.pseudo_binary.proofs.Writer.{run-le}
use Rattle.pseudo_binary_writer.proofs.Counting.{run-go, run_more, run-within, run-alike}

-- spaces and slashes take nothing besides their indicator
skipped : (k : Kind) → ((c : ℕ) → besides k c ≡ []) → (n : ℕ) (t : List ℕ) → ours_after (run k n t) t ≡ ours (drop (run k n t) t)
unfolding run ours_after ours
skipped k e zero t = refl
skipped k e (suc n) [] = refl
skipped k e (suc n) (c ∷ t) = pick (is_of k c) refl (skipped k e n t)
  where
    pick : (b : Bool) → is_of k c ≡ b → ours_after (run k n t) t ≡ ours (drop (run k n t) t)
        → ours_after (cond b (suc (run k n t)) 0) (c ∷ t) ≡ ours_after 0 (drop (cond b (suc (run k n t)) 0) (c ∷ t))
    pick true x h = ap (λ (es : List Entry). es ++ ours_after (run k n t) t) (ap (λ (j : Kind). besides j c) (of-kind k c x) ∙ e c) ∙ h
    pick false x h = refl

-- the indicators as numbers
values_low : (j : ℕ) → j < 128 → (indicator values j).code ≡ low 8 (j + 128)
unfolding indicator low bit
values_low j h =
    ap₂ (λ (x : ℕ) (l : List ℕ). x ∷ l) (let e : 1 ≡ (j + 128) / 128 % 2 = omega arith in e)
    (sym (low-join 7 1 j h) ∙ ap (low 7) (let e : 1 * 128 + j ≡ j + 128 = omega arith in e))

spaces-low : (j : ℕ) → j < 16 → (indicator spaces j).code ≡ low 6 (j + 0)
unfolding indicator low bit
spaces-low j h =
    ap₂ (λ (x y : ℕ). x ∷ y ∷ low 4 j) (let e : 0 ≡ j / 32 % 2 = omega arith in e) (let e : 0 ≡ j / 16 % 2 = omega arith in e)
    ∙ ap (low 6) (sym (add-zero j))

slashes-low : (j : ℕ) → j < 16 → (indicator slashes j).code ≡ low 6 (j + 16)
unfolding indicator low bit
slashes-low j h =
    ap₂ (λ (x y : ℕ). x ∷ y ∷ low 4 j) (let e : 0 ≡ (j + 16) / 32 % 2 = omega arith in e) (let e : 1 ≡ (j + 16) / 16 % 2 = omega arith in e)
    ∙ ap (λ (l : List ℕ). (j + 16) / 32 % 2 ∷ (j + 16) / 16 % 2 ∷ l)
    (sym (low-join 4 1 j h) ∙ ap (low 4) (let e : 1 * 16 + j ≡ j + 16 = omega arith in e))

-- the first indicator of ours, of a character of kind k
opening : (k : Kind) (c : ℕ) (t : List ℕ) → is_of k c ≡ true
    → ours (c ∷ t) ≡ indicator k (run k (pred (our_most k)) t) ∷ ours_after (suc (run k (pred (our_most k)) t)) (c ∷ t)
unfolding ours ours_after
opening k c t e =
    ap (λ (j : Kind). indicator j (run j (pred (our_most j)) t) ∷ (besides (kind c) c ++ ours_after (run j (pred (our_most j)) t) t)) (of-kind k c e)

first-values : (c : ℕ) (t : List ℕ) (n : ℕ) → is_of values c ≡ true → n ≡ run values 128 (c ∷ t)
    → FirstIndicatorOf (c ∷ t) (record { bits = n - 1 + 128; width = 8; values = n; count = 0 })
unfolding our_most
first-values c t n e x =
    let more : ℕ = run values 127 t in
    let all : suc more ≡ n = sym (x ∙ run-go values 127 c t e) in
    let few : more ≤ 127 = run-le values 127 t in
    subst (λ (m : ℕ). FirstIndicatorOf (c ∷ t) (record { bits = m - 1 + 128; width = 8; values = m; count = 0 })) all (record {
      entry = indicator values more;
      first = opening values c t e;
      code = values_low more (omega arith) ∙ ap (low 8) (let y : more + 128 ≡ suc more - 1 + 128 = omega arith in y);
      fits = omega arith;
      short = lit≤ tt;
      long = lit≤ tt;
      some = omega arith;
      few = omega arith;
      within = omega (arith, run-within values 127 t);
      alike = (e, run-alike values 127 t);
    })

first-repeat : (k : Kind) (lead c : ℕ) (t : List ℕ) (n : ℕ) → ((d : ℕ) → besides k d ≡ []) → our_most k ≡ 16 → lead ≤ 48
    → ((j : ℕ) → j < 16 → (indicator k j).code ≡ low 6 (j + lead)) → is_of k c ≡ true → n ≡ run k (our_most k) (c ∷ t)
    → FirstIndicatorOf (c ∷ t) (record { bits = n - 1 + lead; width = 6; values = 0; count = n })
unfolding ours_after ours
first-repeat k lead c t n none m l codes e x =
    let more : ℕ = run k (pred (our_most k)) t in
    let all : n ≡ suc more = x ∙ ap (λ (j : ℕ). run k j (c ∷ t)) (sym (pred-our-most k)) ∙ run-go k (pred (our_most k)) c t e in
    let few : more < 16 = omega (arith, run-le k (pred (our_most k)) t, pred-our-most k) in
    record {
      entry = indicator k (n - 1);
      first = opening k c t e
          ∙ ap₂ (λ (j : ℕ) (es : List Entry). indicator k j ∷ es) (let y : more ≡ n - 1 = omega arith in y)
          (ap (λ (es : List Entry). es ++ ours_after more t) (ap (λ (j : Kind). besides j c) (of-kind k c e) ∙ none c)
          ∙ skipped k none (pred (our_most k)) t)
          ∙ ap (λ (j : ℕ). indicator k (n - 1) ∷ ours_after 0 (drop j (c ∷ t))) (sym all);
      code = codes (n - 1) (omega arith);
      fits = omega arith;
      short = lit≤ tt;
      long = lit≤ tt;
      some = omega arith;
      few = omega arith;
      within = omega (arith, run-within k (pred (our_most k)) t);
      alike = tt;
    }

-- at place i of a text
module _ (t : List ℕ) (i : ℕ) (h : i < length t) where
  here : drop i t ≡ get_or t i 0 ∷ drop (suc i) t
  here = drop-cons t i 0 h

  pub value-first : (n : ℕ) → is_of values (get_or t i 0) ≡ true → n ≡ run values 128 (drop i t)
      → FirstIndicatorOf (drop i t) (record { bits = n - 1 + 128; width = 8; values = n; count = 0 })
  value-first n e x =
      subst⁻¹ (λ (l : List ℕ). FirstIndicatorOf l (record { bits = n - 1 + 128; width = 8; values = n; count = 0 })) here
      (first-values (get_or t i 0) (drop (suc i) t) n e (x ∙ ap (run values 128) here))

  repeat-first : (k : Kind) (lead n : ℕ) → ((d : ℕ) → besides k d ≡ []) → our_most k ≡ 16 → lead ≤ 48
      → ((j : ℕ) → j < 16 → (indicator k j).code ≡ low 6 (j + lead)) → is_of k (get_or t i 0) ≡ true → n ≡ run k (our_most k) (drop i t)
      → FirstIndicatorOf (drop i t) (record { bits = n - 1 + lead; width = 6; values = 0; count = n })
  repeat-first k lead n none m l codes e x =
      subst⁻¹ (λ (l : List ℕ). FirstIndicatorOf l (record { bits = n - 1 + lead; width = 6; values = 0; count = n })) here
      (first-repeat k lead (get_or t i 0) (drop (suc i) t) n none m l codes e (x ∙ ap (run k (our_most k)) here))

  pub space-first : (n : ℕ) → get_or t i 0 ≡ SPACE → n ≡ run spaces 16 (drop i t)
      → FirstIndicatorOf (drop i t) (record { bits = n - 1; width = 6; values = 0; count = n })
  unfolding our_most besides is_of
  space-first n e x =
      subst (λ (b : ℕ). FirstIndicatorOf (drop i t) (record { bits = b; width = 6; values = 0; count = n })) (add-zero (n - 1))
      (repeat-first spaces 0 n (λ d. refl) refl (lit≤ tt) spaces-low (eq-eqb (get_or t i 0) SPACE e) x)

  pub slash-first : (n : ℕ) → get_or t i 0 ≡ SLASH → n ≡ run slashes 16 (drop i t)
      → FirstIndicatorOf (drop i t) (record { bits = n - 1 + 16; width = 6; values = 0; count = n })
  unfolding our_most besides is_of
  slash-first n e x = repeat-first slashes 16 n (λ d. refl) refl (lit≤ tt) slashes-low (eq-eqb (get_or t i 0) SLASH e) x

  -- a run of the kind of its first character has one character or more
  pub run-some : (k : Kind) (m n : ℕ) → is_of k (get_or t i 0) ≡ true → n ≡ run k (suc m) (drop i t) → 1 ≤ n
  run-some k m n e x = omega (arith, x, run_more k m t i h e)
