-- A character more read: it stands by itself, or it makes a pair with the one before it.
-- Assumes nothing.
use mathlib.Core.Bool.{cond}
use mathlib.Core.List.{List, [], ◌∷◌, ◌++◌, append_assoc}
use mathlib.Core.Logic.{by_cases}
use mathlib.Core.Path.{◌≡◌, refl, sym, ap, ap₂, subst, ◌∙◌}
use Prim.Native.Nat.{ℕ, suc, ◌+◌, ◌*◌, ◌/◌, ◌%◌, ◌≤◌, ◌<◌}
use native.Mathlib.Decide.{ℕ_discrete}
use native.Mathlib.Numerals.{add-one}
use native.Mathlib.Omega.{arith}
use lib.Bits.{bit_and, and_zero_l}
use lib.ListN.{length, get_or, take, drop, set, length-append, length-drop}
use lib.Seq.{set_at, take_at, drop-append-add, drop-drop, drop-cons, append_snoc}
use borrow.Author.Tests.{eq-eqb, ne_eqb}
use Rattle.codes.specs.Steps.Laid.{laid, Fronted}
use Rattle.codes.specs.Steps.Measure.{Measured, extent}
use Rattle.std.specs.Prelude.{Ok}
use Rattle.numeric.specs.Steps.Text.{character, spelled, text_of}
use Rattle.numeric.specs.Translation.{translated}
use Rattle.numeric.proofs.Data.{length-spelled}
use Rattle.numeric_reader.specs.Steps.Reached.{Reached, Put}
use Rattle.numeric_reader.specs.Steps.Signs.{sign_if, sign, paired}
use Rattle.numeric_reader.proofs.Pairs.{translated-two, ends, pairs-length}

-- a character that makes no pair with the next is itself
translated-alone : (a b : ℕ) (base : List ℕ) → bit_and (sign a) (sign b) ≡ 0 → translated (a ∷ b ∷ base) ≡ a ∷ translated (b ∷ base)
translated-alone a b base e =
    translated-two a b base
    ∙ ap (λ t. cond t (a ∷ translated (b ∷ base)) (paired (sign a) (sign b) ++ translated base)) (eq-eqb (bit_and (sign a) (sign b)) 0 e)

translated-pair : (a b : ℕ) (base : List ℕ) → (bit_and (sign a) (sign b) ≡ 0 → ⊥)
    → translated (a ∷ b ∷ base) ≡ paired (sign a) (sign b) ++ translated base
translated-pair a b base e =
    translated-two a b base
    ∙ ap (λ t. cond t (a ∷ translated (b ∷ base)) (paired (sign a) (sign b) ++ translated base)) (ne_eqb (bit_and (sign a) (sign b)) 0 e)

-- one without a sign is itself whatever follows
translated-plain : (a : ℕ) (base : List ℕ) → sign a ≡ 0 → translated (a ∷ base) ≡ a ∷ translated base
unfolding translated
translated-plain a [] e = refl
translated-plain a (b ∷ base) e = translated-alone a b base (ap (λ (k : ℕ). bit_and k (sign b)) e ∙ and_zero_l (sign b))

-- no text is empty, of one character or more
translated-some : (a : ℕ) (base : List ℕ) → 1 ≤ length (translated (a ∷ base))
unfolding translated
translated-some a [] = omega arith
translated-some a (b ∷ base) = by_cases (ℕ_discrete (bit_and (sign a) (sign b)) 0)
    (λ e. omega (arith, ap length (translated-alone a b base e)))
    (λ e. omega (
      arith,
      ap length (translated-pair a b base e),
      length-append (paired (sign a) (sign b)) (translated base),
      pairs-length (sign a) (sign b),
    ))

module _ {text rest : List ℕ} {before n : ℕ} (a : ℕ) (r : Reached text (a ∷ rest) before n) where
  -- the character stands by itself
  pub alone : bit_and before (sign a) ≡ 0 → Reached text rest (sign a) (n + 1)
  alone e = record {
    kept = r.kept ++ (r.last ∷ []);
    last = a;
    stands = refl;
    size = length-append r.kept (r.last ∷ []) ∙ ap (λ (k : ℕ). k + 1) r.size;
    ahead =
        r.ahead ∙ ap (λ (l : List ℕ). r.kept ++ l) (translated-alone r.last a rest (ap (λ (k : ℕ). bit_and k (sign a)) (sym r.stands) ∙ e))
        ∙ sym (append_snoc r.kept r.last (translated (a ∷ rest)));
  }

  -- it is the second of a pair
  second : (bit_and before (sign a) ≡ 0 → ⊥) → Reached text rest 0 (n + length (ends before (sign a)).front)
  second e =
      let c = ends before (sign a) in
      record {
        kept = r.kept ++ c.front;
        last = c.end;
        stands = sym c.plain;
        size = length-append r.kept c.front ∙ ap (λ (k : ℕ). k + length c.front) r.size;
        ahead =
            r.ahead
            ∙ ap (λ (l : List ℕ). r.kept ++ l)
            (translated-pair r.last a rest (λ z. e (ap (λ (k : ℕ). bit_and k (sign a)) r.stands ∙ z))
            ∙ ap (λ (k : ℕ). paired k (sign a) ++ translated rest) (sym r.stands)
            ∙ ap (λ (l : List ℕ). l ++ translated rest) c.is
            ∙ append_snoc c.front c.end (translated rest)
            ∙ ap (λ (l : List ℕ). c.front ++ l) (sym (translated-plain c.end rest c.plain)))
            ∙ sym (append_assoc r.kept c.front (translated (c.end ∷ rest)));
      }

  pub pair : {m : ℕ} → (bit_and before (sign a) ≡ 0 → ⊥) → m + 1 ≡ n + length (paired before (sign a)) → Reached text rest 0 m
  pair {m} e size =
      subst (Reached text rest 0)
      (let x : n + length (ends before (sign a)).front ≡ m = omega (arith, size, pairs-length before (sign a)) in x) (second e)

-- what is there is a front of the text
pub reached-within : {text rest : List ℕ} {before n : ℕ} → Reached text rest before n → n ≤ length text
reached-within {text} {rest} r =
    omega (arith, ap length r.ahead, length-append r.kept (translated (r.last ∷ rest)), translated-some r.last rest, r.size)

-- at the end it is the whole text
pub reached-end : {text : List ℕ} {before n : ℕ} → Reached text [] before n → n ≡ length text
unfolding translated
reached-end {text} r = omega (arith, ap length r.ahead, length-append r.kept (r.last ∷ []), r.size)

abbrev pub Comes : Measured → List ℕ → Type 0
Comes m s = m ≡ Ok (extent (length (text_of s)) (length (spelled s)))

-- what the data comes to, each number with what it must be, so that a wrong one is refused where it stands
pub measured : (s : List ℕ) (n codes : ℕ) → n ≡ length (text_of s) → codes ≡ 2 * length s
    → Comes (Ok (extent n codes)) s
measured s n codes e d = ap₂ {C = Measured} (λ k j. Ok (extent k j)) e (d ∙ sym (length-spelled s))

module _ {text rest entry out : List ℕ} {before n : ℕ} (a : ℕ) (p : Put text (a ∷ rest) entry out before n) where
  kept : List ℕ
  kept = p.reached.kept

  last : ℕ
  last = p.reached.last

  pub put_alone : bit_and before (sign a) ≡ 0 → length text ≤ length entry → Put text rest entry (set out n a) (sign a) (n + 1)
  unfolding kept last alone
  put_alone e room =
      let next = alone a p.reached e in
      let here : n < length entry = omega (arith, reached-within next) in
      record {
        reached = next;
        whole =
            ap (λ (l : List ℕ). set l (suc n) a)
            (p.whole
            ∙ ap (λ (l : List ℕ). kept ++ last ∷ l) (drop-cons entry n 0 here)
            ∙ sym (append_snoc kept last (get_or entry n 0 ∷ drop (suc n) entry)))
            ∙ set_at (kept ++ (last ∷ [])) (get_or entry n 0) (drop (suc n) entry) a (suc n) (next.size ∙ add-one n)
            ∙ ap (λ (k : ℕ). (kept ++ (last ∷ [])) ++ (a ∷ drop k entry)) (sym (add-one n));
      }

  -- the first of a pair stands in the buffer
  pub put_some : (bit_and before (sign a) ≡ 0 → ⊥) → 1 ≤ n
  unfolding sign sign_if
  put_some e = some p.reached.kept p.reached.size p.whole
    where
      some : (k : List ℕ) → length k ≡ n → 48 ∷ out ≡ k ++ (p.reached.last ∷ drop n entry) → 1 ≤ n
      some [] size w =
          let digit : p.reached.last ≡ 48 = cc in
          absurd (e (ap (λ (x : ℕ). bit_and x (sign a)) (p.reached.stands ∙ ap sign digit) ∙ and_zero_l (sign a)))
      some (x ∷ k) size w = omega arith

  pub put-pair : {m : ℕ} → (bit_and before (sign a) ≡ 0 → ⊥) → n ≡ suc m
      → Put text rest entry (laid out m (paired before (sign a))) 0 (m + length (paired before (sign a)))
  unfolding kept last second laid
  put-pair {m} e at =
      let says = paired before (sign a) in
      let c = ends before (sign a) in
      let next = second a p.reached e in
      let size : length says ≡ suc (length c.front) = pairs-length before (sign a) in
      let end : m + length says ≡ n + length c.front = omega arith in
      subst (Put text rest entry (laid out m says) 0) (sym end)
      (record {
        reached = next;
        whole =
            ap₂ (λ (f b : List ℕ). f ++ (says ++ b))
            (ap (take (suc m)) p.whole ∙ take_at kept (last ∷ drop n entry) (suc m) (p.reached.size ∙ at))
            (ap₂ drop (let x : suc (m + length says) ≡ length kept + length says = omega (arith, p.reached.size) in x) p.whole
            ∙ drop-append-add kept (last ∷ drop n entry) (length says)
            ∙ ap (λ (k : ℕ). drop k (last ∷ drop n entry)) size
            ∙ drop-drop (length c.front) n entry)
            ∙ ap (λ (l : List ℕ). kept ++ (l ++ drop (n + length c.front) entry)) c.is
            ∙ ap (λ (l : List ℕ). kept ++ l) (append_snoc c.front c.end (drop (n + length c.front) entry))
            ∙ sym (append_assoc kept c.front (c.end ∷ drop (n + length c.front) entry));
      })

-- nothing is read yet
pub reached-none : (base : List ℕ) → Reached (translated base) base 0 0
unfolding sign sign_if
reached-none base = record { kept = []; last = 48; stands = refl; size = refl; ahead = sym (translated-plain 48 base refl) }

pub put-none : (base d : List ℕ) → Put (translated base) base d d 0 0
unfolding reached-none
put-none base d = record { reached = reached-none base; whole = refl }

-- all is
pub put-end : {text entry out : List ℕ} {before n : ℕ} → Put text [] entry out before n → Fronted text entry out n
unfolding translated
put-end {text} {entry} {out} {before} {n} p = record {
  size = reached-end p.reached;
  whole =
      ap (drop 1)
      (p.whole
      ∙ sym (append_snoc p.reached.kept p.reached.last (drop n entry))
      ∙ ap (λ (l : List ℕ). l ++ drop n entry) (sym p.reached.ahead));
}

-- a store changes no length
pub put-length : {text rest entry out : List ℕ} {before n : ℕ} → Put text rest entry out before n → n ≤ length entry → length out ≡ length entry
put-length {entry = entry} {out = out} {n = n} p here =
    omega (
      arith,
      ap length p.whole,
      length-append p.reached.kept (p.reached.last ∷ drop n entry),
      length-drop n entry,
      p.reached.size,
    )

-- the base characters of a byte
pub spelled-byte : (s : List ℕ) (i : ℕ) → i < length s
    → spelled (drop i s) ≡ character (get_or s i 0 / 16 % 16) ∷ character (get_or s i 0 % 16) ∷ spelled (drop (i + 1) s)
unfolding spelled
spelled-byte s i h =
    ap spelled (drop-cons s i 0 h)
    ∙ ap (λ (k : ℕ). character (get_or s i 0 / 16 % 16) ∷ character (get_or s i 0 % 16) ∷ spelled (drop k s)) (sym (add-one i))
