-- What codes say, put into a buffer that has room for it.
-- Assumes nothing.
use mathlib.Core.List.{List, [], ◌∷◌}
use mathlib.Core.Path.{◌≡◌, refl, sym, ap, subst, subst₂, ◌∙◌}
use Prim.Native.Nat.{ℕ, ◌+◌, ◌-◌, ◌/◌, ◌%◌, ◌≤◌, ◌<◌}
use native.Mathlib.Omega.{arith}
use lib.Bits.{bit_and}
use lib.ListN.{length, set}
use Rattle.codes.specs.Steps.Laid.{laid}
use Rattle.numeric_reader.specs.Steps.Reached.{Reached, Put, Fits, Puts}
use Rattle.numeric_reader.specs.declared.Place.{Place}
use Rattle.numeric_reader.specs.Steps.Signs.{sign, paired, first_of, second_of, Entry}
use Rattle.numeric_reader.proofs.EntryLaws.{sign_small, entry-second, entry-held, common, apart-before, apart-within}
use Rattle.numeric_reader.proofs.Reading.{alone, pair, reached-within, put_alone, put_some, put-pair, put-length}

-- as far as a reading comes there is room
room_within : {these out : List ℕ} {before n : ℕ} (f : Fits these out before n) {rest : List ℕ} {after m : ℕ} → Reached f.text rest after m
    → m ≤ length out
room_within f r = omega (arith, reached-within r, f.room, put-length f.put (omega (arith, reached-within f.put.reached, f.room)))

module _ (before own character n : ℕ) (out : List ℕ) (signs : own ≡ sign character) (f : Fits (character ∷ []) out before n) where
  held_with : bit_and before own ≡ bit_and (before % 8) (sign character)
  held_with = common before f.held own (omega (arith, sign_small character)) ∙ ap (bit_and (before % 8)) signs

  -- a character by itself
  module _ (tested : bit_and before own ≡ 0) where
    pub room-alone : n < length out
    room-alone = omega (arith, room_within f (alone character f.put.reached (sym held_with ∙ tested)))

    pub puts-alone : Puts (character ∷ []) out (set out n character) before n (record { n = n + 1; before = own + 8 })
    puts-alone = record {
      held = omega (arith, sign_small character);
      on = λ text rest entry room p.
          subst (λ (k : ℕ). Put text rest entry (set out n character) k (n + 1))
          (let e : sign character ≡ (own + 8) % 8 = omega (arith, sign_small character) in e)
          (put_alone character p (sym held_with ∙ tested) room);
    }

  -- the second of a pair
  module _ (tested : bit_and before own ≡ 0 → ⊥) where
    pub first-there : 1 ≤ n
    first-there = put_some character f.put (λ e. tested (held_with ∙ e))

    pub room-pair : n - 1 + length (paired (before % 8) own) ≤ length out
    room-pair =
        let here : 1 ≤ n = first-there in
        let same : length (paired (before % 8) own) ≡ length (paired (before % 8) (sign character)) =
        ap (λ (k : ℕ). length (paired (before % 8) k)) signs in
        room_within f
        (pair character f.put.reached {m = n - 1 + length (paired (before % 8) own)} (λ e. tested (held_with ∙ e)) (omega arith))

    pub puts-pair : (exit : List ℕ) (m : ℕ) → m ≡ n - 1 + length (paired (before % 8) own) → exit ≡ laid out (n - 1) (paired (before % 8) own)
        → Puts (character ∷ []) out exit before n (record { n = m; before = 8 })
    puts-pair exit m size e = record {
      held = omega arith;
      on = λ text rest entry room p.
          let here : 1 ≤ n = first-there in
          let same : paired (before % 8) (sign character) ≡ paired (before % 8) own = ap (paired (before % 8)) (sym signs) in
          subst₂ (λ (l : List ℕ) (k : ℕ). Put text rest entry l 0 k) (ap (laid out (n - 1)) same ∙ sym e)
          (ap (λ (l : List ℕ). n - 1 + length l) same ∙ sym size)
          (put-pair character p {m = n - 1} (λ x. tested (held_with ∙ x)) (omega arith));
    }

-- the two of a byte, each by itself
module _ (before entry n : ℕ) (out : List ℕ) (is : Entry entry) (f : Fits (first_of entry ∷ second_of entry ∷ []) out before n)
    (tested : bit_and before entry ≡ 0)
  where
    pub puts-two : {after : ℕ} → after ≡ entry / 256 % 256
        → Puts (first_of entry ∷ second_of entry ∷ []) out (set (set out n (first_of entry)) (n + 1) (second_of entry)) before n
        (record { n = n + 2; before = after })
    puts-two {after} same = record {
      held = ap (λ (k : ℕ). k / 8) same ∙ entry-held entry is;
      on = λ text rest entries room p.
          subst₂ (Put text rest entries (set (set out n (first_of entry)) (n + 1) (second_of entry)))
          (sym (entry-second entry is) ∙ (let e : entry / 256 % 8 ≡ after % 8 = omega arith in e))
          (let e : n + 1 + 1 ≡ n + 2 = omega arith in e)
          (put_alone (second_of entry) (put_alone (first_of entry) p (apart-before before f.held entry is tested) room)
          (apart-within before f.held entry is tested) room);
    }

    pub room-two : n + 2 ≤ length out
    room-two = room_within f ((puts-two refl).on f.text f.rest f.entry f.room f.put).reached

-- two characters, one after the other
module _ {c d before n : ℕ} {out : List ℕ} where
  pub fits-first : Fits (c ∷ d ∷ []) out before n → Fits (c ∷ []) out before n
  fits-first f = record { held = f.held; text = f.text; rest = d ∷ f.rest; entry = f.entry; put = f.put; room = f.room }

  pub fits-second : {exit : List ℕ} (r : Place) → Fits (c ∷ d ∷ []) out before n → Puts (c ∷ []) out exit before n r
      → Fits (d ∷ []) exit r.before r.n
  fits-second r f puts = record {
    held = puts.held;
    text = f.text;
    rest = f.rest;
    entry = f.entry;
    put = puts.on f.text (d ∷ f.rest) f.entry f.room f.put;
    room = f.room;
  }

  pub puts-both : {middle exit : List ℕ} (r last : Place) → Puts (c ∷ []) out middle before n r → Puts (d ∷ []) middle exit r.before r.n last
      → Puts (c ∷ d ∷ []) out exit before n last
  puts-both r last one other = record {
    held = other.held;
    on = λ text rest entry room p. other.on text rest entry room (one.on text (d ∷ rest) entry room p);
  }
