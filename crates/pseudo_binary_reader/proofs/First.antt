-- Any nine bits begin an indicator: which one, by what number they are; and that it is the next to be read.
-- Assumes nothing.
use mathlib.Core.Path.{◌≡◌, refl, sym, ap, ap₂, subst, ◌∙◌}
use mathlib.Core.List.{List, ◌∷◌, ◌++◌}
use Prim.Native.Nat.{ℕ, suc, ◌+◌, ◌-◌, ◌/◌, ◌%◌, ◌≤◌, ◌<◌}
use native.Mathlib.Numerals.{add-one}
use native.Mathlib.Omega.{arith}
use lib.Dec.{lit≤}
use lib.ListN.{length, take, drop, replicate, length-append}
use lib.Seq.{drop_at}
use Rattle.bits.specs.Word.{bit}
use Rattle.codes.specs.Steps.BitBuffer.{Window}
use Rattle.codes.specs.Chain.{Entry}
use Rattle.codes.specs.Pack.{Binary, low, value}
use Rattle.codes.proofs.BitBuffer.{window-begins, begins-window}
use Rattle.codes.proofs.LowBits.{low-mod, low-add, low_value}
use Rattle.codes.proofs.OneReading.{Halts}
use Rattle.pseudo_binary.specs.Table.{SPACE, SLASH, Kind, values, spaces, slashes, indicator, most, scheme}
use Rattle.pseudo_binary_reader.specs.Steps.Taken.{Nine, FirstIndicator, width_of}
use Rattle.pseudo_binary_reader.specs.declared.Indicator.{Indicator}
use Rattle.pseudo_binary_reader.specs.declared.Indicator.TheVariants.{Values, Repeat}
use Rattle.pseudo_binary.proofs.Entries.{indicator-in}
use Rattle.pseudo_binary.proofs.Table.{laws}

pub takes-values : (w : ℕ) → w < 512 → 256 ≤ w
    → FirstIndicator w (Values (w / 2 % 128 + 1))
unfolding indicator most low bit
takes-values w h k = record {
  entry = indicator values (w / 2 % 128);
  legal = indicator-in values (w / 2 % 128) (omega arith);
  begins = (
    low 1 w,
    low-add 8 1 w
        ∙ ap₂ (λ (x : ℕ) (l : List ℕ). (x ∷ l) ++ low 1 w) (let e : w / 2 / 128 % 2 ≡ 1 = omega arith in e) (sym (low-mod 7 0 (w / 2))),
  );
  width = refl;
  announces = add-one (w / 2 % 128);
  says = refl;
  short = lit≤ tt;
  long = lit≤ tt;
  some = omega arith;
  few = omega arith;
  many = omega arith;
}

-- two bits, then a count of four
six-bits : (w a b : ℕ) → w / 8 / 32 % 2 ≡ a → w / 8 / 16 % 2 ≡ b → low 9 w ≡ (a ∷ b ∷ low 4 (w / 8 % 16)) ++ low 3 w
unfolding low bit
six-bits w a b x y =
    low-add 6 3 w
    ∙ ap (λ (l : List ℕ). l ++ low 3 w)
    (ap₂ (λ (p q : ℕ). p ∷ q ∷ low 4 (w / 8)) x y ∙ ap (λ (l : List ℕ). a ∷ b ∷ l) (sym (low-mod 4 0 (w / 8))))

takes-repeat : (k : Kind) (character w a b : ℕ) → w / 8 / 32 % 2 ≡ a → w / 8 / 16 % 2 ≡ b → most k ≡ 16
    → ((c : ℕ) → indicator k c ≡ record { code = a ∷ b ∷ low 4 c; says = replicate (suc c) character; announces = 0 })
    → {n : ℕ} → n ≡ w / 8 % 16 + 1 → FirstIndicator w (Repeat n character)
unfolding low
takes-repeat k character w a b x y m e {n} count = record {
  entry = indicator k (w / 8 % 16);
  legal = indicator-in k (w / 8 % 16) (omega arith);
  begins = (low 3 w, six-bits w a b x y ∙ ap (λ (d : Entry). d.code ++ low 3 w) (sym (e (w / 8 % 16))));
  width = ap (λ (d : Entry). length d.code) (sym (e (w / 8 % 16)));
  announces = ap (λ (d : Entry). d.announces) (sym (e (w / 8 % 16)));
  says = ap (λ (j : ℕ). replicate j character) (count ∙ add-one (w / 8 % 16)) ∙ ap (λ (d : Entry). d.says) (sym (e (w / 8 % 16)));
  short = lit≤ tt;
  long = lit≤ tt;
  some = omega arith;
  few = omega arith;
  many = lit≤ tt;
}

pub takes-spaces : (w : ℕ) {n : ℕ} → w < 128 → n ≡ w / 8 % 16 + 1 → FirstIndicator w (Repeat n SPACE)
unfolding indicator most
takes-spaces w h count = takes-repeat spaces SPACE w 0 0 (omega arith) (omega arith) refl (λ c. refl) count

pub takes-slashes : (w : ℕ) {n : ℕ} → 128 ≤ w → w < 256 → n ≡ w / 8 % 16 + 1
    → FirstIndicator w (Repeat n SLASH)
unfolding indicator most
takes-slashes w h k count = takes-repeat slashes SLASH w 0 1 (omega arith) (omega arith) refl (λ c. refl) count

-- at the front of the bits
module _ (bs : List ℕ) (binary : Binary bs) (w : ℕ) (v : Nine bs w) where
  -- a number that is the bits
  held : ℕ
  held = value bs

  same : low (length bs) held ≡ bs
  unfolding held
  same = low_value bs binary

  window : Window held (length bs) w
  window = record { nine = v.nine ∙ ap (λ (l : List ℕ). take 9 (l ++ replicate 9 1)) (sym same); small = v.small }

  module _ (r : Indicator) (k : FirstIndicator w r) where
    -- the indicator of the nine bits is the next to be read, if its bits are there
    pub next-indicator : width_of r ≤ length bs → bs ≡ k.entry.code ++ drop (width_of r) bs
    next-indicator there =
        let code : List ℕ = k.entry.code in
        let rest : List ℕ = low (length bs - length code) held in
        let split : bs ≡ code ++ rest =
        sym same ∙ window-begins held (length bs) w code window k.begins (subst (λ (n : ℕ). n ≤ length bs) k.width there) in
        split
        ∙ ap (λ (l : List ℕ). code ++ l)
        (sym (drop_at code rest (width_of r) (sym k.width)) ∙ ap (drop (width_of r)) (sym split))

    -- if they are not there, none begins what there is
    pub no-indicator : length bs < width_of r → Halts scheme 0 bs
    no-indicator short e j p =
        let size : length e.code ≤ length bs = omega (arith, ap length p.1, length-append e.code p.0) in
        let same-entry : e ≡ k.entry =
        laws.alone 0 e k.entry j k.legal (low 9 w)
        (begins-window held (length bs) w e.code window (p.0, same ∙ p.1) (omega (arith, k.long))) k.begins in
        omega (arith, k.width, ap (λ (d : Entry). length d.code) same-entry)
