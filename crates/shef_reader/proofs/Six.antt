-- Six bits that are not all ones begin a code; six ones begin none.
-- Assumes nothing.
use Rattle.std.proofs.Common.{◌≡◌, ℕ, ◌+◌, ◌-◌, ◌*◌, ◌/◌, ◌%◌, ◌^◌, ◌<◌, ◌≤◌, Bool, true, false, cond, ◌&&◌, T, eqb, List, [], ◌∷◌, ◌++◌, length, get_or, take, drop, replicate, sym, refl, ap, ◌∙◌, subst, ap₂, append_assoc, append-nil, zero-le, add-zero, mod-lt, mod-eq_of_lt, arith, lit≤, eqb→eq, length-append, pow_pos}
use mathlib.Core.Path.{subst⁻¹}
use mathlib.Core.Logic.{by_cases}
use mathlib.Core.Option.{Option, none, some}
use native.Mathlib.Decide.{ℕ_discrete, dec_lt}
use lib.Bits.{bit_and, and_zero_r, and_mask}
use Rattle.bits.specs.Numbers.{numbers}
use Rattle.bits.specs.Word.{bit}
use Rattle.bits.proofs.Numbers.{numbers-in}
use Rattle.bits.proofs.Said.{and_left, and_right}
use Rattle.codes.specs.Chain.{Entry, Begins}
use Rattle.codes.specs.Consecutive.{code_for, consecutive}
use Rattle.codes.specs.Pack.{low}
use Rattle.codes.specs.Steps.BitBuffer.{Window}
use Rattle.codes.specs.Steps.Laid.{Readable}
use Rattle.codes.specs.Steps.Taken.{FirstCode, characters_of}
use Rattle.codes.specs.declared.Code.{Code}
use Rattle.codes.proofs.Beginning.{begun, begun-begins}
use Rattle.codes.proofs.BitBuffer.{window-whole, window-top}
use Rattle.codes.proofs.EightBytes.{shifted-on, top-bits, top-on}
use Rattle.codes.proofs.EveryElement.{every, every-at}
use Rattle.codes.proofs.LowBits.{length-low, low-add}
use Rattle.codes.proofs.OneReading.{Halts, stuck-here, never_both}
use Rattle.codes.proofs.SchemeLaws.{parted, parted-never}
use Rattle.codes.proofs.TableSearch.{find, Found, found}
use Rattle.numeric.specs.Table.{characters}
use Rattle.shef.specs.Table.{table, scheme}
use Rattle.shef.proofs.Table.{laws}
use Rattle.shef_reader.specs.Steps.Taken.{Says, behind, characters_in, Characters}
use Rattle.shef_reader.specs.declared.TheConstants.{CHARACTERS, COUNTS}
use Rattle.compact.specs.Table.{NoneBegins}
use Rattle.codes.proofs.PassedWords.{longer}
use lib.ListN.{take-append-drop}

-- the entry that was found has the bits that the first of six tells, and says the text
unfoldable pub tells : ℕ → List ℕ → Option Entry → Bool
tells six text none = false
tells six text (some e) = eqb (length e.code) (5 + six / 32) && (eqb (length e.says) (length text) && begun e.says text)

unfoldable pub right : ℕ → ℕ → Bool
right six c = tells six (c ∷ behind six) (find table (low 6 six))

empty : (l : List ℕ) → length l ≡ 0 → l ≡ []
empty [] e = refl
empty (x ∷ l) e = absurd (let no' : ⊥ = omega arith in no')

same_text : (a b : List ℕ) → T (eqb (length a) (length b) && begun a b) → a ≡ b
same_text a b t =
    let p : Begins a b = begun-begins a b (and_right (eqb (length a) (length b)) (begun a b) t) in
    let size : length a ≡ length b = eqb→eq (length a) (length b) (and_left (eqb (length a) (length b)) (begun a b) t) in
    sym (p.1 ∙ ap (λ (l : List ℕ). a ++ l) (empty p.0 (omega (arith, size, ap length p.1, length-append a p.0))) ∙ append-nil a)

told : (six : ℕ) (text : List ℕ) (o : Option Entry) → Found table (low 6 six) o → T (tells six text o) → Says six text
unfolding tells
told six text none f t = absurd t
told six text (some e) f t =
    let wide : Bool = eqb (length e.code) (5 + six / 32) in
    let said : Bool = eqb (length e.says) (length text) && begun e.says text in
    record {
      entry = e;
      legal = f.0;
      begins = f.1;
      width = eqb→eq (length e.code) (5 + six / 32) (and_left wide said t);
      says = same_text e.says text (and_right wide said t);
    }

-- a row of first characters, each of which passes the test
pub every-right : (row : List ℕ) → T (every (λ (k : ℕ). right k (get_or row k 0)) (numbers 0 63)) → Characters row
unfolding right
every-right row t six h =
    told six (get_or row six 0 ∷ behind six) (find table (low 6 six)) (found table (low 6 six))
    (every-at (λ (k : ℕ). right k (get_or row k 0)) (numbers 0 63) t six (numbers-in 0 63 six zero-le (omega arith)))

-- the code of the text is the one that begins any nine bits that begin with the six
says-code : {six : ℕ} {text : List ℕ} (w : ℕ) (r : Code) → Says six text → six < 63 → w / 8 ≡ six → r.width ≡ 5 + six / 32
    → characters_of r ≡ text → length text ≡ r.count → 1 ≤ r.count → r.count ≤ 2 → FirstCode table w r
says-code w r s h e wide chars counts least most = record {
  entry = s.entry;
  legal = s.legal;
  begins = (
    s.begins.0 ++ low 3 w,
    low-add 6 3 w
        ∙ ap (λ (n : ℕ). low 6 n ++ low 3 w) e
        ∙ ap (λ (l : List ℕ). l ++ low 3 w) s.begins.1
        ∙ append_assoc s.entry.code s.begins.0 (low 3 w),
  );
  width = wide ∙ sym s.width;
  says = s.says ∙ sym chars;
  counts = ap length s.says ∙ counts;
  short = omega arith;
  long = omega arith;
  some = least;
  few = most;
}

-- one character, or two at a line end
some-characters : (b : Bool) (c : ℕ) → take (cond b 2 1) (c ∷ 10 ∷ []) ≡ c ∷ cond {A = List ℕ} b (10 ∷ []) []
some-characters true c = refl
some-characters false c = refl

one-or-two : (b : Bool) (c : ℕ) → (length (c ∷ cond {A = List ℕ} b (10 ∷ []) []) ≡ cond b 2 1) × (1 ≤ cond b 2 1) × (cond b 2 1 ≤ 2)
one-or-two true c = (refl, lit≤ tt, lit≤ tt)
one-or-two false c = (refl, lit≤ tt, lit≤ tt)

pub no-line-end : (six : ℕ) → (six ≡ 58 → ⊥) → characters_in six ≡ 1
no-line-end six other = pick (eqb six 58) refl
  where
    pick : (b : Bool) → eqb six 58 ≡ b → cond {A = ℕ} b 2 1 ≡ 1
    pick true x = absurd (other (eqb→eq six 58 (subst⁻¹ T x tt)))
    pick false x = refl

pub characters-few : (six : ℕ) → characters_in six ≤ 2
characters-few six = (one-or-two (eqb six 58) 0).2

pub six-code : (six w : ℕ) (r : Code) → Says six (r.first ∷ behind six) → six < 63 → w / 8 ≡ six → r.width ≡ 5 + six / 32
    → r.count ≡ characters_in six → r.second ≡ 10 → FirstCode table w r
unfolding characters_of
six-code six w r s h e wide counts feed =
    let b : Bool = eqb six 58 in
    let n = one-or-two b r.first in
    says-code w r s h e wide (ap₂ (λ (k d : ℕ). take k (r.first ∷ d ∷ [])) counts feed ∙ some-characters b r.first) (n.0 ∙ sym counts)
    (subst⁻¹ (λ (k : ℕ). 1 ≤ k) counts n.1) (subst⁻¹ (λ (k : ℕ). k ≤ 2) counts n.2)

pub characters-right : Characters CHARACTERS
unfolding right tells find table consecutive code_for characters numbers low bit begun every
characters-right = every-right CHARACTERS tt

-- a code by its width and the number of its characters
abbrev pub code_of : ℕ → ℕ → ℕ → Code
code_of six width count = record { width = width; count = count; first = get_or CHARACTERS six 0; second = 10 }

pub any_code : {six width count : ℕ} (w : ℕ) → w / 8 ≡ six → six < 63 → width ≡ 5 + six / 32 → count ≡ characters_in six
    → FirstCode table w (code_of six width count)
any_code {six} {width} {count} w e h wide counts = six-code six w (code_of six width count) (characters-right six h) h e wide counts refl

-- six ones, as if they were a code
ones : Entry
ones = code_for 6 63 []

no_ones : T (every (parted ones) table)
unfolding ones table consecutive code_for characters numbers low bit every parted begun
no_ones = tt

ones-halt : (bs : List ℕ) → Begins ones.code bs → Halts scheme 0 bs
ones-halt bs b e h d = parted-never ones e (every-at (parted ones) table no_ones e h) bs b d

-- where they come next, no code does
pub none-begins : (nine : ℕ) → nine / 8 ≡ 63 → NoneBegins table nine
unfolding ones code_for
none-begins nine six row e entry h d =
    let fill : List ℕ = replicate 9 1 in
    let begins : Begins ones.code (row ++ fill) = (
      low 3 nine ++ drop 9 (row ++ fill),
      sym (take-append-drop 9 (row ++ fill))
          ∙ ap (λ (l : List ℕ). l ++ drop 9 (row ++ fill)) (sym e ∙ low-add 6 3 nine ∙ ap (λ (n : ℕ). low 6 n ++ low 3 nine) six)
          ∙ append_assoc ones.code (low 3 nine) (drop 9 (row ++ fill)),
    ) in
    ones-halt (row ++ fill) begins entry h
    (d.0 ++ fill, ap (λ (l : List ℕ). l ++ fill) d.1 ∙ append_assoc entry.code d.0 fill)

-- so they do not come next in what can be read
module _ (held have w : ℕ) (v : Window held have w) where
  pub readable-word : (more : List ℕ) {room : ℕ} → 9 ≤ have → Readable scheme (low have held ++ more) room → w / 8 < 63
  readable-word more h f =
      by_cases (dec_lt (w / 8) 63) (λ l. l)
      (λ l. absurd (never_both laws f.reads
      (stuck-here (none-begins w (omega (arith, v.small)) (low have held ++ more) (longer held have more w v h))
      (λ e fill. let no' : ⊥ = omega (arith, fill.few, length-append (low have held) more, length-low have held) in no'))))

-- the six bits at the top of a word to which the lowest `left` bits of a number are shifted are the first of the window
module _ (held left top : ℕ) (h : 9 ≤ left) (k : left ≤ 64) (e : top ≡ held * 2 ^ (64 - left) % 2 ^ 64) where
  pub six-window : (w : ℕ) × Window held left w × (w / 8 ≡ top / 2 ^ 58)
  six-window = (
    held / 2 ^ (left - 9) % 512,
    window-whole held left h,
    window-top held left 6 (lit≤ tt) h ∙ sym (top-bits held left top 6 (omega arith) k e),
  )

  -- in what can be read they are not all ones
  pub readable-top : (more : List ℕ) {room : ℕ} → Readable scheme (low left held ++ more) room → top / 2 ^ 58 < 63
  readable-top more f =
      let v = six-window in
      subst (λ (n : ℕ). n < 63) v.2 (readable-word held left v.0 v.1 more h f)

-- a word shifted by five, and by one more where b is 1
pub shift-five : (top b : ℕ) → b < 2
    → (top * 2 ^ 5 % 2 ^ 64 + bit_and (top * 2 ^ 5 % 2 ^ 64) (b * 18446744073709551615)) % 2 ^ 64 ≡ top * 2 ^ (5 + b) % 2 ^ 64
shift-five top b h =
    let five : ℕ = top * 2 ^ 5 % 2 ^ 64 in
    let same : five % 2 ^ 64 ≡ five = mod-eq_of_lt (mod-lt (top * 2 ^ 5) (pow_pos 64)) in
    let masked : (n : ℕ) → ℕ = λ n. (five + bit_and five (n * 18446744073709551615)) % 2 ^ 64 in
    by_cases (ℕ_discrete b 0)
    (λ e. subst⁻¹ (λ (n : ℕ). masked n ≡ top * 2 ^ (5 + n) % 2 ^ 64) e
    (ap (λ (n : ℕ). (five + n) % 2 ^ 64) (and_zero_r five)
    ∙ ap (λ (n : ℕ). n % 2 ^ 64) (add-zero five) ∙ same))
    (λ e. subst⁻¹ (λ (n : ℕ). masked n ≡ top * 2 ^ (5 + n) % 2 ^ 64) (let one : b ≡ 1 = omega arith in one)
    (ap (λ (n : ℕ). (five + n) % 2 ^ 64) (and_mask five 64 ∙ same)
    ∙ ap (λ (n : ℕ). n % 2 ^ 64) (let x : five + five ≡ five * 2 = omega arith in x) ∙ shifted-on top 5 1 (lit≤ tt)))

-- the word after a code, as the next turn has it
pub six-on : {next : ℕ} (held left top six width : ℕ) → next ≡ top * 2 ^ (5 + six / 32) % 2 ^ 64 → width ≡ 5 + six / 32 → width ≤ left → left ≤ 64
    → top ≡ held * 2 ^ (64 - left) % 2 ^ 64 → next ≡ held * 2 ^ (64 - (left - width)) % 2 ^ 64
six-on held left top six width shifted wide h k e =
    shifted ∙ ap (λ (n : ℕ). top * 2 ^ n % 2 ^ 64) (sym wide) ∙ top-on held left top width h k e

-- how many characters the constants say
counted : T (every (λ (k : ℕ). eqb (get_or COUNTS k 0) (characters_in k)) (numbers 0 63))
unfolding numbers every
counted = tt

pub counts-right : (six : ℕ) → six < 63 → get_or COUNTS six 0 ≡ characters_in six
counts-right six h =
    eqb→eq (get_or COUNTS six 0) (characters_in six)
    (every-at (λ (k : ℕ). eqb (get_or COUNTS k 0) (characters_in k)) (numbers 0 63) counted six (numbers-in 0 63 six zero-le (omega arith)))

-- what a count tells of six bits
pub count-tells : {six count : ℕ} → six < 64 → (six < 63 → count ≡ characters_in six) → (six ≡ 63 → count ≡ 19) → (count ≤ 19) × (count ≤ 18 → six < 63)
count-tells {six} {count} h code ones =
    by_cases (dec_lt six 63) (λ l. (omega (arith, code l, characters-few six), λ few. l))
    (λ l. let many : count ≡ 19 = ones (omega arith) in (omega arith, λ few. absurd (let no' : ⊥ = omega arith in no')))
