-- Base characters of Compact Numeric ASCII in four bits each (001, 4.3): their codes in a row, and how many go to a byte.
-- Assumes nothing.
use mathlib.Core.Path.{◌≡◌, refl, ap, ◌∙◌}
use mathlib.Core.Bool.{Bool, ◌&&◌}
use mathlib.Core.Logic.{inl, inr}
use mathlib.Core.List.{List, [], ◌∷◌}
use Prim.Native.Nat.{ℕ, ◌*◌}
use native.Mathlib.Omega.{arith}
use lib.Dec.{T, eqb, eqb→eq}
use lib.ListN.{length, length-append}
use Rattle.bits.specs.Numbers.{numbers}
use Rattle.codes.specs.Chain as chain
use Rattle.codes.specs.Chain.{Entry, In, codes, texts}
use Rattle.codes.specs.Consecutive.{code_for, consecutive}
use Rattle.codes.specs.LineEnds.{each_after}
use Rattle.codes.specs.Lookup.{same, saying}
use Rattle.codes.specs.Pack.{low}
use Rattle.bits.proofs.Said.{and_left, and_right}
use Rattle.codes.proofs.BitsInBytes.{length-bits}
use Rattle.codes.proofs.CodedTexts.{coded-every}
use Rattle.codes.proofs.EveryElement.{every, every-at}
use Rattle.codes.proofs.Lookup.{unlike}
use Rattle.codes.proofs.Pieces.{AllIn, row-all, Piece}
use Rattle.codes.proofs.Pieces as pieces
use Rattle.numeric.specs.Table.{characters, table, scheme}
use Rattle.numeric.proofs.InFour.{is_base}

abbrev pub its_own : ℕ → ℕ → List ℕ
its_own before c = c ∷ []

unfoldable fours : Entry → Bool
fours e = eqb (length e.code) 4 && eqb (length e.says) 1

all-fours : T (every fours table)
unfolding table consecutive code_for characters numbers low every fours
all-fours = tt

pub distinct-texts : T (unlike (λ e. e.says) table)
unfolding table consecutive code_for characters numbers every unlike same
distinct-texts = tt

own-piece : (u : List ℕ) → T (eqb (length u) 1) → Piece its_own u
own-piece [] t = absurd t
own-piece (c ∷ []) t = inl (c, refl, λ b. refl)
own-piece (c ∷ d ∷ u) t = absurd (let no : ⊥ = omega (arith, eqb→eq (length (c ∷ d ∷ u)) 1 t) in no)

pub own-pieces : (e : Entry) → In e table → Piece its_own e.says
unfolding fours
own-pieces e h = own-piece e.says (and_right (eqb (length e.code) 4) (eqb (length e.says) 1) (every-at fours table all-fours e h))

-- four bits for each character that is said
pub four-each : (es : List Entry) → AllIn table es → length (codes es) ≡ 4 * length (texts es)
unfolding codes texts fours
four-each [] h = refl
four-each (e ∷ es) h =
    let t = every-at fours table all-fours e h.0 in
    let f = eqb→eq (length e.code) 4 (and_left (eqb (length e.code) 4) (eqb (length e.says) 1) t) in
    let o = eqb→eq (length e.says) 1 (and_right (eqb (length e.code) 4) (eqb (length e.says) 1) t) in
    omega (arith, length-append e.code (codes es), length-append e.says (texts es), f, o, four-each es h.1)

abbrev pub in_fours : List ℕ → List Entry
in_fours = each_after (λ before c. saying table (c ∷ [])) 0

each-own : (base : List ℕ) (b : ℕ) → each_after its_own b base ≡ base
unfolding each_after
each-own [] b = refl
each-own (c ∷ base) b = ap (λ (l : List ℕ). c ∷ l) (each-own base c)

pub fours-says : (base : List ℕ) → T (every is_base base) → texts (in_fours base) ≡ base
unfolding is_base
fours-says base t =
    pieces.pieces-says its_own table own-pieces distinct-texts (λ b c. inr (refl, inl (c, refl, λ b. refl))) base (coded-every is_base base t) 0 ∙ each-own base 0

pub fours-in : (base : List ℕ) → AllIn table (in_fours base)
fours-in base = pieces.pieces-in its_own table own-pieces distinct-texts (λ b c. inr (refl, inl (c, refl, λ b. refl))) base 0

-- two base characters, eight bits, to a byte of data
pub two-each : (base carried : List ℕ) → chain.Built scheme base carried → length base ≡ 2 * length carried
two-each base carried b =
    omega (
      arith,
      length-bits carried,
      ap length b.bits,
      length-append (codes b.entries) b.fill,
      b.ends.few,
      four-each b.entries (row-all table 0 0 0 b.entries b.row),
      ap length b.says,
    )
