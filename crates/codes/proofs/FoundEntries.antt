-- Entries that were looked up in a table: what holds of all of the table holds of them.
-- Assumes nothing.
use mathlib.Core.Path.{◌≡◌, refl}
use mathlib.Core.Bool.{Bool, true, false, cond}
use mathlib.Core.List.{List, [], ◌∷◌}
use Prim.Native.Nat.{ℕ, ◌*◌, ◌≤◌}
use native.Mathlib.Nat.{mul-suc}
use native.Mathlib.Omega.{arith}
use lib.Dec.{T, leb, leb→le, eqb, eqb→eq}
use lib.ListN.{length, length-append}
use Rattle.bits.specs.First.{first}
use Rattle.codes.specs.Chain.{Entry, codes}
use Rattle.codes.specs.LineEnds.{each_after}
use Rattle.codes.specs.Lookup.{same, found, saying}
use Rattle.codes.specs.Pack.{Binary}
use Rattle.bits.proofs.Said.{and_left, and_right, and_both}
use Rattle.codes.proofs.BitsInBytes.{binary, binary-append, every-binary}
use Rattle.codes.proofs.EveryElement.{every, every_append}

pub saying-every : (f : Entry → Bool) (table : List Entry) → T (every f table) → (text : List ℕ) → T (every f (saying table text))
unfolding saying every first
saying-every f [] t text = tt
saying-every f (e ∷ table) t text =
    pick (same e.says text) (and_left (f e) (every f table) t) (saying-every f table (and_right (f e) (every f table) t) text)
  where
    pick : (b : Bool) → T (f e) → T (every f (saying table text)) → T (every f (cond b (e ∷ []) (saying table text)))
    pick true h k = and_both (f e) true h tt
    pick false h k = k

-- one is found, or none
pub saying-one : (table : List Entry) (text : List ℕ) → T (found (saying table text)) → length (saying table text) ≡ 1
unfolding saying found first
saying-one [] text t = absurd t
saying-one (e ∷ table) text t = pick (same e.says text) (saying-one table text) t
  where
    pick : (b : Bool) → (T (found (saying table text)) → length (saying table text) ≡ 1) → T (found (cond b (e ∷ []) (saying table text)))
        → length (cond b (e ∷ []) (saying table text)) ≡ 1
    pick true h k = refl
    pick false h k = h k

-- ---- the codes of entries

pub codes-every : (f : ℕ → Bool) (es : List Entry) → T (every (λ (e : Entry). every f e.code) es) → T (every f (codes es))
unfolding codes every
codes-every f [] t = tt
codes-every f (e ∷ es) t =
    let later : Bool = every (λ (d : Entry). every f d.code) es in
    every_append f e.code (codes es) (and_left (every f e.code) later t) (codes-every f es (and_right (every f e.code) later t))

pub codes-binary : (es : List Entry) → T (every binary es) → Binary (codes es)
unfolding codes every binary
codes-binary [] t = tt
codes-binary (e ∷ es) t =
    binary-append e.code (codes es) (every-binary e.code (and_left (binary e) (every binary es) t))
    (codes-binary es (and_right (binary e) (every binary es) t))

-- codes of one width
unfoldable pub wide : ℕ → Entry → Bool
wide width e = eqb (length e.code) width

pub codes-width : (width : ℕ) (es : List Entry) → T (every (wide width) es) → length (codes es) ≡ width * length es
unfolding codes every wide
codes-width width [] t = omega arith
codes-width width (e ∷ es) t =
    let later : Bool = every (wide width) es in
    omega (
      arith,
      length-append e.code (codes es),
      eqb→eq (length e.code) width (and_left (wide width e) later t),
      codes-width width es (and_right (wide width e) later t),
      mul-suc width (length es),
    )

-- codes of so many bits or more
unfoldable pub long : ℕ → Entry → Bool
long least e = leb least (length e.code)

pub codes-least : (least : ℕ) (es : List Entry) → T (every (long least) es) → least * length es ≤ length (codes es)
unfolding codes every long
codes-least least [] t = omega arith
codes-least least (e ∷ es) t =
    let later : Bool = every (long least) es in
    omega (
      arith,
      length-append e.code (codes es),
      leb→le least (length e.code) (and_left (long least e) later t),
      codes-least least es (and_right (long least e) later t),
      mul-suc least (length es),
    )

-- ---- each character of a row looked up

pub each-found : (table : List Entry) (b : ℕ) (row : List ℕ) → T (every (λ (c : ℕ). found (saying table (c ∷ []))) row)
    → length (each_after (λ before c. saying table (c ∷ [])) b row) ≡ length row
unfolding each_after every
each-found table b [] t = refl
each-found table b (c ∷ row) t =
    let later : Bool = every (λ (x : ℕ). found (saying table (x ∷ []))) row in
    omega (
      arith,
      length-append (saying table (c ∷ [])) (each_after (λ before x. saying table (x ∷ [])) c row),
      saying-one table (c ∷ []) (and_left (found (saying table (c ∷ []))) later t),
      each-found table c row (and_right (found (saying table (c ∷ []))) later t),
    )
