-- Tables with one code for a line end: each other entry says one character that is part of none. What holds of texts cut into pieces holds of them, by
-- tests that compute.
-- Assumes nothing.
use mathlib.Core.Path.{◌≡◌, refl, subst⁻¹}
use mathlib.Core.Bool.{Bool, true, false, not, cond, ◌&&◌}
use mathlib.Core.Logic.{◌⊎◌, inl, inr}
use mathlib.Core.List.{List, [], ◌∷◌, ◌++◌}
use Prim.Native.Nat.{ℕ, ◌<◌, zero-le, suc-le-suc}
use lib.Dec.{T, eqb, eqb→eq}
use lib.ListN.{length}
use Rattle.codes.specs.Chain.{Entry, In, texts}
use Rattle.codes.specs.LineEnds.{LF, CR, each_after, ended, line_ends}
use Rattle.codes.specs.Lookup.{found, saying}
use Rattle.bits.proofs.Said.{and_left, and_right}
use Rattle.codes.proofs.EveryElement.{every, every-at}
use Rattle.codes.proofs.Pieces.{Piece, AllIn}
use Rattle.codes.proofs.Pieces as pieces

-- the text is one character that is part of no line end, or it is one
unfoldable pub one_piece : List ℕ → Bool
one_piece [] = false
one_piece (c ∷ []) = not (eqb c CR) && not (eqb c LF)
one_piece (c ∷ d ∷ []) = eqb c CR && eqb d LF
one_piece (c ∷ d ∷ f ∷ u) = false

unfoldable pub lined : Entry → Bool
lined e = one_piece e.says

plain-piece : (c : ℕ) → T (not (eqb c CR) && not (eqb c LF)) → Piece ended (c ∷ [])
unfolding ended
plain-piece c t = inl (c, refl, λ b. pick b (eqb c CR) (eqb c LF) t)
  where
    pick : (b : ℕ) (p q : Bool) → T (not p && not q) → cond p (CR ∷ LF ∷ []) (cond q (cond (eqb b CR) [] (CR ∷ LF ∷ [])) (c ∷ [])) ≡ c ∷ []
    pick b true q t = absurd t
    pick b false true t = absurd t
    pick b false false t = refl

end-piece : Piece ended (CR ∷ LF ∷ [])
unfolding ended
end-piece = inr (CR, LF, refl, λ b. refl, refl)

one_piece_lem : (u : List ℕ) → T (one_piece u) → Piece ended u
unfolding one_piece
one_piece_lem [] t = absurd t
one_piece_lem (c ∷ []) t = plain-piece c t
one_piece_lem (c ∷ d ∷ []) t =
    subst⁻¹ (λ (x : ℕ). Piece ended (x ∷ d ∷ [])) (eqb→eq c CR (and_left (eqb c CR) (eqb d LF) t))
    (subst⁻¹ (λ (y : ℕ). Piece ended (CR ∷ y ∷ [])) (eqb→eq d LF (and_right (eqb c CR) (eqb d LF) t)) end-piece)
one_piece_lem (c ∷ d ∷ f ∷ u) t = absurd t

-- a text that is not empty has a piece
pub ended_some : (t : List ℕ) → 0 < length t → 0 < length (line_ends t)
unfolding line_ends each_after ended
ended_some [] some = some
ended_some (c ∷ t) some = pick (eqb c CR) (eqb c LF)
  where
    pick : (p q : Bool) → 0 < length (cond p (CR ∷ LF ∷ []) (cond q (CR ∷ LF ∷ []) (c ∷ [])) ++ each_after ended c t)
    pick true q = suc-le-suc zero-le
    pick false true = suc-le-suc zero-le
    pick false false = suc-le-suc zero-le

module _ (table : List Entry) (lines : T (every lined table)) where
  -- the entries' texts are pieces
  pub line-pieces : (e : Entry) → In e table → Piece ended e.says
  unfolding lined
  line-pieces e h = one_piece_lem e.says (every-at lined table lines e h)

  -- the pieces of a text, where the table has an entry for a line end
  pub line-whole : T (found (saying table (CR ∷ LF ∷ []))) → (b c : ℕ)
      → ((ended b c ≡ []) × T (found (saying table (ended 0 c)))) ⊎ ((ended b c ≡ ended 0 c) × Piece ended (ended b c))
  unfolding ended
  line-whole ends b c = pick (eqb c CR) (eqb c LF) (eqb b CR) (λ t. plain-piece c t)
    where
      pick : (p q r : Bool) → (T (not p && not q) → Piece ended (c ∷ []))
          → ((cond p (CR ∷ LF ∷ []) (cond q (cond r [] (CR ∷ LF ∷ [])) (c ∷ [])) ≡ [])
          × T (found (saying table (cond p (CR ∷ LF ∷ []) (cond q (CR ∷ LF ∷ []) (c ∷ []))))))
          ⊎ ((cond p (CR ∷ LF ∷ []) (cond q (cond r [] (CR ∷ LF ∷ [])) (c ∷ [])) ≡ cond p (CR ∷ LF ∷ []) (cond q (CR ∷ LF ∷ []) (c ∷ [])))
          × Piece ended (cond p (CR ∷ LF ∷ []) (cond q (cond r [] (CR ∷ LF ∷ [])) (c ∷ []))))
      pick true q r k = inr (refl, end-piece)
      pick false true true k = inl (refl, ends)
      pick false true false k = inr (refl, end-piece)
      pick false false r k = inr (refl, k tt)

  -- what entries say has its line ends
  pub lines-kept : (es : List Entry) → AllIn table es → line_ends (texts es) ≡ texts es
  unfolding line_ends
  lines-kept es h = pieces.pieces_kept ended table line-pieces es h 0
