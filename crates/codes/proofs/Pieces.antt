-- Texts cut into pieces, one for each character, told by the character before it and by itself; and a table each of whose entries says one piece. Then a
-- text has one row of entries: the entry of each piece.
-- Assumes nothing.
use mathlib.Core.Path.{◌≡◌, refl, sym, ap, ap₂, subst, subst⁻¹, ◌∙◌}
use mathlib.Core.Bool.{Bool}
use mathlib.Core.Logic.{◌⊎◌, inl, inr, ⊎_elim}
use mathlib.Core.List.{List, [], ◌∷◌, ◌++◌, append_assoc, append-nil, append_cancel_left}
use Prim.Native.Nat.{ℕ, ◌<◌}
use native.Mathlib.Omega.{arith}
use lib.Dec.{T}
use lib.ListN.{length, get_or, length-append}
use Rattle.codes.specs.Chain.{Entry, single, In, state_after, Row, texts}
use Rattle.codes.specs.Coded.{alone, CodedBelow}
use Rattle.codes.specs.LineEnds.{each_after}
use Rattle.codes.specs.Lookup.{found, saying}
use Rattle.codes.proofs.CodedTexts.{coded_none, coded-cons, coded-rest}
use Rattle.codes.proofs.EveryElement.{every}
use Rattle.codes.proofs.Lookup.{unlike, Sayer, sayer, saying-own}
use Rattle.codes.proofs.PassedEntries.{texts-append}
use Rattle.codes.proofs.SingleTable.{mute, row_one}

-- the entries stand in the table
abbrev pub AllIn : List Entry → List Entry → Type 0
AllIn table [] = Unit {0}
AllIn table (e ∷ es) = In e table × AllIn table es

pub row-all : (table : List Entry) (unused m n : ℕ) (es : List Entry) → Row (single table unused) m es n → AllIn table es
row-all table unused m n [] r = tt
row-all table unused m n (e ∷ es) r = (r.0, row-all table unused (state_after m e) n es r.1)

pub all_row : (table : List Entry) → T (every mute table) → (unused : ℕ) (es : List Entry) → AllIn table es → Row (single table unused) 0 es 0
all_row table mutes unused [] h = refl
all_row table mutes unused (e ∷ es) h = row_one mutes unused es h.0 (all_row table mutes unused es h.1)

pub all_append : (table es ds : List Entry) → AllIn table es → AllIn table ds → AllIn table (es ++ ds)
all_append table [] ds h k = k
all_append table (e ∷ es) ds h k = (h.0, all_append table es ds h.1 k)

-- a text that is one piece: a character that is its own whatever stands before it; or two, of which the first gives both, and the second behind it none
abbrev pub Piece : (ℕ → ℕ → List ℕ) → List ℕ → Type 0
Piece cut u =
    ((c : ℕ) × (u ≡ c ∷ []) × ((b : ℕ) → cut b c ≡ c ∷ []))
    ⊎ ((c d : ℕ) × (u ≡ c ∷ d ∷ []) × ((b : ℕ) → cut b c ≡ c ∷ d ∷ []) × (cut c d ≡ []))

-- what each entry's text gives, in a row
unfoldable each_said : {A : Type 0} → (List ℕ → List A) → List Entry → List A
each_said g [] = []
each_said g (e ∷ es) = g e.says ++ each_said g es

module _ {A : Type 0} (cut : ℕ → ℕ → List ℕ) (g : List ℕ → List A) (none : g [] ≡ []) where
  abbrev given : ℕ → List ℕ → List A
  given = each_after (λ b c. g (cut b c))

  -- a piece in front
  piece-front : (u t : List ℕ) → Piece cut u → (b : ℕ) → (rest : List A) → ((d : ℕ) → given d t ≡ rest) → given b (u ++ t) ≡ g u ++ rest
  unfolding each_after
  piece-front u t (inl p) b rest h =
      subst⁻¹ (λ (v : List ℕ). given b (v ++ t) ≡ g v ++ rest) p.1 (ap₂ (λ (x y : List A). x ++ y) (ap g (p.2 b)) (h p.0))
  piece-front u t (inr p) b rest h =
      subst⁻¹ (λ (v : List ℕ). given b (v ++ t) ≡ g v ++ rest) p.2
      (ap₂ (λ (x y : List A). x ++ y) (ap g (p.3 b)) (ap₂ (λ (x y : List A). x ++ y) (ap g p.4 ∙ none) (h p.1)))

module _ (cut : ℕ → ℕ → List ℕ) (table : List Entry) (pieces : (e : Entry) → In e table → Piece cut e.says) where
  module _ {A : Type 0} (g : List ℕ → List A) (none : g [] ≡ []) where
    each-said : (es : List Entry) → AllIn table es → (b : ℕ) → each_after (λ b c. g (cut b c)) b (texts es) ≡ each_said g es
    unfolding texts each_said each_after
    each-said [] h b = refl
    each-said (e ∷ es) h b = piece-front cut g none e.says (texts es) (pieces e h.0) b (each_said g es) (λ d. each-said es h.1 d)

  -- what entries say is cut as they say it
  id-said : (es : List Entry) → each_said (λ (u : List ℕ). u) es ≡ texts es
  unfolding each_said texts
  id-said [] = refl
  id-said (e ∷ es) = ap (λ (l : List ℕ). e.says ++ l) (id-said es)

  pub pieces_kept : (es : List Entry) → AllIn table es → (b : ℕ) → each_after cut b (texts es) ≡ texts es
  pieces_kept es h b = each-said (λ (u : List ℕ). u) refl es h b ∙ id-said es

  -- no entry says nothing
  pub piece-long : (u : List ℕ) → Piece cut u → 0 < length u
  piece-long u (inl p) = omega (arith, ap length p.1)
  piece-long u (inr p) = omega (arith, ap length p.2)

  pub nothing_said : saying table [] ≡ []
  nothing_said = ⊎_elim (λ n. n) (λ o. absurd (let no : ⊥ = omega (arith, piece-long o.0.says (pieces o.0 o.1), ap length o.2) in no)) (sayer table [])

  module _ (distinct : T (unlike (λ e. e.says) table)) where
    own-said : (es : List Entry) → AllIn table es → each_said (saying table) es ≡ es
    unfolding each_said
    own-said [] h = refl
    own-said (e ∷ es) h = ap₂ (λ (x y : List Entry). x ++ y) (saying-own table distinct e h.0) (own-said es h.1)

    -- the row of what entries say is these entries
    pub pieces-back : (es : List Entry) → AllIn table es → (b : ℕ) → each_after (λ b c. saying table (cut b c)) b (texts es) ≡ es
    pieces-back es h b = each-said (saying table) nothing_said es h b ∙ own-said es h

    -- so no text has two rows
    pub one-row : (es ds : List Entry) → AllIn table es → AllIn table ds → texts es ≡ texts ds → es ≡ ds
    one-row es ds h k x = sym (pieces-back es h 0) ∙ ap (each_after (λ b c. saying table (cut b c)) 0) x ∙ pieces-back ds k 0

    module _ (whole : (b c : ℕ) → ((cut b c ≡ []) × T (found (saying table (cut 0 c)))) ⊎ ((cut b c ≡ cut 0 c) × Piece cut (cut b c))) where
      abbrev known : ℕ → Bool
      known c = found (saying table (cut 0 c))

      abbrev row : ℕ → List ℕ → List Entry
      row = each_after (λ b c. saying table (cut b c))

      -- entries that were found say what they were looked up by
      found-says : (u : List ℕ) → T (found (saying table u)) → texts (saying table u) ≡ u
      unfolding texts found
      found-says u t = pick (saying table u) (sayer table u) t
        where
          pick : (l : List Entry) → Sayer table u l → T (found l) → texts l ≡ u
          pick l (inl n) t = absurd (subst (λ (k : List Entry). T (found k)) n t)
          pick l (inr o) t = subst⁻¹ (λ (k : List Entry). texts k ≡ u) o.3 (append-nil o.0.says ∙ o.2)

      cut-says : (b c : ℕ) → T (known c) → texts (saying table (cut b c)) ≡ cut b c
      unfolding texts
      cut-says b c t =
          ⊎_elim (λ n. subst⁻¹ (λ (u : List ℕ). texts (saying table u) ≡ u) n.0 (ap texts nothing_said))
          (λ s. found-says (cut b c) (subst⁻¹ (λ (u : List ℕ). T (found (saying table u))) s.0 t)) (whole b c)

      -- the row of a text whose characters are known says its pieces
      pub pieces-says : (t : List ℕ) → CodedBelow (alone known) t (length t) → (b : ℕ) → texts (row b t) ≡ each_after cut b t
      unfolding each_after texts
      pieces-says [] h b = refl
      pieces-says (c ∷ t) h b =
          texts-append (saying table (cut b c)) (row c t)
          ∙ ap₂ (λ (x y : List ℕ). x ++ y) (cut-says b c (h 0 (omega arith))) (pieces-says t (coded-rest known c t h) c)

      -- and stands in the table
      found_in : (u : List ℕ) → AllIn table (saying table u)
      found_in u =
          ⊎_elim (λ n. subst⁻¹ (AllIn table) n tt) (λ o. subst⁻¹ (AllIn table) o.3 (o.1, tt)) (sayer table u)

      pub pieces-in : (t : List ℕ) (b : ℕ) → AllIn table (row b t)
      unfolding each_after
      pieces-in [] b = tt
      pieces-in (c ∷ t) b = all_append table (saying table (cut b c)) (row c t) (found_in (cut b c)) (pieces-in t c)

      -- a piece is told by its first character, so two in front of the same text are the same
      piece-first : (u s : List ℕ) → Piece cut u → u ≡ cut 0 (get_or (u ++ s) 0 0)
      piece-first u s (inl p) = subst⁻¹ (λ (v : List ℕ). v ≡ cut 0 (get_or (v ++ s) 0 0)) p.1 (sym (p.2 0))
      piece-first u s (inr p) = subst⁻¹ (λ (v : List ℕ). v ≡ cut 0 (get_or (v ++ s) 0 0)) p.2 (sym (p.3 0))

      same-piece : (u v s t : List ℕ) → Piece cut u → Piece cut v → u ++ s ≡ v ++ t → u ≡ v
      same-piece u v s t p q x = piece-first u s p ∙ ap (λ (l : List ℕ). cut 0 (get_or l 0 0)) x ∙ sym (piece-first v t q)

      -- entries that say the pieces of a text, and then something, are its row and then others; and its characters are known
      pub record Fronts (es : List Entry) (b : ℕ) (t after : List ℕ) : Type 0 where
        pub others : List Entry
        pub is : es ≡ row b t ++ others
        pub says : texts others ≡ after
        pub coded : CodedBelow (alone known) t (length t)

      module _ (b c : ℕ) (t after : List ℕ) (later : (es : List Entry) → AllIn table es → texts es ≡ each_after cut c t ++ after → Fronts es c t after) where
        silent-front : (es : List Entry) → AllIn table es → cut b c ≡ [] → T (known c) → texts es ≡ (cut b c ++ each_after cut c t) ++ after
            → Fronts es b (c ∷ t) after
        unfolding each_after
        silent-front es h n k x =
            let f = later es h (x ∙ ap (λ (u : List ℕ). (u ++ each_after cut c t) ++ after) n) in
            record {
              others = f.others;
              is = f.is ∙ ap (λ (l : List Entry). (l ++ row c t) ++ f.others) (sym (ap (saying table) n ∙ nothing_said));
              says = f.says;
              coded = coded-cons known c t k f.coded;
            }

        spoken-front : (es : List Entry) → AllIn table es → cut b c ≡ cut 0 c → Piece cut (cut b c) → texts es ≡ (cut b c ++ each_after cut c t) ++ after
            → Fronts es b (c ∷ t) after
        unfolding each_after texts found
        spoken-front [] h s p x =
            absurd (let no : ⊥ = omega (
              arith,
              piece-long (cut b c) p,
              ap length x,
              length-append (cut b c ++ each_after cut c t) after,
              length-append (cut b c) (each_after cut c t),
            ) in no)
        spoken-front (e ∷ es) h s p x =
            let y = x ∙ append_assoc (cut b c) (each_after cut c t) after in
            let z = same-piece e.says (cut b c) (texts es) (each_after cut c t ++ after) (pieces e h.0) p y in
            let f = later es h.1 (append_cancel_left (cut b c) (texts es) (each_after cut c t ++ after) (ap (λ (u : List ℕ). u ++ texts es) (sym z) ∙ y)) in
            let found-one = ap (saying table) (sym z) ∙ saying-own table distinct e h.0 in
            record {
              others = f.others;
              is = ap (λ (l : List Entry). e ∷ l) f.is ∙ ap (λ (l : List Entry). (l ++ row c t) ++ f.others) (sym found-one);
              says = f.says;
              coded = coded-cons known c t (subst (λ (u : List ℕ). T (found (saying table u))) s (subst⁻¹ (λ (l : List Entry). T (found l)) found-one tt)) f.coded;
            }

      pub pieces-front : (t : List ℕ) (es : List Entry) → AllIn table es → (b : ℕ) (after : List ℕ) → texts es ≡ each_after cut b t ++ after → Fronts es b t after
      unfolding each_after
      pieces-front [] es h b after x = record { others = es; is = refl; says = x; coded = coded_none known }
      pieces-front (c ∷ t) es h b after x =
          ⊎_elim (λ n. silent-front b c t after (λ ds k y. pieces-front t ds k c after y) es h n.0 n.1 x)
          (λ w. spoken-front b c t after (λ ds k y. pieces-front t ds k c after y) es h w.0 w.1 x) (whole b c)
