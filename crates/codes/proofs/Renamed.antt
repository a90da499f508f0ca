-- The characters that a scheme's entries say are replaced, each by another: the same data is read, as the text with its characters so replaced, and the
-- same data is malformed, at the same bit.
-- Assumes nothing.
use mathlib.Core.Path.{◌≡◌, refl, sym, ap, ap₂, subst, subst⁻¹, ◌∙◌}
use mathlib.Core.List.Memᴰ
use mathlib.Core.List.{List, [], ◌∷◌, ◌++◌, map, map-append}
use mathlib.Core.Logic.{◌↔◌}
use Prim.Native.Nat.{ℕ}
use lib.ListN.{length}
use Rattle.codes.specs.Chain.{Entry, Scheme, In, state_after, Row, codes, texts, Fill, Begins, Built, Malformed}

module _ (f : ℕ → ℕ) where
  -- an entry with its characters replaced
  abbrev pub renamed : Entry → Entry
  renamed e = record { code = e.code; says = map f e.says; announces = e.announces }

  renamed-codes : (es : List Entry) → codes (map renamed es) ≡ codes es
  unfolding codes
  renamed-codes [] = refl
  renamed-codes (e ∷ es) = ap (λ (bs : List ℕ). e.code ++ bs) (renamed-codes es)

  renamed-texts : (es : List Entry) → texts (map renamed es) ≡ map f (texts es)
  unfolding texts
  renamed-texts [] = refl
  renamed-texts (e ∷ es) = ap (λ (t : List ℕ). map f e.says ++ t) (renamed-texts es) ∙ sym (map-append f e.says (texts es))

  -- two schemes, of which the other has the entries of the one with their characters replaced
  module _ (one other : Scheme) (tables : (m : ℕ) → other.table m ≡ map renamed (one.table m)) (same : other.unused ≡ one.unused) where
    entry-there : (m : ℕ) (e : Entry) → In e (one.table m) → In (renamed e) (other.table m)
    entry-there m e h = subst⁻¹ (In (renamed e)) (tables m) (Memᴰ.map renamed h)

    entry-back : (m : ℕ) (d : Entry) → In d (other.table m) → (e : Entry) × In e (one.table m) × (renamed e ≡ d)
    entry-back m d h = Memᴰ.of_map renamed (one.table m) (subst (In d) (tables m) h)

    row-there : (m n : ℕ) (es : List Entry) → Row one m es n → Row other m (map renamed es) n
    unfolding state_after
    row-there m n [] r = r
    row-there m n (e ∷ es) r = (entry-there m e r.0, row-there (state_after m e) n es r.1)

    row_back : (m n : ℕ) (ds : List Entry) → Row other m ds n → (es : List Entry) × Row one m es n × (map renamed es ≡ ds)
    unfolding state_after
    row_back m n [] r = ([], r, refl)
    row_back m n (d ∷ ds) r =
        let e = entry-back m d r.0 in
        let es = row_back (state_after m e.0) n ds (subst⁻¹ (λ (x : Entry). Row other (state_after m x) ds n) e.2 r.1) in
        (e.0 ∷ es.0, (e.1, es.1), ap₂ (λ (x : Entry) (l : List Entry). x ∷ l) e.2 es.2)

    pub renamed-built : (t sent : List ℕ) → Built one t sent → Built other (map f t) sent
    renamed-built t sent b = record {
      entries = map renamed b.entries;
      fill = b.fill;
      row = row-there 0 0 b.entries b.row;
      says = renamed-texts b.entries ∙ ap (map f) b.says;
      ends = subst⁻¹ (λ (n : ℕ). Fill n b.fill) same b.ends;
      bits = b.bits ∙ ap (λ (c : List ℕ). c ++ b.fill) (sym (renamed-codes b.entries));
    }

    pub built-renamed : (u sent : List ℕ) → Built other u sent → (t : List ℕ) × Built one t sent × (u ≡ map f t)
    built-renamed u sent b =
        let r = row_back 0 0 b.entries b.row in
        let code : codes b.entries ≡ codes r.0 = ap codes (sym r.2) ∙ renamed-codes r.0 in (
          texts r.0,
          record {
            entries = r.0;
            fill = b.fill;
            row = r.1;
            says = refl;
            ends = subst (λ (n : ℕ). Fill n b.fill) same b.ends;
            bits = b.bits ∙ ap (λ (c : List ℕ). c ++ b.fill) code;
          },
          sym b.says ∙ ap texts (sym r.2) ∙ renamed-texts r.0,
        )

    pub renamed-malformed : (sent : List ℕ) (i : ℕ) → Malformed one sent i ↔ Malformed other sent i
    renamed-malformed sent i = (there, back)
      where
        there : Malformed one sent i → Malformed other sent i
        there s = record {
          entries = map renamed s.entries;
          state = s.state;
          rest = s.rest;
          row = row-there 0 s.state s.entries s.row;
          place = s.place ∙ ap length (sym (renamed-codes s.entries));
          bits = s.bits ∙ ap (λ (c : List ℕ). c ++ s.rest) (sym (renamed-codes s.entries));
          none = λ d h b.
              let e = entry-back s.state d h in
              s.none e.0 e.1 (subst⁻¹ (λ (x : Entry). Begins x.code s.rest) e.2 b);
          no_end = λ z k. s.no_end z (subst (λ (n : ℕ). Fill n s.rest) same k);
        }

        back : Malformed other sent i → Malformed one sent i
        back s =
            let r = row_back 0 s.state s.entries s.row in
            let code : codes s.entries ≡ codes r.0 = ap codes (sym r.2) ∙ renamed-codes r.0 in
            record {
              entries = r.0;
              state = s.state;
              rest = s.rest;
              row = r.1;
              place = s.place ∙ ap length code;
              bits = s.bits ∙ ap (λ (c : List ℕ). c ++ s.rest) code;
              none = λ e h b. s.none (renamed e) (entry-there s.state e h) b;
              no_end = λ z k. s.no_end z (subst⁻¹ (λ (n : ℕ). Fill n s.rest) same k);
            }
