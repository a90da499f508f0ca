-- The reading of codes in a row: one text, one place, never both and always one; and how one entry in front changes it.
-- Assumes nothing.
use mathlib.Core.Path.{◌≡◌, refl, sym, ap, ap₂, subst, subst⁻¹, ◌∙◌}
use mathlib.Core.Bool.{Bool, true, false, cond}
use mathlib.Core.Option.{Option, none, some}
use mathlib.Core.List.{List, [], ◌∷◌, ◌++◌, append_assoc, append_cancel_left}
use Prim.Native.Nat.{ℕ, zero, suc, ◌+◌, ◌≤◌}
use native.Mathlib.Nat.{le_refl}
use native.Mathlib.Omega.{arith}
use lib.Dec.{T}
use lib.ListN.{length, drop, length-append, length-drop}
use lib.Seq.{drop-append_seam}
use Rattle.codes.specs.Chain.{Entry, Scheme, In, state_after, Row, codes, texts, Fill, Begins, Builds, Stuck, count_in, count_before, bits_in}
use Rattle.codes.specs.Steps.Measure.{BuildsIn, StuckAfter}
pub use Rattle.codes.specs.Reading.{Answer, text, stuck, Halts}
use Rattle.codes.specs.Reading.{front}
use Rattle.codes.proofs.Fill.{fills, fills-fill, fill-fills}
use Rattle.codes.proofs.SchemeLaws.{Laws}
use Rattle.codes.proofs.TableSearch.{find, Found, found}

-- an entry in front of a reading
pub builds-more : {scheme : Scheme} {m : ℕ} {e : Entry} {bs t : List ℕ} → In e (scheme.table m)
    → Builds scheme (state_after m e) bs t → Builds scheme m (e.code ++ bs) (e.says ++ t)
unfolding codes texts
builds-more {e = e} h r = record {
  entries = e ∷ r.entries;
  fill = r.fill;
  row = (h, r.row);
  says = ap (λ (t : List ℕ). e.says ++ t) r.says;
  ends = r.ends;
  bits = ap (λ (l : List ℕ). e.code ++ l) r.bits ∙ sym (append_assoc e.code (codes r.entries) r.fill);
}

unfoldable pub stuck-more : {scheme : Scheme} {m i : ℕ} {e : Entry} {bs : List ℕ} → In e (scheme.table m)
    → Stuck scheme (state_after m e) bs i → Stuck scheme m (e.code ++ bs) (length e.code + i)
unfolding codes
stuck-more {e = e} h s = record {
  entries = e ∷ s.entries;
  state = s.state;
  rest = s.rest;
  row = (h, s.row);
  place = ap (λ (n : ℕ). length e.code + n) s.place ∙ sym (length-append e.code (codes s.entries));
  bits = ap (λ (l : List ℕ). e.code ++ l) s.bits ∙ sym (append_assoc e.code (codes s.entries) s.rest);
  none = s.none;
  no_end = s.no_end;
}

-- the end of a reading
unfoldable pub builds-end : (scheme : Scheme) {f : List ℕ} → Fill scheme.unused f → Builds scheme 0 f []
unfolding codes texts
builds-end scheme {f} h = record { entries = []; fill = f; row = refl; says = refl; ends = h; bits = refl }

unfoldable pub stuck-here : {scheme : Scheme} {m : ℕ} {bs : List ℕ} → Halts scheme m bs → (m ≡ 0 → Fill scheme.unused bs → ⊥) → Stuck scheme m bs 0
unfolding codes
stuck-here {m = m} {bs = bs} h k = record {
  entries = [];
  state = m;
  rest = bs;
  row = refl;
  place = refl;
  bits = refl;
  none = h;
  no_end = k;
}

-- what an answer means for a maker: the bits are a building of the text in so many codes, or no building goes on at the bit, behind so many
abbrev pub Means : Scheme → ℕ → List ℕ → Answer → Type 0
Means scheme m bs (text t codes) = BuildsIn scheme m bs t codes
Means scheme m bs (stuck i codes) = StuckAfter scheme m bs i codes

-- the answer where no entry begins the bits
abbrev pub last : Scheme → ℕ → List ℕ → Answer
last scheme zero bs = cond (fills scheme.unused bs) (text [] 0) (stuck 0 0)
last scheme (suc m) bs = stuck 0 0

abbrev pub first : Option Entry → Answer → (Entry → Answer) → Answer
first none a f = a
first (some e) a f = front e (f e)

-- a reading that computes, of at most n entries
unfoldable pub answer : Scheme → ℕ → ℕ → List ℕ → Answer
answer scheme zero m bs = last scheme m bs
answer scheme (suc n) m bs =
    first (find (scheme.table m) bs) (last scheme m bs) (λ (e : Entry). answer scheme n (state_after m e) (drop (length e.code) bs))

pub front-means : (scheme : Scheme) (m : ℕ) (e : Entry) (bs : List ℕ) (a : Answer) → In e (scheme.table m) → Means scheme (state_after m e) bs a
    → Means scheme m (e.code ++ bs) (front e a)
unfolding builds-more stuck-more
front-means scheme m e bs (text t codes) h r = (builds-more h r.0, ap suc r.1)
front-means scheme m e bs (stuck i codes) h s = (stuck-more h s.0, ap suc s.1)

last-means : (scheme : Scheme) (m : ℕ) (bs : List ℕ) → Halts scheme m bs → Means scheme m bs (last scheme m bs)
unfolding builds-end stuck-here
last-means scheme (suc m) bs h = (stuck-here h (λ e. absurd (let no' : ⊥ = omega arith in no')), refl)
last-means scheme zero bs h = pick (fills scheme.unused bs) refl
  where
    pick : (t : Bool) → fills scheme.unused bs ≡ t → Means scheme 0 bs (cond t (text [] 0) (stuck 0 0))
    pick true x = (builds-end scheme (fills-fill scheme.unused bs (subst⁻¹ T x tt)), refl)
    pick false x = (stuck-here h (λ e f. subst T x (fill-fills scheme.unused bs f)), refl)

module _ {scheme : Scheme} (laws : Laws scheme) where
  -- entries that go as far as they can, whichever they are, are the same, and leave the same
  agree : (m n p : ℕ) (es ds : List Entry) (r s : List ℕ) → Row scheme m es n → Row scheme m ds p → Halts scheme n r
      → Halts scheme p s → codes es ++ r ≡ codes ds ++ s → (es ≡ ds) × (n ≡ p) × (r ≡ s)
  unfolding codes
  agree m n p [] [] r s re rd he hd x = (refl, sym re ∙ rd, x)
  agree m n p [] (d ∷ ds) r s re rd he hd x =
      absurd (he d (subst (λ (k : ℕ). In d (scheme.table k)) re rd.0) (codes ds ++ s, x ∙ append_assoc d.code (codes ds) s))
  agree m n p (e ∷ es) [] r s re rd he hd x =
      absurd (hd e (subst (λ (k : ℕ). In e (scheme.table k)) rd re.0) (codes es ++ r, sym x ∙ append_assoc e.code (codes es) r))
  agree m n p (e ∷ es) (d ∷ ds) r s re rd he hd x =
      let left : codes (e ∷ es) ++ r ≡ e.code ++ (codes es ++ r) = append_assoc e.code (codes es) r in
      let right : codes (e ∷ es) ++ r ≡ d.code ++ (codes ds ++ s) = x ∙ append_assoc d.code (codes ds) s in
      let same : e ≡ d =
      laws.alone m e d re.0 rd.0 (codes (e ∷ es) ++ r) (codes es ++ r, left) (codes ds ++ s, right) in
      let rest : codes es ++ r ≡ codes ds ++ s =
      append_cancel_left e.code (codes es ++ r) (codes ds ++ s)
      (sym left ∙ right ∙ ap (λ (z : Entry). z.code ++ (codes ds ++ s)) (sym same)) in
      let row : Row scheme (state_after m e) ds p = subst⁻¹ (λ (z : Entry). Row scheme (state_after m z) ds p) same rd.1 in
      let ih : (es ≡ ds) × (n ≡ p) × (r ≡ s) = agree (state_after m e) n p es ds r s re.1 row he hd rest in
      (ap₂ (λ (z : Entry) (l : List Entry). z ∷ l) same ih.0, ih.1, ih.2)

  -- bits are a building of one row of entries, hence of one text
  pub one-row : {m : ℕ} {bs t u : List ℕ} (a : Builds scheme m bs t) (b : Builds scheme m bs u) → a.entries ≡ b.entries
  one-row {m = m} a b =
      (agree m 0 0 a.entries b.entries a.fill b.fill a.row b.row
      (λ e h. laws.no-fill e h a.fill a.ends) (λ e h. laws.no-fill e h b.fill b.ends)
      (sym a.bits ∙ b.bits)).0

  pub one-text : {m : ℕ} {bs t u : List ℕ} → Builds scheme m bs t → Builds scheme m bs u → t ≡ u
  one-text a b = sym a.says ∙ ap texts (one-row a b) ∙ b.says

  -- and of one count
  pub one-count : {m : ℕ} {bs t u : List ℕ} (a : Builds scheme m bs t) (b : Builds scheme m bs u) → count_in a ≡ count_in b
  one-count a b = ap length (one-row a b)

  -- with as many bits before the fill
  pub one_size : {m : ℕ} {bs t u : List ℕ} (a : Builds scheme m bs t) (b : Builds scheme m bs u) → bits_in a ≡ bits_in b
  one_size a b = ap (λ (es : List Entry). length (codes es)) (one-row a b)

  -- the entries before a place at which a reading is stuck, the place, and how many they are
  one-stuck : {m i j : ℕ} {bs : List ℕ} (a : Stuck scheme m bs i) (b : Stuck scheme m bs j) → a.entries ≡ b.entries
  one-stuck {m = m} a b =
      (agree m a.state b.state a.entries b.entries a.rest b.rest a.row b.row a.none b.none (sym a.bits ∙ b.bits)).0

  pub one_place : {m i j : ℕ} {bs : List ℕ} → Stuck scheme m bs i → Stuck scheme m bs j → i ≡ j
  one_place a b = a.place ∙ ap (λ (es : List Entry). length (codes es)) (one-stuck a b) ∙ sym b.place

  pub one-before : {m i j : ℕ} {bs : List ℕ} (a : Stuck scheme m bs i) (b : Stuck scheme m bs j) → count_before a ≡ count_before b
  one-before a b = ap length (one-stuck a b)

  pub never_both : {m i : ℕ} {bs t : List ℕ} → Builds scheme m bs t → Stuck scheme m bs i → ⊥
  never_both {m = m} a b =
      let same : (a.entries ≡ b.entries) × (0 ≡ b.state) × (a.fill ≡ b.rest) =
      agree m 0 b.state a.entries b.entries a.fill b.rest a.row b.row
      (λ e h. laws.no-fill e h a.fill a.ends) b.none (sym a.bits ∙ b.bits) in
      b.no_end (sym same.1) (subst (Fill scheme.unused) same.2 a.ends)

  -- one answer
  pub one_answer : (m : ℕ) (bs : List ℕ) (a b : Answer) → Means scheme m bs a → Means scheme m bs b → a ≡ b
  one_answer m bs (text t k) (text u l) r s = ap₂ {C = Answer} text (one-text r.0 s.0) (sym r.1 ∙ one-count r.0 s.0 ∙ s.1)
  one_answer m bs (text t k) (stuck j l) r s = absurd (never_both r.0 s.0)
  one_answer m bs (stuck i k) (text u l) r s = absurd (never_both s.0 r.0)
  one_answer m bs (stuck i k) (stuck j l) r s = ap₂ {C = Answer} stuck (one_place r.0 s.0) (sym r.1 ∙ one-before r.0 s.0 ∙ s.1)

  first-means : (m : ℕ) (bs : List ℕ) (f : Entry → Answer) (o : Option Entry) → Found (scheme.table m) bs o
      → ((e : Entry) → In e (scheme.table m) → (b : Begins e.code bs) → Means scheme (state_after m e) b.0 (f e))
      → Means scheme m bs (first o (last scheme m bs) f)
  first-means m bs f none h below = last-means scheme m bs h
  first-means m bs f (some e) h below =
      subst⁻¹ (λ (l : List ℕ). Means scheme m l (front e (f e))) h.1.1 (front-means scheme m e h.1.0 (f e) h.0 (below e h.0 h.1))

  -- and always one, which computes
  pub answer-means : (n m : ℕ) (bs : List ℕ) → length bs ≤ n → Means scheme m bs (answer scheme n m bs)
  unfolding answer
  answer-means zero m bs k =
      last-means scheme m bs
      (λ e h b. let no' : ⊥ = omega (arith, laws.has-bits m e h, length-append e.code b.0, ap length b.1) in no')
  answer-means (suc n) m bs k =
      first-means m bs (λ (e : Entry). answer scheme n (state_after m e) (drop (length e.code) bs)) (find (scheme.table m) bs)
      (found (scheme.table m) bs)
      (λ e h b.
      subst (λ (l : List ℕ). Means scheme (state_after m e) l (answer scheme n (state_after m e) (drop (length e.code) bs)))
      (ap (drop (length e.code)) b.1 ∙ drop-append_seam e.code b.0)
      (answer-means n (state_after m e) (drop (length e.code) bs)
      (omega (arith, laws.has-bits m e h, length-drop (length e.code) bs))))

  pub always : (m : ℕ) (bs : List ℕ) → Means scheme m bs (answer scheme (length bs) m bs)
  always m bs = answer-means (length bs) m bs (le_refl (length bs))
