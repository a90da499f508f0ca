-- Entries that were passed on the way through the bits.
-- Assumes nothing.
use mathlib.Core.Path.{◌≡◌, refl, sym, ap, ap₂, subst, ◌∙◌}
use mathlib.Core.List.{List, [], ◌∷◌, ◌++◌, append_assoc, append-nil}
use Prim.Native.Nat.{ℕ, ◌+◌}
use native.Mathlib.Omega.{arith}
use lib.ListN.{length, length-append}
use Rattle.codes.specs.Chain.{Entry, Scheme, In, state_after, Row, codes, texts, Builds, Stuck, count_in, count_before}
use Rattle.codes.specs.Steps.Measure.{BuildsIn, StuckAfter}
use Rattle.codes.specs.Steps.Passed.{Passed}
use Rattle.codes.proofs.SchemeLaws.{Laws}
use Rattle.codes.proofs.OneReading.{Answer, text, stuck, Means, answer, always, one-text, never_both}

pub row-append : (scheme : Scheme) (m k n : ℕ) (es ds : List Entry) → Row scheme m es k → Row scheme k ds n → Row scheme m (es ++ ds) n
row-append scheme m k n [] ds r q = subst (λ (j : ℕ). Row scheme j ds n) (sym r) q
row-append scheme m k n (e ∷ es) ds r q = (r.0, row-append scheme (state_after m e) k n es ds r.1 q)

pub codes-append : (es ds : List Entry) → codes (es ++ ds) ≡ codes es ++ codes ds
unfolding codes
codes-append [] ds = refl
codes-append (e ∷ es) ds =
    ap (λ (l : List ℕ). e.code ++ l) (codes-append es ds) ∙ sym (append_assoc e.code (codes es) (codes ds))

pub texts-append : (es ds : List Entry) → texts (es ++ ds) ≡ texts es ++ texts ds
unfolding texts
texts-append [] ds = refl
texts-append (e ∷ es) ds =
    ap (λ (l : List ℕ). e.says ++ l) (texts-append es ds) ∙ sym (append_assoc e.says (texts es) (texts ds))

pub passed_none : (scheme : Scheme) (bs : List ℕ) → Passed scheme bs 0 bs [] 0
unfolding codes texts
passed_none scheme bs = record { entries = []; row = refl; says = refl; bits = refl; count = refl }

-- what follows the bits does not matter
pub passed-front : {scheme : Scheme} {bs rest said : List ℕ} {m k : ℕ} (more : List ℕ) → Passed scheme bs m rest said k
    → Passed scheme (bs ++ more) m (rest ++ more) said k
passed-front {rest = rest} more p = record {
  entries = p.entries;
  row = p.row;
  says = p.says;
  bits = ap (λ (l : List ℕ). l ++ more) p.bits ∙ append_assoc (codes p.entries) rest more;
  count = p.count;
}

-- entries passed after others, where nothing is announced between
pub passed_on : {scheme : Scheme} {bs rest later said next : List ℕ} {m j k : ℕ} → Passed scheme bs 0 rest said j → Passed scheme rest m later next k
    → Passed scheme bs m later (said ++ next) (j + k)
passed_on {scheme} {later = later} {m = m} p q = record {
  entries = p.entries ++ q.entries;
  row = row-append scheme 0 0 m p.entries q.entries p.row q.row;
  says = texts-append p.entries q.entries ∙ ap₂ (λ (a b : List ℕ). a ++ b) p.says q.says;
  bits = p.bits ∙ ap (λ (l : List ℕ). codes p.entries ++ l) q.bits
      ∙ sym (append_assoc (codes p.entries) (codes q.entries) later)
      ∙ ap (λ (l : List ℕ). l ++ later) (sym (codes-append p.entries q.entries));
  count = length-append p.entries q.entries ∙ ap₂ (λ (a b : ℕ). a + b) p.count q.count;
}

module _ {scheme : Scheme} {bs said : List ℕ} {m k : ℕ} where
  pub passed-more : (rest later : List ℕ) → Passed scheme bs m rest said k → (e : Entry) → In e (scheme.table m) → rest ≡ e.code ++ later
      → Passed scheme bs (state_after m e) later (said ++ e.says) (k + 1)
  unfolding codes texts
  passed-more rest later p e h x =
      let one : List Entry = e ∷ [] in
      record {
        entries = p.entries ++ one;
        row = row-append scheme 0 m (state_after m e) p.entries one p.row (h, refl);
        says = texts-append p.entries one ∙ ap₂ (λ (a b : List ℕ). a ++ b) p.says (append-nil e.says);
        bits = p.bits ∙ ap (λ (l : List ℕ). codes p.entries ++ l) x ∙ sym (append_assoc (codes p.entries) e.code later)
            ∙ ap (λ (l : List ℕ). l ++ later)
            (ap (λ (l : List ℕ). codes p.entries ++ l) (sym (append-nil e.code)) ∙ sym (codes-append p.entries one));
        count = length-append p.entries one ∙ ap (λ (n : ℕ). n + 1) p.count;
      }

  pub passed-builds : (rest t : List ℕ) → Passed scheme bs m rest said k → (r : Builds scheme m rest t) → BuildsIn scheme 0 bs (said ++ t) (k + count_in r)
  passed-builds rest t p r = (
    record {
      entries = p.entries ++ r.entries;
      fill = r.fill;
      row = row-append scheme 0 m 0 p.entries r.entries p.row r.row;
      says = texts-append p.entries r.entries ∙ ap₂ (λ (a b : List ℕ). a ++ b) p.says r.says;
      ends = r.ends;
      bits = p.bits ∙ ap (λ (l : List ℕ). codes p.entries ++ l) r.bits
          ∙ sym (append_assoc (codes p.entries) (codes r.entries) r.fill)
          ∙ ap (λ (l : List ℕ). l ++ r.fill) (sym (codes-append p.entries r.entries));
    },
    length-append p.entries r.entries ∙ ap (λ (n : ℕ). n + count_in r) p.count,
  )

  pub passed-stuck : (rest : List ℕ) (i j : ℕ) → Passed scheme bs m rest said k → i + length rest ≡ length bs + j → (s : Stuck scheme m rest j)
      → StuckAfter scheme 0 bs i (k + count_before s)
  passed-stuck rest i j p x s = (
    record {
      entries = p.entries ++ s.entries;
      state = s.state;
      rest = s.rest;
      row = row-append scheme 0 m s.state p.entries s.entries p.row s.row;
      place = omega (
        arith,
        s.place,
        ap length p.bits,
        length-append (codes p.entries) rest,
        ap length (codes-append p.entries s.entries),
        length-append (codes p.entries) (codes s.entries),
      );
      bits = p.bits ∙ ap (λ (l : List ℕ). codes p.entries ++ l) s.bits
          ∙ sym (append_assoc (codes p.entries) (codes s.entries) s.rest)
          ∙ ap (λ (l : List ℕ). l ++ s.rest) (sym (codes-append p.entries s.entries));
      none = s.none;
      no_end = s.no_end;
    },
    length-append p.entries s.entries ∙ ap (λ (n : ℕ). n + count_before s) p.count,
  )

  -- the text of the whole begins with what was said, and goes on with the text of the rest
  pub passed-text : Laws scheme → (rest t : List ℕ) → Passed scheme bs m rest said k → Builds scheme 0 bs t
      → (later : List ℕ) × (t ≡ said ++ later) × Builds scheme m rest later
  passed-text laws rest t p r = pick (answer scheme (length rest) m rest) (always laws m rest)
    where
      pick : (a : Answer) → Means scheme m rest a → (later : List ℕ) × (t ≡ said ++ later) × Builds scheme m rest later
      pick (text u c) q = (u, one-text laws r (passed-builds rest u p q.0).0, q.0)
      pick (stuck j c) q =
          absurd (never_both laws r
          (passed-stuck rest (length (codes p.entries) + j) j p
          (omega (arith, ap length p.bits, length-append (codes p.entries) rest)) q.0).0)
