-- Data that is read up to a bit: what was said so far is counted, or laid into a buffer. It holds of every scheme.
-- Assumes nothing.
use mathlib.Core.Path.{◌≡◌, refl, sym, ap, subst, subst₂, ◌∙◌}
use mathlib.Core.List.{List, [], ◌++◌, append-nil}
use Prim.Native.Nat.{ℕ, ◌+◌, ◌-◌, ◌^◌, ◌≤◌, ◌<◌}
use native.Mathlib.Nat.{add-zero}
use native.Mathlib.Omega.{arith}
use lib.Dec.{T}
use lib.ListN.{length, length-append}
use Rattle.codes.specs.Chain.{Scheme, Fill, Builds}
use Rattle.codes.specs.Steps.Laid.{laid, Readable, Placed}
use Rattle.codes.specs.Steps.Measure.{BuildsIn, StuckAfter, Measured, extent, malformed_at, Measures, with_front, FrontFits}
use Rattle.codes.specs.Steps.Passed.{Passed, CountedSoFar, LaidSoFar}
use Rattle.std.specs.Prelude.{Ok, Err}
use Rattle.codes.proofs.EveryElement.{every}
use Rattle.codes.proofs.SizeBounds.{brief, builds-within, stuck-within, builds-count, stuck-count, passed-within}
use Rattle.codes.proofs.LaidRows.{laid_nil, laid-laid, length-laid}
use Rattle.codes.proofs.SchemeLaws.{Laws}
use Rattle.codes.proofs.PassedEntries.{passed_none, passed-front, passed_on, passed-builds, passed-stuck, passed-text}
use Rattle.codes.proofs.OneReading.{Halts, builds-end, stuck-here}

pub counting-none : (scheme : Scheme) (bs : List ℕ) → CountedSoFar scheme bs bs 0 0
counting-none scheme bs = record { said = []; counts = refl; passed = passed_none scheme bs }

module _ {scheme : Scheme} {bs rest : List ℕ} {n codes : ℕ} (c : CountedSoFar scheme bs rest n codes) where
  -- k characters more
  pub counting_more : {later : List ℕ} {k j : ℕ} (more : List ℕ) → length more ≡ k → Passed scheme bs 0 later (c.said ++ more) j
      → CountedSoFar scheme bs later (n + k) j
  counting_more more e p = record { said = c.said ++ more; counts = omega (arith, length-append c.said more, c.counts); passed = p }

  -- reading after reading
  pub counting-on : {later : List ℕ} {k j : ℕ} → CountedSoFar scheme rest later k j → CountedSoFar scheme bs later (n + k) (codes + j)
  counting-on d = counting_more d.said d.counts (passed_on c.passed d.passed)

  -- what follows the bits does not matter
  pub counting-front : (more : List ℕ) → CountedSoFar scheme (bs ++ more) (rest ++ more) n codes
  counting-front more = record { said = c.said; counts = c.counts; passed = passed-front more c.passed }

  -- there are no more codes than bits
  pub counting-bits : Laws scheme → codes + length rest ≤ length bs
  counting-bits laws = passed-within laws c.passed

  -- the ends of the reading, each number with what it must be, so that a wrong one is refused where it stands
  pub counting-end : (r k : ℕ) → r ≡ n → k ≡ codes → Fill scheme.unused rest → Measures scheme bs (Ok (extent r k))
  unfolding builds-end
  counting-end r k e d f =
      let whole = passed-builds rest [] c.passed (builds-end scheme f) in
      let is : codes + 0 ≡ k = omega arith in
      (c.said, c.counts ∙ sym e, subst₂ (BuildsIn scheme 0 bs) (append-nil c.said) is whole)

  pub counting-stuck : (i before : ℕ) → i + length rest ≡ length bs → before ≡ codes → Halts scheme 0 rest → (Fill scheme.unused rest → ⊥)
      → Measures scheme bs (Err (malformed_at i before))
  unfolding stuck-here
  counting-stuck i before e d h f =
      let is : codes + 0 ≡ before = omega arith in
      subst (StuckAfter scheme 0 bs i) is (passed-stuck rest i 0 c.passed (omega arith) (stuck-here h (λ x. f)))

  -- what the rest comes to, of the whole
  pub counting-text : (k j : ℕ) → Measures scheme rest (Ok (extent k j)) → Measures scheme bs (Ok (extent (n + k) (codes + j)))
  counting-text k j t =
      let whole = passed-builds rest t.0 c.passed t.2.0 in
      (c.said ++ t.0, omega (arith, length-append c.said t.0, c.counts, t.1), (whole.0, whole.1 ∙ ap (λ (x : ℕ). codes + x) t.2.1))

  pub counting-malformed : (i place j : ℕ) → place + length rest ≡ length bs + i → Measures scheme rest (Err (malformed_at i j))
      → Measures scheme bs (Err (malformed_at place (codes + j)))
  counting-malformed i place j e s =
      let whole = passed-stuck rest place i c.passed e s.0 in
      (whole.0, whole.1 ∙ ap (λ (x : ℕ). codes + x) s.1)

  pub counting-whole : (at : ℕ) → at + length rest ≡ length bs → (m : Measured) → Measures scheme rest m → Measures scheme bs (with_front n codes at m)
  counting-whole at e (Ok d) t = counting-text d.characters d.codes t
  counting-whole at e (Err m) s = counting-malformed m.bit (at + m.bit) m.codes (omega arith) s

-- where a scheme says at most one character a bit, what a row comes to is counted
pub front_fits : (scheme : Scheme) → Laws scheme → ((m : ℕ) → T (every (brief 1) (scheme.table m))) → (bs : List ℕ) (n codes at : ℕ) (m : Measured)
    → Measures scheme bs m → n + length bs < 2 ^ 64 → codes + length bs < 2 ^ 64 → at + length bs < 2 ^ 64 → FrontFits n codes at m
front_fits scheme laws briefs bs n codes at (Ok d) t h i l =
    (omega (arith, t.1, builds-within scheme 1 briefs t.2.0), omega (arith, t.2.1, builds-count laws t.2.0))
front_fits scheme laws briefs bs n codes at (Err m) s h k l =
    (omega (arith, stuck-within s.0), omega (arith, s.1, stuck-count laws s.0))

pub laying-none : (scheme : Scheme) (bs out : List ℕ) (n : ℕ) → LaidSoFar scheme bs bs out out n n
laying-none scheme bs out n = record { said = []; codes = 0; passed = passed_none scheme bs; place = sym (add-zero n); whole = sym (laid_nil out n) }

module _ {scheme : Scheme} {bs rest entry out : List ℕ} {m n : ℕ} (y : LaidSoFar scheme bs rest entry out m n) where
  -- k characters more, laid after what stands there
  pub laying-more : {later : List ℕ} {k j : ℕ} (more : List ℕ) → length more ≡ k → n ≤ length entry → Passed scheme bs 0 later (y.said ++ more) j
      → LaidSoFar scheme bs later entry (laid out n more) m (n + k)
  laying-more {j = j} more e h p = record {
    said = y.said ++ more;
    codes = j;
    passed = p;
    place = omega (arith, y.place, length-append y.said more);
    whole = ap (λ (l : List ℕ). laid l n more) y.whole ∙ laid-laid entry m n y.said more (omega (arith, y.place)) y.place;
  }

  -- reading after reading
  pub laying-on : {later exit : List ℕ} {k : ℕ} → n ≤ length entry → LaidSoFar scheme rest later out exit n k
      → LaidSoFar scheme bs later entry exit m k
  laying-on h z = record {
    said = y.said ++ z.said;
    codes = y.codes + z.codes;
    passed = passed_on y.passed z.passed;
    place = omega (arith, y.place, z.place, length-append y.said z.said);
    whole = z.whole ∙ ap (λ (l : List ℕ). laid l n z.said) y.whole
        ∙ laid-laid entry m n y.said z.said (omega (arith, y.place)) y.place;
  }

  -- what follows the bits does not matter
  pub laying-front : (more : List ℕ) → LaidSoFar scheme (bs ++ more) (rest ++ more) entry out m n
  laying-front more = record { said = y.said; codes = y.codes; passed = passed-front more y.passed; place = y.place; whole = y.whole }

  -- a buffer keeps its length
  pub laying-length : n ≤ length entry → length out ≡ length entry
  laying-length h = ap length y.whole ∙ length-laid entry m y.said (omega (arith, y.place))

  -- the end of the reading
  pub laying-end : Fill scheme.unused rest → Placed scheme bs entry out m n
  laying-end f = record {
    text = y.said;
    reads = subst (Builds scheme 0 bs) (append-nil y.said) (passed-builds rest [] y.passed (builds-end scheme f)).0;
    place = y.place;
    whole = y.whole;
  }

  -- the text of the rest laid after it
  pub laying-last : {exit : List ℕ} {r : ℕ} → n ≤ length entry → Placed scheme rest out exit n r → Placed scheme bs entry exit m r
  laying-last h p = record {
    text = y.said ++ p.text;
    reads = (passed-builds rest p.text y.passed p.reads).0;
    place = omega (arith, p.place, y.place, length-append y.said p.text);
    whole = p.whole ∙ ap (λ (l : List ℕ). laid l n p.text) y.whole
        ∙ laid-laid entry m n y.said p.text (omega (arith, y.place)) y.place;
  }

  -- where the whole can be read: the text goes on after what was said, and there is room for it
  module _ (laws : Laws scheme) {room : ℕ} (f : Readable scheme bs room) where
    pub laying-later : Readable scheme rest (m + room - n)
    laying-later =
        let p = passed-text laws rest f.text y.passed f.reads in
        record {
          text = p.0;
          reads = p.2;
          fits = omega (arith, f.fits, ap length p.1, length-append y.said p.0, y.place);
        }

    pub laying-within : n ≤ m + room
    laying-within =
        let p = passed-text laws rest f.text y.passed f.reads in
        omega (arith, f.fits, ap length p.1, length-append y.said p.0, y.place)
