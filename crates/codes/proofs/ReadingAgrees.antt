-- What reading gives and what a maker may build agree, in every scheme that has the laws.
-- Assumes nothing.
use mathlib.Core.Path.{◌≡◌, refl, ap, subst, subst⁻¹}
use mathlib.Core.Bool.{Bool, true, false}
use mathlib.Core.Logic.{◌⊎◌, inl, inr}
use mathlib.Core.Option.{Option, none, some}
use mathlib.Core.List.{List, []}
use Prim.Native.Nat.{ℕ, zero, suc, ◌≤◌}
use native.Mathlib.Nat.{le_refl}
use native.Mathlib.Omega.{arith}
use lib.Dec.{T}
use lib.ListN.{length, length-append}
use Rattle.bits.specs.Row.{bits}
use Rattle.codes.specs.Chain.{Entry, Scheme, In, state_after, Fill, Begins, Built, count_in}
use Rattle.codes.specs.Steps.Measure.{BuildsIn, StuckAfter}
use Rattle.codes.specs.Reading.{Answer, text, stuck, front, Ends, Gives, ends, takes, stops, DataGives}
use Rattle.codes.proofs.Fill.{fills, fills-fill, fill-fills, no-fill}
use Rattle.codes.proofs.SchemeLaws.{Laws}
use Rattle.codes.proofs.OneReading.{Means, builds-end, stuck-here, front-means, one_answer}
use Rattle.codes.proofs.TableSearch.{find, Found, found}

-- the two definitions agree
pub record Agrees (scheme : Scheme) : Type 0 where
  -- every building of a text reads back as exactly that text in as many codes, whatever its cuts, and whatever reads as a text is a building of it
  pub every-building-reads-back : (t sent : List ℕ) (b : Built scheme t sent) → DataGives scheme sent (text t (count_in b))
  pub what-reads-is-a-building : (t sent : List ℕ) (codes : ℕ) → DataGives scheme sent (text t codes) → BuildsIn scheme 0 (bits sent) t codes
  -- reading gives a bit exactly where no building goes on
  pub malformed-is-stuck : (i codes : ℕ) (sent : List ℕ) → StuckAfter scheme 0 (bits sent) i codes → DataGives scheme sent (stuck i codes)
  pub stuck-is-malformed : (i codes : ℕ) (sent : List ℕ) → DataGives scheme sent (stuck i codes) → StuckAfter scheme 0 (bits sent) i codes
  -- of any bytes reading gives an answer, and no other
  pub reads-always : (sent : List ℕ) → (a : Answer) × DataGives scheme sent a
  pub reads-once : (sent : List ℕ) (a b : Answer) → DataGives scheme sent a → DataGives scheme sent b → a ≡ b

-- no bits are a fill
ended-fill : (unused : ℕ) {bs : List ℕ} → (bs ≡ []) ⊎ Fill unused bs → Fill unused bs
ended-fill unused (inl e) = subst⁻¹ (Fill unused) e (no-fill unused)
ended-fill unused (inr f) = f

-- whether the reading ends here
ends-or-not : (scheme : Scheme) (m : ℕ) (bs : List ℕ) → Ends scheme m bs ⊎ (Ends scheme m bs → ⊥)
ends-or-not scheme (suc m) bs = inr (λ e. let no' : ⊥ = omega (arith, e.0) in no')
ends-or-not scheme zero bs = pick (fills scheme.unused bs) refl
  where
    pick : (t : Bool) → fills scheme.unused bs ≡ t → Ends scheme 0 bs ⊎ (Ends scheme 0 bs → ⊥)
    pick true x = inl (refl, inr (fills-fill scheme.unused bs (subst⁻¹ T x tt)))
    pick false x = inr (λ e. subst T x (fill-fills scheme.unused bs (ended-fill scheme.unused e.1)))

-- what reading gives means what it says of buildings
gives-means : {scheme : Scheme} {m : ℕ} {bs : List ℕ} {a : Answer} → Gives scheme m bs a → Means scheme m bs a
unfolding builds-end stuck-here
gives-means {scheme} (ends {m} {bs} e) = subst⁻¹ (λ (k : ℕ). Means scheme k bs (text [] 0)) e.0 (builds-end scheme (ended-fill scheme.unused e.1), refl)
gives-means {scheme} (takes {m} {e} {rest} {a} go h g) = front-means scheme m e rest a h (gives-means g)
gives-means (stops go h) = (stuck-here h (λ e f. go (e, inr f)), refl)

module _ {scheme : Scheme} (laws : Laws scheme) where
  -- where the reading does not end: the entry that is found, or none
  gives-next : (m : ℕ) (bs : List ℕ) → (Ends scheme m bs → ⊥) → (o : Option Entry) → Found (scheme.table m) bs o
      → ((e : Entry) → In e (scheme.table m) → (b : Begins e.code bs) → (a : Answer) × Gives scheme (state_after m e) b.0 a)
      → (a : Answer) × Gives scheme m bs a
  gives-next m bs go none h below = (stuck 0 0, stops go h)
  gives-next m bs go (some e) h below =
      let l = below e h.0 h.1 in (
        front e l.0,
        subst⁻¹ (λ (r : List ℕ). Gives scheme m r (front e l.0)) h.1.1
            (takes (λ x. go (subst⁻¹ (Ends scheme m) h.1.1 x)) h.0 l.1),
      )

  -- whether it ends or not
  gives-here : (m : ℕ) (bs : List ℕ) → ((Ends scheme m bs → ⊥) → (a : Answer) × Gives scheme m bs a) → Ends scheme m bs ⊎ (Ends scheme m bs → ⊥)
      → (a : Answer) × Gives scheme m bs a
  gives-here m bs on (inl e) = (text [] 0, ends e)
  gives-here m bs on (inr go) = on go

  gives-some : (n m : ℕ) (bs : List ℕ) → length bs ≤ n → (a : Answer) × Gives scheme m bs a
  gives-some zero m bs k =
      gives-here m bs (λ go. (
        stuck 0 0,
        stops go (λ e h b.
            let no' : ⊥ = omega (arith, laws.has-bits m e h, length-append e.code b.0, ap length b.1) in no'),
      )) (ends-or-not scheme m bs)
  gives-some (suc n) m bs k =
      gives-here m bs
      (λ go. gives-next m bs go (find (scheme.table m) bs) (found (scheme.table m) bs)
      (λ e h b. gives-some n (state_after m e) b.0 (omega (arith, laws.has-bits m e h, length-append e.code b.0, ap length b.1))))
      (ends-or-not scheme m bs)

  -- and nothing else means so
  means-gives : (m : ℕ) (bs : List ℕ) (a : Answer) → Means scheme m bs a → Gives scheme m bs a
  means-gives m bs a h =
      let g = gives-some (length bs) m bs (le_refl (length bs)) in
      subst (Gives scheme m bs) (one_answer laws m bs g.0 a (gives-means g.1) h) g.1

  pub agrees : Agrees scheme
  agrees = record {
    every-building-reads-back = λ t sent b. means-gives 0 (bits sent) (text t (count_in b)) (b, refl);
    what-reads-is-a-building = λ t sent codes r. gives-means r;
    malformed-is-stuck = λ i codes sent s. means-gives 0 (bits sent) (stuck i codes) s;
    stuck-is-malformed = λ i codes sent r. gives-means r;
    reads-always = λ sent. gives-some (length (bits sent)) 0 (bits sent) (le_refl (length (bits sent)));
    reads-once = λ sent a b r s. one_answer laws 0 (bits sent) a b (gives-means r) (gives-means s);
  }
