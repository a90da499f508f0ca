-- What a row of edges says of headers, by computed tests: that none lies near, that one is of a format or of none of ours; and what is refused for it.
-- Assumes nothing.
use mathlib.Core.Bool.{Bool, true, false, not, ◌&&◌}
use mathlib.Core.List.{List, [], ◌∷◌, ◌++◌, Memᴰ}
use mathlib.Core.Logic.{inr}
use mathlib.Core.Path.{◌≡◌, refl, sym, subst}
use Prim.Native.Nat.{ℕ, ◌^◌, ◌<◌, ◌≤◌}
use native.Mathlib.Omega.{arith}
use lib.Dec.{T, T_not, leb, eqb, leb→le, eqb→eq, eqb_refl}
use lib.ListN.{length, length-append}
use Rattle.bits.proofs.Said.{and_left, and_right, and_both}
use Rattle.header.specs.declared.Format.{Format}
use Rattle.header.specs.declared.Format.TheVariants.{Open, PseudoBinary, Numeric, Shef, FullAscii}
use Rattle.header.specs.declared.Header.{Header}
use Rattle.header.specs.Valid.{Valid, length_in}
use Rattle.header.specs.Fields.{fields_in}
use Rattle.header.specs.Formats.{HasFormat, format_number}
use Rattle.mending.specs.declared.Mending.{Mending}
use Rattle.mending.specs.declared.Mending.TheVariants.{Mended, Hopeless}
use Rattle.distance.specs.Distance.{distance, ValidWithin}
use Rattle.mending.specs.Mends.{MendsWithin}
use Rattle.mending.specs.Search.{search}
use Rattle.mending.proofs.Search.{search-mends}
use Rattle.codes.proofs.EveryElement.{every, every-at}
use Rattle.refusals.specs.declared.ExamineRefusal.TheVariants.{NoHeader, OtherType, OtherLength}
use Rattle.packet.specs.Packet.{received}
use Rattle.packet.proofs.Sent.{received-behind}
use Rattle.terms.specs.Terms.{most_at, MayMend, naming}
use Rattle.terms.proofs.Usual.{naming-named}
use Rattle.examine.proofs.ExamineStages.{clear-two, clear-three, clear-four}
use Rattle.reader.proofs.ReadOnce.{refused-packet}
use Rattle.demands.specs.Edges.{Naming, RefusesAt, RefusesAll}

-- ---- that no valid header lies near a word: the search, computed, finds none

unfoldable pub finds_none : Mending → Bool
finds_none (Mended header bits) = false
finds_none Hopeless = true

unfoldable pub none : ℕ → ℕ → Bool
none limit h = finds_none (search limit h)

found_none : (limit h : ℕ) (found : Mending) → MendsWithin limit h found → T (finds_none found) → (v : ℕ) → ValidWithin limit h v → ⊥
unfolding finds_none
found_none limit h (Mended header bits) m t = absurd t
found_none limit h Hopeless m t = m

pub none-near : (limit h : ℕ) → h < 2 ^ 32 → T (none limit h) → (v : ℕ) → ValidWithin limit h v → ⊥
unfolding none
none-near limit h lt = found_none limit h (search limit h) (search-mends limit h lt)

-- ---- headers, by computed tests

pub mends-by-test : (mend h v bits : ℕ) → Valid v → T (◌&&◌ (leb (distance h v) mend) (eqb bits (distance h v))) → MendsWithin mend h (Mended v bits)
mends-by-test mend h v bits valid t = (
  record { valid = valid; near = leb→le (distance h v) mend (and_left (leb (distance h v) mend) (eqb bits (distance h v)) t) },
  eqb→eq bits (distance h v) (and_right (leb (distance h v) mend) (eqb bits (distance h v)) t),
)

-- a header of this format
unfoldable pub ours : Header → Format → Bool
ours f format = ◌&&◌ (not f.spare) (◌&&◌ (eqb f.message_type 2) (eqb f.extended_type (format_number format)))

ours-test : (f : Header) (format : Format) → HasFormat f format → T (ours f format)
unfolding ours
ours-test f format t =
    and_both (not f.spare) (◌&&◌ (eqb f.message_type 2) (eqb f.extended_type (format_number format))) (subst (λ (b : Bool). T (not b)) (sym t.spare) tt)
    (and_both (eqb f.message_type 2) (eqb f.extended_type (format_number format)) (subst (λ (n : ℕ). T (eqb n 2)) (sym t.message_type) tt)
    (subst (λ (n : ℕ). T (eqb n (format_number format))) (sym t.extended_type) (eqb_refl (format_number format))))

-- or of none of ours
abbrev formats : List Format
formats = Open ∷ PseudoBinary ∷ Numeric ∷ Shef ∷ FullAscii ∷ []

format-in : (format : Format) → Memᴰ format formats
format-in Open = Memᴰ.head refl
format-in PseudoBinary = Memᴰ.tail (Memᴰ.head refl)
format-in Numeric = Memᴰ.tail (Memᴰ.tail (Memᴰ.head refl))
format-in Shef = Memᴰ.tail (Memᴰ.tail (Memᴰ.tail (Memᴰ.head refl)))
format-in FullAscii = Memᴰ.tail (Memᴰ.tail (Memᴰ.tail (Memᴰ.tail (Memᴰ.head refl))))

unfoldable pub other : Header → Bool
other f = every (λ (format : Format). not (ours f format)) formats

pub other_none : (f : Header) → T (other f) → (format : Format) → HasFormat f format → ⊥
unfolding other
other_none f t format typed =
    T_not (ours f format) (every-at (λ (k : Format). not (ours f k)) formats t format (format-in format)) (ours-test f format typed)

module _ (mend : ℕ) (bits : MayMend mend) (head : List ℕ) (four : length head ≡ 4) where
  enough : (after : List ℕ) → 4 ≤ length (head ++ after)
  enough after = omega (arith, length-append head after)

  same_word : (after : List ℕ) → received (head ++ after) ≡ received head
  same_word after = received-behind head after (omega arith)

  hopeless-at : (rate-1200 : Bool) → ((header : ℕ) → ValidWithin mend (received head) header → ⊥) → RefusesAt rate-1200 mend head NoHeader
  hopeless-at rate-1200 far after room =
      refused-packet (naming mend rate-1200) (head ++ after) room NoHeader
      (record {
        fault = λ header near. far header (subst (λ (w : ℕ). ValidWithin mend w header) (same_word after) near);
        first = clear-two (naming mend rate-1200) (head ++ after) bits (enough after);
      })

  pub refuses-hopeless : ((header : ℕ) → ValidWithin mend (received head) header → ⊥) → RefusesAll mend head NoHeader
  refuses-hopeless far = (hopeless-at false far, hopeless-at true far)

  module _ (header : ℕ) (near : ValidWithin mend (received head) header) where
    near-behind : (after : List ℕ) → ValidWithin mend (received (head ++ after)) header
    near-behind after = subst (λ (w : ℕ). ValidWithin mend w header) (sym (same_word after)) near

    foreign-at : (rate-1200 : Bool) → ((format : Format) → HasFormat (fields_in header) format → ⊥) → RefusesAt rate-1200 mend head OtherType
    foreign-at rate-1200 none after room =
        refused-packet (naming mend rate-1200) (head ++ after) room OtherType
        (record {
          fault = (header, near-behind after, none);
          first = clear-three (naming mend rate-1200) (head ++ after) bits (enough after) header (near-behind after);
        })

    pub refuses-foreign : ((format : Format) → HasFormat (fields_in header) format → ⊥) → RefusesAll mend head OtherType
    refuses-foreign none = (foreign-at false none, foreign-at true none)

    pub refuses-overlong : (rate-1200 : Bool) (format : Format) → HasFormat (fields_in header) format → most_at rate-1200 < length_in header
        → RefusesAt rate-1200 mend head OtherLength
    refuses-overlong rate-1200 format typed many after room =
        refused-packet (naming mend rate-1200) (head ++ after) room OtherLength
        (record {
          fault = (header, near-behind after, inr many);
          first = clear-four (naming mend rate-1200) (head ++ after) (naming-named mend rate-1200 bits) header (near-behind after) (enough after) format typed;
        })

-- what a test says of each number, it says whichever is named
pub whichever : (test : ℕ → Bool) (Said : ℕ → Type 0) → ((mend : ℕ) → T (test mend) → Said mend) → (numbers : List ℕ) → T (every test numbers)
    → Naming numbers Said
unfolding every
whichever test Said says [] t = tt
whichever test Said says (mend ∷ numbers) t =
    (says mend (and_left (test mend) (every test numbers) t), whichever test Said says numbers (and_right (test mend) (every test numbers) t))
