-- Every row of the table of edges holds.
-- Assumes nothing.
use mathlib.Core.Bool.{Bool, true, false, not, ◌&&◌}
use mathlib.Core.List.{List, [], ◌∷◌, append-nil}
use mathlib.Core.Path.{◌≡◌, refl, sym, ap, ◌∙◌, subst, subst₂}
use Prim.Native.Nat.{ℕ, ◌+◌, ◌*◌, ◌/◌, ◌^◌, ◌<◌}
use native.Mathlib.Omega.{arith}
use lib.Bits.{bit_xor}
use lib.Count.{ones_in}
use lib.Dec.{T, T_not, leb, ltb, eqb, leb→le, ltb→lt, eqb→eq, eqb_refl}
use lib.ListN.{length, take, get_or}
use Rattle.std.specs.Prelude.{Some, None}
use Rattle.bits.specs.First.{first}
use Rattle.bits.specs.Numbers.{numbers}
use Rattle.bits.specs.Row.{bits}
use Rattle.bits.specs.Turnings.{chosen, turnings, mask_of}
use Rattle.bits.specs.Word.{bit, differences}
use Rattle.bits.proofs.All.{all, all-at}
use Rattle.bits.proofs.Said.{and_left, and_right}
use Rattle.header.specs.declared.Format.{Format}
use Rattle.header.specs.declared.Format.TheVariants.{Open, PseudoBinary, Numeric, Shef, FullAscii}
use Rattle.header.specs.Check.{generator, remainder, check_of}
use Rattle.header.specs.Flag.{Odd, flag_bits, spare_in, sync_in, extended_type_in, message_type_in, parity_for}
use Rattle.header.specs.Valid.{Valid, flag_in, length_in, check_in, information_in}
use Rattle.header.specs.Fields.{fields_in, header_of, low_flag, bytes_of}
use Rattle.mending.specs.declared.Mending.TheVariants.{Mended}
use Rattle.bits.proofs.Ones.{differences-self}
use Rattle.distance.specs.Distance.{ValidWithin, distance}
use Rattle.mending.specs.Mends.{MendsWithin}
use Rattle.mending.specs.Search.{is_valid, turned_over, answer_of, search}
use Rattle.mending.proofs.Search.{passing-valid}
use Rattle.codes.specs.Chain.{Scheme, state_after, codes, texts}
use Rattle.codes.specs.Coded.{last_of}
use Rattle.codes.specs.Consecutive.{code_for, consecutive}
use Rattle.codes.specs.LineEnds.{each_after, ended, line_ends}
use Rattle.codes.specs.Lookup.{same, found, saying, meaning}
use Rattle.codes.specs.Pack.{low, value, bytes, packed, gap, filled, written}
use Rattle.codes.specs.Steps.Measure.{BuildsIn, StuckAfter}
use Rattle.codes.proofs.Beginning.{begun}
use Rattle.codes.proofs.EveryElement.{every}
use Rattle.codes.proofs.Lookup.{same-is}
use Rattle.codes.proofs.Fill.{fills}
use Rattle.codes.proofs.TableSearch.{find}
use Rattle.codes.proofs.OneReading.{Answer, text as reads-text, stuck as reads-stuck, Means, answer, always}
use Rattle.full_ascii.specs.Table as ascii
use Rattle.full_ascii.specs.Writer as ascii-writer
use Rattle.full_ascii.proofs.Table as ascii-table
use Rattle.numeric.specs.Steps.Text.{character, spelled, text_of}
use Rattle.numeric.specs.Table as numeric
use Rattle.numeric.specs.Translation as numeric-translation
use Rattle.numeric.specs.Writer as numeric-writer
use Rattle.numeric.proofs.Data.{text-built, count-built}
use Rattle.pseudo_binary.specs.Table as pseudo
use Rattle.pseudo_binary.specs.Writer as pseudo-writer
use Rattle.pseudo_binary.proofs.Table as pseudo-table
use Rattle.shef.specs.Table as shef
use Rattle.shef.specs.Writer as shef-writer
use Rattle.shef.proofs.Table as shef-table
use Rattle.refusals.specs.declared.ExamineRefusal.TheVariants.{TooManyBits, NoHeader, OtherType, OtherLength}
use Rattle.formats.specs.Ceiling.{ceiling}
use Rattle.formats.specs.Data.{CarriesIn, UnreadableAfter, coded, data_of, comes_back}
use Rattle.sections.specs.Sections.{section_count}
use Rattle.packet.specs.Packet.{whole_length, received, header_for}
use Rattle.terms.specs.Terms.{most_at, naming}
use Rattle.packet.proofs.Sent.{header-valid, header-typed, header-length, header-sync, received-front}
use Rattle.pseudo_binary.proofs.Bound.{built-bound}
use Rattle.pseudo_binary.proofs.Characters.{kind-of}
use Rattle.pseudo_binary.proofs.Length.{width, each}
use Rattle.pseudo_binary.proofs.Size.{started}
use Rattle.examine.proofs.ExamineOnce.{too_many}
use Rattle.reader.proofs.ReadOnce.{refused-packet}
use Rattle.demands.specs.Edges.{Edge, checks, heads, reads, hopeless, foreign, unnamed, writes, carries, stops, fullest, lacks, divides, fits, overlong, longest, singly, judged, RefusesAt, RefusesAll, Holds, edges, Every}
use Rattle.demands.proofs.HeaderTests.{finds_none, none, none-near, mends-by-test, ours, other, other_none, refuses-hopeless, refuses-foreign, refuses-overlong, whichever}
use Rattle.demands.proofs.NoShorter.{alike-bytes}

-- ---- data, by a reading that computes

reading : Format → List ℕ → Answer
reading Open carried = reads-text carried 0
reading PseudoBinary carried = answer pseudo.scheme (length (bits carried)) 0 (bits carried)
reading Numeric carried = reads-text (text_of carried) (length (spelled carried))
reading Shef carried = answer shef.scheme (length (bits carried)) 0 (bits carried)
reading FullAscii carried = answer ascii.scheme (length (bits carried)) 0 (bits carried)

comes-to : Answer → List ℕ → ℕ → Bool
comes-to (reads-text t k) text codes = same t text && eqb k codes
comes-to (reads-stuck i k) text codes = false

codes-read : Answer → ℕ
codes-read (reads-text t k) = k
codes-read (reads-stuck i k) = k

stuck_at : Answer → ℕ → ℕ → Bool
stuck_at (reads-text t k) bit codes = false
stuck_at (reads-stuck i k) bit codes = eqb i bit && eqb k codes

-- of two numbers and a row, or of three numbers, each by its own test
both-same : (t text : List ℕ) (k codes : ℕ) → T (same t text && eqb k codes) → (t ≡ text) × (k ≡ codes)
both-same t text k codes p =
    (same-is t text (and_left (same t text) (eqb k codes) p), eqb→eq k codes (and_right (same t text) (eqb k codes) p))

to-text : (scheme : Scheme) (bs : List ℕ) (a : Answer) (text : List ℕ) (codes : ℕ) → Means scheme 0 bs a → T (comes-to a text codes) → BuildsIn scheme 0 bs text codes
unfolding comes-to
to-text scheme bs (reads-text t k) text codes m p = let e = both-same t text k codes p in subst₂ (BuildsIn scheme 0 bs) e.0 e.1 m
to-text scheme bs (reads-stuck i k) text codes m p = absurd p

to-place : (scheme : Scheme) (bs : List ℕ) (a : Answer) (bit codes : ℕ) → Means scheme 0 bs a → T (stuck_at a bit codes) → StuckAfter scheme 0 bs bit codes
unfolding stuck_at
to-place scheme bs (reads-text t k) bit codes m p = absurd p
to-place scheme bs (reads-stuck i k) bit codes m p =
    subst₂ (StuckAfter scheme 0 bs) (eqb→eq i bit (and_left (eqb i bit) (eqb k codes) p)) (eqb→eq k codes (and_right (eqb i bit) (eqb k codes) p)) m

carries-by-test : (format : Format) (text carried : List ℕ) (codes : ℕ) → T (comes-to (reading format carried) text codes) → CarriesIn format carried text codes
unfolding reading comes-to
carries-by-test Open text carried codes p = both-same carried text 0 codes p
carries-by-test PseudoBinary text carried codes p =
    to-text pseudo.scheme (bits carried) (reading PseudoBinary carried) text codes (always pseudo-table.laws 0 (bits carried)) p
carries-by-test Numeric text carried codes p =
    let e = both-same (text_of carried) text (length (spelled carried)) codes p in
    subst₂ (CarriesIn Numeric carried) e.0 e.1 (text-built carried, count-built (text_of carried) carried (text-built carried))
carries-by-test Shef text carried codes p = to-text shef.scheme (bits carried) (reading Shef carried) text codes (always shef-table.laws 0 (bits carried)) p
carries-by-test FullAscii text carried codes p =
    to-text ascii.scheme (bits carried) (reading FullAscii carried) text codes (always ascii-table.laws 0 (bits carried)) p

stops-by-test : (format : Format) (carried : List ℕ) (bit codes : ℕ) → T (stuck_at (reading format carried) bit codes) → UnreadableAfter format carried bit codes
unfolding reading stuck_at
stops-by-test Open carried bit codes p = absurd p
stops-by-test PseudoBinary carried bit codes p =
    to-place pseudo.scheme (bits carried) (reading PseudoBinary carried) bit codes (always pseudo-table.laws 0 (bits carried)) p
stops-by-test Numeric carried bit codes p = absurd p
stops-by-test Shef carried bit codes p = to-place shef.scheme (bits carried) (reading Shef carried) bit codes (always shef-table.laws 0 (bits carried)) p
stops-by-test FullAscii carried bit codes p =
    to-place ascii.scheme (bits carried) (reading FullAscii carried) bit codes (always ascii-table.laws 0 (bits carried)) p

-- ---- the rows

-- tests that pass, one after the other
every-test : List Bool → Bool
every-test [] = true
every-test (b ∷ bs) = b && every-test bs

-- the bytes of n characters of one kind, in single ones and in ours
abbrev single_bytes : pseudo.Kind → ℕ → ℕ
single_bytes k n = (width k * n + each k * n + 7) / 8

abbrev full_bytes : pseudo.Kind → ℕ → ℕ
full_bytes k n = (width k * started k n + each k * n + 7) / 8

tests : Edge → List Bool
tests (checks flag length check bytes) =
    let h = received (flag ∷ bytes) in
    ltb h (2 ^ 32) ∷ is_valid h ∷ eqb (flag_in h) flag ∷ eqb (length_in h) length ∷ eqb (check_in h) check ∷ []
tests (heads format sync length bytes) = same (bytes_of (header_for format sync length)) bytes ∷ []
tests (reads numbers head format sync length mended mask) =
    let header = header_for format sync length in
    let d = distance (received head) header in
    ltb length (2 ^ 14) ∷ every (λ (mend : ℕ). ◌&&◌ (leb d mend) (eqb mended d)) numbers ∷ eqb (bit_xor (received head) header) mask ∷ []
tests (hopeless numbers head) =
    eqb (length head) 4 ∷ ltb (received head) (2 ^ 32) ∷ every (λ (mend : ℕ). ◌&&◌ (leb mend 2) (none mend (received head))) numbers ∷ []
tests (foreign numbers head header mended) =
    let h = received header in
    let d = distance (received head) h in
    eqb (length head) 4 ∷ ltb h (2 ^ 32) ∷ is_valid h ∷ every (λ (mend : ℕ). ◌&&◌ (leb mend 2) (◌&&◌ (leb d mend) (eqb mended d))) numbers ∷ other (fields_in h) ∷ []
tests (unnamed numbers) = every (ltb 2) numbers ∷ []
tests (writes format text carried codes) = same (data_of format text) carried ∷ comes-to (reading format carried) (comes_back format text) codes ∷ []
tests (carries format text carried codes) = comes-to (reading format carried) text codes ∷ []
tests (stops format carried bit codes) = stuck_at (reading format carried) bit codes ∷ []
tests (fullest format text carried codes) = comes-to (reading format carried) text codes ∷ eqb codes (ceiling format (length carried)) ∷ []
tests (divides length sections whole) = eqb (section_count length) sections ∷ eqb (whole_length length) whole ∷ []
tests (fits rate-1200 length) = leb length (most_at rate-1200) ∷ []
tests (overlong rate-1200 numbers head format sync length) =
    let header = header_for format sync length in
    same (bytes_of header) head ∷ ltb length (2 ^ 14) ∷ ltb (most_at rate-1200) length ∷ every (λ (mend : ℕ). leb mend 2) numbers ∷ []
tests (longest bytes characters) =
    eqb characters (16 * (8 * bytes / 6)) ∷ eqb (full_bytes pseudo.slashes characters) bytes ∷ []
tests (singly character count single ours) =
    let k = pseudo-writer.kind character in
    pseudo.coded character ∷ eqb (single_bytes k count) single ∷ eqb (full_bytes k count) ours ∷ []
tests (judged format text carried None more) =
    let read = reading format carried in
    let ours = data_of format text in
    comes-to read text (codes-read read) ∷ same carried ours ∷ eqb (length carried) (length ours + more) ∷ []
tests (judged format text carried (Some bit) more) =
    let read = reading format carried in
    let a = bits carried in
    let b = bits (data_of format text) in
    comes-to read text (codes-read read) ∷ ltb bit (length a) ∷ ltb bit (length b) ∷ same (take bit a) (take bit b) ∷ not (eqb (get_or a bit 0) (get_or b bit 0))
    ∷ eqb (length carried) (length (data_of format text) + more) ∷ []
tests (lacks format text index) =
    ltb index (length text) ∷ all (λ (i : ℕ). coded format (take i text) (get_or text i 0)) index ∷ not (coded format (take index text) (get_or text index 0)) ∷ []

Passed : List Bool → Type 0
Passed [] = Unit {0}
Passed (b ∷ bs) = T b × Passed bs

passed : (bs : List Bool) → T (every-test bs) → Passed bs
unfolding every-test Passed
passed [] t = tt
passed (b ∷ bs) t = (and_left b (every-test bs) t, passed bs (and_right b (every-test bs) t))

unnamed-at : (rate-1200 : Bool) (mend : ℕ) → 2 < mend → RefusesAt rate-1200 mend [] TooManyBits
unnamed-at rate-1200 mend many after room =
    refused-packet (naming mend rate-1200) after room TooManyBits (too_many (naming mend rate-1200) after (λ few. omega (arith, few)))

four_bytes : (header : ℕ) → length (bytes_of header) ≡ 4
unfolding bytes_of
four_bytes header = refl

-- a valid header, where it is received as it is
itself-near : (mend header : ℕ) → Valid header → ValidWithin mend (received (bytes_of header)) header
unfolding distance
itself-near mend header valid =
    subst (λ (w : ℕ). ValidWithin mend w header)
    (sym (ap received (sym (append-nil (bytes_of header))) ∙ received-front header [] valid.bits))
    (record { valid = valid; near = omega (arith, differences-self 32 header) })

-- a row whose tests pass holds
row-holds : (e : Edge) → Passed (tests e) → Holds e
unfolding tests Passed pseudo.is_of
row-holds (checks flag length check bytes) (small, (v, (f, (l, (c, t))))) =
    let h = received (flag ∷ bytes) in
    (passing-valid h (ltb→lt h (2 ^ 32) small) v, eqb→eq (flag_in h) flag f, eqb→eq (length_in h) length l, eqb→eq (check_in h) check c)
row-holds (heads format sync length bytes) (p, t) = same-is (bytes_of (header_for format sync length)) bytes p
row-holds (reads numbers head format sync length mended mask) (small, (near, (which, t))) =
    let few = ltb→lt length (2 ^ 14) small in
    let header = header_for format sync length in
    let d = distance (received head) header in (
      whichever (λ (mend : ℕ). ◌&&◌ (leb d mend) (eqb mended d)) (λ (mend : ℕ). MendsWithin mend (received head) (Mended header mended))
          (λ mend. mends-by-test mend (received head) header mended (header-valid format sync length few)) numbers near,
      header-typed format sync length few,
      header-sync format sync length few,
      header-length format sync length few,
      eqb→eq (bit_xor (received head) header) mask which,
    )
row-holds (hopeless numbers head) (four, (small, (far, t))) =
    whichever (λ (mend : ℕ). ◌&&◌ (leb mend 2) (none mend (received head))) (λ (mend : ℕ). RefusesAll mend head NoHeader)
    (λ mend p.
    refuses-hopeless mend (leb→le mend 2 (and_left (leb mend 2) (none mend (received head)) p)) head (eqb→eq (length head) 4 four)
    (none-near mend (received head) (ltb→lt (received head) (2 ^ 32) small) (and_right (leb mend 2) (none mend (received head)) p)))
    numbers far
row-holds (foreign numbers head header mended) (four, (small, (v, (near, (none, t))))) =
    let h = received header in
    let d = distance (received head) h in
    whichever (λ (mend : ℕ). ◌&&◌ (leb mend 2) (◌&&◌ (leb d mend) (eqb mended d)))
    (λ (mend : ℕ). MendsWithin mend (received head) (Mended h mended) × RefusesAll mend head OtherType)
    (λ mend p.
    let mends =
    mends-by-test mend (received head) h mended (passing-valid h (ltb→lt h (2 ^ 32) small) v) (and_right (leb mend 2) (◌&&◌ (leb d mend) (eqb mended d)) p) in (
      mends,
      refuses-foreign mend (leb→le mend 2 (and_left (leb mend 2) (◌&&◌ (leb d mend) (eqb mended d)) p)) head (eqb→eq (length head) 4 four) h mends.0 (other_none (fields_in h) none),
    ))
    numbers near
row-holds (unnamed numbers) (many, t) =
    whichever (ltb 2) (λ (mend : ℕ). RefusesAll mend [] TooManyBits)
    (λ mend p. let many = ltb→lt 2 mend p in (unnamed-at false mend many, unnamed-at true mend many)) numbers many
row-holds (writes format text carried codes) (made, (read, t)) =
    (same-is (data_of format text) carried made, carries-by-test format (comes_back format text) carried codes read)
row-holds (carries format text carried codes) (read, t) = carries-by-test format text carried codes read
row-holds (stops format carried bit codes) (read, t) = stops-by-test format carried bit codes read
row-holds (fullest format text carried codes) (read, (most, t)) =
    (carries-by-test format text carried codes read, eqb→eq codes (ceiling format (length carried)) most)
row-holds (divides length sections whole) (count, (size, t)) = (eqb→eq (section_count length) sections count, eqb→eq (whole_length length) whole size)
row-holds (fits rate-1200 length) (few, t) = leb→le length (most_at rate-1200) few
row-holds (overlong rate-1200 numbers head format sync length) (is, (small, (many, (named, t)))) =
    let header = header_for format sync length in
    let bytes = same-is (bytes_of header) head is in
    let few = ltb→lt length (2 ^ 14) small in (
      bytes,
      whichever (λ (mend : ℕ). leb mend 2) (λ (mend : ℕ). RefusesAt rate-1200 mend head OtherLength)
          (λ mend p.
          subst (λ (l : List ℕ). RefusesAt rate-1200 mend l OtherLength) bytes
          (refuses-overlong mend (leb→le mend 2 p) (bytes_of header) (four_bytes header) header (itself-near mend header (header-valid format sync length few)) rate-1200 format
          (header-typed format sync length few) (omega (arith, header-length format sync length few, ltb→lt (most_at rate-1200) length many))))
          numbers named,
    )
row-holds (longest bytes characters) (most, (ours, t)) = (
  λ text carried few built. omega (arith, built-bound carried built, eqb→eq characters (16 * (8 * bytes / 6)) most),
  (alike-bytes pseudo.slashes 47 characters refl).2 ∙ eqb→eq (full_bytes pseudo.slashes characters) bytes ours,
)
row-holds (singly character count single ours) (has, (one, (full, t))) =
    let k = pseudo-writer.kind character in
    let b = alike-bytes k character count (kind-of k character has refl) in
    (b.0, b.1 ∙ eqb→eq (single_bytes k count) single one, b.2 ∙ eqb→eq (full_bytes k count) ours full)
row-holds (judged format text carried None more) (read, (is, (long, t))) = (
  (carries-by-test format text carried (codes-read (reading format carried)) read).0,
  record { compares = same-is carried (data_of format text) is; longer = eqb→eq (length carried) (length (data_of format text) + more) long },
)
row-holds (judged format text carried (Some bit) more) (read, (one, (other, (before, (here, (long, t)))))) =
    let a = bits carried in
    let b = bits (data_of format text) in (
      (carries-by-test format text carried (codes-read (reading format carried)) read).0,
      record {
        compares =
            record {
              in_one = ltb→lt bit (length a) one;
              in-other = ltb→lt bit (length b) other;
              before = same-is (take bit a) (take bit b) before;
              here = λ e. T_not (eqb (get_or a bit 0) (get_or b bit 0)) here (subst (λ (n : ℕ). T (eqb (get_or a bit 0) n)) e (eqb_refl (get_or a bit 0)));
            };
        longer = eqb→eq (length carried) (length (data_of format text) + more) long;
      },
    )
row-holds (lacks format text index) (there, (before, (none, t))) =
    record {
      there = ltb→lt index (length text) there;
      before = all-at (λ (i : ℕ). coded format (take i text) (get_or text i 0)) index before;
      none = T_not (coded format (take index text) (get_or text index 0)) none;
    }

every-row : List Edge → List Bool
every-row [] = []
every-row (e ∷ es) = every-test (tests e) ∷ every-row es

rows-hold : (es : List Edge) → Passed (every-row es) → Every es
unfolding every-row Passed
rows-hold [] t = tt
rows-hold (e ∷ es) (p, t) = (row-holds e (passed (tests e) p), rows-hold es t)

-- every row's tests, computed: one `tt` a row
computed : Passed (every-row edges)
unfolding Passed every-row every-test tests ceiling width each started same other ours reading comes-to codes-read stuck_at finds_none none is_valid search answer_of turned_over turnings chosen mask_of all ones_in Odd received distance differences
    flag_in check_in check_of information_in length_in remainder generator bytes_of header_for header_of low_flag parity_for fields_in message_type_in extended_type_in spare_in sync_in flag_bits
    bits bit low numbers every begun fills find answer state_after codes texts value bytes packed gap filled written
    pseudo.is_of pseudo.coded pseudo.value_of pseudo.character_of pseudo.indicator pseudo.most pseudo.indicators pseudo.six pseudo.tables
    pseudo-writer.kind pseudo-writer.run pseudo-writer.besides pseudo-writer.our_most pseudo-writer.ours_after pseudo-writer.ours pseudo-writer.back_as pseudo-writer.comes_back
    code_for consecutive last_of each_after ended line_ends found first saying meaning character spelled text_of
    numeric.characters numeric.table numeric-translation.sent numeric-translation.itself numeric-translation.specials numeric-translation.translation
    numeric-translation.translated numeric-writer.own numeric-writer.base_of numeric-writer.clashes numeric-writer.coded_behind numeric-writer.evened
    numeric-writer.sent_for numeric-writer.ours numeric-writer.comes_back shef.table shef-writer.coded shef-writer.own shef-writer.ours
    ascii.six ascii.seven ascii.special ascii.pair ascii.table ascii-writer.own ascii-writer.ours
computed =
    (tt, (tt, (tt, (tt, (tt, (tt, (tt, (tt, (tt, (tt, (tt, (tt, (tt, (tt, (tt, (tt, (tt, (tt, (tt, (tt, (tt, (tt, (tt, (tt, (tt, (tt, (tt, (tt, (tt, (tt, (tt, (tt, (tt, (tt, (tt, (tt, (tt, (tt, (tt, (tt, (tt, (tt, (tt, (tt, (tt, (tt, (tt, (tt, (tt, (tt, (tt, (tt, (tt, (tt, (tt, (tt, (tt, (tt, (tt, (tt, (tt, (tt, (tt, (tt, (tt, (tt, (tt, (tt, (tt, (tt, (tt, (tt, (tt, (tt, (tt, (tt, (tt, (tt, (tt, (tt, (tt, (tt, (tt, (tt, (tt, (tt, (tt, (tt, (tt, (tt, tt))))))))))))))))))))))))))))))))))))))))))))))))))))))))))))))))))))))))))))))))))))))))))

-- the one statement: every row of the table
pub edges-hold : Every edges
edges-hold = rows-hold edges computed
