-- `numeric_reader::put_text` meets its contract.
-- Assumes nothing.
use mathlib.Core.List.{List, ◌∷◌}
use mathlib.Core.Path.{ap, refl, subst}
use Prim.Native.Nat.{ℕ, ◌+◌, ◌%◌}
use native.Mathlib.Omega.{arith}
use lib.ListN.{drop, drop_of_length-le}
use Rattle.numeric.specs.Steps.Text.{spelled, text_of}
use Rattle.numeric_reader.specs.Steps.Reached.{Put}
use Rattle.numeric_reader.specs.Steps.Signs.{first_of, second_of}
use Rattle.numeric_reader.proofs.EntryLaws.{entry-told, spelled-entry}
use Rattle.numeric_reader.proofs.Reading.{put-none, put-end}
use Rattle.numeric_reader.proofs.put_text.Goals.{After-entry_of}
use Rattle.numeric_reader.proofs.put_text.Goals as goal

pub loop-byte-init : goal.loop-byte-init
unfolding text_of
loop-byte-init c = record { held = refl; put = put-none (spelled c.args.s.now) c.args.out.now }

-- the characters of the byte's entry are the next to be put
next : (c : After-entry_of)
    → Put (text_of c.args.s.now) (first_of c.entry_of.result ∷ second_of c.entry_of.result ∷ spelled (drop (c.loop-byte.byte-index + 1) c.args.s.now))
    c.args.out.now c.loop-byte.out (c.loop-byte.place.before % 8) c.loop-byte.place.n
next c =
    let s = c.args.s.now in
    let i = c.loop-byte.byte-index in
    subst (λ (l : List ℕ). Put (text_of s) l c.args.out.now c.loop-byte.out (c.loop-byte.place.before % 8) c.loop-byte.place.n)
    (spelled-entry s i (omega arith) (omega (arith, c.type_inv.s i)) c.entry_of.ensures) c.loop-byte.invariant.put

pub put_byte-place-requires : goal.put_byte-place-requires
put_byte-place-requires c =
    let i = c.loop-byte.byte-index in (
      entry-told _ (omega (arith, c.type_inv.s i)) c.entry_of.ensures,
      record {
        held = c.loop-byte.invariant.held;
        text = text_of c.args.s.now;
        rest = spelled (drop (i + 1) c.args.s.now);
        entry = c.args.out.now;
        put = next (goal.at.put_byte-place-requires c).After-entry_of;
        room = c.requires.1;
      },
    )

pub loop-byte-preserved : goal.loop-byte-preserved
loop-byte-preserved c =
    let s = c.args.s.now in
    record {
      held = c.put_byte-place.ensures.held;
      put =
          c.put_byte-place.ensures.on (text_of s) (spelled (drop (c.loop-byte.byte-index + 1) s)) c.args.out.now c.requires.1
          (next (goal.at.loop-byte-preserved c).After-entry_of);
    }

pub returns : goal.returns
unfolding spelled
returns c =
    let s = c.args.s.now in
    put-end
    (subst (λ (l : List ℕ). Put (text_of s) l c.args.out.now c.loop-byte.out (c.loop-byte.place.before % 8) c.loop-byte.place.n)
    (ap spelled (drop_of_length-le s {i = c.loop-byte.byte-index} (omega arith))) c.loop-byte.invariant.put)
