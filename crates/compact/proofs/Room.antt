-- A code that is laid where the whole can be read: there is room for its characters. It holds of every table.
-- Assumes nothing.
use Rattle.std.proofs.Common.{◌≡◌, ℕ, ◌+◌, ◌-◌, ◌≤◌, List, length, arith}
use Rattle.codes.specs.Chain.{Entry, single}
use Rattle.codes.specs.Pack.{low}
use Rattle.codes.specs.Steps.BitBuffer.{Window}
use Rattle.codes.specs.Steps.Laid.{laid, Readable}
use Rattle.codes.specs.Steps.Passed.{LaidSoFar}
use Rattle.codes.specs.Steps.Taken.{FirstCode, characters_of}
use Rattle.codes.specs.Steps.Words.{Begun}
use Rattle.codes.specs.declared.Code.{Code}
use Rattle.codes.proofs.ReadSoFar.{laying-length, laying-within}
use Rattle.codes.proofs.TakenCodes.{laying-code, puts-room}
use Rattle.compact.specs.Table.{TableLaws, NextCode}

pub record CodeRoom (table : List Entry) (bs entry out : List ℕ) (m at held left : ℕ) (r : Code) : Type 0 where
  pub same : length out ≡ length entry
  pub room : at + r.count ≤ length entry
  pub step : LaidSoFar (single table 7) bs (low (left - r.width) held) entry (laid out at (characters_of r)) m (at + r.count)

pub code_room : {table : List Entry} {bs entry out : List ℕ} {m at held left : ℕ} {r : Code} → TableLaws table
    → Readable (single table 7) bs (length entry - m) → LaidSoFar (single table 7) bs (low left held) entry out m at → NextCode table held left r
    → at ≤ length entry → m ≤ length entry → CodeRoom table bs entry out m at held left r
code_room {table} {bs} {entry} {out} {m} {at} {held} {left} {r} t f y k room here =
    let step = laying-code t.mutes bs entry out m at held left k.nine r k.window k.first y k.there room in
    record { same = laying-length y room; room = omega (arith, laying-within step t.laws f, here); step = step }

-- the same in a word that begins a text that there is room for
module _ {table : List Entry} {entry : List ℕ} {n : ℕ} (held have : ℕ) (t : TableLaws table) (here : n ≤ length entry)
    (b : Begun (single table 7) held have (length entry - n)) where
  pub word_same : {rest out : List ℕ} {at : ℕ} → LaidSoFar (single table 7) (low have held) rest entry out n at → length out ≡ length entry
  word_same y = laying-length y (puts-room t.laws held have n entry here b y)

  pub word_room : {out : List ℕ} {at left w : ℕ} {r : Code} → LaidSoFar (single table 7) (low have held) (low left held) entry out n at
      → Window held left w → FirstCode table w r → r.width ≤ left → CodeRoom table (low have held) entry out n at held left r
  word_room {out} {at} {left} {w} {r} y v k there =
      let step = laying-code t.mutes (low have held) entry out n at held left w r v k y there (puts-room t.laws held have n entry here b y) in
      record { same = word_same y; room = puts-room t.laws held have n entry here b step; step = step }
