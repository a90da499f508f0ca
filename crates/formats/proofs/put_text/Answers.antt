-- `formats::put_text` meets its contract.
-- Assumes nothing.
use Rattle.std.proofs.Common.{length}
use Rattle.formats.proofs.NumericData.{numeric-room, numeric-text}
use Rattle.formats.proofs.OfScheme.{of-pseudo-binary, of-shef, of-full-ascii, scheme-text}
use Rattle.formats.proofs.put_text.Goals as goal

pub put_text-requires-in-Numeric : goal.put_text-requires-in-Numeric
put_text-requires-in-Numeric c =
    (c.requires.0, numeric-room c.args.format c.in-Numeric.is c.args.«data».now (length c.args.out.now) c.requires.1)

pub returns-in-PseudoBinary : goal.returns-in-PseudoBinary
returns-in-PseudoBinary c = scheme-text (of-pseudo-binary c.args.format c.in-PseudoBinary.is) c.args.«data».now _ _ _ c.put_text.ensures

pub returns-in-Numeric : goal.returns-in-Numeric
returns-in-Numeric c = numeric-text c.args.format c.in-Numeric.is c.args.«data».now _ _ _ c.put_text-in-Numeric.ensures

pub returns-in-Shef : goal.returns-in-Shef
returns-in-Shef c = scheme-text (of-shef c.args.format c.in-Shef.is) c.args.«data».now _ _ _ c.put_text-in-Shef.ensures

pub returns-in-FullAscii : goal.returns-in-FullAscii
returns-in-FullAscii c = scheme-text (of-full-ascii c.args.format c.in-FullAscii.is) c.args.«data».now _ _ _ c.put_text-in-FullAscii.ensures
