-- `formats::measure` meets its contract.
-- Assumes nothing.
use Rattle.formats.proofs.NumericData.{numeric-measures}
use Rattle.formats.proofs.OfScheme.{of-pseudo-binary, of-shef, of-full-ascii, scheme-measures}
use Rattle.formats.proofs.measure.Goals as goal

pub returns-in-PseudoBinary : goal.returns-in-PseudoBinary
returns-in-PseudoBinary c = scheme-measures (of-pseudo-binary c.args.format c.in-PseudoBinary.is) c.args.«data».now c.measure.result c.measure.ensures

pub returns-in-Numeric : goal.returns-in-Numeric
returns-in-Numeric c = numeric-measures c.args.format c.in-Numeric.is c.args.«data».now c.measure-in-Numeric.result c.measure-in-Numeric.ensures

pub returns-in-Shef : goal.returns-in-Shef
returns-in-Shef c = scheme-measures (of-shef c.args.format c.in-Shef.is) c.args.«data».now c.measure-in-Shef.result c.measure-in-Shef.ensures

pub returns-in-FullAscii : goal.returns-in-FullAscii
returns-in-FullAscii c = scheme-measures (of-full-ascii c.args.format c.in-FullAscii.is) c.args.«data».now c.measure-in-FullAscii.result c.measure-in-FullAscii.ensures
