use mathlib.Core.Path.{◌≡◌}
use Rattle.job_fields.specs.Levels.{levels_of}
use Rattle.job_bytes.specs.Patterns.{bits_of}
use Rattle.job_bytes.proofs.Floats.{pattern_back}
use Rattle.job_bytes.proofs.level_bits.record_of.Goals as goal
use Rattle.job_bytes.proofs.level_bits.record_of.Goals.{Start}

-- each level is an f32, as its type says
back : (c : Start) → c.args.levels ≡ levels_of (bits_of c.args.levels)
back c =
    let l = c.well_formed.1.1.0.1.1 in
    rw (
      pattern_back _ l.0.1,
      pattern_back _ l.1.0.1,
      pattern_back _ l.1.1.0.1,
      pattern_back _ l.1.1.1.0.1,
      pattern_back _ l.1.1.1.1.0.1,
      pattern_back _ l.1.1.1.1.1.0.1,
    )

pub returns : goal.returns
returns c = record { is = rw c.bits_of-bits.ensures; agrees = rw c.bits_of-bits.ensures (back (goal.at.returns c).Start) }
