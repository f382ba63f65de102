use native.Mathlib.Omega.{arith}
use mathlib.Core.Path.{◌≡◌, sym, ◌∙◌}
use Rattle.job_bytes.specs.Patterns.{Patterns}
use Rattle.job_bytes.proofs.Lengths.{record_length, size_small}
use Rattle.job_writer.proofs.Answered.{record_written}
use mathlib.Core.Bool.{true}
use Rattle.job_bytes.specs.Written.{takes_top}
use Rattle.job_writer.proofs.record.write_record.Goals as goal
use Rattle.job_writer.proofs.record.write_record.Goals.{Start, Else-not-takes_top}

-- the six bit patterns have at most 32 bits, as their types say
patterns : (c : Start) → Patterns c.args.«record».bits
patterns c =
    let b = c.well_formed.1.1.0.1.1.1.1.1.0.1.1 in
    record {
      outer0 = b.0.1;
      outer1 = b.1.0.1;
      outer2 = b.1.1.0.1;
      outer3 = b.1.1.1.0.1;
      inner0 = b.1.1.1.1.0.1;
      inner1 = b.1.1.1.1.1.0.1;
    }

-- after the first test the version can hold the top level
good : (c : Else-not-takes_top) → takes_top c.args.version c.args.«record».settings.top ≡ true
good c = sym c.takes_top.ensures ∙ c.if-not-takes_top.false

pub overflow_cast-result : goal.overflow_cast-result
overflow_cast-result c = omega (arith, record_length c.args.version c.args.«record», size_small c.args.version)

pub returns : goal.returns
returns c =
    let s = goal.at.returns c in
    record_written _ _ (record { top = good s.Else-not-takes_top; patterns = patterns s.Start }) (omega (arith, c.record_size.ensures, c.if-out-record_size.false))
    c.put_record-count.ensures
