use native.Mathlib.Omega.{arith}
use mathlib.Core.Path.{sym}
use Rattle.job_fields.specs.Settings.{choices}
use Rattle.job_fields.proofs.Limits.{first_is, first_all}
use Rattle.job_fields.proofs.setting.first_unknown.Goals as goal

pub returns-then-place-bytes : goal.returns-then-place-bytes
returns-then-place-bytes c =
    sym
    ((first_is choices _ _ _).1
    record { within = omega arith; over = c.if-place-bytes.true; below = c.loop-place.invariant }).0

pub returns : goal.returns
returns c = sym (first_all choices c.args.bytes.now c.args.at (λ k l. c.loop-place.invariant k (omega arith)))
