use native.Mathlib.Omega.{arith}
use native.Mathlib.Numerals.{add-one}
use mathlib.Core.Path.{◌≡◌}
use mathlib.Core.Bool.{true, false}
use Rattle.strip.specs.Rule.{outer_next, step_of}
use Rattle.strip.proofs.Ties.{ties}
use Rattle.strip.proofs.state.Strip.step.Goals as goal

pub returns-then-x-b : goal.returns-then-x-b
unfolding step_of outer_next
returns-then-x-b c =
    let s = c.args.self in
    let e : outer_next s.p s.r s.a s.b ≡ true = omega (arith, ties) in
    rw (e, add-one)

pub returns : goal.returns
unfolding step_of outer_next
returns c =
    let s = c.args.self in
    let e : outer_next s.p s.r s.a s.b ≡ false = omega (arith, ties) in
    rw (e, add-one)
