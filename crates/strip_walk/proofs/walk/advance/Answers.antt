use mathlib.Core.Path.{ap}
use mathlib.Core.Bool.{true, false}
use Rattle.strip.specs.declared.state.Step.{Step}
use Rattle.strip_walk.proofs.Walks.{flag, outer_goes, inner_goes, moved}
use Rattle.strip_walk.proofs.walk.advance.Goals as goal

pub after-z-requires-clause-inside : goal.after-z-requires-clause-inside
after-z-requires-clause-inside c =
    let a = c.args in
    outer_goes a.outer a.inner a.w c.requires.stands c.requires.goes_on (flag a.w.strip c.step-t.result true c.step-t.ensures c.if-t.true)

pub after-z-requires-else-t-clause-inside : goal.after-z-requires-else-t-clause-inside
after-z-requires-else-t-clause-inside c =
    let a = c.args in
    inner_goes a.outer a.inner a.w c.requires.stands c.requires.goes_on (flag a.w.strip c.step-t.result false c.step-t.ensures c.if-t.false)

pub returns-then-t : goal.returns-then-t
returns-then-t c =
    let a = c.args in
    let step = c.step-t in
    moved a.outer a.inner a.w c.requires.stands c.requires.goes_on true step.result.next c.after-z.result a.w.y (ap (λ (t : Step). t.next) step.ensures)
    (flag a.w.strip step.result true step.ensures c.if-t.true) c.after-z.ensures c.requires.stands.y

pub returns-else-t : goal.returns-else-t
returns-else-t c =
    let a = c.args in
    let step = c.step-t in
    moved a.outer a.inner a.w c.requires.stands c.requires.goes_on false step.result.next a.w.x c.after-z-else-t.result (ap (λ (t : Step). t.next) step.ensures)
    (flag a.w.strip step.result false step.ensures c.if-t.false) c.requires.stands.x c.after-z-else-t.ensures
