use native.Mathlib.Omega.{arith}
use Prim.Native.Nat.{◌+◌, ◌-◌}
use mathlib.Core.Path.{◌≡◌}
use Rattle.buffer.proofs.Laws.{left_all, left_step, left_none}
use Rattle.strip.specs.Triangles.{indices}
use Rattle.strip.specs.Rule.{outer_next}
use Rattle.strip.specs.Lines.{vertex}
use Rattle.strip.proofs.Rule.{step_sum}
use Rattle.strip.proofs.Strips.{steps_none, words_length, words_more}
use Rattle.strip_walk.proofs.write_walk.Goals as goal

pub loop-step-init : goal.loop-step-init
loop-step-init c =
    let a = c.args in
    let begun = c.begin-walk.ensures in
    let all : c.args.outer.count + c.args.inner.count - 0 ≡ c.args.outer.count + c.args.inner.count = omega arith in (
      begun.stands,
      omega arith,
      left_all (rw (all, begun.a, begun.b)) (omega (
        arith,
        words_length (vertex a.outer) (vertex a.inner) (outer_next a.outer.count a.inner.count)
            a.positive (a.outer.count + a.inner.count) 0 0,
      )),
    )

pub put_triangle-to-requires : goal.put_triangle-to-requires
put_triangle-to-requires c =
    let a = c.args in
    let l = c.loop-step in
    omega (arith, words_length (vertex a.outer) (vertex a.inner) (outer_next a.outer.count a.inner.count) a.positive (a.outer.count + a.inner.count - l._step) l.walk.strip.a l.walk.strip.b)

pub loop-step-preserved : goal.loop-step-preserved
loop-step-preserved c =
    let a = c.args in
    let l = c.loop-step in
    let s = l.walk.strip in
    let next = outer_next a.outer.count a.inner.count in
    let steps = a.outer.count + a.inner.count in
    let on = c.advance-t.ensures in (
      on.stands,
      omega (arith, step_sum (next s.a s.b) s.a s.b),
      left_step c.put_triangle-to.ensures
          (words_more (vertex a.outer) (vertex a.inner) next a.positive (steps - l._step) s.a s.b _ (steps - (l._step + 1)) _ _ (omega arith) (omega arith) on.triangle on.a on.b) l.invariant.2,
    )

pub returns : goal.returns
unfolding indices
returns c =
    let a = c.args in
    let l = c.loop-step in
    left_none (rw (steps_none (vertex a.outer) (vertex a.inner) (outer_next a.outer.count a.inner.count) (a.outer.count + a.inner.count - l._step) l.walk.strip.a
    l.walk.strip.b (omega arith))) l.invariant.2
