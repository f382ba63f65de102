use Prim.Native.Nat.{◌+◌, ◌-◌}
use mathlib.Core.Path.{◌≡◌}
use Rattle.buffer.proofs.Laws.{Left}
use Rattle.strip.specs.Triangles.{indices}
use Rattle.strip.specs.Rule.{outer_next}
use Rattle.strip.specs.Lines.{vertex}
use Rattle.strip.specs.Strips.{strip_from, strip}
use Rattle.strip_walk.specs.Walks.{Standing}
use Rattle.strip_walk.proofs.write_walk.Given as goal

abbrev pub invariant-loop-step : goal.invariant-loop-step
invariant-loop-step l = Standing l.outer l.inner l.walk × (l.walk.strip.a + l.walk.strip.b ≡ l._step)
    × Left l.out l.to (indices l.positive (strip_from (vertex l.outer) (vertex l.inner) (outer_next l.outer.count l.inner.count) (l.steps - l._step) l.walk.strip.a l.walk.strip.b))
    l.initial.out l.at (indices l.positive (strip (vertex l.outer) (vertex l.inner) l.outer.count l.inner.count))
