use Prim.Native.Nat.{◌+◌}
use mathlib.Core.Path.{◌≡◌}
use Rattle.buffer.proofs.Laws.{Counting}
use Rattle.strip.specs.Triangles.{indices}
use Rattle.strip.specs.Lines.{vertex}
use Rattle.strip_pairs.specs.Pairs.{pair}
use Rattle.strip_pairs.proofs.write_pairs.Given as goal

abbrev pub invariant-loop-i : goal.invariant-loop-i
invariant-loop-i l =
    (l.x ≡ vertex l.outer (l.a + l.i)) × (l.y ≡ vertex l.inner (l.b + l.i))
    × Counting (λ k. indices l.positive (pair (vertex l.outer) (vertex l.inner) (l.a + k) (l.b + k))) l.i l.n l.out l.to l.initial.out l.at
