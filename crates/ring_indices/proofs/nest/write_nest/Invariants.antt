use Prim.Native.Nat.{◌+◌, ◌*◌, ◌≤◌}
use Rattle.buffer.proofs.Laws.{Left}
use Rattle.strip.specs.Triangles.{indices}
use Rattle.mesh_topology.specs.Nest.{nest}
use Rattle.ring_indices.proofs.nest.write_nest.Given as goal

-- a ring in a loop is its fields in order: the first vertex, and the segments of each edge
abbrev pub invariant-long : goal.invariant-long
invariant-long l = ((l.ring.1.0 ≤ 64) × (l.ring.1.1.0 ≤ 64) × (l.ring.1.1.1.0 ≤ 64) × (l.ring.0 + 96 * l.left ≤ 6144))
    × Left l.out l.to (indices l.positive (nest l.ring.0 l.ring.1.0 l.ring.1.1.0 l.ring.1.1.1.0 l.left)) l.initial.out l.at (indices l.positive (nest 0 l.c0 l.c1 l.c2 l.n))

abbrev pub decreases-long : goal.decreases-long
decreases-long l = l.left

abbrev pub invariant-loop-left : goal.invariant-loop-left
invariant-loop-left l = ((l.ring.1.0 ≤ 64) × (l.ring.1.1.0 ≤ 64) × (l.ring.1.1.1.0 ≤ 64) × (l.ring.0 + 96 * l.left ≤ 6144))
    × Left l.out l.to (indices l.positive (nest l.ring.0 l.ring.1.0 l.ring.1.1.0 l.ring.1.1.1.0 l.left)) l.fn.out l.at (indices l.positive (nest 0 l.c0 l.c1 l.c2 l.n))

abbrev pub decreases-loop-left : goal.decreases-loop-left
decreases-loop-left l = l.left
