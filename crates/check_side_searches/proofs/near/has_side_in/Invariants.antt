use Prim.Native.Nat.{◌-◌}
use Rattle.mesh_geometry.specs.Words.{read_triangles}
use Rattle.check_searches.specs.Triangles.{triangle_at, has_side}
use Rattle.check_side_searches.proofs.Skips.{Clear}
use Rattle.check_side_searches.proofs.near.has_side_in.Given as goal

abbrev pub invariant-loop-i : goal.invariant-loop-i
invariant-loop-i l = Clear (λ k. has_side (triangle_at (read_triangles l.indices) k) l.x l.y) l.from l.to l.i

abbrev pub decreases-loop-i : goal.decreases-loop-i
decreases-loop-i l = l.to - l.i
