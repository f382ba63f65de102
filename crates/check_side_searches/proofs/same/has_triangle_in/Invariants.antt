use Prim.Native.Nat.{◌-◌}
use Rattle.mesh_geometry.specs.Words.{read_triangles}
use Rattle.check_searches.specs.Triangles.{triangle_at}
use Rattle.check_side_searches.specs.Same.{same_triangle}
use Rattle.check_side_searches.proofs.Skips.{Clear}
use Rattle.check_side_searches.proofs.same.has_triangle_in.Given as goal

abbrev pub invariant-loop-i : goal.invariant-loop-i
invariant-loop-i l = Clear (λ k. same_triangle (triangle_at (read_triangles l.indices) k) l.t) l.from l.to l.i

abbrev pub decreases-loop-i : goal.decreases-loop-i
decreases-loop-i l = l.to - l.i
