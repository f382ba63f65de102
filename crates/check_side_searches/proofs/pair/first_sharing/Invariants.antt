use Rattle.mesh_geometry.specs.Words.{read_triangles}
use Rattle.check_searches.specs.Triangles.{triangle_at, share_side}
use Rattle.check_searches.proofs.First.{Passed}
use Rattle.check_side_searches.proofs.pair.first_sharing.Given as goal

abbrev pub invariant-loop-i : goal.invariant-loop-i
invariant-loop-i l = Passed (λ k. share_side (triangle_at (read_triangles l.indices) k) l.t) l.end l.i
