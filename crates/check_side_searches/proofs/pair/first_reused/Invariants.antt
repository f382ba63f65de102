use Prim.Native.Nat.{◌-◌, ◌≤◌}
use Rattle.mesh_geometry.specs.Words.{read_triangles}
use Rattle.check_searches.specs.Triangles.{triangle_at, share_side, reuses}
use Rattle.check_searches.proofs.First.{Below}
use Rattle.check_side_searches.proofs.pair.first_reused.Given as goal

abbrev pub invariant-loop-i : goal.invariant-loop-i
invariant-loop-i l = (l.i ≤ l.j) × Below (λ k. share_side (triangle_at (read_triangles l.indices) k) l.t) l.i

abbrev pub decreases-loop-i : goal.decreases-loop-i
decreases-loop-i l = l.j - l.i

abbrev pub invariant-search : goal.invariant-search
invariant-search l = (l.j ≤ l.count) × Below (reuses (read_triangles l.indices)) l.j

abbrev pub decreases-search : goal.decreases-search
decreases-search l = l.count - l.j
