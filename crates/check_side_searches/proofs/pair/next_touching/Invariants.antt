use Prim.Native.Nat.{◌≤◌}
use Rattle.mesh_geometry.specs.Words.{read_triangles}
use Rattle.check_side_searches.specs.Skips.{Skips}
use Rattle.check_side_searches.proofs.pair.next_touching.Given as goal

abbrev pub invariant-loop-at : goal.invariant-loop-at
invariant-loop-at l = (l.at ≤ l.to) × Skips (read_triangles l.indices) l.from l.to l.x l.y l.at
