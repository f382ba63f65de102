use Prim.Native.Nat.{◌*◌, ◌≤◌}
use mathlib.Core.Path.{◌≡◌}
use lib.ListN.{length}
use Rattle.mesh_geometry.specs.Words.{read_triangles}
use Rattle.half_edges.specs.Opens.{Opens}
use Rattle.half_edges.proofs.opens.open_sides.Given as goal

abbrev pub invariant-loop-k : goal.invariant-loop-k
invariant-loop-k g l = (l.k ≤ l.triangles) × Opens (read_triangles l.indices) (l.k * 3) l.opens l.count × (length l.opens ≡ length l.initial.opens)
