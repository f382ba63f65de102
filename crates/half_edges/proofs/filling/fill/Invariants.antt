use Prim.Native.Nat.{◌*◌, ◌≤◌}
use mathlib.Core.Path.{◌≡◌}
use Rattle.mesh_geometry.specs.Words.{read_triangles}
use Rattle.half_edges.specs.Tables.{FilledTable}
use Rattle.half_edges.proofs.filling.fill.Given as goal

abbrev pub invariant-loop-k : goal.invariant-loop-k
invariant-loop-k g l =
    (l.k ≤ l.count)
    × FilledTable g.T.SearchedTable.holds (read_triangles l.indices) (l.k * 3) l.table
    × (g.T.SearchedTable.extent l.table ≡ g.T.SearchedTable.extent l.initial.table)
