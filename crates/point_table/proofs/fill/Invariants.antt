use mathlib.Core.Path.{◌≡◌}
use lib.ListN.{length}
use Rattle.mesh_geometry.specs.Words.{read_points}
use Rattle.check_searches.specs.Points.{repeats}
use Rattle.check_searches.proofs.First.{Below}
use Rattle.point_table.specs.Trees.{PointTable}
use Rattle.point_table.proofs.fill.Given as goal

abbrev pub invariant-loop-j : goal.invariant-loop-j
invariant-loop-j l = Below (repeats (read_points l.points)) l.j × PointTable (read_points l.points) l.slots l.j l.table × (length l.table ≡ length l.initial.table)
