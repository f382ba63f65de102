use mathlib.Core.Path.{◌≡◌}
use lib.ListN.{length}
use Rattle.mesh_geometry.specs.Words.{read_points}
use Rattle.check_searches.specs.Points.{repeats}
use Rattle.check_searches.proofs.First.{Below}
use Rattle.equal_points.specs.Marks.{Marks}
use Rattle.equal_points.proofs.search.by_marks.Given as goal

abbrev pub invariant-loop-j : goal.invariant-loop-j
invariant-loop-j l = Below (repeats (read_points l.points)) l.j × Marks (read_points l.points) l.slots l.j l.marks × (length l.marks ≡ l.slots)
