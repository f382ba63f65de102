use mathlib.Core.Bool.{not}
use Rattle.mesh_geometry.specs.Words.{read_points}
use Rattle.check_faults.specs.JudgedMesh.{judged}
use Rattle.check_faults.specs.Outline.{piece_drawn}
use Rattle.check_searches.proofs.First.{Passed}
use Rattle.check_faults.proofs.outline.first_missing.Given as goal

abbrev pub invariant-loop-k : goal.invariant-loop-k
invariant-loop-k l = Passed (λ i. not (piece_drawn (judged l.mesh.positive (read_points l.mesh.outline.now) l.mesh.points.now l.mesh.indices.now) i)) l.count l.k
