use mathlib.Core.Bool.{not}
use Rattle.mesh_geometry.specs.Words.{read_points}
use Rattle.check_searches.proofs.First.{Passed}
use Rattle.check_faults.specs.JudgedMesh.{judged}
use Rattle.check_faults.specs.Outline.{closes}
use Rattle.check_faults.proofs.side.first_open.Given as goal

abbrev pub invariant-loop-m : goal.invariant-loop-m
invariant-loop-m l = Passed (λ i. not (closes (judged l.mesh.positive (read_points l.mesh.outline.now) l.mesh.points.now l.mesh.indices.now) i)) l.count l.m
