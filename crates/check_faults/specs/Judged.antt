-- The mesh that a value of `NumberedMesh` holds. Assumes nothing.
use Rattle.mesh_geometry.specs.Words.{read_points}
use Rattle.check_faults.specs.declared.mesh.NumberedMesh.{NumberedMesh}
use Rattle.check_faults.specs.JudgedMesh.{JudgedMesh, judged}

abbrev pub judged_by : NumberedMesh → JudgedMesh
judged_by mesh = judged mesh.positive (read_points mesh.outline.now) mesh.points.now mesh.indices.now
