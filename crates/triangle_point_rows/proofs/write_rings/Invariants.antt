use lib.ListN.{length}
use Rattle.buffer.proofs.Laws.{Left}
use Rattle.mesh_geometry.specs.Words.{vertex_words}
use Rattle.triangle_point_rows.specs.Rings.{rings_of, Inward}
use Rattle.triangle_point_rows.proofs.write_rings.Given as goal

abbrev pub invariant-loop-inner : goal.invariant-loop-inner
invariant-loop-inner l = Inward l.inner × Left l.out l.to (vertex_words (rings_of l.inner)) l.initial.out l.at (vertex_words (rings_of l.row))

abbrev pub decreases-loop-inner : goal.decreases-loop-inner
decreases-loop-inner l = length l.inner
