use Rattle.mesh_geometry.specs.Words.{read_triangles}
use Rattle.half_edge_chains.specs.Links.{Walked}
use Rattle.half_edge_chains.proofs.chain.has_side.Given as goal

abbrev pub invariant-loop-k : goal.invariant-loop-k
invariant-loop-k l = Walked (read_triangles l.indices) l.sides l.x l.y l.k

abbrev pub decreases-loop-k : goal.decreases-loop-k
decreases-loop-k l = l.k
