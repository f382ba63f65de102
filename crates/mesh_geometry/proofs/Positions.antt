-- The positions of an edge's points, for any valid n and L, are good places. Assumes nothing.
use Prim.Native.Nat.{ℕ}
use Rattle.level.specs.Segments.{Valid}
use Rattle.edge.specs.Positions.{position}
use Rattle.edge.proofs.Ends.{starts, ends}
use Rattle.edge.proofs.Rises.{rises_suc}
use Rattle.edge.proofs.Mirrored.{mirrored}
use Rattle.mesh_geometry.specs.Edge.{GoodRun}

pub good_positions : (n L : ℕ) → Valid n L → GoodRun (record { q = position n L; c = n })
good_positions n L v = record { first = starts n L v; last = ends n L v; rises = rises_suc n L v; mirrors = mirrored n L }
