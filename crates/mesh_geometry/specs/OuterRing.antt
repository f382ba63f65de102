-- The points of an outline as document 01 lists them, each by its number. Assumes nothing.
use Rattle.std.specs.Prelude.{ℕ, ◌+◌, ◌<◌, ◌≡◌, List, length}
use Rattle.mesh_topology.specs.Sides.{sum}
use Rattle.mesh_geometry.specs.declared.Point.{Point}
use Rattle.mesh_geometry.specs.Edge.{Run}
use Rattle.mesh_geometry.specs.Faces.{at}
use Rattle.mesh_geometry.specs.Domain.{Domain, edge_count}
use Rattle.mesh_geometry.specs.OnEdge.{OnEdge}

-- the number of the first point of edge k: the edges before it have one point per segment, as each is without its end
abbrev pub edge_start : (ℕ → Run) → ℕ → ℕ
edge_start e k = sum (λ m. (e m).c) k

-- ps are the points of the outer edges e 0, e 1, .. in walk order, each edge without its end: point i of edge k is at its place q(i)
pub record OuterRing (shape : Domain) (e : ℕ → Run) (ps : List Point) : Type 0 where
  pub size : length ps ≡ edge_start e (edge_count shape)
  pub point : (k i : ℕ) → k < edge_count shape → i < (e k).c → OnEdge shape k ((e k).q i) (at ps (edge_start e k + i))
