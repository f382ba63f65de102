-- Subdivisions with valid n and L for every edge, and at least two segments for every inner level. Assumes nothing.
use Rattle.std.specs.Prelude.{◌≤◌}
use Rattle.level.specs.declared.Segments.{Segments}
use Rattle.level.specs.Segments.{Valid}
use Rattle.patch.specs.declared.subdivision.Subdivision.{Subdivision}
use Rattle.patch.specs.declared.subdivision.Subdivision.TheVariants.{Discarded, PlainTriangle, Triangle, PlainQuad, Quad, Lines}

-- n and L of an edge are valid
abbrev pub ValidEdge : Segments → Type 0
ValidEdge s = Valid s.count s.scaled

-- n and L of an inner level are valid
pub record ValidInside (s : Segments) : Type 0 where
  pub edge : ValidEdge s
  pub two : 2 ≤ s.count

-- a valid triangle patch: outer edges and inner level
pub record ValidTriangle (a b c i : Segments) : Type 0 where
  pub edge0 : ValidEdge a
  pub edge1 : ValidEdge b
  pub edge2 : ValidEdge c
  pub inside : ValidInside i

-- a valid quad patch: outer edges, and the rows and columns of the inner levels
pub record ValidQuad (a b c d m n : Segments) : Type 0 where
  pub edge0 : ValidEdge a
  pub edge1 : ValidEdge b
  pub edge2 : ValidEdge c
  pub edge3 : ValidEdge d
  pub rows : ValidInside m
  pub columns : ValidInside n

-- valid isolines: their number, and the segments along each
pub record ValidLines (m n : Segments) : Type 0 where
  pub lines : ValidEdge m
  pub along : ValidEdge n

-- the subdivision is valid; every subdivision of a patch is
abbrev pub ValidCut : Subdivision → Type 0
ValidCut Discarded = Unit {0}
ValidCut PlainTriangle = Unit {0}
ValidCut (Triangle a b c i) = ValidTriangle a b c i
ValidCut PlainQuad = Unit {0}
ValidCut (Quad a b c d m n) = ValidQuad a b c d m n
ValidCut (Lines m n) = ValidLines m n
