-- Triangles that have a spot inside, whatever their orientation. Assumes nothing.
use Rattle.std.specs.Prelude.{ℕ, ◌<◌, ◌≡◌, true, false, ◌⊎◌, List, length}
use Rattle.mesh_geometry.specs.Cover.{Face}
use Rattle.mesh_geometry.specs.Held.{Spot, Holds, face}

-- the spot lies strictly inside the triangle
abbrev pub HasInside : Face → Spot → Type 0
HasInside t s = Holds true t s ⊎ Holds false t s

-- exactly one triangle has the spot inside
pub record InsideOnce (faces : List Face) (s : Spot) : Type 0 where
  pub number : ℕ
  pub within : number < length faces
  pub inside : HasInside (face faces number) s
  pub only : (k : ℕ) → k < length faces → HasInside (face faces k) s → k ≡ number
