-- Which triangles hold a spot, by signed areas over whole numbers. Assumes nothing.
use Rattle.std.specs.Prelude.{ℕ, ◌≤◌, ◌<◌, min, max, ◌≡◌, Bool, List, length, get_or, ℤ, pos}
use Rattle.mesh_geometry.specs.declared.Point.{Point}
use Rattle.mesh_geometry.specs.Cover.{Face, Side, missing, sides, side, twice_area, HasSign}

-- a spot of the domain with whole coordinates; on a triangle patch its w is 196608 − u − v
pub record Spot : Type 0 where
  pub u : ℕ
  pub v : ℕ

-- the spot as a point; areas do not depend on w
abbrev pub corner : Spot → Point
corner s = record { u = s.u; v = s.v; w = 0 }

-- twice the signed area of the triangle of P, Q and the spot
abbrev pub area_to : Point → Point → Spot → ℤ
area_to p q s = twice_area (record { p = p; q = q; r = corner s })

-- the spot lies strictly inside the triangle, which has the orientation asked for: the area to each side has that sign. That no
-- triangle of the other orientation holds the spot follows from `Cover`'s field `turned` (mesh_geometry/proofs/EitherTurn)
pub record Holds (positive : Bool) (t : Face) (s : Spot) : Type 0 where
  pub pq : HasSign positive (area_to t.p t.q s)
  pub qr : HasSign positive (area_to t.q t.r s)
  pub rp : HasSign positive (area_to t.r t.p s)

-- x is a, b or between them
abbrev pub Between : ℕ → ℕ → ℕ → Type 0
Between a b x = (min a b ≤ x) × (x ≤ max a b)

-- the spot lies on the side, ends included
pub record OnSide (e : Side) (s : Spot) : Type 0 where
  pub straight : area_to e.start e.end s ≡ pos 0
  pub along_u : Between e.start.u e.end.u s.u
  pub along_v : Between e.start.v e.end.v s.v

-- the spot lies on no side of any triangle
abbrev pub OffSides : List Face → Spot → Type 0
OffSides faces s = (i : ℕ) → i < length (sides faces) → OnSide (side (sides faces) i) s → ⊥

-- triangle number k
abbrev pub face : List Face → ℕ → Face
face ts k = get_or ts k (record { p = missing; q = missing; r = missing })

-- exactly one triangle holds the spot
pub record HeldOnce (positive : Bool) (faces : List Face) (s : Spot) : Type 0 where
  pub number : ℕ
  pub within : number < length faces
  pub holds : Holds positive (face faces number) s
  pub only : (k : ℕ) → k < length faces → Holds positive (face faces k) s → k ≡ number
