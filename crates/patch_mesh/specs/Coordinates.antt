-- How large the coordinates of a patch's points are. Assumes nothing.
use Rattle.std.specs.Prelude.{ℕ, ◌≤◌}
use Rattle.patch.specs.declared.kinds.Patch.{Patch}
use Rattle.patch.specs.declared.kinds.Patch.TheVariants.{Triangles, Quads, Isolines}
use Rattle.mesh_geometry.specs.declared.Point.{Point}

-- the number that represents the coordinate 1: document 01's S for triangles
abbrev pub one : Patch → ℕ
one (Triangles a b c i) = 196608
one (Quads a b c d i j) = 65536
one (Isolines a b) = 65536

-- no coordinate of the point is above n
pub record UpTo (n : ℕ) (p : Point) : Type 0 where
  pub u : p.u ≤ n
  pub v : p.v ≤ n
  pub w : p.w ≤ n
