-- Which points lie in a patch, edges included. Assumes nothing.
use Rattle.std.specs.Prelude.{◌+◌, ◌≤◌, ◌≡◌}
use Rattle.patch.specs.declared.kinds.Patch.{Patch}
use Rattle.patch.specs.declared.kinds.Patch.TheVariants.{Triangles, Quads, Isolines}
use Rattle.mesh_geometry.specs.declared.Point.{Point}
use Rattle.mesh_geometry.specs.Domain.{Domain, triangle, square}

-- the point lies in the domain: in a triangle the coordinates add up to 196608; in a square u and v are at most 65536 and w is 0
abbrev pub InPatch : Domain → Point → Type 0
InPatch triangle p = p.u + p.v + p.w ≡ 196608
InPatch square p = (p.u ≤ 65536) × (p.v ≤ 65536) × (p.w ≡ 0)

-- the domain that a patch fills; isolines lie in the square
abbrev pub domain_of : Patch → Domain
domain_of (Triangles a b c i) = triangle
domain_of (Quads a b c d i j) = square
domain_of (Isolines a b) = square
