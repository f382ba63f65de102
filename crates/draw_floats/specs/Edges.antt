-- The floats along an outer edge of a patch. Assumes nothing.
use Rattle.std.specs.Prelude.{ℕ, zero, suc, ◌-◌, ◌*◌, ◌≡◌, List, map, reverse, Float}
use Rattle.patch.specs.declared.kinds.Patch.{Patch}
use Rattle.patch.specs.declared.kinds.Patch.TheVariants.{Triangles, Quads, Isolines}
use Rattle.mesh_geometry.specs.declared.Point.{Point}
use Rattle.mesh_geometry.specs.Seam.{places}
use Rattle.patch_mesh.specs.Demand.{edges}
use Rattle.patch_mesh.specs.Coordinates.{one}
use Rattle.patch_mesh.specs.Kept.{kind_number}
use Rattle.coordinate.specs.Coordinate.{coordinate}

-- which coordinate changes along outer edge k: 0 for u, 1 for v, 2 for w; for triangles it is the end coordinate
abbrev pub axis : Patch → ℕ → ℕ
axis (Triangles a b c i) zero = 2
axis (Triangles a b c i) (suc zero) = 0
axis (Triangles a b c i) (suc (suc k)) = 1
axis (Quads a b c d i j) zero = 1
axis (Quads a b c d i j) (suc zero) = 0
axis (Quads a b c d i j) (suc (suc zero)) = 1
axis (Quads a b c d i j) (suc (suc (suc k))) = 0
axis (Isolines a b) k = 0

-- that coordinate at place x of edge k; it rises along the edge, or falls on the edges u = 0 and v = 1 of quads
abbrev pub at_place : Patch → ℕ → ℕ → ℕ
at_place (Triangles a b c i) k x = 3 * x
at_place (Quads a b c d i j) zero x = 65536 - x
at_place (Quads a b c d i j) (suc zero) x = x
at_place (Quads a b c d i j) (suc (suc zero)) x = x
at_place (Quads a b c d i j) (suc (suc (suc k))) x = 65536 - x
at_place (Isolines a b) k x = x

-- the list of that coordinate's floats along the edge, put in rising order
abbrev pub in_rising_order : Patch → ℕ → List Float → List Float
in_rising_order (Triangles a b c i) k fs = fs
in_rising_order (Quads a b c d i j) zero fs = reverse fs
in_rising_order (Quads a b c d i j) (suc zero) fs = fs
in_rising_order (Quads a b c d i j) (suc (suc zero)) fs = fs
in_rising_order (Quads a b c d i j) (suc (suc (suc k))) fs = reverse fs
in_rising_order (Isolines a b) k fs = fs

-- the float of that coordinate at place x
abbrev pub edge_float : Patch → ℕ → ℕ → Float
edge_float p k x = coordinate (one p) (at_place p k x)

-- the floats along outer edge k of a patch with the points ps, in rising order
abbrev pub floats_along : Patch → ℕ → List Point → List Float
floats_along p k ps = in_rising_order p k (map (edge_float p k) (places (edges p k) ps))

-- two patches of one kind
abbrev pub SameKind : Patch → Patch → Type 0
SameKind p p' = kind_number p ≡ kind_number p'
