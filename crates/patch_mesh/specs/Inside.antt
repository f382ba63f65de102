-- Which spots lie strictly inside a patch, and that exactly one triangle holds each of them. Assumes nothing.
use Rattle.std.specs.Prelude.{ℕ, ◌≡◌, false, List}
use Rattle.patch.specs.declared.kinds.Patch.{Patch}
use Rattle.patch.specs.declared.kinds.Patch.TheVariants.{Triangles, Quads, Isolines}
use Rattle.patch.specs.declared.settings.Settings.{Settings}
use Rattle.patch.specs.Turn.{turn_asked}
use Rattle.mesh_geometry.specs.declared.Point.{Point}
use Rattle.mesh_geometry.specs.Held.{Spot, OffSides, HeldOnce}
use Rattle.mesh_geometry.specs.Domain.{triangle, square, InsideDomain}
use Rattle.mesh_geometry.specs.Faces.{faces_in}

-- the spot lies strictly inside the patch; no spot lies inside isolines
abbrev pub Inside : Patch → Spot → Type 0
Inside (Triangles a b c i) s = InsideDomain triangle s
Inside (Quads a b c d i j) s = InsideDomain square s
Inside (Isolines a b) s = ⊥

-- the patch is drawn as triangles: exactly one triangle holds each spot that lies strictly inside the patch and on no side
abbrev pub SpotsOnce : Settings → Patch → List Point → List ℕ → Type 0
SpotsOnce set p ps ws = set.point_mode ≡ false → (s : Spot) → Inside p s → OffSides (faces_in ps ws) s
    → HeldOnce (turn_asked set) (faces_in ps ws) s
