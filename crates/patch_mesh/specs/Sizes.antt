-- The greatest sizes of drawn patches, by kind, and patches that reach them. Assumes nothing.
use Rattle.std.specs.Prelude.{ℕ, ◌*◌, ◌≤◌, ◌≡◌}
use Rattle.level.specs.declared.Spacing.TheVariants.{Equal}
use Rattle.patch.specs.declared.kinds.Patch.{Patch}
use Rattle.patch.specs.declared.kinds.Patch.TheVariants.{Triangles, Quads, Isolines}
use Rattle.patch.specs.declared.subdivision.Subdivision.{Subdivision}
use Rattle.patch.specs.Subdivide.{subdivision}
use Rattle.patch_mesh.specs.Levels.{level64}
use Rattle.patch_mesh.specs.Counts.{point_count, primitive_count}

-- the most points of a patch of this kind
abbrev pub most_points : Patch → ℕ
most_points (Triangles a b c i) = 3169
most_points (Quads a b c d i j) = 4225
most_points (Isolines a b) = 4160

-- the most indices of a patch of this kind, not in point mode: 6,144 triangles, 8,192 triangles or 4,096 lines
abbrev pub most_primitives : Patch → ℕ
most_primitives (Triangles a b c i) = 3 * 6144
most_primitives (Quads a b c d i j) = 3 * 8192
most_primitives (Isolines a b) = 2 * 4096

-- the patch has at most m points, and at most n indices of triangles or lines
pub record AtMost (m n : ℕ) (c : Subdivision) : Type 0 where
  pub points : point_count c ≤ m
  pub primitives : primitive_count c ≤ n

-- with equal spacing the patch reaches the greatest sizes of its kind
pub record Greatest (p : Patch) : Type 0 where
  pub points : point_count (subdivision Equal 64 p) ≡ most_points p
  pub primitives : primitive_count (subdivision Equal 64 p) ≡ most_primitives p

-- the patches whose levels are all 64
abbrev pub triangles64 : Patch
triangles64 = Triangles level64 level64 level64 level64

abbrev pub quads64 : Patch
quads64 = Quads level64 level64 level64 level64 level64 level64

abbrev pub isolines64 : Patch
isolines64 = Isolines level64 level64
