-- How many indices a primitive has, and that no record needs more than the given room. Assumes nothing.
use Prim.Native.Nat.{ℕ, ◌+◌, ◌*◌, ◌/◌, ◌≤◌}
use mathlib.Core.Path.{◌≡◌, refl}
use mathlib.Core.Bool.{Bool, true, false}
use native.Mathlib.Omega.{arith}
use Rattle.level.specs.declared.Spacing.{Spacing}
use Rattle.level.specs.Top.{Top}
use Rattle.patch.specs.declared.kinds.Patch.{Patch}
use Rattle.patch.specs.declared.kinds.Patch.TheVariants.{Triangles, Quads, Isolines}
use Rattle.patch.specs.declared.settings.Settings.{Settings}
use Rattle.patch.specs.Subdivide.{subdivision, subdivision_of}
use Rattle.patch_mesh.specs.Counts.{primitive_count, count_in}
use Rattle.patch_mesh.proofs.Cases.{Cases, all_cases}
use Rattle.patch_mesh.proofs.Counts.{point_count_lem, index_count_lem}
use Rattle.patch_mesh.proofs.Sizes.{sizes_at_most, points_at_most, indices_at_most}
use Rattle.patch_mesh.proofs.Valid.{cut_valid}
use Rattle.measure.specs.Sizes.{points_of, indices_of}
use Rattle.mesh_text.specs.Widths.{width_of}
use Rattle.patch_text.specs.Room.{room}

pub width_range : (mode : Bool) (p : Patch) → (1 ≤ width_of mode p) × (width_of mode p ≤ 3)
width_range true p = omega arith
width_range false (Triangles a b c i) = omega arith
width_range false (Quads a b c d i j) = omega arith
width_range false (Isolines a b) = omega arith

-- the number of primitives of a patch
few_primitives : (s : Spacing) (t : ℕ) → Top t → (mode : Bool) (p : Patch) → count_in mode (subdivision s t p) / width_of mode p ≤ 8192
few_primitives s t top true p = omega (arith, points_at_most s t top p, point_count_lem (subdivision s t p) (cut_valid s t top p))
few_primitives s t top false (Triangles a b c i) = omega (arith, sizes_at_most s t top (Triangles a b c i))
few_primitives s t top false (Quads a b c d i j) = omega (arith, sizes_at_most s t top (Quads a b c d i j))
few_primitives s t top false (Isolines a b) = omega (arith, sizes_at_most s t top (Isolines a b))

module _ (set : Settings) (top : Top set.top) (p : Patch) where
  -- the points and the indices fit into full-size lists
  pub points_fit : 3 * points_of set p ≤ 12675
  points_fit = omega (arith, points_at_most set.spacing set.top top p)

  pub indices_fit : indices_of set p ≤ 24576
  indices_fit = indices_at_most set top p

  -- the text fits into the room for one record
  pub text_fits : 28 + 33 * points_of set p + 18 * (indices_of set p / width_of set.point_mode p) ≤ room
  text_fits =
      rw (index_count_lem set (subdivision_of set p) (cut_valid set.spacing set.top top p))
      (omega (arith, points_at_most set.spacing set.top top p, few_primitives set.spacing set.top top set.point_mode p))

-- ---- the indices are whole primitives

threes : (s : Spacing) (t : ℕ) → Cases s t (λ p c. width_of false p * (primitive_count c / width_of false p) ≡ primitive_count c)
unfolding primitive_count
threes s t = record {
  triangle = λ a b c i. omega arith;
  plain_triangle = λ a b c i _. refl;
  quad = λ a b c d i j. omega arith;
  plain_quad_lem = λ a b c d i j _. refl;
  lines = λ a b. omega arith;
}

pub whole_primitives : (set : Settings) → Top set.top → (p : Patch) → width_of set.point_mode p * (indices_of set p / width_of set.point_mode p) ≡ indices_of set p
unfolding primitive_count
whole_primitives set top p = rw (index_count_lem set (subdivision_of set p) (cut_valid set.spacing set.top top p)) (go set.point_mode)
  where
    none : (p : Patch) → width_of false p * (0 / width_of false p) ≡ 0
    none (Triangles a b c i) = refl
    none (Quads a b c d i j) = refl
    none (Isolines a b) = refl

    go : (mode : Bool) → width_of mode p * (count_in mode (subdivision_of set p) / width_of mode p) ≡ count_in mode (subdivision_of set p)
    go true = omega arith
    go false = all_cases (threes set.spacing set.top) none p
