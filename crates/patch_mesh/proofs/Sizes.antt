-- No patch exceeds the greatest sizes of its kind, and the patches whose levels are all 64 reach them. Assumes nothing.
use Prim.Native.Nat.{ℕ, ◌-◌, ◌*◌, ◌≤◌}
use mathlib.Core.Path.{refl}
use mathlib.Core.Bool.{Bool, true, false}
use native.Mathlib.Omega.{arith}
use native.Mathlib.Nat.{mul-le-mul}
use lib.ListN.{length}
use lib.Ieee.{Float, is_nan, le, of_int}
use Rattle.level.specs.declared.Spacing.{Spacing}
use Rattle.level.specs.declared.Spacing.TheVariants.{Equal}
use Rattle.level.specs.Top.{Top}
use Rattle.level.specs.Scale.{scaled_level}
use Rattle.level.specs.Segments.{segments_of, as_inner, inner_segments}
use Rattle.level.proofs.Valid.{segments_valid, inner_valid}
use Rattle.patch.specs.declared.kinds.Patch.{Patch}
use Rattle.patch.specs.declared.kinds.Patch.TheVariants.{Triangles, Quads, Isolines}
use Rattle.patch.specs.declared.settings.Settings.{Settings}
use Rattle.patch.specs.Every.{some, every}
use Rattle.patch.specs.Subdivide.{subdivision, subdivision_of}
use Rattle.patch_mesh.specs.Points.{points}
use Rattle.patch_mesh.specs.Primitives.{index_words}
use Rattle.patch_mesh.specs.Counts.{point_count, primitive_count, count_in}
use Rattle.patch_mesh.specs.Sizes.{most_points, most_primitives, AtMost, Greatest, triangles64, quads64, isolines64}
use Rattle.patch_mesh.proofs.Counts.{point_count_lem, index_count_lem}
use Rattle.patch_mesh.proofs.Valid.{cut_valid}
use Rattle.patch_mesh.proofs.Cases.{Cases, all_cases}

-- the product of two counts, each minus d
area : (d m n : ℕ) → m ≤ 64 → n ≤ 64 → (m - d) * (n - d) ≤ (64 - d) * (64 - d)
area d m n h k = mul-le-mul (omega arith) (omega arith)

module _ (s : Spacing) (t : ℕ) (top : Top t) where
  outer : (x : Float) → (segments_of s t x).count ≤ 64
  outer x = (segments_valid s t top x).few

  inner : (x : Float) → (inner_segments s t x).count ≤ 64
  inner x = (inner_valid s t top x).few

  small : Cases s t (λ p c. AtMost (most_points p) (most_primitives p) c)
  unfolding point_count primitive_count
  small = record {
    plain_triangle = λ a b c i _. omega arith;
    triangle = λ a b c i.
        let n = inner i in
        record {
          points = omega (arith, outer a, outer b, outer c, area 1 _ _ n n);
          primitives = omega (arith, outer a, outer b, outer c, area 2 _ _ n n);
        };
    plain_quad_lem = λ a b c d i j _. omega arith;
    quad = λ a b c d i j.
        let m = inner i in
        let n = inner j in
        record {
          points = omega (arith, outer a, outer b, outer c, outer d, area 1 _ _ m n);
          primitives = omega (arith, outer a, outer b, outer c, outer d, area 2 _ _ m n);
        };
    lines = λ a b.
        let m = (segments_valid Equal t top a).few in
        let h = mul-le-mul m (outer b) in
        record { points = omega arith; primitives = omega arith };
  }

  pub sizes_at_most : (p : Patch) → AtMost (most_points p) (most_primitives p) (subdivision s t p)
  unfolding point_count primitive_count
  sizes_at_most = all_cases small (λ p. omega arith)

-- the greatest sizes over all kinds
most : (p : Patch) → (most_points p ≤ 4225) × (most_primitives p ≤ 24576)
most (Triangles a b c i) = omega arith
most (Quads a b c d i j) = omega arith
most (Isolines a b) = omega arith

-- at most 4,225 points, for every patch and setting: every vertex number has 16 bits
pub points_at_most : (s : Spacing) (t : ℕ) → Top t → (p : Patch) → length (points (subdivision s t p)) ≤ 4225
points_at_most s t top p = omega (arith, point_count_lem (subdivision s t p) (cut_valid s t top p), sizes_at_most s t top p, most p)

-- at most 24,576 indices
pub indices_at_most : (set : Settings) → Top set.top → (p : Patch) → length (index_words set (subdivision_of set p)) ≤ 24576
indices_at_most set top p = omega (arith, index_count_lem set (subdivision_of set p) (cut_valid set.spacing set.top top p), go set.point_mode)
  where
    go : (mode : Bool) → count_in mode (subdivision_of set p) ≤ 24576
    go false = omega (arith, sizes_at_most set.spacing set.top top p, most p)
    go true = omega (arith, sizes_at_most set.spacing set.top top p, most p)

pub greatest : Greatest triangles64 × Greatest quads64 × Greatest isolines64
unfolding scaled_level segments_of as_inner some every subdivision point_count primitive_count is_nan le of_int
greatest = (
  record { points = refl; primitives = refl },
  record { points = refl; primitives = refl },
  record { points = refl; primitives = refl },
)
