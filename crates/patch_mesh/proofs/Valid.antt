-- Every subdivision of a patch is valid.
-- Assumes nothing.
use Prim.Native.Nat.{ℕ}
use lib.Ieee.{Float}
use Rattle.level.specs.declared.Spacing.{Spacing}
use Rattle.level.specs.declared.Spacing.TheVariants.{Equal}
use Rattle.level.specs.Top.{Top}
use Rattle.level.specs.Segments.{inner_segments}
use Rattle.level.proofs.Valid.{segments_valid, inner_valid, inner_two}
use Rattle.patch.specs.declared.kinds.Patch.{Patch}
use Rattle.patch.specs.Subdivide.{cut, subdivision}
use Rattle.patch_mesh.specs.Valid.{ValidInside, ValidCut}
use Rattle.patch_mesh.proofs.Cases.{Cases, drawn_cases, all_cases}

module _ (s : Spacing) (t : ℕ) (top : Top t) where
  inside : (x : Float) → ValidInside (inner_segments s t x)
  inside x = record { edge = inner_valid s t top x; two = inner_two s t top x }

  valid : Cases s t (λ p c. ValidCut c)
  valid = record {
    plain_triangle = λ a b c i _. tt;
    triangle = λ a b c i. record {
      edge0 = segments_valid s t top a;
      edge1 = segments_valid s t top b;
      edge2 = segments_valid s t top c;
      inside = inside i;
    };
    plain_quad_lem = λ a b c d i j _. tt;
    quad = λ a b c d i j. record {
      edge0 = segments_valid s t top a;
      edge1 = segments_valid s t top b;
      edge2 = segments_valid s t top c;
      edge3 = segments_valid s t top d;
      rows = inside i;
      columns = inside j;
    };
    lines = λ a b. record { lines = segments_valid Equal t top a; along = segments_valid s t top b };
  }

  pub drawn_valid : (p : Patch) → ValidCut (cut s t p)
  drawn_valid = drawn_cases valid

  pub cut_valid : (p : Patch) → ValidCut (subdivision s t p)
  cut_valid = all_cases valid (λ p. tt)
