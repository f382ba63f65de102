-- A band around triangles that fill its inner lines fills its outer line.
-- Assumes nothing.
use Prim.Native.Nat.{ℕ, ◌+◌, ◌≤◌, ◌<◌, min, max}
use mathlib.Core.Path.{◌≡◌, refl}
use mathlib.Core.List.{List, ◌∷◌, ◌++◌}
use native.Mathlib.Omega.{arith}
use native.Mathlib.Decide.{dec_le}
use Rattle.strip.specs.declared.triangle.Triangle.{Triangle}
use Rattle.mesh_topology.specs.Sides.{hit, flip, sum_sides, uses, line_sum}
use Rattle.mesh_topology.specs.Band.{Edge, band}
use Rattle.mesh_topology.proofs.Sums.{one_of_two, one_of_three}
use Rattle.mesh_topology.proofs.Hits.{hit_flip, sum_append}
use Rattle.mesh_topology.proofs.Line.{line_once, line_in}
use Rattle.mesh_topology.proofs.Fills.{Fills, fills_in}
use Rattle.mesh_topology.proofs.Band.{Loop, inner_sum, cross, band_sides}
use Rattle.mesh_topology.proofs.Rungs.{cross_once, ends}

module _ (F : ℕ → ℕ) (m low mid top : ℕ) (z : Edge) (es : List Edge) (w : Loop F m mid top z es)
    (on : (i : ℕ) → i ≤ m → (low ≤ F i) × (F i < mid)) where
  rungs_in : (x y : ℕ) → 1 ≤ cross (hit x y) F 0 (z ∷ es) → (mid ≤ x) × (x < top) × (low ≤ y) × (y < mid)
  rungs_in x y h = let s = ends F m mid top z es w x y h in omega (arith, on s.i s.i_to)

  rungs_either : (x y : ℕ) → 1 ≤ cross (hit x y) F 0 (z ∷ es) + cross (hit y x) F 0 (z ∷ es)
      → (low ≤ min x y) × (min x y < mid) × (mid ≤ max x y) × (max x y < top)
  rungs_either x y h = elim (dec_le 1 (cross (hit x y) F 0 (z ∷ es)))
      [ yes k ↦ omega (arith, rungs_in x y k) | no k ↦ omega (arith, rungs_in y x (omega arith)) ]

  rungs_once : (x y : ℕ) → cross (hit x y) F 0 (z ∷ es) + cross (hit y x) F 0 (z ∷ es) ≤ 1
  rungs_once x y =
      one_of_two _ _ (cross_once F m mid top z es w x y) (cross_once F m mid top z es w y x)
      (λ h k. omega (arith, rungs_in x y h, rungs_in y x k))

  module _ (ts : List Triangle) (d : Fills mid top (λ f. inner_sum f (z ∷ es)) ts) where
    -- all sides, with the outer line's segments reversed, are of three kinds
    kinds : (f g : ℕ → ℕ → ℕ) → flip f ≡ g → sum_sides f (band F (z ∷ es) ++ ts) + line_sum g F m
        ≡ line_sum f F m + line_sum g F m + (sum_sides f ts + inner_sum g (z ∷ es)) + (cross f F 0 (z ∷ es) + cross g F 0 (z ∷ es))
    kinds f g e = rw (← e) (simp sum_append (omega (arith, band_sides F m mid top z es w f)))

    pub glue : Fills low top (λ f. line_sum f F m) (band F (z ∷ es) ++ ts)
    glue = record {
      even = λ f. omega (arith, kinds f (flip f) refl, kinds (flip f) f refl, d.even f);
      once = λ x y. omega (
        arith,
        kinds (hit x y) (hit y x) (hit_flip x y),
        one_of_three _ _ _ (line_once F x y m (λ h. w.big) w.closed) (d.once x y) (rungs_once x y)
            (λ h k. omega (arith, line_in F m low mid on x y h, fills_in d x y k))
            (λ h k. omega (arith, line_in F m low mid on x y h, rungs_either x y k))
            (λ h k. omega (arith, fills_in d x y h, rungs_either x y k)),
      );
      within = λ x y h. elim (dec_le 1 (line_sum (hit x y) F m + line_sum (hit y x) F m)) [
        | yes k ↦ omega (arith, line_in F m low mid on x y k, w.first.inside 0 (omega arith))
        | no k ↦ elim (dec_le 1 (uses x y ts + inner_sum (hit y x) (z ∷ es))) [
          | yes l ↦ omega (arith, fills_in d x y l, on 0 (omega arith))
          | no l ↦ omega (arith, rungs_either x y (omega (arith, kinds (hit x y) (hit y x) (hit_flip x y))))
        ]
      ];
    }
