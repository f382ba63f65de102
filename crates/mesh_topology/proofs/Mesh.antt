-- Triangles that fill a ring make a watertight mesh. Assumes nothing.
use Prim.Native.Nat.{ℕ, ◌+◌, ◌≤◌, ◌<◌}
use mathlib.Core.Path.{◌≡◌}
use mathlib.Core.Logic.{inl, inr}
use mathlib.Core.List.{List, [], ◌∷◌}
use native.Mathlib.Omega.{arith}
use native.Mathlib.Decide.{dec_le}
use Rattle.strip.specs.declared.triangle.Triangle.{Triangle}
use Rattle.mesh_topology.specs.Sides.{sum_sides, uses}
use Rattle.mesh_topology.specs.Ring.{ring_at, ring_sum, ring_side}
use Rattle.mesh_topology.specs.Closes.{CornersWithin, Closes}
use Rattle.mesh_topology.proofs.Hits.{hit_self}
use Rattle.mesh_topology.proofs.Line.{piece, pieces_at, line_once}
use Rattle.mesh_topology.proofs.Ring.{ring_closed}
use Rattle.mesh_topology.proofs.Fills.{Fills, fills_turned}

-- if the vertices of every side lie in the range, those of every triangle do
all_within : (base top : ℕ) (ts : List Triangle) → ((x y : ℕ) → 1 ≤ uses x y ts → (base ≤ x) × (x < top)) → CornersWithin base top ts
unfolding sum_sides
all_within base top [] h = tt
all_within base top (t ∷ ts) h = (
  h t.a t.b (omega (arith, hit_self t.a t.b)),
  h t.b t.c (omega (arith, hit_self t.b t.c)),
  h t.c t.a (omega (arith, hit_self t.c t.a)),
  all_within base top ts (λ x y k. h x y (omega arith)),
)

module _ (base top total : ℕ) (ts : List Triangle) (big : 1 ≤ total → 3 ≤ total) (d : Fills base top (λ f. ring_sum f base total) ts) where
  ring_once : (x y : ℕ) → ring_side base total x y + ring_side base total y x ≤ 1
  ring_once x y = line_once (ring_at base total) x y total big (ring_closed base total)

  ring_use : (x y : ℕ) → 1 ≤ ring_side base total x y → (uses x y ts ≡ 1) × (uses y x ts ≡ 0)
  ring_use x y h = omega (arith, fills_turned d x y, d.once x y, ring_once x y)

  pub closes : Closes base top total ts
  closes = record {
    within = all_within base top ts (λ x y h. d.within x y (omega arith));
    single = λ x y. omega (arith, d.once x y);
    outline = λ k l. (ring_use _ _ (pieces_at (ring_at base total) k total l)).0;
    outside = λ k l. (ring_use _ _ (pieces_at (ring_at base total) k total l)).1;
    met = λ x y h. elim (dec_le 1 (ring_side base total x y)) [
      | yes l ↦ let w = piece (ring_at base total) x y total l in inl (w.k, w.below, w.start, w.end)
      | no l ↦ inr (omega (arith, fills_turned d x y, d.once x y, d.once y x))
    ];
  }
