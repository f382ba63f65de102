-- The rings of a triangle patch: how many points they have, how deep these lie, and that they are distinct. Assumes nothing.
use Prim.Native.Nat.{ℕ, zero, suc, ◌*◌, ◌≤◌, ◌<◌}
use mathlib.Core.Path.{◌≡◌, refl, ap, sym}
use mathlib.Core.List.{List, [], ◌∷◌, ◌++◌, append-nil}
use native.Mathlib.Omega.{arith}
use lib.ListN.{length, length-append}
use Rattle.mesh_topology.specs.Nest.{Edges, nest_vertices}
use Rattle.mesh_topology.proofs.Nest.{edges}
use Rattle.mesh_geometry.specs.declared.Point.{Point}
use Rattle.mesh_geometry.specs.Edge.{Run, ring}
use Rattle.mesh_geometry.specs.TrianglePoints.{triangle_place, centre, alike, rings}
use Rattle.mesh_geometry.proofs.Lists.{All, none, more, all_append, all_more, Distinct, distinct_append}
use Rattle.mesh_geometry.proofs.Edge.{Span}
use Rattle.mesh_geometry.proofs.Ring.{ring_length, ring_all, ring_distinct}
use Rattle.mesh_geometry.proofs.Inside.{Inside, inside_spans, inside_in}
use Rattle.mesh_geometry.proofs.TrianglePlace.{triangle, least, least_is}

pub rings_length : (n : ℕ) (e0 e1 e2 : Run) (d : ℕ) (q : ℕ → ℕ) → Edges e0.c e1.c e2.c n
    → length (rings (e0 ∷ e1 ∷ e2 ∷ []) d q n) ≡ nest_vertices e0.c e1.c e2.c n
unfolding rings nest_vertices
rings_length zero e0 e1 e2 d q e = refl
rings_length (suc zero) e0 e1 e2 d q e = omega (arith, ring_length triangle_place 0 (e0 ∷ e1 ∷ e2 ∷ []) d)
rings_length (suc (suc r)) e0 e1 e2 d q e =
    let h = edges r in
    simp (length-append, ring_length, rings_length r) (omega arith)

ring_least : (es : List Run) (d : ℕ) → All (Span d) es → All (λ p. least p ≡ 2 * d) (ring triangle_place 0 es d)
ring_least es d ss = ring_all triangle _ d (λ k x h l. least_is k x d (h, l)) 0 es ss

rings_least : (n : ℕ) (es : List Run) (d : ℕ) (q : ℕ → ℕ) → Inside q n → q 0 ≡ d → All (Span d) es
    → All (λ p. 2 * d ≤ least p) (rings es d q n)
unfolding rings
rings_least zero es d q v t ss = more {x = centre} (omega (arith, v.mirrors 0 0 (omega arith))) none
rings_least (suc zero) es d q v t ss = all_more (λ p h. omega arith) (ring_least es d ss)
rings_least (suc (suc r)) es d q v t ss =
    let w = inside_in v in
    all_append _ (all_more (λ p h. omega arith) (ring_least es d ss))
    (all_more (λ p h. omega (arith, v.rises 0 (omega arith))) (rings_least r _ (q 1) (λ i. q (suc i)) w refl (inside_spans w)))

rings_distinct : (n : ℕ) (es : List Run) (d : ℕ) (q : ℕ → ℕ) → length es ≤ 3 → Inside q n → q 0 ≡ d → All (Span d) es
    → Distinct (rings es d q n)
unfolding rings
rings_distinct zero es d q l v t ss = more none none
rings_distinct (suc zero) es d q l v t ss = ring_distinct triangle 0 es d (omega arith) ss
rings_distinct (suc (suc r)) es d q l v t ss =
    let w = inside_in v in
    distinct_append (λ p. least p ≡ 2 * d) (λ p. 2 * q 1 ≤ least p) _ (λ x y a b e. omega (arith, ap least e, v.rises 0 (omega arith)))
    (ring_least es d ss) (rings_least r _ (q 1) (λ i. q (suc i)) w refl (inside_spans w)) (ring_distinct triangle 0 es d (omega arith) ss)
    (rings_distinct r _ (q 1) (λ i. q (suc i)) (omega arith) w refl (inside_spans w))

-- the ring's points come first; the others lie deeper and are distinct
pub record Front (es : List Run) (d : ℕ) (l : List Point) : Type 0 where
  pub rest : List Point
  pub is : l ≡ ring triangle_place 0 es d ++ rest
  pub deep : All (λ p. 2 * d < least p) rest
  pub distinct : Distinct rest

pub rings_front : (n : ℕ) (es : List Run) (d : ℕ) (q : ℕ → ℕ) → Inside q n → q 0 ≡ d → 1 ≤ n → Front es d (rings es d q n)
unfolding rings
rings_front zero es d q v t h = absurd (omega arith)
rings_front (suc zero) es d q v t h = record { rest = []; is = sym (append-nil (ring triangle_place 0 es d)); deep = none; distinct = none }
rings_front (suc (suc r)) es d q v t h =
    let w = inside_in v in record {
      rest = rings (alike (λ i. q (suc i)) r) (q 1) (λ i. q (suc i)) r;
      is = refl;
      deep = all_more (λ p k. omega (arith, v.rises 0 (omega arith))) (rings_least r _ (q 1) (λ i. q (suc i)) w refl (inside_spans w));
      distinct = rings_distinct r _ (q 1) (λ i. q (suc i)) (omega arith) w refl (inside_spans w);
    }
