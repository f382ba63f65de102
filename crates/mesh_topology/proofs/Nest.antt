-- The nested rings of a triangle patch fill its outline. Assumes nothing.
use Prim.Native.Nat.{ℕ, zero, suc, ◌+◌, ◌*◌, ◌≤◌, ◌<◌, max}
use mathlib.Core.Path.{◌≡◌, refl, ap, ◌∙◌, fun_ext}
use mathlib.Core.Logic.{⊎_elim}
use mathlib.Core.List.{List, [], ◌∷◌, ◌++◌}
use native.Mathlib.Omega.{arith}
use native.Mathlib.Nat.{add-zero, add_assoc, mul-le-mul_right}
use Rattle.strip.specs.declared.triangle.Triangle.{Triangle}
use Rattle.mesh_topology.specs.Sides.{hit, flip, sum_sides, sum, line_sum}
use Rattle.mesh_topology.specs.Ring.{ring_at, ring_sum}
use Rattle.mesh_topology.specs.Band.{from, band}
use Rattle.mesh_topology.specs.Nest.{ring_edge, ring_edges, Edges, nest_vertices, nest}
use Rattle.mesh_topology.specs.Closes.{Closes, Stokes}
use Rattle.mesh_topology.proofs.Line.{line_from, line_once, line_in}
use Rattle.mesh_topology.proofs.Ring.{ring_closed, ring_in}
use Rattle.mesh_topology.proofs.Band.{Sound, Meets, inner_sum}
use Rattle.mesh_topology.proofs.Fills.{Fills}
use Rattle.mesh_topology.proofs.Glue.{glue}
use Rattle.mesh_topology.proofs.Mesh.{closes}

-- the edges around a ring
module _ (inner r : ℕ) where
  module _ (m top : ℕ) (room : inner + max 1 (3 * r) ≤ top) where
    sound : (k p : ℕ) → k ≤ 2 → 1 ≤ p → p < m → Sound m inner top (ring_edge inner r k p)
    sound k p h u v =
        let kr = mul-le-mul_right r h in
        record {
          some = u;
          part = v;
          inside = λ j l. omega (arith, ring_in inner (3 * r) (k * r + j) (omega arith));
          apart = λ i j s t e. ⊎_elim (λ g. omega arith) (λ g. omega arith)
              ((ring_closed inner (3 * r)).same (k * r + i) (k * r + j) (omega arith) (omega arith) e);
        }

  next : (k p p' : ℕ) → k ≤ 1 → Meets (ring_edge inner r k p) (ring_edge inner r (suc k) p')
  next k p p' h =
      let kr = mul-le-mul_right r h in
      record {
        joint = ap (ring_at inner (3 * r)) (omega arith);
        only = λ i j s t e. ⊎_elim (λ g. omega arith) (λ g. omega arith)
            ((ring_closed inner (3 * r)).same (k * r + i) (suc k * r + j) (omega arith) (omega arith) e);
      }

  round : (p p' : ℕ) → Meets (ring_edge inner r 2 p) (ring_edge inner r 0 p')
  round p p' =
      let c = ring_closed inner (3 * r) in
      record {
        joint = ap (ring_at inner (3 * r)) (omega arith) ∙ (c.close ∙ ap (ring_at inner (3 * r)) (omega arith));
        only = λ i j s t e. ⊎_elim (λ g. omega arith) (λ g. omega arith) (c.same (0 * r + j) (2 * r + i) (omega arith) (omega arith) (cc));
      }

  -- the three inner lines together are the ring
  inner_ring : (f : ℕ → ℕ → ℕ) (c0 c1 c2 : ℕ) → ring_sum f inner (3 * r) ≡ inner_sum f (ring_edges inner r c0 c1 c2)
  unfolding inner_sum sum
  inner_ring f c0 c1 c2 =
      let z : 0 * r ≡ 0 = omega arith in
      omega (arith, upto 0, upto 1, upto 2, ap (line_sum f (ring_at inner (3 * r))) z)
    where
      upto : (k : ℕ) → line_sum f (ring_at inner (3 * r)) (suc k * r)
          ≡ line_sum f (ring_at inner (3 * r)) (k * r) + line_sum f (from (k * r) (ring_at inner (3 * r))) r
      upto k = let e : suc k * r ≡ k * r + r = omega arith in rw e (line_from f (ring_at inner (3 * r)) (k * r) r)

-- one ring's band, and triangles that fill the ring inside
wrap : (base c0 c1 c2 r m top : ℕ) (ts : List Triangle) → c0 + c1 + c2 ≡ m → 1 ≤ c0 → 1 ≤ c1 → 1 ≤ c2 → base + m + max 1 (3 * r) ≤ top
    → Fills (base + m) top (λ f. ring_sum f (base + m) (3 * r)) ts
    → Fills base top (λ f. ring_sum f base m) (band (ring_at base m) (ring_edges (base + m) r c0 c1 c2) ++ ts)
wrap base c0 c1 c2 r m top ts em h0 h1 h2 room d =
    glue (ring_at base m) m base (base + m) top _ _
    (record {
      closed = ring_closed base m;
      big = omega arith;
      whole = omega arith;
      first = edge 0 c0 (omega arith) h0 (omega arith);
      chain = (
        edge 1 c1 (omega arith) h1 (omega arith),
        next (base + m) r 0 c0 c1 (omega arith),
        (edge 2 c2 (omega arith) h2 (omega arith), next (base + m) r 1 c1 c2 (omega arith), round (base + m) r c2 c0),
      );
    })
    (λ i h. omega (arith, ring_in base m i h)) ts
    (rw (fun_ext (λ f. inner_ring (base + m) r f c0 c1 c2)) at d)
  where
    edge : (k p : ℕ) → k ≤ 2 → 1 ≤ p → p < m → Sound m (base + m) top (ring_edge (base + m) r k p)
    edge = sound (base + m) r m top room

-- the innermost ring: no triangle, or one
fills_none : (base top : ℕ) → Fills base top (λ f. ring_sum f base 0) []
unfolding sum_sides sum
fills_none base top = record { even = λ f. refl; once = λ x y. omega arith; within = λ x y h. absurd (omega arith) }

one_ring : (base : ℕ) (f : ℕ → ℕ → ℕ) → sum_sides f (record { a = base; b = base + 1; c = base + 2 } ∷ []) ≡ ring_sum f base 3
unfolding sum_sides sum ring_at
one_ring base f = simp add-zero (omega arith)

fills_one : (base : ℕ) → Fills base (base + 3) (λ f. ring_sum f base 3) (record { a = base; b = base + 1; c = base + 2 } ∷ [])
fills_one base = record {
  even = λ f. omega (arith, one_ring base f, one_ring base (flip f));
  once = λ x y. omega (arith, one_ring base (hit x y), line_once (ring_at base 3) x y 3 (λ h. omega arith) (ring_closed base 3));
  within = λ x y h. omega (arith, line_in (ring_at base 3) 3 base (base + 3) (ring_in base 3) x y (omega (arith, one_ring base (hit x y))));
}

pub edges : (r : ℕ) → Edges r r r r
edges zero = omega arith
edges (suc zero) = omega arith
edges (suc (suc r)) = omega arith

room : (n c0 c1 c2 : ℕ) → Edges c0 c1 c2 n → max 1 (c0 + c1 + c2) ≤ nest_vertices c0 c1 c2 n
unfolding nest_vertices
room zero c0 c1 c2 e = omega arith
room (suc zero) c0 c1 c2 e = omega arith
room (suc (suc r)) c0 c1 c2 e = omega arith

nest_fills : (n base c0 c1 c2 : ℕ) → Edges c0 c1 c2 n
    → Fills base (base + nest_vertices c0 c1 c2 n) (λ f. ring_sum f base (c0 + c1 + c2)) (nest base c0 c1 c2 n)
unfolding nest nest_vertices
nest_fills zero base c0 c1 c2 e = let s : c0 + c1 + c2 ≡ 0 = omega arith in rw s (fills_none base (base + 1))
nest_fills (suc zero) base c0 c1 c2 e = let s : c0 + c1 + c2 ≡ 3 = omega arith in rw s (fills_one base)
nest_fills (suc (suc r)) base c0 c1 c2 e =
    let s : r + r + r ≡ 3 * r = omega arith in
    let d = rw s at (nest_fills r (base + (c0 + c1 + c2)) r r r (edges r)) in
    wrap base c0 c1 c2 r _ _ _ refl e.0 e.1 e.2 (omega (arith, room r r r r (edges r)))
    (rw (add_assoc base (c0 + c1 + c2) (nest_vertices r r r r)) at d)

big : (n c0 c1 c2 : ℕ) → Edges c0 c1 c2 n → 1 ≤ c0 + c1 + c2 → 3 ≤ c0 + c1 + c2
big zero c0 c1 c2 e h = omega arith
big (suc zero) c0 c1 c2 e h = omega arith
big (suc (suc r)) c0 c1 c2 e h = omega arith

module _ (n base c0 c1 c2 : ℕ) (e : Edges c0 c1 c2 n) where
  pub nest_closes : Closes base (base + nest_vertices c0 c1 c2 n) (c0 + c1 + c2) (nest base c0 c1 c2 n)
  nest_closes = closes _ _ _ _ (big n c0 c1 c2 e) (nest_fills n base c0 c1 c2 e)

  pub nest_stokes : Stokes base (c0 + c1 + c2) (nest base c0 c1 c2 n)
  nest_stokes = (nest_fills n base c0 c1 c2 e).even
