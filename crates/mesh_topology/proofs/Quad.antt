-- A quad patch's band and grid fill its outline. Assumes nothing.
use Prim.Native.Nat.{ℕ, suc, ◌+◌, ◌*◌, ◌-◌, ◌≤◌, ◌<◌}
use mathlib.Core.Path.{◌≡◌, refl, ap₂}
use mathlib.Core.List.{[], ◌∷◌, ◌++◌}
use native.Mathlib.Omega.{arith}
use native.Mathlib.Nat.{add_assoc}
use Rattle.mesh_topology.specs.Ring.{ring_at, ring_sum}
use Rattle.mesh_topology.specs.Band.{Edge, band}
use Rattle.mesh_topology.specs.Quad.{grid_at, cells, grid_edges, quad, quad_points}
use Rattle.mesh_topology.specs.Closes.{Closes, Stokes}
use Rattle.mesh_topology.proofs.Ring.{ring_closed, ring_in}
use Rattle.mesh_topology.proofs.Band.{Sound, Meets, Loop}
use Rattle.mesh_topology.proofs.Fills.{Fills}
use Rattle.mesh_topology.proofs.Glue.{glue}
use Rattle.mesh_topology.proofs.Mesh.{closes}
use Rattle.mesh_topology.proofs.Grid.{grid_same, grid_in, grid_fills}

-- a path of n segments over the rows 0 to a and the columns 0 to b
record Trail (a b : ℕ) : Type 0 where
  n : ℕ
  row : ℕ → ℕ
  column : ℕ → ℕ
  on : (k : ℕ) → k ≤ n → (row k ≤ a) × (column k ≤ b)

-- the path visits no vertex twice
record Straight {a b : ℕ} (w : Trail a b) : Type 0 where
  apart : (j k : ℕ) → j ≤ k → k ≤ w.n → w.row j ≡ w.row k → w.column j ≡ w.column k → j ≡ k

-- the path w starts where v ends, and they have no other vertex in common
record Turns {a b : ℕ} (v w : Trail a b) : Type 0 where
  row : v.row v.n ≡ w.row 0
  column : v.column v.n ≡ w.column 0
  only : (j k : ℕ) → j ≤ v.n → k ≤ w.n → v.row j ≡ w.row k → v.column j ≡ w.column k → (j ≡ v.n) × (k ≡ 0)

module _ (a b : ℕ) where
  abbrev down : Trail a b
  down = record { n = a; row = λ k. a - k; column = λ k. 0; on = λ k h. omega arith }

  abbrev along : Trail a b
  along = record { n = b; row = λ k. 0; column = λ k. k; on = λ k h. omega arith }

  abbrev up : Trail a b
  up = record { n = a; row = λ k. k; column = λ k. b; on = λ k h. omega arith }

  abbrev back : Trail a b
  back = record { n = b; row = λ k. a; column = λ k. b - k; on = λ k h. omega arith }

  module _ (start : ℕ) where
    abbrev edge : ℕ → Trail a b → Edge
    edge p w = record { p = p; r = w.n; line = λ k. grid_at start (suc b) (w.row k) (w.column k) }

    sound : (m p : ℕ) (w : Trail a b) → 1 ≤ p → p < m → Straight w → Sound m start (start + suc a * suc b) (edge p w)
    sound m p w h l s = record {
      some = h;
      part = l;
      inside = λ k u. grid_in start b a _ _ (w.on k u).0 (w.on k u).1;
      apart = λ j k u v e. let g = grid_same start b _ _ _ _ (w.on j (omega arith)).1 (w.on k v).1 e in s.apart j k u v g.0 g.1;
    }

    meets : (p q : ℕ) (v w : Trail a b) → Turns v w → Meets (edge p v) (edge q w)
    meets p q v w t = record {
      joint = ap₂ (grid_at start (suc b)) t.row t.column;
      only = λ j k u l e. let g = grid_same start b _ _ _ _ (v.on j u).1 (w.on k l).1 e in t.only j k u l g.0 g.1;
    }

module _ (base c0 c1 c2 c3 a b m : ℕ) (em : c0 + c1 + c2 + c3 ≡ m) (h0 : 1 ≤ c0) (h1 : 1 ≤ c1) (h2 : 1 ≤ c2) (h3 : 1 ≤ c3) where
  loop : Loop (ring_at base m) m (base + m) (base + m + suc a * suc b) (edge a b (base + m) c0 (down a b))
      (edge a b (base + m) c1 (along a b) ∷ edge a b (base + m) c2 (up a b) ∷ edge a b (base + m) c3 (back a b) ∷ [])
  loop = record {
    closed = ring_closed base m;
    big = omega arith;
    whole = omega arith;
    first = sound a b (base + m) m c0 (down a b) h0 (omega arith) (omega arith);
    chain = (
      sound a b (base + m) m c1 (along a b) h1 (omega arith) (omega arith),
      meets a b (base + m) c0 c1 (down a b) (along a b) (omega arith),
      (
        sound a b (base + m) m c2 (up a b) h2 (omega arith) (omega arith),
        meets a b (base + m) c1 c2 (along a b) (up a b) (omega arith),
        (
          sound a b (base + m) m c3 (back a b) h3 (omega arith) (omega arith),
          meets a b (base + m) c2 c3 (up a b) (back a b) (omega arith),
          meets a b (base + m) c3 c0 (back a b) (down a b) (omega arith),
        ),
      ),
    );
  }

  surround : Fills base (base + m + suc a * suc b) (λ f. ring_sum f base m)
      (band (ring_at base m) (grid_edges (grid_at (base + m) (suc b)) a b c0 c1 c2 c3) ++ cells (grid_at (base + m) (suc b)) a b)
  surround =
      glue (ring_at base m) m base (base + m) (base + m + suc a * suc b) _ _ loop (λ i h. omega (arith, ring_in base m i h)) _
      (grid_fills (base + m) b a c0 c1 c2 c3)

-- with m by n inner segments
module _ (base c0 c1 c2 c3 m n : ℕ) (h0 : 1 ≤ c0) (h1 : 1 ≤ c1) (h2 : 1 ≤ c2) (h3 : 1 ≤ c3) (hm : 2 ≤ m) (hn : 2 ≤ n) where
  quad_fills : Fills base (base + quad_points c0 c1 c2 c3 m n) (λ f. ring_sum f base (c0 + c1 + c2 + c3)) (quad base c0 c1 c2 c3 m n)
  unfolding quad
  quad_fills =
      let r : m - 1 ≡ suc (m - 2) = omega arith in
      let c : n - 1 ≡ suc (n - 2) = omega arith in
      rw (r, c, ← (add_assoc base (c0 + c1 + c2 + c3) (suc (m - 2) * suc (n - 2))))
      (surround base c0 c1 c2 c3 (m - 2) (n - 2) (c0 + c1 + c2 + c3) refl h0 h1 h2 h3)

  pub quad_closes : Closes base (base + quad_points c0 c1 c2 c3 m n) (c0 + c1 + c2 + c3) (quad base c0 c1 c2 c3 m n)
  quad_closes = closes _ _ _ _ (λ h. omega arith) quad_fills

  pub quad_stokes : Stokes base (c0 + c1 + c2 + c3) (quad base c0 c1 c2 c3 m n)
  quad_stokes = quad_fills.even
