-- The places inside a triangle patch, ring by ring. Assumes nothing.
use Prim.Native.Nat.{ℕ, suc, ◌+◌, ◌-◌, ◌<◌}
use mathlib.Core.Path.{◌≡◌, refl}
use native.Mathlib.Omega.{arith}
use Rattle.mesh_geometry.specs.Edge.{GoodPlaces}
use Rattle.mesh_geometry.specs.TrianglePoints.{alike}
use Rattle.mesh_geometry.proofs.Lists.{All, none, more}
use Rattle.mesh_geometry.proofs.Edge.{Span}

-- the places of an inner level of n segments; those from i on belong to ring i
pub record Inside (q : ℕ → ℕ) (n : ℕ) : Type 0 where
  pub rises : (i : ℕ) → i < n → q i < q (suc i)
  pub mirrors : (i j : ℕ) → i + j ≡ n → q i + q j ≡ 65536

pub inside_spans : {q : ℕ → ℕ} {n : ℕ} → Inside q n → All (Span (q 0)) (alike q n)
inside_spans {q} {n} v = more span (more span (more span none))
  where
    span : Span (q 0) (record { q = q; c = n })
    span = record { low = refl; high = v.mirrors n 0 (omega arith); rises = v.rises }

pub inside_in : {q : ℕ → ℕ} {r : ℕ} → Inside q (suc (suc r)) → Inside (λ i. q (suc i)) r
inside_in v = record {
  rises = λ i l. v.rises (suc i) (omega arith);
  mirrors = λ i j e. v.mirrors (suc i) (suc j) (omega arith);
}

pub good_inside : {q : ℕ → ℕ} {n : ℕ} → GoodPlaces q n → Inside q n
good_inside {q} {n} g = record {
  rises = g.rises;
  mirrors = λ i j e. let l : j ≡ n - i = omega arith in rw l (g.mirrors i (omega arith));
}
