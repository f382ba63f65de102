-- The number of points and triangles inside a triangle patch: the sums over its rings in closed form. Assumes nothing.
use Prim.Native.Nat.{ℕ, zero, suc, ◌+◌, ◌-◌, ◌*◌, ◌%◌, ◌≤◌}
use mathlib.Core.Path.{◌≡◌, refl}
use native.Mathlib.Omega.{arith}
use Rattle.mesh_topology.specs.Nest.{nest_vertices, count}
use Rattle.patch_mesh.specs.Counts.{inside_points, inside_triangles}

-- the rings from one with r segments per edge inwards
rings_points : (r : ℕ) → 4 * nest_vertices r r r r + r % 2 ≡ 3 * (r * r) + 6 * r + 4
unfolding nest_vertices
rings_points zero = refl
rings_points (suc zero) = refl
rings_points (suc (suc r)) =
    let e : suc (suc r) % 2 ≡ r % 2 = omega arith in
    omega (arith, rings_points r)

rings_triangles : (r : ℕ) → 2 * count r r r r + r % 2 ≡ 3 * (r * r)
unfolding count
rings_triangles zero = refl
rings_triangles (suc zero) = refl
rings_triangles (suc (suc r)) = omega (arith, rings_triangles r)

module _ (c0 c1 c2 : ℕ) where
  pub nest_points : (n : ℕ) → 2 ≤ n → nest_vertices c0 c1 c2 n ≡ c0 + c1 + c2 + inside_points n
  unfolding nest_vertices
  nest_points zero h = absurd (omega arith)
  nest_points (suc zero) h = absurd (omega arith)
  nest_points (suc (suc r)) h =
      let e : suc (suc r) - 1 ≡ r + 1 = omega arith in
      rw e (omega (arith, rings_points r))

  pub nest_triangles : (n : ℕ) → 2 ≤ n → count c0 c1 c2 n ≡ c0 + c1 + c2 + inside_triangles n
  unfolding count
  nest_triangles zero h = absurd (omega arith)
  nest_triangles (suc zero) h = absurd (omega arith)
  nest_triangles (suc (suc r)) h =
      let e : suc (suc r) - 2 ≡ r = omega arith in
      rw e (omega (arith, rings_triangles r))
