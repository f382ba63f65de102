-- The search for a triangle by its sides. Assumes nothing.
use Rattle.std.specs.Prelude.{ℕ, suc, ◌/◌, ◌≤◌, ◌<◌, ◌≡◌, Bool, false, ◌&&◌, List}
use Rattle.strip.specs.declared.triangle.Triangle.{Triangle}
use Rattle.check_searches.specs.First.{some_below}
use Rattle.check_searches.specs.Triangles.{triangle_at}
use Rattle.check_side_searches.specs.Same.{same_triangle}
use Rattle.half_edge_chains.specs.Sides.{side_start, is_side}

-- whether one of the first n triangles is t, up to rotation
abbrev pub some_face : List Triangle → Triangle → ℕ → Bool
some_face ts t n = some_below (λ i. same_triangle (triangle_at ts i) t) n

-- whether side m is the first side of t, and its triangle is t up to rotation
unfoldable pub hits : List Triangle → Triangle → ℕ → Bool
hits ts t m = is_side ts t.a t.b m && same_triangle (triangle_at ts (m / 3)) t

-- a search for t along the chain of its first corner: no side from number k up to n matches, and side k - 1 is the next to test
pub record TriangleSought (ts : List Triangle) (t : Triangle) (n k : ℕ) : Type 0 where
  pub most : k ≤ n
  pub here : (j : ℕ) → k ≡ suc j → side_start ts j ≡ t.a
  pub passed : (m : ℕ) → k ≤ m → m < n → hits ts t m ≡ false
