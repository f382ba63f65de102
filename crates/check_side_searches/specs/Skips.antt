-- What parts of a search establish: which triangles were skipped and which were tested. Assumes nothing.
use Rattle.std.specs.Prelude.{ℕ, ◌≤◌, ◌<◌, ◌≡◌, Bool, true, false, List, length}
use Rattle.strip.specs.declared.triangle.Triangle.{Triangle}
use Rattle.check_searches.specs.Triangles.{triangle_at, has_corner, has_side, reuses}

-- neither x nor y is a corner of the triangle
pub record Without (t : Triangle) (x y : ℕ) : Type 0 where
  pub x_no : has_corner t x ≡ false
  pub y_no : has_corner t y ≡ false

-- the triangles from number `from` up to r, which is at most `to`, were skipped: none has the corner x or y
pub record Skips (ts : List Triangle) (from to x y r : ℕ) : Type 0 where
  pub least : from ≤ r
  pub most : r ≤ to
  pub none : (i : ℕ) → from ≤ i → i < r → Without (triangle_at ts i) x y

-- none of the first n triangles has a directed side in common with an earlier triangle
pub record NewTo (ts : List Triangle) (n : ℕ) : Type 0 where
  pub each : (j : ℕ) → j < n → reuses ts j ≡ false

-- the answer r of a search for x→y: if true, one of the triangles has this side; if false, no triangle from number `from` up
-- to, not including, `to` has it
pub record Sided (ts : List Triangle) (from to x y : ℕ) (r : Bool) : Type 0 where
  pub yes : r ≡ true → (i : ℕ) × (i < length ts) × (has_side (triangle_at ts i) x y ≡ true)
  pub no : r ≡ false → (i : ℕ) → from ≤ i → i < to → has_side (triangle_at ts i) x y ≡ false
