-- A table of points as binary trees, one tree per slot: the path of a point through it, and what the table holds. Assumes nothing.
use Rattle.std.specs.Prelude.{ℕ, zero, suc, ◌+◌, ◌*◌, ◌-◌, ◌/◌, ◌%◌, ◌≤◌, ◌<◌, ◌≡◌, true, false, List, length, get_or}
use Rattle.mesh_geometry.specs.declared.Point.{Point}
use Rattle.mesh_geometry.specs.Faces.{at}
use Rattle.check_searches.specs.Points.{same_point}

-- the slot of a point in a table of n slots; few points of a tessellated patch have the same slot
unfoldable pub slot_of : ℕ → Point → ℕ
slot_of n p = (p.u + 65 * p.v + 4225 * p.w) % n

-- the coordinates after one step: the lowest bit of the first is dropped, and the first becomes the last
abbrev pub path_step : Point → Point
path_step p = record { u = p.v; v = p.w; w = p.u / 2 }

-- the coordinates after d steps
unfoldable pub rest_after : Point → ℕ → Point
rest_after p zero = p
rest_after p (suc d) = path_step (rest_after p d)

-- the place that follows place x, which holds k, for a point whose next bit is b; x itself if it is empty (k = 0)
abbrev pub next_place : ℕ → ℕ → ℕ → ℕ → ℕ
next_place slots x zero b = x
next_place slots x (suc k) b = slots + 2 * k + b

-- the place of p after d steps
unfoldable pub place_at : List ℕ → ℕ → Point → ℕ → ℕ
place_at t slots p zero = slot_of slots p
place_at t slots p (suc d) = next_place slots (place_at t slots p d) (get_or t (place_at t slots p d) 0) ((rest_after p d).u % 2)

-- x is a place on the path of p, and no place before it is empty
pub data Way (t : List ℕ) (slots : ℕ) (p : Point) (x : ℕ) : Type 0 where
  steps : (d : ℕ) → x ≡ place_at t slots p d → ((e : ℕ) → e < d → 0 < get_or t (place_at t slots p e) 0) → Way t slots p x

-- a place on the path of p holds k
pub data PathHolds (t : List ℕ) (slots : ℕ) (p : Point) (k : ℕ) : Type 0 where
  held : (x : ℕ) → Way t slots p x → get_or t x 0 ≡ k → PathHolds t slots p k

-- the table holds the first n points
pub record PointTable (ps : List Point) (slots n : ℕ) (t : List ℕ) : Type 0 where
  pub room : slots + 2 * n ≤ length t
  pub most : (x : ℕ) → get_or t x 0 ≤ n
  pub down : (x : ℕ) → 0 < get_or t x 0 → x + 2 < slots + 2 * get_or t x 0
  pub there : (i : ℕ) → i < n → PathHolds t slots (at ps i) (suc i)

-- x is the place of a point equal to p, or, if none of the first n points equals p, the empty place for it
pub record PointSought (ps : List Point) (slots n : ℕ) (t : List ℕ) (p : Point) (x : ℕ) : Type 0 where
  pub place : x < slots + 2 * n
  pub found : 0 < get_or t x 0 → same_point (at ps (get_or t x 0 - 1)) p ≡ true
  pub none : get_or t x 0 ≡ 0 → (i : ℕ) → i < n → same_point (at ps i) p ≡ false
  pub way : Way t slots p x
