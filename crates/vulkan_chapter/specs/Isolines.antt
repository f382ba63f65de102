-- 23.8, Isoline Tessellation, and 23.9, Tessellation Point Mode.
-- Assumes nothing.
use Rattle.std.specs.Prelude.{ℕ, suc, ◌*◌, ◌≤◌, ◌<◌, ◌≡◌, List, ◌⊎◌, length, get_or}
use Rattle.mesh_geometry.specs.declared.Point.{Point}
use Rattle.mesh_geometry.specs.Cover.{AllDistinct}
use Rattle.mesh_geometry.specs.Faces.{at}
use Rattle.mesh_geometry.specs.Edge.{Run}
use Rattle.vulkan_chapter.specs.Members.{Member}
use Rattle.vulkan_chapter.specs.Between.{NumberedLine}

-- ---- isolines. `line r` is isoline r
-- vertex v lies on an isoline
pub record OnLine (m : ℕ) (line : ℕ → NumberedLine) (v : ℕ) : Type 0 where
  pub r : ℕ
  pub i : ℕ
  pub below : r < m
  pub along : i ≤ (line r).segments
  pub is : (line r).vertex i ≡ v

-- the vertices ps: `lines` divides the edge u = 0, and at each of its places except the last, v = 1, lies an isoline, divided as `along`
pub record LineVertices (line : ℕ → NumberedLine) (lines along : Run) (ps : List Point) : Type 0 where
  pub segments : (r : ℕ) → r < lines.c → (line r).segments ≡ along.c
  pub height : (r i : ℕ) → r < lines.c → i ≤ along.c → (at ps ((line r).vertex i)).v ≡ lines.q r
  pub across : (r i : ℕ) → r < lines.c → i ≤ along.c → (at ps ((line r).vertex i)).u ≡ along.q i
  pub no_other : (v : ℕ) → v < length ps → OnLine lines.c line v

-- words 2 k and 2 k + 1 are the ends of a segment from x to y, in either order
pub record SegmentDrawn (x y : ℕ) (ws : List ℕ) : Type 0 where
  pub k : ℕ
  pub within : suc (2 * k) < length ws
  pub ends : ((get_or ws (2 * k) 0 ≡ x) × (get_or ws (suc (2 * k)) 0 ≡ y)) ⊎ ((get_or ws (2 * k) 0 ≡ y) × (get_or ws (suc (2 * k)) 0 ≡ x))

-- every segment of m isolines with n segments each is drawn, and there are as many words as that takes
pub record LineSegments (line : ℕ → NumberedLine) (m n : ℕ) (ws : List ℕ) : Type 0 where
  pub count : length ws ≡ 2 * (m * n)
  pub each : (r i : ℕ) → r < m → i < n → SegmentDrawn ((line r).vertex i) ((line r).vertex (suc i)) ws

-- ---- point mode
-- one word for each vertex, and no two vertices are equal
pub record EachOnce (ps : List Point) (ws : List ℕ) : Type 0 where
  pub count : length ws ≡ length ps
  pub each : (v : ℕ) → v < length ps → Member v ws
  pub distinct : AllDistinct ps
