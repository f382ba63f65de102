-- 23.7, Quad Tessellation: the grid of rectangles, and the triangles between it and the outer edges.
-- A coordinate 1 is 65536 units here.
-- Assumes nothing.
use Rattle.std.specs.Prelude.{ℕ, zero, suc, ◌+◌, ◌-◌, ◌≤◌, ◌<◌, ◌≡◌, List, [], ◌∷◌, length}
use Rattle.strip.specs.declared.triangle.Triangle.{Triangle}
use Rattle.strip.specs.Mirror.{SameCorners}
use Rattle.mesh_geometry.specs.declared.Point.{Point}
use Rattle.mesh_geometry.specs.Domain.{square}
use Rattle.mesh_geometry.specs.Edge.{Run}
use Rattle.mesh_geometry.specs.Faces.{at}
use Rattle.mesh_geometry.specs.OnEdge.{OnEdge}
use Rattle.vulkan_chapter.specs.Members.{Member}
use Rattle.vulkan_chapter.specs.Between.{NumberedLine, Joins, BandFilled}

-- ---- where the vertices lie. `side k` is edge k of the patch; `grid r c` is the vertex where horizontal line r meets vertical line c,
-- both counted from 1, with no line on an edge of the patch
-- the lines join opposite edges: the first inner level divides the edges u = 0 and u = 1 into m segments at the places x, the second one
-- the edges v = 0 and v = 1 into n at the places y; P gives each vertex by its number
pub record OnLines (m n : ℕ) (x y : ℕ → ℕ) (grid : ℕ → ℕ → ℕ) (P : ℕ → Point) : Type 0 where
  pub horizontal : (r c : ℕ) → 1 ≤ r → r < m → 1 ≤ c → c < n → (P (grid r c)).v ≡ x r
  pub vertical : (r c : ℕ) → 1 ≤ r → r < m → 1 ≤ c → c < n → (P (grid r c)).u ≡ y c

-- vertex v lies on an outer edge, or where two lines meet
pub data OnEdgeOrGrid (m n : ℕ) (side : ℕ → NumberedLine) (grid : ℕ → ℕ → ℕ) (v : ℕ) : Type 0 where
  on_edge : (k i : ℕ) → k < 4 → i ≤ (side k).segments → (side k).vertex i ≡ v → OnEdgeOrGrid m n side grid v
  on_grid : (r c : ℕ) → 1 ≤ r → r < m → 1 ≤ c → c < n → grid r c ≡ v → OnEdgeOrGrid m n side grid v

-- every level gives one segment, also each inner level before it is raised
abbrev pub AllOne4 : (ℕ → Run) → Run → Run → Type 0
AllOne4 e own0 own1 = ((k : ℕ) → k < 4 → (e k).c ≡ 1) × (own0.c ≡ 1) × (own1.c ≡ 1)

-- the vertices ps of a patch with the outer edges e 0 to e 3; the inner levels give own0 and own1 before they are raised, and `rows` and
-- `columns` after that
pub record QuadVertices (side : ℕ → NumberedLine) (grid : ℕ → ℕ → ℕ) (e : ℕ → Run) (own0 own1 rows columns : Run) (ps : List Point) : Type 0 where
  -- the outer edges are divided by their own levels
  pub outer_segments_lem : (k : ℕ) → k < 4 → (side k).segments ≡ (e k).c
  pub outer : (k i : ℕ) → k < 4 → i ≤ (e k).c → OnEdge square k ((e k).q i) (at ps ((side k).vertex i))
  -- if every level gives one segment, the four corners are all vertices
  pub single : AllOne4 e own0 own1 → length ps ≡ 4
  -- else there is the inner grid too, and no other vertex
  pub lines : (AllOne4 e own0 own1 → ⊥) → OnLines rows.c columns.c rows.q columns.q grid (at ps)
  pub no_other : (AllOne4 e own0 own1 → ⊥) → (v : ℕ) → v < length ps → OnEdgeOrGrid rows.c columns.c side grid v

-- ---- the triangles between them
-- a diagonal cuts the rectangle with the corners x, y, z and w, in turn, into the triangles s and t. The chapter leaves open which diagonal
pub data Halves (x y z w : ℕ) (s t : Triangle) : Type 0 where
  along_xz : SameCorners s (record { a = x; b = y; c = z }) → SameCorners t (record { a = x; b = z; c = w }) → Halves x y z w s t
  along_yw : SameCorners s (record { a = x; b = y; c = w }) → SameCorners t (record { a = y; b = z; c = w }) → Halves x y z w s t

-- the same for the rectangle between the lines r and r + 1 and the lines c and c + 1
abbrev pub HalvesCell : (ℕ → ℕ → ℕ) → ℕ → ℕ → Triangle → Triangle → Type 0
HalvesCell grid r c = Halves (grid r c) (grid r (c + 1)) (grid (r + 1) (c + 1)) (grid (r + 1) c)

-- that rectangle touches no outer edge
pub record InnerRectangle (m n r c : ℕ) : Type 0 where
  pub first_row : 1 ≤ r
  pub last_row : r + 1 < m
  pub first_column : 1 ≤ c
  pub last_column : c + 1 < n

-- the edge of the inner rectangle that faces edge k, in the same direction; a single vertex if m or n is two
abbrev pub inner_side : (ℕ → ℕ → ℕ) → ℕ → ℕ → ℕ → NumberedLine
inner_side grid m n zero = record { segments = m - 2; vertex = λ i. grid (m - 1 - i) 1 }
inner_side grid m n (suc zero) = record { segments = n - 2; vertex = λ i. grid 1 (1 + i) }
inner_side grid m n (suc (suc zero)) = record { segments = m - 2; vertex = λ i. grid (1 + i) (n - 1) }
inner_side grid m n (suc (suc (suc k))) = record { segments = n - 2; vertex = λ i. grid (m - 1) (n - 1 - i) }

-- two triangles of the drawing halve the rectangle
pub record PairDrawn (grid : ℕ → ℕ → ℕ) (r c : ℕ) (ts : List Triangle) : Type 0 where
  pub one : Triangle
  pub other : Triangle
  pub one_drawn : Member one ts
  pub other_drawn : Member other ts
  pub halves : HalvesCell grid r c one other

-- a triangle is one of such a pair, or lies between an outer edge and the edge of the inner rectangle that faces it
pub data InGrid (m n : ℕ) (side : ℕ → NumberedLine) (grid : ℕ → ℕ → ℕ) (t : Triangle) : Type 0 where
  first_of_pair : (r c : ℕ) (s : Triangle) → InnerRectangle m n r c → HalvesCell grid r c t s → InGrid m n side grid t
  second_of_pair : (r c : ℕ) (s : Triangle) → InnerRectangle m n r c → HalvesCell grid r c s t → InGrid m n side grid t
  between : (k : ℕ) → k < 4 → Joins (side k) (inner_side grid m n k) t → InGrid m n side grid t

-- exactly two triangles, which halve the patch
pub record OnlyPair (side : ℕ → NumberedLine) (ts : List Triangle) : Type 0 where
  pub one : Triangle
  pub other : Triangle
  pub only : ts ≡ one ∷ other ∷ []
  pub halves : Halves ((side 0).vertex 0) ((side 1).vertex 0) ((side 2).vertex 0) ((side 3).vertex 0) one other

-- the triangles of that patch
pub record QuadFaces (side : ℕ → NumberedLine) (grid : ℕ → ℕ → ℕ) (e : ℕ → Run) (own0 own1 rows columns : Run) (ts : List Triangle) : Type 0 where
  -- if every level gives one segment: one pair that halves the patch
  pub single : AllOne4 e own0 own1 → OnlyPair side ts
  -- else each rectangle that touches no outer edge is halved by two triangles
  pub pairs : (AllOne4 e own0 own1 → ⊥) → (r c : ℕ) → InnerRectangle rows.c columns.c r c → PairDrawn grid r c ts
  -- every other triangle lies between an outer edge and the inner rectangle, and these triangles fill all of that area
  pub each : (AllOne4 e own0 own1 → ⊥) → (t : Triangle) → Member t ts → InGrid rows.c columns.c side grid t
  pub filled : (AllOne4 e own0 own1 → ⊥) → (k : ℕ) → k < 4 → BandFilled (side k) (inner_side grid rows.c columns.c k) ts
