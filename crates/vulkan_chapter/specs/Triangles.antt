-- 23.6, Triangle Tessellation: the concentric triangles, and the triangles between them.
-- A coordinate 1 is 196608 units here. A unit along an edge, of which the edge has 65536, is 3 units of two coordinates.
-- Assumes nothing.
use Rattle.std.specs.Prelude.{ℕ, suc, ◌+◌, ◌-◌, ◌*◌, ◌%◌, ◌≤◌, ◌<◌, ◌≡◌, List, [], ◌∷◌, length}
use Rattle.strip.specs.declared.triangle.Triangle.{Triangle}
use Rattle.strip.specs.Mirror.{SameCorners}
use Rattle.mesh_geometry.specs.declared.Point.{Point}
use Rattle.mesh_geometry.specs.Domain.{triangle}
use Rattle.mesh_geometry.specs.Edge.{Run}
use Rattle.mesh_geometry.specs.Faces.{at}
use Rattle.mesh_geometry.specs.OnEdge.{start_coordinate, end_coordinate, opposite_coordinate, OnEdge}
use Rattle.vulkan_chapter.specs.Members.{Member}
use Rattle.vulkan_chapter.specs.Between.{NumberedLine, Joins, BandFilled}

-- the point lies on the perpendicular to edge k through the point x units along it: on that line the end coordinate less the start
-- coordinate is everywhere the same
abbrev pub OnPerpendicular : ℕ → ℕ → Point → Type 0
OnPerpendicular k x p = end_coordinate k p + (196608 - 3 * x) ≡ start_coordinate k p + 3 * x

-- ---- where the vertices lie. `ring j k` is edge k of concentric triangle j; triangle 0 is the patch itself
-- the inner triangles, where the inner level divides an edge into n segments at the places q and P gives each vertex by its number
pub record Concentric (n : ℕ) (q : ℕ → ℕ) (ring : ℕ → ℕ → NumberedLine) (P : ℕ → Point) : Type 0 where
  -- from one triangle to the next, each edge has two segments fewer
  pub fewer : (j k : ℕ) → k < 3 → 1 ≤ j → 2 * j ≤ n → (ring j k).segments + 2 * j ≡ n
  -- vertex i of edge k lies on the perpendicular through place j + i of the patch's edge, as the inner level divides that edge
  pub perpendicular : (j k i : ℕ) → k < 3 → 1 ≤ j → i + 2 * j ≤ n → OnPerpendicular k (q (j + i)) (P ((ring j k).vertex i))
  -- edge k is parallel to the patch's edge k
  pub parallel : (j k i i' : ℕ) → k < 3 → 1 ≤ j → i + 2 * j ≤ n → i' + 2 * j ≤ n
      → opposite_coordinate k (P ((ring j k).vertex i)) ≡ opposite_coordinate k (P ((ring j k).vertex i'))
  -- the three edges lie equally far inside: the triangles are concentric and equilateral
  pub equal_sided : (j k k' : ℕ) → k < 3 → k' < 3 → 1 ≤ j → 2 * j ≤ n
      → opposite_coordinate k (P ((ring j k).vertex 0)) ≡ opposite_coordinate k' (P ((ring j k').vertex 0))
  -- an edge ends where the next one starts; so each corner lies on two perpendiculars, the last one of edge k and the first one of the next
  pub corner : (j k : ℕ) → k < 3 → 1 ≤ j → 2 * j ≤ n → P ((ring j k).vertex (n - 2 * j)) ≡ P ((ring j ((k + 1) % 3)).vertex 0)
  -- if n is even, the last triangle is a single point, the centre
  pub centre : (j : ℕ) → 1 ≤ j → 2 * j ≡ n → P ((ring j 0).vertex 0) ≡ record { u = 65536; v = 65536; w = 65536 }

-- vertex v lies on an edge of one of the triangles
pub record OnRing (n : ℕ) (ring : ℕ → ℕ → NumberedLine) (v : ℕ) : Type 0 where
  pub j : ℕ
  pub k : ℕ
  pub i : ℕ
  pub triangle : 2 * j ≤ n
  pub edge : k < 3
  pub along : i ≤ (ring j k).segments
  pub is : (ring j k).vertex i ≡ v

-- every level gives one segment, also the inner level before it is raised
abbrev pub AllOne3 : (ℕ → Run) → Run → Type 0
AllOne3 e own = ((k : ℕ) → k < 3 → (e k).c ≡ 1) × (own.c ≡ 1)

-- the vertices ps of a patch with the outer edges e 0, e 1 and e 2; the inner level gives `own` before it is raised, and `inside` after that
pub record TriangleVertices (ring : ℕ → ℕ → NumberedLine) (e : ℕ → Run) (own inside : Run) (ps : List Point) : Type 0 where
  -- the outer edges are divided by their own levels
  pub outer_segments_lem : (k : ℕ) → k < 3 → (ring 0 k).segments ≡ (e k).c
  pub outer : (k i : ℕ) → k < 3 → i ≤ (e k).c → OnEdge triangle k ((e k).q i) (at ps ((ring 0 k).vertex i))
  -- if every level gives one segment, the three corners are all vertices
  pub single : AllOne3 e own → length ps ≡ 3
  -- else there are the inner triangles too, divided by the inner level, and no other vertex
  pub concentric : (AllOne3 e own → ⊥) → Concentric inside.c inside.q ring (at ps)
  pub no_other : (AllOne3 e own → ⊥) → (v : ℕ) → v < length ps → OnRing inside.c ring v

-- ---- the triangles between them
-- the triangle is concentric triangle j itself
abbrev pub IsRing : (ℕ → ℕ → NumberedLine) → ℕ → Triangle → Type 0
IsRing ring j t = SameCorners t (record { a = (ring j 0).vertex 0; b = (ring j 1).vertex 0; c = (ring j 2).vertex 0 })

-- a triangle between edge k of one concentric triangle and edge k of the next one, or the innermost triangle itself if n is odd
pub data InRings (n : ℕ) (ring : ℕ → ℕ → NumberedLine) (t : Triangle) : Type 0 where
  between : (j k : ℕ) → k < 3 → 2 * suc j ≤ n → Joins (ring j k) (ring (suc j) k) t → InRings n ring t
  innermost : (j : ℕ) → n ≡ suc (2 * j) → IsRing ring j t → InRings n ring t

-- exactly one triangle, which is concentric triangle j itself
pub record OnlyRing (ring : ℕ → ℕ → NumberedLine) (j : ℕ) (ts : List Triangle) : Type 0 where
  pub triangle : Triangle
  pub only : ts ≡ triangle ∷ []
  pub corners : IsRing ring j triangle

-- concentric triangle j is drawn as a triangle
pub record RingDrawn (ring : ℕ → ℕ → NumberedLine) (j : ℕ) (ts : List Triangle) : Type 0 where
  pub triangle : Triangle
  pub drawn : Member triangle ts
  pub corners : IsRing ring j triangle

-- the triangles of that patch
pub record TriangleFaces (ring : ℕ → ℕ → NumberedLine) (e : ℕ → Run) (own inside : Run) (ts : List Triangle) : Type 0 where
  -- if every level gives one segment: the patch itself, one triangle
  pub single : AllOne3 e own → OnlyRing ring 0 ts
  -- else every triangle lies between two neighbouring concentric triangles, or is the innermost one
  pub each : (AllOne3 e own → ⊥) → (t : Triangle) → Member t ts → InRings inside.c ring t
  -- the triangles fill all of the area between two neighbours; if the inner one is the centre, each segment around it is joined with it
  pub filled : (AllOne3 e own → ⊥) → (j k : ℕ) → k < 3 → 2 * suc j ≤ inside.c → BandFilled (ring j k) (ring (suc j) k) ts
  pub innermost : (AllOne3 e own → ⊥) → (j : ℕ) → inside.c ≡ suc (2 * j) → RingDrawn ring j ts
