-- 23.6 and 23.7: the triangles between two subdivided lines that face each other.
-- Assumes nothing.
use Rattle.std.specs.Prelude.{ℕ, suc, ◌≤◌, ◌<◌, List}
use Rattle.strip.specs.declared.triangle.Triangle.{Triangle}
use Rattle.strip.specs.Mirror.{SameCorners}
use Rattle.vulkan_chapter.specs.Members.{Member}

-- a subdivided line: how many segments it has, and the numbers of its vertices in order. A line of no segments is a single vertex
pub record NumberedLine : Type 0 where
  pub segments : ℕ
  pub vertex : ℕ → ℕ

-- the triangle has the two ends of segment a of the line A, and one vertex of the line B. 23.5 decides the order of its corners
pub record Based (A B : NumberedLine) (a : ℕ) (t : Triangle) : Type 0 where
  pub b : ℕ
  pub on : b ≤ B.segments
  pub corners : SameCorners t (record { a = A.vertex a; b = A.vertex (suc a); c = B.vertex b })

-- the triangle has two neighbouring vertices of one line and one vertex of the other
pub data Joins (A B : NumberedLine) (t : Triangle) : Type 0 where
  on_first : (a : ℕ) → a < A.segments → Based A B a t → Joins A B t
  on_second : (b : ℕ) → b < B.segments → Based B A b t → Joins A B t

-- a triangle of the list has segment a of the line A as its base
pub record BaseDrawn (A B : NumberedLine) (ts : List Triangle) (a : ℕ) : Type 0 where
  pub triangle : Triangle
  pub drawn : Member triangle ts
  pub based : Based A B a triangle

-- every segment of both lines is the base of a triangle. Where B is a single vertex, each segment of A is joined with that vertex
pub record BandFilled (A B : NumberedLine) (ts : List Triangle) : Type 0 where
  pub first : (a : ℕ) → a < A.segments → BaseDrawn A B ts a
  pub second : (b : ℕ) → b < B.segments → BaseDrawn B A ts b
