-- 23.8 and 23.9: isolines and point mode.
-- Assumes nothing.
use Prim.Native.Nat.{ℕ, zero, suc, ◌+◌, ◌*◌, ◌/◌, ◌%◌, ◌<◌}
use mathlib.Core.Path.{◌≡◌, refl, ap, ◌∙◌}
use mathlib.Core.List.{List, [], ◌∷◌}
use mathlib.Core.Logic.{inl}
use native.Mathlib.Omega.{arith}
use native.Mathlib.Nat.{div-add-mod', div-lt_iff_lt-mul, mod-lt, mul-le-mul_right}
use lib.ListN.{length, get_or, get_or-append}
use lib.Seq.{get_or-append-add}
use Rattle.buffer.specs.Over.{flat}
use Rattle.buffer.proofs.Laws.{flat_length}
use Rattle.mesh_topology.specs.Lines.{line_segment, isolines, dots}
use Rattle.mesh_geometry.specs.declared.Point.{Point}
use Rattle.mesh_geometry.specs.Edge.{Run}
use Rattle.mesh_geometry.specs.Segmented.{isoline_points}
use Rattle.mesh_geometry.proofs.Grid.{grid_at_lem, grid_length}
use Rattle.mesh_geometry.proofs.Members.{member_at}
use Rattle.vulkan_chapter.specs.Members.{Member}
use Rattle.vulkan_chapter.specs.Between.{NumberedLine}
use Rattle.vulkan_chapter.specs.Isolines.{LineVertices, LineSegments}

-- isoline r, where each has n segments
abbrev pub isoline : ℕ → ℕ → NumberedLine
isoline n r = record { segments = n; vertex = λ i. r * suc n + i }

-- ---- lines
-- what counting lists of one length hold at a place
flat_at : (f : ℕ → List ℕ) (size : ℕ) → ((j : ℕ) → length (f j) ≡ size) → (i k j o : ℕ) → j < k → o < size
    → get_or (flat f i k) (size * j + o) 0 ≡ get_or (f (i + j)) o 0
unfolding flat
flat_at f size l i zero j o h u = absurd (omega arith)
flat_at f size l i (suc k) zero o h u =
    let e : size * 0 + o ≡ o = omega arith in
    let z : i + 0 ≡ i = omega arith in
    rw (e, z) (get_or-append (f i) (flat f (i + 1) k) 0 o (omega (arith, l i)))
flat_at f size l i (suc k) (suc j) o h u =
    let e : size * suc j + o ≡ length (f i) + (size * j + o) = omega (arith, l i) in
    let z : i + suc j ≡ i + 1 + j = omega arith in
    rw (e, z) (get_or-append-add (f i) (flat f (i + 1) k) (size * j + o) 0 ∙ flat_at f size l (i + 1) k j o (omega arith) u)

line_length : (n r : ℕ) → length (flat (line_segment n r) 0 n) ≡ 2 * n
line_length n r = flat_length (line_segment n r) 2 0 n (λ j. refl)

segment_at : (m n r i o : ℕ) → r < m → i < n → o < 2 → get_or (isolines m n) (2 * (r * n + i) + o) 0 ≡ get_or (line_segment n r i) o 0
unfolding isolines
segment_at m n r i o u v h =
    let e : 2 * (r * n + i) + o ≡ 2 * n * r + (2 * i + o) = omega arith in
    rw e (flat_at (λ r. flat (line_segment n r) 0 n) (2 * n) (line_length n) 0 m r (2 * i + o) u (omega arith)
    ∙ at_zero (λ x. get_or (flat (line_segment n x) 0 n) (2 * i + o) 0) r
    ∙ flat_at (line_segment n r) 2 (λ j. refl) 0 n i o v h
    ∙ at_zero (λ x. get_or (line_segment n r x) o 0) i)
  where
    at_zero : (f : ℕ → ℕ) (x : ℕ) → f (0 + x) ≡ f x
    at_zero f x = let z : 0 + x ≡ x = omega arith in rw z

-- segment r n + i is one of m n
segment_number : (m n r i : ℕ) → r < m → i < n → r * n + i < m * n
segment_number m n r i h l = omega (arith, mul-le-mul_right n h)

lines_length : (m n : ℕ) → length (isolines m n) ≡ 2 * (m * n)
unfolding isolines
lines_length m n = flat_length (λ r. flat (line_segment n r) 0 n) (2 * n) 0 m (line_length n) ∙ omega arith

pub line_segments : (m n : ℕ) → LineSegments (isoline n) m n (isolines m n)
line_segments m n = record {
  count = lines_length m n;
  each = λ r i h l.
      let k = r * n + i in
      let z : 2 * k + 0 ≡ 2 * k = omega arith in
      let y : suc (2 * k) ≡ 2 * k + 1 = omega arith in
      let x : r * suc n + i + 1 ≡ r * suc n + suc i = omega arith in
      record {
        k = k;
        within = omega (arith, lines_length m n, segment_number m n r i h l);
        ends = inl (rw z at (segment_at m n r i 0 h l (omega arith)), rw (y, ← x) (segment_at m n r i 1 h l (omega arith)));
      };
}

pub line_vertices : (lines along : Run) → LineVertices (isoline along.c) lines along (isoline_points lines along)
line_vertices lines along =
    let n = along.c in
    record {
      segments = λ r h. refl;
      height = λ r i h l. ap (λ (p : Point). p.v) (grid_at_lem _ lines.c (suc n) r i h (omega arith));
      across = λ r i h l. ap (λ (p : Point). p.u) (grid_at_lem _ lines.c (suc n) r i h (omega arith));
      no_other = λ v h.
          let all : v < lines.c * suc n = omega (arith, grid_length (λ r c. record { u = along.q c; v = lines.q r; w = 0 }) lines.c (suc n)) in
          record {
            r = v / suc n;
            i = v % suc n;
            below = (div-lt_iff_lt-mul {k = suc n} {x = v} {y = lines.c} (omega arith)).1 all;
            along = omega (arith, mod-lt v {m = suc n} (omega arith));
            is = div-add-mod' v (suc n);
          };
    }

-- ---- dots
pub dots_length : (p : ℕ) → length (dots p) ≡ p
unfolding dots
dots_length p = flat_length (λ i. i ∷ []) 1 0 p (λ j. refl) ∙ omega arith

dot_at : (p i : ℕ) → i < p → get_or (dots p) i 0 ≡ i
unfolding dots
dot_at p i h =
    let e : 1 * i + 0 ≡ i = omega arith in
    rw e at (flat_at (λ i. i ∷ []) 1 (λ j. refl) 0 p i 0 h (omega arith)) ∙ omega arith

pub dot_drawn : (p i : ℕ) → i < p → Member i (dots p)
dot_drawn p i h = rw (dot_at p i h) at (member_at (dots p) 0 i (omega (arith, dots_length p)))
