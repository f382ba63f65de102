-- A triangle patch whose rows are those of its edges: its outline, and its inside. Assumes nothing.
use Prim.Native.Nat.{ℕ, suc, ◌+◌, ◌-◌, ◌*◌, ◌≤◌}
use mathlib.Core.Path.{◌≡◌, ap}
use mathlib.Core.List.{List, [], ◌∷◌, ◌++◌}
use native.Mathlib.Omega.{arith}
use lib.ListN.{length}
use Rattle.buffer.specs.Over.{Wrote}
use Rattle.level.specs.declared.Segments.{Segments}
use Rattle.level.specs.Segments.{Valid}
use Rattle.mesh_geometry.specs.Edge.{Run, along}
use Rattle.mesh_geometry.specs.TrianglePoints.{triangle_place, rings, triangle_patch}
use Rattle.mesh_geometry.specs.Segmented.{run}
use Rattle.mesh_geometry.specs.Words.{vertex_words}
use Rattle.vertices.specs.Rows.{place_in, whole_edge, GoodRow, AllValid}
use Rattle.vertices.proofs.Parts.{Parts, wrote_same}
use Rattle.vertices.proofs.Rows.{none, more, ring_same, along_at, along_same, along_length, good_row}
use Rattle.triangle_point_rows.specs.Parts.{triangle_outline, triangle_inside}
use Rattle.triangle_point_rows.proofs.Rings.{inner_same}
use Rattle.triangle_points.specs.Patches.{ValidOutline, patch_points}

-- the patch is its outline, then its inside
patch_split : (e0 e1 e2 inside : Run) → 2 ≤ inside.c → triangle_patch e0 e1 e2 inside ≡ triangle_outline e0 e1 e2 ++ triangle_inside inside
unfolding rings
patch_split e0 e1 e2 inside h =
    let n : inside.c ≡ suc (suc (inside.c - 2)) = omega arith in
    ap (rings (e0 ∷ e1 ∷ e2 ∷ []) 0 inside.q) n

pub triangle_parts : (e0 e1 e2 inside : Segments) → 2 ≤ inside.count → (xs : List ℕ) (at : ℕ)
    → at + 3 * length (patch_points e0 e1 e2 inside) ≤ length xs
    → Parts (patch_points e0 e1 e2 inside) (triangle_outline (run e0) (run e1) (run e2)) (triangle_inside (run inside)) xs at
triangle_parts e0 e1 e2 inside h xs at room = record { is = patch_split (run e0) (run e1) (run e2) (run inside) h; room = room }

-- facts of the four edges, taken apart and put together
pub first_three : {A B C D : Type 0} → A × (B × (C × D)) → A × (B × C)
first_three v = (v.0, (v.1.0, v.1.1.0))

pub all_valid : (e0 e1 e2 inside : Segments) → ValidOutline e0 e1 e2 → Valid inside.count inside.scaled → AllValid (e0 ∷ e1 ∷ e2 ∷ inside ∷ [])
all_valid e0 e1 e2 inside v w = (v.0, (v.1, (v.2, w)))

-- ---- the outline
outline_are : (e0 e1 e2 : Run) {x0 x1 x2 : List ℕ} → x0 ≡ along e0 → x1 ≡ along e1 → x2 ≡ along e2
    → triangle_outline (whole_edge x0) (whole_edge x1) (whole_edge x2) ≡ triangle_outline e0 e1 e2
outline_are e0 e1 e2 h0 h1 h2 =
    rw (h0, h1, h2) (ring_same triangle_place 0 0 (more (along_same e0) (more (along_same e1) (more (along_same e2) none))))

module _ (e0 e1 e2 : Segments) {x0 x1 x2 : List ℕ} (h0 : x0 ≡ along (run e0)) (h1 : x1 ≡ along (run e1)) (h2 : x2 ≡ along (run e2)) where
  outline_same : triangle_outline (whole_edge x0) (whole_edge x1) (whole_edge x2) ≡ triangle_outline (run e0) (run e1) (run e2)
  outline_same = outline_are (run e0) (run e1) (run e2) h0 h1 h2

  -- the rows are good, and there is room for the points
  pub outline_ready : AllValid (e0 ∷ e1 ∷ e2 ∷ []) → (out : List ℕ) (at : ℕ) → at + 3 * length (triangle_outline (run e0) (run e1) (run e2)) ≤ length out
      → (GoodRow x0 × GoodRow x1 × GoodRow x2) × (at + 3 * length (triangle_outline (whole_edge x0) (whole_edge x1) (whole_edge x2)) ≤ length out)
  outline_ready v out at room = ((good_row e0 v.0 h0, good_row e1 v.1.0 h1, good_row e2 v.1.1 h2), omega (arith, ap length outline_same))

  pub outline_written : {out out' : List ℕ} {at w : ℕ} → Wrote out at (vertex_words (triangle_outline (whole_edge x0) (whole_edge x1) (whole_edge x2))) out' w
      → Wrote out at (vertex_words (triangle_outline (run e0) (run e1) (run e2))) out' w
  outline_written = wrote_same outline_same

-- ---- the inside
inside_are : (e : Run) {xs : List ℕ} → xs ≡ along e → 2 ≤ e.c → triangle_inside (whole_edge xs) ≡ triangle_inside e
inside_are e h two =
    rw (h, (along_same e).count)
    (inner_same (e.c - 2) (place_in (along e) 1) (e.q 1) (λ i. place_in (along e) (suc i)) (λ i. e.q (suc i)) (along_at e 1 (omega arith)) (λ i l. along_at e (suc i) (omega arith)))

module _ (inside : Segments) {xs : List ℕ} (h : xs ≡ along (run inside)) (two : 2 ≤ inside.count) where
  inside_same : triangle_inside (whole_edge xs) ≡ triangle_inside (run inside)
  inside_same = inside_are (run inside) h two

  pub inside_ready : Valid inside.count inside.scaled → (out : List ℕ) (at : ℕ) → at + 3 * length (triangle_inside (run inside)) ≤ length out
      → (GoodRow xs × (3 ≤ length xs)) × (at + 3 * length (triangle_inside (whole_edge xs)) ≤ length out)
  inside_ready v out at room = ((good_row inside v h, omega (arith, ap length h, along_length (run inside))), omega (arith, ap length inside_same))

  pub inside_written : {out out' : List ℕ} {at w : ℕ} → Wrote out at (vertex_words (triangle_inside (whole_edge xs))) out' w
      → Wrote out at (vertex_words (triangle_inside (run inside))) out' w
  inside_written = wrote_same inside_same
