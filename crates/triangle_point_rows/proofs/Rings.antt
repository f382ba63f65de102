-- The rings of a triangle patch whose places are in rows, one ring after the other inwards.
-- Assumes nothing.
use Prim.Native.Nat.{ℕ, zero, suc, ◌+◌, ◌-◌, ◌*◌, ◌≤◌, ◌<◌}
use mathlib.Core.Path.{◌≡◌, refl, sym, ap, ◌∙◌}
use mathlib.Core.List.{List, [], ◌∷◌, ◌++◌}
use native.Mathlib.Omega.{arith}
use lib.ListN.{length, take}
use lib.Seq.{get_or-take}
use Rattle.buffer.specs.Over.{Wrote}
use Rattle.mesh_geometry.specs.declared.Point.{Point}
use Rattle.mesh_geometry.specs.Edge.{Run, ring}
use Rattle.mesh_geometry.specs.TrianglePoints.{triangle_place, centre, alike, rings}
use Rattle.mesh_geometry.specs.Words.{coordinate_words, vertex_words}
use Rattle.mesh_geometry.proofs.Edge.{far}
use Rattle.vertices.specs.Rows.{place_in, listed, whole_edge, ClearOfEnds, GoodRow}
use Rattle.triangle_point_rows.specs.Rings.{ring_points, rings_of, Inward}
use Rattle.triangle_point_rows.specs.Parts.{triangle_outline, triangle_inside}
use Rattle.vertices.proofs.Words.{words_append}
use Rattle.vertices.proofs.Parts.{wrote_same}
use Rattle.vertices.proofs.Rows.{Same, AllSame, none, more, ring_same, front, front_size, front_length, front_same, front_clear}
use Rattle.vertices.proofs.Middle.{middle, middle_length, middle_at}

-- ---- rings by places that are alike as far as they go
alike_same : (n : ℕ) (p q : ℕ → ℕ) → ((i : ℕ) → i < n → p i ≡ q i) → AllSame (alike p n) (alike q n)
alike_same n p q h =
    let s : Same (record { q = p; c = n }) (record { q = q; c = n }) = record { count = refl; at = h } in
    more s (more s (more s none))

pub inner_same : (n d d' : ℕ) (p q : ℕ → ℕ) → d ≡ d' → ((i : ℕ) → i < n → p i ≡ q i) → rings (alike p n) d p n ≡ rings (alike q n) d' q n
unfolding rings
inner_same zero d d' p q e h = refl
inner_same (suc zero) d d' p q e h = rw e (ring_same triangle_place 0 d' (alike_same 1 p q h))
inner_same (suc (suc r)) d d' p q e h =
    rw (
      e,
      ring_same triangle_place 0 d' (alike_same (suc (suc r)) p q h),
      inner_same r (p 1) (q 1) (λ i. p (suc i)) (λ i. q (suc i)) (h 1 (omega arith)) (λ i l. h (suc i) (omega arith)),
    )

-- ---- the rings of a row
-- a ring, and those inside it
rings_more : (es : List Run) (d : ℕ) (row : List ℕ) → 3 ≤ length row
    → rings es d (place_in row) (length row - 1) ≡ ring triangle_place 0 es d ++ rings_of (middle row)
unfolding rings
rings_more es d row h =
    let r = length row - 3 in
    let m = middle row in
    let n : length row - 1 ≡ suc (suc r) = omega arith in
    let k : length m - 1 ≡ r = omega (arith, middle_length row) in
    ap (rings es d (place_in row)) n
    ∙ ap (λ (ps : List Point). ring triangle_place 0 es d ++ ps)
    (inner_same r (place_in row 1) (place_in m 0) (λ i. place_in row (suc i)) (place_in m) (sym (middle_at row 0 (omega arith))) (λ i l. sym (middle_at row i (omega arith)))
    ∙ ap (λ (n : ℕ). rings (alike (place_in m) n) (place_in m 0) (place_in m) n) (sym k))

-- the inside of a patch whose places are in a row
inside_are : (row : List ℕ) → 3 ≤ length row → triangle_inside (whole_edge row) ≡ rings_of (middle row)
inside_are row h =
    let r = length row - 1 - 2 in
    let m = middle row in
    let k : length m - 1 ≡ r = omega (arith, middle_length row) in
    inner_same r (place_in row 1) (place_in m 0) (λ i. place_in row (suc i)) (place_in m) (sym (middle_at row 0 (omega arith))) (λ i l. sym (middle_at row i (omega arith)))
    ∙ ap (λ (n : ℕ). rings (alike (place_in m) n) (place_in m 0) (place_in m) n) (sym k)

module _ (row : List ℕ) (n : ℕ) (e : n ≡ length row - 1) (some : 2 ≤ length row) where
  -- a ring's own points
  own_are : ring triangle_place 0 (alike (place_in row) (length row - 1)) (place_in row 0) ≡ ring_points (take n row)
  own_are =
      let s : Same (record { q = place_in row; c = length row - 1 }) (listed (take n row)) =
      record { count = omega (arith, front_length row n e); at = λ i l. sym (get_or-take n row i 0 (omega (arith, front_length row n e))) } in
      ap (ring triangle_place 0 (alike (place_in row) (length row - 1))) (sym (get_or-take n row 0 0 (omega arith)))
      ∙ ring_same triangle_place 0 (place_in (take n row) 0) (more s (more s (more s none)))

  pub ring_then : 3 ≤ length row → vertex_words (rings_of row) ≡ vertex_words (ring_points (take n row)) ++ vertex_words (rings_of (middle row))
  ring_then h =
      ap vertex_words (rings_more (alike (place_in row) (length row - 1)) (place_in row 0) row h ∙ ap (λ (ps : List Point). ps ++ rings_of (middle row)) own_are)
      ∙ words_append (ring_points (take n row)) (rings_of (middle row))

  -- the innermost ring of three points
  pub ring_last : length row ≡ 2 → vertex_words (rings_of row) ≡ vertex_words (ring_points (take n row))
  unfolding rings
  ring_last h =
      let one : length row - 1 ≡ 1 = omega arith in
      ap (λ (m : ℕ). vertex_words (rings (alike (place_in row) (length row - 1)) (place_in row 0) (place_in row) m)) one ∙ ap vertex_words own_are

  -- it lies between its own corners
  pub ring_clear : Inward row → ClearOfEnds (place_in (take n row) 0) (listed (take n row))
  ring_clear g i l =
      let last = length row - 1 in
      let m : i < n = omega (arith, front_length row n e) in
      let z : last - 0 ≡ last = omega arith in
      let corners : place_in row 0 + place_in row last ≡ 65536 = rw z at (g.mirrors 0 (omega arith)) in
      omega (
        arith,
        get_or-take n row i 0 m,
        get_or-take n row 0 0 (omega arith),
        far (place_in row) last (λ j k. g.rises j (omega arith)) 0 i (omega arith)
            (omega arith),
        far (place_in row) last (λ j k. g.rises j (omega arith)) i last (omega arith) (omega arith),
      )

-- or the centre
pub centre_last : (row : List ℕ) → length row ≡ 1 → vertex_words (rings_of row) ≡ coordinate_words centre
unfolding rings vertex_words
centre_last row h =
    let none : length row - 1 ≡ 0 = omega arith in
    ap (λ (m : ℕ). vertex_words (rings (alike (place_in row) (length row - 1)) (place_in row 0) (place_in row) m)) none

-- ---- the places of rings
pub row_inward : (row : List ℕ) → GoodRow row → Inward row
row_inward row g = record {
  some = omega (arith, g.some);
  rises = λ i l. g.good.rises i (omega arith);
  mirrors = λ i l. g.good.mirrors i (omega arith);
}

pub next_inward : (row : List ℕ) → 3 ≤ length row → Inward row → Inward (middle row)
next_inward row h g =
    let n = middle_length row in record {
      some = omega arith;
      rises = λ i l. omega (arith, middle_at row i (omega arith), middle_at row (suc i) (omega arith), g.rises (suc i) (omega arith));
      mirrors = λ i l.
          let j = length (middle row) - 1 - i in
          let k : suc j ≡ length row - 1 - suc i = omega arith in
          omega (arith, middle_at row i (omega arith), middle_at row j (omega arith), ap (place_in row) k, g.mirrors (suc i) (omega arith));
    }

-- ---- writing both parts of a patch
module _ {e0 e1 e2 : List ℕ} (good : GoodRow e0 × GoodRow e1 × GoodRow e2) (xs : List ℕ) (at : ℕ)
    (room : at + 3 * length (triangle_outline (whole_edge e0) (whole_edge e1) (whole_edge e2)) ≤ length xs) where
  outline_same : ring triangle_place 0 (listed (front e0) ∷ listed (front e1) ∷ listed (front e2) ∷ []) 0 ≡ triangle_outline (whole_edge e0) (whole_edge e1) (whole_edge e2)
  outline_same = ring_same triangle_place 0 0 (more (front_same e0 _ (front_size e0)) (more (front_same e1 _ (front_size e1)) (more (front_same e2 _ (front_size e2)) none)))

  pub edges_ready : (ClearOfEnds 0 (listed (front e0)) × ClearOfEnds 0 (listed (front e1)) × ClearOfEnds 0 (listed (front e2)))
      × (at + 3 * length (ring triangle_place 0 (listed (front e0) ∷ listed (front e1) ∷ listed (front e2) ∷ []) 0) ≤ length xs)
  edges_ready =
      ((front_clear e0 _ (front_size e0) good.0, front_clear e1 _ (front_size e1) good.1, front_clear e2 _ (front_size e2) good.2), omega (arith, ap length outline_same, room))

  pub outline_written : {xs' : List ℕ} {w : ℕ} → Wrote xs at (vertex_words (ring triangle_place 0 (listed (front e0) ∷ listed (front e1) ∷ listed (front e2) ∷ []) 0)) xs' w
      → Wrote xs at (vertex_words (triangle_outline (whole_edge e0) (whole_edge e1) (whole_edge e2))) xs' w
  outline_written = wrote_same outline_same

module _ (row : List ℕ) (good : GoodRow row × (3 ≤ length row)) (xs : List ℕ) (at : ℕ) (room : at + 3 * length (triangle_inside (whole_edge row)) ≤ length xs) where
  pub rings_ready : Inward (middle row) × (at + 3 * length (rings_of (middle row)) ≤ length xs)
  rings_ready = (next_inward row good.1 (row_inward row good.0), omega (arith, ap length (inside_are row good.1), room))

  pub inside_written : {xs' : List ℕ} {w : ℕ} → Wrote xs at (vertex_words (rings_of (middle row))) xs' w → Wrote xs at (vertex_words (triangle_inside (whole_edge row))) xs' w
  inside_written = wrote_same (sym (inside_are row good.1))
