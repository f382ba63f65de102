-- The points of a ring from the points of the outline at its places. Assumes nothing.
use Prim.Native.Nat.{ℕ, zero, suc, ◌+◌, ◌-◌, ◌*◌, ◌%◌, ◌≤◌, ◌<◌}
use mathlib.Core.Path.{◌≡◌, refl, sym, ap, ◌∙◌}
use mathlib.Core.List.{List, ◌++◌, append_assoc}
use native.Mathlib.Omega.{arith}
use lib.ListN.{length, take, drop, get_or, length-append}
use lib.Seq.{get_or-take, get_or-append-add}
use Rattle.buffer.specs.Over.{over, Wrote, flat}
use Rattle.buffer.proofs.Laws.{flat_length, flat_step}
use Rattle.shifted_copies.proofs.Shifts.{flat_below, flat_split}
use Rattle.mesh_geometry.specs.declared.Point.{Point}
use Rattle.mesh_geometry.specs.TrianglePoints.{triangle_place}
use Rattle.mesh_geometry.specs.Words.{coordinate_words, vertex_words}
use Rattle.vertices.specs.Rows.{place_in, listed, ClearOfEnds}
use Rattle.vertices.specs.Edges.{edge_points}
use Rattle.edge.specs.Table.{table}
use Rattle.edge.proofs.Table.{length_table}
use Rattle.mesh_geometry.specs.Edge.{ring}
use Rattle.vertices.proofs.Words.{words_table, table_words}
use Rattle.vertices.proofs.Rows.{front_length}
use Rattle.vertices.proofs.Middle.{middle, middle_length, middle_at}
use Rattle.triangle_point_rows.specs.Rings.{ring_points, Inward, sums, Laid}

-- words that are those of the points f 0, f 1, .. f (n - 1)
points_of_lem : (f : ℕ → List ℕ) (P : ℕ → Point) (n m : ℕ) → m ≡ n → ((i : ℕ) → i < n → f i ≡ coordinate_words (P i)) → flat f 0 n ≡ vertex_words (table P m)
points_of_lem f P n m e h = flat_below f (λ i. coordinate_words (P i)) 0 n (λ i l. h i (omega arith)) ∙ sym (words_table P n) ∙ ap (λ (k : ℕ). vertex_words (table P k)) (sym e)

-- as many points as its three edges have places
ring_size_lem : (row : List ℕ) → length (ring_points row) ≡ 3 * length row
unfolding ring
ring_size_lem row = simp (length-append, length_table) (omega arith)

front_size : (row : List ℕ) → 1 ≤ length row → length (take (length row - 1) row) ≡ length row - 1
front_size row h = front_length row (length row - 1) refl

pub front_ring_size : (row : List ℕ) → 1 ≤ length row → length (ring_points (take (length row - 1) row)) ≡ 3 * (length row - 1)
front_ring_size row h = omega (arith, ring_size_lem (take (length row - 1) row), front_size row h)

-- it is not deeper than half the length
pub ring_depth : (row : List ℕ) → 2 ≤ length row → ClearOfEnds (place_in (take (length row - 1) row) 0) (listed (take (length row - 1) row)) → get_or row 0 0 ≤ 32768
ring_depth row h clear = omega (arith, clear 0 (omega (arith, front_size row (omega arith))), get_or-take (length row - 1) row 0 0 (omega arith))

-- the next ring's places
pub laid_next : {base other row : List ℕ} {from : ℕ} → 3 ≤ length row → Laid base other from row → Laid base other (from + 3) (middle row)
laid_next {base} {other} {row} {from} h l =
    let n = middle_length row in
    let on : (i : ℕ) → from + 3 + 3 * i ≡ from + 3 * suc i = λ i. omega arith in
    let place : (i : ℕ) → i < length (middle row) → place_in (middle row) i ≡ place_in row (suc i) = λ i k. middle_at row i (omega arith) in
    record {
      room = omega (arith, l.room);
      other_room = omega (arith, l.other_room);
      opposite = λ i k. ap (λ (j : ℕ). get_or base j 0) (on i) ∙ l.opposite (suc i) (omega arith);
      start = λ i k. ap (λ (j : ℕ). get_or base (j + 1) 0) (on i) ∙ l.start (suc i) (omega arith) ∙ ap (λ (x : ℕ). 196608 - 3 * x) (sym (place i k));
      end = λ i k. ap (λ (j : ℕ). get_or base (j + 2) 0) (on i) ∙ l.end (suc i) (omega arith) ∙ ap (λ (x : ℕ). 3 * x) (sym (place i k));
      other_end = λ i k. ap (λ (j : ℕ). get_or other j 0) (on i) ∙ l.other_end (suc i) (omega arith) ∙ ap (λ (x : ℕ). 3 * x) (sym (place i k));
      other_opposite = λ i k. ap (λ (j : ℕ). get_or other (j + 1) 0) (on i) ∙ l.other_opposite (suc i) (omega arith);
      other_start = λ i k. ap (λ (j : ℕ). get_or other (j + 2) 0) (on i) ∙ l.other_start (suc i) (omega arith) ∙ ap (λ (x : ℕ). 196608 - 3 * x) (sym (place i k));
    }

-- ---- the outline's points at the places of a row, laid out from a list's beginning
pub inward_clear : {row : List ℕ} → Inward row → ClearOfEnds 0 (listed row)
inward_clear g i h = omega (arith, g.mirrors i h)

word_at : (F R : List ℕ) (j k : ℕ) → j ≡ length F + k → get_or (F ++ R) j 0 ≡ get_or R k 0
word_at F R j k e = ap (λ (l : ℕ). get_or (F ++ R) l 0) e ∙ get_or-append-add F R k 0

module _ (P : ℕ → Point) (n : ℕ) {zs xs : List ℕ} {w : ℕ} (p : Wrote zs 0 (vertex_words (table P n)) xs w) where
  split : (i : ℕ) → i < n → xs ≡ flat (λ j. coordinate_words (P j)) 0 i ++ (coordinate_words (P i) ++
      (flat (λ j. coordinate_words (P j)) (i + 1) (n - (i + 1)) ++ drop (0 + length (vertex_words (table P n))) zs))
  unfolding over
  split i h =
      let f : ℕ → List ℕ = λ j. coordinate_words (P j) in
      let e : i + (n - i) ≡ n = omega arith in
      let z : 0 + i ≡ i = omega arith in
      let parts : vertex_words (table P n) ≡ flat f 0 i ++ (f i ++ flat f (i + 1) (n - (i + 1))) =
      words_table P n ∙ ap (flat f 0) (sym e) ∙ flat_split f 0 i (n - i) ∙ ap (λ (j : ℕ). flat f 0 i ++ flat f j (n - i)) z ∙ ap (λ (l : List ℕ). flat f 0 i ++ l) (flat_step f i n h) in
      p.is ∙ ap (λ (l : List ℕ). l ++ drop (0 + length (vertex_words (table P n))) zs) parts ∙ simp append_assoc

  before : (i : ℕ) → length (flat (λ j. coordinate_words (P j)) 0 i) ≡ 3 * i
  before i = flat_length (λ j. coordinate_words (P j)) 3 0 i (λ j. refl)

  first_at : (i : ℕ) → i < n → get_or xs (0 + 3 * i) 0 ≡ (P i).u
  first_at i h = ap (λ (l : List ℕ). get_or l (0 + 3 * i) 0) (split i h) ∙ word_at (flat (λ j. coordinate_words (P j)) 0 i) _ (0 + 3 * i) 0 (omega (arith, before i))

  second_at : (i : ℕ) → i < n → get_or xs (0 + 3 * i + 1) 0 ≡ (P i).v
  second_at i h = ap (λ (l : List ℕ). get_or l (0 + 3 * i + 1) 0) (split i h) ∙ word_at (flat (λ j. coordinate_words (P j)) 0 i) _ (0 + 3 * i + 1) 1 (omega (arith, before i))

  third_at : (i : ℕ) → i < n → get_or xs (0 + 3 * i + 2) 0 ≡ (P i).w
  third_at i h = ap (λ (l : List ℕ). get_or l (0 + 3 * i + 2) 0) (split i h) ∙ word_at (flat (λ j. coordinate_words (P j)) 0 i) _ (0 + 3 * i + 2) 2 (omega (arith, before i))

  holds : 3 * n ≤ length xs
  unfolding over
  holds = rw p.is (omega (arith, table_words P n, length-append (vertex_words (table P n)) (drop (0 + length (vertex_words (table P n))) zs)))

pub laid_first : (row : List ℕ) {zs zs' base other : List ℕ} {w w' : ℕ} → Wrote zs 0 (vertex_words (edge_points triangle_place 0 (listed row) 0)) base w
    → Wrote zs' 0 (vertex_words (edge_points triangle_place 1 (listed row) 0)) other w' → Laid base other 0 row
laid_first row p q =
    let P : ℕ → Point = λ i. triangle_place 0 (place_in row i) 0 in
    let Q : ℕ → Point = λ i. triangle_place 1 (place_in row i) 0 in
    let n = length row in
    record {
      room = omega (arith, holds P n p);
      other_room = omega (arith, holds Q n q);
      opposite = λ i h. first_at P n p i h;
      start = λ i h. second_at P n p i h ∙ omega arith;
      end = λ i h. third_at P n p i h ∙ omega arith;
      other_end = λ i h. first_at Q n q i h ∙ omega arith;
      other_opposite = λ i h. second_at Q n q i h;
      other_start = λ i h. third_at Q n q i h ∙ omega arith;
    }

-- y − d, by adding −d modulo 2^32
taken : (y d : ℕ) → d ≤ y → y < 4294967296 → (y + (4294967296 - d) % 4294967296) % 4294967296 ≡ y - d
taken y zero h l = omega arith
taken y (suc d) h l =
    let e : (4294967296 - suc d) % 4294967296 ≡ 4294967296 - suc d = omega arith in
    rw e (omega arith)

taken_from : (z y d e less r : ℕ) → less ≡ (4294967296 - d) % 4294967296 → z ≡ y → d ≡ e → e ≤ y → y < 4294967296 → y - e ≡ r → (z + less) % 4294967296 ≡ r
taken_from z y d e less r p q s h l m = ap (λ (k : ℕ). (k + less) % 4294967296) q ∙ ap (λ (k : ℕ). (y + k) % 4294967296) p ∙ taken y d (omega arith) l ∙ ap (λ (k : ℕ). y - k) s ∙ m

-- ---- the three edges of the ring at all places of a row except the last; `less` is the negative of the ring's depth
module _ {base other row : List ℕ} {from : ℕ} (laid : Laid base other from row) (some : 2 ≤ length row)
    (clear : ClearOfEnds (place_in (take (length row - 1) row) 0) (listed (take (length row - 1) row))) (less : ℕ) (is : less ≡ (4294967296 - get_or row 0 0) % 4294967296) where
  depth_is : place_in (take (length row - 1) row) 0 ≡ get_or row 0 0
  depth_is = get_or-take (length row - 1) row 0 0 (omega arith)

  place_is : (i : ℕ) → i < length row - 1 → place_in (take (length row - 1) row) i ≡ place_in row i
  place_is i h = get_or-take (length row - 1) row i 0 h

  size : length (take (length row - 1) row) ≡ length row - 1
  size = front_length row (length row - 1) refl

  pub edge_zero : flat (sums base from (2 * get_or row 0 0) less less) 0 (length row - 1)
      ≡ vertex_words (edge_points triangle_place 0 (listed (take (length row - 1) row)) (place_in (take (length row - 1) row) 0))
  edge_zero =
      points_of_lem (sums base from (2 * get_or row 0 0) less less) (λ i. triangle_place 0 (place_in (take (length row - 1) row) i) (place_in (take (length row - 1) row) 0)) (length row - 1) _ size
      (λ i h.
      let d = place_in (take (length row - 1) row) 0 in
      let x = place_in (take (length row - 1) row) i in
      let c = clear i (omega (arith, size)) in
      let e = depth_is in
      let f = place_is i h in
      let u : (get_or base (from + 3 * i) 0 + 2 * get_or row 0 0) % 4294967296 ≡ 2 * d = omega (arith, laid.opposite i (omega arith)) in
      let v : (get_or base (from + 3 * i + 1) 0 + less) % 4294967296 ≡ 196608 - (3 * x + d) = taken_from _ (196608 - 3 * place_in row i) (get_or row 0 0) d less _ is
      (laid.start i (omega arith)) (sym e) (omega arith) (omega arith) (omega arith) in
      let w : (get_or base (from + 3 * i + 2) 0 + less) % 4294967296 ≡ 3 * x - d = taken_from _ (3 * place_in row i) (get_or row 0 0) d less _ is
      (laid.end i (omega arith)) (sym e) (omega arith) (omega arith) (omega arith) in
      rw (u, v, w))

  pub edge_one : flat (sums other from less (2 * get_or row 0 0) less) 0 (length row - 1)
      ≡ vertex_words (edge_points triangle_place 1 (listed (take (length row - 1) row)) (place_in (take (length row - 1) row) 0))
  edge_one =
      points_of_lem (sums other from less (2 * get_or row 0 0) less) (λ i. triangle_place 1 (place_in (take (length row - 1) row) i) (place_in (take (length row - 1) row) 0)) (length row - 1) _ size
      (λ i h.
      let d = place_in (take (length row - 1) row) 0 in
      let x = place_in (take (length row - 1) row) i in
      let c = clear i (omega (arith, size)) in
      let e = depth_is in
      let f = place_is i h in
      let u : (get_or other (from + 3 * i) 0 + less) % 4294967296 ≡ 3 * x - d = taken_from _ (3 * place_in row i) (get_or row 0 0) d less _ is
      (laid.other_end i (omega arith)) (sym e) (omega arith) (omega arith) (omega arith) in
      let v : (get_or other (from + 3 * i + 1) 0 + 2 * get_or row 0 0) % 4294967296 ≡ 2 * d = omega (arith, laid.other_opposite i (omega arith)) in
      let w : (get_or other (from + 3 * i + 2) 0 + less) % 4294967296 ≡ 196608 - (3 * x + d) = taken_from _ (196608 - 3 * place_in row i) (get_or row 0 0) d less _
      is (laid.other_start i (omega arith)) (sym e) (omega arith) (omega arith) (omega arith) in
      rw (u, v, w))

  pub edge_two : flat (sums base (from + 1) less less (2 * get_or row 0 0)) 0 (length row - 1)
      ≡ vertex_words (edge_points triangle_place 2 (listed (take (length row - 1) row)) (place_in (take (length row - 1) row) 0))
  edge_two =
      points_of_lem (sums base (from + 1) less less (2 * get_or row 0 0))
      (λ i. triangle_place 2 (place_in (take (length row - 1) row) i) (place_in (take (length row - 1) row) 0)) (length row - 1) _ size
      (λ i h.
      let d = place_in (take (length row - 1) row) 0 in
      let x = place_in (take (length row - 1) row) i in
      let c = clear i (omega (arith, size)) in
      let e = depth_is in
      let f = place_is i h in
      let first : from + 1 + 3 * i ≡ from + 3 * i + 1 = omega arith in
      let second : from + 1 + 3 * i + 1 ≡ from + 3 * i + 2 = omega arith in
      let third : from + 1 + 3 * i + 2 ≡ from + 3 * (i + 1) = omega arith in
      let u : (get_or base (from + 1 + 3 * i) 0 + less) % 4294967296 ≡ 196608 - (3 * x + d) = rw first
      (taken_from _ (196608 - 3 * place_in row i) (get_or row 0 0) d less _ is (laid.start i (omega arith)) (sym e) (omega arith) (omega arith)
      (omega arith)) in
      let v : (get_or base (from + 1 + 3 * i + 1) 0 + less) % 4294967296 ≡ 3 * x - d = rw second
      (taken_from _ (3 * place_in row i) (get_or row 0 0) d less _ is (laid.end i (omega arith)) (sym e) (omega arith) (omega arith) (omega arith)) in
      let w : (get_or base (from + 1 + 3 * i + 2) 0 + 2 * get_or row 0 0) % 4294967296 ≡ 2 * d = rw third (omega (arith, laid.opposite (i + 1) (omega arith))) in
      rw (u, v, w))
