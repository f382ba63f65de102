-- Closed sides: those that have a reverse or are pieces of the outline; and the marks of those pieces. Assumes nothing.
use Prim.Native.Nat.{ℕ, zero, suc, ◌+◌, ◌*◌, ◌/◌, ◌%◌, ◌≤◌, ◌<◌}
use mathlib.Core.Path.{◌≡◌, refl, ap}
use mathlib.Core.Bool.{Bool, true, false, ◌||◌}
use mathlib.Core.List.{List, [], ◌∷◌}
use mathlib.Core.Logic.{◌⊎◌, inl, inr}
use native.Mathlib.Omega.{arith}
use native.Mathlib.Decide.{dec_le}
use lib.ListN.{length, get_or, set, replicate}
use lib.Seq.{get_or-set_other}
use Rattle.strip.specs.declared.triangle.Triangle.{Triangle}
use Rattle.mesh_geometry.specs.declared.Point.{Point}
use Rattle.mesh_geometry.specs.Cover.{Side, piece}
use Rattle.mesh_geometry.specs.Faces.{at, face_of}
use Rattle.check_searches.specs.First.{some_below}
use Rattle.check_searches.specs.Points.{same_point}
use Rattle.check_searches.specs.Triangles.{triangle_at, has_side, some_side}
use Rattle.check_searches.proofs.First.{some_here, some_which}
use Rattle.check_searches.proofs.Equal.{same_is, is_same}
use Rattle.check_faults.specs.JudgedMesh.{JudgedMesh}
use Rattle.check_faults.specs.Outline.{same_ends, side_between, start_corner, end_of, closes, bounds, piece_drawn, ClosedTo, DrawnTo}
use Rattle.half_edge_chains.specs.Sides.{side_start, side_end, is_side, Once}
use Rattle.check_watertight.specs.Closing.{IsPiece, Blank, MarksDrawn, AllMarked, OpensClosed, Shown}
use Rattle.half_edge_chains.proofs.Table.{zero_at}
use Rattle.half_edge_chains.proofs.Numbers.{one_of, both, both_which, ends_same, side_there}
use Rattle.half_edges.specs.Opens.{meets, Among, OpensListed}
use Rattle.half_edges.proofs.Repeats.{once_new}

-- the test of two sides holds exactly if they are equal
ends_are : (s r : Side) → same_ends s r ≡ true → s ≡ r
ends_are s r h =
    let w = both_which (same_point s.start r.start) (same_point s.end r.end) h in
    λ i. record { start = same_is s.start r.start w.0 i; end = same_is s.end r.end w.1 i }

ends_self : (s : Side) → same_ends s s ≡ true
ends_self s = both (same_point s.start s.start) (same_point s.end s.end) (is_same s.start s.start refl) (is_same s.end s.end refl)

-- a triangle, by points, has its own sides
module _ (P : ℕ → Point) (t : Triangle) where
  abbrev from : ℕ → ℕ → Side
  from x y = record { start = P x; end = P y }

  bounds_own : (e : ℕ) → bounds (face_of P t) (record { start = P (start_corner t e); end = P (end_of t e) }) ≡ true
  bounds_own zero =
      let s = from t.a t.b in one_of (same_ends s s) (same_ends (from t.b t.c) s) (same_ends (from t.c t.a) s) (inl (ends_self s))
  bounds_own (suc zero) =
      let s = from t.b t.c in one_of (same_ends (from t.a t.b) s) (same_ends s s) (same_ends (from t.c t.a) s) (inr (inl (ends_self s)))
  bounds_own (suc (suc e)) =
      let s = from t.c t.a in one_of (same_ends (from t.a t.b) s) (same_ends (from t.b t.c) s) (same_ends s s) (inr (inr (ends_self s)))

pub blank_all : (n : ℕ) → Blank (replicate n 0)
blank_all n = record { at = zero_at n }

-- setting a mark past the end of the list changes nothing
pub set_past : (xs : List ℕ) (k v : ℕ) → length xs ≤ k → xs ≡ set xs k v
set_past [] k v l = refl
set_past (x ∷ xs) zero v l = absurd (omega arith)
set_past (x ∷ xs) (suc k) v l = ap (λ ys. x ∷ ys) (set_past xs k v (omega arith))

or_left : (p q : Bool) → p ≡ true → (p || q) ≡ true
or_left p q h = rw h

or_right : (p q : Bool) → q ≡ true → (p || q) ≡ true
or_right true q h = refl
or_right false q h = h

pub all_marked_more : (marks : List ℕ) (n : ℕ) → AllMarked marks n → 0 < get_or marks n 0 → AllMarked marks (suc n)
all_marked_more marks n a h = record {
  each = λ k l. elim (dec_le n k) [ yes p ↦ (let d : k ≡ n = omega arith in rw d h) | no p ↦ a.each k (omega arith) ];
}

module _ (mesh : JudgedMesh) where
  abbrev outline : List Point
  outline = mesh.outline

  abbrev ps : List Point
  ps = mesh.points

  abbrev ts : List Triangle
  ts = mesh.triangles

  -- a side whose reverse is in the table
  reverse_closes : (m n : ℕ) → n ≤ length ts * 3 → some_below (is_side ts (side_end ts m) (side_start ts m)) n ≡ true → closes mesh m ≡ true
  unfolding side_start side_end
  reverse_closes m n l h =
      let w = some_which (is_side ts (side_end ts m) (side_start ts m)) n h in
      let j = w.0 in
      let t = triangle_at ts (j / 3) in
      let e = ends_same (side_start ts j) (side_end ts j) (side_end ts m) (side_start ts m) w.2 in
      or_left (some_side ts (side_end ts m) (side_start ts m)) _
      (some_here (λ i. has_side (triangle_at ts i) (side_end ts m) (side_start ts m)) (length ts) (j / 3) (omega (arith, w.1))
      (side_there t (j % 3) e.0 e.1))

  -- a side that was found to be a piece
  pub piece_met : {p q : Point} {x y k : ℕ} (m : ℕ) → x ≡ side_start ts m → y ≡ side_end ts m → p ≡ at ps x → q ≡ at ps y → k < length outline
      → same_ends (piece mesh.positive outline k) (record { start = p; end = q }) ≡ true → IsPiece mesh m k
  piece_met m s e hp hq l h = record { within = l; same = rw (← s, ← e, ← hp, ← hq) h }

  -- a side that is a piece of the outline
  pub piece_closes : (m k : ℕ) → IsPiece mesh m k → closes mesh m ≡ true
  unfolding side_start side_end
  piece_closes m k h =
      or_right (some_side ts (side_end ts m) (side_start ts m)) _
      (some_here (λ i. same_ends (piece mesh.positive outline i) (side_between ps (side_start ts m) (side_end ts m))) (length outline) k h.within h.same)

  piece_drawn_lem : (m k : ℕ) → m < length ts * 3 → IsPiece mesh m k → piece_drawn mesh k ≡ true
  unfolding side_start side_end
  piece_drawn_lem m k l h =
      let s = side_between ps (side_start ts m) (side_end ts m) in
      rw (ends_are (piece mesh.positive outline k) s h.same)
      (some_here (λ i. bounds (face_of (at ps) (triangle_at ts i)) s) (length ts) (m / 3) (omega arith) (bounds_own (at ps) (triangle_at ts (m / 3)) (m % 3)))

  -- the first sides in the list
  pub joins_none : (opens : List ℕ) → OpensClosed mesh opens 0
  joins_none opens = record { each = λ i l. absurd (omega arith) }

  pub joins_more : (opens : List ℕ) (n : ℕ) → OpensClosed mesh opens n → closes mesh (get_or opens n 0) ≡ true
      → OpensClosed mesh opens (n + 1)
  joins_more opens n j h = record {
    each = λ i l. elim (dec_le n i) [ yes p ↦ (let d : i ≡ n = omega arith in rw d h) | no p ↦ j.each i (omega arith) ];
  }

  -- a side that has its reverse or is in the list
  pick : (opens : List ℕ) (n m : ℕ) → OpensClosed mesh opens n → (meets ts m ≡ true) ⊎ Among opens n m → closes mesh m ≡ true
  pick opens n m j (inl h) = reverse_closes m (length ts * 3) (omega arith) h
  pick opens n m j (inr a) = rw a.is at (j.each a.place a.within)

  -- all sides, if the list has all sides without a reverse
  pub joined_all : (opens : List ℕ) (n m : ℕ) → m ≤ length ts * 3 → OpensListed ts (length ts * 3) opens n → OpensClosed mesh opens n → ClosedTo mesh m
  joined_all opens n m b l j = record { each = λ i c. pick opens n i j (l.each i (omega arith)) }

  -- the sides before entry k of the list
  pub joined_before : (opens : List ℕ) (n k : ℕ) → k < n → OpensListed ts (length ts * 3) opens n → OpensClosed mesh opens k → ClosedTo mesh (get_or opens k 0)
  joined_before opens n k b l j = record { each = λ i c. pick opens k i j (l.before k b i c) }

  pub closed_none : ClosedTo mesh 0
  closed_none = record { each = λ m l. absurd (omega arith) }

  -- the marks, and how they are set
  pub marked_none : (marks : List ℕ) → Blank marks → MarksDrawn mesh marks
  marked_none marks z = record { drawn = λ k l h. absurd (omega (arith, z.at k)) }

  pub marked_more : (m k : ℕ) (marks : List ℕ) → m < length ts * 3 → IsPiece mesh m k → MarksDrawn mesh marks
      → MarksDrawn mesh (set marks k 1)
  marked_more m k marks l h t = record {
    drawn = λ i b p. elim (dec_le i k) [
      | yes u ↦ elim (dec_le k i) [
        | yes v ↦ (let d : i ≡ k = omega arith in rw d (piece_drawn_lem m k l h))
        | no v ↦ other i b p (λ d. omega arith)
      ]
      | no u ↦ other i b p (λ d. omega arith)
    ];
  }
    where
      other : (i : ℕ) → i < length outline → 0 < get_or (set marks k 1) i 0 → (i ≡ k → ⊥) → piece_drawn mesh i ≡ true
      other i b p d = t.drawn i b (rw (get_or-set_other marks k i 1 0 d) at p)

  -- the marked pieces are sides
  pub drawn_none : DrawnTo mesh 0
  drawn_none = record { each = λ k l. absurd (omega arith) }

  pub marked_drawn : (marks : List ℕ) (n : ℕ) → n ≤ length outline → MarksDrawn mesh marks → AllMarked marks n → DrawnTo mesh n
  marked_drawn marks n l t a = record { each = λ k b. t.drawn k (omega arith) (a.each k b) }

  -- nothing is shown yet
  pub shown_none : Shown mesh (record { once = 0; joined = 0; drawn = 0 })
  shown_none = record {
    once_most = omega arith;
    once = record { each = λ j l. absurd (omega arith) };
    joined_most = omega arith;
    joined = closed_none;
    drawn_most = omega arith;
    drawn = drawn_none;
  }

  -- a side is repeated
  pub shown_once : (n : ℕ) → n ≤ length ts → Once ts (n * 3) → Shown mesh (record { once = n; joined = 0; drawn = 0 })
  shown_once n l o = record { once_most = l; once = once_new ts n o; joined_most = omega arith; joined = closed_none; drawn_most = omega arith; drawn = drawn_none }

  -- no side is repeated
  pub shown_all : (n m k : ℕ) (marks : List ℕ) → n ≤ length ts → Once ts (n * 3) → m ≤ length ts * 3 → ClosedTo mesh m → k ≤ length outline
      → MarksDrawn mesh marks → AllMarked marks k → Shown mesh (record { once = n; joined = m; drawn = k })
  shown_all n m k marks l o b c d t a =
      record { once_most = l; once = once_new ts n o; joined_most = b; joined = c; drawn_most = d; drawn = marked_drawn marks k d t a }
