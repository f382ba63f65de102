-- A mesh by vertex numbers covers its patch if its points are distinct, its triangles have one orientation and its sides close
-- up. Assumes nothing.
use Prim.Native.Nat.{ℕ, zero, suc, ◌+◌, ◌-◌, ◌*◌, ◌≤◌, ◌<◌}
use mathlib.Core.Path.{◌≡◌, refl, ap, sym, ◌∙◌}
use mathlib.Core.Bool.{Bool, true, false}
use mathlib.Core.Logic.{inl, inr, ⊎_elim}
use mathlib.Core.List.{List, [], ◌∷◌, ◌++◌, map}
use native.Mathlib.Omega.{arith}
use native.Mathlib.Decide.{dec_le}
use lib.ListN.{length, get_or-append, get_or-eq_default}
use Rattle.strip.specs.declared.triangle.Triangle.{Triangle}
use Rattle.strip.specs.Triangles.{turned}
use Rattle.mesh_topology.specs.Sides.{hit, flip, sum_sides, sum, uses, line_sum}
use Rattle.mesh_topology.specs.Ring.{ring_at}
use Rattle.mesh_topology.specs.Closes.{CornersWithin, Closes}
use Rattle.mesh_topology.proofs.Hits.{hit_at, hit_flip}
use Rattle.mesh_topology.proofs.Ring.{ring_point, ring_before}
use Rattle.mesh_geometry.specs.declared.Point.{Point}
use Rattle.mesh_geometry.specs.Cover.{missing, twice_area, total_twice_area, signed, HasSign, next_point, piece, Cover}
use Rattle.mesh_geometry.specs.Faces.{at, face_of, faces_of}
use Rattle.mesh_geometry.proofs.Signed.{Is, is_same, is_add, is_above, is_below, is_area, cross, loop}
use Rattle.mesh_geometry.proofs.Lists.{All, all_more, all_map, all_at, get_within, Distinct, distinct_at}
use Rattle.mesh_geometry.proofs.Pieces.{drawn, Joins, single_side, outlined_side, outside_side, closed_side}
use Rattle.mesh_geometry.proofs.StripTurns.{Turns}

-- the weight of the side x→y: twice the area is the sum over all sides, minus the sum over their reverses
abbrev pub weight : (ℕ → Point) → ℕ → ℕ → ℕ
weight P x y = cross (P x) (P y)

is_total : (P : ℕ → Point) (ts : List Triangle)
    → Is (total_twice_area (map (face_of P) ts)) (sum_sides (weight P) ts) (sum_sides (flip (weight P)) ts)
unfolding total_twice_area sum_sides
is_total P [] = refl
is_total P (t ∷ ts) =
    is_same (total_twice_area (map (face_of P) (t ∷ ts))) _ _ _ _
    (is_add (twice_area (face_of P t)) (total_twice_area (map (face_of P) ts)) _ _ _ _ (is_area (face_of P t)) (is_total P ts)) (omega arith)

-- a line whose segments each outweigh their reverses by c per unit of x
pub line_gain : (f : ℕ → ℕ → ℕ) (A x : ℕ → ℕ) (c n : ℕ)
    → ((j : ℕ) → j < n → f (A j) (A (suc j)) + c * x j ≡ f (A (suc j)) (A j) + c * x (suc j))
    → line_sum f A n + c * x 0 ≡ line_sum (flip f) A n + c * x n
unfolding sum
line_gain f A x c zero h = refl
line_gain f A x c (suc n) h = omega (arith, line_gain f A x c n (λ j l. h j (omega arith)), h n (omega arith))

abbrev aimed : Bool → (ℕ → ℕ → ℕ) → ℕ → ℕ → ℕ
aimed true f = f
aimed false f = flip f

sum_turned : (b : Bool) (f : ℕ → ℕ → ℕ) (ts : List Triangle) → sum_sides f (map (turned b) ts) ≡ sum_sides (aimed b f) ts
unfolding sum_sides
sum_turned true f [] = refl
sum_turned false f [] = refl
sum_turned true f (t ∷ ts) = omega (arith, sum_turned true f ts)
sum_turned false f (t ∷ ts) = omega (arith, sum_turned false f ts)

whole_is : (b : Bool) (area : ℕ) (P : ℕ → Point) (ts : List Triangle) → sum_sides (weight P) ts ≡ sum_sides (flip (weight P)) ts + area
    → total_twice_area (map (face_of P) (map (turned b) ts)) ≡ signed b area
whole_is true area P ts h =
    is_above _ _ _ area (is_total P (map (turned true) ts)) (rw (sum_turned true (weight P) ts, sum_turned true (flip (weight P)) ts) h)
whole_is false area P ts h =
    is_below _ _ _ area (is_total P (map (turned false) ts)) (rw (sum_turned false (weight P) ts, sum_turned false (flip (weight P)) ts) h)

sign : (b : Bool) (P : ℕ → Point) (t : Triangle) → Turns P t → HasSign b (twice_area (face_of P (turned b t)))
sign b P t h = record { size = x - y; above = omega arith; is = go b }
  where
    x : ℕ
    x = loop (P t.a) (P t.b) (P t.c)

    y : ℕ
    y = loop (P t.a) (P t.c) (P t.b)

    go : (b : Bool) → twice_area (face_of P (turned b t)) ≡ signed b (x - y)
    go true = is_above _ x y (x - y) (is_area (face_of P t)) (omega arith)
    go false = is_below _ y x (x - y) (is_area (face_of P (turned false t))) (omega arith)

-- the vertices of a side are in range
used_within : (base top : ℕ) (ts : List Triangle) → CornersWithin base top ts → (x y : ℕ) → 1 ≤ uses x y ts → (x < top) × (y < top)
unfolding sum_sides
used_within base top [] w x y h = absurd (omega arith)
used_within base top (t ∷ ts) w x y h =
    elim (dec_le 1 (hit x y t.a t.b)) [
      | yes k ↦ omega (arith, hit_at x y _ _ k)
      | no k ↦ elim (dec_le 1 (hit x y t.b t.c)) [
        | yes l ↦ omega (arith, hit_at x y _ _ l)
        | no l ↦ elim (dec_le 1 (hit x y t.c t.a)) [
          | yes m ↦ omega (arith, hit_at x y _ _ m)
          | no m ↦ used_within base top ts w.3 x y (omega arith)
        ]
      ]
    ]

-- the ends of piece k of the outline, in the orientation asked for
abbrev start_of : Bool → ℕ → ℕ → ℕ
start_of true total k = ring_at 0 total k
start_of false total k = ring_at 0 total (suc k)

abbrev end_of : Bool → ℕ → ℕ → ℕ
end_of true total k = ring_at 0 total (suc k)
end_of false total k = ring_at 0 total k

joins : (b : Bool) (top total : ℕ) (ts : List Triangle) → Closes 0 top total ts
    → Joins top total (start_of b total) (end_of b total) (map (turned b) ts)
joins true top total ts c = record {
  within = λ x y h. used_within 0 top ts c.within x y (rw sum_turned at h);
  single = λ x y. rw sum_turned (c.single x y);
  outline = λ k h. rw sum_turned (c.outline k h);
  outside = λ k h. rw sum_turned (c.outside k h);
  met = λ x y h. rw sum_turned (c.met x y (rw sum_turned at h));
}
joins false top total ts c = record {
  within = λ x y h. let w = used_within 0 top ts c.within y x (back x y h) in (w.1, w.0);
  single = λ x y. rw (over x y) (c.single y x);
  outline = λ k h. rw (over _ _) (c.outline k h);
  outside = λ k h. rw (over _ _) (c.outside k h);
  met = λ x y h. ⊎_elim (λ m. inl (m.0, m.1, m.3, m.2)) (λ m. inr (rw (over y x) m)) (c.met y x (back x y h));
}
  where
    over : (x y : ℕ) → uses x y (map (turned false) ts) ≡ uses y x ts
    over x y = sum_turned false (hit x y) ts ∙ rw hit_flip

    back : (x y : ℕ) → 1 ≤ uses x y (map (turned false) ts) → 1 ≤ uses y x ts
    back x y h = rw (over x y) at h

-- the first points are the outline
module _ (outline rest : List Point) (total : ℕ) (all : length outline ≡ total) where
  out_at : (k : ℕ) → k < total → at outline k ≡ at (outline ++ rest) k
  out_at k h = sym (get_or-append outline rest missing k (omega arith))

  out_start : (k : ℕ) → k < total → at outline k ≡ at (outline ++ rest) (ring_at 0 total k)
  out_start k h = out_at k h ∙ ap (at (outline ++ rest)) (omega (arith, ring_before 0 total k h))

  out_next : (k : ℕ) → k < total → next_point outline k ≡ at (outline ++ rest) (ring_at 0 total (suc k))
  unfolding next_point
  out_next k h = ⊎_elim
      (λ e. get_or-eq_default outline _ (omega arith) ∙ out_at 0 (omega arith) ∙ ap (at (outline ++ rest)) (omega arith))
      (λ e. let l : suc k < total = less e.0 in
      get_within outline _ missing (suc k) (omega arith) ∙ out_at (suc k) l ∙ ap (at (outline ++ rest)) (omega arith))
      (ring_point 0 total (suc k))
    where
      less : (suc k ≡ total → ⊥) → suc k < total
      less f = omega arith

  piece_is : (b : Bool) (k : ℕ) → k < total
      → piece b outline k ≡ drawn (at (outline ++ rest)) (record { from = start_of b total k; to = end_of b total k })
  piece_is true k h = λ i. record { start = out_start k h i; end = out_next k h i }
  piece_is false k h = λ i. record { start = out_next k h i; end = out_start k h i }

-- any mesh with distinct points whose triangles by number close up
module _ (b : Bool) (area total : ℕ) (outline rest : List Point) (ts : List Triangle)
    (all : length outline ≡ total) (apart : Distinct (outline ++ rest))
    (turns : All (Turns (at (outline ++ rest))) ts) (closes : Closes 0 (length (outline ++ rest)) total ts)
    (weighs : sum_sides (weight (at (outline ++ rest))) ts ≡ sum_sides (flip (weight (at (outline ++ rest)))) ts + area) where
  abbrev ps : List Point
  ps = outline ++ rest

  one_each : (x y : ℕ) → x < length ps → y < length ps → at ps x ≡ at ps y → x ≡ y
  one_each x y l m e = distinct_at ps missing x y l m apart e

  pub covers : Cover b area outline (outline ++ rest) (faces_of b (outline ++ rest) ts)
  covers = record {
    distinct = one_each;
    turned = λ k h. all_at _ k h
        (all_map (face_of (at ps)) (λ f. HasSign b (twice_area f)) (all_map (turned b) _ (all_more (sign b (at ps)) turns)));
    single = single_side (at ps) (length ps) total _ _ _ j one_each;
    outlined = λ k h. rw (is k h) (outlined_side (at ps) (length ps) total _ _ _ j one_each k (omega arith));
    outside = λ k h. rw (is k h) (outside_side (at ps) (length ps) total _ _ _ j one_each k (omega arith));
    closed = λ i h. ⊎_elim (λ w. inl (w.0, omega (arith, w.1), w.2 ∙ sym (piece_is outline rest total all b w.0 w.1))) inr
        (closed_side (at ps) (length ps) total _ _ _ j one_each i h);
    whole = whole_is b area (at ps) ts weighs;
  }
    where
      j : Joins (length ps) total (start_of b total) (end_of b total) (map (turned b) ts)
      j = joins b (length ps) total ts closes

      is : (k : ℕ) → k < length outline → piece b outline k ≡ drawn (at ps) (record { from = start_of b total k; to = end_of b total k })
      is k h = piece_is outline rest total all b k (omega arith)
