-- The table of points: what a search in it passes, and the table with one more point. Assumes nothing.
use Prim.Native.Nat.{ℕ, zero, suc, ◌+◌, ◌-◌, ◌*◌, ◌%◌, ◌≤◌, ◌<◌}
use mathlib.Core.Path.{◌≡◌, refl, sym, ap, ◌∙◌}
use mathlib.Core.Bool.{Bool, true, false, true≢false}
use mathlib.Core.List.{List}
use native.Mathlib.Omega.{arith}
use native.Mathlib.Decide.{dec_le}
use lib.ListN.{length, get_or, set, length-set, replicate}
use lib.Seq.{get_or-set_same, get_or-set_other}
use Rattle.mesh_geometry.specs.declared.Point.{Point}
use Rattle.mesh_geometry.specs.Faces.{at}
use Rattle.check_searches.specs.Points.{same_point, repeats}
use Rattle.check_searches.proofs.First.{some_none, some_here}
use Rattle.check_searches.proofs.Equal.{same_is}
use Rattle.point_table.specs.Trees.{slot_of, path_step, rest_after, next_place, place_at, Way, PathHolds, PointTable, PointSought}
use Rattle.point_table.specs.Trees.Way.{steps}
use Rattle.point_table.specs.Trees.PathHolds.{held}

test_false : (b : Bool) → (b ≡ true → ⊥) → b ≡ false
test_false true h = absurd (h refl)
test_false false h = refl

-- ---- a search: no point at the places so far equals p
pub data Passed (ps : List Point) (t : List ℕ) (slots : ℕ) (p rest : Point) (x : ℕ) : Type 0 where
  passing : (d : ℕ) → rest ≡ rest_after p d → x ≡ place_at t slots p d
      → ((e : ℕ) → e < d → (0 < get_or t (place_at t slots p e) 0) × (same_point (at ps (get_or t (place_at t slots p e) 0 - 1)) p ≡ false)) → Passed ps t slots p rest x

module _ (ps : List Point) (t : List ℕ) (slots : ℕ) (p : Point) where
  pub passed_none : (x : ℕ) → x ≡ slot_of slots p → Passed ps t slots p p x
  unfolding place_at rest_after
  passed_none x e = passing 0 refl e (λ i l. absurd (omega arith))

  next_is : (x k b : ℕ) → 0 < k → next_place slots x k b ≡ slots + 2 * (k - 1) + b
  next_is x zero b l = absurd (omega arith)
  next_is x (suc k) b l = let e : suc k - 1 ≡ k = omega arith in rw e

  step_is : (d : ℕ) → 0 < get_or t (place_at t slots p d) 0 → place_at t slots p (suc d) ≡ slots + 2 * (get_or t (place_at t slots p d) 0 - 1) + (rest_after p d).u % 2
  unfolding place_at
  step_is d l = next_is (place_at t slots p d) (get_or t (place_at t slots p d) 0) ((rest_after p d).u % 2) l

  rest_step : (d : ℕ) → rest_after p (suc d) ≡ path_step (rest_after p d)
  unfolding rest_after
  rest_step d = refl

  -- past a point other than p
  pub passed_more : {rest rest' : Point} {x : ℕ} (k b : ℕ) → Passed ps t slots p rest x → k ≡ get_or t x 0 → 0 < k → same_point (at ps (k - 1)) p ≡ false → rest' ≡ path_step rest → b ≡ rest.u % 2
      → Passed ps t slots p rest' (slots + 2 * (k - 1) + b)
  passed_more {rest} {rest'} {x} k b (passing d r e h) v l s r' f =
      let place : k ≡ get_or t (place_at t slots p d) 0 = v ∙ ap (λ (y : ℕ). get_or t y 0) e in
      let bit : b ≡ (rest_after p d).u % 2 = f ∙ ap (λ (q : Point). q.u % 2) r in
      passing (suc d) (r' ∙ ap path_step r ∙ sym (rest_step d)) (rw (place, bit) (sym (step_is d (rw place at l))))
      (λ i m. elim (dec_le d i) [
        | yes y ↦ (let z : i ≡ d = omega arith in rw (z, ← place) (l, s))
        | no y ↦ h i (omega arith)
      ])

  -- at an empty place: no point in the table equals p
  meets : {rest : Point} {x : ℕ} → Passed ps t slots p rest x → get_or t x 0 ≡ 0 → (i : ℕ) → same_point (at ps i) p ≡ true → PathHolds t slots p (suc i) → ⊥
  meets (passing d r e h) z i s (held y (steps b f o) v) = elim (dec_le d b) [
    | yes m ↦ elim (dec_le b d) [
      | yes m' ↦ (let q : b ≡ d = omega arith in let w : suc i ≡ 0 = sym v ∙ ap (λ (j : ℕ). get_or t j 0) (f ∙ ap (place_at t slots p) q ∙ sym e) ∙ z in omega arith)
      | no m' ↦ (let w : 0 < get_or t (place_at t slots p d) 0 = o d (omega arith) in omega (arith, ap (λ (j : ℕ). get_or t j 0) (sym e) ∙ z))
    ]
    | no m ↦ (
        let w : get_or t (place_at t slots p b) 0 ≡ suc i = ap (λ (j : ℕ). get_or t j 0) (sym f) ∙ v in
        let u : get_or t (place_at t slots p b) 0 - 1 ≡ i = omega arith in
        true≢false (sym s ∙ ap (λ (j : ℕ). same_point (at ps j) p) (sym u) ∙ (h b (omega arith)).1)
        )
  ]

  pub passed_all : {n : ℕ} {rest : Point} {x : ℕ} → PointTable ps slots n t → Passed ps t slots p rest x → get_or t x 0 ≡ 0 → (i : ℕ) → i < n → same_point (at ps i) p ≡ false
  passed_all {n} {rest} {x} g h z i l = test_false (same_point (at ps i) p) (λ s. meets h z i s (rw (same_is (at ps i) p s) at (g.there i l)))

  pub passed_way : {rest : Point} {x : ℕ} → Passed ps t slots p rest x → Way t slots p x
  passed_way (passing d r e h) = steps d e (λ i l. (h i l).0)

-- ---- a search ends at a point equal to p, or at an empty place
module _ {ps : List Point} {slots n : ℕ} {t : List ℕ} {p rest : Point} {x : ℕ} (h : Passed ps t slots p rest x) (l : x < slots + 2 * n) where
  pub sought_at : (k : ℕ) → k ≡ get_or t x 0 → 0 < k → same_point (at ps (k - 1)) p ≡ true → PointSought ps slots n t p x
  sought_at k e g s = record { place = l; found = λ z. rw (← e) s; none = λ z. absurd (omega arith); way = passed_way ps t slots p h }

  pub sought_empty : PointTable ps slots n t → get_or t x 0 ≡ 0 → PointSought ps slots n t p x
  sought_empty g z = record { place = l; found = λ m. absurd (omega arith); none = λ e. passed_all ps t slots p g h e; way = passed_way ps t slots p h }

-- ---- the table with one more point, at an empty place
module _ (t : List ℕ) (slots x v : ℕ) (z : get_or t x 0 ≡ 0) where
  apart : (y : ℕ) → 0 < get_or t y 0 → y ≡ x → ⊥
  apart y l e = omega (arith, ap (λ (j : ℕ). get_or t j 0) e)

  other : (y : ℕ) → 0 < get_or t y 0 → get_or (set t x v) y 0 ≡ get_or t y 0
  other y l = get_or-set_other t x y v 0 (apart y l)

  place_kept : (q : Point) (d : ℕ) → ((e : ℕ) → e < d → 0 < get_or t (place_at t slots q e) 0) → place_at (set t x v) slots q d ≡ place_at t slots q d
  unfolding place_at
  place_kept q zero h = refl
  place_kept q (suc d) h = rw (place_kept q d (λ e l. h e (omega arith)), other (place_at t slots q d) (h d (omega arith)))

  way_kept : (q : Point) (y : ℕ) → Way t slots q y → Way (set t x v) slots q y
  way_kept q y (steps d e h) = steps d (e ∙ sym (place_kept q d h))
      (λ i l. rw (place_kept q i (λ j m. h j (omega arith)), other (place_at t slots q i) (h i l)) (h i l))

equal_or : (x y : ℕ) (P : Type 0) → (x ≡ y → P) → ((x ≡ y → ⊥) → P) → P
equal_or x y P f g = elim (dec_le x y) [
  | yes p ↦ elim (dec_le y x) [ yes q ↦ f (omega arith) | no q ↦ g (λ e. omega arith) ]
  | no p ↦ g (λ e. omega arith)
]

module _ (ps : List Point) (slots n : ℕ) (t : List ℕ) (g : PointTable ps slots n t) (x : ℕ) (s : PointSought ps slots n t (at ps n) x) (z : get_or t x 0 ≡ 0)
    (fits : slots + 2 * (n + 1) ≤ length t) where
  here : get_or (set t x (n + 1)) x 0 ≡ n + 1
  here = get_or-set_same t x (n + 1) 0 (omega (arith, s.place))

  most_more : (y : ℕ) → get_or (set t x (n + 1)) y 0 ≤ n + 1
  most_more y = equal_or y x (get_or (set t x (n + 1)) y 0 ≤ n + 1)
      (λ e. rw (e, here) (omega arith))
      (λ e. omega (arith, get_or-set_other t x y (n + 1) 0 e, g.most y))

  down_more : (y : ℕ) → 0 < get_or (set t x (n + 1)) y 0 → y + 2 < slots + 2 * get_or (set t x (n + 1)) y 0
  down_more y = equal_or y x (0 < get_or (set t x (n + 1)) y 0 → y + 2 < slots + 2 * get_or (set t x (n + 1)) y 0)
      (λ e l. rw (e, here) (omega (arith, s.place)))
      (λ e. rw (get_or-set_other t x y (n + 1) 0 e) (g.down y))

  held_kept : (q : Point) (k : ℕ) → 0 < k → PathHolds t slots q k → PathHolds (set t x (n + 1)) slots q k
  held_kept q k l (held y w e) = held y (way_kept t slots x (n + 1) z q y w) (other t slots x (n + 1) z y (rw e l) ∙ e)

  there_more : (i : ℕ) → i < n + 1 → PathHolds (set t x (n + 1)) slots (at ps i) (suc i)
  there_more i l = elim (dec_le n i) [
    | yes p ↦ (let e : i ≡ n = omega arith in let f : n + 1 ≡ suc n = omega arith in rw e (held x (way_kept t slots x (n + 1) z (at ps n) x s.way) (here ∙ f)))
    | no p ↦ held_kept (at ps i) (suc i) (omega arith) (g.there i (omega arith))
  ]

  pub table_more : PointTable ps slots (n + 1) (set t x (n + 1))
  table_more = record { room = omega (arith, length-set t x (n + 1)); most = most_more; down = down_more; there = there_more }

-- ---- the empty table
zero_at : (n k : ℕ) → ◌≡◌ {A = ℕ} (get_or (replicate n 0) k 0) 0
zero_at zero k = refl
zero_at (suc n) zero = refl
zero_at (suc n) (suc k) = zero_at n k

pub table_none : (ps : List Point) (slots n : ℕ) → slots ≤ length (replicate {A = ℕ} n 0) → PointTable ps slots 0 (replicate n 0)
table_none ps slots n l = record { room = omega arith; most = λ x. omega (arith, zero_at n x); down = λ x m. absurd (omega (arith, zero_at n x)); there = λ i m. absurd (omega arith) }

-- ---- what a search for the next point shows
module _ {ps : List Point} {slots n : ℕ} {t : List ℕ} {p : Point} {x : ℕ} (s : PointSought ps slots n t p x) (e : p ≡ at ps n) where
  pub sought_new : get_or t x 0 ≡ 0 → repeats ps n ≡ false
  sought_new z = some_none (λ i. same_point (at ps i) (at ps n)) n (λ i l. rw e at (s.none z i l))

  pub sought_again : PointTable ps slots n t → 0 < get_or t x 0 → repeats ps n ≡ true
  sought_again g l = some_here (λ i. same_point (at ps i) (at ps n)) n (get_or t x 0 - 1) (omega (arith, g.most x)) (rw e at (s.found l))
