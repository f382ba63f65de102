-- Sums over the pieces of a ring of edges, where a segment of edge k from x to y gains `g k y` minus `g k x`. Assumes nothing.
use Prim.Native.Nat.{ℕ, zero, suc, ◌+◌, ◌≤◌, ◌<◌}
use mathlib.Core.Path.{◌≡◌, refl, ap, sym, ◌∙◌}
use mathlib.Core.List.{List, [], ◌∷◌}
use native.Mathlib.Omega.{arith}
use lib.ListN.{length, get_or, get_or-append}
use Rattle.edge.specs.Table.{table}
use Rattle.edge.proofs.Table.{length_table, get_table}
use Rattle.mesh_geometry.specs.declared.Point.{Point}
use Rattle.mesh_geometry.specs.Cover.{Side, missing}
use Rattle.mesh_geometry.specs.Edge.{Run, GoodRun, ring}
use Rattle.mesh_geometry.proofs.Lists.{All, none, more}
use Rattle.mesh_geometry.proofs.Edge.{good_some, good_to}
use Rattle.mesh_geometry.proofs.Shape.{Shape}
use Rattle.mesh_geometry.proofs.Members.{sum, sum_append}
use Rattle.mesh_geometry.proofs.Walk.{walk, walked, walk_append}

-- the sum of the gains of n edges from k on
abbrev pub gained : (ℕ → ℕ) → ℕ → ℕ → ℕ
gained g k zero = 0
gained g k (suc n) = g k + gained g (suc k) n

-- a side by its end points
abbrev pub joining : Point → Point → Side
joining p q = record { start = p; end = q }

table_head : (P : ℕ → Point) (n : ℕ) → get_or (table P n) 0 (P n) ≡ P 0
unfolding table
table_head P zero = refl
table_head P (suc n) = refl

-- along a line of points, by the gain of each segment
line_gains : (f g : Side → ℕ) (P : ℕ → Point) (x : ℕ → ℕ) (n : ℕ)
    → ((i : ℕ) → i < n → f (joining (P i) (P (suc i))) + x i ≡ g (joining (P i) (P (suc i))) + x (suc i))
    → sum f (walk (P n) (table P n)) + x 0 ≡ sum g (walk (P n) (table P n)) + x n
unfolding sum walk table
line_gains f g P x zero law = refl
line_gains f g P x (suc n) law = rw (table_head (λ i. P (suc i)) n) (omega (
  arith,
  law 0 (omega arith),
  line_gains f g (λ i. P (suc i)) (λ i. x (suc i)) n (λ i l. law (suc i) (omega arith)),
))

module _ {sides : ℕ} {Fits : ℕ → ℕ → Type 0} {place : ℕ → ℕ → ℕ → Point} {depth : Point → ℕ} {gain : ℕ → ℕ}
    (shape : Shape sides Fits place depth gain) where
  first_point : (k : ℕ) (e : Run) (es : List Run) (z : Point) → GoodRun e → get_or (ring place k (e ∷ es) 0) 0 z ≡ place k 0 0
  unfolding ring
  first_point k e es z g =
      get_or-append (table _ e.c) (ring place (suc k) es 0) z 0 (rw length_table (good_some g))
      ∙ get_table (λ i. place k (e.q i) 0) e.c z 0 (good_some g) ∙ ap (λ x. place k x 0) g.first

  -- also if no edge is left, and the walk is back at the start
  ring_start : (k : ℕ) (es : List Run) (z : Point) → k + length es ≡ sides → All GoodRun es → z ≡ place sides 0 0
      → get_or (ring place k es 0) 0 z ≡ place k 0 0
  unfolding ring
  ring_start k [] z n none e = let i : sides ≡ k = omega arith in e ∙ ap (λ j. place j 0 0) i
  ring_start k (r ∷ es) z n (more g gs) e = first_point k r es z g

  module _ (f h : Side → ℕ) (g : ℕ → ℕ → ℕ)
      (law : (k x y : ℕ) → x < y → y ≤ 65536
      → f (joining (place k x 0) (place k y 0)) + g k x ≡ h (joining (place k x 0) (place k y 0)) + g k y) where
    edge_gains : (k : ℕ) (e : Run) (z : Point) → GoodRun e → z ≡ place (suc k) 0 0
        → sum f (walk z (table (λ i. place k (e.q i) 0) e.c)) + g k 0
        ≡ sum h (walk z (table (λ i. place k (e.q i) 0) e.c)) + g k 65536
    edge_gains k e z r i =
        rw (i ∙ sym (shape.next k 65536 0 refl) ∙ ap (λ x. place k x 0) (sym r.last))
        (omega (
          arith,
          ap (g k) r.first,
          ap (g k) r.last,
          line_gains f h (λ j. place k (e.q j) 0) (λ j. g k (e.q j)) e.c
              (λ j l. law k (e.q j) (e.q (suc j)) (r.rises j l) (good_to r (suc j) l)),
        ))

    ring_gains : (k : ℕ) (es : List Run) (z : Point) → k + length es ≡ sides → All GoodRun es → z ≡ place sides 0 0
        → sum f (walk z (ring place k es 0)) + gained (λ j. g j 0) k (length es) ≡ sum h (walk z (ring place k es 0)) + gained (λ j. g j 65536) k (length es)
    unfolding ring sum walk
    ring_gains k [] z n none i = refl
    ring_gains k (e ∷ es) z n (more r rs) i =
        rw (walk_append z (table (λ j. place k (e.q j) 0) e.c) (ring place (suc k) es 0), sum_append f, sum_append h) (omega (
          arith,
          edge_gains k e (get_or (ring place (suc k) es 0) 0 z) r (ring_start (suc k) es z (omega arith) rs i),
          ring_gains (suc k) es z (omega arith) rs i,
        ))

    pub rim_gains : (es : List Run) → length es ≡ sides → All GoodRun es
        → sum f (walked (ring place 0 es 0)) + gained (λ j. g j 0) 0 sides ≡ sum h (walked (ring place 0 es 0)) + gained (λ j. g j 65536) 0 sides
    rim_gains [] n none = absurd (omega (arith, shape.some))
    rim_gains (e ∷ es) n (more r rs) =
        rw (← n) (ring_gains 0 (e ∷ es) _ (omega arith) (more r rs) (first_point 0 e es missing r ∙ sym (shape.round 0)))
