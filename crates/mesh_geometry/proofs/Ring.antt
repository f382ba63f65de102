-- The points of a ring of any number of edges: how many there are, where they lie, and that they are distinct. Assumes nothing.
use Prim.Native.Nat.{ℕ, suc, ◌+◌, ◌≤◌, ◌<◌}
use mathlib.Core.Path.{◌≡◌, refl, sym, ◌∙◌}
use mathlib.Core.List.{List, [], ◌∷◌, ◌++◌}
use native.Mathlib.Omega.{arith}
use lib.ListN.{length, length-append, get_or-append}
use lib.Seq.{get_or-append-add}
use Rattle.edge.specs.Table.{table}
use Rattle.edge.proofs.Table.{length_table, get_table}
use Rattle.mesh_geometry.specs.declared.Point.{Point}
use Rattle.mesh_geometry.specs.Cover.{missing}
use Rattle.mesh_geometry.specs.Faces.{at}
use Rattle.mesh_geometry.specs.Edge.{Run, around, ring}
use Rattle.mesh_geometry.proofs.Lists.{All, none, more, all_append, all_more, all_table, Distinct, distinct_append, distinct_table}
use Rattle.mesh_geometry.proofs.Edge.{Span, span_less, span_from, span_to, span_before}
use Rattle.mesh_geometry.proofs.Shape.{Shape}

-- a table at the front of a list of points
pub table_at : (f : ℕ → Point) (n : ℕ) (l : List Point) (i : ℕ) → i < n → at (table f n ++ l) i ≡ f i
table_at f n l i h = get_or-append (table f n) l missing i (rw length_table h) ∙ get_table f n missing i h

pub past : (s t : List Point) (n i : ℕ) → length s ≡ n → at (s ++ t) (n + i) ≡ at t i
past s t n i e = rw (← e) (get_or-append-add s t i missing)

pub ring_length : (place : ℕ → ℕ → ℕ → Point) (k : ℕ) (es : List Run) (d : ℕ) → length (ring place k es d) ≡ around es
unfolding ring
ring_length place k [] d = refl
ring_length place k (e ∷ es) d = simp (length-append, length_table) (omega (arith, ring_length place (suc k) es d))

module _ {sides : ℕ} {Fits : ℕ → ℕ → Type 0} {place : ℕ → ℕ → ℕ → Point} {depth : Point → ℕ} {gain : ℕ → ℕ}
    (shape : Shape sides Fits place depth gain) where
  -- a point of edge k, d units inside, before the end of the edge; and a point of edge k or a later one
  abbrev On : ℕ → ℕ → Point → Type 0
  On d k p = (x : ℕ) × (d ≤ x) × (x + d < 65536) × (p ≡ place k x d)

  abbrev From : ℕ → ℕ → Point → Type 0
  From d k p = (j : ℕ) × (k ≤ j) × (j < sides) × On d j p

  edge_on : (k d : ℕ) {e : Run} → Span d e → All (On d k) (table (λ i. place k (e.q i) d) e.c)
  edge_on k d {e} s = all_table _ _ e.c (λ i l. (e.q i, span_from s i (omega arith), span_before s i l, refl))

  ring_from : (k : ℕ) (es : List Run) (d : ℕ) → k + length es ≤ sides → All (Span d) es → All (From d k) (ring place k es d)
  unfolding ring
  ring_from k [] d h none = none
  ring_from k (e ∷ es) d h (more s ss) =
      all_append _ (all_more (λ p w. (k, omega arith, omega arith, w)) (edge_on k d s))
      (all_more (λ p w. (w.0, omega (arith, w.1), w.2, w.3)) (ring_from (suc k) es d (omega arith) ss))

  pub ring_distinct : (k : ℕ) (es : List Run) (d : ℕ) → k + length es ≤ sides → All (Span d) es → Distinct (ring place k es d)
  unfolding ring
  ring_distinct k [] d h none = none
  ring_distinct k (e ∷ es) d h (more s ss) =
      distinct_append (On d k) (From d (suc k)) _
      (λ p q v w eq. let z = w.3 in
      shape.apart k w.0 v.0 z.0 d w.1 w.2 v.1 v.2 z.1 z.2 (sym v.3 ∙ eq ∙ z.3))
      (edge_on k d s) (ring_from (suc k) es d (omega arith) ss)
      (distinct_table _ e.c (λ i j l m eq. omega (
        arith,
        span_less s i j l (omega arith),
        shape.same k (e.q i) (e.q j) d (fits i (omega arith)) (fits j (omega arith)) eq,
      )))
      (ring_distinct (suc k) es d (omega arith) ss)
    where
      fits : (i : ℕ) → i ≤ e.c → Fits (e.q i) d
      fits i l = shape.fits _ _ (span_from s i l) (span_to s i l)

  -- a property of all places holds for the points of a ring
  pub ring_all : (Q : Point → Type 0) (d : ℕ) → ((k x : ℕ) → d ≤ x → x + d ≤ 65536 → Q (place k x d))
      → (k : ℕ) (es : List Run) → All (Span d) es → All Q (ring place k es d)
  unfolding ring
  ring_all Q d law k [] none = none
  ring_all Q d law k (e ∷ es) (more s ss) =
      all_append _ (all_table Q _ e.c (λ i l. law k (e.q i) (span_from s i (omega arith)) (span_to s i (omega arith))))
      (ring_all Q d law (suc k) es ss)
