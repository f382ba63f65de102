-- A patch of an outline and inner points is covered by triangles of positive orientation that fill the outline. Assumes nothing.
use Prim.Native.Nat.{ℕ, suc, ◌+◌, ◌*◌, ◌<◌}
use mathlib.Core.Path.{◌≡◌, ap, ◌∙◌}
use mathlib.Core.Bool.{Bool}
use mathlib.Core.List.{List, [], ◌∷◌, ◌++◌}
use native.Mathlib.Omega.{arith}
use native.Mathlib.Nat.{add-zero, zero-add, add_assoc}
use lib.ListN.{length}
use Rattle.strip.specs.declared.triangle.Triangle.{Triangle}
use Rattle.mesh_topology.specs.Sides.{flip, sum, line_sum}
use Rattle.mesh_topology.specs.Ring.{ring_at, ring_sum}
use Rattle.mesh_topology.specs.Band.{from}
use Rattle.mesh_topology.specs.Closes.{Closes, Stokes}
use Rattle.mesh_topology.proofs.Line.{line_from}
use Rattle.mesh_geometry.specs.declared.Point.{Point}
use Rattle.mesh_geometry.specs.Cover.{Cover}
use Rattle.mesh_geometry.specs.Faces.{at, faces_of}
use Rattle.mesh_geometry.specs.Edge.{Run, GoodRun, around, ring}
use Rattle.mesh_geometry.proofs.Lists.{All, none, more, all_more, Distinct, distinct_append}
use Rattle.mesh_geometry.proofs.Edge.{Span, good_span, good_some}
use Rattle.mesh_geometry.proofs.StripTurns.{Turns, Line}
use Rattle.mesh_geometry.proofs.Covers.{weight, line_gain, covers}
use Rattle.mesh_geometry.proofs.Shape.{Shape}
use Rattle.mesh_geometry.proofs.Ring.{ring_length, ring_distinct, ring_all}
use Rattle.mesh_geometry.proofs.Lines.{Lines, first_lines}

-- the sum of the gains of the edges k, k + 1, ..
abbrev pub gained : (ℕ → ℕ) → ℕ → List Run → ℕ
gained gain k [] = 0
gained gain k (e ∷ es) = gain k + gained gain (suc k) es

module _ {sides : ℕ} {Fits : ℕ → ℕ → Type 0} {place : ℕ → ℕ → ℕ → Point} {depth : Point → ℕ} {gain : ℕ → ℕ}
    (shape : Shape sides Fits place depth gain) where
  module _ (P : ℕ → Point) (F : ℕ → ℕ) where
    line_weighs : (k o : ℕ) (e : Run) → Span 0 e → Line Fits (place k) P (from o F) e.q e.c 0
        → line_sum (weight P) (from o F) e.c ≡ line_sum (flip (weight P)) (from o F) e.c + 65536 * gain k
    line_weighs k o e s l = omega (
      arith,
      line_gain (weight P) (from o F) e.q (gain k) e.c
          (λ j h. rw (l.drawn j (omega arith), l.drawn (suc j) h)
          (shape.gains k (e.q j) (e.q (suc j)) (l.fits j (omega arith)) (l.fits (suc j) h))),
      ap (λ n. gain k * n) s.low,
      ap (λ n. gain k * n) s.high,
    )

    lines_weigh : (k o : ℕ) (es : List Run) → All (Span 0) es → Lines shape P F 0 k o es
        → line_sum (weight P) F (o + around es) + line_sum (flip (weight P)) F o
        ≡ line_sum (flip (weight P)) F (o + around es) + line_sum (weight P) F o + 65536 * gained gain k es
    lines_weigh k o [] none l = rw (add-zero o) (omega arith)
    lines_weigh k o (e ∷ es) (more s ss) l = rw (← (add_assoc o e.c (around es))) (omega (
      arith,
      lines_weigh (suc k) (o + e.c) es ss l.1,
      line_weighs k o e s l.0,
      line_from (weight P) F o e.c,
      line_from (flip (weight P)) F o e.c,
    ))

  -- the parts of a patch: the edges of its outline, with m segments, and the inner points
  pub record Parts (m : ℕ) (es : List Run) (rest : List Point) : Type 0 where
    pub each : length es ≡ sides
    pub total : around es ≡ m
    pub good : All GoodRun es
    pub deep : All (λ p. 0 < depth p) rest
    pub distinct : Distinct rest

  module _ {m : ℕ} {es : List Run} {rest : List Point} (patch : Parts m es rest) where
    abbrev ps : List Point
    ps = ring place 0 es 0 ++ rest

    spans : All (Span 0) es
    spans = all_more (λ e g. good_span g) patch.good

    pub outline_lines : Lines shape (at (ring place 0 es 0 ++ rest)) (ring_at 0 m) 0 0 0 es
    outline_lines = go es patch.each patch.total patch.good spans
      where
        go : (es : List Run) → length es ≡ sides → around es ≡ m → All GoodRun es → All (Span 0) es
            → Lines shape (at (ring place 0 es 0 ++ rest)) (ring_at 0 m) 0 0 0 es
        go [] en em none ss = absurd (omega (arith, shape.some))
        go (e ∷ es) en em (more g gs) ss = first_lines shape _ 0 m 0 e es rest en em ss (good_some g) (λ k. rw (zero-add k))

    patch_distinct : Distinct ps
    patch_distinct =
        distinct_append (λ p. depth p ≡ 0) (λ p. 0 < depth p) rest (λ x y a b e. omega (arith, ap depth e))
        (ring_all shape (λ p. depth p ≡ 0) 0 (λ k x l h. shape.rim k x (omega arith)) 0 es spans) patch.deep
        (ring_distinct shape 0 es 0 (omega (arith, patch.each)) spans) patch.distinct

    outline_weighs : ring_sum (weight (at ps)) 0 m ≡ ring_sum (flip (weight (at ps))) 0 m + 65536 * gained gain 0 es
    unfolding sum
    outline_weighs =
        let e : 0 + around es ≡ m = omega (arith, patch.total) in
        omega (arith, rw e at (lines_weigh (at ps) (ring_at 0 m) 0 0 es spans outline_lines))

    pub patch_covered : (ts : List Triangle) → All (Turns (at (ring place 0 es 0 ++ rest))) ts
        → Closes 0 (length (ring place 0 es 0 ++ rest)) m ts → Stokes 0 m ts
        → (b : Bool)
        → Cover b (65536 * gained gain 0 es) (ring place 0 es 0) (ring place 0 es 0 ++ rest) (faces_of b (ring place 0 es 0 ++ rest) ts)
    patch_covered ts turns closes stokes b =
        covers b (65536 * gained gain 0 es) m (ring place 0 es 0) rest ts (ring_length place 0 es 0 ∙ patch.total) patch_distinct turns closes
        (omega (arith, stokes (weight (at ps)), outline_weighs))
