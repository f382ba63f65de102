-- Every triangle of a strip has the positive orientation, in any frame and under any rule; so does every triangle of a band. Assumes nothing.
use Prim.Native.Nat.{ℕ, zero, suc, ◌+◌, ◌≤◌, ◌<◌}
use mathlib.Core.Path.{◌≡◌}
use mathlib.Core.Bool.{Bool, true, false}
use mathlib.Core.List.{List, [], ◌∷◌}
use native.Mathlib.Omega.{arith}
use Rattle.strip.specs.declared.triangle.Triangle.{Triangle}
use Rattle.strip.specs.Rule.{step_outer, step_inner, outer_next}
use Rattle.strip.specs.Strips.{step_triangle, strip_from, strip}
use Rattle.strip.proofs.Rule.{Rule, rule}
use Rattle.mesh_topology.specs.Band.{from, Edge, band_from}
use Rattle.mesh_topology.proofs.Walk.{Way, on}
use Rattle.mesh_topology.proofs.Strip.{start}
use Rattle.mesh_geometry.specs.declared.Point.{Point}
use Rattle.mesh_geometry.proofs.Lists.{All, none, more, all_append}
use Rattle.mesh_geometry.proofs.Frame.{Left, Frame, rise}

abbrev pub Turns : (ℕ → Point) → Triangle → Type 0
Turns P t = Left (P t.a) (P t.b) (P t.c)

-- the vertices A 0, .., A n are a line d units inside, at the rising places x
pub record Line (Fits : ℕ → ℕ → Type 0) (spot : ℕ → ℕ → Point) (P : ℕ → Point) (A x : ℕ → ℕ) (n d : ℕ) : Type 0 where
  pub drawn : (i : ℕ) → i ≤ n → P (A i) ≡ spot (x i) d
  pub fits : (i : ℕ) → i ≤ n → Fits (x i) d
  pub rises : (i : ℕ) → i < n → x i < x (suc i)

module _ {Fits : ℕ → ℕ → Type 0} {spot : ℕ → ℕ → Point} (frame : Frame Fits spot) (P : ℕ → Point) {A B x y : ℕ → ℕ} {p r d e : ℕ}
    (deeper : d < e) (outer : Line Fits spot P A x p d) (inner : Line Fits spot P B y r e) where
  step_turns : (t : Bool) (a b : ℕ) → a ≤ p → b ≤ r → step_outer t a ≤ p → step_inner t b ≤ r → Turns P (step_triangle A B t a b)
  step_turns true a b u v l m = rw (outer.drawn a u, outer.drawn (suc a) l, inner.drawn b v)
      (frame.turns (x a) d (x (suc a)) d (y b) e (outer.fits a u) (outer.fits (suc a) l) (inner.fits b v)
      (omega (arith, rise (x a) (x (suc a)) d e (outer.rises a l) deeper)))
  step_turns false a b u v l m = rw (outer.drawn a u, inner.drawn (suc b) m, inner.drawn b v)
      (frame.turns (x a) d (y (suc b)) e (y b) e (outer.fits a u) (inner.fits (suc b) m) (inner.fits b v)
      (omega (arith, rise (y b) (y (suc b)) d e (inner.rises b m) deeper)))

  walk_turns : (next : ℕ → ℕ → Bool) → Rule next p r → (n a b : ℕ) → Way p r n a b → All (Turns P) (strip_from A B next n a b)
  unfolding strip_from
  walk_turns next keeps zero a b w = none
  walk_turns next keeps (suc n) a b w =
      let z = on A B next p r keeps n a b w in
      more (step_turns (next a b) a b w.outer w.inner z.outer z.inner) (walk_turns next keeps n _ _ z)

  strip_turns : All (Turns P) (strip A B p r)
  strip_turns = walk_turns (outer_next p r) (rule p r) (p + r) 0 0 (start p r)

-- the two lines of each edge of a band, in the frames of the edges k, k + 1, ..: the outer line follows F from its vertex o on,
-- and the inner line lies deeper
pub data Strung (Fits : ℕ → ℕ → Type 0) (place : ℕ → ℕ → ℕ → Point) (P : ℕ → Point) (F : ℕ → ℕ) : ℕ → ℕ → List Edge → Type 0 where
  done : {k o : ℕ} → Strung Fits place P F k o []
  along : {k o : ℕ} {e : Edge} {es : List Edge} {x y : ℕ → ℕ} {d f : ℕ} → d < f
      → Line Fits (place k) P (from o F) x e.p d → Line Fits (place k) P e.line y e.r f
      → Strung Fits place P F (suc k) (o + e.p) es → Strung Fits place P F k o (e ∷ es)

pub band_turns : {Fits : ℕ → ℕ → Type 0} {place : ℕ → ℕ → ℕ → Point} (frame : (k : ℕ) → Frame Fits (place k)) (P : ℕ → Point) (F : ℕ → ℕ)
    (k : ℕ) {o : ℕ} {es : List Edge} → Strung Fits place P F k o es → All (Turns P) (band_from F o es)
unfolding band_from
band_turns frame P F k done = none
band_turns frame P F k (along deeper outer inner s) =
    all_append _ (strip_turns (frame k) P deeper outer inner) (band_turns frame P F (suc k) s)
