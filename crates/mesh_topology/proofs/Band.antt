-- The sides of a band: the outer line's segments, the inner lines' segments reversed, and each rung in both directions. Assumes nothing.
use Prim.Native.Nat.{ℕ, ◌+◌, ◌≤◌, ◌<◌}
use mathlib.Core.Path.{◌≡◌, ap}
use mathlib.Core.List.{List, [], ◌∷◌}
use native.Mathlib.Omega.{arith}
use native.Mathlib.Nat.{add-zero}
use Rattle.strip.specs.Strips.{strip}
use Rattle.mesh_topology.specs.Sides.{flip, sum_sides, sum, line_sum}
use Rattle.mesh_topology.specs.Band.{from, Edge, outer_segments, band_from, band}
use Rattle.mesh_topology.proofs.Hits.{sum_append}
use Rattle.mesh_topology.proofs.Line.{Closed, line_from}
use Rattle.mesh_topology.proofs.Strip.{rungs, strip_sides}

-- one edge: it has at least one of the m outer segments but not all, and its inner vertices are distinct and lie from `low` up to `top`
pub record Sound (m low top : ℕ) (e : Edge) : Type 0 where
  pub some : 1 ≤ e.p
  pub part : e.p < m
  pub inside : (j : ℕ) → j ≤ e.r → (low ≤ e.line j) × (e.line j < top)
  pub apart : (j k : ℕ) → j ≤ k → k ≤ e.r → e.line j ≡ e.line k → j ≡ k

-- two neighbouring edges: the inner line of d ends where that of e starts, and they have no other vertex in common
pub record Meets (d e : Edge) : Type 0 where
  pub joint : d.line d.r ≡ e.line 0
  pub only : (j k : ℕ) → j ≤ d.r → k ≤ e.r → d.line j ≡ e.line k → (j ≡ d.r) × (k ≡ 0)

-- the edges after d, up to z, which follows them
abbrev pub Chain : (m low top : ℕ) → Edge → List Edge → Edge → Type 0
Chain m low top d [] z = Meets d z
Chain m low top d (e ∷ es) z = Sound m low top e × Meets d e × Chain m low top e es z

-- the edges z and es form a closed loop, as a band requires
pub record Loop (F : ℕ → ℕ) (m low top : ℕ) (z : Edge) (es : List Edge) : Type 0 where
  pub closed : Closed F m
  pub big : 3 ≤ m
  pub whole : z.p + outer_segments es ≡ m
  pub first : Sound m low top z
  pub chain : Chain m low top z es z

-- the sum of a weight over the inner lines' segments
unfoldable pub inner_sum : (ℕ → ℕ → ℕ) → List Edge → ℕ
inner_sum f [] = 0
inner_sum f (e ∷ es) = line_sum f e.line e.r + inner_sum f es

-- the sum of a weight over the rungs, from point o of the outer line on
unfoldable pub cross : (ℕ → ℕ → ℕ) → (ℕ → ℕ) → ℕ → List Edge → ℕ
cross f F o [] = 0
cross f F o (e ∷ es) = rungs f (from o F) e.line e.p e.r + cross f F (o + e.p) es

-- the sides of a strip, with the outer line's segments before it
next_sides : (f : ℕ → ℕ → ℕ) (F B : ℕ → ℕ) (o p r : ℕ)
    → sum_sides f (strip (from o F) B p r) + f (F o) (B 0) + line_sum f F o
    ≡ rungs f (from o F) B p r + rungs (flip f) (from o F) B p r + f (F (o + p)) (B r) + line_sum f F (o + p) + line_sum (flip f) B r
next_sides f F B o p r = omega (arith, simp add-zero at (strip_sides (from o F) B p r f), line_from f F o p)

module _ (F : ℕ → ℕ) (m low top : ℕ) (z : Edge) where
  rest_sides : (f : ℕ → ℕ → ℕ) (es : List Edge) (d : Edge) (o : ℕ) → o + outer_segments es ≡ m → Chain m low top d es z
      → sum_sides f (band_from F o es) + f (F o) (d.line d.r) + line_sum f F o
      ≡ cross f F o es + cross (flip f) F o es + f (F m) (z.line 0) + line_sum f F m + inner_sum (flip f) es
  unfolding band_from cross inner_sum sum_sides
  rest_sides f [] d o em c = let e : o ≡ m = omega arith in rw e (omega (arith, ap (f (F m)) c.joint))
  rest_sides f (e ∷ es) d o em c =
      simp sum_append
      (omega (arith, ap (f (F o)) c.1.joint, next_sides f F e.line o e.p e.r, rest_sides f es e (o + e.p) (omega arith) c.2))

module _ (F : ℕ → ℕ) (m low top : ℕ) (z : Edge) (es : List Edge) (w : Loop F m low top z es) where
  pub band_sides : (f : ℕ → ℕ → ℕ)
      → sum_sides f (band F (z ∷ es)) ≡ line_sum f F m + inner_sum (flip f) (z ∷ es) + (cross f F 0 (z ∷ es) + cross (flip f) F 0 (z ∷ es))
  unfolding band_from cross inner_sum sum
  band_sides f =
      simp sum_append
      (omega (
        arith,
        next_sides f F z.line 0 z.p z.r,
        rest_sides F m low top z f es z (0 + z.p) (omega (arith, w.whole)) w.chain,
        ap (λ p. f p (z.line 0)) w.closed.close,
      ))
