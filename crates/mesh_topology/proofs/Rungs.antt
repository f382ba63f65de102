-- No rung of a band occurs twice. Assumes nothing.
use Prim.Native.Nat.{ℕ, ◌+◌, ◌≤◌, ◌<◌}
use mathlib.Core.Path.{◌≡◌, refl}
use mathlib.Core.Logic.{⊎_elim}
use mathlib.Core.List.{List, [], ◌∷◌}
use native.Mathlib.Omega.{arith}
use native.Mathlib.Decide.{dec_le}
use Rattle.mesh_topology.specs.Sides.{hit}
use Rattle.mesh_topology.specs.Band.{from, Edge, outer_segments}
use Rattle.mesh_topology.proofs.Sums.{one_of_two}
use Rattle.mesh_topology.proofs.Walk.{Rung}
use Rattle.mesh_topology.proofs.Line.{Closed}
use Rattle.mesh_topology.proofs.Strip.{rungs, strip_rung, strip_once}
use Rattle.mesh_topology.proofs.Band.{Sound, Meets, Chain, Loop, cross}

-- a rung of a band connects a vertex of the outer line and an inner vertex
pub record Ends (F : ℕ → ℕ) (m low top x y : ℕ) : Type 0 where
  pub i : ℕ
  pub i_to : i ≤ m
  pub end : y ≡ F i
  pub inside : (low ≤ x) × (x < top)

-- a rung of an edge after d: at its first outer vertex it does not reach an earlier vertex of d's inner line, and at its last
-- outer vertex it does not reach a vertex of z's
record Later (F : ℕ → ℕ) (m low top : ℕ) (d z : Edge) (o x y : ℕ) : Type 0 where
  spot : Ends F m low top x y
  i_from : o ≤ spot.i
  first : spot.i ≡ o → (j : ℕ) → j < d.r → x ≡ d.line j → ⊥
  last : spot.i ≡ m → (k : ℕ) → k ≤ z.r → x ≡ z.line k → ⊥

module _ (F : ℕ → ℕ) (m low top : ℕ) where
  -- a rung of one edge's strip
  abbrev of : (o : ℕ) (e : Edge) (x y : ℕ) → Sound m low top e → o + e.p ≤ m → Rung (from o F) e.line x y 0 0 e.p e.r
      → Ends F m low top x y
  of o e x y h u s = record { i = o + s.i; i_to = omega arith; end = s.end; inside = rw s.start (h.inside s.j s.j_to) }

  -- no rung of that strip occurs twice
  once : (o : ℕ) (e : Edge) (x y : ℕ) → Closed F m → Sound m low top e → o + e.p ≤ m
      → rungs (hit x y) (from o F) e.line e.p e.r ≤ 1
  once o e x y cF h u =
      strip_once (from o F) e.line e.p e.r x y
      (λ i i' j j' a b c d v w.
      ⊎_elim (λ s. omega (arith, h.apart j j' c d w)) (λ s. omega (arith, h.part)) (cF.same (o + i) (o + i') (omega arith) (omega arith) v))

module _ (F : ℕ → ℕ) (m low top : ℕ) (z : Edge) where
  -- if no outer segment is left, no edge is left
  ended : (es : List Edge) (d : Edge) → outer_segments es ≡ 0 → Chain m low top d es z → Meets d z
  ended [] d h c = c
  ended (e ∷ es) d h c = absurd (omega (arith, c.0.some))

  later : (es : List Edge) (d : Edge) (o x y : ℕ) → o + outer_segments es ≡ m → Chain m low top d es z → 1 ≤ cross (hit x y) F o es
      → Later F m low top d z o x y
  unfolding cross
  later [] d o x y em c h = absurd (omega arith)
  later (e ∷ es) d o x y em c h =
      elim (dec_le 1 (rungs (hit x y) (from o F) e.line e.p e.r)) [
        | yes l ↦ let s = strip_rung (from o F) e.line e.p e.r x y l in
            record {
              spot = of F m low top o e x y c.0 (omega arith) s;
              i_from = omega arith;
              first = λ u j v w. omega (arith, c.1.only j s.j (omega arith) s.j_to (cc));
              last = λ u k v w. omega (arith, (ended es e (omega arith) c.2).only s.j k s.j_to v (cc));
            }
        | no l ↦ let s = later es e (o + e.p) x y (omega arith) c.2 (omega arith) in
            record { spot = s.spot; i_from = omega arith; first = λ u. absurd (omega (arith, c.0.some)); last = s.last }
      ]

  module _ (cF : Closed F m) where
    -- a strip and the rest of the band have no rung in common
    not_both : (es : List Edge) (e : Edge) (o x y : ℕ) → (o ≡ 0 → z ≡ e) → o + e.p + outer_segments es ≡ m → Chain m low top e es z
        → 1 ≤ rungs (hit x y) (from o F) e.line e.p e.r → 1 ≤ cross (hit x y) F (o + e.p) es → ⊥
    not_both es e o x y old em c h k =
        let s = strip_rung (from o F) e.line e.p e.r x y h in
        let t = later es e (o + e.p) x y em c k in
        ⊎_elim (λ u. t.first (omega arith) s.j (omega arith) s.start)
        (λ u. let q = old (omega arith) in t.last (omega arith) s.j (rw q s.j_to) (rw q s.start))
        (cF.same (o + s.i) t.spot.i (omega arith) t.spot.i_to (cc))

    rest_once : (es : List Edge) (d : Edge) (o x y : ℕ) → 1 ≤ o → o + outer_segments es ≡ m → Chain m low top d es z → cross (hit x y) F o es ≤ 1
    unfolding cross
    rest_once [] d o x y h em c = omega arith
    rest_once (e ∷ es) d o x y h em c =
        one_of_two _ _ (once F m low top o e x y cF c.0 (omega arith)) (rest_once es e (o + e.p) x y (omega arith) (omega arith) c.2)
        (not_both es e o x y (λ q. absurd (omega arith)) (omega arith) c.2)

module _ (F : ℕ → ℕ) (m low top : ℕ) (z : Edge) (es : List Edge) (w : Loop F m low top z es) where
  pub ends : (x y : ℕ) → 1 ≤ cross (hit x y) F 0 (z ∷ es) → Ends F m low top x y
  unfolding cross
  ends x y h =
      elim (dec_le 1 (rungs (hit x y) (from 0 F) z.line z.p z.r)) [
        | yes l ↦ of F m low top 0 z x y w.first (omega (arith, w.first.part)) (strip_rung (from 0 F) z.line z.p z.r x y l)
        | no l ↦ (later F m low top z es z (0 + z.p) x y (omega (arith, w.whole)) w.chain (omega arith)).spot
      ]

  pub cross_once : (x y : ℕ) → cross (hit x y) F 0 (z ∷ es) ≤ 1
  unfolding cross
  cross_once x y =
      one_of_two _ _ (once F m low top 0 z x y w.closed w.first (omega (arith, w.first.part)))
      (rest_once F m low top z w.closed es z (0 + z.p) x y (omega (arith, w.first.some)) (omega (arith, w.whole)) w.chain)
      (not_both F m low top z w.closed es z 0 x y (λ q. refl) (omega (arith, w.whole)) w.chain)
