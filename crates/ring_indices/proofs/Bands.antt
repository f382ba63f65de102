-- A band is written strip by strip. Assumes nothing.
use Prim.Native.Nat.{ℕ, ◌+◌, ◌*◌, ◌≤◌, ◌<◌}
use mathlib.Core.Path.{◌≡◌, refl, ap, ◌∙◌, subst}
use mathlib.Core.Bool.{Bool}
use mathlib.Core.List.{List, [], ◌∷◌, ◌++◌, append-nil}
use native.Mathlib.Omega.{arith}
use lib.ListN.{length, length-append}
use Rattle.buffer.specs.Over.{Wrote}
use Rattle.buffer.proofs.Laws.{wrote_then}
use Rattle.strip.specs.declared.line.Line.{Line}
use Rattle.strip.specs.declared.triangle.Triangle.{Triangle}
use Rattle.strip.specs.Triangles.{indices}
use Rattle.strip.specs.Rule.{outer_next}
use Rattle.strip.specs.Lines.{vertex, Follows}
use Rattle.strip.specs.Strips.{strip}
use Rattle.strip.proofs.Strips.{strip_follows, strip_same, words_length, indices_append}
use Rattle.shifted_copies.proofs.Again.{wrote_again}
use Rattle.mesh_topology.specs.Ring.{ring_at}
use Rattle.mesh_topology.specs.Band.{from, Edge, band_from}
use Rattle.mesh_topology.proofs.Ring.{ring_before}
use Rattle.strip_blocks.specs.Blocks.{on}

-- a strip between two lines, where the outer line follows F
pub outer_follows : (positive : Bool) (i : Line) {o : Line} {F : ℕ → ℕ} {p : ℕ} {xs xs' : List ℕ} {at w : ℕ} → Follows o F p
    → Wrote xs at (indices positive (strip (vertex o) (vertex i) o.count i.count)) xs' w → Wrote xs at (indices positive (strip F (vertex i) p i.count)) xs' w
outer_follows positive i {xs = xs} {xs' = xs'} {at = at} {w = w} h s =
    subst (λ (ts : List Triangle). Wrote xs at (indices positive ts) xs' w) (strip_follows {i = i} h (record { count = refl; at = λ k l. refl })) s

-- one strip of a band: from the outer line A, p segments, to the line of vertices i
abbrev pub Side : Bool → (ℕ → ℕ) → ℕ → Line → List ℕ → ℕ → List ℕ → ℕ → Type 0
Side positive A p i xs at xs' w = Wrote xs at (indices positive (strip A (vertex i) p i.count)) xs' w

-- the place after the strip
pub side_next : (positive : Bool) (A : ℕ → ℕ) (p : ℕ) (i : Line) {xs xs' : List ℕ} {at w : ℕ} → Side positive A p i xs at xs' w → w ≡ at + 3 * (p + i.count)
side_next positive A p i s = omega (arith, words_length A (vertex i) (outer_next p i.count) positive (p + i.count) 0 0)

module _ (positive : Bool) (F : ℕ → ℕ) (o o' : ℕ) (e : Edge) (i : Line) (same : o ≡ o') (h : Follows i e.line e.r) where
  -- the strip of an edge, where the inner line follows the edge's line
  side_follows : {xs xs' : List ℕ} {at w : ℕ} → Side positive (from o F) e.p i xs at xs' w → Wrote xs at (indices positive (strip (from o' F) e.line e.p e.r)) xs' w
  side_follows {xs} {xs'} {at} {w} s =
      subst (λ (ts : List Triangle). Wrote xs at (indices positive ts) xs' w)
      (ap (λ (k : ℕ). strip (from k F) (vertex i) e.p i.count) same ∙ ap (λ (k : ℕ). strip (from o' F) (vertex i) e.p k) h.count
      ∙ strip_same (from o' F) (from o' F) (vertex i) e.line e.p e.r (λ k l. refl) h.at)
      s

  -- that strip, then the strips of the edges after it
  pub band_step : (es : List Edge) {xs xs₁ xs₂ : List ℕ} {at w w' : ℕ} → at ≤ length xs → Side positive (from o F) e.p i xs at xs₁ w
      → Wrote xs₁ w (indices positive (band_from F (o' + e.p) es)) xs₂ w' → Wrote xs at (indices positive (band_from F o' (e ∷ es))) xs₂ w'
  unfolding band_from
  band_step es l p q = rw (indices_append positive (strip (from o' F) e.line e.p e.r) (band_from F (o' + e.p) es)) (wrote_then l (side_follows p) q)

  -- the last edge
  pub band_last : {xs xs₁ : List ℕ} {at w : ℕ} → Side positive (from o F) e.p i xs at xs₁ w → Wrote xs at (indices positive (band_from F o' (e ∷ []))) xs₁ w
  unfolding band_from
  band_last p = rw append-nil (side_follows p)

-- ---- a band of three strips; each overwrites the extra triangle of the one before
pub band_is : (positive : Bool) (F : ℕ → ℕ) (e0 e1 e2 : Edge) → indices positive (band_from F 0 (e0 ∷ e1 ∷ e2 ∷ []))
    ≡ indices positive (strip (from 0 F) e0.line e0.p e0.r) ++ (indices positive (strip (from (0 + e0.p) F) e1.line e1.p e1.r) ++ indices
    positive (strip (from (0 + e0.p + e1.p) F) e2.line e2.p e2.r))
unfolding band_from
band_is positive F e0 e1 e2 =
    let S0 = strip (from 0 F) e0.line e0.p e0.r in
    let S1 = strip (from (0 + e0.p) F) e1.line e1.p e1.r in
    let S2 = strip (from (0 + e0.p + e1.p) F) e2.line e2.p e2.r in
    ap (λ (ts : List Triangle). indices positive (S0 ++ (S1 ++ ts))) (append-nil S2)
    ∙ indices_append positive S0 (S1 ++ S2) ∙ ap (λ (ws : List ℕ). indices positive S0 ++ ws) (indices_append positive S1 S2)

-- lines of consecutive vertices, and lines of a ring
pub on_ring : (base total o x i : ℕ) → x ≡ base + o → o + i < total → base + total < 65536 → on x i ≡ from o (ring_at base total) i
on_ring base total o x i e h small = omega (arith, ring_before base total (o + i) h)

pub three_strips : (positive : Bool) (F : ℕ → ℕ) (p r : ℕ) (e0 e1 e2 : Edge) (A0 B0 A1 B1 A2 B2 : ℕ → ℕ) (G0 G1 : List ℕ) {xs xs₁ xs₂ xs₃ : List ℕ} {at w₀ v₁ w₁ v₂ w₂ : ℕ}
    → at ≤ length xs → at + 3 * (p + r) ≤ length xs₁ → length G0 ≤ 3 → length G1 ≤ 3 → 1 ≤ p
    → strip A0 B0 p r ≡ strip (from 0 F) e0.line e0.p e0.r → strip A1 B1 p r ≡ strip (from (0 + e0.p) F) e1.line e1.p e1.r
    → strip A2 B2 p r ≡ strip (from (0 + e0.p + e1.p) F) e2.line e2.p e2.r
    → Wrote xs at (indices positive (strip A0 B0 p r) ++ G0) xs₁ w₀ → v₁ ≡ at + 3 * (p + r) → Wrote xs₁ v₁ (indices positive (strip A1 B1 p r) ++ G1) xs₂ w₁ → v₂ ≡ v₁ + 3 * (p + r)
    → Wrote xs₂ v₂ (indices positive (strip A2 B2 p r)) xs₃ w₂ → Wrote xs at (indices positive (band_from F 0 (e0 ∷ e1 ∷ e2 ∷ []))) xs₃ w₂
three_strips positive F p r e0 e1 e2 A0 B0 A1 B1 A2 B2 G0 G1 {xs} {xs₁} {xs₂} {xs₃} {at} {w₀} {v₁} {w₁} {v₂} {w₂} fits fits₁ g0 g1 some q0 q1 q2 s0 place₁ s1 place₂ s2 =
    let S0 = indices positive (strip A0 B0 p r) in
    let S1 = indices positive (strip A1 B1 p r) in
    let S2 = indices positive (strip A2 B2 p r) in
    let n0 = words_length A0 B0 (outer_next p r) positive (p + r) 0 0 in
    let n1 = words_length A1 B1 (outer_next p r) positive (p + r) 0 0 in
    let n2 = words_length A2 B2 (outer_next p r) positive (p + r) 0 0 in
    let later : Wrote xs₁ v₁ (S1 ++ S2) xs₃ w₂ = wrote_again S1 G1 S2 (omega arith) (omega arith) (omega arith) s1 s2 in
    rw (band_is positive F e0 e1 e2, ← q0, ← q1, ← q2) (wrote_again S0 G0 (S1 ++ S2) fits (omega (arith, length-append S1 S2)) (omega arith) s0 later)
