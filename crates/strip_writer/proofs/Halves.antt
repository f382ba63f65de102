-- Writing a strip whose outer line has two segments more, in either orientation: pairs up to the middle of the inner line, a step of
-- the outer line, pairs up to the end of the inner line, and the last steps. Assumes nothing.
use Prim.Native.Nat.{ℕ, suc, ◌+◌, ◌-◌, ◌*◌, ◌/◌, ◌≤◌, ◌<◌}
use native.Mathlib.Nat.{zero-add}
use native.Mathlib.Omega.{arith}
use mathlib.Core.Path.{◌≡◌, ap, ◌∙◌}
use mathlib.Core.Bool.{Bool, true}
use mathlib.Core.List.{List, [], ◌∷◌, ◌++◌}
use lib.ListN.{length}
use Rattle.buffer.specs.Over.{Wrote}
use Rattle.buffer.proofs.Laws.{wrote_then}
use Rattle.strip.specs.declared.line.Line.{Line}
use Rattle.strip.specs.Triangles.{corners, turned, indices}
use Rattle.strip.specs.Lines.{vertex}
use Rattle.strip.specs.Strips.{step_triangle, strip}
use Rattle.strip_pairs.specs.Pairs.{pair, Paired}
use Rattle.strip_pairs.proofs.Pairs.{pairs_length, halves}

-- what the writers of such a strip require, and that the inner line has segments
pub record Alternate (outer inner : Line) (xs : List ℕ) (at : ℕ) : Type 0 where
  pub two : outer.count ≡ inner.count + 2
  pub room : at + 3 * (outer.count + inner.count) ≤ length xs
  pub some : inner.count ≡ 0 → ⊥

pub alternate : (outer inner : Line) (xs : List ℕ) (at : ℕ)
    → outer.count ≡ inner.count + 2 → at + 3 * (outer.count + inner.count) ≤ length xs
    → (inner.count ≡ 0 → ⊥) → Alternate outer inner xs at
alternate outer inner xs at two room some = record { two = two; room = room; some = some }

-- the first pairs are written
module _ {outer inner : Line} {xs : List ℕ} {at : ℕ} (s : Alternate outer inner xs at) (positive : Bool) {xs₁ : List ℕ} {w₁ x y : ℕ}
    (p : Paired (vertex outer) (vertex inner) positive 0 0 (inner.count / 2) xs at xs₁ w₁ x y) (l : length xs₁ ≡ length xs) where
  first_end : w₁ ≡ at + 6 * (inner.count / 2)
  first_end = omega (arith, p.wrote.next, pairs_length (vertex outer) (vertex inner) positive 0 0 (inner.count / 2))

  outer_middle : x ≡ vertex outer (inner.count / 2)
  outer_middle = p.outer ∙ ap (vertex outer) (zero-add (inner.count / 2))

  inner_middle : y ≡ vertex inner (inner.count / 2)
  inner_middle = p.inner ∙ ap (vertex inner) (zero-add (inner.count / 2))

  pub next_ready : (suc (inner.count / 2) < outer.count) × (x ≡ vertex outer (inner.count / 2))
  next_ready = (omega (arith, s.two, s.some), outer_middle)

  pub step_ready : w₁ + 3 ≤ length xs₁
  step_ready = omega (arith, first_end, l, s.room, s.two, s.some)

  -- the step in the middle is written
  module _ {u : ℕ} (n : u ≡ vertex outer (suc (inner.count / 2))) {xs₂ : List ℕ} {w₂ : ℕ}
      (t : Wrote xs₁ w₁ (corners (turned positive (record { a = x; b = u; c = y }))) xs₂ w₂) (m : length xs₂ ≡ length xs₁) where
    step_end : w₂ ≡ w₁ + 3
    step_end = t.next

    pub pairs_ready : ((inner.count / 2 + 1 + (inner.count - inner.count / 2 - 1) < outer.count) ×
        (inner.count / 2 + (inner.count - inner.count / 2 - 1) ≤ inner.count - 1))
        × (((u ≡ vertex outer (inner.count / 2 + 1)) × (y ≡ vertex inner (inner.count / 2))) × (w₂ + 6 * (inner.count - inner.count / 2 - 1) ≤ length xs₂))
    pairs_ready =
        let e : suc (inner.count / 2) ≡ inner.count / 2 + 1 = omega arith in
        (omega (arith, s.two, s.some), ((n ∙ ap (vertex outer) e, inner_middle), omega (arith, first_end, step_end, l, m, s.room, s.two, s.some)))

    -- the second pairs are written
    module _ {xs₃ : List ℕ} {w₃ x' y' : ℕ}
        (q : Paired (vertex outer) (vertex inner) positive (inner.count / 2 + 1) (inner.count / 2) (inner.count - inner.count / 2 - 1) xs₂ w₂ xs₃ w₃ x' y') where
      pub last_ready : length xs₃ ≡ length xs₂ → ((outer.count ≡ inner.count + 2) × (1 ≤ inner.count))
          × ((x' ≡ vertex outer inner.count) × ((y' ≡ vertex inner (inner.count - 1)) × (w₃ + 9 ≤ length xs₃)))
      last_ready k =
          let h = inner.count / 2 in
          let e : h + 1 + (inner.count - h - 1) ≡ inner.count = omega (arith, s.some) in
          let f : h + (inner.count - h - 1) ≡ inner.count - 1 = omega (arith, s.some) in
          let end = pairs_length (vertex outer) (vertex inner) positive (h + 1) h (inner.count - h - 1) in (
            (s.two, omega (arith, s.some)),
            (
              q.outer ∙ ap (vertex outer) e,
              (q.inner ∙ ap (vertex inner) f, omega (arith, first_end, step_end, q.wrote.next, end, l, m, k, s.room, s.two, s.some)),
            ),
          )

      pub strip_written : {xs₄ : List ℕ} {w₄ : ℕ}
          → Wrote xs₃ w₃ (indices positive (pair (vertex outer) (vertex inner) inner.count (inner.count - 1)) ++ indices positive
          (step_triangle (vertex outer) (vertex inner) true (inner.count + 1) inner.count ∷ [])) xs₄ w₄
          → Wrote xs at (indices positive (strip (vertex outer) (vertex inner) outer.count inner.count)) xs₄ w₄
      unfolding indices
      strip_written last =
          let A = vertex outer in
          let B = vertex inner in
          let h = inner.count / 2 in
          let fits : at ≤ length xs = omega (arith, s.room) in
          let middle : Wrote xs₁ w₁ (indices positive (step_triangle A B true h h ∷ [])) xs₂ w₂ = rw (← outer_middle, ← n, ← inner_middle) t in
          rw (halves A B positive outer.count inner.count s.two s.some) (wrote_then fits (wrote_then fits (wrote_then fits p.wrote middle) q.wrote) last)
