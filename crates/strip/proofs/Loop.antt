-- A strip is what document 01's loop gives from a = b = 0; the loop ends at the last points of both lines after p + r steps. Assumes nothing.
use Prim.Native.Nat.{ℕ, zero, suc, ◌+◌, ◌-◌, ◌*◌, ◌≤◌, ◌<◌}
use mathlib.Core.Path.{◌≡◌, refl, sym, ap, ◌∙◌}
use mathlib.Core.Bool.{Bool, true, false, true≢false}
use mathlib.Core.Logic.{◌↔◌, inl, inr, ⊎_elim}
use mathlib.Core.List.{List, ◌∷◌}
use native.Mathlib.Omega.{arith}
use native.Mathlib.Decide.{dec_le}
use lib.ListN.{length}
use Rattle.strip.specs.declared.triangle.Triangle.{Triangle}
use Rattle.strip.specs.Rule.{outer_next, step_outer, step_inner}
use Rattle.strip.specs.Strips.{step_triangle, strip_from, strip}
use Rattle.strip.specs.Loop.{GoesOn, OuterMoves, Loop, ends, outer, inner}
use Rattle.strip.proofs.Ties.{ties}
use Rattle.strip.proofs.Rule.{rule, step_sum}
use Rattle.strip.proofs.Strips.{steps_none, steps_more, strip_length}

module _ (p r : ℕ) where
  -- ---- the rule
  outer_written : (a b : ℕ) → outer_next p r a b ≡ true → OuterMoves p r a b
  unfolding outer_next
  outer_written a b e = elim (dec_le (suc ((2 * a + 1) * r)) ((2 * b + 1) * p)) [
    | yes h ↦ inl h
    | no h ↦ inr (omega (arith, ties))
  ]

  outer_rule : (a b : ℕ) → OuterMoves p r a b → outer_next p r a b ≡ true
  unfolding outer_next
  outer_rule a b (inl h) = omega (arith, ties)
  outer_rule a b (inr (e, h)) = omega (arith, ties)

  -- the outer line advances exactly if document 01 says so
  pub rule_exactly : (a b : ℕ) → (outer_next p r a b ≡ true) ↔ OuterMoves p r a b
  rule_exactly a b = (outer_written a b, outer_rule a b)

  inner_rule : (a b : ℕ) → (OuterMoves p r a b → ⊥) → outer_next p r a b ≡ false
  inner_rule a b n = go (outer_next p r a b) refl
    where
      go : (t : Bool) → outer_next p r a b ≡ t → t ≡ false
      go true e = absurd (n (outer_written a b e))
      go false e = refl

  -- the loop continues until both lines end
  goes_on_lem : (a b : ℕ) → a + b < p + r → GoesOn p r a b
  goes_on_lem a b h = elim (dec_le (suc a) p) [
    | yes l ↦ inl l
    | no l ↦ inr (omega arith)
  ]

  both_left : (a b : ℕ) → a ≤ p → b ≤ r → GoesOn p r a b → a + b < p + r
  both_left a b u v (inl h) = omega arith
  both_left a b u v (inr h) = omega arith

  module _ (A B : ℕ → ℕ) where
    -- ---- the loop gives the strip
    step_given : (t : Bool) (a b : ℕ) (ts : List Triangle) → outer_next p r a b ≡ t → a + b < p + r → Loop A B p r (step_outer t a) (step_inner t b) ts p r
        → Loop A B p r a b (step_triangle A B t a b ∷ ts) p r
    step_given true a b ts e l w = outer (goes_on_lem a b l) (outer_written a b e) w
    step_given false a b ts e l w = inner (goes_on_lem a b l) (λ m. true≢false (sym (outer_rule a b m) ∙ e)) w

    steps_given : (n a b : ℕ) → a ≤ p → b ≤ r → n + (a + b) ≡ p + r → Loop A B p r a b (strip_from A B (outer_next p r) n a b) p r
    unfolding strip_from
    steps_given zero a b u v e =
        let x : a ≡ p = omega arith in
        let y : b ≡ r = omega arith in
        rw (x, y) (ends {a = p} {b = r} (λ g. ⊎_elim (λ h. omega arith) (λ h. omega arith) g))
    steps_given (suc n) a b u v e =
        let t = outer_next p r a b in
        let s = step_sum t a b in
        step_given t a b (strip_from A B (outer_next p r) n (step_outer t a) (step_inner t b)) refl (omega arith)
        (steps_given n (step_outer t a) (step_inner t b) ((rule p r).outer a b u v (omega arith)) ((rule p r).inner a b u v (omega arith)) (omega arith))

    -- ---- and nothing else
    -- what n steps give, and where they end
    record Gave (n a b : ℕ) (ts : List Triangle) (c d : ℕ) : Type 0 where
      triangles : ts ≡ strip_from A B (outer_next p r) n a b
      outer_end : c ≡ p
      inner_end : d ≡ r

    step_only : (t : Bool) (n a b : ℕ) (ts : List Triangle) (c d : ℕ) → outer_next p r a b ≡ t → 0 < n → Gave (n - 1) (step_outer t a) (step_inner t b) ts c d
        → Gave n a b (step_triangle A B t a b ∷ ts) c d
    step_only t n a b ts c d e l g = record {
      triangles = rw (steps_more A B (outer_next p r) n a b l, e, g.triangles);
      outer_end = g.outer_end;
      inner_end = g.inner_end;
    }

    both_ended : (a b : ℕ) → a ≤ p → b ≤ r → (GoesOn p r a b → ⊥) → (a ≡ p) × (b ≡ r)
    both_ended a b u v h = elim (dec_le (p + r) (a + b)) [
      | yes l ↦ omega arith
      | no l ↦ absurd (h (goes_on_lem a b (omega arith)))
    ]

    steps_only : {a b : ℕ} {ts : List Triangle} {c d : ℕ} (n : ℕ) → a ≤ p → b ≤ r → n + (a + b) ≡ p + r → Loop A B p r a b ts c d → Gave n a b ts c d
    steps_only n u v e (ends {a = a} {b = b} h) =
        let end = both_ended a b u v h in
        record { triangles = sym (steps_none A B (outer_next p r) n a b (omega arith)); outer_end = end.0; inner_end = end.1 }
    steps_only n u v e (outer {a = a} {b = b} {ts = ts} {c = c} {d = d} h m w) =
        let l = both_left a b u v h in
        let t = outer_rule a b m in
        step_only true n a b ts c d t (omega arith) (steps_only (n - 1) (rw t at ((rule p r).outer a b u v l)) v (omega arith) w)
    steps_only n u v e (inner {a = a} {b = b} {ts = ts} {c = c} {d = d} h m w) =
        let l = both_left a b u v h in
        let t = inner_rule a b m in
        step_only false n a b ts c d t (omega arith) (steps_only (n - 1) u (rw t at ((rule p r).inner a b u v l)) (omega arith) w)

    -- from a = b = 0 the loop gives exactly the strip, and ends at the last points of both lines
    pub loop_exactly : (ts : List Triangle) (c d : ℕ) → Loop A B p r 0 0 ts c d ↔ ((ts ≡ strip A B p r) × (c ≡ p) × (d ≡ r))
    loop_exactly ts c d = (
      λ w. let g = steps_only (p + r) (omega arith) (omega arith) (omega arith) w in (g.triangles, g.outer_end, g.inner_end),
      λ e. rw (e.0, e.1, e.2) (steps_given (p + r) 0 0 (omega arith) (omega arith) (omega arith)),
    )

    -- after p + r steps, one per triangle
    pub loop_steps : (ts : List Triangle) (c d : ℕ) → Loop A B p r 0 0 ts c d → length ts ≡ p + r
    loop_steps ts c d w = ap length ((loop_exactly ts c d).0 w).0 ∙ strip_length A B p r
