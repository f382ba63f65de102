-- One step of the walk along a strip. Assumes nothing.
use Prim.Native.Nat.{ℕ, ◌+◌, ◌<◌}
use mathlib.Core.Path.{◌≡◌, refl, sym, ap, ◌∙◌}
use mathlib.Core.Bool.{Bool, true, false, cond}
use native.Mathlib.Omega.{arith}
use Rattle.strip.specs.declared.line.Line.{Line}
use Rattle.strip.specs.declared.state.Strip.{Strip}
use Rattle.strip.specs.declared.state.Step.{Step}
use Rattle.strip_walk.specs.declared.walk.Walk.{Walk}
use Rattle.strip.specs.Rule.{outer_next, step_outer, step_inner, step_of}
use Rattle.strip.specs.Lines.{vertex}
use Rattle.strip.specs.Strips.{step_triangle}
use Rattle.strip_walk.specs.Walks.{Standing, Advanced}
use Rattle.strip.proofs.Rule.{rule}

-- the flag of the code's step is the rule's
pub flag : (s : Strip) (t : Step) (b : Bool) → t ≡ step_of s → t.outer ≡ b → outer_next s.p s.r s.a s.b ≡ b
unfolding step_of
flag s t b e h = sym (ap (λ (u : Step). u.outer) e) ∙ h

-- the corners of a step's triangle
triangle_of : (t : Bool) (A B : ℕ → ℕ) (a b : ℕ) → record { a = A a; b = cond t (A (step_outer t a)) (B (step_inner t b)); c = B b } ≡ step_triangle A B t a b
triangle_of true A B a b = refl
triangle_of false A B a b = refl

module _ (outer inner : Line) (w : Walk) (stands : Standing outer inner w) (less : w.strip.a + w.strip.b < w.strip.p + w.strip.r) where
  -- the line that advances is not at its end
  pub outer_goes : outer_next w.strip.p w.strip.r w.strip.a w.strip.b ≡ true → w.strip.a < outer.count
  outer_goes e =
      let m = (rule w.strip.p w.strip.r).outer w.strip.a w.strip.b (omega arith) (omega arith) less in
      omega (arith, rw e at m)

  pub inner_goes : outer_next w.strip.p w.strip.r w.strip.a w.strip.b ≡ false → w.strip.b < inner.count
  inner_goes e =
      let m = (rule w.strip.p w.strip.r).inner w.strip.a w.strip.b (omega arith) (omega arith) less in
      omega (arith, rw e at m)

  -- the rule, with the lines' own counts
  said : (b : Bool) → outer_next w.strip.p w.strip.r w.strip.a w.strip.b ≡ b → outer_next outer.count inner.count w.strip.a w.strip.b ≡ b
  said b e = rw (stands.p, stands.r) at e

  -- `outer` advances if t is true, else `inner`; x and y are the vertices then reached
  pub moved : (t : Bool) (s : Strip) (x y : ℕ) → s ≡ (step_of w.strip).next → outer_next w.strip.p w.strip.r w.strip.a w.strip.b ≡ t
      → x ≡ vertex outer (step_outer t w.strip.a) → y ≡ vertex inner (step_inner t w.strip.b)
      → Advanced outer inner w (record { triangle = record { a = w.x; b = cond t x y; c = w.y }; walk = record { strip = s; x = x; y = y } })
  unfolding step_of
  moved t s x y h e vx vy =
      let a : s.a ≡ step_outer t w.strip.a = rw (h, e) in
      let b : s.b ≡ step_inner t w.strip.b = rw (h, e) in
      let p : s.p ≡ w.strip.p = rw h in
      let r : s.r ≡ w.strip.r = rw h in
      let keeps = rule w.strip.p w.strip.r in
      let ta = rw e at (keeps.outer w.strip.a w.strip.b (omega arith) (omega arith) less) in
      let tb = rw e at (keeps.inner w.strip.a w.strip.b (omega arith) (omega arith) less) in
      record {
        triangle = rw (said t e, stands.x, stands.y, vx, vy) (triangle_of t (vertex outer) (vertex inner) w.strip.a w.strip.b);
        a = rw (said t e) a;
        b = rw (said t e) b;
        stands = record {
          within = record { outer = omega arith; inner = omega arith; outer_few = omega arith; inner_few = omega arith };
          p = p ∙ stands.p;
          r = r ∙ stands.r;
          x = vx ∙ ap (vertex outer) (sym a);
          y = vy ∙ ap (vertex inner) (sym b);
        };
      }
