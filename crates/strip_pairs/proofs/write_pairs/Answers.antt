use native.Mathlib.Omega.{arith}
use Prim.Native.Nat.{ℕ, ◌+◌}
use mathlib.Core.Path.{◌≡◌, ap, ◌∙◌}
use Rattle.buffer.proofs.Laws.{count_start, count_fits, count_step, count_done}
use Rattle.strip.specs.Lines.{vertex}
use Rattle.strip_pairs.specs.Pairs.{pair_words}
use Rattle.strip_pairs.proofs.Pairs.{pair_length, pairs_length}
use Rattle.strip_pairs.proofs.write_pairs.Goals as goal

pub loop-i-init : goal.loop-i-init
unfolding pair_words
loop-i-init c =
    let a = c.args in
    let x : a.a ≡ a.a + 0 = omega arith in
    let y : a.b ≡ a.b + 0 = omega arith in (
      c.requires.here.0 ∙ ap (vertex a.outer) x,
      c.requires.here.1 ∙ ap (vertex a.inner) y,
      count_start (omega (arith, pairs_length (vertex a.outer) (vertex a.inner) a.positive a.a a.b a.n)),
    )

pub put_two-to-requires : goal.put_two-to-requires
put_two-to-requires c =
    let a = c.args in
    let l = c.loop-i in
    omega (arith, count_fits (omega arith) l.invariant.2, pair_length (vertex a.outer) (vertex a.inner) a.positive (a.a + l.i) (a.b + l.i))

pub loop-i-preserved : goal.loop-i-preserved
loop-i-preserved c =
    let a = c.args in
    let l = c.loop-i in
    let u = c.next-u.ensures in
    let v = c.next-v.ensures in (
      u ∙ ap (vertex a.outer) (omega arith),
      v ∙ ap (vertex a.inner) (omega arith),
      count_step (omega arith) (rw (l.invariant.0, u, l.invariant.1, v) at c.put_two-to.ensures) l.invariant.2,
    )

pub returns : goal.returns
unfolding pair_words
returns c =
    let a = c.args in
    let l = c.loop-i in
    let e : l.i ≡ a.n = omega (arith, l.invariant.2.within) in
    record {
      wrote = count_done (omega arith) l.invariant.2;
      outer = l.invariant.0 ∙ ap (λ (k : ℕ). vertex a.outer (a.a + k)) e;
      inner = l.invariant.1 ∙ ap (λ (k : ℕ). vertex a.inner (a.b + k)) e;
    }
