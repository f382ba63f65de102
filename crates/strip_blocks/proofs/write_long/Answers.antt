use native.Mathlib.Omega.{arith}
use Prim.Native.Nat.{◌+◌, ◌-◌, ◌/◌}
use mathlib.Core.Path.{◌≡◌, sym, ◌∙◌}
use Rattle.strip_blocks.specs.Blocks.{on, line_of}
use Rattle.strip_blocks.proofs.Blocks.{pairs_size, line_on, long_wrote}
use Rattle.strip_blocks.proofs.write_long.Goals as goal

pub write_last-requires-clause-outer_here : goal.write_last-requires-clause-outer_here
write_last-requires-clause-outer_here c =
    let a = c.args in
    let x : a.x + a.r ≡ on a.x a.r = omega arith in
    x ∙ sym (line_on a.x (a.r + 2) a.e a.r (omega arith))

pub write_last-requires-clause-inner_here : goal.write_last-requires-clause-inner_here
write_last-requires-clause-inner_here c =
    let a = c.args in
    let y : a.y + (a.r - 1) ≡ on a.y (a.r - 1) = omega arith in
    y ∙ sym (line_on a.y a.r a.f (a.r - 1) (omega arith))

pub write_last-requires-clause-room : goal.write_last-requires-clause-room
write_last-requires-clause-room c =
    let a = c.args in
    let h = a.r / 2 in
    let second = c.write_run-w in
    omega (arith, second.ensures.next, pairs_size (a.x + (h + 1)) (a.y + h) a.pattern.now.positive 0 (a.r - h - 1), second.auto.out, c.write_run.auto.out)

pub returns : goal.returns
returns c =
    let a = c.args in
    long_wrote (line_of a.x (a.r + 2) a.e) (line_of a.y a.r a.f) a.pattern.now.positive a.x a.y a.r (omega arith)
    (λ i h. line_on a.x (a.r + 2) a.e i h) (λ i h. line_on a.y a.r a.f i h)
    (omega arith) c.write_run.ensures (omega arith)
    c.write_run-w.ensures c.write_last.ensures
