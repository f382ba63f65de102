use native.Mathlib.Omega.{arith}
use Prim.Native.Nat.{◌+◌, ◌-◌}
use mathlib.Core.Path.{refl, sym, ◌∙◌}
use mathlib.Core.List.{append-nil}
use Rattle.buffer.proofs.Laws.{left_step, left_none}
use Rattle.decimal_text.proofs.Lines.{part_last, part_more, part_last_length, part_more_length}
use Rattle.mesh_lines.proofs.put_primitive.Goals as goal

pub put_ended-w-requires : goal.put_ended-w-requires
put_ended-w-requires c =
    let l = c in
    let a = l.args in
    omega (arith, part_more_length a.indices.now l.loop-j.j (a.k + a.width) (omega arith) (omega arith))

pub loop-j-preserved : goal.loop-j-preserved
loop-j-preserved c =
    let l = c in
    let a = l.args in
    (omega arith, left_step c.put_ended-w.ensures (part_more a.indices.now l.loop-j.j (a.k + a.width) (omega arith) (omega arith)) l.loop-j.invariant.1)

pub put_ended-requires : goal.put_ended-requires
put_ended-requires c =
    let l = c in
    let a = l.args in
    omega (arith, part_last_length a.indices.now l.loop-j.j (a.k + a.width - 1) (a.k + a.width) (omega arith) (omega arith) (omega arith))

pub returns : goal.returns
returns c =
    let l = c in
    let a = l.args in
    let e = part_last a.indices.now l.loop-j.j (a.k + a.width - 1) (a.k + a.width) (omega arith) (omega arith) (omega arith) in
    left_none refl (left_step c.put_ended.ensures (e ∙ sym (append-nil _)) l.loop-j.invariant.1)
