use Rattle.std.proofs.Common.{◌+◌, get_or, arith}
use Rattle.std.proofs.Math.Nat.{add_comm}
use Rattle.std.proofs.lemmas.List.{get_or_default}
use Rattle.std.proofs.lemmas.List.Edits.{map_over_more}
use Rattle.share_draw.proofs.append.shift.Goals as goal

pub loop-number-preserved : goal.loop-number-preserved
loop-number-preserved c =
    let a = c.args in
    let l = c.loop-number in
    let x = get_or l.numbers l.number-index 0 in
    rw (add_comm x a.base) (map_over_more (λ x. a.base + x) a.numbers.now l.numbers l.number-index x (omega arith) l.invariant
    (get_or_default l.numbers l.number-index 0 x (omega arith)))
