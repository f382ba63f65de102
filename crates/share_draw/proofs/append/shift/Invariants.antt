use Rattle.std.proofs.Common.{◌≡◌, ◌+◌, ◌++◌, map, take, drop}
use Rattle.share_draw.proofs.append.shift.Given as goal

abbrev pub invariant-loop-number : goal.invariant-loop-number
invariant-loop-number l =
    l.numbers ≡ map (λ x. l.base + x) (take l.number-index l.initial.numbers) ++ drop l.number-index l.initial.numbers
