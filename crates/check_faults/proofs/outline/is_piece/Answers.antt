use native.Mathlib.Omega.{arith}
use Rattle.check_searches.proofs.First.{some_found, some_missed}
use Rattle.check_searches.proofs.Read.{points_count}
use Rattle.check_faults.proofs.outline.is_piece.Goals as goal

pub returns-then-is_piece_at : goal.returns-then-is_piece_at
returns-then-is_piece_at c = some_found (points_count c.args.outline.now) c.loop-k.invariant (omega arith)
    (rw (← c.is_piece_at.ensures) c.if-is_piece_at.true)

pub returns : goal.returns
returns c = some_missed (points_count c.args.outline.now) c.loop-k.invariant (omega arith)
