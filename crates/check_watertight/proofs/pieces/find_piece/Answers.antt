use Rattle.check_searches.proofs.Read.{points_count}
use native.Mathlib.Omega.{arith}
use Rattle.check_watertight.proofs.pieces.find_piece.Goals as goal

pub returns : goal.returns
returns c = λ h. absurd (omega (arith, points_count c.args.outline.now, c.loop-k.invariant))
