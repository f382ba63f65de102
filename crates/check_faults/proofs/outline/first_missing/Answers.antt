use native.Mathlib.Omega.{arith}
use mathlib.Core.Path.{refl}
use Rattle.check_faults.specs.Outline.{first_missing}
use Rattle.check_searches.proofs.Read.{points_count}
use Rattle.check_searches.proofs.First.{search_found, range_none}
use Rattle.check_faults.proofs.outline.first_missing.Goals as goal

pub returns-then-not-is_drawn : goal.returns-then-not-is_drawn
unfolding first_missing
returns-then-not-is_drawn c = search_found (points_count c.args.mesh.outline.now)
    c.loop-k.invariant (omega arith) (rw (
      ← c.piece_start-start.ensures,
      ← c.piece_end-end.ensures,
      ← c.is_drawn.ensures,
      c.if-not-is_drawn.true,
    ) refl)

pub returns : goal.returns
unfolding first_missing
returns c = range_none (points_count c.args.mesh.outline.now) c.loop-k.invariant (omega arith)
