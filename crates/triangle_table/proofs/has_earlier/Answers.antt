use native.Mathlib.Omega.{arith}
use mathlib.Core.Path.{◌∙◌}
use Rattle.triangle_table.proofs.Walks.{earlier_from}
use Rattle.triangle_table.proofs.has_earlier.Goals as goal

pub walk-requires-clause-begins : goal.walk-requires-clause-begins
walk-requires-clause-begins c =
    let p = c.requires in
    c.before_in.ensures ∙ earlier_from p.linked _ _ (omega (arith, p.in_range)) p.is_triangle
