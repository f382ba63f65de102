use mathlib.Core.Path.{sym, ◌∙◌}
use Rattle.half_edges.proofs.Forms.{new_side}
use Rattle.half_edges.proofs.filling.add_new.Goals as goal

pub returns-clause-filled : goal.returns-clause-filled
returns-clause-filled g c =
    let p = c.requires.side in
    λ h. new_side c.add_side.ensures.added c.requires.filled.once (rw (← p.start, ← p.end) (sym c.has_side.ensures ∙ c.if-has_side.false))
