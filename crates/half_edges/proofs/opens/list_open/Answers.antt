use mathlib.Core.Path.{sym, ◌∙◌}
use Rattle.check_searches.proofs.Read.{triangles_count}
use Rattle.half_edges.proofs.Lists.{opens_met}
use Rattle.half_edges.proofs.opens.list_open.Goals as goal

pub has_side-requires-clause-held : goal.has_side-requires-clause-held
has_side-requires-clause-held g c = rw (← triangles_count c.args.indices.now) c.requires.all

pub returns-then-has_side : goal.returns-then-has_side
returns-then-has_side g c =
    let p = c.requires.side in
    opens_met c.requires.listed (rw (← p.start, ← p.end, triangles_count c.args.indices.now) (sym c.has_side.ensures ∙ c.if-has_side.true))
