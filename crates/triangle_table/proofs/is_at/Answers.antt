use Rattle.triangle_table.proofs.Walks.{hit_end, hit_same}
use borrow.Author.Tests.{ne_eqb}
use mathlib.Core.Path.{◌∙◌, ap}
use Rattle.strip.specs.declared.triangle.Triangle.{Triangle}
use Rattle.check_side_searches.specs.Same.{same_triangle}
use Rattle.triangle_table.proofs.is_at.Goals as goal

pub returns-then-end_in-t : goal.returns-then-end_in-t
returns-then-end_in-t c = c.same_triangle.ensures ∙ ap (λ (u : Triangle). same_triangle u c.args.t)
    c.triangle_at.ensures ∙ hit_same _ _ _ _ (c.end_in.ensures ∙
    c.requires.ends) c.if-end_in-t.true c.requires.starts

pub returns-else-end_in-t : goal.returns-else-end_in-t
returns-else-end_in-t c = ne_eqb _ _ c.if-end_in-t.false ∙ hit_end _ _ _ _ (c.end_in.ensures ∙ c.requires.ends) c.if-end_in-t.false c.requires.starts
