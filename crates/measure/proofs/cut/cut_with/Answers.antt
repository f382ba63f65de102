use mathlib.Core.Path.{sym, ◌∙◌}
use Rattle.measure.proofs.Counted.{flag}
use Rattle.measure.proofs.Cutting.{cut_bad, cut_discarded, cut_ready}
use Rattle.level.proofs.Top.{top_as}
use Rattle.measure.proofs.cut.cut_with.Goals as goal

pub returns-then-not-is_top : goal.returns-then-not-is_top
returns-then-not-is_top c =
    let a = c.args in
    cut_bad a.settings a.patch (sym c.is_top.ensures ∙ c.if-not-is_top.true)

pub returns-then-is_discarded : goal.returns-then-is_discarded
returns-then-is_discarded c =
    let a = c.args in
    let top = sym c.is_top.ensures ∙ c.if-not-is_top.false in
    cut_discarded a.settings a.patch top
    (flag a.settings (top_as _ top) a.patch c.subdivide-cut.result c.subdivide-cut.ensures c.is_discarded.ensures c.if-is_discarded.true)

pub returns : goal.returns
returns c =
    let a = c.args in
    let top = sym c.is_top.ensures ∙ c.if-not-is_top.false in
    let drawn = flag a.settings (top_as _ top) a.patch c.subdivide-cut.result c.subdivide-cut.ensures c.is_discarded.ensures c.if-is_discarded.false in
    cut_ready a.settings a.patch (record { top = top; drawn = drawn; cut = c.subdivide-cut.ensures })
