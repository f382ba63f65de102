use Rattle.check_soundness.proofs.Named.{verdict}
use Rattle.check_soundness.proofs.Verdicts.{checked}
use mathlib.Core.Path.{sym, ◌∙◌}
use Rattle.check_mesh.proofs.Arms.{flag, dots, discarded, kept}
use Rattle.check_mesh.proofs.check.check_mesh.Goals as goal

pub returns-then-not-is_top : goal.returns-then-not-is_top
unfolding verdict
returns-then-not-is_top c =
    let a = c.args in
    checked a.settings a.patch _ _ (rw (sym c.is_top.ensures ∙ c.if-not-is_top.true))

pub returns-then-is_isolines : goal.returns-then-is_isolines
unfolding verdict
returns-then-is_isolines c =
    let a = c.args in
    checked a.settings a.patch _ _ (rw (sym c.is_top.ensures ∙ c.if-not-is_top.false, ← c.is_isolines.ensures, c.if-is_isolines.true))

pub returns-then-settings : goal.returns-then-settings
returns-then-settings c =
    let a = c.args in
    dots a.settings a.patch (sym c.is_top.ensures ∙ c.if-not-is_top.false)
    c.is_isolines.ensures c.if-is_isolines.false c.if-settings.true

pub returns-then-is_empty : goal.returns-then-is_empty
returns-then-is_empty c =
    let a = c.args in
    let top = sym c.is_top.ensures ∙ c.if-not-is_top.false in
    discarded a.settings a.patch top c.is_isolines.ensures c.if-is_isolines.false
    c.if-settings.false (flag a.settings a.patch c.subdivide-cut.ensures c.is_discarded.ensures c.if-is_discarded.true) c.is_empty.ensures c.if-is_empty.true

pub returns-then-is_discarded : goal.returns-then-is_discarded
returns-then-is_discarded c =
    let a = c.args in
    let top = sym c.is_top.ensures ∙ c.if-not-is_top.false in
    discarded a.settings a.patch top c.is_isolines.ensures c.if-is_isolines.false
    c.if-settings.false (flag a.settings a.patch c.subdivide-cut.ensures c.is_discarded.ensures c.if-is_discarded.true) c.is_empty.ensures c.if-is_empty.false

pub returns : goal.returns
returns c =
    let a = c.args in
    let top = sym c.is_top.ensures ∙ c.if-not-is_top.false in
    kept a.settings a.patch top c.is_isolines.ensures c.if-is_isolines.false
    c.if-settings.false (flag a.settings a.patch c.subdivide-cut.ensures c.is_discarded.ensures c.if-is_discarded.false) c.turns_positive-positive.ensures c.patch_fault.ensures
