use native.Mathlib.Omega.{arith}
use mathlib.Core.Path.{refl}
use Rattle.compare_table_flags.proofs.Tables.{corner_missing_a, corner_missing_b, corner_missing_c, corners_found}
use Rattle.compare_table_flags.proofs.face.has_face.Goals as goal

pub returns-then-count-x : goal.returns-then-count-x
returns-then-count-x c =
    let p = c.requires in
    corner_missing_a _ _ _ _ p.table.good (λ k. omega (arith, c.args.other.small k)) p.partnered _ p.cornered c.if-count-x.true

pub returns-then-count-y : goal.returns-then-count-y
returns-then-count-y c =
    let p = c.requires in
    corner_missing_b _ _ _ _ p.table.good (λ k. omega (arith, c.args.other.small k)) p.partnered _ p.cornered c.if-count-y.true

pub returns-then-count-z : goal.returns-then-count-z
returns-then-count-z c =
    let p = c.requires in
    corner_missing_c _ _ _ _ p.table.good
    (λ k. omega (arith, c.args.other.small k)) p.partnered _ p.cornered
    c.if-count-z.true

pub returns : goal.returns
returns c =
    let p = c.requires in
    corners_found _ _ _ _ p.table.good
    (λ k. omega (arith, c.args.other.small k)) p.partnered _ p.cornered
    _ _ _ _ refl refl refl c.if-count-x.false c.if-count-y.false c.if-count-z.false
    (omega (arith, p.table.few)) c.has_triangle.ensures
