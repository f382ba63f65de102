use native.Mathlib.Omega.{arith}
use Rattle.check_searches.proofs.Read.{points_count}
use Rattle.compare_differences.proofs.Numbers.{cornered}
use Rattle.compare_table_flags.proofs.Tables.{flag_asked, missing_is}
use Rattle.compare_table_flags.proofs.flag.missing_flag.Goals as goal

pub has_face-requires-clause-cornered : goal.has_face-requires-clause-cornered
has_face-requires-clause-cornered c =
    let m = c.args.mesh in
    rw (c.triangle_at.ensures, ← points_count m.points.now) (cornered m.points.now m.indices.now m.sound.numbered
    (λ i. omega (arith, m.small i)) c.args.k c.requires.in_range)

pub returns-then-flag : goal.returns-then-flag
returns-then-flag c = flag_asked c.args.flag _ _ c.if-flag.true (missing_is _ _ _ _ _ _ _ c.triangle_at.ensures c.has_face.ensures)
