use Rattle.compare_table_flags.proofs.Tables.{flag_asked, point_asked}
use Rattle.compare_table_flags.proofs.flag.point_flag.Goals as goal

pub returns-then-flag : goal.returns-then-flag
returns-then-flag c =
    let p = c.requires in
    flag_asked c.args.flag _ _ c.if-flag.true (point_asked _ _ _ _ p.distinct p.in_range (p.partnered.all.each _ p.in_range))
