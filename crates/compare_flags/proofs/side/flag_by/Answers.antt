use Rattle.compare_table_flags.proofs.Tables.{numbered_in}
use Rattle.compare_flags.proofs.side.flag_by.Goals as goal

pub fill-requires-clause-numbered : goal.fill-requires-clause-numbered
fill-requires-clause-numbered c =
    let p = c.requires in
    numbered_in _ _ _ p.flaggable.others p.room.0
