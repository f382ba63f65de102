use Rattle.triangle_point_rows.proofs.Rings.{rings_ready, inside_written}
use Rattle.triangle_point_rows.proofs.write_inside.Goals as goal

pub write_all_rings-requires : goal.write_all_rings-requires
write_all_rings-requires c = rings_ready c.args.row.now c.requires.good c.args.out.now c.args.at c.requires.room

pub returns : goal.returns
returns c = inside_written c.args.row.now c.requires.good c.args.out.now
    c.args.at c.requires.room c.write_all_rings.ensures
