use Rattle.triangle_point_rows.proofs.Rings.{rings_ready, inside_written}
use Rattle.triangle_point_rows.proofs.write_small_inside.Goals as goal

pub write_rings-requires-clause-inward : goal.write_rings-requires-clause-inward
write_rings-requires-clause-inward c = (rings_ready c.args.row.now c.requires.good c.args.out.now c.args.at c.requires.room).0

pub write_rings-requires-clause-room : goal.write_rings-requires-clause-room
write_rings-requires-clause-room c = (rings_ready c.args.row.now c.requires.good c.args.out.now c.args.at c.requires.room).1

pub returns : goal.returns
returns c = inside_written c.args.row.now c.requires.good c.args.out.now c.args.at c.requires.room c.write_rings.ensures
