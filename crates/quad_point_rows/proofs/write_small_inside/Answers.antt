use Rattle.quad_point_rows.proofs.Quads.{inside_ready, inside_written}
use Rattle.quad_point_rows.proofs.write_small_inside.Goals as goal

pub write_each-requires : goal.write_each-requires
write_each-requires c = inside_ready c.args.rows.now c.args.columns.now c.args.out.now c.args.at c.requires.room

pub returns : goal.returns
returns c = inside_written c.args.rows.now c.args.columns.now
    c.args.out.now c.args.at c.requires.room c.write_each.ensures
