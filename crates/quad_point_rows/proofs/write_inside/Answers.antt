use Rattle.quad_point_rows.proofs.Quads.{inside_ready, inside_written}
use Rattle.quad_point_rows.proofs.write_inside.Goals as goal

pub write_grid-requires : goal.write_grid-requires
write_grid-requires c = inside_ready c.args.rows.now c.args.columns.now c.args.out.now c.args.at c.requires.room

pub returns : goal.returns
returns c = inside_written c.args.rows.now c.args.columns.now
    c.args.out.now c.args.at c.requires.room c.write_grid.ensures
