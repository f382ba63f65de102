use Rattle.quad_point_rows.proofs.Quads.{edges_ready, outline_written}
use Rattle.quad_point_rows.proofs.write_outline.Goals as goal

pub write_edges-requires-clause-clear : goal.write_edges-requires-clause-clear
write_edges-requires-clause-clear c =
    (edges_ready c.requires.rows c.args.out.now c.args.at c.requires.room).0

pub write_edges-requires-clause-room : goal.write_edges-requires-clause-room
write_edges-requires-clause-room c =
    (edges_ready c.requires.rows c.args.out.now c.args.at c.requires.room).1

pub returns : goal.returns
returns c =
    outline_written c.requires.rows c.args.out.now c.args.at c.requires.room c.write_edges.ensures
