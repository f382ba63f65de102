use borrow.Author.Rules.{rules}
use Rattle.vertices.proofs.Edges.{edges_start, edges_fits, second_edge_fits, third_edge_fits, fourth_edge_fits, four_edges}
use Rattle.quad_point_rows.proofs.write_edges.Goals as goal

pub write_edge-w-requires-clause-room : goal.write_edge-w-requires-clause-room
write_edge-w-requires-clause-room c = edges_fits (edges_start _ _ _ _ _ c.requires.room)

pub write_edge-w-requires-2-clause-room : goal.write_edge-w-requires-2-clause-room
write_edge-w-requires-2-clause-room c = second_edge_fits _ _ _ _ _ c.requires.room c.write_edge-w.ensures

pub write_edge-w-requires-3-clause-room : goal.write_edge-w-requires-3-clause-room
write_edge-w-requires-3-clause-room c = third_edge_fits _ _ _ _ _ _ c.requires.room c.write_edge-w.ensures c.write_edge-w-2.ensures

pub write_edge-requires-clause-room : goal.write_edge-requires-clause-room
write_edge-requires-clause-room c = fourth_edge_fits _ _ _ _ _ _ _ c.requires.room c.write_edge-w.ensures c.write_edge-w-2.ensures c.write_edge-w-3.ensures

pub returns : goal.returns
returns c = search (four_edges, rules)
