use native.Mathlib.Omega.{arith}
use mathlib.Core.Path.{refl}
use Rattle.half_edge_chains.proofs.Numbers.{start_word}
use Rattle.half_edge_chains.proofs.Table.{linked_none}
use Rattle.triangle_table.proofs.fill.Goals as goal

pub loop-m-init : goal.loop-m-init
loop-m-init c = (linked_none _ _ _ c.requires.empty, refl, refl)

pub add_side-requires-clause-fact_2 : goal.add_side-requires-clause-fact_2
add_side-requires-clause-fact_2 c = start_word c.args.indices.now c.loop-m.m (omega arith)
