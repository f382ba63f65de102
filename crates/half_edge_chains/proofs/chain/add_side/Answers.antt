use native.Mathlib.Omega.{arith}
use Rattle.half_edge_chains.proofs.Table.{linked_more}
use Rattle.half_edge_chains.proofs.chain.add_side.Goals as goal

pub returns : goal.returns
returns c =
    let x = c in
    linked_more _ _ _ _ _ _ x.requires.fact_1 x.requires.fact_2 x.requires.fact_3 (omega arith) x.requires.fact_4 x.requires.fact_5.0
