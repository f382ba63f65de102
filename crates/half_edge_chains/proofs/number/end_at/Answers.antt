use Rattle.half_edge_chains.proofs.Numbers.{end_word, end_word_last}
use Rattle.half_edge_chains.proofs.number.end_at.Goals as goal

pub returns-then-m-eq2 : goal.returns-then-m-eq2
returns-then-m-eq2 c = end_word_last c.args.indices.now c.args.m c.requires c.if-m-eq2.true

pub returns-else-m-eq2 : goal.returns-else-m-eq2
returns-else-m-eq2 c = end_word c.args.indices.now c.args.m c.requires c.if-m-eq2.false
