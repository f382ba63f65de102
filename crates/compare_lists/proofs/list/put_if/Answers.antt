use Rattle.buffer.proofs.Laws.{wrote_none}
use Rattle.compare_lists.proofs.list.put_if.Goals as goal

pub returns-else-is : goal.returns-else-is
returns-else-is c = rw c.if-is.false (wrote_none _ _)
