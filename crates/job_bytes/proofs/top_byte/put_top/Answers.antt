use Rattle.buffer.proofs.Laws.{wrote_none}
use Rattle.job_bytes.proofs.top_byte.put_top.Goals as goal

pub returns-in-One : goal.returns-in-One
returns-in-One c = rw c.in-One.is (wrote_none _ _)
