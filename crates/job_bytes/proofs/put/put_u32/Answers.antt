use Rattle.job_bytes.proofs.LowBytes.{le_four}
use Rattle.job_bytes.proofs.put.put_u32.Goals as goal

pub returns : goal.returns
returns c = rw (← le_four c.args.pattern, ← c.to_le_bytes-bytes.ensures) c.put_all.ensures
