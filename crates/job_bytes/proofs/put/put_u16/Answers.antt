use Rattle.job_bytes.proofs.LowBytes.{le_two}
use Rattle.job_bytes.proofs.put.put_u16.Goals as goal

pub returns : goal.returns
returns c = rw (← le_two c.args.number, ← c.to_le_bytes.ensures) c.put_all.ensures
