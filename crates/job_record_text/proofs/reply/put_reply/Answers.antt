use Rattle.job_record_text.proofs.Ends.{wrote_end}
use Rattle.job_record_text.proofs.reply.put_reply.Goals as goal

pub returns-in-Ok-None : goal.returns-in-Ok-None
returns-in-Ok-None c = wrote_end _ _ c.args.found c.in-Ok-None.field-0 c.in-Ok-None.is (rw c.in-Ok-None.is at c.in-Ok-None.field-0-is)
