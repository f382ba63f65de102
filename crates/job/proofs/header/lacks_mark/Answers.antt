use borrow.Author.Tests.{le-ltb}
use Rattle.job.proofs.Marks.{mark_test}
use Rattle.job.proofs.header.lacks_mark.Goals as goal

pub returns-else-bytes-lt5 : goal.returns-else-bytes-lt5
returns-else-bytes-lt5 c = rw (le-ltb _ _ c.if-bytes-lt5.false, c.starts_with.ensures.value, mark_test c.args.mark.now c.args.bytes.now)
