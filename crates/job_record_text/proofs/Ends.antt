-- The end of a job has no text. Assumes nothing.
use Prim.Native.Nat.{ℕ}
use mathlib.Core.Path.{◌≡◌}
use mathlib.Core.List.{List}
use Rattle.std.specs.Prelude.{Ok, None, Option}
use Rattle.buffer.specs.Over.{Wrote}
use Rattle.buffer.proofs.Laws.{wrote_none}
use Rattle.job.specs.declared.next.FoundRecord.{FoundRecord}
use Rattle.job.specs.Records.{Answer}
use Rattle.job_record_text.specs.Replies.{record_reply}

-- at the end nothing is written
pub wrote_end : (out : List ℕ) (at : ℕ) (answer : Answer) (found : Option FoundRecord) → answer ≡ Ok found → found ≡ None → Wrote out at (record_reply answer) out at
wrote_end out at answer found e f = rw (e, f) (wrote_none out at)
