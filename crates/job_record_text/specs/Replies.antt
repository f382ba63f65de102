-- The program's text for what it reads at a record's place in a job. Assumes nothing.
use Rattle.std.specs.Prelude.{ℕ, List, [], Ok, Err, Some, None}
use Rattle.job.specs.declared.next.RecordError.TheVariants.{CutRecord, UnknownSetting}
use Rattle.job.specs.Records.{Answer}
use Rattle.job.specs.Patches.{patch_of}
use Rattle.decimal_text.specs.Heads.{refused_line}
use Rattle.patch_text.specs.Answers.{record_text}

-- the text: empty at the end of the job; for answer 8 it omits the place
abbrev pub record_reply : Answer → List ℕ
record_reply (Ok (Some there)) = record_text there.«record».settings (patch_of there.«record»)
record_reply (Ok None) = []
record_reply (Err CutRecord) = refused_line 7
record_reply (Err (UnknownSetting place next)) = refused_line 8

-- where reading continues, in bytes that end at `end`: after the record, also for answer 8; a cut record is the last
abbrev pub goes_on : ℕ → Answer → ℕ
goes_on end (Ok (Some there)) = there.next.at
goes_on end (Ok None) = end
goes_on end (Err CutRecord) = end
goes_on end (Err (UnknownSetting place next)) = next.at
