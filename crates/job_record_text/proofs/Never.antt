-- The program never answers 11: a record that was read has a good top level. Assumes nothing.
use Prim.Native.Nat.{ℕ}
use mathlib.Core.Path.{◌≡◌, refl}
use mathlib.Core.Bool.{cond}
use mathlib.Core.List.{List}
use Rattle.job_fields.specs.declared.version.Version.{Version}
use Rattle.job.specs.declared.cursor.Cursor.{Cursor}
use Rattle.job.specs.declared.record.Record.{Record}
use Rattle.job.specs.Patches.{patch_of}
use Rattle.job.specs.Records.{read, record_at}
use Rattle.job.proofs.Records.{top_allowed}
use Rattle.patch.specs.Subdivide.{discards}
use Rattle.decimal_text.specs.Heads.{discarded_line}
use Rattle.patch_text.specs.Answers.{drawn_text}
use Rattle.job_record_text.specs.Replies.{record_reply}

-- a record that was read is discarded or drawn
pub never_eleven : (v : Version) (bs : List ℕ) (at : ℕ) (r : Record) (next : Cursor) → record_at v bs at ≡ read r next
    → record_reply (record_at v bs at) ≡ cond (discards (patch_of r)) discarded_line (drawn_text r.settings (patch_of r))
never_eleven v bs at r next e = rw (e, top_allowed v bs at refl r next e)
