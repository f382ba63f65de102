-- The patch that a record asks for. Assumes nothing.
use Rattle.std.specs.Prelude.{Float}
use Rattle.job_fields.specs.declared.levels.Levels.{Levels}
use Rattle.job.specs.declared.record.Record.{Record}
use Rattle.job_fields.specs.declared.setting.Kind.{Kind}
use Rattle.job_fields.specs.declared.setting.Kind.TheVariants as kind
use Rattle.patch.specs.declared.kinds.Patch.{Patch}
use Rattle.patch.specs.declared.kinds.Patch.TheVariants.{Triangles, Quads, Isolines}

-- the patch of a kind, with the levels that count for it
abbrev pub patch_with : Kind → Levels Float → Patch
patch_with kind.Triangles x = Triangles x.outer0 x.outer1 x.outer2 x.inner0
patch_with kind.Quads x = Quads x.outer0 x.outer1 x.outer2 x.outer3 x.inner0 x.inner1
patch_with kind.Isolines x = Isolines x.outer0 x.outer1

-- the patch of a record
abbrev pub patch_of : Record → Patch
patch_of r = patch_with r.kind r.levels
