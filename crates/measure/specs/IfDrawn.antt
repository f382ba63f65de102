-- Whether a patch is drawn with its settings. Assumes nothing.
use Rattle.std.specs.Prelude.{cond}
use Rattle.level.specs.Top.{is_top}
use Rattle.patch.specs.declared.kinds.Patch.{Patch}
use Rattle.patch.specs.declared.settings.Settings.{Settings}
use Rattle.patch.specs.Subdivide.{discards}

-- what applies to a patch: `bad` for a bad top level, whatever the patch is; else `none` for a discarded patch; else `drawn`
abbrev pub if_drawn : {A : Type 0} → Settings → Patch → A → A → A → A
if_drawn set p bad none drawn = cond (is_top set.top) (cond (discards p) none drawn) bad
