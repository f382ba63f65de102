-- What a patch is cut into with its settings, or why it is not cut. Assumes nothing.
use Rattle.std.specs.Prelude.{Result, Ok, Err}
use Rattle.patch.specs.declared.kinds.Patch.{Patch}
use Rattle.patch.specs.declared.settings.Settings.{Settings}
use Rattle.patch.specs.declared.subdivision.Subdivision.{Subdivision}
use Rattle.patch.specs.Subdivide.{subdivision_of}
use Rattle.measure.specs.declared.cut.NotDrawn.{NotDrawn}
use Rattle.measure.specs.declared.cut.NotDrawn.TheVariants.{BadTop, Discarded}
use Rattle.measure.specs.IfDrawn.{if_drawn}

unfoldable pub cut_of : Settings → Patch → Result Subdivision NotDrawn
cut_of set p = if_drawn set p (Err BadTop) (Err Discarded) (Ok (subdivision_of set p))
