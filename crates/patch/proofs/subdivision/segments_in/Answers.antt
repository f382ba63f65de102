use mathlib.Core.Path.{refl}
use Rattle.level.proofs.Valid.{segments_valid}
use Rattle.patch.proofs.subdivision.segments_in.Goals as goal

pub returns : goal.returns
returns c =
    let a = c.args in
    rw c.segments_for.ensures.segments (record { all = refl; is = refl; few = (segments_valid a.range.spacing a.range.top a.range.is_top a.level).few })
