use Prim.Native.Nat.{ℕ, ◌+◌, ◌-◌, ◌<◌}
use mathlib.Core.Path.{refl, sym, ap, subst, ◌∙◌}
use mathlib.Core.List.{List, map}
use borrow.Rule.Slice.PartMut.{put_mid}
use lib.ListN.{length, length-map, get_or}
use Rattle.measure.specs.Sizes.{indices_of}
use Rattle.tessellate.specs.Draws.{connection_words}
use Rattle.share_draw.proofs.Lent.{lent_on, lent_again, put_again, raised_fits}
use Rattle.share_draw.proofs.append.write_indices.Goals as goal

pub shift-requires : goal.shift-requires
shift-requires c =
    let a = c.args in
    let h = c.requires in
    let ws = connection_words a.settings a.patch in
    let first = lent_on h.fits ws refl 4 (indices_of a.settings a.patch) c.draw_indices.ensures in
    let again = lent_again h.fits ws refl a.words h.count first in
    subst (λ (l : List ℕ). (k : ℕ) → k < length l → a.base + get_or l k 0 < 65536) (sym again)
    (λ k l. raised_fits a.settings a.patch h.fits.top h.fits.drawn a.base k h.numbered l)

pub returns : goal.returns
returns c =
    let a = c.args in
    let h = c.requires in
    let ws = connection_words a.settings a.patch in
    let first = lent_on h.fits ws refl 4 (indices_of a.settings a.patch) c.draw_indices.ensures in
    let again = lent_again h.fits ws refl a.words h.count first in
    let f : ℕ → ℕ = λ x. a.base + x in
    ap (put_mid a.from (a.from + a.words - a.from) _) (c.shift.ensures ∙ ap (map f) again) ∙ put_again h.fits ws refl (map f ws) a.words h.count (length-map ws f) first
