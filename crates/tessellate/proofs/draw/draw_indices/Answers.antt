use native.Mathlib.Omega.{arith}
use mathlib.Core.Path.{refl, ap, ◌∙◌}
use mathlib.Core.Bool.{Bool}
use Rattle.std.proofs.lemmas.Result.{err_from_is_err_and}
use Rattle.buffer.specs.Over.{over}
use Rattle.patch.specs.declared.subdivision.Subdivision.{Subdivision}
use Rattle.patch_mesh.specs.Primitives.{in_mode, index_words}
use Rattle.patch_writer.proofs.Modes.{mode_count}
use Rattle.measure.proofs.Cutting.{is_cut, cut_valid, cut_few, cut_indices}
use Rattle.tessellate.proofs.Drawing.{draw_refused, draw_short, draw_done}
use Rattle.tessellate.proofs.draw.draw_indices.Goals as goal

pub returns-in_err-cut : goal.returns-in_err-cut
returns-in_err-cut c =
    let p = err_from_is_err_and c.from_residual.result c.from_residual.ensures.1 in
    rw (p.1, p.2) (draw_refused c.args.settings c.args.patch _ _ _ _ _ c.in_err-cut.ensures)

pub index_count-words-requires : goal.index_count-words-requires
index_count-words-requires c = cut_valid _ _ c.in_ok-cut.ensures

pub returns-then-indices-words : goal.returns-then-indices-words
returns-then-indices-words c =
    let is = c.in_ok-cut.ensures in
    draw_short _ _ _ _ _ _ is 3 refl (omega (arith, cut_indices _ _ is c.index_count-words.ensures, c.if-indices-words.true))

pub write_indices-requires : goal.write_indices-requires
write_indices-requires c =
    let a = c.args in
    let is = c.in_ok-cut.ensures in
    let v = cut_valid a.settings a.patch is in
    let count = mode_count a.settings.point_mode c.turns_positive-positive.result c.in_ok-cut.cut v in
    record {
      valid = v;
      few = cut_few a.settings a.patch is;
      room = omega (arith, c.if-indices-words.false, c.index_count-words.ensures, count);
    }

pub returns : goal.returns
unfolding index_words
returns c =
    let a = c.args in
    let is = c.in_ok-cut.ensures in
    let many = cut_indices a.settings a.patch is c.index_count-words.ensures in
    let turned = ap (λ (t : Bool). over a.indices.now 0 (in_mode a.settings.point_mode t c.in_ok-cut.cut)) c.turns_positive-positive.ensures in
    let drawn = ap (λ (d : Subdivision). over a.indices.now 0 (index_words a.settings d)) (is_cut a.settings a.patch is).cut in
    draw_done _ _ _ _ _ _ is (omega (arith, many, c.if-indices-words.false)) many (c.write_indices.ensures.is ∙ turned ∙ drawn)
