use borrow.Author.Rules.{rules}
use native.Mathlib.Omega.{arith}
use Prim.Native.Nat.{ℕ, ◌*◌}
use mathlib.Core.Path.{◌≡◌, ap, sym, ◌∙◌}
use mathlib.Core.List.{List}
use lib.ListN.{length, take}
use lib.Seq.{take_all}
use Rattle.buffer.proofs.Laws.{count_step, over_front, wrote_as}
use Rattle.mesh_geometry.specs.Words.{vertex_words}
use Rattle.vertices.specs.Rows.{place_in}
use Rattle.vertices.specs.Grids.{crossing, row_points, with_second}
use Rattle.vertices.proofs.Loops.{rows_start, rows_fits, rows_done}
use Rattle.vertices.proofs.Words.{table_words}
use Rattle.vertices.proofs.Raised.{row_raised}
use Rattle.vertices.proofs.grid.write_raised.Goals as goal

pub loop-v-init : goal.loop-v-init
loop-v-init c =
    let a = c.args in
    let w = c.write_row in
    let columns = a.columns.now in
    let n = 3 * length columns in
    let size : length w.new.out ≡ n = search rules in
    let stands : w.new.out ≡ vertex_words (row_points columns 0) =
    sym (take_all n w.new.out (omega arith)) ∙ ap (take n) w.ensures.is
    ∙ over_front _ (vertex_words (row_points columns 0)) n (sym (table_words (λ n. record { u = place_in columns n; v = 0; w = 0 }) (length columns))) in (
      rows_start (crossing a.rows.now columns) (length columns) c.requires.room,
      λ v. ap (with_second v) stands ∙ row_raised columns 0 v,
    )

pub put_all-to-requires : goal.put_all-to-requires
put_all-to-requires c =
    let a = c.args in
    let l = c.loop-v in
    let columns = a.columns.now in
    let v = place_in a.rows.now l.v-index in
    let laid : c.raise.new.row ≡ vertex_words (row_points columns v) = c.raise.ensures ∙ l.invariant.1 v in
    let size : length c.raise.new.row ≡ 3 * length columns = ap length laid ∙ table_words (λ n. record { u = place_in columns n; v = v; w = 0 }) (length columns) in
    omega (arith, rows_fits (crossing a.rows.now columns) (length columns) (omega arith) l.invariant.0)

pub loop-v-preserved : goal.loop-v-preserved
loop-v-preserved c =
    let a = c.args in
    let l = c.loop-v in
    let up = c.raise in
    let columns = a.columns.now in
    let v = place_in a.rows.now l.v-index in
    let laid : up.new.row ≡ vertex_words (row_points columns v) = up.ensures ∙ l.invariant.1 v in (
      count_step (omega arith) (wrote_as (λ (zs : List ℕ). zs) (sym laid) c.put_all-to.ensures) l.invariant.0,
      λ h. ap (with_second h) laid ∙ row_raised columns v h,
    )

pub returns : goal.returns
returns c =
    let a = c.args in
    rows_done (crossing a.rows.now a.columns.now) (length a.columns.now) c.loop-v-test.false c.loop-v.invariant.0
