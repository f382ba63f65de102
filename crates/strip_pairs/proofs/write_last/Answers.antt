use native.Mathlib.Omega.{arith}
use Prim.Native.Nat.{suc, ◌+◌, ◌-◌}
use mathlib.Core.Path.{◌≡◌, ap, ◌∙◌}
use mathlib.Core.List.{List, [], ◌∷◌}
use Rattle.buffer.proofs.Laws.{wrote_then}
use Rattle.strip.specs.declared.triangle.Triangle.{Triangle}
use Rattle.strip.specs.Triangles.{indices}
use Rattle.strip.specs.Lines.{vertex}
use Rattle.strip.proofs.Strips.{indices_length}
use Rattle.strip_pairs.proofs.write_last.Goals as goal

pub put_triangle-requires : goal.put_triangle-requires
put_triangle-requires c =
    let a = c.args in
    let u = c.next-u.result in
    let two : List Triangle = record { a = a.x; b = u; c = a.y } ∷ record { a = u; b = c.after-v.result; c = a.y } ∷ [] in
    omega (arith, indices_length a.positive two, c.put_two-to.auto.out)

pub returns : goal.returns
unfolding indices
returns c =
    let a = c.args in
    let r = a.inner.count in
    let u = c.next-u.ensures in
    let v = c.after-v.ensures in
    let z = c.after-z.ensures in
    let e : suc r ≡ r + 1 = omega arith in
    let f : suc (r - 1) ≡ r = omega arith in
    rw (← c.requires.outer_here, ← u, ← c.requires.inner_here, ← v, ← u ∙ ap (vertex a.outer) e, ← z, ← v ∙ ap (vertex a.inner) f)
    (wrote_then (omega arith) c.put_two-to.ensures c.put_triangle.ensures)
