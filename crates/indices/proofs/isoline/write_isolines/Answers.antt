use native.Mathlib.Omega.{arith}
use Prim.Native.Nat.{ℕ, suc, ◌+◌, ◌*◌, ◌≤◌}
use mathlib.Core.Path.{◌≡◌, ap}
use Rattle.buffer.specs.Over.{flat}
use Rattle.buffer.proofs.Laws.{wrote_none, wrote_as}
use Rattle.mesh_topology.specs.Lines.{isolines}
use Rattle.indices.specs.Isolines.{line_words}
use Rattle.indices.proofs.Isolines.{line, line_length, line_copied, isolines_are}
use Rattle.shifted_copies.proofs.Shifts.{copies_wrote}
use Rattle.indices.proofs.isoline.write_isolines.Goals as goal

pub returns-then-m-eq0 : goal.returns-then-m-eq0
unfolding isolines flat
returns-then-m-eq0 c =
    let a = c.args in
    let none : a.m ≡ 0 = omega arith in
    wrote_as (λ (m : ℕ). isolines m a.n) none (wrote_none a.out.now a.at)

pub returns : goal.returns
returns c =
    let a = c.args in
    let line0 = c.write_line-words in
    let some : 1 ≤ a.m = omega arith in
    let start : 0 ≡ 0 * suc a.n = omega arith in
    rw (isolines_are a.m a.n)
    (copies_wrote (2 * a.n) a.m (a.n + 1) (line a.n) (omega arith) (line_length 0 a.n) some (ap (λ (x : ℕ). line_words x a.n) start)
    (λ r l. line_copied a.n r (omega arith) (omega arith)) line0.ensures c.write_copies.ensures)
