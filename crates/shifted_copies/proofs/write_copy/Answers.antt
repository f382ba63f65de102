use native.Mathlib.Omega.{arith}
use Prim.Native.Nat.{ℕ, ◌+◌, ◌%◌}
use mathlib.Core.Path.{sym, ap}
use mathlib.Core.List.{[], ◌∷◌}
use lib.ListN.{length, take, drop, length-take}
use Rattle.buffer.proofs.Laws.{count_start, count_fits, count_step, count_done, wrote_as}
use Rattle.shifted_copies.proofs.Shifts.{all_words, count_keeps, shifted_length}
use Rattle.shifted_copies.proofs.write_copy.Goals as goal

pub loop-i-init : goal.loop-i-init
loop-i-init c =
    let a = c.args in
    count_start (omega (
      arith,
      ap length (all_words a.by a.out.now a.from a.n (omega arith)),
      shifted_length a.by
          (take a.n (drop a.from a.out.now)),
      length-take a.n (drop a.from a.out.now),
    ))

pub put-to-requires : goal.put-to-requires
put-to-requires c =
    omega (arith, count_fits (omega arith) c.loop-i.invariant)

pub loop-i-preserved : goal.loop-i-preserved
loop-i-preserved c =
    let a = c.args in
    let l = c.loop-i in
    let kept = count_keeps (omega arith) l.invariant (a.from + l.i) (omega arith) in
    count_step (omega arith) (wrote_as (λ (x : ℕ). ((x + a.by) % 65536) ∷ []) (sym kept) c.put-to.ensures) l.invariant

pub returns : goal.returns
returns c =
    let a = c.args in
    rw (← all_words a.by a.out.now a.from a.n (omega arith)) (count_done (omega arith) c.loop-i.invariant)
