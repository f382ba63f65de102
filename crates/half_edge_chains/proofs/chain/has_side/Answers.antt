use native.Mathlib.Omega.{arith}
use mathlib.Core.Path.{◌≡◌, ◌∙◌, sym}
use Rattle.half_edge_chains.proofs.Table.{walk_begins, walk_goes_on, walk_less, walk_meets, walk_ends}
use Rattle.half_edge_chains.proofs.chain.has_side.Goals as goal

pub loop-k-init : goal.loop-k-init
loop-k-init c =
    let x = c in
    walk_begins x.requires.held _ _ x.requires.start

pub returns-then-end_in-y : goal.returns-then-end_in-y
returns-then-end_in-y c =
    let l = c.loop-k in
    let x = c in
    walk_meets x.requires.held _ _ l.k (omega arith) l.invariant (sym c.end_in.ensures ∙ c.if-end_in-y.true)

pub loop-k-smaller : goal.loop-k-smaller
loop-k-smaller c =
    let l = c.loop-k in
    let x = c in
    rw c.before_in-k.ensures (walk_less x.requires.held _ _ l.k (omega arith) l.invariant)

pub loop-k-preserved : goal.loop-k-preserved
loop-k-preserved c =
    let l = c.loop-k in
    let x = c in
    rw c.before_in-k.ensures (walk_goes_on x.requires.held _ _ l.k (omega arith) l.invariant (λ e. c.if-end_in-y.false (c.end_in.ensures ∙ e)))

pub returns : goal.returns
returns c =
    let l = c.loop-k in
    let x = c in
    let e : l.k ≡ 0 = omega arith in
    walk_ends x.requires.held _ _ (rw e at l.invariant)
