use native.Mathlib.Omega.{arith}
use mathlib.Core.Path.{refl}
use Rattle.compare_differences.proofs.Numbers.{match_found, missing_p, missing_q, missing_r}
use Rattle.compare_differences.proofs.corners.match_corners.Goals as goal

pub returns-in_err-a : goal.returns-in_err-a
returns-in_err-a c = rw c.from_residual.ensures (missing_p _ _ _ c.numbered-count.ensures.2 _ _ c.in_err-a.ensures.found (omega arith) refl)

pub returns-in_err-b : goal.returns-in_err-b
returns-in_err-b c = rw c.from_residual-in_err-b.ensures (missing_q _ _ _ c.numbered-count.ensures.2 _ _ c.in_err-b.ensures.found (omega arith) refl)

pub returns-in_err-c : goal.returns-in_err-c
returns-in_err-c c = rw c.from_residual-in_err-c.ensures (missing_r _ _ _ c.numbered-count.ensures.2 _ _ c.in_err-c.ensures.found (omega arith) refl)

pub returns : goal.returns
returns c =
    let n = c.numbered-count.ensures in
    match_found _ _ _ _ _ _ _ _ _ c.requires.distinct n.0 n.1
    c.in_ok-a.ensures.found c.in_ok-b.ensures.found c.in_ok-c.ensures.found refl refl refl
    c.in_ok-a.ensures.inside c.in_ok-b.ensures.inside c.in_ok-c.ensures.inside
