use native.Mathlib.Omega.{arith}
use Rattle.compare_differences.proofs.Lacks.{has_found, has_missing}
use Rattle.compare_differences.proofs.side.has_face.Goals as goal

pub returns-in-Some : goal.returns-in-Some
returns-in-Some c =
    has_found _ _ c.args.other.sound.numbered (λ k. omega (arith, c.args.other.small k)) _ _ _ _
    c.match_corners.ensures c.in-Some.is c.has_triangle.ensures

pub returns-in-None : goal.returns-in-None
returns-in-None c =
    has_missing _ _ c.args.other.sound.numbered (λ k. omega (arith, c.args.other.small k)) _ _ c.match_corners.ensures c.in-None.is
