-- The third demand for what the two drawing operations wrote, and the seam between the points of any two patches. Assumes nothing.
use Prim.Native.Nat.{ℕ}
use mathlib.Core.Path.{◌≡◌}
use mathlib.Core.List.{List}
use lib.ListN.{take}
use Rattle.patch.specs.declared.kinds.Patch.{Patch}
use Rattle.patch.specs.declared.settings.Settings.{Settings}
use Rattle.mesh_geometry.specs.declared.Point.{Point}
use Rattle.patch_mesh.specs.Demand.{Surface}
use Rattle.std.proofs.Common.{Result}
use Rattle.tessellate.specs.declared.refusal.DrawRefusal.{DrawRefusal}
use Rattle.tessellate.specs.Answers.{points_code, indices_code}
use Rattle.answer_codes.specs.AnswerCode.{drew}
use Rattle.tessellate.specs.Draws.{DrewPoints, DrewIndices}
use Rattle.tessellate.proofs.Together.{points_drawn, demand_together}
use Rattle.third_demand.specs.Written.{drawn_points, WrotePoints, wrote}
use Rattle.third_demand.specs.Seams.{IsEdge, EdgesAlike, Seam}
use Rattle.third_demand.specs.ThirdDemand.{ThirdDemand}
use Rattle.third_demand.proofs.AllPoints.{AllPoints, seam_between, demand_of}

drew_all : (set : Settings) (p : Patch) (r : Result ℕ DrawRefusal) {v v' : List ℕ} {P : ℕ} → DrewPoints set p v v' r → points_code r ≡ drew P → AllPoints set p (drawn_points P v')
drew_all set p r d e = let h = points_drawn set p r d e in record { top = h.0; drawn = h.1; are = h.2 }

pub wrote_all : {set : Settings} {p : Patch} {ps : List Point} → WrotePoints set p ps → AllPoints set p ps
wrote_all {set} {p} (wrote r v v' P d e) = drew_all set p r d e

-- on any two outer edges with the same spacing, level and top level, of one patch or of two, in point mode or not, the points
-- that the operations wrote have the same places q(0) to q(n), and these mirror
pub drawn_seam : {set set' : Settings} {p p' : Patch} (r r' : Result ℕ DrawRefusal) {v v' w w' : List ℕ} {P Q : ℕ} → DrewPoints set p v v' r → DrewPoints set' p' w w' r'
    → points_code r ≡ drew P → points_code r' ≡ drew Q → (j k : ℕ) → IsEdge p j → IsEdge p' k → EdgesAlike set set' p p' j k
    → Seam set p p' j k (drawn_points P v') (drawn_points Q w')
drawn_seam {set} {set'} {p} {p'} r r' d d' e e' = seam_between (drew_all set p r d e) (drew_all set' p' r' d' e')

-- the third demand for the two lists that the two operations wrote for one patch
pub together : (set : Settings) (p : Patch) → Surface p → (r s : Result ℕ DrawRefusal) {v v' i i' : List ℕ} {P I : ℕ} → DrewPoints set p v v' r
    → DrewIndices set p i i' s → points_code r ≡ drew P → indices_code s ≡ drew I → ThirdDemand WrotePoints set p (drawn_points P v') (take I i')
together set p f r s d d' e e' = demand_of WrotePoints (λ t q ps w. wrote_all w) f (drew_all set p r d e) (demand_together set p r s d d' e e')
