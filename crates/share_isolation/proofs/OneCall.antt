-- Demand 3 for what one call appends, taken by itself, and that exactly one triangle holds each spot. Assumes nothing.
use Prim.Native.Nat.{ℕ, ◌+◌, ◌-◌, ◌*◌, ◌≤◌}
use mathlib.Core.Path.{◌≡◌, refl, sym, ap, ◌∙◌}
use mathlib.Core.List.{List, [], ◌∷◌, map}
use native.Mathlib.Omega.{arith}
use lib.ListN.{length, take, drop}
use Rattle.buffer.specs.Over.{over}
use Rattle.patch.specs.declared.kinds.Patch.{Patch}
use Rattle.patch.specs.declared.settings.Settings.{Settings}
use Rattle.patch.specs.Subdivide.{subdivision_of}
use Rattle.patch_mesh.specs.Points.{points}
use Rattle.mesh_geometry.specs.Words.{read_points}
use Rattle.patch_mesh.specs.Demand.{Demand}
use Rattle.patch_mesh.specs.Inside.{SpotsOnce}
use Rattle.mesh_geometry.proofs.ReadBack.{read_points_lem}
use Rattle.patch_mesh.proofs.Demand.{demand}
use Rattle.patch_mesh.proofs.Once.{demand_once}
use Rattle.answer_codes.specs.AnswerCode.{AnswerCode, drew_both}
use Rattle.tessellate.specs.Draws.{point_words, connection_words}
use Rattle.level.proofs.Top.{top_as}
use Rattle.share_state.specs.declared.state.Designer.{Designer}
use Rattle.share_state.specs.declared.state.State.{State}
use Rattle.share_draw.specs.declared.answer.DrawResult.{DrawResult}
use Rattle.share_state.specs.SharedList.{first_free}
use Rattle.share_answers.specs.Answers.{draw_code, points_held}
use Rattle.share_draw.specs.Operations.{new_indices, DidDraw}
use Rattle.share_draw.proofs.Parts.{lent_words}
use Rattle.share_draw.proofs.Counts.{point_words_lem, index_words_lem}
use Rattle.share_draw.proofs.Drawn.{ready}

-- n added to numbers, and subtracted again
pub lowered : (n : ℕ) (xs : List ℕ) → map (λ x. x - n) (map (λ x. n + x) xs) ≡ xs
lowered n [] = refl
lowered n (x ∷ xs) =
    let e : n + x - n ≡ x = omega arith in
    rw (e, lowered n xs)

-- the m words from a on are those that were written there
pub written : (xs : List ℕ) {xs' : List ℕ} (a m : ℕ) (ws : List ℕ) → m ≡ length ws → a ≤ length xs → xs' ≡ over xs a ws → take m (drop a xs') ≡ ws
written xs {xs'} a m ws e h is =
    let n : a + m - a ≡ m = omega arith in
    rw is (ap (λ (j : ℕ). take j (drop a (over xs a ws))) (sym n) ∙ lent_words xs a (a + m) ws (omega arith) h)

-- the points and indices that a call appended, read from the lists at exit; from each index the number of earlier points is subtracted
pub one_call : (d : Designer) (s : State) (set : Settings) (p : Patch) {v v' i i' : List ℕ} (r : DrawResult) (m k : ℕ) → DidDraw d s set p v v' i i' r
    → draw_code r.answer ≡ drew_both m k
    → Demand set p (read_points (take (3 * m) (drop (first_free d s.vertices) v'))) (map (λ x. x - points_held d s) (take k (drop (first_free d s.indices) i')))
one_call d s set p {v} {v'} {i} {i'} r m k h e =
    let c = subdivision_of set p in
    let g = ready d s set p v i m k (sym e ∙ h.answer) in
    let n = points_held d s in
    let drawn : (draw_code r.answer).number ≡ 0 = ap (λ (t : AnswerCode). t.number) e in
    let vs : v' ≡ over v (first_free d s.vertices) (point_words set p) = h.vertices ∙ rw drawn in
    let is : i' ≡ over i (first_free d s.indices) (new_indices d s set p) = h.indices ∙ rw drawn in
    let ps = written v (first_free d s.vertices) (3 * m) (point_words set p) (omega (arith, g.points, point_words_lem set p)) (omega (arith, g.vertices)) vs in
    let ws = written i (first_free d s.indices) k (new_indices d s set p) (omega (arith, g.words, index_words_lem n set p)) (omega (arith, g.indices)) is in
    rw (ps, read_points_lem (points c), ws, lowered n (connection_words set p)) (demand set (top_as set.top g.vertices.top) p g.vertices.drawn)

-- exactly one triangle holds each spot
pub once_call : (d : Designer) (s : State) (set : Settings) (p : Patch) {v v' i i' : List ℕ} (r : DrawResult) (m k : ℕ) → DidDraw d s set p v v' i i' r
    → draw_code r.answer ≡ drew_both m k
    → SpotsOnce set p (read_points (take (3 * m) (drop (first_free d s.vertices) v'))) (map (λ x. x - points_held d s) (take k (drop (first_free d s.indices) i')))
once_call d s set p {v} {i = i} r m k h e =
    demand_once set (top_as set.top (ready d s set p v i m k (sym e ∙ h.answer)).vertices.top) p (one_call d s set p r m k h e)
