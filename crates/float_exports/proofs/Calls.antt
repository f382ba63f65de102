-- The contract of a call that draws with floats, for refused and for known settings. Assumes nothing.
use Prim.Native.Nat.{ℕ, suc}
use mathlib.Core.Path.{◌≡◌, sym, ◌∙◌}
use mathlib.Core.List.{List, [], ◌∷◌}
use lib.Ieee.{Float}
use Rattle.std.proofs.Common.{Result, Ok, Err}
use Rattle.measure.specs.declared.size.DrawnCounts.{DrawnCounts}
use Rattle.draw_floats.specs.declared.refusal.FloatsRefusal.{FloatsRefusal}
use Rattle.draw_floats.specs.Answers.{floats_code}
use Rattle.draw_floats.specs.Draws.{MeshLists, DrewWithFloats}
use Rattle.call_answers.specs.declared.reply.Reply.{Reply}
use Rattle.call_answers.specs.Replies.{IsReply, unknown_setting, bad_top}
use Rattle.call_answers.proofs.Replies.{said_two, says_as}
use Rattle.call_inputs.specs.declared.asked.Request.{Request}
use Rattle.call_inputs.specs.Asked.{asked_in}
use Rattle.call_inputs.proofs.Reading.{refused_instead, known_granted, granted}
use Rattle.float_exports.specs.Calls.{FloatsCalled}

module _ (bs : List ℕ) (xs : List Float) {before : MeshLists} {c' : List ℕ} {r : ℕ} {reply : Reply}
    (s : (r ≡ reply.number) × (c' ≡ reply.first ∷ reply.second ∷ [])) where
  -- a refusal leaves the lists unchanged
  pub floats_refused : Err reply ≡ asked_in bs xs → FloatsCalled bs xs before before c' r
  floats_refused e =
      let instead = refused_instead bs xs e in
      let said = said_two instead.tells s in
      let z : r ≡ suc instead.less = said.number ∙ instead.number in
      record { says = says_as (instead.answer _) said; vertices = rw z; indices = rw z; floats = rw z }

  pub floats_known : {request : Request} (o : Result DrawnCounts FloatsRefusal) {after : MeshLists} → Ok request ≡ asked_in bs xs
      → DrewWithFloats request.settings request.patch before after o → IsReply (floats_code o) reply
      → FloatsCalled bs xs before after c' r
  floats_known o e d t =
      let g = known_granted bs xs e in
      let drew = rw (g.settings, g.patch) at d in
      let said = said_two t s in
      record {
        says = says_as (granted g bad_top unknown_setting _ ∙ sym drew.answer) said;
        vertices = rw said.number drew.vertices;
        indices = rw said.number drew.indices;
        floats = rw said.number drew.floats;
      }
