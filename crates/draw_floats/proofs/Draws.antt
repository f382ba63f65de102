-- The contract of drawing with floats: a refusal changes nothing, and all lists are written if everything fits. Assumes nothing.
use Prim.Native.Nat.{ℕ, ◌*◌}
use mathlib.Core.Path.{◌≡◌, refl, ap, ◌∙◌}
use mathlib.Core.List.{map}
use lib.ListN.{length, take}
use Rattle.std.proofs.Common.{Result, Ok, Err}
use Rattle.buffer.specs.Over.{over}
use Rattle.patch.specs.declared.kinds.Patch.{Patch}
use Rattle.patch.specs.declared.settings.Settings.{Settings}
use Rattle.patch_mesh.specs.Coordinates.{one}
use Rattle.measure.specs.declared.size.DrawnCounts.{DrawnCounts}
use Rattle.tessellate.specs.declared.refusal.DrawRefusal.{DrawRefusal}
use Rattle.tessellate.specs.Draws.{DrewPoints, DrewIndices}
use Rattle.coordinate.specs.Coordinate.{coordinate}
use Rattle.draw_floats.specs.declared.refusal.FloatsRefusal.{FloatsRefusal}
use Rattle.draw_floats.specs.declared.refusal.FloatsRefusal.TheVariants.{BadTop, Discarded, NoRoomForVertices, NoRoomForIndices, NoRoomForFloats}
use Rattle.draw_floats.specs.Answers.{floats_code, floats_verdict}
use Rattle.draw_floats.specs.Draws.{MeshLists, DrewWithFloats}
use Rattle.draw_floats.proofs.Verdicts.{drawn_fits}
use Rattle.draw_floats.proofs.Lists.{points_over, indices_over, floats_over}

module _ (set : Settings) (p : Patch) {before : MeshLists} where
  pub untouched : (r : FloatsRefusal) → floats_code (Err r) ≡ floats_verdict set p (length before.vertices) (length before.indices) (length before.floats)
      → DrewWithFloats set p before before (Err r)
  untouched Discarded e = record { answer = e; vertices = refl; indices = refl; floats = refl }
  untouched NoRoomForVertices e = record { answer = e; vertices = refl; indices = refl; floats = refl }
  untouched NoRoomForIndices e = record { answer = e; vertices = refl; indices = refl; floats = refl }
  untouched NoRoomForFloats e = record { answer = e; vertices = refl; indices = refl; floats = refl }
  untouched BadTop e = record { answer = e; vertices = refl; indices = refl; floats = refl }

  -- drawn, by the two operations and the loop for the floats
  pub all_written : (counts : DrawnCounts) {unit : ℕ} {after : MeshLists} (a b : Result ℕ DrawRefusal)
      → floats_code (Ok counts) ≡ floats_verdict set p (length before.vertices) (length before.indices) (length before.floats)
      → DrewPoints set p before.vertices after.vertices a → DrewIndices set p before.indices after.indices b → unit ≡ one p
      → after.floats ≡ over before.floats 0 (map (coordinate unit) (take (3 * counts.points) after.vertices)) → DrewWithFloats set p before after (Ok counts)
  all_written counts {after = after} a b e da db u d =
      let fits = drawn_fits set p before.vertices before.indices before.floats counts.points counts.indices e in
      let es = points_over set p fits a da in
      record {
        answer = e;
        vertices = es;
        indices = indices_over set p fits b db;
        floats = floats_over set p fits es (d ∙ ap (λ (n : ℕ). over before.floats 0 (map (coordinate n) (take (3 * counts.points) after.vertices))) u);
      }
