use native.Mathlib.Omega.{arith}
use mathlib.Core.Path.{sym, ◌∙◌}
use Rattle.compare_meshes.proofs.Verdicts.{sound_good}
use Rattle.compare_meshes.proofs.tool.sound_mesh.Goals as goal

pub invariant_of-result : goal.invariant_of-result
invariant_of-result c = record {
  sound = sound_good _ _ (sym c.check_mesh.ensures ∙ c.in_ok-check_mesh.was);
  small = λ k. omega (arith, c.type_inv.indices k);
}
