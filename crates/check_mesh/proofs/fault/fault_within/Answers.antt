use native.Mathlib.Omega.{arith}
use Rattle.patch_outline.proofs.Around.{around_most}
use Rattle.check_mesh.proofs.fault.fault_within.Goals as goal

pub fault_by-requires-2-clause-room : goal.fault_by-requires-2-clause-room
fault_by-requires-2-clause-room c = omega (arith, around_most c.args.edges c.requires)
