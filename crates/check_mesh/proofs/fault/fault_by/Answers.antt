use Rattle.patch_outline.proofs.Fronts.{outline_read}
use Rattle.check_mesh.proofs.fault.fault_by.Goals as goal

pub returns : goal.returns
returns g c = rw (← outline_read c.write_outline-count.ensures) c.mesh_fault.ensures
