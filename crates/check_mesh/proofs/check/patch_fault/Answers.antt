use Rattle.patch_outline.proofs.Around.{edges_valid}
use Rattle.check_mesh.proofs.check.patch_fault.Goals as goal

pub fault_within-requires : goal.fault_within-requires
fault_within-requires c =
    rw c.edges_of-edges.ensures (edges_valid c.args.spacing c.args.top c.args.patch c.requires)
