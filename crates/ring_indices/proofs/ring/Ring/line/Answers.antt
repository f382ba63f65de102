use native.Mathlib.Omega.{arith}
use mathlib.Core.Path.{◌≡◌, refl, sym, ap, ◌∙◌}
use Prim.Native.Nat.{◌+◌}
use mathlib.Core.Logic.{⊎_elim}
use Rattle.mesh_topology.specs.Ring.{ring_at}
use Rattle.mesh_topology.proofs.Ring.{ring_last, ring_point}
use Rattle.ring_indices.proofs.Rings.{follows_ring}
use Rattle.ring_indices.proofs.ring.Ring.line.Goals as goal
use Rattle.ring_indices.proofs.ring.Ring.line.Goals.{then-end-self, else-end-self}

pub returns : goal.returns
returns c =
    let a = c.args in
    let last : c.if-end-self.last ≡ ring_at a.self.base a.self.total (a.o + a.n) = elim c.if-end-self.branch [
      | then-end-self w ↦ w.last-is ∙ sym (ring_last a.self.base a.self.total) ∙ ap (ring_at a.self.base a.self.total) (sym w.if-end-self.true)
      | else-end-self w ↦ w.last-is ∙ ⊎_elim (λ h. absurd (w.if-end-self.false h.0)) (λ h. sym h.1) (ring_point a.self.base a.self.total (a.o + a.n))
    ] in
    record { count = refl; at = follows_ring a.self.base a.self.total a.o a.n c.if-end-self.last c.requires.inside (omega arith) last }
