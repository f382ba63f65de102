-- The outer edges of a patch, by the bytes and levels that ask for it. Assumes nothing.
use Prim.Native.Nat.{ℕ, zero, suc, ◌<◌}
use mathlib.Core.Path.{◌≡◌, refl, sym, ap, ◌∙◌}
use mathlib.Core.Bool.{false}
use mathlib.Core.List.{List, []}
use mathlib.Core.Logic.{◌⊎◌, inl, inr, ⊎_elim}
use native.Mathlib.Omega.{arith}
use lib.Ieee.{Float}
use lib.ListN.{length, get_or}
use Rattle.patch.specs.declared.kinds.Patch.{Patch}
use Rattle.patch.specs.Subdivide.{outer_levels}
use Rattle.patch_mesh.specs.Demand.{Surface, outer_level}
use Rattle.job.specs.Patches.{patch_with}
use Rattle.job_fields.specs.Bytes.{byte_at}
use Rattle.job_fields.specs.Settings.{kind_of, spacing_of, point_mode_of}
use Rattle.job_fields.specs.declared.setting.Kind.{Kind}
use Rattle.call_inputs.specs.Inputs.{level_at, levels_in, patch_in, settings_in}
use Rattle.third_demand.specs.Seams.{IsEdge, EdgesAlike}
use Rattle.drawn_calls.specs.Edges.{EdgeIn, EdgesAlikeIn}

-- an edge, and its level is the one at its place
record Has (p : Patch) (xs : List Float) (k : ℕ) : Type 0 where
  edge : IsEdge p k
  level : outer_level p k ≡ level_at xs k

of_triangles : (b : ℕ) (xs : List Float) (k : ℕ) → b ≡ 0 → k < 3 → Has (patch_with (kind_of b) (levels_in xs)) xs k
of_triangles b xs zero e h = rw e (record { edge = record { surface = tt; number = omega arith }; level = refl })
of_triangles b xs (suc zero) e h = rw e (record { edge = record { surface = tt; number = omega arith }; level = refl })
of_triangles b xs (suc (suc zero)) e h = rw e (record { edge = record { surface = tt; number = omega arith }; level = refl })
of_triangles b xs (suc (suc (suc k))) e h = absurd (omega arith)

of_quads : (b : ℕ) (xs : List Float) (k : ℕ) → b ≡ 1 → k < 4 → Has (patch_with (kind_of b) (levels_in xs)) xs k
of_quads b xs zero e h = rw e (record { edge = record { surface = tt; number = omega arith }; level = refl })
of_quads b xs (suc zero) e h = rw e (record { edge = record { surface = tt; number = omega arith }; level = refl })
of_quads b xs (suc (suc zero)) e h = rw e (record { edge = record { surface = tt; number = omega arith }; level = refl })
of_quads b xs (suc (suc (suc zero))) e h = rw e (record { edge = record { surface = tt; number = omega arith }; level = refl })
of_quads b xs (suc (suc (suc (suc k)))) e h = absurd (omega arith)

has : (bs : List ℕ) (xs : List Float) (k : ℕ) → EdgeIn bs k → Has (patch_in bs xs) xs k
has bs xs k e = ⊎_elim (λ w. of_triangles (byte_at bs 0) xs k w.0 w.1) (λ w. of_quads (byte_at bs 0) xs k w.0 w.1) e

pub edge_in : (bs : List ℕ) (xs : List Float) (k : ℕ) → EdgeIn bs k → IsEdge (patch_in bs xs) k
edge_in bs xs k e = (has bs xs k e).edge

pub alike_in : (bs bs' : List ℕ) (xs xs' : List Float) (j k : ℕ) → EdgeIn bs j → EdgeIn bs' k → EdgesAlikeIn bs bs' xs xs' j k
    → EdgesAlike (settings_in bs) (settings_in bs') (patch_in bs xs) (patch_in bs' xs') j k
alike_in bs bs' xs xs' j k e f a = record {
  spacing = ap spacing_of a.spacing;
  top = a.top;
  level = (has bs xs j e).level ∙ a.level ∙ sym (has bs' xs' k f).level;
}

-- ---- triangles
pub surface_in : (bs : List ℕ) (xs : List Float) → (byte_at bs 0 ≡ 0) ⊎ (byte_at bs 0 ≡ 1) → Surface (patch_in bs xs)
surface_in bs xs h = (edge_in bs xs 0 (⊎_elim (λ e. inl (e, omega arith)) (λ e. inr (e, omega arith)) h)).surface

pub filled_in : (bs : List ℕ) → byte_at bs 4 ≡ 0 → (settings_in bs).point_mode ≡ false
filled_in bs e = ap point_mode_of e
