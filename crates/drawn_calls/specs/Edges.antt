-- Outer edges by what a caller in C passes: six setting bytes and six levels. Assumes nothing.
use Rattle.std.specs.Prelude.{ℕ, ◌<◌, ◌≡◌, List, ◌⊎◌, Float}
use Rattle.job_fields.specs.Bytes.{byte_at}
use Rattle.call_inputs.specs.Inputs.{level_at}

-- k is an outer edge of the patch asked for: one of three for triangles, one of four for quads
abbrev pub EdgeIn : List ℕ → ℕ → Type 0
EdgeIn bs k = ((byte_at bs 0 ≡ 0) × (k < 3)) ⊎ ((byte_at bs 0 ≡ 1) × (k < 4))

-- edge j of one call and edge k of another have the same spacing byte, top byte and level
pub record EdgesAlikeIn (bs bs' : List ℕ) (xs xs' : List Float) (j k : ℕ) : Type 0 where
  pub spacing : byte_at bs 1 ≡ byte_at bs' 1
  pub top : byte_at bs 5 ≡ byte_at bs' 5
  pub level : level_at xs j ≡ level_at xs' k

-- triangles are asked for: kind 0 or 1, and point mode is off
pub record TrianglesIn (bs : List ℕ) : Type 0 where
  pub kind : (byte_at bs 0 ≡ 0) ⊎ (byte_at bs 0 ≡ 1)
  pub switch : byte_at bs 4 ≡ 0
