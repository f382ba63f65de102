-- The customer's sample: the whole text for a job of one triangle record, from its bytes, in each version. Assumes nothing.
use Prim.Native.Nat.{ℕ}
use mathlib.Core.Path.{◌≡◌, refl}
use mathlib.Core.List.{List, [], ◌∷◌}
use lib.Ieee.{of_bits, of_int, is_nan, le}
use Rattle.buffer.specs.Over.{flat}
use Rattle.level.specs.Scale.{scaled_level}
use Rattle.level.specs.Segments.{segments_of, as_inner}
use Rattle.edge.specs.Positions.{position}
use Rattle.edge.specs.Table.{table}
use Rattle.strip.specs.Triangles.{indices}
use Rattle.strip.specs.Rule.{outer_next}
use Rattle.strip.specs.Strips.{strip_from}
use Rattle.mesh_topology.specs.Ring.{ring_at}
use Rattle.mesh_topology.specs.Band.{band_from}
use Rattle.mesh_topology.specs.Nest.{nest}
use Rattle.patch.specs.Every.{some, every}
use Rattle.patch.specs.Subdivide.{subdivision}
use Rattle.mesh_geometry.specs.Edge.{ring}
use Rattle.mesh_geometry.specs.TrianglePoints.{rings}
use Rattle.mesh_geometry.specs.Words.{vertex_words}
use Rattle.patch_mesh.specs.Points.{points}
use Rattle.patch_mesh.specs.Primitives.{triangles, index_words}
use Rattle.job_fields.specs.Bytes.{word}
use Rattle.job.specs.Header.{starts_with, header_of}
use Rattle.job_fields.specs.Settings.{first_over}
use Rattle.job_fields.specs.Tops.{unknown_place}
use Rattle.job.specs.Records.{record_of, record_at}
use Rattle.decimal_text.specs.Digits.{digits_in, digits}
use Rattle.decimal_text.specs.Lines.{line, rows}
use Rattle.decimal_text.specs.Heads.{bytes}
use Rattle.patch_text.specs.Answers.{drawn_text}
use Rattle.job_text.specs.Jobs.{record_texts, job_text}

-- triangles, equal spacing, counter-clockwise, lower-left, no point mode; the levels 1, 1, 1, 0, 2 and 0
abbrev sample_job : List ℕ
sample_job =
    0x54 ∷ 0x53 ∷ 0x4A ∷ 1 ∷ 0 ∷ 0 ∷ 0 ∷ 1 ∷ 1 ∷ 0 ∷ 0 ∷ 0 ∷ 128 ∷ 63 ∷ 0 ∷ 0 ∷ 128 ∷ 63 ∷ 0 ∷ 0 ∷ 128 ∷ 63 ∷ 0 ∷ 0 ∷ 0 ∷ 0 ∷ 0 ∷ 0 ∷ 0 ∷ 64 ∷ 0 ∷ 0 ∷ 0 ∷ 0 ∷ []

-- the text of that job
pub sample_text : job_text sample_job ≡ bytes "TSJ 1\ndrawn 4 9\n0 196608 0\n0 0 196608\n196608 0 0\n65536 65536 65536\n0 1 3\n1 2 3\n2 0 3\n"
unfolding of_bits of_int is_nan le scaled_level segments_of as_inner position table outer_next strip_from indices ring_at band_from nest some every subdivision ring rings
    points triangles index_words vertex_words word
    starts_with header_of first_over unknown_place record_of record_at flat digits_in digits line rows drawn_text record_texts job_text
sample_text = refl

-- the same patch in version 2, with the top level 2, to which the inner level 4 is clamped
abbrev sample_two : List ℕ
sample_two =
    0x54 ∷ 0x53 ∷ 0x4A ∷ 2 ∷ 0 ∷ 0 ∷ 0 ∷ 1 ∷ 1 ∷ 0 ∷ 2 ∷ 0 ∷ 0 ∷ 128 ∷ 63 ∷ 0 ∷ 0 ∷ 128 ∷ 63 ∷ 0 ∷ 0 ∷ 128 ∷ 63 ∷ 0 ∷ 0 ∷ 0 ∷ 0 ∷ 0 ∷ 0 ∷ 128 ∷ 64 ∷ 0 ∷ 0 ∷ 0 ∷ 0 ∷ []

-- the text of that job
pub sample_two_text : job_text sample_two ≡ bytes "TSJ 2\ndrawn 4 9\n0 196608 0\n0 0 196608\n196608 0 0\n65536 65536 65536\n0 1 3\n1 2 3\n2 0 3\n"
unfolding of_bits of_int is_nan le scaled_level segments_of as_inner position table outer_next strip_from indices ring_at band_from nest some every subdivision ring rings
    points triangles index_words vertex_words word
    starts_with header_of first_over unknown_place record_of record_at flat digits_in digits line rows drawn_text record_texts job_text
sample_two_text = refl
