-- A written header reads back, and a header that was read is written as the same bytes. Assumes nothing.
use Prim.Native.Nat.{ℕ, ◌≤◌}
use native.Mathlib.Omega.{arith}
use mathlib.Core.Path.{◌≡◌, refl}
use mathlib.Core.List.{List}
use lib.ListN.{length, take}
use Rattle.job_fields.specs.declared.version.Version.{Version}
use Rattle.job.specs.declared.cursor.Cursor.{Cursor}
use Rattle.std.specs.Prelude.{Ok}
use Rattle.job_fields.specs.Bytes.{low_bytes}
use Rattle.job_fields.specs.Version.{version_number}
use Rattle.job.specs.Header.{job_mark, header_with, header_of}
use Rattle.job.proofs.Headers.{header_exactly}
use Rattle.job_bytes.specs.Written.{header_bytes}
use Rattle.job_writer.specs.Whole.{Bytes}
use Rattle.job_bytes.proofs.Lengths.{number_small, header_length}
use Rattle.job_writer.proofs.Has.{Has, has_front, has_back, has_both, has_within, word_has, has_word}

-- bytes that begin with a header are read as that header
pub header_back : (v : Version) (bs : List ℕ) → take 5 bs ≡ header_bytes v → header_of bs ≡ Ok (header_with v)
unfolding header_bytes
header_back v bs e =
    let h : Has bs 0 (header_bytes v) = record { is = rw (header_length v) e } in
    let n : 5 ≤ length bs = omega (arith, header_length v, has_within (omega (arith, header_length v)) h) in
    let number = low_bytes 2 (version_number v) in
    (header_exactly bs (Ok (header_with v))).1
    (n, (has_front job_mark number h).is, word_has 2 (version_number v) (omega (arith, number_small v)) (has_back job_mark number h), refl)

-- bytes that are read as a header begin with its bytes
pub header_again : (v : Version) (bs : List ℕ) (next : Cursor) → Bytes bs → header_of bs ≡ Ok (record { version = v; next = next }) → take 5 bs ≡ header_bytes v
unfolding header_bytes
header_again v bs next b e =
    let m = (header_exactly bs (Ok (record { version = v; next = next }))).0 e in
    let n : 5 ≤ length bs = m.0 in
    let number : Has bs 3 (low_bytes 2 (version_number v)) = rw m.2 at (has_word bs 3 2 n b) in
    let h : Has bs 0 (header_bytes v) = has_both job_mark (low_bytes 2 (version_number v)) (record { is = m.1 }) number in
    rw (header_length v) at h.is
