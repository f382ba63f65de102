-- A whole file: what follows the header. Assumes nothing.
use Prim.Native.Nat.{ℕ}
use native.Mathlib.Omega.{arith}
use mathlib.Core.Path.{◌≡◌, ap}
use mathlib.Core.List.{List}
use lib.ListN.{length}
use Rattle.job.specs.declared.cursor.Cursor.{Cursor}
use Rattle.job.specs.declared.header.Header.{Header}
use Rattle.std.specs.Prelude.{Ok, None}
use Rattle.job.specs.Header.{header_of}
use Rattle.job.specs.Records.{record_at}
use Rattle.job.proofs.Headers.{header_exactly}
use Rattle.job.proofs.Records.{record_end}

-- nothing but the end follows a header alone
pub header_alone : (bs : List ℕ) (header : Header) → length bs ≡ 5 → header_of bs ≡ Ok header → record_at header.version bs header.next.at ≡ Ok None
header_alone bs header h e =
    record_end header.version bs header.next.at (omega (arith, ap (λ (c : Cursor). c.at) ((header_exactly bs (Ok header)).0 e).3))
