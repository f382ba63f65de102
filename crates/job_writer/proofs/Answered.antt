-- The answer of a writer satisfies its whole contract. Assumes nothing.
use Prim.Native.Nat.{ℕ, ◌≤◌, ◌<◌}
use native.Mathlib.Omega.{arith}
use mathlib.Core.Path.{◌≡◌, refl, sym}
use mathlib.Core.Bool.{true, false}
use mathlib.Core.List.{List}
use borrow.Author.Tests.{lt-ltb, le-ltb}
use lib.ListN.{length, take}
use Rattle.buffer.specs.Over as buffer
use Rattle.buffer.proofs.Laws.{over_front}
use Rattle.job_fields.specs.declared.version.Version.{Version}
use Rattle.job.specs.declared.record.Record.{Record}
use Rattle.job_fields.specs.Version.{record_size}
use Rattle.std.specs.Prelude.{Ok, Err}
use Rattle.job_writer.specs.declared.answer.RecordRefusal.TheVariants.{NoRoom, BadTop}
use Rattle.job_bytes.specs.Written.{header_bytes, record_bytes, takes_top}
use Rattle.job_writer.specs.Whole.{Writable}
use Rattle.job_writer.specs.Answers.{WroteHeader, WroteRecord}
use Rattle.job_bytes.proofs.Lengths.{header_length, record_length}
use Rattle.job_writer.proofs.Headers.{header_back}
use Rattle.job_writer.proofs.RoundTrip.{record_back}

-- bytes written at the front are there
front : {bytes xs xs' : List ℕ} {r size : ℕ} → length bytes ≡ size → buffer.Wrote xs 0 bytes xs' r → take size xs' ≡ bytes
front {bytes} {xs} {size = size} n w = rw w.is (over_front xs bytes size (sym n))

module _ (v : Version) {xs : List ℕ} where
  pub header_no_room : length xs < 5 → WroteHeader v xs xs (Err (record {}))
  header_no_room h = record { wrote = record { answer = rw (lt-ltb _ _ h); list = refl }; back = λ e. absurd (omega arith) }

  pub header_written : {xs' : List ℕ} {r : ℕ} → 5 ≤ length xs → buffer.Wrote xs 0 (header_bytes v) xs' r → WroteHeader v xs xs' (Ok r)
  header_written {xs'} {r} h w =
      let n = header_length v in
      let e : r ≡ 5 = omega arith in
      record { wrote = record { answer = rw (le-ltb _ _ h, e); list = w.is }; back = λ _. header_back v xs' (front n w) }

module _ (v : Version) (x : Record) where
  pub record_bad_top : {xs : List ℕ} → takes_top v x.settings.top ≡ false → WroteRecord v x xs xs (Err BadTop)
  record_bad_top t = record { wrote = record { answer = rw t; list = refl }; back = λ e. absurd (omega arith) }

  pub record_no_room : {xs : List ℕ} → takes_top v x.settings.top ≡ true → length xs < record_size v → WroteRecord v x xs xs (Err NoRoom)
  record_no_room t h = record { wrote = record { answer = rw (t, lt-ltb _ _ h); list = refl }; back = λ e. absurd (omega arith) }

  pub record_written : {xs xs' : List ℕ} {r : ℕ} → Writable v x → record_size v ≤ length xs → buffer.Wrote xs 0 (record_bytes v x) xs' r
      → WroteRecord v x xs xs' (Ok r)
  record_written {xs' = xs'} {r = r} can h w =
      let n = record_length v x in
      let e : r ≡ record_size v = omega arith in
      record { wrote = record { answer = rw (can.top, le-ltb _ _ h, e); list = w.is }; back = λ _. record_back v xs' 0 x can (front n w) }
