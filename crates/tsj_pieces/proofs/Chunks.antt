-- The results of reading and answering a chunk meet the contract. Assumes nothing.
use Prim.Native.Nat.{ℕ, ◌≤◌}
use mathlib.Core.Path.{◌≡◌, subst}
use mathlib.Core.Bool.{true, false, not, ◌&&◌}
use mathlib.Core.List.{List}
use native.Mathlib.Omega.{arith}
use borrow.Author.Tests.{ne_eqb}
use lib.Dec.{eqb}
use lib.ListN.{length, take}
use Rattle.standard_streams.specs.declared.input.Input.{Input}
use Rattle.standard_streams.specs.declared.output.Output.{Output}
use Rattle.standard_streams.specs.Moved.{Filled, Taken}
use Rattle.standard_streams.proofs.Takes.{taken_all}
use Rattle.job_fields.specs.declared.version.Version.{Version}
use Rattle.job_text.specs.Jobs.{answers_from}
use Rattle.tsj_pieces.specs.Chunks.{record_chunk_size, AnsweredChunk}

module _ {v : Version} {bs : List ℕ} {input : Input} {size : ℕ} (e : size ≡ record_chunk_size v) (f : Filled size bs input) where
  pub chunk_unread : input.failed ≡ true → AnsweredChunk v bs (record { input = input; output = record { count = 0; failed = false }; more = false })
  chunk_unread h = record {
    read = subst (λ (n : ℕ). Filled n bs input) e f;
    taken = rw h (taken_all (omega arith) (omega arith));
    most = omega arith;
    more = rw (ne_eqb input.count (record_chunk_size v) (λ g. omega (arith, f.short h)));
  }

  pub chunk_read : input.failed ≡ false → {output : Output} → Taken (length (answers_from v (take input.count bs) 0)) output → output.count ≤ 4026531840
      → AnsweredChunk v bs (record { input = input; output = output; more = eqb input.count size && not output.failed })
  chunk_read h t m = record { read = subst (λ (n : ℕ). Filled n bs input) e f; taken = rw h t; most = m; more = rw e }
