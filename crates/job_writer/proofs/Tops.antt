-- The top level of a record and its byte, in each version. Assumes nothing.
use Prim.Native.Nat.{ℕ, zero, suc, ◌+◌, ◌≤◌, ◌<◌}
use native.Mathlib.Nat.{add-zero}
use native.Mathlib.Omega.{arith}
use mathlib.Core.Path.{◌≡◌, refl, sym}
use mathlib.Core.Bool.{true}
use mathlib.Core.List.{List, [], ◌∷◌}
use borrow.Author.Tests.{eqb-true}
use lib.ListN.{length, get_or}
use Rattle.job_fields.specs.declared.version.Version.{Version}
use Rattle.job_fields.specs.declared.version.Version.TheVariants.{One, Two}
use Rattle.job_fields.specs.Bytes.{byte_at}
use Rattle.job_fields.specs.Version.{record_size}
use Rattle.job_fields.specs.Settings.{choices, AllBelow}
use Rattle.job_fields.specs.Tops.{top_at, AllSettingsKnown}
use Rattle.job_bytes.specs.Written.{takes_top, top_bytes}
use Rattle.job_writer.proofs.Has.{Has, has_byte, has_all}

module _ (bs : List ℕ) (at : ℕ) where
  -- a written top level reads back
  pub top_back : (v : Version) (t : ℕ) → takes_top v t ≡ true → Has bs (at + 5) (top_bytes v t) → top_at v bs at ≡ t
  top_back One t h p = sym (eqb-true t 64 h)
  top_back Two t h p = rw (add-zero (at + 5)) at (has_byte p 0 (omega arith))

  -- the top level is in range, if the other setting bytes are
  pub top_known : (v : Version) (t : ℕ) → takes_top v t ≡ true → top_at v bs at ≡ t → AllBelow choices bs at → AllSettingsKnown v bs at
  top_known One t h e a = a
  top_known Two t h e a = (a, rw e h)

  -- if all setting bytes are in range, the version can hold the top level that is read
  pub top_taken : (v : Version) → AllSettingsKnown v bs at → (AllBelow choices bs at) × (takes_top v (top_at v bs at) ≡ true)
  top_taken One a = (a, refl)
  top_taken Two a = a

  -- the byte of the top level is where it was read
  pub top_again : (v : Version) → at + record_size v ≤ length bs → Has bs (at + 5) (top_bytes v (top_at v bs at))
  top_again One h = record { is = refl }
  top_again Two h = has_all bs (at + 5) (byte_at bs (at + 5) ∷ []) (omega arith) same
    where
      same : (i : ℕ) → i < 1 → byte_at bs (at + 5 + i) ≡ get_or (byte_at bs (at + 5) ∷ []) i 0
      same zero l = rw (add-zero (at + 5))
      same (suc i) l = absurd (omega arith)
