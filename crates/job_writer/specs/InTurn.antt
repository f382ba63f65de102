-- A whole file written by several calls: the bytes that each call wrote, joined. Assumes nothing.
use Rattle.std.specs.Prelude.{ℕ, ◌≡◌, List, [], ◌∷◌, ◌++◌, take, Ok}
use Rattle.job_fields.specs.declared.version.Version.{Version}
use Rattle.job.specs.declared.record.Record.{Record}
use Rattle.job_writer.specs.Answers.{WroteHeader, WroteRecord}

-- ys are the bytes that one call per record wrote, each into any list
pub data RecordsInTurn (v : Version) : List Record → List ℕ → Type 0 where
  none : RecordsInTurn v [] []
  more : {x : Record} {xs : List Record} {l l' ys : List ℕ} {n : ℕ} → WroteRecord v x l l' (Ok n) → RecordsInTurn v xs ys
      → RecordsInTurn v (x ∷ xs) (take n l' ++ ys)

-- bs are the bytes that a call for the header and then one call per record wrote
pub record FileInTurn (v : Version) (xs : List Record) (bs : List ℕ) : Type 0 where
  pub l : List ℕ
  pub l' : List ℕ
  pub n : ℕ
  pub ys : List ℕ
  pub header : WroteHeader v l l' (Ok n)
  pub records : RecordsInTurn v xs ys
  pub is : bs ≡ take n l' ++ ys
