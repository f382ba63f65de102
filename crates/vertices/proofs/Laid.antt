-- Where the writers find the rows of a patch's edges: in the table, or in the list of computed rows. Assumes nothing.
use Prim.Native.Nat.{ℕ, ◌+◌, ◌≤◌}
use mathlib.Core.Path.{◌≡◌}
use mathlib.Core.Logic.{inr}
use mathlib.Core.List.{List}
use native.Mathlib.Omega.{arith}
use Rattle.level.specs.declared.Segments.{Segments}
use Rattle.level.specs.Segments.{Valid}
use Rattle.edge.specs.Rows.{RowAt, RowFilled}
use Rattle.edge_table.specs.Stored.{rows_to, Widest}
use Rattle.edge.proofs.Rows.{row_kept}
use Rattle.edge_table.proofs.StoredRows.{row_stored}
use Rattle.vertices.specs.Rows.{Stored, AllStored, AllValid, Widths, last, then}

-- ---- computed rows: a row stays unchanged when the row of s is computed at least 65 words before it
pub kept : (s : Segments) → s.count ≤ 64 → {xs ys : List ℕ} {from : ℕ} → RowFilled xs from s.count s.scaled ys → (k : ℕ) {n L : ℕ} → RowAt xs (from + 65 + k) n L
    → RowAt ys (from + 65 + k) n L
kept s few f k r = row_kept f (inr (omega arith)) r

-- ---- rows in the table, of which m are taken
module _ (m : ℕ) (few : m ≤ 64) where
  within : {before end : ℕ} {ss : List Segments} → end ≤ m → Widths before ss end → before ≤ m
  within k (last w) = omega (arith, w.past (omega arith))
  within k (then w ws) = let h = within k ws in omega (arith, w.past (omega arith))

  module _ {rows : List ℕ} (e : rows ≡ rows_to m) where
    one_stored : {before r : ℕ} {s : Segments} → r ≤ m → Valid s.count s.scaled → Widest before s r → Stored rows s
    one_stored {s = s} k v w =
        let q = w.own (omega arith) in
        rw (e, q.scaled) (row_stored m s.count v.some (omega (arith, q.few)))

    -- each edge has its row in the table
    pub all_stored : {before end : ℕ} {ss : List Segments} → end ≤ m → AllValid ss → Widths before ss end → AllStored rows ss
    all_stored k v (last w) = one_stored k v w
    all_stored k v (then w (last x)) = (one_stored (within k (last x)) v.0 w, one_stored k v.1 x)
    all_stored k v (then w (then x ws)) = (one_stored (within k (then x ws)) v.0 w, all_stored k v.1 (then x ws))
