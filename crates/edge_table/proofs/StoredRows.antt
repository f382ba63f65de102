-- The table of equal spacing: where each row is, and that the places by table and by division agree. Assumes nothing.
use mathlib.Core.Path.{◌≡◌, sym, ap, ◌∙◌}
use mathlib.Core.List.{List, ◌++◌, append_assoc}
use Prim.Native.Nat.{ℕ, zero, suc, ◌+◌, ◌-◌, ◌*◌, ◌≤◌}
use native.Mathlib.Nat.{zero-add, add-zero}
use native.Mathlib.Omega.{arith}
use lib.ListN.{length, get_or, take, length-append, get_or-append}
use lib.Seq.{get_or-append-add, take_at, take_all}
use Rattle.buffer.specs.Over.{Wrote}
use Rattle.buffer.proofs.Laws.{over_front}
use Rattle.edge.specs.Positions.{position, entry}
use Rattle.edge.specs.Rows.{edge_row, RowAt}
use Rattle.edge_table.specs.Stored.{row_start, rows_from, rows_to}
use Rattle.edge.specs.Table.{table}
use Rattle.edge.proofs.Table.{length_table, get_table}
use Rattle.edge.proofs.Entries.{at_point}

-- rows, then the rows after them
rows_split : (n k m : ℕ) → rows_from n (k + m) ≡ rows_from n k ++ rows_from (n + k) m
unfolding rows_from
rows_split n zero m = rw (zero-add m, add-zero n)
rows_split n (suc k) m =
    let a : suc k + m ≡ suc (k + m) = omega arith in
    let b : n + suc k ≡ suc n + k = omega arith in
    rw (a, b, rows_split (suc n) k m) (sym (append_assoc (edge_row n (65536 * n)) (rows_from (suc n) k) (rows_from (suc n + k) m)))

-- twice the number of words in k rows, the first of which has n segments
rows_length : (n k : ℕ) → 2 * length (rows_from n k) ≡ k * (2 * n + k + 1)
unfolding rows_from
rows_length n zero = omega arith
rows_length n (suc k) =
    omega (arith, rows_length (suc n) k, length-append (edge_row n (65536 * n)) (rows_from (suc n) k), length_table (position n (65536 * n)) (suc n))

-- the rows before that of k + 1 segments end where it begins
before_length : (k : ℕ) → length (rows_to k) ≡ row_start (suc k)
before_length k =
    let e : suc k - 1 ≡ k = omega arith in
    rw e (omega (arith, rows_length 1 k))

-- the first w words of the table, if they are m rows
pub rows_cut : (m w : ℕ) (xs : List ℕ) → xs ≡ rows_to 64 → 2 * w ≡ m * (m + 3) → m ≤ 64 → take w xs ≡ rows_to m
rows_cut m w xs e h k =
    let whole : m + (64 - m) ≡ 64 = omega arith in
    let l : length (rows_to m) ≡ w = omega (arith, rows_length 1 m) in
    ap (take w) (e ∙ ap rows_to (sym whole) ∙ rows_split 1 m (64 - m)) ∙ take_at (rows_to m) (rows_from (1 + m) (64 - m)) w l

-- they are what is left where they were written over all of a list
pub rows_written : (m w : ℕ) {xs ys zs : List ℕ} {r : ℕ} → xs ≡ rows_to 64 → 2 * w ≡ m * (m + 3) → m ≤ 64 → length ys ≡ w → Wrote zs 0 (take w xs) ys r → ys ≡ rows_to m
rows_written m w {xs} {ys} {zs} e whole few n c =
    let cut = rows_cut m w xs e whole few in
    let l : length (take w xs) ≡ w = omega (arith, ap length cut, rows_length 1 m) in
    sym (take_all w ys (omega arith)) ∙ ap (take w) c.is ∙ over_front zs (take w xs) w (sym l) ∙ cut

-- a row, between those before it and those after it
row_split : (k j : ℕ) → rows_to (k + suc j) ≡ rows_to k ++ (edge_row (suc k) (65536 * suc k) ++ rows_from (suc (suc k)) j)
unfolding rows_from
row_split k j = rows_split 1 k (suc j) ∙ ap (λ (n : ℕ). rows_to k ++ (edge_row n (65536 * n) ++ rows_from (suc n) j)) (omega arith)

row_between : (xs ys zs : List ℕ) (from n L : ℕ) → xs ≡ ys ++ (edge_row n L ++ zs) → length ys ≡ from → RowAt xs from n L
row_between xs ys zs from n L e l =
    let row = length_table (position n L) (suc n) in
    rw (e, ← l) (record {
      fits = omega (arith, length-append ys (edge_row n L ++ zs), length-append (edge_row n L) zs);
      at = λ i h. get_or-append-add ys (edge_row n L ++ zs) i 0 ∙ get_or-append (edge_row n L) zs 0 i (omega arith) ∙ get_table (position n L) (suc n) 0 i (omega arith);
    })

-- each row is at its start in the table
pub row_stored : (m n : ℕ) → 1 ≤ n → n ≤ m → RowAt (rows_to m) (row_start n) n (65536 * n)
row_stored m zero h l = absurd (omega arith)
row_stored m (suc k) h l =
    let e : m ≡ k + suc (m - suc k) = omega arith in
    row_between (rows_to m) (rows_to k) (rows_from (suc (suc k)) (m - suc k)) (row_start (suc k)) (suc k) (65536 * suc k)
    (ap rows_to e ∙ row_split k (m - suc k)) (before_length k)

-- each entry of the table is the place of its point
pub stored_position : (n i : ℕ) → 1 ≤ n → n ≤ 64 → i ≤ n → get_or (rows_to 64) (row_start n + i) 0 ≡ position n (65536 * n) i
stored_position n i h k = (row_stored 64 n h k).at i

-- the places by table and by division agree
pub stored_divided : (n i : ℕ) → 1 ≤ n → n ≤ 64 → i ≤ n → get_or (rows_to 64) (row_start n + i) 0 ≡ get_or (table (entry n (65536 * n)) 65) i 0
stored_divided n i h k l = stored_position n i h k l ∙ sym (at_point n (65536 * n) i k l)
