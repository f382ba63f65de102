-- What is known of the table in any of its forms. Assumes nothing.
use Prim.Native.Nat.{ℕ, ◌+◌, ◌*◌, ◌/◌, ◌<◌}
use mathlib.Core.Path.{◌≡◌, sym, ap, ◌∙◌}
use mathlib.Core.Bool.{false}
use mathlib.Core.List.{List}
use native.Mathlib.Omega.{arith}
use native.Mathlib.Numerals.{add-one}
use lib.ListN.{length}
use Rattle.strip.specs.declared.triangle.Triangle.{Triangle}
use Rattle.check_searches.specs.First.{some_below}
use Rattle.half_edge_chains.specs.Sides.{side_start, side_end, is_side, Once}
use Rattle.half_edge_chains.proofs.Numbers.{numbered_start, numbered_end, start_known, end_known}
use Rattle.mesh_geometry.specs.Words.{read_triangles}
use Rattle.check_searches.specs.Triangles.{triangle_at}
use Rattle.check_searches.specs.Indices.{AllNumbered}
use Rattle.check_faults.specs.Outline.{start_corner, end_of}
use Rattle.half_edges.specs.Tables.{SideAt, FilledTable}
use Rattle.half_edges.proofs.Repeats.{once_more}

-- side e of triangle k
pub side_at : (n : ℕ) (ws : List ℕ) (k e m : ℕ) (t : Triangle) → AllNumbered n ws → k < length ws / 3 → t ≡ triangle_at (read_triangles ws) k → m ≡ k * 3 + e → e < 3
    → SideAt (read_triangles ws) n m (start_corner t e) (end_of t e)
side_at n ws k e m t h l d i b =
    let s : start_corner t e ≡ side_start (read_triangles ws) m = ap (λ u. start_corner u e) d ∙ sym (numbered_start (read_triangles ws) k e m i b) in
    let f : end_of t e ≡ side_end (read_triangles ws) m = ap (λ u. end_of u e) d ∙ sym (numbered_end (read_triangles ws) k e m i b) in
    record { start = s; end = f; start_fits = rw s (start_known n ws m h (omega arith)); end_fits = rw f (end_known n ws m h (omega arith)) }

module _ {T : Type 0} {holds : List Triangle → ℕ → T → Type 0} {ts : List Triangle} {t : T} where
  -- a new side
  pub new_side : {m : ℕ} → holds ts (m + 1) t → Once ts m → some_below (is_side ts (side_start ts m) (side_end ts m)) m ≡ false → FilledTable holds ts (m + 1) t
  new_side {m = m} h o e = record { table = h; once = rw (add-one m) (once_more ts m o e) }

  -- equally many sides
  pub filled_as : {n m : ℕ} → n ≡ m → FilledTable holds ts n t → FilledTable holds ts m t
  filled_as e f = rw (sym e) f
