-- A fault, or what comes next: the result of a search compared with the number of places. Assumes nothing.
use Prim.Native.Nat.{ℕ, ◌%◌, ◌≤◌, ◌<◌}
use mathlib.Core.Path.{◌≡◌}
use mathlib.Core.Bool.{Bool, and-false}
use mathlib.Core.List.{List}
use native.Mathlib.Omega.{arith}
use borrow.Author.Tests.{lt-ltb, le-ltb, ne_eqb}
use lib.ListN.{length}
use Rattle.mesh_geometry.specs.declared.Point.{Point}
use Rattle.check_verdict.specs.declared.fault.Fault.{Fault}
use Rattle.check_verdict.specs.declared.fault.Fault.TheVariants.{NotThrees}
use Rattle.check_verdict.specs.Faults.{Verdict, or_else, mesh_fault}
use Rattle.std.specs.Prelude.{Err}

-- found at r
pub found : (f : ℕ → Fault) (rest : Verdict) {r x m n : ℕ} → r ≡ x → n ≡ m → r < m → Err (f r) ≡ or_else x n (f x) rest
found f rest {x = x} {n = n} e k l = rw (e, lt-ltb x n (omega arith))

-- not found
pub next : (fault : Fault) {v rest : Verdict} {r x m n : ℕ} → r ≡ x → n ≡ m → m ≤ r → v ≡ rest → v ≡ or_else x n fault rest
next fault {x = x} {n = n} e k l h = rw (le-ltb x n (omega arith)) h

-- a number of point words, or of indices, that is not a multiple of three
pub points_not_threes : (triangles positive : Bool) (outline : List Point) (pw iw : List ℕ) → 0 < length pw % 3 → mesh_fault triangles positive outline pw iw ≡ Err NotThrees
unfolding mesh_fault
points_not_threes triangles positive outline pw iw l = rw (ne_eqb (length pw % 3) 0 (λ e. omega arith))

pub indices_not_threes : (triangles positive : Bool) (outline : List Point) (pw iw : List ℕ) → 0 < length iw % 3 → mesh_fault triangles positive outline pw iw ≡ Err NotThrees
unfolding mesh_fault
indices_not_threes triangles positive outline pw iw l = rw (ne_eqb (length iw % 3) 0 (λ e. omega arith), and-false)
