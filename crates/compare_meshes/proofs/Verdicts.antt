-- Each return of a comparison is the right answer. Assumes nothing.
use Prim.Native.Nat.{ℕ, ◌*◌, ◌/◌, ◌%◌, ◌≤◌, ◌<◌}
use mathlib.Core.Path.{◌≡◌, refl, sym, ◌∙◌}
use mathlib.Core.Bool.{Bool, true, false, cond, ◌&&◌}
use mathlib.Core.List.{List, [], ◌∷◌}
use native.Mathlib.Omega.{arith}
use lib.ListN.{length, get_or}
use lib.Dec.{ltb, leb, eqb}
use borrow.Author.Tests.{lt-ltb, le-ltb, ltb-false, leb-false}
use Rattle.buffer.proofs.Laws.{over_none}
use Rattle.mesh_geometry.specs.Words.{read_points}
use Rattle.check_searches.specs.Indices.{first_unknown_index}
use Rattle.check_searches.specs.Points.{repeats, first_repeated}
use Rattle.check_searches.proofs.First.{first_most, first_before}
use Rattle.compare_meshes.specs.declared.answer.Fault.{Fault}
use Rattle.compare_meshes.specs.declared.answer.Fault.TheVariants.{NotThrees, UnknownIndex, EqualPoints}
use Rattle.compare_meshes.specs.declared.answer.CompareRefusal.{CompareRefusal}
use Rattle.compare_meshes.specs.declared.answer.CompareRefusal.TheVariants.{NoRoom, Left, Right}
use Rattle.std.specs.Prelude.{⊤, Result, Ok, Err}
use Rattle.compare_differences.specs.Meshes.{DistinctAndNumbered}
use Rattle.compare_differences.specs.Differences.{Difference, differences, words}
use Rattle.compare_meshes.specs.Answers.{MeshWords, mesh_in, checked, counted, compare_verdict, comparison_code, DifferencesListed, Compared}
use Rattle.answer_codes.specs.Drew.{list_after}

pub counted_short : (n k room : ℕ) → n ≡ k → room / 3 < n → Err (NoRoom n) ≡ counted k room
counted_short n k room e h = rw (← e, lt-ltb room (3 * n) (omega arith))

pub counted_fits : (n k room : ℕ) → n ≡ k → n ≤ room / 3 → Ok n ≡ counted k room
counted_fits n k room e h = rw (← e, le-ltb room (3 * n) (omega arith))

-- no differences, and nothing to write
pub listed_none : (ds : List Difference) (xs : List ℕ) (n : ℕ) → n ≡ length ds → n ≡ 0 → DifferencesListed ds xs xs (Ok 0)
unfolding words
listed_none [] xs n e h = record { answer = counted_fits 0 0 (length xs) refl (omega arith); list = sym (over_none xs 0) }
listed_none (d ∷ ds) xs n e h = absurd (omega arith)

-- a refusal leaves the list unchanged
left_untouched : (f : Fault) (xs ws : List ℕ) → xs ≡ list_after (comparison_code (Err (Left f))).number xs ws
left_untouched NotThrees xs ws = refl
left_untouched UnknownIndex xs ws = refl
left_untouched EqualPoints xs ws = refl

right_untouched : (f : Fault) (xs ws : List ℕ) → xs ≡ list_after (comparison_code (Err (Right f))).number xs ws
right_untouched NotThrees xs ws = refl
right_untouched UnknownIndex xs ws = refl
right_untouched EqualPoints xs ws = refl

module _ (left right : MeshWords) (xs : List ℕ) where
  -- the left mesh is refused
  pub refused_left : (f : Fault) → checked left.points left.indices ≡ Err f → Compared left right xs xs (Err (Left f))
  unfolding compare_verdict
  refused_left f e = record { answer = rw e; list = left_untouched f xs _ }

  -- the right mesh is refused
  pub refused_right : (f : Fault) → checked left.points left.indices ≡ Ok tt → checked right.points right.indices ≡ Err f
      → Compared left right xs xs (Err (Right f))
  unfolding compare_verdict
  refused_right f e h = record { answer = rw (e, h); list = right_untouched f xs _ }

  -- the differences are listed
  pub both_sound : (xs' : List ℕ) (r : Result ℕ CompareRefusal) → checked left.points left.indices ≡ Ok tt → checked right.points right.indices ≡ Ok tt
      → DifferencesListed (differences (mesh_in left) (mesh_in right)) xs xs' r → Compared left right xs xs' r
  unfolding compare_verdict
  both_sound xs' r e h w = record { answer = w.answer ∙ rw (e, h); list = w.list }

-- a mesh that is not refused can be compared
no_fault : (f : Fault) → ◌≡◌ {A = Result ⊤ Fault} (Err f) (Ok tt) → ⊥
no_fault f e = let z : ◌≡◌ {A = ℕ} 0 1 = cc in omega arith

sound_tests : (b d e : Bool) → ◌≡◌ {A = Result ⊤ Fault} (cond b (cond d (Err UnknownIndex) (cond e (Err EqualPoints) (Ok tt))) (Err NotThrees)) (Ok tt)
    → (d ≡ false) × (e ≡ false)
sound_tests true false false h = (refl, refl)
sound_tests true false true h = absurd (no_fault EqualPoints h)
sound_tests true true e h = absurd (no_fault UnknownIndex h)
sound_tests false d e h = absurd (no_fault NotThrees h)

pub sound_good : (pw iw : List ℕ) → checked pw iw ≡ Ok tt → DistinctAndNumbered pw iw
unfolding checked first_repeated first_unknown_index
sound_good pw iw h =
    let n = length (read_points pw) in
    let t = sound_tests (eqb (length pw % 3) 0 && eqb (length iw % 3) 0) (ltb (first_unknown_index iw n) (length iw)) (ltb (first_repeated (read_points pw)) n) h in
    let u = ltb-false (first_unknown_index iw n) (length iw) t.0 in
    let v = ltb-false (first_repeated (read_points pw)) n t.1 in
    record {
      single = record { is = omega (arith, first_most (repeats (read_points pw)) n) };
      numbered = record { at = λ k l. leb-false n (get_or iw k 0) (first_before (λ i. leb n (get_or iw i 0)) (length iw) k (omega arith)) };
    }
