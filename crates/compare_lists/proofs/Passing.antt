-- The numbers that pass a test: how a loop counts them, and how a loop writes their words. Assumes nothing.
use Prim.Native.Nat.{ℕ, zero, suc, ◌+◌, ◌*◌, ◌-◌, ◌/◌, ◌≤◌, ◌<◌}
use mathlib.Core.Path.{◌≡◌, refl, sym, ap, ◌∙◌}
use mathlib.Core.Bool.{Bool, true, false, cond, true≢false}
use mathlib.Core.List.{List, [], ◌∷◌, ◌++◌}
use native.Mathlib.Nat.{add-zero}
use native.Mathlib.Omega.{arith}
use lib.ListN.{length, length-append}
use mir.Val.{bool_byte}
use Rattle.buffer.specs.Over.{flat}
use Rattle.buffer.proofs.Laws.{flat_step, flat_all, flat_done}
use Rattle.shifted_copies.proofs.Shifts.{flat_below}
use Rattle.mesh_geometry.specs.Cover.{Face}
use Rattle.mesh_geometry.specs.Words.{read_points, read_triangles}
use Rattle.check_searches.specs.Points.{same_point}
use Rattle.check_searches.proofs.First.{Below, some_here}
use Rattle.check_searches.proofs.Equal.{is_same}
use Rattle.check_searches.proofs.Read.{points_count, triangles_count}
use Rattle.compare_differences.specs.Lacking.{Row, passing, lacks, lacking}
use Rattle.compare_differences.specs.Meshes.{Mesh, read_mesh, point_row, face_row, same_face}
use Rattle.compare_differences.proofs.Tests.{lacks_found, in_order}
use Rattle.compare_table_flags.specs.Flags.{is_set, Flagged}
use Rattle.compare_differences.specs.Differences.{Difference, each, differences, words, words_if}

-- the number k, if it passes
abbrev pub one : (ℕ → Bool) → ℕ → List ℕ
one t k = cond (t k) (k ∷ []) []

one_length : (b : Bool) (k : ℕ) → length (cond b (k ∷ []) []) ≡ cond b 1 0
one_length true k = refl
one_length false k = refl

pub cond_most : (b : Bool) → cond b 1 0 ≤ 1
cond_most true = omega arith
cond_most false = omega arith

-- ---- counting: c of the numbers below k have passed, and n numbers are tested
pub record Tally (t : ℕ → Bool) (k n c : ℕ) : Type 0 where
  pub within : k ≤ n
  pub small : c ≤ k
  pub left : c + length (flat (one t) k (n - k)) ≡ length (passing t n)

pub tally_start : {t : ℕ → Bool} {n : ℕ} → Tally t 0 n 0
unfolding passing
tally_start {t} {n} = record { within = omega arith; small = omega arith; left = omega (arith, ap length (flat_all (one t) n)) }

pub tally_step : {t : ℕ → Bool} {k n c d : ℕ} → k < n → d ≡ cond (t k) 1 0 → Tally t k n c → Tally t (k + 1) n (c + d)
tally_step {t} {k} {n} {c} {d} l e h =
    let s = ap length (flat_step (one t) k n l) ∙ length-append (one t k) (flat (one t) (k + 1) (n - (k + 1))) in
    let o = one_length (t k) k in
    let m = cond_most (t k) in
    record { within = omega arith; small = omega arith; left = omega arith }

byte_is : (b : Bool) → ◌≡◌ {A = ℕ} (bool_byte b) (cond b 1 0)
byte_is true = refl
byte_is false = refl

-- a number is counted if a test of it, as a number, says so
pub tally_told : {t : ℕ → Bool} {k n c d : ℕ} (b : Bool) → k < n → d ≡ bool_byte b → b ≡ t k → Tally t k n c → Tally t (k + 1) n (c + d)
tally_told b l e h = tally_step l (e ∙ byte_is b ∙ ap (λ (x : Bool). cond x 1 0) h)

pub tally_done : {t : ℕ → Bool} {k n c : ℕ} → n ≤ k → Tally t k n c → c ≡ length (passing t n)
tally_done {t} {k} {n} {c} l h =
    let s = ap length (flat_done (one t) k n l) in
    omega arith

-- the flags that are set are those of the numbers that pass the test
pub flags_pass : {t : ℕ → Bool} {n m c : ℕ} {fs : List Bool} → Flagged t n fs → n ≡ m → c ≡ length (passing (is_set fs) n) → c ≡ length (passing t m)
unfolding passing
flags_pass {t} {n} {m} {c} {fs} h e p =
    p ∙ ap length (flat_below (one (is_set fs)) (one t) 0 n (λ j l. ap (λ (b : Bool). cond b (j ∷ []) []) (h.each j (omega arith)))) ∙ ap (λ (k : ℕ). length (flat (one t) 0 k)) e

-- no more than all numbers pass
flat_most : (t : ℕ → Bool) (i k : ℕ) → length (flat (one t) i k) ≤ k
unfolding flat
flat_most t i zero = omega arith
flat_most t i (suc k) =
    rw (length-append (one t i) (flat (one t) (i + 1) k), one_length (t i) i) (omega (arith, cond_most (t i), flat_most t (i + 1) k))

passing_most : (t : ℕ → Bool) (n : ℕ) → length (passing t n) ≤ n
unfolding passing
passing_most t n = flat_most t 0 n

-- ---- words
pub words_append : (ds es : List Difference) → words (ds ++ es) ≡ words ds ++ words es
unfolding words
words_append [] es = refl
words_append (d ∷ ds) es = ap (λ (l : List ℕ). d.kind ∷ d.side ∷ d.number ∷ l) (words_append ds es)

pub words_length : (ds : List Difference) → length (words ds) ≡ 3 * length ds
unfolding words
words_length [] = refl
words_length (d ∷ ds) = omega (arith, words_length ds)

-- the words of the numbers that pass are those of each number in turn
one_words : (kind side k : ℕ) (b : Bool) (ks ws : List ℕ) → words (each kind side ks) ≡ ws
    → words (each kind side (cond b (k ∷ []) [] ++ ks)) ≡ words_if kind side b k ++ ws
unfolding words
one_words kind side k true ks ws e = ap (λ (l : List ℕ). kind ∷ side ∷ k ∷ l) e
one_words kind side k false ks ws e = e

flat_words : (kind side : ℕ) (t : ℕ → Bool) (i n : ℕ)
    → words (each kind side (flat (one t) i n)) ≡ flat (λ k. words_if kind side (t k) k) i n
unfolding flat words
flat_words kind side t i zero = refl
flat_words kind side t i (suc n) = one_words kind side i (t i) (flat (one t) (i + 1) n) _ (flat_words kind side t (i + 1) n)

pub passing_words : (kind side : ℕ) (t : ℕ → Bool) (n m : ℕ) → n ≡ m
    → words (each kind side (passing t n)) ≡ flat (λ k. words_if kind side (t k) k) 0 m
unfolding passing
passing_words kind side t n m e = flat_words kind side t 0 n ∙ ap (flat (λ k. words_if kind side (t k) k) 0) e

-- ---- no number passes
skip : (b : Bool) (k : ℕ) (ks : List ℕ) → b ≡ false → ks ≡ [] → cond b (k ∷ []) [] ++ ks ≡ []
skip true k ks e h = absurd (true≢false e)
skip false k ks e h = h

flat_none : (t : ℕ → Bool) (i n : ℕ) → ((j : ℕ) → j < n → t (i + j) ≡ false) → flat (one t) i n ≡ []
unfolding flat
flat_none t i zero h = refl
flat_none t i (suc n) h =
    skip (t i) i _ (rw add-zero at (h 0 (omega arith))) (flat_none t (i + 1) n (λ j l. let e : i + 1 + j ≡ i + suc j = omega arith in rw e (h (suc j) (omega arith))))

pub passing_none : (t : ℕ → Bool) (n : ℕ) → Below t n → passing t n ≡ []
unfolding passing
passing_none t n h = flat_none t 0 n (λ j l. let e : 0 + j ≡ j = omega arith in rw e (h j l))

-- an entry that is the same as itself is not a difference
pub itself_none : {A : Type 0} (same : A → A → Bool) (xs : Row A) → ((x : A) → same x x ≡ true) → lacking same xs xs ≡ []
itself_none same xs h =
    passing_none (lacks same xs xs) xs.count (λ k l. lacks_found same xs xs k (some_here (λ i. same (xs.entry i) (xs.entry k)) xs.count k l (h (xs.entry k))))

same_face_itself : (f : Face) → same_face f f ≡ true
same_face_itself f = in_order f f (rw (is_same f.p f.p refl, is_same f.q f.q refl, is_same f.r f.r refl))

-- a mesh has no differences from itself
pub differences_itself : (m : Mesh) → differences m m ≡ []
unfolding differences
differences_itself m = rw (itself_none same_point m.points (λ p. is_same p p refl), itself_none same_face m.faces same_face_itself)

-- meshes with the same words have no differences
pub same_none : (lp li rp ri : List ℕ) → lp ≡ rp → li ≡ ri → 0 ≡ length (differences (read_mesh lp li) (read_mesh rp ri))
same_none lp li rp ri e h = rw (e, h) (sym (ap length (differences_itself (read_mesh rp ri))))

-- ---- meshes given as words have no more differences than points and triangles
few_points : (pw qw : List ℕ) → length (lacking same_point (point_row pw) (point_row qw)) ≤ length pw / 3
few_points pw qw = omega (arith, passing_most (lacks same_point (point_row pw) (point_row qw)) (length (read_points pw)), points_count pw)

few_faces : (pw iw qw jw : List ℕ) → length (lacking same_face (face_row pw iw) (face_row qw jw)) ≤ length iw / 3
few_faces pw iw qw jw = omega (arith, passing_most (lacks same_face (face_row pw iw) (face_row qw jw)) (length (read_triangles iw)), triangles_count iw)

pub record Few (pw iw qw jw : List ℕ) : Type 0 where
  pub left_points_lem : length (lacking same_point (point_row pw) (point_row qw)) ≤ length pw / 3
  pub right_points_lem : length (lacking same_point (point_row qw) (point_row pw)) ≤ length qw / 3
  pub left_faces_lem : length (lacking same_face (face_row pw iw) (face_row qw jw)) ≤ length iw / 3
  pub right_faces_lem : length (lacking same_face (face_row qw jw) (face_row pw iw)) ≤ length jw / 3

pub few : (pw iw qw jw : List ℕ) → Few pw iw qw jw
few pw iw qw jw = record {
  left_points_lem = few_points pw qw;
  right_points_lem = few_points qw pw;
  left_faces_lem = few_faces pw iw qw jw;
  right_faces_lem = few_faces qw jw pw iw;
}
