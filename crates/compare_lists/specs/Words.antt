-- The words of the differences between two meshes that are given as words. Assumes nothing.
use Rattle.std.specs.Prelude.{ℕ, List, ◌++◌}
use Rattle.compare_differences.specs.Meshes.{point_row, face_row, read_mesh}
use Rattle.compare_differences.specs.Differences.{point_differences, face_differences, differences, words}

-- of the points on one side that the other side lacks
abbrev pub point_difference_words : ℕ → List ℕ → List ℕ → List ℕ
point_difference_words side pw ow = words (point_differences side (point_row pw) (point_row ow))

-- of the triangles
abbrev pub face_difference_words : ℕ → List ℕ → List ℕ → List ℕ → List ℕ → List ℕ
face_difference_words side pw iw ow jw = words (face_differences side (face_row pw iw) (face_row ow jw))

-- of the points on both sides, the left side first
abbrev pub all_point_difference_words : List ℕ → List ℕ → List ℕ
all_point_difference_words lp rp = point_difference_words 0 lp rp ++ point_difference_words 1 rp lp

-- of all differences
abbrev pub difference_words : List ℕ → List ℕ → List ℕ → List ℕ → List ℕ
difference_words lp li rp ri = words (differences (read_mesh lp li) (read_mesh rp ri))
