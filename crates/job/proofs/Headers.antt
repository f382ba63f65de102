-- When reading a header gives each answer. Assumes nothing.
use Prim.Native.Nat.{ℕ, ◌≤◌, ◌<◌}
use native.Mathlib.Decide.{ℕ_discrete, dec_le}
use native.Mathlib.Omega.{arith}
use mathlib.Core.Path.{◌≡◌, refl, sym, ap, ◌∙◌}
use mathlib.Core.Bool.{Bool, true, false, or-true, false≢true}
use mathlib.Core.List.{List, [], ◌∷◌}
use mathlib.Core.Logic.{◌↔◌, inl, inr}
use borrow.Author.Tests.{lt-ltb, le-ltb, ne_eqb}
use lib.ListN.{length, take}
use Rattle.job_fields.specs.declared.version.Version.{Version}
use Rattle.job_fields.specs.declared.version.Version.TheVariants.{One, Two}
use Rattle.job.specs.declared.header.Header.{Header}
use Rattle.job.specs.declared.header.HeaderError.{HeaderError}
use Rattle.job.specs.declared.header.HeaderError.TheVariants.{NotAJob, UnknownVersion}
use Rattle.std.specs.Prelude.{Result, Ok, Err}
use Rattle.job_fields.specs.Bytes.{word}
use Rattle.job_fields.specs.Version.{version_number}
use Rattle.job.specs.Header.{job_mark, starts_with, lacks_mark, header_with, header_of, header_number, HeaderRead, HeaderMeans}
use Rattle.job.proofs.Numbers.{apart}
use Rattle.job.proofs.Marks.{starts_take, take_starts}

module _ (bs : List ℕ) where
  pub header_lacks : lacks_mark job_mark bs ≡ true → header_of bs ≡ Err NotAJob
  unfolding header_of
  header_lacks h = rw h

  pub header_short : length bs < 5 → header_of bs ≡ Err NotAJob
  header_short h = header_lacks (rw (lt-ltb _ _ h))

  pub header_other : starts_with job_mark bs ≡ false → header_of bs ≡ Err NotAJob
  header_other h = header_lacks (rw (h, or-true))

  pub header_version : 5 ≤ length bs → starts_with job_mark bs ≡ true → (word 2 bs 3 ≡ 1 → ⊥) → (word 2 bs 3 ≡ 2 → ⊥) → header_of bs ≡ Err UnknownVersion
  unfolding header_of
  header_version h m p q = rw (le-ltb _ _ h, m, ne_eqb _ _ p, ne_eqb _ _ q)

  pub header_right : 5 ≤ length bs → starts_with job_mark bs ≡ true → (v : Version) → word 2 bs 3 ≡ version_number v → header_of bs ≡ Ok (header_with v)
  unfolding header_of
  header_right h m One e = rw (le-ltb _ _ h, m, e)
  header_right h m Two e = rw (le-ltb _ _ h, m, e)

  by_mark : 5 ≤ length bs → (t : Bool) → starts_with job_mark bs ≡ t → HeaderMeans bs (header_of bs)
  by_mark h false m = rw (header_other m) (inr (λ e. false≢true (sym m ∙ take_starts job_mark bs e)))
  by_mark h true m = elim (ℕ_discrete (word 2 bs 3) 1) [
    | yes e ↦ rw (header_right h m One e) (h, starts_take job_mark bs m, e, refl)
    | no p ↦ elim (ℕ_discrete (word 2 bs 3) 2) [
      | yes e ↦ rw (header_right h m Two e) (h, starts_take job_mark bs m, e, refl)
      | no q ↦ rw (header_version h m p q) (h, starts_take job_mark bs m, p, q)
    ]
  ]

  header_means : HeaderMeans bs (header_of bs)
  header_means = elim (dec_le 5 (length bs)) [
    | yes h ↦ by_mark h (starts_with job_mark bs) refl
    | no h ↦ let k : length bs < 5 = omega arith in rw (header_short k) (inl k)
  ]

  other : (take 3 bs ≡ job_mark → ⊥) → (t : Bool) → starts_with job_mark bs ≡ t → header_of bs ≡ Err NotAJob
  other d true m = absurd (d (starts_take job_mark bs m))
  other d false m = header_other m

  means_header : (r : Result Header HeaderError) → HeaderMeans bs r → header_of bs ≡ r
  means_header (Err NotAJob) (inl h) = header_short h
  means_header (Err NotAJob) (inr d) = other d (starts_with job_mark bs) refl
  means_header (Err UnknownVersion) (h, m, p, q) = header_version h (take_starts job_mark bs m) p q
  means_header (Ok header) (h, m, n, e) = header_right h (take_starts job_mark bs m) header.version n ∙ rw e

  -- each answer is given exactly if it is right
  pub header_exactly : (r : Result Header HeaderError) → header_of bs ≡ r ↔ HeaderMeans bs r
  header_exactly r = (λ e. rw e at header_means, means_header r)

  is_5 : (r : Result Header HeaderError) → HeaderMeans bs r → header_number r ≡ 5 ∷ [] → HeaderMeans bs (Err NotAJob)
  is_5 (Err NotAJob) m e = m
  is_5 (Err UnknownVersion) m e = absurd (apart e refl)
  is_5 (Ok header) m e = absurd (apart e refl)

  is_6 : (r : Result Header HeaderError) → HeaderMeans bs r → header_number r ≡ 6 ∷ [] → HeaderMeans bs (Err UnknownVersion)
  is_6 (Err NotAJob) m e = absurd (apart e refl)
  is_6 (Err UnknownVersion) m e = m
  is_6 (Ok header) m e = absurd (apart e refl)

  -- an answer that equals `header_of` satisfies the whole contract
  pub header_read : {r : Result Header HeaderError} → header_of bs ≡ r → HeaderRead bs r
  header_read {r} e = record {
    is = sym e;
    refused_5 = (is_5 r (rw e at header_means), λ m. ap header_number (sym e ∙ means_header (Err NotAJob) m));
    refused_6 = (is_6 r (rw e at header_means), λ m. ap header_number (sym e ∙ means_header (Err UnknownVersion) m));
  }
