-- What is at a place, answer by answer: the end exactly if no byte is left, and every other answer moves on. Assumes nothing.
use Prim.Native.Nat.{ℕ, ◌≤◌, ◌<◌}
use native.Mathlib.Omega.{arith}
use mathlib.Core.Path.{◌≡◌, refl, ap}
use mathlib.Core.Bool.{Bool, true, false, cond}
use mathlib.Core.List.{List}
use mathlib.Core.Logic.{◌↔◌}
use native.Mathlib.Decide.{dec_le}
use borrow.Author.Tests.{le-leb, lt-leb}
use lib.ListN.{length}
use Rattle.job_fields.specs.declared.version.Version.{Version}
use Rattle.job_fields.specs.declared.version.Version.TheVariants.{One, Two}
use Rattle.job.specs.declared.cursor.Cursor.{Cursor}
use Rattle.std.specs.Prelude.{Ok, Err, Some, None}
use Rattle.job.specs.declared.next.RecordError.TheVariants.{CutRecord, UnknownSetting}
use Rattle.job_fields.specs.Version.{setting_bytes}
use Rattle.job.specs.Records.{Answer, record_at}
use Rattle.job_fields.proofs.Tops.{first_place}
use Rattle.job.proofs.Records.{record_exactly, top_allowed}
use Rattle.job_bytes.proofs.Lengths.{top_small}
use Rattle.job_words.specs.declared.found.Found.{Found}
use Rattle.job_words.specs.Inputs.{is_version, version_of_number, known_version}
use Rattle.job_words.specs.Found.{end_number, nothing, found_of, found_at, number_in}

-- a version with a number is the version of that number, and none is there for an unknown one
module _ (n : ℕ) where
  pub known_some : {v : Version} → Some v ≡ known_version n → (is_version n ≡ true) × (v ≡ version_of_number n)
  known_some {v} e = go (is_version n) refl e
    where
      go : (b : Bool) → is_version n ≡ b → Some v ≡ cond b (Some (version_of_number n)) None → (is_version n ≡ true) × (v ≡ version_of_number n)
      go true k e = (k, cc)
      go false k e = absurd (let z : ◌≡◌ {A = ℕ} 0 1 = cc in omega arith)

  pub known_none : None ≡ known_version n → is_version n ≡ false
  known_none e = go (is_version n) refl e
    where
      go : (b : Bool) → is_version n ≡ b → None ≡ cond b (Some (version_of_number n)) None → is_version n ≡ false
      go true k e = absurd (let z : ◌≡◌ {A = ℕ} 0 1 = cc in omega arith)
      go false k e = k

settings_few : (v : Version) → setting_bytes v ≤ 6
settings_few One = omega arith
settings_few Two = omega arith

-- the top level of a record fits into a byte, and so does a place
pub number_small : (v : Version) (bs : List ℕ) (at : ℕ) (r : Answer) → record_at v bs at ≡ r → number_in r < 256
number_small v bs at (Ok (Some there)) e = omega (arith, top_small there.«record».settings.top (top_allowed v bs at refl there.«record» there.next e))
number_small v bs at (Ok None) e = omega arith
number_small v bs at (Err CutRecord) e = omega arith
number_small v bs at (Err (UnknownSetting place next)) e =
    omega (arith, (first_place bs at v place ((record_exactly v bs at (Err (UnknownSetting place next))).0 e).1).1, settings_few v)

module _ (n : ℕ) (bs : List ℕ) (at : ℕ) where
  pub found_end : length bs ≤ at → found_at n bs at ≡ nothing end_number 0 (length bs)
  unfolding found_at
  found_end h = rw (le-leb (length bs) at h)

  module _ (h : at < length bs) where
    pub found_other : is_version n ≡ false → found_at n bs at ≡ nothing 6 0 (length bs)
    unfolding found_at
    found_other e = rw (lt-leb (length bs) at h, e)

    pub found_here : is_version n ≡ true → found_at n bs at ≡ found_of (length bs) (record_at (version_of_number n) bs at)
    unfolding found_at
    found_here e = rw (lt-leb (length bs) at h, e)

    on : (v : Version) (r : Answer) → record_at v bs at ≡ r
        → ((found_of (length bs) r).number ≡ end_number → ⊥) × (at < (found_of (length bs) r).next)
    on v (Ok (Some there)) e = (λ i. absurd (omega arith), omega (arith, ap (λ (k : Cursor). k.at) ((record_exactly v bs at (Ok (Some there))).0 e).3))
    on v (Ok None) e = absurd (omega (arith, (record_exactly v bs at (Ok None)).0 e))
    on v (Err CutRecord) e = (λ i. absurd (omega arith), h)
    on v (Err (UnknownSetting place next)) e =
        (λ i. absurd (omega arith), omega (arith, ap (λ (k : Cursor). k.at) ((record_exactly v bs at (Err (UnknownSetting place next))).0 e).2))

    -- if a byte is left, the answer is not the end, and reading continues further on
    pub moves_on : ((found_at n bs at).number ≡ end_number → ⊥) × (at < (found_at n bs at).next)
    moves_on = go (is_version n) refl
      where
        go : (b : Bool) → is_version n ≡ b → ((found_at n bs at).number ≡ end_number → ⊥) × (at < (found_at n bs at).next)
        go false e = rw (found_other e) (λ i. absurd (omega arith), h)
        go true e = rw (found_here e) (on (version_of_number n) (record_at (version_of_number n) bs at) refl)

  -- the end is answered exactly if no byte is left
  pub end_exactly : (found_at n bs at).number ≡ end_number ↔ length bs ≤ at
  end_exactly = (
    λ e. elim (dec_le (length bs) at) [ yes h ↦ h | no h ↦ absurd ((moves_on (omega arith)).0 e) ],
    λ h. ap (λ (x : Found). x.number) (found_end h),
  )
