-- The provisioners of a step one by one: which of them run, and why the first fails.
use Rattle.std.proofs.Common.{◌≡◌, ℕ, ◌+◌, ◌<◌, ◌≤◌, true, false, List, [], ◌∷◌, length, drop, get_or, Option, Some, None, refl, ap, ◌∙◌, arith, ⊎_elim}
use Rattle.std.specs.Prelude.{◌||◌, is_some}
use Rattle.std.specs.List.{list_any}
use Rattle.std.specs.Option.{option_copied, option_or}
use Rattle.std.proofs.lemmas.Bool.{cases_Bool}
use Rattle.std.proofs.lemmas.List.{drop_all}
use Rattle.std.proofs.lemmas.List.Sums.{sum_by-cons}
use denote.Ref.{Bor}
use Rattle.apply_model.specs.declared.script.diag.Diag.{Diag}
use Rattle.apply_model.specs.declared.script.ending.Ending.{Ending}
use Rattle.apply_model.specs.declared.script.ending.Ending.TheVariants.{Done, Failed, Warned}
use Rattle.apply_model.specs.declared.script.outcome.Outcome.{Outcome}
use Rattle.apply_model.specs.declared.script.provisioner.Provisioner.{Provisioner}
use Rattle.apply_model.specs.Script.Outcome.{diag_of_ending, failure_by, failure_of, fails, first_diag, is_failed, makes_fail, ran, seconds_of_all}
use Rattle.apply_model.proofs.Lists.{left_at}

-- why the first fails of those that are left
pub diag_here : (provisioners : List Provisioner) (i : ℕ) (p : Provisioner) (diag : Diag) → i < length provisioners → p ≡ get_or provisioners i p → failure_by p ≡ Some diag
    → first_diag (drop i provisioners) ≡ Some diag
diag_here provisioners i p diag below is failed = rw (left_at provisioners i p below is, failed) refl

pub diag_later : (provisioners : List Provisioner) (i : ℕ) (p : Provisioner) → i < length provisioners → p ≡ get_or provisioners i p → failure_by p ≡ None
    → first_diag (drop i provisioners) ≡ first_diag (drop (i + 1) provisioners)
diag_later provisioners i p below is failed = rw (left_at provisioners i p below is, failed) refl

pub no_diag_left : (provisioners : List Provisioner) (i : ℕ) → length provisioners ≤ i → first_diag (drop i provisioners) ≡ None
no_diag_left provisioners i past = rw (drop_all i provisioners past) refl

-- which run of those that are left
pub last_runs : (provisioners : List Provisioner) (i : ℕ) (p : Provisioner) → i < length provisioners → p ≡ get_or provisioners i p → makes_fail p ≡ true
    → ran (drop i provisioners) ≡ p ∷ []
last_runs provisioners i p below is failed = rw (left_at provisioners i p below is, failed) refl

pub more_run : (provisioners : List Provisioner) (i : ℕ) (p : Provisioner) → i < length provisioners → p ≡ get_or provisioners i p → makes_fail p ≡ false
    → ran (drop i provisioners) ≡ p ∷ ran (drop (i + 1) provisioners)
more_run provisioners i p below is failed = rw (left_at provisioners i p below is, failed) refl

pub none_runs : (provisioners : List Provisioner) (i : ℕ) → length provisioners ≤ i → ran (drop i provisioners) ≡ []
none_runs provisioners i past = rw (drop_all i provisioners past) refl

-- their seconds
pub within_all : (provisioners : List Provisioner) (i : ℕ) (p : Provisioner) → i < length provisioners → p ≡ get_or provisioners i p
    → p.seconds ≤ seconds_of_all (ran (drop i provisioners))
within_all provisioners i p below is =
    let f = λ (q : Provisioner). q.seconds in
    ⊎_elim
    (λ (yes : makes_fail p ≡ true). omega (arith, ap seconds_of_all (last_runs provisioners i p below is yes), sum_by-cons f p []))
    (λ (no : makes_fail p ≡ false). omega (arith, ap seconds_of_all (more_run provisioners i p below is no), sum_by-cons f p (ran (drop (i + 1) provisioners))))
    (cases_Bool (makes_fail p))

pub last_seconds : (provisioners : List Provisioner) (i : ℕ) (p : Provisioner) → i < length provisioners → p ≡ get_or provisioners i p → makes_fail p ≡ true
    → seconds_of_all (ran (drop i provisioners)) ≡ p.seconds + 0
last_seconds provisioners i p below is failed = ap seconds_of_all (last_runs provisioners i p below is failed) ∙ sum_by-cons (λ (q : Provisioner). q.seconds) p []

pub more_seconds : (provisioners : List Provisioner) (i : ℕ) (p : Provisioner) → i < length provisioners → p ≡ get_or provisioners i p → makes_fail p ≡ false
    → seconds_of_all (ran (drop i provisioners)) ≡ p.seconds + seconds_of_all (ran (drop (i + 1) provisioners))
more_seconds provisioners i p below is failed =
    ap seconds_of_all (more_run provisioners i p below is failed) ∙ sum_by-cons (λ (q : Provisioner). q.seconds) p (ran (drop (i + 1) provisioners))

pub no_seconds : (provisioners : List Provisioner) (i : ℕ) → length provisioners ≤ i → seconds_of_all (ran (drop i provisioners)) ≡ 0
no_seconds provisioners i past = ap seconds_of_all (none_runs provisioners i past)

-- ---- the cause of a failure

one_or : (o other : Option Diag) → is_some (option_or o other) ≡ (is_some o || is_some other)
one_or None other = refl
one_or (Some diag) other = refl

first_for_cause : (provisioners : List Provisioner) → is_some (first_diag provisioners) ≡ list_any makes_fail provisioners
first_for_cause [] = refl
first_for_cause (p ∷ ps) = one_or (failure_by p) (first_diag ps) ∙ ap (λ b. makes_fail p || b) (first_for_cause ps)

provider_or : (result : Ending) (provisioners : List Provisioner) → is_some (option_or (diag_of_ending result) (first_diag provisioners)) ≡ (is_failed result || list_any makes_fail provisioners)
provider_or (Done id warning) provisioners = first_for_cause provisioners
provider_or (Failed diag) provisioners = refl
provider_or (Warned diag) provisioners = first_for_cause provisioners

-- a step fails just where it has a cause
pub fails_for_cause : (outcome : Outcome) → is_some (failure_of outcome) ≡ fails outcome
fails_for_cause outcome = provider_or outcome.result outcome.provisioners

pub is_some-copied : (o : Option (Bor Diag)) → is_some o ≡ is_some (option_copied o)
is_some-copied None = refl
is_some-copied (Some diag) = refl
