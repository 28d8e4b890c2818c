-- The provisioners that are recorded run alike, as those that ran.
use Rattle.std.proofs.Common.{◌≡◌, ◌∙◌, ℕ, suc, ◌+◌, ◌<◌, ◌≤◌, List, [], ◌∷◌, Option, None, Some, All, Bool, false, true, ap, arith, filter_map, is_some, le-leb, length, ne_eqb, refl, subst, sym, take, take_all}
use Rattle.std.specs.Prelude.{⊤, ◌||◌, ◌==◌, if◌then◌else◌}
use Rattle.std.specs.List.{AllByRecursion, list_any}
use Rattle.std.specs.Option.{option_or}
use Rattle.std.proofs.lemmas.List.Elements.{All-head, All-tail}
use Rattle.std.proofs.lemmas.List.Sums.{sum_by-cons}
use Rattle.apply_model.specs.declared.script.diag.Diag.{Diag}
use Rattle.apply_model.specs.declared.script.provisioner.Provisioner.{Provisioner}
use Rattle.apply_model.specs.Script.Limits.{max_outputs, max_provisioners}
use Rattle.apply_model.specs.Script.Outcome.{failure_by, first_diag, has_failed, makes_fail, ran, seconds_of_all}
use Rattle.stream_record_outcomes.specs.Provisioners.{ProvisionerRun, error_of_run, kept_runs, name_or_mark, outputs_of_run, provisioner_of, provisioners_of, seconds_of_run, timed_output, unknown_error, went_on}
use Rattle.laws_lanes.specs.Alike.{RunAlike, RunsAlike}
use Rattle.laws_outcomes.proofs.Lists.{StandAt}
use Rattle.laws_outcomes.proofs.Runs.{AreRunsOf, IsRunOf}

-- ---- those that ran

pub ran_stand : (all : List Provisioner) (n : ℕ) (provisioners : List Provisioner) → StandAt all n provisioners → StandAt all n (ran provisioners)
ran_stand all n [] stand = tt
ran_stand all n (provisioner ∷ others) stand =
    elim (makes_fail provisioner) as (λ (b : Bool). StandAt all n (provisioner ∷ (if b then [] else ran others))) [
      | true ↦ (stand.0, tt)
      | false ↦ (stand.0, ran_stand all (n + 1) others stand.1)
    ]

pub ran_all : (P : Provisioner → Type 0) (provisioners : List Provisioner) → All P provisioners → AllByRecursion P (ran provisioners)
ran_all P [] all = tt
ran_all P (provisioner ∷ others) all =
    elim (makes_fail provisioner) as (λ (b : Bool). AllByRecursion P (provisioner ∷ (if b then [] else ran others))) [
      | true ↦ (All-head P provisioner others all, tt)
      | false ↦ (All-head P provisioner others all, ran_all P others (All-tail P provisioner others all))
    ]

pub ran_few : (provisioners : List Provisioner) → length (ran provisioners) ≤ length provisioners
ran_few [] = omega arith
ran_few (provisioner ∷ others) =
    let fewer = ran_few others in
    elim (makes_fail provisioner) as (λ (b : Bool). length (provisioner ∷ (if b then [] else ran others)) ≤ suc (length others)) [
      | true ↦ omega arith
      | false ↦ omega arith
    ]

pub ran_short : (provisioners : List Provisioner) → seconds_of_all (ran provisioners) ≤ seconds_of_all provisioners
ran_short [] = omega arith
ran_short (provisioner ∷ others) =
    let shorter = ran_short others in
    let seconds = λ (one : Provisioner). one.seconds in
    let all = sum_by-cons seconds provisioner others in
    elim (makes_fail provisioner) as (λ (b : Bool). seconds_of_all (provisioner ∷ (if b then [] else ran others)) ≤ seconds_of_all (provisioner ∷ others)) [
      | true ↦ let alone = sum_by-cons seconds provisioner [] in let none : seconds_of_all [] ≡ 0 = refl in omega arith
      | false ↦ let those = sum_by-cons seconds provisioner (ran others) in omega arith
    ]

pub ran_fails : (provisioners : List Provisioner) → list_any makes_fail (ran provisioners) ≡ list_any makes_fail provisioners
ran_fails [] = refl
ran_fails (provisioner ∷ others) =
    elim (makes_fail provisioner) as (λ (b : Bool). (b || list_any makes_fail (if b then [] else ran others)) ≡ (b || list_any makes_fail others)) [
      | true ↦ refl
      | false ↦ ran_fails others
    ]

-- A provisioner that makes the step fail fails.
pub fatal_fails : (provisioner : Provisioner) → makes_fail provisioner ≡ true → has_failed provisioner ≡ true
fatal_fails provisioner =
    elim provisioner.may_fail as (λ (b : Bool). is_some (if b then None else provisioner.failed) ≡ true → is_some provisioner.failed ≡ true) [
      | true ↦ λ is. absurd (cc)
      | false ↦ λ is. is
    ]

-- ---- which of them has the failure

-- Only the last one may make the step fail, and does if there is a failure.
abbrev pub FitsFailure : Option Diag → List Provisioner → Type 0
FitsFailure failure [] = ⊤
FitsFailure failure (provisioner ∷ []) = makes_fail provisioner ≡ is_some failure
FitsFailure failure (provisioner ∷ next ∷ others) = (makes_fail provisioner ≡ false) × FitsFailure failure (next ∷ others)

fits_more : (failure : Option Diag) (provisioner : Provisioner) (others : List Provisioner) → makes_fail provisioner ≡ false
    → list_any makes_fail others ≡ is_some failure → FitsFailure failure (ran others) → FitsFailure failure (provisioner ∷ ran others)
fits_more failure provisioner [] goes_on is fits = goes_on ∙ is
fits_more failure provisioner (next ∷ others) goes_on is fits = (goes_on, fits)

pub ran_fits : (failure : Option Diag) (provisioners : List Provisioner) → list_any makes_fail provisioners ≡ is_some failure
    → FitsFailure failure (ran provisioners)
ran_fits failure [] is = tt
ran_fits failure (provisioner ∷ others) is =
    elim (makes_fail provisioner) as (λ (b : Bool). makes_fail provisioner ≡ b → (b || list_any makes_fail others) ≡ is_some failure
    → FitsFailure failure (provisioner ∷ (if b then [] else ran others))) [
      | true ↦ λ fatal some. fatal ∙ some
      | false ↦ λ goes_on some. fits_more failure provisioner others goes_on some (ran_fits failure others some)
    ] refl is

-- ---- one provisioner

-- What a script may state of a provisioner, as far as it is needed here.
pub record IsStatable (provisioner : Provisioner) : Type 0 where
  pub named : 0 < length provisioner.name
  pub little_output : length provisioner.output ≤ max_outputs

name_again : (name : List ℕ) → 0 < length name → name_or_mark name ≡ name
name_again [] some = absurd (omega arith)
name_again (byte ∷ bytes) some = refl

failed_again : (failure : Option Diag) (run : ProvisionerRun) (failed : Bool) → went_on run ≡ failed → (is_some failure ≡ true → failed ≡ true)
    → is_some (error_of_run failure run) ≡ failed
failed_again None run failed is fatal =
    ap (λ (b : Bool). is_some (if b then Some unknown_error else None)) is ∙ shown failed
  where
    shown : (b : Bool) → is_some (if b then Some unknown_error else None) ≡ b
    shown true = refl
    shown false = refl
failed_again (Some diag) run failed is fatal = sym (fatal refl)

fatal_again : (failure : Option Diag) (run : ProvisionerRun) → makes_fail (provisioner_of failure run) ≡ is_some failure
fatal_again None run =
    elim (went_on run) as (λ (b : Bool). is_some (if b then None else (if b then Some unknown_error else None)) ≡ false) [
      | true ↦ refl
      | false ↦ refl
    ]
fatal_again (Some diag) run = refl

runs_alike : (failure : Option Diag) (provisioner : Provisioner) (since : ℕ) (run : ProvisionerRun) → IsRunOf provisioner since run
    → IsStatable provisioner → makes_fail provisioner ≡ is_some failure → RunsAlike provisioner (provisioner_of failure run)
runs_alike failure provisioner since run is statable fatal =
    let long : seconds_of_run run ≡ provisioner.seconds =
    let from = is.began in let to = is.until in omega arith in
    let written : outputs_of_run run ≡ provisioner.output =
    ap (λ (n : ℕ). filter_map (timed_output n (seconds_of_run run)) run.facts) is.began
    ∙ ap (λ (n : ℕ). filter_map (timed_output since n) run.facts) long
    ∙ is.output in record {
      name = ap name_or_mark is.name ∙ name_again provisioner.name statable.named;
      seconds = long;
      output = ap (take max_outputs) written ∙ take_all max_outputs provisioner.output statable.little_output;
      failed = failed_again failure run (has_failed provisioner) is.failed (λ some. fatal_fails provisioner (fatal ∙ some));
      fatal = fatal_again failure run ∙ sym fatal;
    }

-- ---- all provisioners

-- No provisioner but the last one has the failure.
others_none : (failure : Option Diag) (run : ProvisionerRun) (runs : List ProvisionerRun)
    → (if length (run ∷ runs) == 0 then failure else None) ≡ None
others_none failure run runs =
    ap (λ (b : Bool). if b then failure else None) (ne_eqb (length (run ∷ runs)) 0 (λ (e : length (run ∷ runs) ≡ 0). omega arith))

pub all_alike : (failure : Option Diag) (since : ℕ) (provisioners : List Provisioner) (runs : List ProvisionerRun) → AreRunsOf since provisioners runs
    → AllByRecursion IsStatable provisioners → FitsFailure failure provisioners → RunAlike provisioners (provisioners_of failure runs)
all_alike failure since [] [] are statable fits = tt
all_alike failure since [] (run ∷ runs) are statable fits = absurd are
all_alike failure since (provisioner ∷ others) [] are statable fits = absurd are
all_alike failure since (provisioner ∷ []) (run ∷ []) are statable fits =
    (runs_alike failure provisioner since run are.0 statable.0 fits, tt)
all_alike failure since (provisioner ∷ []) (run ∷ next ∷ runs) are statable fits = absurd are.1
all_alike failure since (provisioner ∷ other ∷ others) (run ∷ []) are statable fits = absurd are.1
all_alike failure since (provisioner ∷ other ∷ others) (run ∷ next ∷ runs) are statable fits = (
  subst (λ (o : Option Diag). RunsAlike provisioner (provisioner_of o run)) (sym (others_none failure next runs))
      (runs_alike None provisioner since run are.0 statable.0 fits.0),
  all_alike failure (since + provisioner.seconds) (other ∷ others) (next ∷ runs) are.1 statable.1 fits.1,
)

-- Those that ran are those that run again.
pub ran_alike : (provisioners others : List Provisioner) → RunAlike (ran provisioners) others → RunAlike (ran provisioners) (ran others)
ran_alike [] [] alike = tt
ran_alike [] (other ∷ others) alike = absurd alike
ran_alike (provisioner ∷ later) [] alike = absurd alike
ran_alike (provisioner ∷ later) (other ∷ others) alike =
    subst (λ (b : Bool). RunAlike (ran (provisioner ∷ later)) (other ∷ (if b then [] else ran others))) (sym alike.0.fatal)
    (elim (makes_fail provisioner) as (λ (b : Bool). RunAlike (if b then [] else ran later) others
    → RunAlike (provisioner ∷ (if b then [] else ran later)) (other ∷ (if b then [] else ran others))) [
      | true ↦ λ rest. (alike.0, tt)
      | false ↦ λ rest. (alike.0, ran_alike later others rest)
    ] alike.1)

pub fail_alike : (provisioners others : List Provisioner) → RunAlike provisioners others → list_any makes_fail others ≡ list_any makes_fail provisioners
fail_alike [] [] alike = refl
fail_alike [] (other ∷ others) alike = absurd alike
fail_alike (provisioner ∷ later) [] alike = absurd alike
fail_alike (provisioner ∷ later) (other ∷ others) alike =
    ap (λ (b : Bool). b || list_any makes_fail others) alike.0.fatal
    ∙ ap (λ (b : Bool). makes_fail provisioner || b) (fail_alike later others alike.1)

-- ---- how many, and which error

pub as_many : (since : ℕ) (provisioners : List Provisioner) (runs : List ProvisionerRun) → AreRunsOf since provisioners runs
    → length runs ≡ length provisioners
as_many since [] [] are = refl
as_many since [] (run ∷ runs) are = absurd are
as_many since (provisioner ∷ others) [] are = absurd are
as_many since (provisioner ∷ others) (run ∷ runs) are = ap (λ (n : ℕ). suc n) (as_many (since + provisioner.seconds) others runs are.1)

-- So few are kept as they are.
pub all_kept : (fails : Bool) (runs : List ProvisionerRun) → length runs ≤ max_provisioners → kept_runs fails runs ≡ runs
all_kept fails runs few = rw (le-leb (length runs) max_provisioners few) refl

no_diag_of : (run : ProvisionerRun) → failure_by (provisioner_of None run) ≡ None
no_diag_of run =
    elim (went_on run) as (λ (b : Bool). (if b then None else (if b then Some unknown_error else None)) ≡ None) [
      | true ↦ refl
      | false ↦ refl
    ]

-- The error of the last one is that of the step.
pub diag_is : (failure : Option Diag) (runs : List ProvisionerRun) → 0 < length runs → first_diag (provisioners_of failure runs) ≡ failure
diag_is failure [] some = absurd (omega arith)
diag_is None (run ∷ []) some = ap (λ (o : Option Diag). option_or o None) (no_diag_of run)
diag_is (Some diag) (run ∷ []) some = refl
diag_is failure (run ∷ next ∷ runs) some =
    ap (λ (o : Option Diag). option_or (failure_by (provisioner_of o run)) (first_diag (provisioners_of failure (next ∷ runs)))) (others_none failure next runs)
    ∙ ap (λ (o : Option Diag). option_or o (first_diag (provisioners_of failure (next ∷ runs)))) (no_diag_of run)
    ∙ diag_is failure (next ∷ runs) (omega arith)

-- There is one if a provisioner makes the step fail.
pub diag_if : (provisioners : List Provisioner) → is_some (first_diag provisioners) ≡ list_any makes_fail provisioners
diag_if [] = refl
diag_if (provisioner ∷ others) = first_or (failure_by provisioner) (first_diag others) ∙ ap (λ (b : Bool). makes_fail provisioner || b) (diag_if others)
  where
    first_or : (one other : Option Diag) → is_some (option_or one other) ≡ (is_some one || is_some other)
    first_or None other = refl
    first_or (Some diag) other = refl
