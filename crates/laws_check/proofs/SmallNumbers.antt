-- The numbers of events that can happen are small.
use Rattle.std.proofs.Common.{◌≡◌, ◌≢◌, ℕ, zero, suc, ◌+◌, ◌-◌, ◌<◌, ◌≤◌, ◌^◌, ◌==◌, All, List, [], ◌∷◌, cond, filter, length, not, Bool, true, false, Option, Some, None, refl, ⊎_elim, nat_lt, slice_get, unwrap_or, arith}
use Rattle.std.specs.Prelude.{◌&&◌, ◌||◌, IfSome}
use Rattle.std.specs.List.{AllByRecursion, list_any, range_with_len}
use Rattle.std.specs.Option.{option_map_or}
use Rattle.std.proofs.lemmas.Bool.{and_parts, both_ways, ltb-true}
use Rattle.std.proofs.lemmas.Bool.Decides.{eqb_tells}
use Rattle.std.proofs.lemmas.List.Elements.{All-head, All-tail}
use Rattle.std.proofs.lemmas.List.Sums.{count_by-le-length}
use Rattle.apply_model.specs.declared.plan.step_kind.StepKind.{StepKind}
use Rattle.apply_model.specs.declared.plan.step_kind.StepKind.TheVariants.{Create, Update, Delete, Read}
use Rattle.apply_model.specs.declared.script.outcome.Outcome.{Outcome}
use Rattle.apply_plan.specs.Plan.SavedPlan.{SavedPlan}
use Rattle.apply_plan.specs.Script.Outcome.{IsBounded, default_outcome, fails, is_warned, took}
use Rattle.apply_plan.specs.Script.OutcomeMap.{IsInRange, OutcomeMap, stated_outcome, outcome_of}
use Rattle.apply_model.proofs.Scripts.Limits.{in_time}
use Rattle.apply_hooks.specs.Hooks.{max_hooks}
use Rattle.apply_events.specs.declared.event.Event.{Event}
use Rattle.apply_events.specs.declared.what.What.{What}
use Rattle.apply_events.specs.declared.what.What.TheVariants.{Start, Progress, Complete, Errored, ErrorNote, WarnNote, Halted, ProvisionStart, ProvisionOutput, ProvisionComplete, ProvisionErrored}
use Rattle.apply_events.specs.Fits.{Fits, can_happen, may_be_asked}
use Rattle.apply_events.specs.ProgressTimes.{is_multiple_of_ten}
use Rattle.apply_events.specs.Step.{kinds_applied}
use Rattle.apply_events.specs.Totals.{completes}
use Rattle.laws_check.specs.Texts.{FitBits, IsSmall}

same : (a b : ℕ) → (a == b) ≡ true → a ≡ b
same a b e = ⊎_elim (λ (yes : ((a == b) ≡ true) × (a ≡ b)). yes.1) (λ (no : ((a == b) ≡ false) × (a ≢ b)). absurd (both_ways (a == b) no.0 e)) (eqb_tells a b)

-- a progress time is before the end
below_end : (s low n : ℕ) → list_any (λ time. time == s) (filter is_multiple_of_ten (range_with_len low n)) ≡ true → s < low + n
below_end s low zero e = absurd cc
below_end s low (suc n) e = either (is_multiple_of_ten low) (λ later. below_end s (low + 1) n later) e
  where
    first : (b : Bool) → (low == s) ≡ b → (rest : Bool) → (rest ≡ true → s < low + 1 + n) → (b || rest) ≡ true → s < low + suc n
    first true is rest later e = let here : low ≡ s = same low s is in omega arith
    first false is rest later e = let less : s < low + 1 + n = later e in omega arith

    either : (b : Bool) → (list_any (λ time. time == s) (filter is_multiple_of_ten (range_with_len (low + 1) n)) ≡ true → s < low + 1 + n)
        → list_any (λ time. time == s) (cond b (low ∷ filter is_multiple_of_ten (range_with_len (low + 1) n)) (filter is_multiple_of_ten (range_with_len (low + 1) n))) ≡ true → s < low + suc n
    either true later e = first (low == s) refl (list_any (λ time. time == s) (filter is_multiple_of_ten (range_with_len (low + 1) n))) later e
    either false later e = let less : s < low + 1 + n = later e in omega arith

at_end : (located : Bool) (s d : ℕ) → d ≤ 86400 → (located && (s == d)) ≡ true → s < 2 ^ 64
at_end located s d short e = let is : s ≡ d = same s d (and_parts located (s == d) e).1 in omega arith

what_small : (kind : StepKind) (outcome : Outcome) (what : What) → took kind outcome ≤ 86400 → can_happen kind outcome what ≡ true → IsSmall what
what_small kind outcome Start short e = tt
what_small kind outcome (Progress s) short e = let less : s < 1 + (took kind outcome - 1) = below_end s 1 (took kind outcome - 1) e in omega arith
what_small kind outcome (Complete s) short e = at_end (not (fails outcome) && not (is_warned outcome.result)) s (took kind outcome) short e
what_small kind outcome (Errored s) short e = at_end (fails outcome) s (took kind outcome) short e
what_small kind outcome ErrorNote short e = tt
what_small kind outcome WarnNote short e = tt
what_small kind outcome (Halted phase hook) short e = let few : hook < 32 = ltb-true hook max_hooks (and_parts (may_be_asked (fails outcome) phase) (nat_lt hook max_hooks) e).1 in omega arith
what_small kind outcome (ProvisionStart i) short e = tt
what_small kind outcome (ProvisionOutput i line) short e = tt
what_small kind outcome (ProvisionComplete i) short e = tt
what_small kind outcome (ProvisionErrored i) short e = tt

a_day : (given : Option Outcome) → IfSome given IsBounded → (kind : StepKind) → took kind (unwrap_or given default_outcome) ≤ 86400
a_day None bounded Create = let none : took Create default_outcome ≡ 0 = refl in omega arith
a_day None bounded Update = let none : took Update default_outcome ≡ 0 = refl in omega arith
a_day None bounded Delete = let none : took Delete default_outcome ≡ 0 = refl in omega arith
a_day None bounded Read = let none : took Read default_outcome ≡ 0 = refl in omega arith
a_day (Some outcome) bounded kind = in_time (Some outcome) bounded kind

event_small : (script : OutcomeMap) (e : Event) (located : Option StepKind) → IsInRange script → option_map_or (λ kind. can_happen kind (outcome_of script e.change e.step) e.what) located false ≡ true → IsSmall e.what
event_small script e None bounded happens = absurd cc
event_small script e (Some kind) bounded happens =
    what_small kind (outcome_of script e.change e.step) e.what (a_day (stated_outcome script e.change e.step) (bounded e.change e.step) kind) happens

all_small : (plan : SavedPlan) (script : OutcomeMap) (events : List Event) → IsInRange script → All (Fits plan script) events → AllByRecursion (λ (event : Event). IsSmall event.what) events
all_small plan script [] bounded fit = tt
all_small plan script (e ∷ events) bounded fit = (
  event_small script e (slice_get (kinds_applied plan script e.change) e.step) bounded (All-head (Fits plan script) e events fit).happens,
  all_small plan script events bounded (All-tail (Fits plan script) e events fit),
)

pub fit_bits : (plan : SavedPlan) (script : OutcomeMap) (events : List Event) → IsInRange script → All (Fits plan script) events → length events < 2 ^ 64 → FitBits plan events
fit_bits plan script events bounded fit few = record {
  each = all_small plan script events bounded fit;
  totals = record {
    added = (let most = count_by-le-length (completes plan Create) events in omega arith);
    changed = (let most = count_by-le-length (completes plan Update) events in omega arith);
    removed = (let most = count_by-le-length (completes plan Delete) events in omega arith);
  };
}
