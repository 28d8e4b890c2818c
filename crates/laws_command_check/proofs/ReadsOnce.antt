-- At each address an apply begins at most one read.
use Rattle.std.proofs.Common.{◌≡◌, ◌≢◌, ℕ, zero, suc, ◌+◌, ◌<◌, ◌≤◌, List, [], ◌∷◌, cond, count_by, flat_map, length, Bool, true, false, Option, Some, None, refl, sym, ◌∙◌, slice_get, arith}
use Rattle.std.specs.Prelude.{◌&&◌}
use Rattle.std.specs.Option.{option_map_or}
use Rattle.std.specs.Str.{bytes_eq}
use Rattle.std.proofs.lemmas.List.Sums.{sum_by-append, sum_by-cons}
use Rattle.std.proofs.lemmas.Slice.Eq.{bytes_eq-Decides}
use Rattle.apply_model.specs.declared.plan.step_kind.StepKind.{StepKind}
use Rattle.apply_model.specs.declared.plan.step_kind.StepKind.TheVariants as kind
use Rattle.apply_model.specs.declared.script.outcome.Outcome.{Outcome}
use Rattle.apply_model.specs.Plan.ResourceChange.{ResourceChange}
use Rattle.apply_model.specs.Plan.SavedPlan.{SavedPlan}
use Rattle.apply_model.specs.Script.OutcomeMap.{OutcomeMap, outcome_of}
use Rattle.stream_check.specs.declared.messages.action.Action.TheVariants.{Delete, Read}
use Rattle.stream_check.specs.Words.{same_action}
use Rattle.apply_events.specs.declared.event.Event.{Event}
use Rattle.apply_events.specs.declared.what.What.{What}
use Rattle.apply_events.specs.declared.what.What.TheVariants.{Start, Progress, Complete, Errored, ErrorNote, WarnNote, Halted, ProvisionStart, ProvisionOutput, ProvisionComplete, ProvisionErrored}
use Rattle.apply_events.specs.Step.{Work, address_of, kinds_of}
use Rattle.apply_text.specs.Order.{as_written}
use Rattle.apply_text_terraform.specs.Message.{is_silent}
use Rattle.laws_run.specs.ChangesUnderWay.{is_start}
use Rattle.laws_check.specs.Plans.{ChangesAreWhole, IsOrdinary}
use Rattle.laws_check.specs.ReadBack.{action_of}
use Rattle.laws_check.specs.ReadBackInForm.{event_read_back_in_form, read_back_in_form}
use Rattle.laws_check.specs.WholeSteps.{events_of_change}
use Rattle.laws_check.proofs.ChangeSums.{by_changes, total, total_most, verbatim_or_none}
use Rattle.laws_check.proofs.Errors.{AreParts}
use Rattle.laws_check.proofs.FormCounts.{change_starts, does_so, starts_as}
use Rattle.laws_check.proofs.FormPlans.{few_reads_of}
use Rattle.laws_check.proofs.Ordinary.{apart}
use Rattle.laws_check.proofs.Parts.{Each}
use Rattle.laws_check.proofs.Tallies.{count_written}
use Rattle.laws_command_check.proofs.Behind.{begins_at}

-- ---- sums of which at most one number is not 0

zero_total : (low n : ℕ) (g : ℕ → ℕ) → ((c : ℕ) → low ≤ c → g c ≡ 0) → total low n g ≡ 0
zero_total low zero g each = refl
zero_total low (suc n) g each =
    let first = each low (omega arith) in
    let rest = zero_total (low + 1) n g (λ c above. each c (omega arith)) in
    omega arith

empty : (m : ℕ) → (1 ≤ m → ⊥) → m ≡ 0
empty zero none = refl
empty (suc m) none = absurd (none (omega arith))

one_total : (low n : ℕ) (g : ℕ → ℕ) → ((c : ℕ) → g c ≤ 1) → ((b c : ℕ) → b ≢ c → 1 ≤ g b → 1 ≤ g c → ⊥) → total low n g ≤ 1
one_total low zero g each sole = omega arith
one_total low (suc n) g each sole = of_first (g low) refl (one_total (low + 1) n g each sole)
  where
    of_first : (m : ℕ) → g low ≡ m → total (low + 1) n g ≤ 1 → g low + total (low + 1) n g ≤ 1
    of_first zero is rest = omega arith
    of_first (suc m) is others =
        let some : 1 ≤ g low = omega arith in
        let rest = zero_total (low + 1) n g (λ c above. empty (g c) (λ more. sole low c (λ same. absurd (let bad : low ≡ c = same in omega arith)) some more)) in
        let most = each low in
        omega arith

-- ---- reads of one change

reads_of : List StepKind → ℕ
reads_of kinds = count_by (does_so Read) kinds

read_found : (kinds : List StepKind) → 1 ≤ count_by (does_so Read) kinds → (n : ℕ) × (slice_get kinds n ≡ Some kind.Read)
read_found [] some = absurd (omega arith)
read_found (kind.Read ∷ kinds) some = (zero, refl)
read_found (kind.Create ∷ kinds) some = let all = sum_by-cons (λ x. cond (does_so Read x) 1 0) kind.Create kinds in let rest = read_found kinds (omega arith) in (suc rest.0, rest.1)
read_found (kind.Update ∷ kinds) some = let all = sum_by-cons (λ x. cond (does_so Read x) 1 0) kind.Update kinds in let rest = read_found kinds (omega arith) in (suc rest.0, rest.1)
read_found (kind.Delete ∷ kinds) some = let all = sum_by-cons (λ x. cond (does_so Read x) 1 0) kind.Delete kinds in let rest = read_found kinds (omega arith) in (suc rest.0, rest.1)

module _ (plan : SavedPlan) (script : OutcomeMap) (a : List ℕ) where
  -- the change is of an object of that address
  abbrev keep : ℕ → Bool
  keep c = bytes_eq (address_of plan c) a

  -- ---- one event

  of_what : (change : ResourceChange) (does : StepKind) (outcome : Outcome) (what : What)
      → count_by (begins_at a) (cond (is_silent does what) [] (read_back_in_form change does outcome what ∷ [])) ≤ cond (bytes_eq change.address a && (is_start what && same_action (action_of does) Read)) 1 0
  of_what change does outcome what = of_test (is_silent does what) what
    where
      of_tests : (x y : Bool) → cond {A = ℕ} ((true && x) && y) 1 0 ≤ cond (y && (true && x)) 1 0
      of_tests true true = omega arith
      of_tests true false = omega arith
      of_tests false true = omega arith
      of_tests false false = omega arith

      of_test : (b : Bool) (what : What) → count_by (begins_at a) (cond b [] (read_back_in_form change does outcome what ∷ [])) ≤ cond (bytes_eq change.address a && (is_start what && same_action (action_of does) Read)) 1 0
      of_test true what = omega arith
      of_test false Start =
          let one = sum_by-cons (λ m. cond (begins_at a m) 1 0) (read_back_in_form change does outcome Start) [] in
          let none : count_by (begins_at a) [] ≡ 0 = refl in
          let same = of_tests (same_action (action_of does) Read) (bytes_eq change.address a) in
          omega arith
      of_test false (Progress s) = omega arith
      of_test false (Complete s) = omega arith
      of_test false (Errored s) = omega arith
      of_test false ErrorNote = omega arith
      of_test false WarnNote = omega arith
      of_test false (Halted phase hook) = omega arith
      of_test false (ProvisionStart i) = omega arith
      of_test false (ProvisionOutput i line) = omega arith
      of_test false (ProvisionComplete i) = omega arith
      of_test false (ProvisionErrored i) = omega arith

  one_begins : (e : Event) → count_by (begins_at a) (event_read_back_in_form plan script e) ≤ cond (keep e.change && starts_as plan Read e) 1 0
  one_begins e = of_change (slice_get plan.changes e.change)
    where
      none_too : (x y : Bool) → 0 ≤ cond {A = ℕ} (x && (y && false)) 1 0
      none_too x y = omega arith

      of_step : (change : ResourceChange) (o : Option StepKind)
          → count_by (begins_at a) (option_map_or (λ does. cond (is_silent does e.what) [] (read_back_in_form change does (outcome_of script e.change e.step) e.what ∷ [])) o [])
          ≤ cond (bytes_eq change.address a && (is_start e.what && option_map_or (λ does. same_action (action_of does) Read) o false)) 1 0
      of_step change None = none_too (bytes_eq change.address a) (is_start e.what)
      of_step change (Some does) = of_what change does (outcome_of script e.change e.step) e.what

      of_change : (o : Option ResourceChange)
          → count_by (begins_at a) (option_map_or (λ (change : ResourceChange). option_map_or (λ does. cond (is_silent does e.what) [] (read_back_in_form change does (outcome_of script e.change e.step) e.what ∷ [])) (slice_get change.steps e.step) []) o [])
          ≤ cond (bytes_eq (option_map_or (λ (change : ResourceChange). change.address) o []) a && (is_start e.what && option_map_or (λ does. same_action (action_of does) Read) (slice_get (option_map_or (λ (change : ResourceChange). change.steps) o []) e.step) false)) 1 0
      of_change None = none_too (bytes_eq [] a) (is_start e.what)
      of_change (Some change) = of_step change (slice_get change.steps e.step)

  all_begin_so : (es : List Event) → count_by (begins_at a) (flat_map (event_read_back_in_form plan script) es) ≤ count_by (λ (e : Event). keep e.change && starts_as plan Read e) es
  all_begin_so [] = omega arith
  all_begin_so (e ∷ es) =
      let rest = all_begin_so es in
      let here = one_begins e in
      let both = sum_by-append (λ m. cond (begins_at a m) 1 0) (event_read_back_in_form plan script e) (flat_map (event_read_back_in_form plan script) es) in
      let first = sum_by-cons (λ (x : Event). cond (keep x.change && starts_as plan Read x) 1 0) e es in
      omega arith

pub reads_once : (work : Work) (a : List ℕ) (events : List Event) → IsOrdinary work.plan → ChangesAreWhole work.plan → Each (λ e. e.change < length work.plan.changes) events → AreParts work (length work.plan.changes) events
    → count_by (begins_at a) (flat_map (event_read_back_in_form work.plan work.script) (as_written events)) ≤ 1
reads_once work a events ordinary whole within parts =
    let plan = work.plan in
    let p : Event → Bool = λ e. keep plan work.script a e.change && starts_as plan Read e in
    let most = all_begin_so plan work.script a (as_written events) in
    let written = count_written p events in
    let split = by_changes p (length plan.changes) events within in
    let each = total_most 0 (length plan.changes) (λ c. count_by p (events_of_change c events)) (λ c. cond (keep plan work.script a c) (count_by (does_so Read) (kinds_of plan c)) 0) (λ c above below.
    let part = verbatim_or_none (keep plan work.script a) c (starts_as plan Read) events in
    let starts = change_starts work Read c (events_of_change c events) (parts c (omega arith)) in
    let smaller = of_keep (keep plan work.script a c) (count_by (starts_as plan Read) (events_of_change c events)) (count_by (does_so Read) (kinds_of plan c)) starts in
    omega arith) in
    let one = one_total 0 (length plan.changes) (λ c. cond (keep plan work.script a c) (count_by (does_so Read) (kinds_of plan c)) 0) (λ c. few_in (keep plan work.script a c) (count_by (does_so Read) (kinds_of plan c)) (few_reads_of plan whole c)) (λ b c unlike first second. alone b c unlike first second) in
    omega arith
  where
    of_keep : (t : Bool) (m n : ℕ) → m ≤ n → cond t m 0 ≤ cond t n 0
    of_keep true m n less = less
    of_keep false m n less = omega arith

    few_in : (t : Bool) (n : ℕ) → n ≤ 1 → cond t n 0 ≤ 1
    few_in true n less = less
    few_in false n less = omega arith

    kept_one : (t : Bool) (n : ℕ) → 1 ≤ cond t n 0 → (t ≡ true) × (1 ≤ n)
    kept_one true n some = (refl, some)
    kept_one false n some = absurd (omega arith)

    alone : (b c : ℕ) → b ≢ c → 1 ≤ cond (keep work.plan work.script a b) (count_by (does_so Read) (kinds_of work.plan b)) 0 → 1 ≤ cond (keep work.plan work.script a c) (count_by (does_so Read) (kinds_of work.plan c)) 0 → ⊥
    alone b c unlike first second =
        let plan = work.plan in
        let one = kept_one (keep plan work.script a b) (count_by (does_so Read) (kinds_of plan b)) first in
        let other = kept_one (keep plan work.script a c) (count_by (does_so Read) (kinds_of plan c)) second in
        let located = read_found (kinds_of plan b) one.1 in
        let also = read_found (kinds_of plan c) other.1 in
        let same : address_of plan b ≡ address_of plan c = (bytes_eq-Decides (address_of plan b) a).0 one.0 ∙ sym ((bytes_eq-Decides (address_of plan c) a).0 other.0) in
        let bad : Read ≡ Delete = apart plan ordinary b c Read same (located.0, kind.Read, located.1, refl) (also.0, kind.Read, also.1, refl) unlike in
        absurd cc
