-- A stream, one line after another.
use Rattle.std.proofs.Common.{◌≡◌, ℕ, ◌+◌, suc, List, [], ◌∷◌, length, map, drop, Bool, true, false, cond, Option, Some, None, Result, Ok, Err, refl, sym, ap, ◌∙◌, arith, subst, ◌<◌, ◌≤◌, get_or, add-one, drop-cons}
use Rattle.std.specs.Option.{option_map_or}
use Rattle.std.proofs.lemmas.List.{drop_all}
use Rattle.stream_check.specs.declared.rules.fault.Fault.{Fault}
use Rattle.stream_check.specs.declared.rules.fault.Fault.TheVariants.{AfterSummary, NotPlanned, OutputsAlone, PlanAgain, Unended, WrongPlanTotals, WrongTotals}
use Rattle.stream_check.specs.declared.rules.mode.Mode.{Mode}
use Rattle.stream_check.specs.declared.verdict.finding.Finding.{Finding}
use Rattle.stream_check.specs.declared.verdict.whole.Whole.{Whole}
use Rattle.stream_check.specs.Lines.{as_first, at_line, after_version, end_of, plan_summed, is_beyond_plan, line_message, next, passed_of, read_line, summed, verdict_after, within_plan}
use Rattle.stream_check.specs.Message.{Message, version, step, provision, planned, plan_summary, summary, diagnostic, outputs, other, foreign}
use Rattle.stream_check.specs.Open.{any_open}
use Rattle.stream_check.specs.Results.{◌>>=◌}
use Rattle.stream_check.specs.AddressState.{provision_on, state_of, step_on}
use Rattle.stream_check.specs.Tally.{awaits_outputs, completed_totals, is_plan_summary, is_summary, is_version, line_of, planned_totals, same_totals}

-- ---- each line is one message

pub bind_ok : {A B : Type 0} (r : Result A Fault) (f : A → Result B Fault) (y : B) → (r >>= f) ≡ Ok y → (x : A) × (r ≡ Ok x) × (f x ≡ Ok y)
bind_ok (Ok x) f y e = (x, refl, e)
bind_ok (Err d) f y e = absurd cc

guard_ok : (b : Bool) (d : Fault) (r : Result (List Message) Fault) (y : List Message) → cond b (Err d) r ≡ Ok y → r ≡ Ok y
guard_ok true d r y e = absurd cc
guard_ok false d r y e = e

guard_err : (b : Bool) (d : Fault) (r : Result (List Message) Fault) (y : List Message) → cond b r (Err d) ≡ Ok y → r ≡ Ok y
guard_err true d r y e = e
guard_err false d r y e = absurd cc

abbrev one_on : Message → List Message → Result (List Message) Fault
one_on m ms = Ok (m ∷ ms)

put_on : (m : Message) (ms later : List Message) → one_on m ms ≡ Ok later → m ∷ ms ≡ later
put_on m ms later e = cc

-- an accepted answer names no line that refuses it
pub past_line : {A : Type 0} (f : ℕ → Fault) (o : Option ℕ) (r : Result A Fault) (y : A) → option_map_or (λ line. Err (f line)) o r ≡ Ok y → (o ≡ None) × (r ≡ Ok y)
past_line f None r y e = (refl, e)
past_line f (Some line) r y e = absurd cc

one_after : (ms : List Message) (first : ℕ) (m : Message) (later : List Message) → after_version ms first m ≡ Ok later → m ∷ ms ≡ later
one_after ms first version later e = absurd cc
one_after ms first (step a k stage) later e =
    let found = bind_ok (step_on k stage (length ms + 1) (state_of a ms)) (λ state. within_plan k stage ms (one_on (step a k stage) ms)) later (past_line AfterSummary _ _ later e).1 in
    put_on (step a k stage) ms later (guard_ok (is_beyond_plan k stage ms) NotPlanned (one_on (step a k stage) ms) later found.2)
one_after ms first (provision a stage) later e =
    let found = bind_ok (provision_on stage (length ms + 1) (state_of a ms)) (λ state. one_on (provision a stage) ms) later (past_line AfterSummary _ _ later e).1 in
    put_on (provision a stage) ms later found.2
one_after ms first (planned intent address) later e = put_on (planned intent address) ms later (past_line AfterSummary (line_of is_summary ms) (one_on (planned intent address) ms) later e).1
one_after ms first (plan_summary t) later e =
    let right : Result (List Message) Fault = cond (same_totals t (planned_totals ms)) (one_on (plan_summary t) ms) (Err (WrongPlanTotals t (planned_totals ms))) in
    let once = (past_line AfterSummary (line_of is_summary ms) (plan_summed t ms) later e).1 in
    put_on (plan_summary t) ms later
    (guard_err (same_totals t (planned_totals ms)) (WrongPlanTotals t (planned_totals ms)) (one_on (plan_summary t) ms) later (past_line PlanAgain (line_of is_plan_summary ms) right later once).1)
one_after ms first (summary t) later e =
    let right : Result (List Message) Fault = cond (same_totals t (completed_totals ms)) (one_on (summary t) ms) (Err (WrongTotals t (completed_totals ms))) in
    let once = (past_line AfterSummary (line_of is_summary ms) (summed t ms) later e).1 in
    let second = guard_ok (any_open ms) Unended right later once in
    put_on (summary t) ms later (guard_err (same_totals t (completed_totals ms)) (WrongTotals t (completed_totals ms)) (one_on (summary t) ms) later second)
one_after ms first (diagnostic b a) later e = put_on (diagnostic b a) ms later e
one_after ms first outputs later e = put_on outputs ms later (guard_err (awaits_outputs ms) OutputsAlone (one_on outputs ms) later e)
one_after ms first other later e = put_on other ms later e
one_after ms first foreign later e = put_on foreign ms later e

one_first : (ms : List Message) (m : Message) (later : List Message) → as_first ms m ≡ Ok later → m ∷ ms ≡ later
one_first ms version later e = put_on version ms later e
one_first ms (step a k stage) later e = absurd cc
one_first ms (provision a stage) later e = absurd cc
one_first ms (planned intent address) later e = absurd cc
one_first ms (plan_summary t) later e = absurd cc
one_first ms (summary t) later e = absurd cc
one_first ms (diagnostic b a) later e = absurd cc
one_first ms outputs later e = absurd cc
one_first ms other later e = absurd cc
one_first ms foreign later e = put_on foreign ms later e

pub one_next : (ms : List Message) (m : Message) (later : List Message) → next ms m ≡ Ok later → m ∷ ms ≡ later
one_next ms m later e = by_line (line_of is_version ms) e where
  by_line : (o : Option ℕ) → option_map_or (λ first. after_version ms first m) o (as_first ms m) ≡ Ok later → m ∷ ms ≡ later
  by_line None f = one_first ms m later f
  by_line (Some first) f = one_after ms first m later f

pub with_one : (find : Bool) (ms : List Message) (text : List ℕ) (later : List Message) → read_line find ms text ≡ Ok later → length later ≡ length ms + 1
unfolding read_line
with_one find ms text later e =
    let found = bind_ok (line_message find text) (next ms) later e in
    subst (λ (xs : List Message). length xs ≡ length ms + 1) (one_next ms found.0 later found.2) (omega arith)

-- ---- the verdict after the lines so far

pub goes_on : (mode : Mode) (ms later : List Message) (text : List ℕ) (texts : List (List ℕ)) (v : Result Whole Finding) → read_line mode.find ms text ≡ Ok later → verdict_after mode ms (text ∷ texts) ≡ v → verdict_after mode later texts ≡ v
unfolding verdict_after
goes_on mode ms later text texts v e is = rw e at is

-- a finding on that line, after these messages
abbrev pub finding_at : Mode → List Message → ℕ → Fault → Result Whole Finding
finding_at mode ms line fault = Err (record { line = line; fault = fault; passed = passed_of mode ms })

pub is_faulty : (mode : Mode) (ms : List Message) (text : List ℕ) (texts : List (List ℕ)) (v : Result Whole Finding) (fault : Fault) → read_line mode.find ms text ≡ Err fault → verdict_after mode ms (text ∷ texts) ≡ v
    → v ≡ finding_at mode ms (length ms + 1) fault
unfolding verdict_after
is_faulty mode ms text texts v fault e is = sym (rw e at is)

pub is_done : (mode : Mode) (ms : List Message) (v : Result Whole Finding) → verdict_after mode ms [] ≡ v → v ≡ at_line mode ms (length ms) (end_of mode ms)
unfolding verdict_after
is_done mode ms v is = sym is

-- ---- the lines that are left

pub one_left : {X : Type 0} (f : X → List ℕ) (xs : List X) (i : ℕ) (x : X) → i < length xs → x ≡ get_or xs i x → map f (drop i xs) ≡ f x ∷ map f (drop (i + 1) xs)
one_left f xs i x below is =
    ap (λ ys. map f ys) (drop-cons xs i x below) ∙ ap (λ y. f y ∷ map f (drop (suc i) xs)) (sym is) ∙ ap (λ n. f x ∷ map f (drop n xs)) (sym (add-one i))

pub none_left : {X : Type 0} (f : X → List ℕ) (xs : List X) (i : ℕ) → length xs ≤ i → map f (drop i xs) ≡ []
none_left f xs i all = ap (λ ys. map f ys) (drop_all i xs all)
