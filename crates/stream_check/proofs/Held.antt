-- A checker that holds what is needed of the messages so far.
use Rattle.std.proofs.Common.{◌≡◌, ℕ, List, Bool, true, false, not, Option, Result, Ok, Err, refl, sym, ap, ◌∙◌}
use Rattle.std.specs.Prelude.{◌&&◌, ◌||◌, is_some, nat_lt, unwrap_or}
use Rattle.std.specs.BTreeMap.{get_by_text}
use Rattle.std.specs.List.{list_any}
use Rattle.stream_check.specs.declared.rules.checker.Checker.{Checker}
use Rattle.stream_check.specs.declared.rules.fault.Fault.{Fault}
use Rattle.stream_check.specs.declared.rules.fault.Fault.TheVariants.{Planned, Unended}
use Rattle.stream_check.specs.declared.rules.mode.Mode.{Mode}
use Rattle.stream_check.specs.declared.rules.address_state.AddressState.{AddressState}
use Rattle.stream_check.specs.declared.rules.tally.Tally.{Tally}
use Rattle.stream_check.specs.declared.verdict.whole.Whole.{Whole}
use Rattle.stream_check.specs.Checking.{HasRead}
use Rattle.stream_check.specs.Lines.{end_of, is_plan_stream, leaves_planned, whole_of, whole_plan_of}
use Rattle.stream_check.specs.Message.{Message}
use Rattle.stream_check.specs.Open.{any_open, is_open_at, stands_open}
use Rattle.stream_check.specs.AddressState.{idle, state_of}
use Rattle.stream_check.specs.Tallied.{has_nothing_begun, no_end_fault}
use Rattle.stream_check.specs.Tally.{is_error, is_summary}
use Rattle.stream_check.specs.Unbegun.{any_unbegun, unbegun_at}
use Rattle.stream_check.proofs.Continuing.{kept}
use Rattle.stream_check.proofs.Counting.{line_any}
use Rattle.stream_check.proofs.OpenSteps.{is_any_open, not_any_open}
use Rattle.stream_check.proofs.Unbegun.{none_waits, some_waits, stands_where}

-- what the checker finds at an address
pub state_found : (checker : Checker) (messages : List Message) → HasRead checker messages → (a : List ℕ) → unwrap_or (get_by_text checker.pending.states a) idle ≡ state_of a messages
state_found checker messages read a = ap (λ (o : Option AddressState). unwrap_or o idle) (read.state a) ∙ kept (state_of a messages)

-- the criteria, as the checker computes them
abbrev pub matters_of : Checker → AddressState → Bool
matters_of checker s = stands_open (not checker.tally.has_failed) (nat_lt checker.tally.errors_without_address checker.tally.failures) s

pub same_matters : (checker : Checker) (messages : List Message) → HasRead checker messages → (a : List ℕ) → matters_of checker (unwrap_or (get_by_text checker.pending.states a) idle) ≡ is_open_at messages a
same_matters checker messages read a =
    ap (matters_of checker) (state_found checker messages read a)
    ∙ ap (λ (t : Tally). stands_open (not t.has_failed) (nat_lt t.errors_without_address t.failures) (state_of a messages)) read.tally

-- the answer of a look at all addresses is whether something stands open
pub open_is : (checker : Checker) (messages : List Message) (b : Bool) → HasRead checker messages
    → (b ≡ true → (a : List ℕ) × (matters_of checker (unwrap_or (get_by_text checker.pending.states a) idle) ≡ true))
    → (b ≡ false → (a : List ℕ) → matters_of checker (unwrap_or (get_by_text checker.pending.states a) idle) ≡ false)
    → b ≡ any_open messages
open_is checker messages true read some none =
    let there = some refl in
    sym (is_any_open messages there.0 (sym (same_matters checker messages read there.0) ∙ there.1))
open_is checker messages false read some none =
    sym (not_any_open messages (λ a. sym (same_matters checker messages read a) ∙ none refl a))

-- what the checker finds of the planned creates at an address
waits_found : (checker : Checker) (messages : List Message) → HasRead checker messages → (a : List ℕ) → stands_open false false (unwrap_or (get_by_text checker.unbegun.waiting.states a) idle) ≡ is_some (unbegun_at a messages)
waits_found checker messages read a = ap (λ (o : Option AddressState). stands_open false false (unwrap_or o idle)) (read.unbegun a) ∙ stands_where (unbegun_at a messages)

-- the answer of a look at them is whether some planned create has not begun
pub unbegun_is : (checker : Checker) (messages : List Message) (b : Bool) → HasRead checker messages
    → (b ≡ true → (a : List ℕ) × (stands_open false false (unwrap_or (get_by_text checker.unbegun.waiting.states a) idle) ≡ true))
    → (b ≡ false → (a : List ℕ) → stands_open false false (unwrap_or (get_by_text checker.unbegun.waiting.states a) idle) ≡ false)
    → b ≡ any_unbegun messages
unbegun_is checker messages true read some none =
    let there = some refl in
    sym (some_waits messages there.0 (sym (waits_found checker messages read there.0) ∙ there.1))
unbegun_is checker messages false read some none =
    sym (none_waits messages (λ a. sym (waits_found checker messages read a) ∙ none refl a))

pub planned_is : (checker : Checker) (messages : List Message) (b : Bool) → HasRead checker messages → b ≡ any_unbegun messages
    → ((is_some checker.tally.summary && not checker.tally.has_failed) && b) ≡ leaves_planned messages
planned_is checker messages b read any =
    ap (λ (t : Tally). (is_some t.summary && not t.has_failed) && b) read.tally
    ∙ ap (λ (x : Bool). (x && not (list_any is_error messages)) && b) (line_any is_summary messages)
    ∙ ap (λ (x : Bool). (list_any is_summary messages && not (list_any is_error messages)) && x) any

-- ---- the end

pub plan_is : (checker : Checker) (messages : List Message) → HasRead checker messages → has_nothing_begun checker.tally ≡ is_plan_stream messages
plan_is checker messages read = ap has_nothing_begun read.tally

closed_is : (checker : Checker) (messages : List Message) → HasRead checker messages → (is_some checker.tally.summary || checker.tally.has_failed) ≡ (list_any is_summary messages || list_any is_error messages)
closed_is checker messages read =
    ap (λ (t : Tally). is_some t.summary || t.has_failed) read.tally ∙ ap (λ (b : Bool). b || list_any is_error messages) (line_any is_summary messages)

pub ends_open : (mode : Mode) (messages : List Message) → any_open messages ≡ true → end_of mode messages ≡ Err Unended
unfolding end_of
ends_open mode messages there = rw there refl

pub ends_as_plan : (mode : Mode) (checker : Checker) (messages : List Message) → HasRead checker messages → any_open messages ≡ false → mode.plan ≡ true → has_nothing_begun checker.tally ≡ true
    → end_of mode messages ≡ Ok (whole_plan_of mode messages)
unfolding end_of
ends_as_plan mode checker messages read closed asked plan =
    let is : is_plan_stream messages ≡ true = sym (plan_is checker messages read) ∙ plan in
    rw (closed, asked, is) refl

pub ends_planned : (mode : Mode) (checker : Checker) (messages : List Message) → HasRead checker messages → any_open messages ≡ false → (mode.plan && has_nothing_begun checker.tally) ≡ false
    → leaves_planned messages ≡ true → end_of mode messages ≡ Err Planned
unfolding end_of
ends_planned mode checker messages read closed no_plan left =
    let no : (mode.plan && is_plan_stream messages) ≡ false = ap (λ (b : Bool). mode.plan && b) (sym (plan_is checker messages read)) ∙ no_plan in
    rw (closed, no, left) refl

pub ends_well : (mode : Mode) (checker : Checker) (messages : List Message) → HasRead checker messages → any_open messages ≡ false → (mode.plan && has_nothing_begun checker.tally) ≡ false
    → leaves_planned messages ≡ false → (is_some checker.tally.summary || checker.tally.has_failed) ≡ true → end_of mode messages ≡ Ok (whole_of mode messages)
unfolding end_of
ends_well mode checker messages read closed no_plan begun last =
    let no : (mode.plan && is_plan_stream messages) ≡ false = ap (λ (b : Bool). mode.plan && b) (sym (plan_is checker messages read)) ∙ no_plan in
    let told : (list_any is_summary messages || list_any is_error messages) ≡ true = sym (closed_is checker messages read) ∙ last in
    rw (closed, no, begun, told) refl

abbrev faulty : Fault → Result Whole Fault
faulty fault = Err fault

pub ends_badly : (mode : Mode) (checker : Checker) (messages : List Message) → HasRead checker messages → any_open messages ≡ false → (mode.plan && has_nothing_begun checker.tally) ≡ false
    → leaves_planned messages ≡ false → (is_some checker.tally.summary || checker.tally.has_failed) ≡ false → end_of mode messages ≡ Err (no_end_fault checker.tally)
unfolding end_of
ends_badly mode checker messages read closed no_plan begun last =
    let no : (mode.plan && is_plan_stream messages) ≡ false = ap (λ (b : Bool). mode.plan && b) (sym (plan_is checker messages read)) ∙ no_plan in
    let told : (list_any is_summary messages || list_any is_error messages) ≡ false = sym (closed_is checker messages read) ∙ last in
    rw (closed, no, begun, told) (ap (λ (t : Tally). faulty (no_end_fault t)) (sym read.tally))
