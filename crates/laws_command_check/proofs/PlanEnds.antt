-- The end of a stream of a plan, or of an apply whose planning failed: diagnostics, and nothing
-- else.
use Rattle.std.proofs.Common.{◌≡◌, ℕ, ◌+◌, List, [], ◌∷◌, length, Bool, true, false, cond, Option, Some, None, Result, Ok, refl, sym, ap, ◌∙◌, subst, ⊎_elim, ◌⊎◌, is_some, count_by, arith, nat_lt, lt-ltb}
use Rattle.std.specs.Prelude.{◌&&◌, not}
use Rattle.std.specs.List.{list_any}
use Rattle.std.proofs.Math.Bool.{and-false}
use Rattle.std.proofs.lemmas.List.Sums.{sum_by-cons}
use Rattle.stream_check.specs.declared.messages.action.Action.TheVariants.{Refresh}
use Rattle.stream_check.specs.declared.messages.totals.Totals.{Totals}
use Rattle.stream_check.specs.declared.rules.address_state.AddressState.{AddressState}
use Rattle.stream_check.specs.declared.rules.fault.Fault.{Fault}
use Rattle.stream_check.specs.declared.rules.pending.Pending.{Pending}
use Rattle.stream_check.specs.AddressState.{failures_cleared, pending_at, state_of}
use Rattle.stream_check.specs.Lines.{apply_end, end_of, is_plan_stream, leaves_planned, next, whole_plan_of}
use Rattle.stream_check.specs.Message.{Message, diagnostic}
use Rattle.stream_check.specs.Open.{any_open, refreshes_matter, stands_open}
use Rattle.stream_check.specs.Results.{◌>>=◌}
use Rattle.stream_check.specs.Tally.{begun_totals, completed_totals, failures_stand, is_error, is_plan_summary, is_summary, line_of, no_totals, planned_totals, same_totals}
use Rattle.stream_check.proofs.OpenSteps.{not_any_open}
use Rattle.laws_check.specs.Passing.{plain, with_all}
use Rattle.laws_check.proofs.FormFailures.{AreDiagnostics}
use Rattle.laws_check.proofs.Moves.{by_address}
use Rattle.laws_check.proofs.Standings.{diagnostic_elsewhere, diagnostic_there, next_after}
use Rattle.laws_check.proofs.Turning.{followed_by}
use Rattle.laws_command_check.specs.CommandAccepted.{whole_of_command}
use Rattle.laws_command_check.proofs.HeadTaken.{IsGoing}
use Rattle.laws_command_check.proofs.Planning.{IsQuiet}

abbrev fine : {A : Type 0} → A → Result A Fault
fine x = Ok x

-- ---- diagnostics

quiet_still : (e : Bool) (s : AddressState) → IsQuiet s → IsQuiet (failures_cleared e s)
quiet_still true s q = record { create = q.create; update = q.update; delete = q.delete; provisioner = q.provisioner; failures = refl }
quiet_still false s q = q

one_noted : (e : Bool) (o : Option (List ℕ)) (ms : List Message) → IsGoing ms → ((a : List ℕ) → IsQuiet (state_of a ms))
    → (next ms (diagnostic e o) ≡ Ok (diagnostic e o ∷ ms)) × IsGoing (diagnostic e o ∷ ms) × ((a : List ℕ) → IsQuiet (state_of a (diagnostic e o ∷ ms)))
unfolding state_of
one_noted e o ms going quiet = (next_after ms (diagnostic e o) going.begun (λ first. refl), record { begun = going.begun; unsummed = going.unsummed }, at o)
  where
    at : (o : Option (List ℕ)) (a : List ℕ) → IsQuiet (state_of a (diagnostic e o ∷ ms))
    at None a = quiet a
    at (Some b) a = by_address (λ x. IsQuiet (state_of x (diagnostic e (Some b) ∷ ms))) b (subst IsQuiet (sym (diagnostic_there b e ms)) (quiet_still e (state_of b ms) (quiet b))) (λ x away. subst IsQuiet (sym (diagnostic_elsewhere b e ms x away)) (quiet x)) a

pub all_noted : (xs ms : List Message) → AreDiagnostics xs → IsGoing ms → ((a : List ℕ) → IsQuiet (state_of a ms))
    → (with_all ms xs ≡ Ok (followed_by ms xs)) × IsGoing (followed_by ms xs) × ((a : List ℕ) → IsQuiet (state_of a (followed_by ms xs)))
all_noted [] ms h going quiet = (refl, going, quiet)
all_noted (x ∷ xs) ms h going quiet =
    let one = one_noted h.0.0 h.0.1 ms going quiet in
    let here : (next ms x ≡ Ok (x ∷ ms)) × IsGoing (x ∷ ms) × ((a : List ℕ) → IsQuiet (state_of a (x ∷ ms))) = subst (λ (m : Message). (next ms m ≡ Ok (m ∷ ms)) × IsGoing (m ∷ ms) × ((a : List ℕ) → IsQuiet (state_of a (m ∷ ms)))) (sym h.0.2) one in
    let rest = all_noted xs (x ∷ ms) h.1 here.1 here.2 in
    (ap (λ (r : Result (List Message) Fault). r >>= λ later. with_all later xs) here.0 ∙ rest.0, rest.1, rest.2)

-- ---- nothing stands open

stands_closed : (r f : Bool) (s : AddressState) → IsQuiet s → (r && is_some s.refresh) ≡ false → stands_open r f s ≡ false
stands_closed r f s q none = rw (q.create, q.update, q.delete, none, q.failures) (and-false f)

pub plan_closed : (ms : List Message) → ((a : List ℕ) → IsQuiet (state_of a ms)) → (list_any is_error ms ≡ true) ⊎ ((a : List ℕ) → pending_at Refresh (state_of a ms) ≡ None) → any_open ms ≡ false
plan_closed ms quiet ends = not_any_open ms (λ a. stands_closed (refreshes_matter ms) (failures_stand ms) (state_of a ms) (quiet a)
    (⊎_elim
    (λ (told : list_any is_error ms ≡ true). ap (λ (b : Bool). not b && is_some (state_of a ms).refresh) told)
    (λ (closed : (a : List ℕ) → pending_at Refresh (state_of a ms) ≡ None). ap (λ (o : Option Pending). refreshes_matter ms && is_some o) (closed a) ∙ and-false (refreshes_matter ms))
    ends))

-- ---- the verdict

-- a message that is there has a line
pub on_line : (q : Message → Bool) (ms : List Message) → is_some (line_of q ms) ≡ nat_lt 0 (count_by q ms)
on_line q [] = refl
on_line q (m ∷ ms) = of_test (q m) (on_line q ms) (sum_by-cons (λ x. cond (q x) 1 0) m ms)
  where
    of_test : (b : Bool) → is_some (line_of q ms) ≡ nat_lt 0 (count_by q ms) → count_by q (m ∷ ms) ≡ cond b 1 0 + count_by q ms → is_some (cond b (Some (length ms + 1)) (line_of q ms)) ≡ nat_lt 0 (count_by q (m ∷ ms))
    of_test true rest all = sym (lt-ltb 0 (count_by q (m ∷ ms)) (omega arith))
    of_test false rest all = rest ∙ ap (nat_lt 0) (let e : count_by q ms ≡ count_by q (m ∷ ms) = omega arith in e)

-- the verdict at the end, where no step has begun, and nothing stands open
pub plan_ends : (plans told errors : Bool) (planned : Totals) (ms : List Message) → any_open ms ≡ false → line_of is_summary ms ≡ None → begun_totals ms ≡ no_totals → completed_totals ms ≡ no_totals
    → planned_totals ms ≡ planned → list_any is_error ms ≡ errors → is_some (line_of is_plan_summary ms) ≡ told → list_any is_summary ms ≡ false
    → (plans ≡ true) ⊎ (errors ≡ true) → (told ≡ true) ⊎ (errors ≡ true)
    → end_of (plain plans) ms ≡ Ok (whole_of_command (plans && told) planned no_totals errors (length ms))
unfolding end_of
plan_ends plans told errors planned ms closed unsummed none_begun none_done sum error has no_summary which ends =
    rw closed (of_plan plans which)
  where
    and_true : (b : Bool) → (b && true) ≡ b
    and_true true = refl
    and_true false = refl

    is_plan : is_plan_stream ms ≡ told
    is_plan =
        ap (λ (o : Option ℕ). is_some (line_of is_plan_summary ms) && (not (is_some o) && same_totals (begun_totals ms) no_totals)) unsummed
        ∙ ap (λ (t : Totals). is_some (line_of is_plan_summary ms) && (true && same_totals t no_totals)) none_begun
        ∙ ap (λ (b : Bool). b && true) has ∙ and_true told

    nothing_left : leaves_planned ms ≡ false
    nothing_left = rw no_summary refl

    as_apply : errors ≡ true → apply_end (plain plans) ms ≡ Ok (whole_of_command false planned no_totals errors (length ms))
    as_apply fails = rw (nothing_left, no_summary, error, fails, none_done) refl

    as_plan : Ok (whole_plan_of (plain plans) ms) ≡ fine (whole_of_command true planned no_totals errors (length ms))
    as_plan = rw (sum, error) refl

    of_told : (b : Bool) → told ≡ b → cond (true && is_plan_stream ms) (Ok (whole_plan_of (plain plans) ms)) (apply_end (plain plans) ms) ≡ Ok (whole_of_command (true && b) planned no_totals errors (length ms))
    of_told true is = ap (λ (b : Bool). cond (true && b) (fine (whole_plan_of (plain plans) ms)) (apply_end (plain plans) ms)) (is_plan ∙ is) ∙ as_plan
    of_told false is = ap (λ (b : Bool). cond (true && b) (fine (whole_plan_of (plain plans) ms)) (apply_end (plain plans) ms)) (is_plan ∙ is) ∙ as_apply (⊎_elim (λ (yes : told ≡ true). absurd (let bad : true ≡ false = sym yes ∙ is in cc)) (λ (yes : errors ≡ true). yes) ends)

    of_plan : (p : Bool) → (p ≡ true) ⊎ (errors ≡ true) → cond (p && is_plan_stream ms) (Ok (whole_plan_of (plain plans) ms)) (apply_end (plain plans) ms) ≡ Ok (whole_of_command (p && told) planned no_totals errors (length ms))
    of_plan true which = of_told told refl
    of_plan false which = as_apply (⊎_elim (λ (yes : false ≡ true). absurd cc) (λ (yes : errors ≡ true). yes) which)
