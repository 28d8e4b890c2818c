-- What a checker holds open after one more message.
use Rattle.std.proofs.Common.{◌≡◌, ℕ, ◌+◌, List, ◌∷◌, length, Bool, true, false, cond, Option, Some, None, Result, Ok, Err, refl, ap, ◌∙◌, bytes_eq, subst, ⊎_elim}
use Rattle.std.specs.Prelude.{◌||◌, ◌&&◌, is_some}
use Rattle.std.specs.List.{list_any}
use Rattle.std.specs.Option.{option_map_or}
use Rattle.std.proofs.lemmas.Slice.Eq.{bytes_eq-Decides}
use Rattle.stream_check.specs.declared.messages.action.Action.{Action}
use Rattle.stream_check.specs.declared.messages.action.Action.TheVariants.{Create, Update, Delete, Read, Refresh}
use Rattle.stream_message.specs.declared.stage.Stage.{Stage}
use Rattle.stream_check.specs.declared.messages.timed_stage.TimedStage.{TimedStage}
use Rattle.stream_check.specs.declared.messages.timed_stage.TimedStage.TheVariants.{Start, Progress, Complete, Errored}
use Rattle.stream_check.specs.declared.rules.address_state.Failures.{Failures}
use Rattle.stream_check.specs.declared.rules.fault.Fault.{Fault}
use Rattle.stream_check.specs.declared.rules.fault.Fault.TheVariants.{AfterSummary, LeavesProvisioner, NoStep, NotPlanned}
use Rattle.stream_check.specs.declared.rules.pending.Pending.{Pending}
use Rattle.stream_check.specs.declared.rules.address_state.AddressState.{AddressState}
use Rattle.stream_check.specs.Counted.{is_used_up}
use Rattle.stream_check.specs.Course.{after}
use Rattle.stream_check.specs.Lines.{as_first, after_version, next, within_plan}
use Rattle.stream_check.specs.Message.{Message, step, provision, diagnostic}
use Rattle.stream_check.specs.Results.{◌>>=◌}
use Rattle.stream_check.specs.AddressState.{failures_cleared, failed_by, may_fail, may_provision, one_failure_more, pending_at, provision_on, provisioned, state_of, step_on, unless_provisioner_left, with_pending}
use Rattle.stream_check.specs.Tally.{begun_totals, is_begin, is_planned, is_summary, is_version, line_of, planned_totals, share_of}
use Rattle.stream_check.specs.Words.{same_action}
use Rattle.stream_check.proofs.Pendings.{put_other, put_same}
use Rattle.laws_check.proofs.Phases.{HoldsProvisioners}

pub same_text : (a : List ℕ) → bytes_eq a a ≡ true
same_text a = (bytes_eq-Decides a a).1 refl

-- ---- a step

-- what stands open then
abbrev pub step_in : Action → TimedStage → (line : ℕ) → Option Pending → AddressState → AddressState
step_in k stage line q s = failed_by k stage line (with_pending k q s)

-- a provisioner may run where a create or a delete stands open
pub may_hold : (k : Action) (s : AddressState) → HoldsProvisioners k → is_some (pending_at k s) ≡ true → may_provision s ≡ true
may_hold k s holds open_step =
    ⊎_elim
    (λ (creates : k ≡ Create). let open_create : is_some s.create ≡ true = subst (λ (m : Action). is_some (pending_at m s) ≡ true) creates open_step in ap (λ (b : Bool). b || is_some s.delete) open_create)
    (λ (deletes : k ≡ Delete). let open_delete : is_some s.delete ≡ true = subst (λ (m : Action). is_some (pending_at m s) ≡ true) deletes open_step in second (is_some s.create) (is_some s.delete) open_delete)
    holds
  where
    second : (a b : Bool) → b ≡ true → (a || b) ≡ true
    second true b is = refl
    second false b is = is

-- the message leaves no provisioner under way
left_none : (o : Option ℕ) (s : AddressState) → (is_some o ≡ true → may_provision s ≡ true) → unless_provisioner_left o s ≡ Ok s
left_none None s within = refl
left_none (Some begin) s within =
    ap (λ (b : Bool). cond b (fine s) (Err (LeavesProvisioner begin))) (within refl)
  where
    fine : AddressState → Result AddressState Fault
    fine x = Ok x

pub step_is : (k : Action) (stage : TimedStage) (line : ℕ) (q : Option Pending) (s : AddressState) → (is_some s.provisioner ≡ true → may_provision (step_in k stage line q s) ≡ true) → after k stage line (pending_at k s) ≡ Ok q
    → step_on k stage line s ≡ Ok (step_in k stage line q s)
step_is k stage line q s within e =
    ap (λ (r : Result (Option Pending) Fault). r >>= λ pending. unless_provisioner_left s.provisioner (failed_by k stage line (with_pending k pending s))) e
    ∙ left_none s.provisioner (step_in k stage line q s) within

pub step_there : (a : List ℕ) (k : Action) (stage : TimedStage) (s : AddressState) (ms : List Message) → step_on k stage (length ms + 1) (state_of a ms) ≡ Ok s → state_of a (step a k stage ∷ ms) ≡ s
unfolding state_of
step_there a k stage s ms e = rw (same_text a, e) refl

pub step_elsewhere : (a : List ℕ) (k : Action) (stage : TimedStage) (ms : List Message) (b : List ℕ) → bytes_eq a b ≡ false → state_of b (step a k stage ∷ ms) ≡ state_of b ms
unfolding state_of
step_elsewhere a k stage ms b apart = rw apart refl

-- the version came, and neither a summary nor a planned change
abbrev pub IsAmid : List Message → Type 0
IsAmid ms = (is_some (line_of is_version ms) ≡ true) × (line_of is_summary ms ≡ None) × (list_any is_planned ms ≡ false)

-- after the version, the next message is checked as after the others
pub next_after : (ms : List Message) (m : Message) → is_some (line_of is_version ms) ≡ true → ((first : ℕ) → after_version ms first m ≡ Ok (m ∷ ms)) → next ms m ≡ Ok (m ∷ ms)
next_after ms m begun is = at (line_of is_version ms) begun
  where
    at : (o : Option ℕ) → is_some o ≡ true → option_map_or (λ first. after_version ms first m) o (as_first ms m) ≡ Ok (m ∷ ms)
    at None e = absurd cc
    at (Some first) e = is first

-- where no change was planned, each may start
within_none : (k : Action) (stage : TimedStage) (ms : List Message) (answer : Result (List Message) Fault) → list_any is_planned ms ≡ false → within_plan k stage ms answer ≡ answer
within_none k stage ms answer unplanned =
    ap (λ (b : Bool). cond ((is_begin stage && b) && is_used_up (share_of k (begun_totals ms)) (share_of k (planned_totals ms))) (Err NotPlanned) answer) unplanned
    ∙ none (is_begin stage)
  where
    none : (b : Bool) → cond ((b && false) && is_used_up (share_of k (begun_totals ms)) (share_of k (planned_totals ms))) (Err NotPlanned) answer ≡ answer
    none true = refl
    none false = refl

pub next_step : (a : List ℕ) (k : Action) (stage : TimedStage) (s : AddressState) (ms : List Message) → IsAmid ms → step_on k stage (length ms + 1) (state_of a ms) ≡ Ok s
    → next ms (step a k stage) ≡ Ok (step a k stage ∷ ms)
next_step a k stage s ms amid e =
    let later = step a k stage ∷ ms in
    next_after ms (step a k stage) amid.0 (λ first.
    ap (λ (o : Option ℕ). option_map_or (λ line. Err (AfterSummary line)) o (step_on k stage (length ms + 1) (state_of a ms) >>= λ state. within_plan k stage ms (fine later))) amid.1
    ∙ ap (λ (r : Result AddressState Fault). r >>= λ state. within_plan k stage ms (fine later)) e
    ∙ within_none k stage ms (fine later) amid.2)
  where
    fine : List Message → Result (List Message) Fault
    fine later = Ok later

-- ---- parts of what stands open then

-- the failures, as they were or others
abbrev failing : Option Failures → AddressState → AddressState
failing failures s = record s { failures = failures }

failing_keeps : (l : Action) (failures : Option Failures) (s : AddressState) → pending_at l (failing failures s) ≡ pending_at l s
failing_keeps Create failures s = refl
failing_keeps Update failures s = refl
failing_keeps Delete failures s = refl
failing_keeps Read failures s = refl
failing_keeps Refresh failures s = refl

failed_keeps : (l k : Action) (stage : TimedStage) (line : ℕ) (s : AddressState) → pending_at l (failed_by k stage line s) ≡ pending_at l s
failed_keeps l k Start line s = refl
failed_keeps l k (Progress seconds) line s = refl
failed_keeps l k (Complete seconds) line s = refl
failed_keeps l k (Errored seconds) line s = either (may_fail k)
  where
    either : (b : Bool) → pending_at l (cond b (failing (Some (one_failure_more line s.failures)) s) s) ≡ pending_at l s
    either true = failing_keeps l (Some (one_failure_more line s.failures)) s
    either false = refl

pub pending_same : (k : Action) (stage : TimedStage) (line : ℕ) (q : Option Pending) (s : AddressState) → pending_at k (step_in k stage line q s) ≡ q
pending_same k stage line q s = failed_keeps k k stage line (with_pending k q s) ∙ put_same k q s

pub pending_other : (k l : Action) (stage : TimedStage) (line : ℕ) (q : Option Pending) (s : AddressState) → same_action k l ≡ false → pending_at l (step_in k stage line q s) ≡ pending_at l s
pending_other k l stage line q s apart = failed_keeps l k stage line (with_pending k q s) ∙ put_other k l q s apart

with_provisioner : (k : Action) (q : Option Pending) (s : AddressState) → (with_pending k q s).provisioner ≡ s.provisioner
with_provisioner Create q s = refl
with_provisioner Update q s = refl
with_provisioner Delete q s = refl
with_provisioner Read q s = refl
with_provisioner Refresh q s = refl

pub provisioner_same : (k : Action) (stage : TimedStage) (line : ℕ) (q : Option Pending) (s : AddressState) → (step_in k stage line q s).provisioner ≡ s.provisioner
provisioner_same k Start line q s = with_provisioner k q s
provisioner_same k (Progress seconds) line q s = with_provisioner k q s
provisioner_same k (Complete seconds) line q s = with_provisioner k q s
provisioner_same k (Errored seconds) line q s = either (may_fail k) (with_pending k q s) ∙ with_provisioner k q s
  where
    either : (b : Bool) (t : AddressState) → (cond b (failing (Some (one_failure_more line t.failures)) t) t).provisioner ≡ t.provisioner
    either true t = refl
    either false t = refl

with_failures : (k : Action) (q : Option Pending) (s : AddressState) → (with_pending k q s).failures ≡ s.failures
with_failures Create q s = refl
with_failures Update q s = refl
with_failures Delete q s = refl
with_failures Read q s = refl
with_failures Refresh q s = refl

-- the stage is no failure
abbrev pub IsNoFailure : TimedStage → Type 0
IsNoFailure Start = Unit {0}
IsNoFailure (Progress seconds) = Unit {0}
IsNoFailure (Complete seconds) = Unit {0}
IsNoFailure (Errored seconds) = ⊥

pub failures_same : (k : Action) (stage : TimedStage) (line : ℕ) (q : Option Pending) (s : AddressState) → IsNoFailure stage → (step_in k stage line q s).failures ≡ s.failures
failures_same k Start line q s n = with_failures k q s
failures_same k (Progress seconds) line q s n = with_failures k q s
failures_same k (Complete seconds) line q s n = with_failures k q s
failures_same k (Errored seconds) line q s n = absurd n

-- ---- a provisioner

-- what stands open then
abbrev pub provisioner_in : Option ℕ → AddressState → AddressState
provisioner_in running s = record s { provisioner = running }

pub provision_there : (a : List ℕ) (stage : Stage) (s : AddressState) (ms : List Message) → provision_on stage (length ms + 1) (state_of a ms) ≡ Ok s → state_of a (provision a stage ∷ ms) ≡ s
unfolding state_of
provision_there a stage s ms e = rw (same_text a, e) refl

pub provision_elsewhere : (a : List ℕ) (stage : Stage) (ms : List Message) (b : List ℕ) → bytes_eq a b ≡ false → state_of b (provision a stage ∷ ms) ≡ state_of b ms
unfolding state_of
provision_elsewhere a stage ms b apart = rw apart refl

pub next_provision : (a : List ℕ) (stage : Stage) (s : AddressState) (ms : List Message) → IsAmid ms → provision_on stage (length ms + 1) (state_of a ms) ≡ Ok s → next ms (provision a stage) ≡ Ok (provision a stage ∷ ms)
next_provision a stage s ms amid e =
    let later = provision a stage ∷ ms in
    next_after ms (provision a stage) amid.0 (λ first.
    ap (λ (o : Option ℕ). option_map_or (λ line. Err (AfterSummary line)) o (provision_on stage (length ms + 1) (state_of a ms) >>= λ state. fine later)) amid.1
    ∙ ap (λ (r : Result AddressState Fault). r >>= λ state. fine later) e)
  where
    fine : List Message → Result (List Message) Fault
    fine later = Ok later

pub provision_is : (stage : Stage) (line : ℕ) (s : AddressState) (before running : Option ℕ) → may_provision s ≡ true → s.provisioner ≡ before → provisioned stage line before ≡ Ok running → provision_on stage line s ≡ Ok (provisioner_in running s)
provision_is stage line s before running may is e =
    ap (λ (b : Bool). cond b (provisioned stage line s.provisioner >>= λ r. fine (provisioner_in r s)) (Err NoStep)) may
    ∙ ap (λ (o : Option ℕ). provisioned stage line o >>= λ r. fine (provisioner_in r s)) is
    ∙ ap (λ (x : Result (Option ℕ) Fault). x >>= λ r. fine (provisioner_in r s)) e
  where
    fine : AddressState → Result AddressState Fault
    fine x = Ok x

pub pending_still : (l : Action) (running : Option ℕ) (s : AddressState) → pending_at l (provisioner_in running s) ≡ pending_at l s
pending_still Create running s = refl
pending_still Update running s = refl
pending_still Delete running s = refl
pending_still Read running s = refl
pending_still Refresh running s = refl

-- ---- a diagnostic

pub diagnostic_there : (a : List ℕ) (e : Bool) (ms : List Message) → state_of a (diagnostic e (Some a) ∷ ms) ≡ failures_cleared e (state_of a ms)
unfolding state_of
diagnostic_there a e ms = rw (same_text a) refl

pub diagnostic_elsewhere : (a : List ℕ) (e : Bool) (ms : List Message) (b : List ℕ) → bytes_eq a b ≡ false → state_of b (diagnostic e (Some a) ∷ ms) ≡ state_of b ms
unfolding state_of
diagnostic_elsewhere a e ms b apart = rw apart refl

pub next_diagnostic : (a : List ℕ) (e : Bool) (ms : List Message) → IsAmid ms → next ms (diagnostic e (Some a)) ≡ Ok (diagnostic e (Some a) ∷ ms)
next_diagnostic a e ms amid = next_after ms (diagnostic e (Some a)) amid.0 (λ first. refl)

pub explained_keeps : (l : Action) (e : Bool) (s : AddressState) → pending_at l (failures_cleared e s) ≡ pending_at l s
explained_keeps l true s = failing_keeps l None s
explained_keeps l false s = refl

pub provisioner_verbatim : (e : Bool) (s : AddressState) → (failures_cleared e s).provisioner ≡ s.provisioner
provisioner_verbatim true s = refl
provisioner_verbatim false s = refl

-- ---- actions

pub same_itself : (k : Action) → same_action k k ≡ true
same_itself Create = refl
same_itself Update = refl
same_itself Delete = refl
same_itself Read = refl
same_itself Refresh = refl
