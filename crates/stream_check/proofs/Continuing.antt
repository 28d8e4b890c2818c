-- One more message after those that a checker has read.
use Rattle.std.proofs.Common.{◌≡◌, ℕ, ◌+◌, ◌<◌, ◌^◌, arith, Fits, w64, List, ◌∷◌, length, Bool, true, false, cond, not, Option, Some, None, Result, Ok, Err, refl, sym, ap, ◌∙◌, ⊎_elim}
use Rattle.std.specs.Prelude.{◌&&◌, ◌≢◌, is_some, unwrap_or}
use Rattle.std.specs.BTreeMap.{get_by_text}
use Rattle.std.specs.Str.{bytes_eq}
use Rattle.std.proofs.lemmas.Bool.{cases_Bool}
use Rattle.std.proofs.lemmas.Slice.Eq.{bytes_eq-Decides}
use Rattle.stream_check.specs.declared.messages.action.Action.{Action}
use Rattle.stream_check.specs.declared.messages.intent.Intent.{Intent}
use Rattle.stream_message.specs.declared.stage.Stage.{Stage}
use Rattle.stream_check.specs.declared.messages.timed_stage.TimedStage.{TimedStage}
use Rattle.stream_check.specs.declared.messages.totals.Totals.{Totals}
use Rattle.stream_check.specs.declared.rules.checker.Checker.{Checker}
use Rattle.stream_check.specs.declared.rules.address_state.Failures.{Failures}
use Rattle.stream_check.specs.declared.rules.fault.Fault.{Fault}
use Rattle.stream_check.specs.declared.rules.fault.Fault.TheVariants.{AfterSummary, Memory}
use Rattle.stream_check.specs.declared.rules.pending.Pending.{Pending}
use Rattle.stream_check.specs.declared.rules.address_state.AddressState.{AddressState}
use Rattle.stream_check.specs.declared.rules.tally.Tally.{Tally}
use Rattle.stream_check.specs.Checking.{Continues, HasRead}
use Rattle.stream_check.specs.Lines.{as_first, before_summary, after_version, next}
use Rattle.stream_check.specs.Message.{Message, version, step, provision, planned, plan_summary, summary, diagnostic, outputs, other, foreign}
use Rattle.stream_check.specs.AddressState.{failures_cleared, idle, is_idle, provision_on, state_of, step_on, unless_idle}
use Rattle.stream_check.specs.Tallied.{awaits_create, tally_of, with_error_at, with_line, with_planned, with_step}
use Rattle.stream_check.specs.Tally.{failure_count, is_plan_summary, is_summary, is_version, line_of}
use Rattle.stream_check.specs.Unbegun.{awaiting, begun_state, planned_state, starts_create, unbegun_at}
use Rattle.stream_check.proofs.Counting.{error_at_tallied, planned_tallied, provision_tallied, step_tallied}
use Rattle.stream_check.proofs.Unbegun.{diagnostic_waits, planned_waits, provision_waits, stepped}

-- ---- the stored state of an address

and_parts : (a b : Bool) → (a && b) ≡ true → (a ≡ true) × (b ≡ true)
and_parts true b e = (refl, e)
and_parts false b e = absurd cc

not_some : {T : Type 0} (o : Option T) → not (is_some o) ≡ true → o ≡ None
not_some None e = refl
not_some (Some p) e = absurd cc

all_none : (c d e f g : Option Pending) (h : Option ℕ) (i : Option Failures) → c ≡ None → d ≡ None → e ≡ None → f ≡ None → g ≡ None → h ≡ None → i ≡ None
    → (let one : AddressState = record { create = c; update = d; delete = e; read = f; refresh = g; provisioner = h; failures = i } in one) ≡ idle
all_none c d e f g h i p q r s t u v = cc

pub idle_only : (s : AddressState) → is_idle s ≡ true → s ≡ idle
idle_only s e =
    let p6 = and_parts _ (not (is_some s.failures)) e in
    let p5 = and_parts _ (not (is_some s.provisioner)) p6.0 in
    let p4 = and_parts _ (not (is_some s.refresh)) p5.0 in
    let p3 = and_parts _ (not (is_some s.read)) p4.0 in
    let p2 = and_parts _ (not (is_some s.delete)) p3.0 in
    let p1 = and_parts (not (is_some s.create)) (not (is_some s.update)) p2.0 in
    all_none s.create s.update s.delete s.read s.refresh s.provisioner s.failures (not_some s.create p1.0) (not_some s.update p1.1) (not_some s.delete p2.1) (not_some s.read p3.1) (not_some s.refresh p4.1) (not_some s.provisioner p5.1) (not_some s.failures p6.1)

-- an idle state need not be stored
pub kept : (s : AddressState) → unwrap_or (unless_idle s) idle ≡ s
kept s = ⊎_elim (λ (yes : is_idle s ≡ true). rw yes (sym (idle_only s yes))) (λ (no : is_idle s ≡ false). rw no refl) (cases_Bool (is_idle s))

-- the stored state of each address, after that of one is set
pub set_at : (old new : List ℕ → Option AddressState) (address : List ℕ) (s : AddressState) (m : Message) (ms : List Message)
    → ((a : List ℕ) → old a ≡ unless_idle (state_of a ms))
    → ((a : List ℕ) → new a ≡ cond (bytes_eq address a) (unless_idle s) (old a))
    → state_of address (m ∷ ms) ≡ s
    → ((a : List ℕ) → bytes_eq address a ≡ false → state_of a (m ∷ ms) ≡ state_of a ms)
    → (a : List ℕ) → new a ≡ unless_idle (state_of a (m ∷ ms))
set_at old new address s m ms before set there elsewhere a =
    ⊎_elim
    (λ (yes : bytes_eq address a ≡ true).
    let same : address ≡ a = (bytes_eq-Decides address a).0 yes in
    let put : new a ≡ unless_idle s = rw yes at (set a) in
    put ∙ ap unless_idle (sym there) ∙ ap (λ (b : List ℕ). unless_idle (state_of b (m ∷ ms))) same)
    (λ (no : bytes_eq address a ≡ false).
    let left : new a ≡ old a = rw no at (set a) in
    left ∙ before a ∙ ap unless_idle (sym (elsewhere a no)))
    (cases_Bool (bytes_eq address a))

same_text : (a : List ℕ) → bytes_eq a a ≡ true
same_text a = (bytes_eq-Decides a a).1 refl

-- ---- messages about an address

pub step_there : (a : List ℕ) (k : Action) (stage : TimedStage) (s : AddressState) (ms : List Message) → step_on k stage (length ms + 1) (state_of a ms) ≡ Ok s → state_of a (step a k stage ∷ ms) ≡ s
unfolding state_of
step_there a k stage s ms e = rw (same_text a, e) refl

pub step_elsewhere : (a : List ℕ) (k : Action) (stage : TimedStage) (ms : List Message) (b : List ℕ) → bytes_eq a b ≡ false → state_of b (step a k stage ∷ ms) ≡ state_of b ms
unfolding state_of
step_elsewhere a k stage ms b apart = rw apart refl

pub provision_there : (a : List ℕ) (stage : Stage) (s : AddressState) (ms : List Message) → provision_on stage (length ms + 1) (state_of a ms) ≡ Ok s → state_of a (provision a stage ∷ ms) ≡ s
unfolding state_of
provision_there a stage s ms e = rw (same_text a, e) refl

pub provision_elsewhere : (a : List ℕ) (stage : Stage) (ms : List Message) (b : List ℕ) → bytes_eq a b ≡ false → state_of b (provision a stage ∷ ms) ≡ state_of b ms
unfolding state_of
provision_elsewhere a stage ms b apart = rw apart refl

pub diagnostic_there : (a : List ℕ) (e : Bool) (ms : List Message) → state_of a (diagnostic e (Some a) ∷ ms) ≡ failures_cleared e (state_of a ms)
unfolding state_of
diagnostic_there a e ms = rw (same_text a) refl

pub diagnostic_elsewhere : (a : List ℕ) (e : Bool) (ms : List Message) (b : List ℕ) → bytes_eq a b ≡ false → state_of b (diagnostic e (Some a) ∷ ms) ≡ state_of b ms
unfolding state_of
diagnostic_elsewhere a e ms b apart = rw apart refl

-- ---- a checker with one message more

-- nothing changes of the planned creates that have not begun
abbrev pub KeepsUnbegun : (old new : Checker) → Type 0
KeepsUnbegun old new = (b : List ℕ) → get_by_text new.unbegun.waiting.states b ≡ get_by_text old.unbegun.waiting.states b

-- the start of a create begins one of them
abbrev pub Begins : (old new : Checker) → (a : List ℕ) → Action → TimedStage → Type 0
Begins old new a k stage =
    (b : List ℕ) → get_by_text new.unbegun.waiting.states b
    ≡ cond (starts_create stage k && bytes_eq a b) (begun_state (get_by_text old.unbegun.waiting.states a)) (get_by_text old.unbegun.waiting.states b)

-- what the map has, where that of one address is set
abbrev pub Sets : (old new : Checker) → (a : List ℕ) → AddressState → Type 0
Sets old new a s = (b : List ℕ) → get_by_text new.pending.states b ≡ cond (bytes_eq a b) (unless_idle s) (get_by_text old.pending.states b)

pub step_read : (old new : Checker) (ms : List Message) (a : List ℕ) (k : Action) (stage : TimedStage) (s : AddressState) → HasRead old ms → Sets old new a s → Begins old new a k stage
    → new.tally ≡ with_step k stage old.tally → step_on k stage (length ms + 1) (state_of a ms) ≡ Ok s → HasRead new (step a k stage ∷ ms)
step_read old new ms a k stage s read set begins tally e = record {
  tally = tally ∙ ap (with_step k stage) read.tally ∙ step_tallied a k stage ms;
  state = set_at (λ b. get_by_text old.pending.states b) (λ b. get_by_text new.pending.states b) a s (step a k stage) ms read.state set (step_there a k stage s ms e) (step_elsewhere a k stage ms);
  unbegun = stepped (λ b. get_by_text old.unbegun.waiting.states b) (λ b. get_by_text new.unbegun.waiting.states b) a k stage ms read.unbegun begins;
}

pub provision_read : (old new : Checker) (ms : List Message) (a : List ℕ) (stage : Stage) (s : AddressState) → HasRead old ms → Sets old new a s → KeepsUnbegun old new
    → new.tally ≡ with_line old.tally → provision_on stage (length ms + 1) (state_of a ms) ≡ Ok s → HasRead new (provision a stage ∷ ms)
provision_read old new ms a stage s read set keeps tally e = record {
  tally = tally ∙ ap with_line read.tally ∙ provision_tallied a stage ms;
  state = set_at (λ b. get_by_text old.pending.states b) (λ b. get_by_text new.pending.states b) a s (provision a stage) ms read.state set (provision_there a stage s ms e) (provision_elsewhere a stage ms);
  unbegun = λ b. keeps b ∙ read.unbegun b ∙ ap (λ o. unless_idle (awaiting o)) (sym (provision_waits a stage ms b));
}

pub error_read : (old new : Checker) (ms : List Message) (a : List ℕ) → HasRead old ms → Sets old new a (failures_cleared true (state_of a ms)) → KeepsUnbegun old new
    → new.tally ≡ with_error_at (failure_count (state_of a ms).failures) old.tally → HasRead new (diagnostic true (Some a) ∷ ms)
error_read old new ms a read set keeps tally = record {
  tally = tally ∙ ap (with_error_at (failure_count (state_of a ms).failures)) read.tally ∙ error_at_tallied a ms;
  state = set_at (λ b. get_by_text old.pending.states b) (λ b. get_by_text new.pending.states b) a (failures_cleared true (state_of a ms)) (diagnostic true (Some a)) ms read.state set (diagnostic_there a true ms) (diagnostic_elsewhere a true ms);
  unbegun = λ b. keeps b ∙ read.unbegun b ∙ ap (λ o. unless_idle (awaiting o)) (sym (diagnostic_waits true (Some a) ms b));
}

-- a message that changes nothing at any address
pub record IsStill (m : Message) (ms : List Message) : Type 0 where
  pub state : (b : List ℕ) → state_of b (m ∷ ms) ≡ state_of b ms
  pub unbegun : (b : List ℕ) → unbegun_at b (m ∷ ms) ≡ unbegun_at b ms

pub plain_read : (old new : Checker) (m : Message) (ms : List Message) (more : Tally → Tally) → HasRead old ms → ((b : List ℕ) → get_by_text new.pending.states b ≡ get_by_text old.pending.states b)
    → KeepsUnbegun old new → new.tally ≡ more old.tally → more (tally_of ms) ≡ tally_of (m ∷ ms) → IsStill m ms → HasRead new (m ∷ ms)
plain_read old new m ms more read kept_all keeps tally is still = record {
  tally = tally ∙ ap more read.tally ∙ is;
  state = λ b. kept_all b ∙ read.state b ∙ ap unless_idle (sym (still.state b));
  unbegun = λ b. keeps b ∙ read.unbegun b ∙ ap (λ o. unless_idle (awaiting o)) (sym (still.unbegun b));
}

planned_state_still : (i : Intent) (o : Option (List ℕ)) (ms : List Message) (b : List ℕ) → state_of b (planned i o ∷ ms) ≡ state_of b ms
unfolding state_of
planned_state_still i o ms b = refl

pub planned_read : (old new : Checker) (ms : List Message) (i : Intent) (o : Option (List ℕ)) → HasRead old ms → ((b : List ℕ) → get_by_text new.pending.states b ≡ get_by_text old.pending.states b)
    → ((b : List ℕ) → get_by_text new.unbegun.waiting.states b ≡ planned_state (awaits_create i old.tally) (old.tally.lines + 1) o (λ a. get_by_text old.unbegun.waiting.states a) b)
    → new.tally ≡ with_planned i old.tally → HasRead new (planned i o ∷ ms)
planned_read old new ms i o read kept_all adds tally = record {
  tally = tally ∙ ap (with_planned i) read.tally ∙ planned_tallied i o ms;
  state = λ b. kept_all b ∙ read.state b ∙ ap unless_idle (sym (planned_state_still i o ms b));
  unbegun = λ b.
      adds b
      ∙ ap (λ (t : Tally). planned_state (awaits_create i t) (t.lines + 1) o (λ a. get_by_text old.unbegun.waiting.states a) b) read.tally
      ∙ planned_waits (λ a. get_by_text old.unbegun.waiting.states a) i o ms read.unbegun b;
}

pub still_plan_summary : (t : Totals) (ms : List Message) → IsStill (plan_summary t) ms
unfolding state_of unbegun_at
still_plan_summary t ms = record { state = λ b. refl; unbegun = λ b. refl }

pub still_summary : (t : Totals) (ms : List Message) → IsStill (summary t) ms
unfolding state_of unbegun_at
still_summary t ms = record { state = λ b. refl; unbegun = λ b. refl }

pub still_error : (ms : List Message) → IsStill (diagnostic true None) ms
unfolding state_of unbegun_at
still_error ms = record { state = λ b. refl; unbegun = λ b. refl }

either_way : (b : Bool) (s : AddressState) → cond b s s ≡ s
either_way true s = refl
either_way false s = refl

warning_state : (o : Option (List ℕ)) (ms : List Message) (b : List ℕ) → state_of b (diagnostic false o ∷ ms) ≡ state_of b ms
unfolding state_of
warning_state None ms b = refl
warning_state (Some a) ms b = either_way (bytes_eq a b) (state_of b ms)

pub still_warning : (o : Option (List ℕ)) (ms : List Message) → IsStill (diagnostic false o) ms
still_warning o ms = record { state = warning_state o ms; unbegun = diagnostic_waits false o ms }

pub still_outputs : (ms : List Message) → IsStill outputs ms
unfolding state_of unbegun_at
still_outputs ms = record { state = λ b. refl; unbegun = λ b. refl }

pub still_other : (ms : List Message) → IsStill other ms
unfolding state_of unbegun_at
still_other ms = record { state = λ b. refl; unbegun = λ b. refl }

pub still_foreign : (ms : List Message) → IsStill foreign ms
unfolding state_of unbegun_at
still_foreign ms = record { state = λ b. refl; unbegun = λ b. refl }

pub still_version : (ms : List Message) → IsStill version ms
unfolding state_of unbegun_at
still_version ms = record { state = λ b. refl; unbegun = λ b. refl }

-- ---- as the checker finds it

-- the number of the line that comes next
pub with_one : (n : ℕ) → n < 2 ^ 32 → Fits w64 (n + 1)
with_one n few = omega arith

-- the line of the version, and of the summary
pub version_line : (checker : Checker) (ms : List Message) (o : Option ℕ) → HasRead checker ms → o ≡ checker.tally.version → line_of is_version ms ≡ o
version_line checker ms o read is = sym (is ∙ ap (λ (t : Tally). t.version) read.tally)

pub summary_line : (checker : Checker) (ms : List Message) (o : Option ℕ) → HasRead checker ms → o ≡ checker.tally.summary → line_of is_summary ms ≡ o
summary_line checker ms o read is = sym (is ∙ ap (λ (t : Tally). t.summary) read.tally)

-- there is no such line
none_there : (o : Option ℕ) → ((line : ℕ) → o ≡ Some line → ⊥) → o ≡ None
none_there None not = refl
none_there (Some line) not = absurd (not line refl)

pub no_summary : (checker : Checker) (ms : List Message) → HasRead checker ms → ((line : ℕ) → checker.tally.summary ≡ Some line → ⊥) → line_of is_summary ms ≡ None
no_summary checker ms read not = summary_line checker ms None read (sym (none_there checker.tally.summary not))

pub no_plan_summary : (checker : Checker) (ms : List Message) → HasRead checker ms → ((line : ℕ) → checker.tally.plan_summary ≡ Some line → ⊥) → line_of is_plan_summary ms ≡ None
no_plan_summary checker ms read not = ap (λ (t : Tally). t.plan_summary) (sym read.tally) ∙ none_there checker.tally.plan_summary not

pub no_version : (checker : Checker) (ms : List Message) → HasRead checker ms → ((line : ℕ) → checker.tally.version ≡ Some line → ⊥) → line_of is_version ms ≡ None
no_version checker ms read not = version_line checker ms None read (sym (none_there checker.tally.version not))

-- before the version
pub next_first : (ms : List Message) (m : Message) → line_of is_version ms ≡ None → next ms m ≡ as_first ms m
next_first ms m is = rw is refl

-- after the version
pub next_after : (ms : List Message) (m : Message) (first : ℕ) → line_of is_version ms ≡ Some first → next ms m ≡ after_version ms first m
next_after ms m first is = rw is refl

-- the answer to a message is that to a first one, or to one after the version
pub continues_first : (old new : Checker) (m : Message) (r : Result (Unit {0}) Fault) → old.tally.version ≡ None → Continues old new (λ ms. as_first ms m) r → Continues old new (λ ms. next ms m) r
continues_first old new m (Ok done) is goes = λ ms read.
    let on = goes ms read in (on.0, next_first ms m (version_line old ms None read (sym is)) ∙ on.1, on.2)
continues_first old new m (Err fault) is goes = λ ms read.
    let on = goes ms read in (on.0, λ memory. next_first ms m (version_line old ms None read (sym is)) ∙ on.1 memory)

pub continues_after : (old new : Checker) (m : Message) (first : ℕ) (more : List Message → Result (List Message) Fault) (r : Result (Unit {0}) Fault) → old.tally.version ≡ Some first
    → ((ms : List Message) → after_version ms first m ≡ more ms) → Continues old new more r → Continues old new (λ ms. next ms m) r
continues_after old new m first more (Ok done) is same goes = λ ms read.
    let on = goes ms read in (on.0, next_after ms m first (version_line old ms (Some first) read (sym is)) ∙ same ms ∙ on.1, on.2)
continues_after old new m first more (Err fault) is same goes = λ ms read.
    let on = goes ms read in (on.0, λ memory. next_after ms m first (version_line old ms (Some first) read (sym is)) ∙ same ms ∙ on.1 memory)

-- no such message follows a summary
pub after_summary : (checker : Checker) (ms : List Message) (line : ℕ) (answer : Result (List Message) Fault) → HasRead checker ms → checker.tally.summary ≡ Some line
    → HasRead checker ms × (AfterSummary line ≢ Memory → before_summary ms answer ≡ Err (AfterSummary line))
after_summary checker ms line answer read is = (read, λ memory. rw (summary_line checker ms (Some line) read (sym is)) refl)

-- the stored state of an address, as a checker looks it up
pub looked_up : (checker : Checker) (ms : List Message) (a : List ℕ) (s : AddressState) → HasRead checker ms → s ≡ unwrap_or (get_by_text checker.pending.states a) idle → s ≡ state_of a ms
looked_up checker ms a s read e = e ∙ ap (λ (o : Option AddressState). unwrap_or o idle) (read.state a) ∙ kept (state_of a ms)

pub line_count : (checker : Checker) (ms : List Message) → HasRead checker ms → checker.tally.lines ≡ length ms
line_count checker ms read = ap (λ (t : Tally). t.lines) read.tally

pub step_after : (checker : Checker) (ms : List Message) (a : List ℕ) (k : Action) (stage : TimedStage) (s : AddressState) (r : Result AddressState Fault) → HasRead checker ms
    → s ≡ unwrap_or (get_by_text checker.pending.states a) idle → r ≡ step_on k stage (checker.tally.lines + 1) s → step_on k stage (length ms + 1) (state_of a ms) ≡ r
step_after checker ms a k stage s r read found is =
    sym (is ∙ ap (λ (n : ℕ). step_on k stage (n + 1) s) (line_count checker ms read) ∙ ap (step_on k stage (length ms + 1)) (looked_up checker ms a s read found))

pub provision_after : (checker : Checker) (ms : List Message) (a : List ℕ) (stage : Stage) (s : AddressState) (r : Result AddressState Fault) → HasRead checker ms
    → s ≡ unwrap_or (get_by_text checker.pending.states a) idle → r ≡ provision_on stage (checker.tally.lines + 1) s → provision_on stage (length ms + 1) (state_of a ms) ≡ r
provision_after checker ms a stage s r read found is =
    sym (is ∙ ap (λ (n : ℕ). provision_on stage (n + 1) s) (line_count checker ms read) ∙ ap (provision_on stage (length ms + 1)) (looked_up checker ms a s read found))
