-- Two streams that are alike, but for messages that a checker passes over in the second. What is
-- accepted after the first is accepted after the second.
use Rattle.std.proofs.Common.{◌≡◌, ℕ, ◌+◌, ◌-◌, ◌≤◌, List, [], ◌∷◌, length, Bool, true, false, cond, Option, Some, None, Result, Ok, Err, refl, sym, ap, ap₂, ◌∙◌, subst, ⊎_elim, ◌⊎◌, count_by, nat_lt, arith, bytes_eq}
use Rattle.std.specs.Prelude.{◌&&◌, ◌==◌}
use Rattle.std.specs.List.{list_any}
use Rattle.std.specs.Option.{option_map_or}
use Rattle.std.proofs.Math.Bool.{and-false}
use Rattle.std.proofs.lemmas.Bool.{cases_Bool}
use Rattle.std.proofs.lemmas.List.Sums.{sum_by-cons}
use Rattle.stream_check.specs.declared.messages.action.Action.{Action}
use Rattle.stream_check.specs.declared.messages.action.Action.TheVariants.{Create, Update, Delete, Read, Refresh}
use Rattle.stream_check.specs.declared.messages.intent.Intent.{Intent}
use Rattle.stream_check.specs.declared.messages.intent.Intent.TheVariants.{Nothing}
use Rattle.stream_message.specs.declared.stage.Stage.{Stage}
use Rattle.stream_check.specs.declared.messages.timed_stage.TimedStage.{TimedStage}
use Rattle.stream_check.specs.declared.messages.timed_stage.TimedStage.TheVariants.{Start, Progress, Complete, Errored}
use Rattle.stream_check.specs.declared.messages.totals.Totals.{Totals}
use Rattle.stream_check.specs.declared.rules.address_state.Failures.{Failures}
use Rattle.stream_check.specs.declared.rules.address_state.AddressState.{AddressState}
use Rattle.stream_check.specs.declared.rules.fault.Fault.{Fault}
use Rattle.stream_check.specs.declared.rules.fault.Fault.TheVariants.{AfterSummary, NoStep, NotPlanned, NoVersion}
use Rattle.stream_check.specs.declared.rules.pending.Pending.{Pending}
use Rattle.stream_check.specs.declared.rules.pending.Pending.TheVariants.{One, Several}
use Rattle.stream_check.specs.AddressState.{failures_cleared, may_fail, may_provision, one_failure_more, or_as_before, pending_at, provision_on, provisioned, state_after, state_of, step_on}
use Rattle.stream_check.specs.Counted.{is_used_up}
use Rattle.stream_check.specs.Course.{after, max_overlap}
use Rattle.stream_check.specs.Intents.{creates, deletes, intent_of, updates}
use Rattle.stream_check.specs.Limits.{max_lines}
use Rattle.stream_check.specs.Lines.{after_version, is_beyond_plan, next, within_plan}
use Rattle.stream_check.specs.Message.{Message, address_of, version, step, provision, planned, plan_summary, summary, diagnostic, outputs, other, foreign}
use Rattle.stream_check.specs.Results.{◌>>=◌}
use Rattle.stream_check.specs.Tally.{begins, begun_totals, failure_count, failures_left, is_begin, is_planned, is_step, is_summary, is_version, line_of, planned_totals, plans_create, plans_delete, plans_update, share_of}
use Rattle.stream_check.specs.Unbegun.{one_begun, one_planned, starts_create, unbegun_at}
use Rattle.stream_check.specs.Words.{same_action}
use Rattle.stream_check.proofs.Counting.{same_counts}
use Rattle.stream_check.proofs.WholeStream.{bind_ok, one_next}
use Rattle.laws_check.specs.Passing.{with_all}
use Rattle.laws_check.proofs.FormFailures.{count_most, provision_keeps}
use Rattle.laws_check.proofs.FormMatches.{AreAlike, before_end, behind_version, both_diagnostic, both_step, grown_by, stepped_by, was_stepped}
use Rattle.laws_check.proofs.FormPendings.{HasRoom, IsSame, held}
use Rattle.laws_check.proofs.FormProvisioners.{both_provision, was_provisioned}
use Rattle.laws_check.proofs.Moves.{by_address}
use Rattle.laws_check.proofs.Standings.{diagnostic_elsewhere, diagnostic_there, explained_keeps, failures_same, next_after, pending_other, pending_same, same_text, step_elsewhere, step_in, step_is, step_there}
use Rattle.laws_check.proofs.Turning.{followed_by}

abbrev fine : {A : Type 0} → A → Result A Fault
fine x = Ok x

-- ---- counts

pub one_less : (q : Message → Bool) (m : Message) (ms : List Message) → q m ≡ false → count_by q (m ∷ ms) ≡ count_by q ms
one_less q m ms fails =
    let all = sum_by-cons (λ x. cond (q x) 1 0) m ms in
    let here : cond {A = ℕ} (q m) 1 0 ≡ 0 = ap (λ (b : Bool). cond b 1 0) fails in
    omega arith

same_more : (q : Message → Bool) (m : Message) (ms ns : List Message) → count_by q ns ≡ count_by q ms → count_by q (m ∷ ns) ≡ count_by q (m ∷ ms)
same_more q m ms ns same =
    let one = sum_by-cons (λ x. cond (q x) 1 0) m ms in
    let others = sum_by-cons (λ x. cond (q x) 1 0) m ns in
    omega arith

-- ---- reads that stand open at an address have begun there

abbrev pub begins_at : (a : List ℕ) → Message → Bool
begins_at a m = begins Read m && option_map_or (λ b. bytes_eq b a) (address_of m) false

read_after : (a : List ℕ) (k : Action) (stage : TimedStage) (line : ℕ) (s t : AddressState) → step_on k stage line s ≡ Ok t → held t.read ≤ held s.read + cond (is_begin stage && same_action k Read) 1 0
read_after a k stage line s t e =
    let was = stepped_by k stage line s t e in
    let is : step_on k stage line s ≡ Ok (step_in k stage line was.pending s) = step_is k stage line was.pending s was.within was.is in
    let same : t ≡ step_in k stage line was.pending s = of_ok t (step_in k stage line was.pending s) (sym e ∙ is) in
    ⊎_elim
    (λ (yes : same_action k Read ≡ true).
    let reads : k ≡ Read = is_read k yes in
    let there : held t.read ≡ held was.pending = ap (λ (x : AddressState). held x.read) same ∙ ap held (ap (λ (m : Action). pending_at m (step_in k stage line was.pending s)) (sym reads) ∙ pending_same k stage line was.pending s) in
    let grown = grown_by stage line s.read was.pending (ap (λ (m : Action). of_after m) (sym reads) ∙ was.is) in
    let first : cond {A = ℕ} (is_begin stage && same_action k Read) 1 0 ≡ cond (is_begin stage) 1 0 = ap (λ (b : Bool). cond (is_begin stage && b) 1 0) yes ∙ ap (λ (b : Bool). cond b 1 0) (and_true (is_begin stage)) in
    omega arith)
    (λ (away : same_action k Read ≡ false).
    let there : held t.read ≡ held s.read = ap (λ (x : AddressState). held x.read) same ∙ ap held (pending_other k Read stage line was.pending s away) in
    omega arith)
    (cases_Bool (same_action k Read))
  where
    of_ok : (x y : AddressState) → (let r : Result AddressState Fault = Ok x in r) ≡ Ok y → x ≡ y
    of_ok x y f = cc

    and_true : (b : Bool) → (b && true) ≡ b
    and_true true = refl
    and_true false = refl

    of_after : Action → Result (Option Pending) Fault
    of_after m = after m stage line (pending_at m s)

    is_read : (l : Action) → same_action l Read ≡ true → l ≡ Read
    is_read Create f = absurd cc
    is_read Update f = absurd cc
    is_read Delete f = absurd cc
    is_read Read f = refl
    is_read Refresh f = absurd cc

provision_reads : (stage : Stage) (line : ℕ) (s t : AddressState) → provision_on stage line s ≡ Ok t → held t.read ≡ held s.read
provision_reads stage line s t e = of_test (may_provision s) e
  where
    of_running : (r : Result (Option ℕ) Fault) → (r >>= λ running. fine (record s { provisioner = running })) ≡ Ok t → held t.read ≡ held s.read
    of_running (Ok running) f = let same : t ≡ record s { provisioner = running } = cc in ap (λ (x : AddressState). held x.read) same
    of_running (Err fault) f = absurd cc

    of_test : (b : Bool) → cond b (provisioned stage line s.provisioner >>= λ running. fine (record s { provisioner = running })) (Err NoStep) ≡ Ok t → held t.read ≡ held s.read
    of_test true f = of_running (provisioned stage line s.provisioner) f
    of_test false f = absurd cc

few_more : (a : List ℕ) (line : ℕ) (m : Message) (s : AddressState) → held (state_after a line m s).read ≤ held s.read + cond (begins_at a m) 1 0
few_more a line version s = omega arith
few_more a line (step b k stage) s = of_test (bytes_eq b a)
  where
    and_here : (x : Bool) → (x && true) ≡ x
    and_here true = refl
    and_here false = refl

    of_answer : (r : Result AddressState Fault) → step_on k stage line s ≡ r → held (or_as_before s r).read ≤ held s.read + cond (is_begin stage && same_action k Read) 1 0
    of_answer (Ok t) e = read_after a k stage line s t e
    of_answer (Err fault) e = omega arith

    of_test : (t : Bool) → held (cond t (or_as_before s (step_on k stage line s)) s).read ≤ held s.read + cond ((is_begin stage && same_action k Read) && t) 1 0
    of_test true =
        let most = of_answer (step_on k stage line s) refl in
        let same : cond {A = ℕ} ((is_begin stage && same_action k Read) && true) 1 0 ≡ cond (is_begin stage && same_action k Read) 1 0 = ap (λ (b : Bool). cond b 1 0) (and_here (is_begin stage && same_action k Read)) in
        omega arith
    of_test false = omega arith
few_more a line (provision b stage) s = of_test (bytes_eq b a)
  where
    of_answer : (r : Result AddressState Fault) → provision_on stage line s ≡ r → held (or_as_before s r).read ≤ held s.read + 0
    of_answer (Ok t) e = let same : held t.read ≡ held s.read = provision_reads stage line s t e in omega arith
    of_answer (Err fault) e = omega arith

    of_test : (t : Bool) → held (cond t (or_as_before s (provision_on stage line s)) s).read ≤ held s.read + cond (false && t) 1 0
    of_test true = of_answer (provision_on stage line s) refl
    of_test false = omega arith
few_more a line (planned intent o) s = omega arith
few_more a line (plan_summary t) s = omega arith
few_more a line (summary t) s = omega arith
few_more a line (diagnostic e None) s = omega arith
few_more a line (diagnostic e (Some b)) s = of_test (bytes_eq b a)
  where
    of_test : (t : Bool) → held (cond t (failures_cleared e s) s).read ≤ held s.read + cond (false && t) 1 0
    of_test true = let same : held (failures_cleared e s).read ≡ held s.read = ap held (explained_keeps Read e s) in omega arith
    of_test false = omega arith
few_more a line outputs s = omega arith
few_more a line other s = omega arith
few_more a line foreign s = omega arith

pub few_held : (a : List ℕ) (ms : List Message) → held (state_of a ms).read ≤ count_by (begins_at a) ms
unfolding state_of
few_held a [] = omega arith
few_held a (m ∷ ms) =
    let before = few_held a ms in
    let now = few_more a (length ms + 1) m (state_of a ms) in
    let all = sum_by-cons (λ x. cond (begins_at a x) 1 0) m ms in
    omega arith

pub fewer_at : (a : List ℕ) (ms : List Message) → count_by (begins_at a) ms ≤ count_by (begins Read) ms
fewer_at a ms = count_most (begins_at a) (begins Read) (λ m. either (begins Read m) (option_map_or (λ b. bytes_eq b a) (address_of m) false)) ms
  where
    either : (x y : Bool) → cond {A = ℕ} (x && y) 1 0 ≤ cond x 1 0
    either true true = omega arith
    either true false = omega arith
    either false y = omega arith

-- ---- messages that are passed over

-- nothing of the rest of a stream depends on the message: it is of a refresh or of a read, it plans
-- nothing, or it is about a plan as a whole
abbrev pub IsPassed : Message → Type 0
IsPassed version = ⊥
IsPassed (step a k stage) = (k ≡ Read) ⊎ (k ≡ Refresh)
IsPassed (provision a stage) = ⊥
IsPassed (planned intent o) = intent ≡ Nothing
IsPassed (plan_summary t) = Unit {0}
IsPassed (summary t) = ⊥
IsPassed (diagnostic e o) = ⊥
IsPassed outputs = Unit {0}
IsPassed other = Unit {0}
IsPassed foreign = ⊥

-- the test passes none of these
abbrev pub Ignores : (Message → Bool) → Type 0
Ignores q = (m : Message) → IsPassed m → q m ≡ false

pub ignores_steps : (k : Action) (test : TimedStage → Bool) → same_action Read k ≡ false → same_action Refresh k ≡ false → Ignores (is_step k test)
ignores_steps k test r f version h = refl
ignores_steps k test r f (step a l stage) h =
    ⊎_elim
    (λ (is : l ≡ Read). ap (λ (x : Action). test stage && same_action x k) is ∙ ap (λ (b : Bool). test stage && b) r ∙ and-false (test stage))
    (λ (is : l ≡ Refresh). ap (λ (x : Action). test stage && same_action x k) is ∙ ap (λ (b : Bool). test stage && b) f ∙ and-false (test stage))
    h
ignores_steps k test r f (provision a stage) h = refl
ignores_steps k test r f (planned intent o) h = refl
ignores_steps k test r f (plan_summary t) h = refl
ignores_steps k test r f (summary t) h = refl
ignores_steps k test r f (diagnostic e o) h = refl
ignores_steps k test r f outputs h = refl
ignores_steps k test r f other h = refl
ignores_steps k test r f foreign h = refl

pub ignores_plans : (test : Intent → Bool) → test Nothing ≡ false → Ignores (λ m. test (intent_of m))
ignores_plans test none version h = none
ignores_plans test none (step a l stage) h = none
ignores_plans test none (provision a stage) h = none
ignores_plans test none (planned intent o) h = ap test h ∙ none
ignores_plans test none (plan_summary t) h = none
ignores_plans test none (summary t) h = none
ignores_plans test none (diagnostic e o) h = none
ignores_plans test none outputs h = none
ignores_plans test none other h = none
ignores_plans test none foreign h = none

-- ---- the relation

abbrev pub SameFailures : Option Failures → Option Failures → Type 0
SameFailures None None = Unit {0}
SameFailures None (Some g) = ⊥
SameFailures (Some f) None = ⊥
SameFailures (Some f) (Some g) = f.count ≡ g.count

-- the second has what the first has, and messages that are passed over
pub record IsBehind (s c : List Message) : Type 0 where
  pub alike : AreAlike s c
  pub failures : (a : List ℕ) → SameFailures (state_of a s).failures (state_of a c).failures
  pub left : failures_left c ≡ failures_left s
  pub waiting : (a : List ℕ) → IsSame (unbegun_at a s) (unbegun_at a c)
  pub counts : (q : Message → Bool) → Ignores q → count_by q c ≡ count_by q s
  pub foreseen : list_any is_planned c ≡ true → list_any is_planned s ≡ true

pub begun_same : (s c : List Message) → IsBehind s c → begun_totals c ≡ begun_totals s
begun_same s c b = same_counts (b.counts (begins Create) (ignores_steps Create is_begin refl refl)) (b.counts (begins Update) (ignores_steps Update is_begin refl refl)) (b.counts (begins Delete) (ignores_steps Delete is_begin refl refl))

pub planned_same : (s c : List Message) → IsBehind s c → planned_totals c ≡ planned_totals s
planned_same s c b = same_counts (b.counts plans_create (ignores_plans creates refl)) (b.counts plans_update (ignores_plans updates refl)) (b.counts plans_delete (ignores_plans deletes refl))

-- ---- a message that is passed over, in the second alone

reads_still : (m : Message) (s c : List Message) → IsBehind s c → ((a : List ℕ) → held (state_of a (m ∷ c)).read ≡ held (state_of a c).read) → (a : List ℕ) → held (state_of a (m ∷ c)).read ≤ count_by (begins Read) (m ∷ c)
reads_still m s c b same a =
    let before = b.alike.reads a in
    let is = same a in
    let all = sum_by-cons (λ x. cond (begins Read x) 1 0) m c in
    omega arith

pub more_other : (s c : List Message) → IsBehind s c → IsBehind s (other ∷ c)
unfolding state_of failures_left unbegun_at
more_other s c b = record {
  alike = record { begun = b.alike.begun; unsummed = b.alike.unsummed; state = b.alike.state; reads = reads_still other s c b (λ a. refl) };
  failures = b.failures;
  left = b.left;
  waiting = b.waiting;
  counts = λ q ignores. one_less q other c (ignores other tt) ∙ b.counts q ignores;
  foreseen = b.foreseen;
}

pub more_summary : (t : Totals) (s c : List Message) → IsBehind s c → IsBehind s (plan_summary t ∷ c)
unfolding state_of failures_left unbegun_at
more_summary t s c b = record {
  alike = record { begun = b.alike.begun; unsummed = b.alike.unsummed; state = b.alike.state; reads = reads_still (plan_summary t) s c b (λ a. refl) };
  failures = b.failures;
  left = b.left;
  waiting = b.waiting;
  counts = λ q ignores. one_less q (plan_summary t) c (ignores (plan_summary t) tt) ∙ b.counts q ignores;
  foreseen = b.foreseen;
}

pub more_outputs : (s c : List Message) → IsBehind s c → IsBehind s (outputs ∷ c)
unfolding state_of failures_left unbegun_at
more_outputs s c b = record {
  alike = record { begun = b.alike.begun; unsummed = b.alike.unsummed; state = b.alike.state; reads = reads_still outputs s c b (λ a. refl) };
  failures = b.failures;
  left = b.left;
  waiting = b.waiting;
  counts = λ q ignores. one_less q outputs c (ignores outputs tt) ∙ b.counts q ignores;
  foreseen = b.foreseen;
}

-- ---- a planned change, in both, or in the first alone if it plans nothing

waits_more : (line later : ℕ) (p q : Option Pending) → IsSame p q → IsSame (Some (one_planned line p)) (Some (one_planned later q))
waits_more line later None None h = refl
waits_more line later None (Some q) h = absurd h
waits_more line later (Some p) None h = absurd h
waits_more line later (Some (One b t l)) (Some (One c u m)) h = refl
waits_more line later (Some (One b t l)) (Some (Several c m)) h = absurd h
waits_more line later (Some (Several b n)) (Some (One c u l)) h = absurd h
waits_more line later (Some (Several b n)) (Some (Several c m)) h = ap (λ (x : ℕ). cond (nat_lt x max_lines) (x + 1) x) h

pub more_planned : (intent : Intent) (o : Option (List ℕ)) (s c : List Message) → IsBehind s c → (next c (planned intent o) ≡ Ok (planned intent o ∷ c)) × IsBehind (planned intent o ∷ s) (planned intent o ∷ c)
unfolding state_of failures_left unbegun_at
more_planned intent o s c b = (
  next_after c (planned intent o) b.alike.begun (λ first. ap (λ (n : Option ℕ). option_map_or (λ line. Err (AfterSummary line)) n (fine (planned intent o ∷ c))) b.alike.unsummed),
  record {
    alike = record { begun = b.alike.begun; unsummed = b.alike.unsummed; state = b.alike.state; reads = reads_still (planned intent o) s c b (λ a. refl) };
    failures = b.failures;
    left = b.left;
    waiting = at o;
    counts = λ q ignores. same_more q (planned intent o) s c (b.counts q ignores);
    foreseen = λ e. refl;
  },
)
  where
    either : (t : Bool) (a : List ℕ) → IsSame (cond t (Some (one_planned (length s + 1) (unbegun_at a s))) (unbegun_at a s)) (cond t (Some (one_planned (length c + 1) (unbegun_at a c))) (unbegun_at a c))
    either true a = waits_more (length s + 1) (length c + 1) (unbegun_at a s) (unbegun_at a c) (b.waiting a)
    either false a = b.waiting a

    at : (o : Option (List ℕ)) (a : List ℕ) → IsSame (unbegun_at a (planned intent o ∷ s)) (unbegun_at a (planned intent o ∷ c))
    at None a = b.waiting a
    at (Some x) a =
        subst (λ (t : Totals). IsSame (cond ((creates intent && (begun_totals s).added == 0) && bytes_eq x a) (Some (one_planned (length s + 1) (unbegun_at a s))) (unbegun_at a s)) (cond ((creates intent && t.added == 0) && bytes_eq x a) (Some (one_planned (length c + 1) (unbegun_at a c))) (unbegun_at a c)))
        (sym (begun_same s c b)) (either ((creates intent && (begun_totals s).added == 0) && bytes_eq x a) a)

pub planned_before : (o : Option (List ℕ)) (s c : List Message) → IsBehind s c → IsBehind (planned Nothing o ∷ s) c
unfolding state_of failures_left unbegun_at
planned_before o s c b = record {
  alike = record { begun = b.alike.begun; unsummed = b.alike.unsummed; state = b.alike.state; reads = b.alike.reads };
  failures = b.failures;
  left = b.left;
  waiting = at o;
  counts = λ q ignores. b.counts q ignores ∙ sym (one_less q (planned Nothing o) s (ignores (planned Nothing o) refl));
  foreseen = λ e. refl;
}
  where
    at : (o : Option (List ℕ)) (a : List ℕ) → IsSame (unbegun_at a (planned Nothing o ∷ s)) (unbegun_at a c)
    at None a = b.waiting a
    at (Some x) a = b.waiting a

-- ---- a step

one_begun_same : (p q : Option Pending) → IsSame p q → IsSame (one_begun p) (one_begun q)
one_begun_same None None h = tt
one_begun_same None (Some q) h = absurd h
one_begun_same (Some p) None h = absurd h
one_begun_same (Some (One b t l)) (Some (One c u m)) h = tt
one_begun_same (Some (One b t l)) (Some (Several c m)) h = absurd h
one_begun_same (Some (Several b n)) (Some (One c u l)) h = absurd h
one_begun_same (Some (Several b n)) (Some (Several c m)) h = subst (λ (x : ℕ). IsSame (one_begun (Some (Several b n))) (one_begun (Some (Several c x)))) h (either (nat_lt 1 n))
  where
    either : (t : Bool) → IsSame (cond t (Some (Several b (n - 1))) None) (cond t (Some (Several c (n - 1))) None)
    either true = refl
    either false = tt

-- a step that was accepted was planned
was_planned : (a : List ℕ) (k : Action) (stage : TimedStage) (ms later : List Message) → next ms (step a k stage) ≡ Ok later → is_beyond_plan k stage ms ≡ false
was_planned a k stage ms later e =
    let there = behind_version (line_of is_version ms) (λ first. after_version ms first (step a k stage)) NoVersion later e in
    let answer = before_end (line_of is_summary ms) (step_on k stage (length ms + 1) (state_of a ms) >>= λ state. within_plan k stage ms (fine (step a k stage ∷ ms))) later there.1 in
    let stood = bind_ok (step_on k stage (length ms + 1) (state_of a ms)) (λ state. within_plan k stage ms (fine (step a k stage ∷ ms))) later answer in
    of_test (is_beyond_plan k stage ms) stood.2
  where
    of_test : (b : Bool) → cond b (Err NotPlanned) (fine (step a k stage ∷ ms)) ≡ Ok later → b ≡ false
    of_test true f = absurd cc
    of_test false f = refl

fits_too : (k : Action) (stage : TimedStage) (s c : List Message) → IsBehind s c → is_beyond_plan k stage s ≡ false → is_beyond_plan k stage c ≡ false
fits_too k stage s c b fits =
    ⊎_elim
    (λ (yes : list_any is_planned c ≡ true).
    ap (λ (x : Bool). (is_begin stage && x) && is_used_up (share_of k (begun_totals c)) (share_of k (planned_totals c))) (yes ∙ sym (b.foreseen yes))
    ∙ ap₂ (λ (t u : Totals). (is_begin stage && list_any is_planned s) && is_used_up (share_of k t) (share_of k u)) (begun_same s c b) (planned_same s c b)
    ∙ fits)
    (λ (away : list_any is_planned c ≡ false).
    ap (λ (x : Bool). (is_begin stage && x) && is_used_up (share_of k (begun_totals c)) (share_of k (planned_totals c))) away ∙ none (is_begin stage))
    (cases_Bool (list_any is_planned c))
  where
    none : (x : Bool) → ((x && false) && is_used_up (share_of k (begun_totals c)) (share_of k (planned_totals c))) ≡ false
    none true = refl
    none false = refl

failures_more : (line later : ℕ) (f g : Option Failures) → SameFailures f g → SameFailures (Some (one_failure_more line f)) (Some (one_failure_more later g))
failures_more line later None None h = refl
failures_more line later None (Some g) h = absurd h
failures_more line later (Some f) None h = absurd h
failures_more line later (Some f) (Some g) h = counted f ∙ ap (λ (n : ℕ). cond (nat_lt n max_lines) (n + 1) n) h ∙ sym (counted g)
  where
    counted : (x : Failures) → (cond (nat_lt x.count max_lines) (record x { count = x.count + 1 }) x).count ≡ cond (nat_lt x.count max_lines) (x.count + 1) x.count
    counted x = either (nat_lt x.count max_lines)
      where
        either : (t : Bool) → (cond t (record x { count = x.count + 1 }) x).count ≡ cond t (x.count + 1) x.count
        either true = refl
        either false = refl

failures_both : (k : Action) (stage : TimedStage) (line later : ℕ) (p q : Option Pending) (s t : AddressState) → SameFailures s.failures t.failures → SameFailures (step_in k stage line p s).failures (step_in k stage later q t).failures
failures_both k Start line later p q s t h =
    subst (λ (f : Option Failures). SameFailures f (step_in k Start later q t).failures) (sym (failures_same k Start line p s tt)) (subst (SameFailures s.failures) (sym (failures_same k Start later q t tt)) h)
failures_both k (Progress n) line later p q s t h =
    subst (λ (f : Option Failures). SameFailures f (step_in k (Progress n) later q t).failures) (sym (failures_same k (Progress n) line p s tt)) (subst (SameFailures s.failures) (sym (failures_same k (Progress n) later q t tt)) h)
failures_both k (Complete n) line later p q s t h =
    subst (λ (f : Option Failures). SameFailures f (step_in k (Complete n) later q t).failures) (sym (failures_same k (Complete n) line p s tt)) (subst (SameFailures s.failures) (sym (failures_same k (Complete n) later q t tt)) h)
failures_both Create (Errored n) line later p q s t h = failures_more line later s.failures t.failures h
failures_both Update (Errored n) line later p q s t h = failures_more line later s.failures t.failures h
failures_both Delete (Errored n) line later p q s t h = failures_more line later s.failures t.failures h
failures_both Read (Errored n) line later p q s t h = h
failures_both Refresh (Errored n) line later p q s t h = h

left_both : (a : List ℕ) (k : Action) (stage : TimedStage) (s c : List Message) → failures_left c ≡ failures_left s → failures_left (step a k stage ∷ c) ≡ failures_left (step a k stage ∷ s)
unfolding failures_left
left_both a k Start s c same = same
left_both a k (Progress n) s c same = same
left_both a k (Complete n) s c same = same
left_both a k (Errored n) s c same = ap (λ (x : ℕ). cond (may_fail k) (x + 1) x) same

pub more_step : (a : List ℕ) (k : Action) (stage : TimedStage) (s c later : List Message) → IsBehind s c → next s (step a k stage) ≡ Ok later → HasRoom k stage (pending_at k (state_of a c))
    → (next c (step a k stage) ≡ Ok (step a k stage ∷ c)) × IsBehind (step a k stage ∷ s) (step a k stage ∷ c)
unfolding unbegun_at
more_step a k stage s c later b e room =
    let was = was_stepped a k stage s later e in
    let both = both_step a k stage s c b.alike was room (fits_too k stage s c b (was_planned a k stage s later e)) in
    let too = was_stepped a k stage c (step a k stage ∷ c) both.0 in (
      both.0,
      record {
        alike = both.1;
        failures = by_address (λ x. SameFailures (state_of x (step a k stage ∷ s)).failures (state_of x (step a k stage ∷ c)).failures) a
            (subst (λ (x : AddressState). SameFailures x.failures (state_of a (step a k stage ∷ c)).failures)
            (sym (step_there a k stage (step_in k stage (length s + 1) was.pending (state_of a s)) s (step_is k stage (length s + 1) was.pending (state_of a s) was.within was.is)))
            (subst (λ (x : AddressState). SameFailures (step_in k stage (length s + 1) was.pending (state_of a s)).failures x.failures)
            (sym (step_there a k stage (step_in k stage (length c + 1) too.pending (state_of a c)) c (step_is k stage (length c + 1) too.pending (state_of a c) too.within too.is)))
            (failures_both k stage (length s + 1) (length c + 1) was.pending too.pending (state_of a s) (state_of a c) (b.failures a))))
            (λ x away.
            subst (λ (y : AddressState). SameFailures y.failures (state_of x (step a k stage ∷ c)).failures) (sym (step_elsewhere a k stage s x away))
            (subst (λ (y : AddressState). SameFailures (state_of x s).failures y.failures) (sym (step_elsewhere a k stage c x away)) (b.failures x)));
        left = left_both a k stage s c b.left;
        waiting = waits_too;
        counts = λ q ignores. same_more q (step a k stage) s c (b.counts q ignores);
        foreseen = b.foreseen;
      },
    )
  where
    waits_too : (x : List ℕ) → IsSame (unbegun_at x (step a k stage ∷ s)) (unbegun_at x (step a k stage ∷ c))
    waits_too x = either (starts_create stage k && bytes_eq a x)
      where
        either : (t : Bool) → IsSame (cond t (one_begun (unbegun_at x s)) (unbegun_at x s)) (cond t (one_begun (unbegun_at x c)) (unbegun_at x c))
        either true = one_begun_same (unbegun_at x s) (unbegun_at x c) (b.waiting x)
        either false = b.waiting x

-- ---- a provisioner

pub more_provision : (a : List ℕ) (stage : Stage) (s c later : List Message) → IsBehind s c → next s (provision a stage) ≡ Ok later
    → (next c (provision a stage) ≡ Ok (provision a stage ∷ c)) × IsBehind (provision a stage ∷ s) (provision a stage ∷ c)
unfolding failures_left unbegun_at
more_provision a stage s c later b e =
    let both = both_provision a stage s c b.alike (was_provisioned a stage s later e) in (
      both.0,
      record {
        alike = both.1;
        failures = λ x.
            subst (λ (f : Option Failures). SameFailures f (state_of x (provision a stage ∷ c)).failures) (sym (provision_keeps a stage s x))
            (subst (SameFailures (state_of x s).failures) (sym (provision_keeps a stage c x)) (b.failures x));
        left = b.left;
        waiting = b.waiting;
        counts = λ q ignores. same_more q (provision a stage) s c (b.counts q ignores);
        foreseen = b.foreseen;
      },
    )

-- ---- a diagnostic

count_same : (f g : Option Failures) → SameFailures f g → failure_count f ≡ failure_count g
count_same None None h = refl
count_same None (Some g) h = absurd h
count_same (Some f) None h = absurd h
count_same (Some f) (Some g) h = h

cleared_both : (e : Bool) (s t : AddressState) → SameFailures s.failures t.failures → SameFailures (failures_cleared e s).failures (failures_cleared e t).failures
cleared_both true s t h = tt
cleared_both false s t h = h

pub more_diagnostic : (e : Bool) (o : Option (List ℕ)) (s c : List Message) → IsBehind s c → (next c (diagnostic e o) ≡ Ok (diagnostic e o ∷ c)) × IsBehind (diagnostic e o ∷ s) (diagnostic e o ∷ c)
unfolding state_of failures_left unbegun_at
more_diagnostic e None s c b = (
  next_after c (diagnostic e None) b.alike.begun (λ first. refl),
  record {
    alike = record { begun = b.alike.begun; unsummed = b.alike.unsummed; state = b.alike.state; reads = reads_still (diagnostic e None) s c b (λ a. refl) };
    failures = b.failures;
    left = left_none e;
    waiting = b.waiting;
    counts = λ q ignores. same_more q (diagnostic e None) s c (b.counts q ignores);
    foreseen = b.foreseen;
  },
)
  where
    left_none : (e : Bool) → failures_left (diagnostic e None ∷ c) ≡ failures_left (diagnostic e None ∷ s)
    left_none true = b.left
    left_none false = b.left
more_diagnostic e (Some a) s c b =
    let both = both_diagnostic a e (Some a) s c b.alike in (
      both.0,
      record {
        alike = both.1;
        failures = by_address (λ x. SameFailures (state_of x (diagnostic e (Some a) ∷ s)).failures (state_of x (diagnostic e (Some a) ∷ c)).failures) a
            (subst (λ (x : AddressState). SameFailures x.failures (state_of a (diagnostic e (Some a) ∷ c)).failures) (sym (diagnostic_there a e s))
            (subst (λ (x : AddressState). SameFailures (failures_cleared e (state_of a s)).failures x.failures) (sym (diagnostic_there a e c)) (cleared_both e (state_of a s) (state_of a c) (b.failures a))))
            (λ x away.
            subst (λ (y : AddressState). SameFailures y.failures (state_of x (diagnostic e (Some a) ∷ c)).failures) (sym (diagnostic_elsewhere a e s x away))
            (subst (λ (y : AddressState). SameFailures (state_of x s).failures y.failures) (sym (diagnostic_elsewhere a e c x away)) (b.failures x)));
        left = left_some e;
        waiting = b.waiting;
        counts = λ q ignores. same_more q (diagnostic e (Some a)) s c (b.counts q ignores);
        foreseen = b.foreseen;
      },
    )
  where
    left_some : (e : Bool) → failures_left (diagnostic e (Some a) ∷ c) ≡ failures_left (diagnostic e (Some a) ∷ s)
    left_some true = ap₂ (λ (n m : ℕ). n - m) b.left (sym (count_same (state_of a s).failures (state_of a c).failures (b.failures a)))
    left_some false = b.left

-- ---- messages one after another

-- the messages behind the planned changes, and these
abbrev pub IsCarried : Message → Type 0
IsCarried version = ⊥
IsCarried (step a k stage) = Unit {0}
IsCarried (provision a stage) = Unit {0}
IsCarried (planned intent o) = Unit {0}
IsCarried (plan_summary t) = ⊥
IsCarried (summary t) = ⊥
IsCarried (diagnostic e o) = Unit {0}
IsCarried outputs = ⊥
IsCarried other = ⊥
IsCarried foreign = ⊥

-- there is room for all reads of the messages
abbrev pub HasRooms : (c rest : List Message) → Type 0
HasRooms c rest = (a : List ℕ) → held (state_of a c).read + count_by (begins_at a) rest ≤ max_overlap

room_for : (a : List ℕ) (k : Action) (stage : TimedStage) (c rest : List Message) → HasRooms c (step a k stage ∷ rest) → HasRoom k stage (pending_at k (state_of a c))
room_for a Create stage c rest rooms = tt
room_for a Update stage c rest rooms = tt
room_for a Delete stage c rest rooms = tt
room_for a Refresh stage c rest rooms = tt
room_for a Read (Progress n) c rest rooms = tt
room_for a Read (Complete n) c rest rooms = tt
room_for a Read (Errored n) c rest rooms = tt
room_for a Read Start c rest rooms =
    let all = rooms a in
    let first = sum_by-cons (λ m. cond (begins_at a m) 1 0) (step a Read Start) rest in
    let one : cond {A = ℕ} (begins_at a (step a Read Start)) 1 0 ≡ 1 = ap (λ (b : Bool). cond b 1 0) (same_text a) in
    omega arith

rooms_later : (m : Message) (c rest : List Message) → HasRooms c (m ∷ rest) → HasRooms (m ∷ c) rest
unfolding state_of
rooms_later m c rest rooms a =
    let all = rooms a in
    let one = sum_by-cons (λ x. cond (begins_at a x) 1 0) m rest in
    let now = few_more a (length c + 1) m (state_of a c) in
    omega arith

one_more : (m : Message) (s c later rest : List Message) → IsBehind s c → next s m ≡ Ok later → IsCarried m → HasRooms c (m ∷ rest) → (next c m ≡ Ok (m ∷ c)) × IsBehind (m ∷ s) (m ∷ c)
one_more version s c later rest b e h rooms = absurd h
one_more (step a k stage) s c later rest b e h rooms = more_step a k stage s c later b e (room_for a k stage c rest rooms)
one_more (provision a stage) s c later rest b e h rooms = more_provision a stage s c later b e
one_more (planned intent o) s c later rest b e h rooms = more_planned intent o s c b
one_more (plan_summary t) s c later rest b e h rooms = absurd h
one_more (summary t) s c later rest b e h rooms = absurd h
one_more (diagnostic d o) s c later rest b e h rooms = more_diagnostic d o s c b
one_more outputs s c later rest b e h rooms = absurd h
one_more other s c later rest b e h rooms = absurd h
one_more foreign s c later rest b e h rooms = absurd h

abbrev pub AreCarried : List Message → Type 0
AreCarried [] = Unit {0}
AreCarried (m ∷ ms) = IsCarried m × AreCarried ms

-- what is accepted after the first messages is accepted after the second
pub all_carried : (xs s c later : List Message) → IsBehind s c → with_all s xs ≡ Ok later → AreCarried xs → HasRooms c xs → (with_all c xs ≡ Ok (followed_by c xs)) × IsBehind (followed_by s xs) (followed_by c xs)
all_carried [] s c later b e h rooms = (refl, b)
all_carried (x ∷ xs) s c later b e h rooms =
    let first = bind_ok (next s x) (λ now. with_all now xs) later e in
    let added : first.0 ≡ x ∷ s = sym (one_next s x first.0 first.1) in
    let here = one_more x s c first.0 xs b first.1 h.0 rooms in
    let rest = all_carried xs (x ∷ s) (x ∷ c) later here.1 (subst (λ (l : List Message). with_all l xs ≡ Ok later) added first.2) h.1 (rooms_later x c xs rooms) in
    (ap (λ (r : Result (List Message) Fault). r >>= λ now. with_all now xs) here.0 ∙ rest.0, rest.1)
