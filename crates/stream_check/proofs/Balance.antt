-- Starts and ends of a step, and how many of them stand open.
use Rattle.std.proofs.Common.{◌≡◌, ◌≢◌, ◌<◌, ◌≤◌, ltb, ℕ, zero, suc, drop, ◌+◌, ◌-◌, List, [], ◌∷◌, length, Bool, true, false, cond, Option, Some, None, Result, Ok, Err, refl, sym, ap, ◌∙◌, ⊎_elim, arith, subst}
use Rattle.std.specs.Prelude.{◌&&◌, ◌||◌, count_by, is_some}
use Rattle.std.specs.Option.{option_map_or}
use Rattle.std.proofs.lemmas.Slice.Eq.{bytes_eq-Decides}
use Rattle.std.specs.Str.{bytes_eq}
use Rattle.std.proofs.lemmas.Bool.{cases_Bool, ltb-true, ltb-false}
use Rattle.std.proofs.lemmas.List.Sums.{sum_by-cons}
use Rattle.stream_check.specs.declared.messages.action.Action.{Action}
use Rattle.stream_check.specs.declared.messages.action.Action.TheVariants.{Create, Update, Delete, Read, Refresh}
use Rattle.stream_check.specs.declared.messages.timed_stage.TimedStage.{TimedStage}
use Rattle.stream_check.specs.declared.messages.timed_stage.TimedStage.TheVariants.{Start, Progress, Complete, Errored}
use Rattle.stream_check.specs.declared.rules.address_state.Failures.{Failures}
use Rattle.stream_check.specs.declared.rules.fault.Fault.{Fault}
use Rattle.stream_check.specs.declared.rules.fault.Fault.TheVariants.{StartsAgain, TooMany, NotLater, NoStep, LeavesProvisioner, AfterSummary}
use Rattle.stream_check.specs.declared.rules.pending.Pending.{Pending}
use Rattle.stream_check.specs.declared.rules.pending.Pending.TheVariants.{One, Several}
use Rattle.stream_check.specs.declared.rules.address_state.AddressState.{AddressState}
use Rattle.stream_check.specs.Course.{after, begun, ended, max_overlap, may_overlap, progressed}
use Rattle.stream_check.specs.Laws.{is_end, is_start, tells}
use Rattle.stream_check.specs.Lines.{as_first, after_version, next, within_plan}
use Rattle.stream_check.specs.Message.{Message, version, step, provision, planned, plan_summary, summary, diagnostic, outputs, other, foreign}
use Rattle.stream_check.specs.Open.{stands_open}
use Rattle.stream_check.specs.Results.{◌>>=◌}
use Rattle.stream_check.specs.AddressState.{failures_cleared, failed_by, may_fail, may_provision, one_failure_more, or_as_before, pending_at, provision_on, provisioned, state_of, step_on, unless_provisioner_left, with_pending}
use Rattle.stream_check.specs.Tally.{is_version, line_of}
use Rattle.stream_check.specs.Words.{same_action}
use Rattle.stream_check.proofs.Actions.{same_is}
use Rattle.stream_check.proofs.Pendings.{put_other, put_same}
use Rattle.stream_check.proofs.WholeStream.{bind_ok, past_line}

-- how many stand open
abbrev pub weight : Option Pending → ℕ
weight None = 0
weight (Some (One start_line last_seconds since)) = 1
weight (Some (Several start_line count)) = count

abbrev pub IsPositive : Option Pending → Type 0
IsPositive None = Unit {0}
IsPositive (Some (One start_line last_seconds since)) = Unit {0}
IsPositive (Some (Several start_line count)) = 1 ≤ count

abbrev fits : Option Pending → Result (Option Pending) Fault
fits p = Ok p

abbrev faulty : Fault → Result (Option Pending) Fault
faulty e = Err e

-- what is true of what stands open afterwards
abbrev Counts : (ends starts : ℕ) → (before : Option Pending) → Option Pending → Type 0
Counts ends starts before p = (weight p + ends ≡ weight before + starts) × IsPositive p

at_ok : (P : Option Pending → Type 0) (x p : Option Pending) → fits x ≡ fits p → P x → P p
at_ok P x p e h = let same : x ≡ p = cc in subst P same h

at_cond : (P : Option Pending → Type 0) (b : Bool) (x p : Option Pending) (d : Fault) → cond b (fits x) (faulty d) ≡ fits p → (b ≡ true → P x) → P p
at_cond P true x p d e h = at_ok P x p e (h refl)
at_cond P false x p d e h = absurd cc

at_cond_not : (P : Option Pending → Type 0) (b : Bool) (x p : Option Pending) (d : Fault) → cond b (faulty d) (fits x) ≡ fits p → P x → P p
at_cond_not P true x p d e h = absurd cc
at_cond_not P false x p d e h = at_ok P x p e h

at_either : (P : Option Pending → Type 0) (b : Bool) (x y p : Option Pending) → cond b (fits x) (fits y) ≡ fits p → (b ≡ true → P x) → (b ≡ false → P y) → P p
at_either P true x y p e h k = at_ok P x p e (h refl)
at_either P false x y p e h k = at_ok P y p e (k refl)

begun_counts : (k : Action) (line : ℕ) (o p : Option Pending) → IsPositive o → begun k line o ≡ Ok p → Counts 0 1 o p
begun_counts k line None p h e = at_ok (Counts 0 1 None) (Some (One line 0 line)) p e (omega arith, tt)
begun_counts k line (Some (One start_line last_seconds since)) p h e = at_cond (Counts 0 1 (Some (One start_line last_seconds since))) (may_overlap k) (Some (Several start_line 2)) p (StartsAgain start_line) e (λ _. (omega arith, omega arith))
begun_counts k line (Some (Several start_line count)) p h e = at_cond (Counts 0 1 (Some (Several start_line count))) (ltb count max_overlap) (Some (Several start_line (count + 1))) p (TooMany start_line) e (λ _. (omega arith, omega arith))

progress_counts : (seconds line : ℕ) (o p : Option Pending) → IsPositive o → progressed seconds line o ≡ Ok p → Counts 0 0 o p
progress_counts seconds line None p h e = absurd cc
progress_counts seconds line (Some (One start_line last_seconds since)) p h e = at_cond (Counts 0 0 (Some (One start_line last_seconds since))) (ltb last_seconds seconds) (Some (One start_line seconds line)) p (NotLater since) e (λ _. (omega arith, tt))
progress_counts seconds line (Some (Several start_line count)) p h e = at_ok (Counts 0 0 (Some (Several start_line count))) (Some (Several start_line count)) p e (omega arith, h)

ended_counts : (seconds : ℕ) (o p : Option Pending) → IsPositive o → ended seconds o ≡ Ok p → Counts 1 0 o p
ended_counts seconds None p h e = absurd cc
ended_counts seconds (Some (One start_line last_seconds since)) p h e = at_cond_not (Counts 1 0 (Some (One start_line last_seconds since))) (ltb seconds last_seconds) None p (NotLater since) e (omega arith, tt)
ended_counts seconds (Some (Several start_line count)) p h e =
    at_either (Counts 1 0 (Some (Several start_line count))) (ltb 1 count) (Some (Several start_line (count - 1))) None p e
    (λ yes. let more : 1 < count = ltb-true 1 count yes in (omega arith, omega arith))
    (λ no. let last : count ≤ 1 = ltb-false 1 count no in (omega arith, tt))

-- 1 where it is so
abbrev pub one_if : Bool → ℕ
one_if b = cond b 1 0

after_counts : (k : Action) (stage : TimedStage) (line : ℕ) (o p : Option Pending) → IsPositive o → after k stage line o ≡ Ok p → Counts (one_if (is_end stage)) (one_if (is_start stage)) o p
after_counts k Start line o p h e = begun_counts k line o p h e
after_counts k (Progress seconds) line o p h e = progress_counts seconds line o p h e
after_counts k (Complete seconds) line o p h e = ended_counts seconds o p h e
after_counts k (Errored seconds) line o p h e = ended_counts seconds o p h e

-- ---- a message about a step

abbrev done : {A : Type 0} → A → Result A Fault
done x = Ok x

step_bind : (r : Result (Option Pending) Fault) (f : Option Pending → Result AddressState Fault) (s : AddressState) → (r >>= f) ≡ Ok s → (p : Option Pending) × (r ≡ Ok p) × (f p ≡ Ok s)
step_bind (Ok x) f s e = (x, refl, e)
step_bind (Err d) f s e = absurd cc

left_is : (o : Option ℕ) (t s : AddressState) → unless_provisioner_left o t ≡ Ok s → t ≡ s
left_is None t s e = cc
left_is (Some start_line) t s e = left_cond (may_provision t) (LeavesProvisioner start_line) t s e where
  left_cond : (b : Bool) (d : Fault) (t s : AddressState) → cond b (done t) (Err d) ≡ Ok s → t ≡ s
  left_cond true d t s e = cc
  left_cond false d t s e = absurd cc

-- what is changed of failures alone
failures_same : (k : Action) (s : AddressState) (o : Option Failures) → pending_at k (record s { failures = o }) ≡ pending_at k s
failures_same Create s o = refl
failures_same Update s o = refl
failures_same Delete s o = refl
failures_same Read s o = refl
failures_same Refresh s o = refl

one_of_two : (k : Action) (b : Bool) (s t : AddressState) → pending_at k t ≡ pending_at k s → pending_at k (cond b t s) ≡ pending_at k s
one_of_two k true s t e = e
one_of_two k false s t e = refl

failed_same : (k l : Action) (stage : TimedStage) (line : ℕ) (s : AddressState) → pending_at k (failed_by l stage line s) ≡ pending_at k s
failed_same k l Start line s = refl
failed_same k l (Progress seconds) line s = refl
failed_same k l (Complete seconds) line s = refl
failed_same k l (Errored seconds) line s = one_of_two k (may_fail l) s (record s { failures = Some (one_failure_more line s.failures) }) (failures_same k s (Some (one_failure_more line s.failures)))

-- a step of the same kind
step_same : (k : Action) (stage : TimedStage) (line : ℕ) (s t : AddressState) → IsPositive (pending_at k s) → step_on k stage line s ≡ Ok t → Counts (one_if (is_end stage)) (one_if (is_start stage)) (pending_at k s) (pending_at k t)
step_same k stage line s t h e =
    let found = step_bind (after k stage line (pending_at k s)) (λ pending. unless_provisioner_left s.provisioner (failed_by k stage line (with_pending k pending s))) t e in
    let is = left_is s.provisioner (failed_by k stage line (with_pending k found.0 s)) t found.2 in
    let now : found.0 ≡ pending_at k t = sym (put_same k found.0 s) ∙ sym (failed_same k k stage line (with_pending k found.0 s)) ∙ ap (pending_at k) is in
    subst (Counts (one_if (is_end stage)) (one_if (is_start stage)) (pending_at k s)) now (after_counts k stage line (pending_at k s) found.0 h found.1)

-- one of another kind
step_other : (l k : Action) (stage : TimedStage) (line : ℕ) (s t : AddressState) → same_action l k ≡ false → step_on l stage line s ≡ Ok t → pending_at k s ≡ pending_at k t
step_other l k stage line s t apart e =
    let found = step_bind (after l stage line (pending_at l s)) (λ pending. unless_provisioner_left s.provisioner (failed_by l stage line (with_pending l pending s))) t e in
    let is = left_is s.provisioner (failed_by l stage line (with_pending l found.0 s)) t found.2 in
    sym (put_other l k found.0 s apart) ∙ sym (failed_same k l stage line (with_pending l found.0 s)) ∙ ap (pending_at k) is

-- ---- a message after others

-- what a message changes at an address, for one kind of action
abbrev pub Moves : List ℕ → Action → Message → (before now : AddressState) → Type 0
Moves a k m before now = Counts (one_if (tells is_end a k m)) (one_if (tells is_start a k m)) (pending_at k before) (pending_at k now)

unmoved : (a : List ℕ) (k : Action) (m : Message) (s t : AddressState) → IsPositive (pending_at k s) → tells is_end a k m ≡ false → tells is_start a k m ≡ false → pending_at k s ≡ pending_at k t → Moves a k m s t
unmoved a k m s t h no_end no_start same =
    subst (Counts (one_if (tells is_end a k m)) (one_if (tells is_start a k m)) (pending_at k s)) same
    (rw (no_end, no_start) (omega arith, h))

kept_by_provision : (k : Action) (s : AddressState) (r : Result (Option ℕ) Fault) → pending_at k (or_as_before s (r >>= λ running. done (record s { provisioner = running }))) ≡ pending_at k s
kept_by_provision k s (Err d) = refl
kept_by_provision Create s (Ok running) = refl
kept_by_provision Update s (Ok running) = refl
kept_by_provision Delete s (Ok running) = refl
kept_by_provision Read s (Ok running) = refl
kept_by_provision Refresh s (Ok running) = refl

kept_by_guard : (k : Action) (s : AddressState) (b : Bool) (r : Result AddressState Fault) → pending_at k (or_as_before s r) ≡ pending_at k s → pending_at k (or_as_before s (cond b r (Err NoStep))) ≡ pending_at k s
kept_by_guard k s true r e = e
kept_by_guard k s false r e = refl

kept_by_cond : (k : Action) (s t : AddressState) (b : Bool) → pending_at k t ≡ pending_at k s → pending_at k (cond b t s) ≡ pending_at k s
kept_by_cond k s t true e = e
kept_by_cond k s t false e = refl

kept_by_explained : (k : Action) (e : Bool) (s : AddressState) → pending_at k (failures_cleared e s) ≡ pending_at k s
kept_by_explained k e s = one_of_two k e s (record s { failures = None }) (failures_same k s None)

no_and : (b : Bool) → (false && b) ≡ false
no_and b = refl

-- a step at that address
at_address : (a : List ℕ) (k l : Action) (stage : TimedStage) (line : ℕ) (s t : AddressState) (text kind : Bool) → bytes_eq a a ≡ text → same_action l k ≡ kind → bytes_eq a a ≡ true → IsPositive (pending_at k s) → step_on l stage line s ≡ Ok t
    → Moves a k (step a l stage) s t
at_address a k l stage line s t text true e f here h is =
    let same : l ≡ k = same_is l k f in
    let goal_is : step_on k stage line s ≡ Ok t = subst (λ (x : Action). step_on x stage line s ≡ Ok t) same is in
    rw (here, f) (step_same k stage line s t h goal_is)
at_address a k l stage line s t text false e f here h is =
    unmoved a k (step a l stage) s t h (rw (here, f) refl) (rw (here, f) refl) (step_other l k stage line s t f is)

same_text : (a : List ℕ) → bytes_eq a a ≡ true
same_text a = (bytes_eq-Decides a a).1 refl

moved_step : (a : List ℕ) (k : Action) (b : List ℕ) (l : Action) (stage : TimedStage) (line : ℕ) (s t : AddressState) → IsPositive (pending_at k s) → (bytes_eq b a ≡ true → step_on l stage line s ≡ Ok t)
    → Moves a k (step b l stage) s (cond (bytes_eq b a) t s)
moved_step a k b l stage line s t h is =
    ⊎_elim
    (λ (yes : bytes_eq b a ≡ true).
    let same : b ≡ a = (bytes_eq-Decides b a).0 yes in
    let here : Moves a k (step a l stage) s t = at_address a k l stage line s t _ _ refl refl (same_text a) h (is yes) in
    let put : cond (bytes_eq b a) t s ≡ t = rw yes refl in
    subst (λ (x : AddressState). Moves a k (step b l stage) s x) (sym put) (subst (λ (x : List ℕ). Moves a k (step x l stage) s t) (sym same) here))
    (λ (no : bytes_eq b a ≡ false).
    unmoved a k (step b l stage) s (cond (bytes_eq b a) t s) h (rw no refl) (rw no refl) (rw no refl))
    (cases_Bool (bytes_eq b a))

-- a step that fits after others
step_fitted : (b : List ℕ) (l : Action) (stage : TimedStage) (ms later : List Message) → next ms (step b l stage) ≡ Ok later → (s : AddressState) × (step_on l stage (length ms + 1) (state_of b ms) ≡ Ok s)
step_fitted b l stage ms later e = by_line (line_of is_version ms) e where
  by_line : (o : Option ℕ) → option_map_or (λ first. after_version ms first (step b l stage)) o (as_first ms (step b l stage)) ≡ Ok later → (s : AddressState) × (step_on l stage (length ms + 1) (state_of b ms) ≡ Ok s)
  by_line None f = absurd cc
  by_line (Some first) f =
      let found = bind_ok (step_on l stage (length ms + 1) (state_of b ms)) (λ state. within_plan l stage ms (done (step b l stage ∷ ms))) later (past_line AfterSummary _ _ later f).1 in
      (found.0, found.1)

pub moves : (a : List ℕ) (k : Action) (ms : List Message) (m : Message) (later : List Message) → next ms m ≡ Ok later → IsPositive (pending_at k (state_of a ms)) → Moves a k m (state_of a ms) (state_of a (m ∷ ms))
unfolding state_of
moves a k ms version later e h = (omega arith, h)
moves a k ms (step b l stage) later e h =
    let fit = step_fitted b l stage ms later e in
    let here : bytes_eq b a ≡ true → step_on l stage (length ms + 1) (state_of a ms) ≡ Ok fit.0 = λ yes. ap (λ (x : List ℕ). step_on l stage (length ms + 1) (state_of x ms)) (sym ((bytes_eq-Decides b a).0 yes)) ∙ fit.1 in
    let put : cond (bytes_eq b a) (or_as_before (state_of a ms) (step_on l stage (length ms + 1) (state_of a ms))) (state_of a ms) ≡ cond (bytes_eq b a) fit.0 (state_of a ms) = ⊎_elim
    (λ (yes : bytes_eq b a ≡ true). rw (yes, here yes) refl) (λ (no : bytes_eq b a ≡ false). rw no refl) (cases_Bool (bytes_eq b a)) in
    subst (λ (t : AddressState). Moves a k (step b l stage) (state_of a ms) t) (sym put) (moved_step a k b l stage (length ms + 1) (state_of a ms) fit.0 h here)
moves a k ms (provision b stage) later e h =
    unmoved a k (provision b stage) (state_of a ms) (state_of a (provision b stage ∷ ms)) h refl refl
    (sym (kept_by_cond k (state_of a ms) (or_as_before (state_of a ms) (provision_on stage (length ms + 1) (state_of a ms))) (bytes_eq b a)
    (kept_by_guard k (state_of a ms) (may_provision (state_of a ms)) (provisioned stage (length ms + 1) (state_of a ms).provisioner >>= λ running. done (record (state_of a ms) { provisioner = running }))
    (kept_by_provision k (state_of a ms) (provisioned stage (length ms + 1) (state_of a ms).provisioner)))))
moves a k ms (planned intent address) later e h = (omega arith, h)
moves a k ms (plan_summary totals) later e h = (omega arith, h)
moves a k ms (summary totals) later e h = (omega arith, h)
moves a k ms (diagnostic x None) later e h = (omega arith, h)
moves a k ms (diagnostic x (Some b)) later e h =
    unmoved a k (diagnostic x (Some b)) (state_of a ms) (state_of a (diagnostic x (Some b) ∷ ms)) h refl refl
    (sym (kept_by_cond k (state_of a ms) (failures_cleared x (state_of a ms)) (bytes_eq b a) (kept_by_explained k x (state_of a ms))))
moves a k ms outputs later e h = (omega arith, h)
moves a k ms other later e h = (omega arith, h)
moves a k ms foreign later e h = (omega arith, h)

-- ---- all messages

-- each message fits after the messages before it
abbrev pub Fit : List Message → Type 0
Fit [] = Unit {0}
Fit (m ∷ ms) = Fit ms × ((later : List Message) × (next ms m ≡ Ok later))

nothing_yet : (a : List ℕ) (k : Action) → (0 ≡ 0 + weight (pending_at k (state_of a []))) × IsPositive (pending_at k (state_of a []))
unfolding state_of
nothing_yet a Create = (refl, tt)
nothing_yet a Update = (refl, tt)
nothing_yet a Delete = (refl, tt)
nothing_yet a Read = (refl, tt)
nothing_yet a Refresh = (refl, tt)

added : (s s' e e' w w' x y : ℕ) → s' ≡ x + s → e' ≡ y + e → s ≡ e + w → w' + y ≡ w + x → s' ≡ e' + w'
added s s' e e' w w' x y p q r t = omega arith

pub balanced : (a : List ℕ) (k : Action) (ms : List Message) → Fit ms
    → (count_by (tells is_start a k) ms ≡ count_by (tells is_end a k) ms + weight (pending_at k (state_of a ms))) × IsPositive (pending_at k (state_of a ms))
balanced a k [] fit = nothing_yet a k
balanced a k (m ∷ ms) fit =
    let before = balanced a k ms fit.0 in
    let step_is = moves a k ms m fit.1.0 fit.1.1 before.1 in
    let starts = sum_by-cons (λ x. cond (tells is_start a k x) 1 0) m ms in
    let ends = sum_by-cons (λ x. cond (tells is_end a k x) 1 0) m ms in
    (added _ _ _ _ _ _ _ _ starts ends before.0 step_is.0, step_is.1)

or_false : (b c : Bool) → (b || c) ≡ false → (b ≡ false) × (c ≡ false)
or_false true c e = absurd cc
or_false false c e = (refl, e)

not_there : {T : Type 0} (o : Option T) → is_some o ≡ false → o ≡ None
not_there None e = refl
not_there (Some x) e = absurd cc

-- where nothing stands open, no create, update and delete does
pub nothing_pending : (r f : Bool) (k : Action) (s : AddressState) → k ≢ Read → k ≢ Refresh → stands_open r f s ≡ false → pending_at k s ≡ None
nothing_pending r f k s no_read no_refresh e =
    let p4 = or_false (((is_some s.create || is_some s.update) || is_some s.delete) || (r && is_some s.refresh)) (f && is_some s.failures) e in
    let p3 = or_false ((is_some s.create || is_some s.update) || is_some s.delete) (r && is_some s.refresh) p4.0 in
    let p2 = or_false (is_some s.create || is_some s.update) (is_some s.delete) p3.0 in
    let p1 = or_false (is_some s.create) (is_some s.update) p2.0 in
    each k (not_there s.create p1.0) (not_there s.update p1.1) (not_there s.delete p2.1) no_read no_refresh
  where
    each : (j : Action) → s.create ≡ None → s.update ≡ None → s.delete ≡ None → j ≢ Read → j ≢ Refresh → pending_at j s ≡ None
    each Create c u d not_read not_refresh = c
    each Update c u d not_read not_refresh = u
    each Delete c u d not_read not_refresh = d
    each Read c u d not_read not_refresh = absurd (not_read refl)
    each Refresh c u d not_read not_refresh = absurd (not_refresh refl)

-- where nothing stands open, each start has its end
pub ends_as_started : (r f : Bool) (a : List ℕ) (k : Action) → k ≢ Read → k ≢ Refresh → (ms : List Message) → Fit ms → stands_open r f (state_of a ms) ≡ false → count_by (tells is_start a k) ms ≡ count_by (tells is_end a k) ms
ends_as_started r f a k no_read no_refresh ms fit none =
    let nothing : weight (pending_at k (state_of a ms)) ≡ 0 = ap weight (nothing_pending r f k (state_of a ms) no_read no_refresh none) in
    let all = (balanced a k ms fit).0 in
    omega arith

fit_of : (n : ℕ) (ms : List Message) → Fit ms → Fit (drop n ms)
fit_of zero ms fit = fit
fit_of (suc n) [] fit = tt
fit_of (suc n) (m ∷ ms) fit = fit_of n ms fit.0

-- at each time
pub in_order : (n : ℕ) (a : List ℕ) (k : Action) (ms : List Message) → Fit ms → count_by (tells is_end a k) (drop n ms) ≤ count_by (tells is_start a k) (drop n ms)
in_order n a k ms fit = let all = (balanced a k (drop n ms) (fit_of n ms fit)).0 in omega arith
