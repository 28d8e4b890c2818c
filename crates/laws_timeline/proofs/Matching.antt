-- What a message states, as `check` and as `view` read it.
use Rattle.std.proofs.Common.{◌≡◌, ℕ, List, [], codes, Bool, true, false, cond, Option, Some, None, Ok, refl, sym, ap, ◌∙◌, subst}
use Rattle.std.specs.Prelude.{◌||◌, unwrap_or}
use Rattle.std.specs.Option.{option_map_or}
use Rattle.std.specs.Str.{bytes_eq}
use Rattle.std.proofs.lemmas.Slice.Eq.{bytes_eq-Decides}
use Rattle.serde_json.specs.Data.{Data}
use Rattle.apply_json.specs.Tree.{member_of}
use Rattle.stream_check.specs.declared.messages.action.Action.{Action}
use Rattle.stream_check.specs.declared.messages.action.Action.TheVariants.{Create, Update, Delete, Read, Refresh}
use Rattle.stream_message.specs.declared.stage.Stage.{Stage}
use Rattle.stream_check.specs.declared.messages.path.Path.TheVariants as path
use Rattle.stream_check.specs.declared.messages.timed_stage.TimedStage.{TimedStage}
use Rattle.stream_check.specs.declared.messages.timed_stage.TimedStage.TheVariants.{Start, Progress, Complete, Errored}
use Rattle.stream_check.specs.declared.messages.totals.Totals.{Totals}
use Rattle.stream_check.specs.Members.{count_at, object_at, text_at}
use Rattle.stream_check.specs.Message as check
use Rattle.stream_check.specs.Words.{action_named, action_word}
use Rattle.stream_message.specs.Members.{address_of, hook_text, resource_address, text_or_empty}
use Rattle.stream_timeline.specs.Messages as view
use Rattle.laws_timeline.proofs.Looking.{Subject, bind_ok, hook_address_located, same_ok, subject_located}

-- ---- words

abbrev pub is_change : Action → Bool
is_change Create = true
is_change Update = true
is_change Delete = true
is_change Read = false
is_change Refresh = false

pub same_text : (a b : List ℕ) → bytes_eq a b ≡ true → a ≡ b
same_text a b e = (bytes_eq-Decides a b).0 e

no_test : {T : Type 0} (b : Bool) (x : T) (r : Option T) → cond b (Some x) r ≡ None → (b ≡ false) × (r ≡ None)
no_test true x r e = absurd cc
no_test false x r e = (refl, e)

unknown : (w : List ℕ) → action_named w ≡ None → (k : Action) → is_change k ≡ true → bytes_eq w (action_word k) ≡ false
unknown w e k h =
    let a = no_test (bytes_eq w (codes "create")) Create _ e in
    let b = no_test (bytes_eq w (codes "update")) Update _ a.1 in
    let c = no_test (bytes_eq w (codes "delete")) Delete _ b.1 in
    by k h a.0 b.0 c.0
  where
    by : (k : Action) → is_change k ≡ true → bytes_eq w (codes "create") ≡ false → bytes_eq w (codes "update") ≡ false → bytes_eq w (codes "delete") ≡ false → bytes_eq w (action_word k) ≡ false
    by Create h a b c = a
    by Update h a b c = b
    by Delete h a b c = c
    by Read h a b c = absurd cc
    by Refresh h a b c = absurd cc

-- a chain of tests, each for one word
one_of : (b : Bool) (w word : List ℕ) (x : Action) (r : Option Action) (y : Action) → bytes_eq w word ≡ b → action_word x ≡ word → cond b (Some x) r ≡ Some y
    → (r ≡ Some y → w ≡ action_word y) → w ≡ action_word y
one_of true w word x r y is named e rest = same_text w word is ∙ (sym named ∙ ap action_word (let same : x ≡ y = cc in same))
one_of false w word x r y is named e rest = rest e

named : (w : List ℕ) (k : Action) → action_named w ≡ Some k → w ≡ action_word k
named w k e =
    one_of (bytes_eq w (codes "create")) w (codes "create") Create _ k refl refl e
    (λ f. one_of (bytes_eq w (codes "update")) w (codes "update") Update _ k refl refl f
    (λ g. one_of (bytes_eq w (codes "delete")) w (codes "delete") Delete _ k refl refl g
    (λ h. one_of (bytes_eq w (codes "read")) w (codes "read") Read None k refl refl h (λ none. absurd cc))))

-- ---- what is said of no create, update or delete

abbrev pub Harmless : view.Content → Type 0
Harmless (view.begins a w) = (k : Action) → is_change k ≡ true → bytes_eq w (action_word k) ≡ false
Harmless (view.ends a w failed) = (k : Action) → is_change k ≡ true → bytes_eq w (action_word k) ≡ false
Harmless (view.begins_provisioner a name) = Unit {0}
Harmless (view.ends_provisioner a failed) = Unit {0}
Harmless (view.error a d) = Unit {0}
Harmless (view.warning d) = Unit {0}
Harmless (view.version text) = Unit {0}
Harmless (view.plan_summary totals) = Unit {0}
Harmless (view.summary totals) = Unit {0}
Harmless view.other = Unit {0}
Harmless view.unusable = Unit {0}

abbrev StepMatches : List ℕ → Action → TimedStage → view.Content → Type 0
StepMatches a k Start content = content ≡ view.begins a (action_word k)
StepMatches a k (Progress seconds) content = content ≡ view.other
StepMatches a k (Complete seconds) content = content ≡ view.ends a (action_word k) false
StepMatches a k (Errored seconds) content = content ≡ view.ends a (action_word k) true

-- both read the same about steps
abbrev pub Matches : check.Message → view.Content → Type 0
Matches check.version content = Harmless content
Matches (check.step a k stage) content = StepMatches a k stage content
Matches (check.provision a stage) content = Harmless content
Matches (check.planned intent address) content = Harmless content
Matches (check.plan_summary totals) content = Harmless content
Matches (check.summary totals) content = Harmless content
Matches (check.diagnostic b a) content = Harmless content
Matches check.outputs content = Harmless content
Matches check.other content = Harmless content
Matches check.foreign content = Harmless content

-- ---- steps

begun_by : (a w : List ℕ) (o : Option Action) → action_named w ≡ o → Matches (option_map_or (λ k. check.step a k Start) o check.other) (view.begins a w)
begun_by a w None e = unknown w e
begun_by a w (Some k) e = ap (view.begins a) (named w k e)

completed_by : (seconds : ℕ) (a w : List ℕ) (o : Option Action) → action_named w ≡ o → Matches (option_map_or (λ k. check.step a k (Complete seconds)) o check.other) (view.ends a w false)
completed_by seconds a w None e = unknown w e
completed_by seconds a w (Some k) e = ap (λ v. view.ends a v false) (named w k e)

errored_by : (seconds : ℕ) (a w : List ℕ) (o : Option Action) → action_named w ≡ o → Matches (option_map_or (λ k. check.step a k (Errored seconds)) o check.other) (view.ends a w true)
errored_by seconds a w None e = unknown w e
errored_by seconds a w (Some k) e = ap (λ v. view.ends a v true) (named w k e)

goes_on_by : (seconds : ℕ) (a : List ℕ) (o : Option Action) → Matches (option_map_or (λ k. check.step a k (Progress seconds)) o check.other) view.other
goes_on_by seconds a None = tt
goes_on_by seconds a (Some k) = refl

begin_is : (d : Data) (s : List ℕ × List ℕ) → Subject d s → view.begin_of d ≡ view.begins s.0 s.1
begin_is d s h = rw (h.address, h.action) refl

end_is : (failed : Bool) (d : Data) (s : List ℕ × List ℕ) → Subject d s → view.end_of failed d ≡ view.ends s.0 s.1 failed
end_is failed d s h = rw (h.address, h.action) refl

pub start_matches : (d : Data) (m : check.Message) → check.start_of d ≡ Ok m → Matches m (view.begin_of d)
unfolding check.start_of
start_matches d m e =
    let b1 = bind_ok (object_at path.Address (codes "hook") path.Hook d) _ m e in
    let b2 = bind_ok (check.subject_of b1.0) _ m b1.2 in
    let s = b2.0 in
    let is = begin_is d s (subject_located d b1.0 s b1.1 b2.1) in
    subst (λ n. Matches n (view.begin_of d)) (same_ok (check.step_or_other s Start) m b2.2)
    (subst (λ content. Matches (check.step_or_other s Start) content) (sym is) (begun_by s.0 s.1 (action_named s.1) refl))

-- the subject and the seconds of what comes later
abbrev Timed : (ℕ → TimedStage) → Data → check.Message → Type 0
Timed stage d m = (s : List ℕ × List ℕ) × Subject d s × ((seconds : ℕ) × (check.step_or_other s (stage seconds) ≡ m))

timed : (stage : ℕ → TimedStage) (d : Data) (m : check.Message) → check.timed_of stage d ≡ Ok m → Timed stage d m
unfolding check.timed_of
timed stage d m e =
    let b1 = bind_ok (object_at path.Address (codes "hook") path.Hook d) _ m e in
    let b2 = bind_ok (check.subject_of b1.0) _ m b1.2 in
    let b3 = bind_ok (count_at path.Seconds (codes "elapsed_seconds") b1.0) _ m b2.2 in
    (b2.0, subject_located d b1.0 b2.0 b1.1 b2.1, (b3.0, same_ok (check.step_or_other b2.0 (stage b3.0)) m b3.2))

pub complete_matches : (d : Data) (m : check.Message) → check.timed_of Complete d ≡ Ok m → Matches m (view.end_of false d)
complete_matches d m e =
    let t = timed Complete d m e in
    subst (λ n. Matches n (view.end_of false d)) t.2.1
    (subst (λ content. Matches (check.step_or_other t.0 (Complete t.2.0)) content) (sym (end_is false d t.0 t.1)) (completed_by t.2.0 t.0.0 t.0.1 (action_named t.0.1) refl))

pub errored_matches : (d : Data) (m : check.Message) → check.timed_of Errored d ≡ Ok m → Matches m (view.end_of true d)
errored_matches d m e =
    let t = timed Errored d m e in
    subst (λ n. Matches n (view.end_of true d)) t.2.1
    (subst (λ content. Matches (check.step_or_other t.0 (Errored t.2.0)) content) (sym (end_is true d t.0 t.1)) (errored_by t.2.0 t.0.0 t.0.1 (action_named t.0.1) refl))

pub progress_matches : (d : Data) (m : check.Message) → check.timed_of Progress d ≡ Ok m → Matches m view.other
progress_matches d m e =
    let t = timed Progress d m e in
    subst (λ n. Matches n view.other) t.2.1 (goes_on_by t.2.0 t.0.0 (action_named t.0.1))

pub refresh_begins : (d : Data) (m : check.Message) → check.refresh_of Start d ≡ Ok m → Matches m (view.refresh_begin_of d)
unfolding check.refresh_of
refresh_begins d m e =
    let b = bind_ok (check.hook_address_of d) _ m e in
    let is : view.refresh_begin_of d ≡ view.begins b.0 (codes "refresh") = rw (hook_address_located d b.0 b.1) refl in
    subst (λ n. Matches n (view.refresh_begin_of d)) (same_ok (check.step b.0 Refresh Start) m b.2) is

pub refresh_ends : (d : Data) (m : check.Message) → check.refresh_of (Complete 0) d ≡ Ok m → Matches m (view.refresh_end_of d)
unfolding check.refresh_of
refresh_ends d m e =
    let b = bind_ok (check.hook_address_of d) _ m e in
    let is : view.refresh_end_of d ≡ view.ends b.0 (codes "refresh") false = rw (hook_address_located d b.0 b.1) refl in
    subst (λ n. Matches n (view.refresh_end_of d)) (same_ok (check.step b.0 Refresh (Complete 0)) m b.2) is

-- ---- what is about no step

abbrev pub IsPlain : check.Message → Type 0
IsPlain m = (content : view.Content) → Harmless content → Matches m content

pub provision_plain : (st : Stage) (d : Data) (m : check.Message) → check.provision_of st d ≡ Ok m → IsPlain m
unfolding check.provision_of
provision_plain st d m e =
    let b = bind_ok (check.hook_address_of d) _ m e in
    subst IsPlain (same_ok (check.provision b.0 st) m b.2) (λ content h. h)

pub planned_plain : (d : Data) (m : check.Message) → check.planned_of d ≡ Ok m → IsPlain m
unfolding check.planned_of
planned_plain d m e =
    let b1 = bind_ok (object_at path.ChangeAction (codes "change") path.Change d) _ m e in
    let b2 = bind_ok (text_at path.ChangeAction (codes "action") b1.0) _ m b1.2 in
    subst IsPlain (same_ok (check.planned (check.intent_named b2.0) (resource_address b1.0)) m b2.2) (λ content h. h)

named_plain : (a b : Bool) (t : Totals) → IsPlain (cond a (check.summary t) (cond b (check.plan_summary t) check.other))
named_plain true b t = λ content h. h
named_plain false true t = λ content h. h
named_plain false false t = λ content h. h

pub summary_plain : (d : Data) (m : check.Message) → check.summary_of d ≡ Ok m → IsPlain m
unfolding check.summary_of
summary_plain d m e =
    let b1 = bind_ok (object_at path.Operation (codes "changes") path.Changes d) _ m e in
    let b2 = bind_ok (text_at path.Operation (codes "operation") b1.0) _ m b1.2 in
    let b3 = bind_ok (check.totals_in b1.0) _ m b2.2 in
    subst IsPlain (same_ok (check.summary_named b2.0 b3.0) m b3.2)
    (named_plain (bytes_eq b2.0 (codes "apply") || bytes_eq b2.0 (codes "destroy")) (bytes_eq b2.0 (codes "plan")) b3.0)

pub diagnostic_plain : (d : Data) (m : check.Message) → check.diagnostic_of d ≡ Ok m → IsPlain m
unfolding check.diagnostic_of
diagnostic_plain d m e =
    let b1 = bind_ok (object_at path.Severity (codes "diagnostic") path.Diagnostic d) _ m e in
    let b2 = bind_ok (text_at path.Severity (codes "severity") b1.0) _ m b1.2 in
    subst IsPlain (same_ok _ m b2.2) (λ content h. h)

-- ---- what is said there

pub harmless_provisioner_begin : (d : Data) → Harmless (view.provisioner_begin_of d)
harmless_provisioner_begin d = each (address_of d) where
  each : (o : Option (List ℕ)) → Harmless (option_map_or (λ a. view.begins_provisioner a (unwrap_or (hook_text (codes "provisioner") d) [])) o view.unusable)
  each None = tt
  each (Some a) = tt

pub harmless_provisioner_end : (failed : Bool) (d : Data) → Harmless (view.provisioner_end_of failed d)
harmless_provisioner_end failed d = each (address_of d) where
  each : (o : Option (List ℕ)) → Harmless (option_map_or (λ a. view.ends_provisioner a failed) o view.unusable)
  each None = tt
  each (Some a) = tt

harmless_either : (a b : Bool) (x y z : view.Content) → Harmless x → Harmless y → Harmless z → Harmless (cond a x (cond b y z))
harmless_either true b x y z h i j = h
harmless_either false true x y z h i j = i
harmless_either false false x y z h i j = j

pub harmless_diagnostic : (d : Data) → Harmless (view.diagnostic_content d)
harmless_diagnostic d = each (member_of (codes "diagnostic") d) where
  each : (o : Option Data) → Harmless (option_map_or (λ members. view.diagnostic_with (text_or_empty (codes "severity") members) members) o view.unusable)
  each None = tt
  each (Some x) = harmless_either (bytes_eq (text_or_empty (codes "severity") x) (codes "error")) (bytes_eq (text_or_empty (codes "severity") x) (codes "warning")) _ _ view.unusable tt tt tt

harmless_one : (a : Bool) (x y : view.Content) → Harmless x → Harmless y → Harmless (cond a x y)
harmless_one true x y h i = h
harmless_one false x y h i = i

pub harmless_summary : (d : Data) → Harmless (view.summary_of d)
harmless_summary d = each (member_of (codes "changes") d) where
  each : (o : Option Data) → Harmless (option_map_or view.summary_in o (view.summary view.no_totals))
  each None = tt
  each (Some x) = harmless_one (bytes_eq (text_or_empty (codes "operation") x) (codes "plan")) (view.plan_summary (view.totals_in x)) _ tt tt
