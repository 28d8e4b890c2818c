-- The counts of messages, after one more message.
use Rattle.std.proofs.Common.{◌≡◌, ℕ, ◌+◌, ◌-◌, List, [], ◌∷◌, length, Bool, true, false, cond, Option, Some, None, refl, sym, ap, ◌∙◌, arith}
use Rattle.std.specs.Prelude.{◌||◌, count_by, is_some}
use Rattle.std.specs.List.{list_any}
use Rattle.std.proofs.lemmas.List.Sums.{sum_by-cons}
use Rattle.stream_check.specs.declared.messages.action.Action.{Action}
use Rattle.stream_check.specs.declared.messages.action.Action.TheVariants.{Create, Update, Delete, Read, Refresh}
use Rattle.stream_check.specs.declared.messages.intent.Intent.{Intent}
use Rattle.stream_check.specs.declared.messages.intent.Intent.TheVariants as intent
use Rattle.stream_check.specs.declared.messages.intent.Intent.TheVariants.{Nothing}
use Rattle.stream_message.specs.declared.stage.Stage.{Stage}
use Rattle.stream_check.specs.declared.messages.timed_stage.TimedStage.{TimedStage}
use Rattle.stream_check.specs.declared.messages.timed_stage.TimedStage.TheVariants.{Start, Progress, Complete, Errored}
use Rattle.stream_check.specs.declared.messages.totals.Totals.{Totals}
use Rattle.stream_check.specs.declared.rules.tally.Tally.{Tally}
use Rattle.stream_check.specs.Counted.{begun_counted, counted, failures_counted, planned_counted}
use Rattle.stream_check.specs.Intents.{creates, deletes, intent_of, updates}
use Rattle.stream_check.specs.Message.{Message, version, step, provision, planned, plan_summary, summary, diagnostic, outputs, other, foreign}
use Rattle.stream_check.specs.AddressState.{state_of}
use Rattle.stream_check.specs.Tallied.{tally_of, with_error, with_error_at, with_foreign, with_line, with_outputs, with_plan_summary, with_planned, with_step, with_summary, with_version}
use Rattle.stream_check.specs.Tally.{begins, begun_totals, completed_totals, completes, failure_count, failures_left, is_error_without_address, is_foreign, line_of, planned_totals, plans_create, plans_delete, plans_update}

-- ---- totals

pub same_counts : {a b c a' b' c' : ℕ} → a ≡ a' → b ≡ b' → c ≡ c'
    → (let one : Totals = record { added = a; changed = b; removed = c } in one) ≡ (let other : Totals = record { added = a'; changed = b'; removed = c' } in other)
same_counts p q r = cc

one_on : (n : ℕ) → n + 1 ≡ 1 + n
one_on n = omega arith

none_on : (n : ℕ) → n ≡ 0 + n
none_on n = omega arith

-- one more, and none more, of those that pass
more : (p : Message → Bool) (m : Message) (ms : List Message) → p m ≡ true → count_by p ms + 1 ≡ count_by p (m ∷ ms)
more p m ms e =
    let one : cond (p m) 1 0 ≡ 1 = rw e refl in
    one_on (count_by p ms) ∙ ap (λ (n : ℕ). n + count_by p ms) (sym one) ∙ sym (sum_by-cons (λ x. cond (p x) 1 0) m ms)

same : (p : Message → Bool) (m : Message) (ms : List Message) → p m ≡ false → count_by p ms ≡ count_by p (m ∷ ms)
same p m ms e =
    let none : cond (p m) 1 0 ≡ 0 = rw e refl in
    none_on (count_by p ms) ∙ ap (λ (n : ℕ). n + count_by p ms) (sym none) ∙ sym (sum_by-cons (λ x. cond (p x) 1 0) m ms)

-- a message that reports no completion
pub uncounted : (m : Message) (ms : List Message) → completes Create m ≡ false → completes Update m ≡ false → completes Delete m ≡ false → completed_totals ms ≡ completed_totals (m ∷ ms)
uncounted m ms c u d = same_counts (same _ m ms c) (same _ m ms u) (same _ m ms d)

-- a message that reports no start
unbegun : (m : Message) (ms : List Message) → begins Create m ≡ false → begins Update m ≡ false → begins Delete m ≡ false → begun_totals ms ≡ begun_totals (m ∷ ms)
unbegun m ms c u d = same_counts (same _ m ms c) (same _ m ms u) (same _ m ms d)

counted_is : (a : List ℕ) (k : Action) (stage : TimedStage) (ms : List Message) → counted k stage (completed_totals ms) ≡ completed_totals (step a k stage ∷ ms)
counted_is a k Start ms = uncounted (step a k Start) ms refl refl refl
counted_is a k (Progress seconds) ms = uncounted (step a k (Progress seconds)) ms refl refl refl
counted_is a k (Errored seconds) ms = uncounted (step a k (Errored seconds)) ms refl refl refl
counted_is a Create (Complete seconds) ms = let m = step a Create (Complete seconds) in same_counts (more (completes Create) m ms refl) (same (completes Update) m ms refl) (same (completes Delete) m ms refl)
counted_is a Update (Complete seconds) ms = let m = step a Update (Complete seconds) in same_counts (same (completes Create) m ms refl) (more (completes Update) m ms refl) (same (completes Delete) m ms refl)
counted_is a Delete (Complete seconds) ms = let m = step a Delete (Complete seconds) in same_counts (same (completes Create) m ms refl) (same (completes Update) m ms refl) (more (completes Delete) m ms refl)
counted_is a Read (Complete seconds) ms = uncounted (step a Read (Complete seconds)) ms refl refl refl
counted_is a Refresh (Complete seconds) ms = uncounted (step a Refresh (Complete seconds)) ms refl refl refl

begun_is : (a : List ℕ) (k : Action) (stage : TimedStage) (ms : List Message) → begun_counted k stage (begun_totals ms) ≡ begun_totals (step a k stage ∷ ms)
begun_is a k (Progress seconds) ms = unbegun (step a k (Progress seconds)) ms refl refl refl
begun_is a k (Complete seconds) ms = unbegun (step a k (Complete seconds)) ms refl refl refl
begun_is a k (Errored seconds) ms = unbegun (step a k (Errored seconds)) ms refl refl refl
begun_is a Create Start ms = let m = step a Create Start in same_counts (more (begins Create) m ms refl) (same (begins Update) m ms refl) (same (begins Delete) m ms refl)
begun_is a Update Start ms = let m = step a Update Start in same_counts (same (begins Create) m ms refl) (more (begins Update) m ms refl) (same (begins Delete) m ms refl)
begun_is a Delete Start ms = let m = step a Delete Start in same_counts (same (begins Create) m ms refl) (same (begins Update) m ms refl) (more (begins Delete) m ms refl)
begun_is a Read Start ms = unbegun (step a Read Start) ms refl refl refl
begun_is a Refresh Start ms = unbegun (step a Refresh Start) ms refl refl refl

-- a message that plans nothing
unplanned : (m : Message) (ms : List Message) → intent_of m ≡ Nothing → planned_totals ms ≡ planned_totals (m ∷ ms)
unplanned m ms e = same_counts (same plans_create m ms (ap creates e)) (same plans_update m ms (ap updates e)) (same plans_delete m ms (ap deletes e))

foretold_is : (i : Intent) (o : Option (List ℕ)) (ms : List Message) → planned_counted i (planned_totals ms) ≡ planned_totals (planned i o ∷ ms)
foretold_is intent.Create o ms = let m = planned intent.Create o in same_counts (more plans_create m ms refl) (same plans_update m ms refl) (same plans_delete m ms refl)
foretold_is intent.Update o ms = let m = planned intent.Update o in same_counts (same plans_create m ms refl) (more plans_update m ms refl) (same plans_delete m ms refl)
foretold_is intent.Delete o ms = let m = planned intent.Delete o in same_counts (same plans_create m ms refl) (same plans_update m ms refl) (more plans_delete m ms refl)
foretold_is intent.Replace o ms = let m = planned intent.Replace o in same_counts (more plans_create m ms refl) (same plans_update m ms refl) (more plans_delete m ms refl)
foretold_is intent.Nothing o ms = unplanned (planned intent.Nothing o) ms refl

-- ---- failures

failures_after_step : (a : List ℕ) (k : Action) (stage : TimedStage) (ms : List Message) → failures_counted k stage (failures_left ms) ≡ failures_left (step a k stage ∷ ms)
unfolding failures_left
failures_after_step a k Start ms = refl
failures_after_step a k (Progress seconds) ms = refl
failures_after_step a k (Complete seconds) ms = refl
failures_after_step a k (Errored seconds) ms = refl

failures_after_error : (a : List ℕ) (ms : List Message) → (let n : ℕ = failures_left ms in n - failure_count (state_of a ms).failures) ≡ failures_left (diagnostic true (Some a) ∷ ms)
unfolding failures_left
failures_after_error a ms = refl

-- ---- all counts

same_tally : {a a' : ℕ} {b b' c c' d d' : Totals} {e e' : Bool} {f f' g g' h h' : Option ℕ} {i i' j j' : Bool} {k k' l l' n n' : ℕ}
    → a ≡ a' → b ≡ b' → c ≡ c' → d ≡ d' → e ≡ e' → f ≡ f' → g ≡ g' → h ≡ h' → i ≡ i' → j ≡ j' → k ≡ k' → l ≡ l' → n ≡ n'
    → (let one : Tally = record { lines = a; completed = b; begun = c; planned = d; has_plan = e; version = f; plan_summary = g; summary = h; awaits_outputs = i; has_failed = j; errors_without_address = k; failures = l; foreign = n } in one)
    ≡ (let other : Tally = record { lines = a'; completed = b'; begun = c'; planned = d'; has_plan = e'; version = f'; plan_summary = g'; summary = h'; awaits_outputs = i'; has_failed = j'; errors_without_address = k'; failures = l'; foreign = n' } in other)
same_tally p q r s t u v w x y z aa bb = cc

one_line : (m : Message) (ms : List Message) → length ms + 1 ≡ length (m ∷ ms)
one_line m ms = omega arith

pub step_tallied : (a : List ℕ) (k : Action) (stage : TimedStage) (ms : List Message) → with_step k stage (tally_of ms) ≡ tally_of (step a k stage ∷ ms)
step_tallied a k stage ms =
    let m = step a k stage in
    same_tally (one_line m ms) (counted_is a k stage ms) (begun_is a k stage ms) (unplanned m ms refl) refl refl refl refl refl refl
    (same is_error_without_address m ms refl) (failures_after_step a k stage ms) (same is_foreign m ms refl)

-- a message that changes no count but that of lines
abbrev pub IsPlain : Message → List Message → Type 0
IsPlain m ms = with_line (tally_of ms) ≡ tally_of (m ∷ ms)

pub provision_tallied : (a : List ℕ) (stage : Stage) (ms : List Message) → IsPlain (provision a stage) ms
unfolding failures_left
provision_tallied a stage ms =
    let m = provision a stage in
    same_tally (one_line m ms) (uncounted m ms refl refl refl) (unbegun m ms refl refl refl) (unplanned m ms refl) refl refl refl refl refl refl (same is_error_without_address m ms refl) refl (same is_foreign m ms refl)

pub other_tallied : (ms : List Message) → IsPlain other ms
unfolding failures_left
other_tallied ms =
    let m = other in
    same_tally (one_line m ms) (uncounted m ms refl refl refl) (unbegun m ms refl refl refl) (unplanned m ms refl) refl refl refl refl refl refl (same is_error_without_address m ms refl) refl (same is_foreign m ms refl)

pub warning_tallied : (o : Option (List ℕ)) (ms : List Message) → IsPlain (diagnostic false o) ms
unfolding failures_left
warning_tallied None ms =
    let m = diagnostic false None in
    same_tally (one_line m ms) (uncounted m ms refl refl refl) (unbegun m ms refl refl refl) (unplanned m ms refl) refl refl refl refl refl refl (same is_error_without_address m ms refl) refl (same is_foreign m ms refl)
warning_tallied (Some a) ms =
    let m = diagnostic false (Some a) in
    same_tally (one_line m ms) (uncounted m ms refl refl refl) (unbegun m ms refl refl refl) (unplanned m ms refl) refl refl refl refl refl refl (same is_error_without_address m ms refl) refl (same is_foreign m ms refl)

pub version_tallied : (ms : List Message) → with_version (tally_of ms) ≡ tally_of (version ∷ ms)
unfolding failures_left
version_tallied ms =
    let m = version in
    same_tally (one_line m ms) (uncounted m ms refl refl refl) (unbegun m ms refl refl refl) (unplanned m ms refl) refl refl refl refl refl refl (same is_error_without_address m ms refl) refl (same is_foreign m ms refl)

pub foreign_tallied : (ms : List Message) → with_foreign (tally_of ms) ≡ tally_of (foreign ∷ ms)
unfolding failures_left
foreign_tallied ms =
    let m = foreign in
    same_tally (one_line m ms) (uncounted m ms refl refl refl) (unbegun m ms refl refl refl) (unplanned m ms refl) refl refl refl refl refl refl (same is_error_without_address m ms refl) refl (more is_foreign m ms refl)

pub planned_tallied : (i : Intent) (o : Option (List ℕ)) (ms : List Message) → with_planned i (tally_of ms) ≡ tally_of (planned i o ∷ ms)
unfolding failures_left
planned_tallied i o ms =
    let m = planned i o in
    same_tally (one_line m ms) (uncounted m ms refl refl refl) (unbegun m ms refl refl refl) (foretold_is i o ms) refl refl refl refl refl refl (same is_error_without_address m ms refl) refl (same is_foreign m ms refl)

pub plan_summary_tallied : (t : Totals) (ms : List Message) → with_plan_summary (tally_of ms) ≡ tally_of (plan_summary t ∷ ms)
unfolding failures_left
plan_summary_tallied t ms =
    let m = plan_summary t in
    same_tally (one_line m ms) (uncounted m ms refl refl refl) (unbegun m ms refl refl refl) (unplanned m ms refl) refl refl refl refl refl refl (same is_error_without_address m ms refl) refl (same is_foreign m ms refl)

pub summary_tallied : (t : Totals) (ms : List Message) → with_summary (tally_of ms) ≡ tally_of (summary t ∷ ms)
unfolding failures_left
summary_tallied t ms =
    let m = summary t in
    same_tally (one_line m ms) (uncounted m ms refl refl refl) (unbegun m ms refl refl refl) (unplanned m ms refl) refl refl refl refl refl refl (same is_error_without_address m ms refl) refl (same is_foreign m ms refl)

pub outputs_tallied : (ms : List Message) → with_outputs (tally_of ms) ≡ tally_of (outputs ∷ ms)
unfolding failures_left
outputs_tallied ms =
    let m = outputs in
    same_tally (one_line m ms) (uncounted m ms refl refl refl) (unbegun m ms refl refl refl) (unplanned m ms refl) refl refl refl refl refl refl (same is_error_without_address m ms refl) refl (same is_foreign m ms refl)

pub error_tallied : (ms : List Message) → with_error (tally_of ms) ≡ tally_of (diagnostic true None ∷ ms)
unfolding failures_left
error_tallied ms =
    let m = diagnostic true None in
    same_tally (one_line m ms) (uncounted m ms refl refl refl) (unbegun m ms refl refl refl) (unplanned m ms refl) refl refl refl refl refl refl (more is_error_without_address m ms refl) refl (same is_foreign m ms refl)

pub error_at_tallied : (a : List ℕ) (ms : List Message) → with_error_at (failure_count (state_of a ms).failures) (tally_of ms) ≡ tally_of (diagnostic true (Some a) ∷ ms)
error_at_tallied a ms =
    let m = diagnostic true (Some a) in
    same_tally (one_line m ms) (uncounted m ms refl refl refl) (unbegun m ms refl refl refl) (unplanned m ms refl) refl refl refl refl refl refl (same is_error_without_address m ms refl) (failures_after_error a ms) (same is_foreign m ms refl)

-- ---- the line of a message

-- there is such a line where one passes
pub line_any : (p : Message → Bool) (ms : List Message) → is_some (line_of p ms) ≡ list_any p ms
line_any p [] = refl
line_any p (m ∷ ms) = grow (p m) (length ms + 1) (line_of p ms) (list_any p ms) (line_any p ms) where
  grow : (b : Bool) (n : ℕ) (o : Option ℕ) (c : Bool) → is_some o ≡ c → is_some (cond b (Some n) o) ≡ (b || c)
  grow true n o c e = refl
  grow false n o c e = e
