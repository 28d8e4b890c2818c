-- Diagnostics complete nothing: hook messages alone decide what a summary counts.
use Rattle.std.proofs.Common.{◌≡◌, ℕ, Bool, true, false, ◌&&◌, cond, not, List, [], ◌∷◌, refl, sym, ap, ◌∙◌, ⊎_elim, arith, true≢false}
use Rattle.std.specs.Prelude.{count_by, slice_get}
use Rattle.std.specs.Option.{option_map_or}
use Rattle.std.proofs.lemmas.Bool.{cases_Bool}
use Rattle.std.proofs.lemmas.List.Sums.{sum_by-cons}
use Rattle.apply_model.specs.declared.plan.step_kind.StepKind.{StepKind}
use Rattle.apply_model.specs.Plan.SavedPlan.{SavedPlan}
use Rattle.apply_model.specs.Plan.StepKind.{is_kind}
use Rattle.apply_events.specs.declared.counts.Counts.{Counts}
use Rattle.apply_events.specs.declared.event.Event.{Event}
use Rattle.apply_events.specs.declared.what.What.{What}
use Rattle.apply_events.specs.declared.what.What.TheVariants.{Complete, Errored}
use Rattle.apply_events.specs.Diagnostics.{is_note}
use Rattle.apply_events.specs.Step.{kinds_of}
use Rattle.apply_events.specs.Totals.{completes, is_complete, is_errored}
use Rattle.apply_text.specs.declared.operation.Operation.{Operation}
use Rattle.apply_text.specs.declared.operation.Operation.TheVariants.{Apply, Destroy}
use Rattle.apply_text.specs.Message.{Message, summary_message}
use Rattle.apply_text.specs.Objects.{changes_object}
use Rattle.apply_text.specs.Order.{hook_messages_of}

pub counted : (p : Event → Bool) → ((e : Event) → is_note e.what ≡ true → p e ≡ false) → (es : List Event) → count_by p (hook_messages_of es) ≡ count_by p es
counted p none [] = refl
counted p none (e ∷ es) =
    let rest = counted p none es in
    let all = sum_by-cons (λ (f : Event). cond (p f) 1 0) e es in ⊎_elim
    (λ (yes : is_note e.what ≡ true).
    let dropped : hook_messages_of (e ∷ es) ≡ hook_messages_of es = ap (λ t. cond (not t) (e ∷ hook_messages_of es) (hook_messages_of es)) yes in
    let nothing : cond {A = ℕ} (p e) 1 0 ≡ 0 = ap (λ t. cond {A = ℕ} t 1 0) (none e yes) in
    ap (count_by p) dropped ∙ omega arith)
    (λ (no : is_note e.what ≡ false).
    let stays : hook_messages_of (e ∷ es) ≡ e ∷ hook_messages_of es = ap (λ t. cond (not t) (e ∷ hook_messages_of es) (hook_messages_of es)) no in
    let kept = sum_by-cons (λ (f : Event). cond (p f) 1 0) e (hook_messages_of es) in
    ap (count_by p) stays ∙ omega arith)
    (cases_Bool (is_note e.what))

no_end : (what : What) → is_note what ≡ true → is_complete what ≡ false
no_end (Complete n) is = absurd (true≢false (sym is))
no_end _ is = refl

no_failure : (what : What) → is_note what ≡ true → is_errored what ≡ false
no_failure (Errored n) is = absurd (true≢false (sym is))
no_failure _ is = refl

false_and : (a b : Bool) → a ≡ false → (a && b) ≡ false
false_and a b is = ap (λ t. t && b) is

pub counts_completed : (plan : SavedPlan) (kind : StepKind) (es : List Event) → count_by (completes plan kind) (hook_messages_of es) ≡ count_by (completes plan kind) es
counts_completed plan kind es = counted (completes plan kind) (λ e is. false_and (is_complete e.what) (option_map_or (is_kind kind) (slice_get (kinds_of plan e.change) e.step) false) (no_end e.what is)) es

pub counts_failed : (es : List Event) → count_by (λ e. is_errored e.what) (hook_messages_of es) ≡ count_by (λ e. is_errored e.what) es
counts_failed es = counted (λ e. is_errored e.what) (λ e is. no_failure e.what is) es

-- ---- the summary

abbrev message_with : Operation → (added changed removed : ℕ) → Message
message_with operation added changed removed = summary_message operation (record { added = added; changed = changed; removed = removed; failed = 0; halted = 0 })

is_with : (operation : Operation) (counts : Counts) → summary_message operation counts ≡ message_with operation counts.added counts.changed counts.removed
unfolding changes_object
is_with Apply counts = refl
is_with Destroy counts = refl

pub same_summary : (operation : Operation) (one other : Counts) → other.added ≡ one.added → other.changed ≡ one.changed → other.removed ≡ one.removed
    → summary_message operation other ≡ summary_message operation one
same_summary operation one other added changed removed =
    is_with operation other
    ∙ ap (λ n. message_with operation n other.changed other.removed) added
    ∙ ap (λ n. message_with operation one.added n other.removed) changed
    ∙ ap (λ n. message_with operation one.added one.changed n) removed
    ∙ sym (is_with operation one)
