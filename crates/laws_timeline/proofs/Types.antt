-- What a message of each type states, as both read it.
use Rattle.std.proofs.Common.{◌≡◌, ℕ, List, codes, Bool, true, false, Option, Some, None, Ok, refl, sym, subst, ⊎_elim}
use Rattle.std.specs.Prelude.{◌||◌}
use Rattle.std.specs.Option.{option_map_or}
use Rattle.std.specs.Str.{bytes_eq}
use Rattle.std.proofs.lemmas.Bool.{cases_Bool}
use Rattle.serde_json.specs.Data.{Data}
use Rattle.stream_check.specs.declared.messages.action.Action.{Action}
use Rattle.stream_check.specs.declared.messages.action.Action.TheVariants.{Create, Update, Delete, Read, Refresh}
use Rattle.stream_message.specs.declared.stage.Stage.TheVariants as stage
use Rattle.stream_check.specs.Message as check
use Rattle.stream_check.specs.Words.{action_word}
use Rattle.stream_message.specs.Members.{address_of, hook_text}
use Rattle.stream_timeline.specs.Messages as view
use Rattle.laws_timeline.specs.Agreement as words
use Rattle.laws_timeline.specs.Agreement.{is_ephemeral}
use Rattle.laws_timeline.proofs.Looking.{same_ok}
use Rattle.laws_timeline.proofs.Matching.{Harmless, Matches, is_change, same_text, start_matches, complete_matches, errored_matches, progress_matches, refresh_begins, refresh_ends, provision_plain, planned_plain, summary_plain, diagnostic_plain, harmless_provisioner_begin, harmless_provisioner_end, harmless_diagnostic, harmless_summary}

-- ---- by the type

abbrev At : List ℕ → Type 0
At name = (d : Data) (m : check.Message) → check.typed_message name d ≡ Ok m → Matches m (view.content_of name d)

at_version : At (codes "version")
unfolding check.typed_message
at_version = λ d m e. subst (λ n. Matches n (view.content_of (codes "version") d)) (same_ok check.version m e) tt

at_start : At (codes "apply_start")
unfolding check.typed_message
at_start = λ d m e. start_matches d m e

at_progress : At (codes "apply_progress")
unfolding check.typed_message
at_progress = λ d m e. progress_matches d m e

at_complete : At (codes "apply_complete")
unfolding check.typed_message
at_complete = λ d m e. complete_matches d m e

at_errored : At (codes "apply_errored")
unfolding check.typed_message
at_errored = λ d m e. errored_matches d m e

at_refresh_start : At (codes "refresh_start")
unfolding check.typed_message
at_refresh_start = λ d m e. refresh_begins d m e

at_refresh_complete : At (codes "refresh_complete")
unfolding check.typed_message
at_refresh_complete = λ d m e. refresh_ends d m e

at_provision_start : At (codes "provision_start")
unfolding check.typed_message
at_provision_start = λ d m e. provision_plain stage.Start d m e (view.content_of (codes "provision_start") d) (harmless_provisioner_begin d)

at_provision_progress : At (codes "provision_progress")
unfolding check.typed_message
at_provision_progress = λ d m e. provision_plain stage.Progress d m e (view.content_of (codes "provision_progress") d) tt

at_provision_complete : At (codes "provision_complete")
unfolding check.typed_message
at_provision_complete = λ d m e. provision_plain stage.Complete d m e (view.content_of (codes "provision_complete") d) (harmless_provisioner_end false d)

at_provision_errored : At (codes "provision_errored")
unfolding check.typed_message
at_provision_errored = λ d m e. provision_plain stage.Errored d m e (view.content_of (codes "provision_errored") d) (harmless_provisioner_end true d)

at_planned : At (codes "planned_change")
unfolding check.typed_message
at_planned = λ d m e. planned_plain d m e (view.content_of (codes "planned_change") d) tt

at_summary : At (codes "change_summary")
unfolding check.typed_message
at_summary = λ d m e. summary_plain d m e (view.content_of (codes "change_summary") d) (harmless_summary d)

at_diagnostic : At (codes "diagnostic")
unfolding check.typed_message
at_diagnostic = λ d m e. diagnostic_plain d m e (view.content_of (codes "diagnostic") d) (harmless_diagnostic d)

at_outputs : At (codes "outputs")
unfolding check.typed_message
at_outputs = λ d m e. subst (λ n. Matches n (view.content_of (codes "outputs") d)) (same_ok check.outputs m e) tt

-- of another type, and not about an ephemeral operation
record IsOther (name : List ℕ) : Type 0 where
  version : bytes_eq name (codes "version") ≡ false
  start : bytes_eq name (codes "apply_start") ≡ false
  progress : bytes_eq name (codes "apply_progress") ≡ false
  complete : bytes_eq name (codes "apply_complete") ≡ false
  errored : bytes_eq name (codes "apply_errored") ≡ false
  refresh_start : bytes_eq name (codes "refresh_start") ≡ false
  refresh_complete : bytes_eq name (codes "refresh_complete") ≡ false
  provision_start : bytes_eq name (codes "provision_start") ≡ false
  provision_progress : bytes_eq name (codes "provision_progress") ≡ false
  provision_complete : bytes_eq name (codes "provision_complete") ≡ false
  provision_errored : bytes_eq name (codes "provision_errored") ≡ false
  planned : bytes_eq name (codes "planned_change") ≡ false
  summary : bytes_eq name (codes "change_summary") ≡ false
  diagnostic : bytes_eq name (codes "diagnostic") ≡ false
  outputs : bytes_eq name (codes "outputs") ≡ false

neither : (a b c : Bool) → (a || (b || c)) ≡ false → (a ≡ false) × (b ≡ false) × (c ≡ false)
neither true b c e = absurd cc
neither false true c e = absurd cc
neither false false true e = absurd cc
neither false false false e = (refl, refl, refl)

at_other : (name : List ℕ) → is_ephemeral name ≡ false → IsOther name → At name
unfolding check.typed_message
at_other name lasting h = λ d m e.
    let none = neither (bytes_eq name (codes "ephemeral_op_start")) (bytes_eq name (codes "ephemeral_op_complete")) (bytes_eq name (codes "ephemeral_op_errored")) lasting in
    let is = rw (h.version, h.start, h.progress, h.complete, h.errored, h.refresh_start, h.refresh_complete, h.provision_start, h.provision_progress, h.provision_complete, h.provision_errored, h.planned, h.summary, h.diagnostic, h.outputs) at e in
    let other : view.content_of name d ≡ view.other =
    rw (h.start, none.0, h.complete, none.1, h.errored, none.2, h.refresh_start, h.refresh_complete, h.provision_start, h.provision_complete, h.provision_errored, h.diagnostic, h.version, h.summary) refl in
    subst (λ n. Matches n (view.content_of name d)) (same_ok check.other m is) (subst Harmless (sym other) tt)

-- a type by itself, or another
split : (name word : List ℕ) → At word → (bytes_eq name word ≡ false → At name) → At name
split name word here other =
    ⊎_elim
    (λ (same : bytes_eq name word ≡ true). subst At (sym (same_text name word same)) here)
    (λ (apart : bytes_eq name word ≡ false). other apart)
    (cases_Bool (bytes_eq name word))

lasting_matched : (name : List ℕ) → is_ephemeral name ≡ false → At name
lasting_matched name lasting =
    split name (codes "version") at_version (λ a.
    split name (codes "apply_start") at_start (λ b.
    split name (codes "apply_progress") at_progress (λ c.
    split name (codes "apply_complete") at_complete (λ d.
    split name (codes "apply_errored") at_errored (λ e.
    split name (codes "refresh_start") at_refresh_start (λ f.
    split name (codes "refresh_complete") at_refresh_complete (λ g.
    split name (codes "provision_start") at_provision_start (λ h.
    split name (codes "provision_progress") at_provision_progress (λ i.
    split name (codes "provision_complete") at_provision_complete (λ j.
    split name (codes "provision_errored") at_provision_errored (λ k.
    split name (codes "planned_change") at_planned (λ l.
    split name (codes "change_summary") at_summary (λ m.
    split name (codes "diagnostic") at_diagnostic (λ n.
    split name (codes "outputs") at_outputs (λ o.
    at_other name lasting (record {
      version = a;
      start = b;
      progress = c;
      complete = d;
      errored = e;
      refresh_start = f;
      refresh_complete = g;
      provision_start = h;
      provision_progress = i;
      provision_complete = j;
      provision_errored = k;
      planned = l;
      summary = m;
      diagnostic = n;
      outputs = o;
    }))))))))))))))))

-- ---- ephemeral operations

no_change : (w : List ℕ) → words.is_change w ≡ false → (k : Action) → is_change k ≡ true → bytes_eq w (action_word k) ≡ false
no_change w e Create h = (neither _ (bytes_eq w (codes "update")) (bytes_eq w (codes "delete")) e).0
no_change w e Update h = (neither (bytes_eq w (codes "create")) _ (bytes_eq w (codes "delete")) e).1
no_change w e Delete h = (neither (bytes_eq w (codes "create")) (bytes_eq w (codes "update")) _ e).2
no_change w e Read h = absurd cc
no_change w e Refresh h = absurd cc

abbrev TellsNoChange : Data → Type 0
TellsNoChange d = option_map_or words.is_change (hook_text (codes "action") d) false ≡ false

harmless_begin : (d : Data) → TellsNoChange d → Harmless (view.begin_of d)
harmless_begin d e = each (address_of d) (hook_text (codes "action") d) e where
  each : (a w : Option (List ℕ)) → option_map_or words.is_change w false ≡ false → Harmless (option_map_or (λ address. option_map_or (λ action. view.begins address action) w view.unusable) a view.unusable)
  each None w f = tt
  each (Some a) None f = tt
  each (Some a) (Some w) f = no_change w f

harmless_end : (failed : Bool) (d : Data) → TellsNoChange d → Harmless (view.end_of failed d)
harmless_end failed d e = each (address_of d) (hook_text (codes "action") d) e where
  each : (a w : Option (List ℕ)) → option_map_or words.is_change w false ≡ false → Harmless (option_map_or (λ address. option_map_or (λ action. view.ends address action failed) w view.unusable) a view.unusable)
  each None w f = tt
  each (Some a) None f = tt
  each (Some a) (Some w) f = no_change w f

abbrev AtEphemeral : List ℕ → Type 0
AtEphemeral name = (d : Data) (m : check.Message) → TellsNoChange d → check.typed_message name d ≡ Ok m → Matches m (view.content_of name d)

at_ephemeral_start : AtEphemeral (codes "ephemeral_op_start")
unfolding check.typed_message
at_ephemeral_start = λ d m none e. subst (λ n. Matches n (view.content_of (codes "ephemeral_op_start") d)) (same_ok check.other m e) (harmless_begin d none)

at_ephemeral_complete : AtEphemeral (codes "ephemeral_op_complete")
unfolding check.typed_message
at_ephemeral_complete = λ d m none e. subst (λ n. Matches n (view.content_of (codes "ephemeral_op_complete") d)) (same_ok check.other m e) (harmless_end false d none)

at_ephemeral_errored : AtEphemeral (codes "ephemeral_op_errored")
unfolding check.typed_message
at_ephemeral_errored = λ d m none e. subst (λ n. Matches n (view.content_of (codes "ephemeral_op_errored") d)) (same_ok check.other m e) (harmless_end true d none)

ephemeral_by : (name : List ℕ) (a b c : Bool) → bytes_eq name (codes "ephemeral_op_start") ≡ a → bytes_eq name (codes "ephemeral_op_complete") ≡ b → bytes_eq name (codes "ephemeral_op_errored") ≡ c
    → (a || (b || c)) ≡ true → AtEphemeral name
ephemeral_by name true b c x y z e = subst AtEphemeral (sym (same_text name (codes "ephemeral_op_start") x)) at_ephemeral_start
ephemeral_by name false true c x y z e = subst AtEphemeral (sym (same_text name (codes "ephemeral_op_complete") y)) at_ephemeral_complete
ephemeral_by name false false true x y z e = subst AtEphemeral (sym (same_text name (codes "ephemeral_op_errored") z)) at_ephemeral_errored
ephemeral_by name false false false x y z e = absurd cc

pub matched : (name : List ℕ) (d : Data) (m : check.Message) → (is_ephemeral name ≡ true → TellsNoChange d) → check.typed_message name d ≡ Ok m → Matches m (view.content_of name d)
matched name d m lasting e =
    ⊎_elim
    (λ (yes : is_ephemeral name ≡ true).
    ephemeral_by name (bytes_eq name (codes "ephemeral_op_start")) (bytes_eq name (codes "ephemeral_op_complete")) (bytes_eq name (codes "ephemeral_op_errored")) refl refl refl yes d m (lasting yes) e)
    (λ (no : is_ephemeral name ≡ false). lasting_matched name no d m e)
    (cases_Bool (is_ephemeral name))
