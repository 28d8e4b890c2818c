-- What the messages of a list of events make of a stream.
use Rattle.std.proofs.Common.{◌≡◌, ℕ, ◌+◌, pos, List, [], ◌∷◌, ◌++◌, append-nil, append_assoc, cond, filter, flat_map, length, Bool, true, false, not, Option, Some, None, Result, Ok, Err, refl, sym, ap, ◌∙◌, subst, slice_get, arith}
use Rattle.std.specs.Prelude.{◌&&◌}
use Rattle.std.specs.List.{AllByRecursion, enumerate_from}
use Rattle.std.specs.Option.{option_map_or}
use Rattle.apply_model.specs.declared.details.note.Note.{Note}
use Rattle.apply_model.specs.declared.plan.step_kind.StepKind.{StepKind}
use Rattle.apply_model.specs.Plan.ResourceChange.{ResourceChange}
use Rattle.apply_model.specs.Plan.SavedPlan.{SavedPlan}
use Rattle.apply_events.specs.declared.event.Event as told
use Rattle.apply_events.specs.declared.what.What.{What}
use Rattle.apply_events.specs.declared.what.What.TheVariants.{Start, Progress, Complete, Errored, ErrorNote, WarnNote, Halted, ProvisionStart, ProvisionOutput, ProvisionComplete, ProvisionErrored}
use Rattle.apply_events.specs.Diagnostics.{is_note}
use Rattle.apply_text.specs.Order.{hook_messages_of, notes_of}
use Rattle.stream_record_lines.specs.declared.event.Event.{Event}
use Rattle.stream_record_lines.specs.declared.event.Event.TheVariants as event
use Rattle.stream_record_lines.specs.declared.outputs.output.Output as recorded
use Rattle.stream_record_lines.specs.declared.stated_message.StatedMessage.{StatedMessage}
use Rattle.stream_record_lines.specs.declared.summary.Summary.{Summary}
use Rattle.stream_record_steps.specs.Begun.{Begun}
use Rattle.stream_record_stream.specs.Reading.{is_of_another_plan, is_version}
use Rattle.stream_record_stream.specs.Streams.{StreamRead, after_message}
use Rattle.stream_record_stream.specs.declared.stream_fault.StreamFault.{StreamFault}
use Rattle.stream_record_stream.specs.declared.stream_fault.StreamFault.TheVariants.{NoMessage, NoStepOfPlan}
use Rattle.laws_lines.specs.Reading.{HasRead}
use Rattle.laws_lines.specs.Stated.{stated_at}
use Rattle.laws_begun.specs.Telling.{Telling, after_events, after_stated, line_of, stated_of}
use Rattle.laws_lines.proofs.Clock.{IsClock}
use Rattle.laws_lines.proofs.ReadMessages.{IsOfStep, IsReadTo, NoVersions, after_first, after_messages, after_none, of_note, of_step}

-- ---- events that are kept

pub all_pass : (t : told.Event → Bool) (es : List told.Event) → AllByRecursion (λ e. t e ≡ true) (filter t es)
all_pass t [] = tt
all_pass t (e ∷ es) = at (all_pass t es) (t e) refl
  where
    at : AllByRecursion (λ e. t e ≡ true) (filter t es) → (b : Bool) → t e ≡ b → AllByRecursion (λ e. t e ≡ true) (cond b (e ∷ filter t es) (filter t es))
    at rest true is = (is, rest)
    at rest false is = rest

not_true : (b : Bool) → not b ≡ true → b ≡ false
not_true true e = absurd cc
not_true false e = refl

pub all_weaker : (P Q : told.Event → Type 0) → ((e : told.Event) → P e → Q e) → (es : List told.Event) → AllByRecursion P es → AllByRecursion Q es
all_weaker P Q weaker [] all = tt
all_weaker P Q weaker (e ∷ es) all = (weaker e all.0, all_weaker P Q weaker es all.1)

pub hooks_are : (es : List told.Event) → AllByRecursion (λ (e : told.Event). is_note e.what ≡ false) (hook_messages_of es)
hooks_are es = all_weaker (λ e. not (is_note e.what) ≡ true) (λ e. is_note e.what ≡ false) (λ e is. not_true (is_note e.what) is) (hook_messages_of es) (all_pass (λ e. not (is_note e.what)) es)

pub notes_are : (es : List told.Event) → AllByRecursion (λ (e : told.Event). is_note e.what ≡ true) (notes_of es)
notes_are es = all_pass (λ e. is_note e.what) es

pub enumerated : {A : Type 0} (n : ℕ) (xs ys : List A) → enumerate_from n (xs ++ ys) ≡ enumerate_from n xs ++ enumerate_from (n + length xs) ys
enumerated {A} n [] ys = ap (λ k. enumerate_from k ys) (let same : n ≡ n + length (let none : List A = [] in none) = omega arith in same)
enumerated n (x ∷ xs) ys =
    let same : n + 1 + length xs ≡ n + length (x ∷ xs) = omega arith in
    ap (λ l. (n, x) ∷ l) (enumerated (n + 1) xs ys ∙ ap (λ k. enumerate_from (n + 1) xs ++ enumerate_from k ys) same)

-- ---- what a hook message states

line_of_step : (telling : Telling) (change : ResourceChange) (kind : StepKind) (c k : ℕ) (what : What) → IsOfStep (line_of telling change kind c k what)
line_of_step telling change kind c k Start = tt
line_of_step telling change kind c k (Progress s) = tt
line_of_step telling change kind c k (Complete s) = tt
line_of_step telling change kind c k (Errored s) = tt
line_of_step telling change kind c k ErrorNote = tt
line_of_step telling change kind c k WarnNote = tt
line_of_step telling change kind c k (Halted phase hook) = tt
line_of_step telling change kind c k (ProvisionStart i) = tt
line_of_step telling change kind c k (ProvisionOutput i line) = tt
line_of_step telling change kind c k (ProvisionComplete i) = tt
line_of_step telling change kind c k (ProvisionErrored i) = tt

pub stated_of_step : (telling : Telling) (e : told.Event) → IsOfStep (stated_of telling e)
stated_of_step telling e = of_change (slice_get telling.plan.changes e.change)
  where
    of_kind : (change : ResourceChange) (o : Option StepKind) → IsOfStep (option_map_or (λ kind. line_of telling change kind e.change e.step e.what) o event.Other)
    of_kind change None = tt
    of_kind change (Some kind) = line_of_step telling change kind e.change e.step e.what

    of_change : (o : Option ResourceChange) → IsOfStep (option_map_or (λ (change : ResourceChange). option_map_or (λ kind. line_of telling change kind e.change e.step e.what) (slice_get change.steps e.step) event.Other) o event.Other)
    of_change None = tt
    of_change (Some change) = of_kind change (slice_get change.steps e.step)

no_version : (e : Event) → IsOfStep e → is_version e ≡ false
no_version (event.Step step) is = refl
no_version (event.Provisioner provisioner) is = refl
no_version event.Other is = refl
no_version (event.Version ui) is = absurd is
no_version event.Ephemeral is = absurd is
no_version (event.Diagnostic note) is = absurd is
no_version (event.Summary summary) is = absurd is
no_version (event.Outputs outputs) is = absurd is
no_version event.Malformed is = absurd is

pub none_both : (xs ys : List StatedMessage) → NoVersions xs → NoVersions ys → NoVersions (xs ++ ys)
none_both [] ys all others = others
none_both (x ∷ xs) ys all others = (all.0, none_both xs ys all.1 others)

-- ---- the messages of events, of which each has one

module _ (plan : SavedPlan) (telling : Telling) (start : ℕ) (latest : ℕ → ℕ) (messages : (latest : ℕ) → told.Event → List StatedMessage) where
  abbrev numbered : (k : ℕ) → List told.Event → List StatedMessage
  numbered k es = flat_map (λ p. messages (latest (p.0 + 1)) p.1) (enumerate_from k es)

  -- hook messages state their events
  module _ (P : told.Event → Type 0) (one : (l : ℕ) (e : told.Event) → P e → is_note e.what ≡ false → messages l e ≡ stated_at (start + l) (stated_of telling e) ∷ []) where
    pub hooks_read : (n k : ℕ) (es : List told.Event) → AllByRecursion P es → AllByRecursion (λ (e : told.Event). is_note e.what ≡ false) es → IsClock latest k es
        → (s : StreamRead) (begun : Begun) (notes : List Note) (outputs : List recorded.Output) (summary : Option Summary) (form : Bool) → HasRead s begun notes outputs summary form
        → HasRead (after_messages plan n (numbered k es) s) (after_events telling (pos start) n es begun) notes outputs summary form
    hooks_read n k [] planned hooks clock s begun notes outputs summary form has = subst (λ (r : StreamRead). HasRead r begun notes outputs summary form) (sym (after_none plan n s)) has
    hooks_read n k (e ∷ es) planned hooks clock s begun notes outputs summary form has =
        let m = stated_at (start + latest (k + 1)) (stated_of telling e) in
        let first = of_step plan n (start + latest (k + 1)) s begun notes outputs summary form has (stated_of telling e) (stated_of_step telling e) in
        let timed = subst (λ t. HasRead (after_message plan n m s) (after_stated n (pos (start + t)) (stated_of telling e) begun) notes outputs summary form) clock.0 first in
        let rest = hooks_read (n + 1) (k + 1) es planned.1 hooks.1 clock.1 (after_message plan n m s) (after_stated n (pos (start + e.at)) (stated_of telling e) begun) notes outputs summary form timed in
        subst (λ (l : List StatedMessage). HasRead (after_messages plan n (l ++ numbered (k + 1) es) s) (after_events telling (pos start) n (e ∷ es) begun) notes outputs summary form) (sym (one (latest (k + 1)) e planned.0 hooks.0))
        (subst (λ (r : StreamRead). HasRead r (after_events telling (pos start) n (e ∷ es) begun) notes outputs summary form) (sym (after_first plan n m (numbered (k + 1) es) s)) rest)

    pub hooks_no_version : (k : ℕ) (es : List told.Event) → AllByRecursion P es → AllByRecursion (λ (e : told.Event). is_note e.what ≡ false) es → NoVersions (numbered k es)
    hooks_no_version k [] planned hooks = tt
    hooks_no_version k (e ∷ es) planned hooks =
        subst (λ (l : List StatedMessage). NoVersions (l ++ numbered (k + 1) es)) (sym (one (latest (k + 1)) e planned.0 hooks.0))
        (no_version (stated_of telling e) (stated_of_step telling e), hooks_no_version (k + 1) es planned.1 hooks.1)

  -- diagnostics
  module _ (P : told.Event → Type 0) (told_as : told.Event → List Note)
      (one : (l : ℕ) (e : told.Event) → P e → is_note e.what ≡ true → (note : Note) × (messages l e ≡ stated_at (start + l) (event.Diagnostic note) ∷ []) × (told_as e ≡ note ∷ [])) where
    pub notes_read : (n k : ℕ) (es : List told.Event) → AllByRecursion P es → AllByRecursion (λ (e : told.Event). is_note e.what ≡ true) es
        → (s : StreamRead) (begun : Begun) (notes : List Note) (outputs : List recorded.Output) (summary : Option Summary) (form : Bool) → HasRead s begun notes outputs summary form
        → HasRead (after_messages plan n (numbered k es) s) begun (notes ++ flat_map told_as es) outputs summary form
    notes_read n k [] planned all s begun notes outputs summary form has =
        subst (λ (l : List Note). HasRead (after_messages plan n [] s) begun l outputs summary form) (sym (append-nil notes))
        (subst (λ (r : StreamRead). HasRead r begun notes outputs summary form) (sym (after_none plan n s)) has)
    notes_read n k (e ∷ es) planned all s begun notes outputs summary form has =
        let is = one (latest (k + 1)) e planned.0 all.0 in
        let m = stated_at (start + latest (k + 1)) (event.Diagnostic is.0) in
        let first = of_note plan n (start + latest (k + 1)) s begun notes outputs summary form has is.0 in
        let rest = notes_read (n + 1) (k + 1) es planned.1 all.1 (after_message plan n m s) begun (notes ++ is.0 ∷ []) outputs summary form first in
        let grouped : (notes ++ is.0 ∷ []) ++ flat_map told_as es ≡ notes ++ flat_map told_as (e ∷ es) =
        append_assoc notes (is.0 ∷ []) (flat_map told_as es) ∙ ap (λ (l : List Note). notes ++ (l ++ flat_map told_as es)) (sym is.2) in
        subst (λ (l : List StatedMessage). HasRead (after_messages plan n (l ++ numbered (k + 1) es) s) begun (notes ++ flat_map told_as (e ∷ es)) outputs summary form) (sym is.1)
        (subst (λ (r : StreamRead). HasRead r begun (notes ++ flat_map told_as (e ∷ es)) outputs summary form) (sym (after_first plan n m (numbered (k + 1) es) s))
        (subst (λ (l : List Note). HasRead (after_messages plan (n + 1) (numbered (k + 1) es) (after_message plan n m s)) begun l outputs summary form) grouped rest))

    pub notes_no_version : (k : ℕ) (es : List told.Event) → AllByRecursion P es → AllByRecursion (λ (e : told.Event). is_note e.what ≡ true) es → NoVersions (numbered k es)
    notes_no_version k [] planned all = tt
    notes_no_version k (e ∷ es) planned all =
        subst (λ (l : List StatedMessage). NoVersions (l ++ numbered (k + 1) es)) (sym (one (latest (k + 1)) e planned.0 all.0).1) (refl, notes_no_version (k + 1) es planned.1 all.1)

-- ---- the end

pub ended : (plan : SavedPlan) (read : Result StreamRead StreamFault) (stream : StreamRead) → IsReadTo plan read stream → read ≡ cond (is_of_another_plan stream.begun) (Err NoStepOfPlan) (Ok stream)
ended plan read stream is =
    is.read_is
    ∙ ap (λ (b : Bool). cond (not b) (Err (NoMessage (not false && is.known.has_mark))) (cond (is_of_another_plan is.known.stream.begun) (Err NoStepOfPlan) (Ok is.known.stream))) is.has_message
    ∙ ap (λ (s : StreamRead). cond (is_of_another_plan s.begun) (Err NoStepOfPlan) (Ok s)) is.stream_is
