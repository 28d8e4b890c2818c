use Rattle.std.proofs.Common.{rules, ◌≡◌, ◌+◌, ◌++◌, codes, OnOk, refl, sym, ap, ◌∙◌, subst}
use Rattle.std.specs.Option.{option_copied}
use Rattle.apply_events.specs.declared.what.What.{What}
use Rattle.apply_events.specs.declared.what.What.TheVariants.{ErrorNote, WarnNote}
use Rattle.apply_text.specs.AppliedStep.{outcome_view}
use Rattle.apply_text.specs.Message.{failure_diag, warning_of}
use Rattle.apply_text.specs.Sending.{message_tokens}
use Rattle.apply_text_terraform.specs.AppliedStep.{line_of_event, message_of}
use Rattle.apply_text_terraform.specs.Verbatim.{verbatim_members}
use Rattle.apply_text_terraform.specs.Lines.{line_with_verbatim}
use Rattle.apply_text_terraform.specs.Message.{diagnostic_address}
use Rattle.apply_text_terraform.proofs.LinesAdded.{line_added, message_is}
use Rattle.apply_text_terraform.proofs.NotesAdded.{keeps_nothing, note_added, stated_members}
use Rattle.apply_text_terraform.proofs.terraform_buffer.TerraformBuffer.push_step.Goals as goal
use Rattle.apply_text_terraform.proofs.terraform_buffer.TerraformBuffer.push_step.Goals.{in-Progress+else-seconds-gt-FIRST_PROGRESS, in_default}

pub returns-in-ErrorNote-clause-ok : goal.returns-in-ErrorNote-clause-ok
returns-in-ErrorNote-clause-ok c =
    let same : c.match-what.what ≡ c.args.what = elim c.match-what.branch [ in-Progress+else-seconds-gt-FIRST_PROGRESS w ↦ w.what-is ∙ sym w.in-Progress.is | in_default w ↦ w.what-is ] in
    let step = c.args.step in
    let planned = option_copied c.args.planned in
    let seconds = c.args.start + c.args.clock in
    let timestamp = c.new-timestamp.result in
    let diag = failure_diag (outcome_view step) in
    let body = stated_members (diagnostic_address step.change.now step.kind (outcome_view step)) (codes "error") diag in
    let out = c.begin_line-out.result in
    let written = c.put_event-written.new.out in
    subst (λ (w : What). OnOk c.end_diagnostic.result (c.end_diagnostic.new.self ≡ c.args.self.now ++ line_of_event seconds step planned w)) (sym c.in-ErrorNote.is ∙ same)
    (note_added c.end_diagnostic.result c.put_event-written.result _ _ _ _ _ _ _ _ seconds (message_of step planned ErrorNote) (record { name = refl; type_name = refl; members = body.0; body = body.1 })
    (c.self.view_is ∙ c.begin_line-out.ensures.lines) c.begin_line-out.ensures.tokens
    (subst (λ (w : What). OnOk c.put_event-written.result (written.tokens ≡ out.tokens ++ message_tokens timestamp (message_of step planned w))) c.in-ErrorNote.is c.put_event-written.ensures.ok)
    c.end_diagnostic.ensures.ok c.new-timestamp.ensures (ap verbatim_members c.failure.ensures))

pub returns-in-WarnNote-clause-ok : goal.returns-in-WarnNote-clause-ok
returns-in-WarnNote-clause-ok c =
    let same : c.match-what.what ≡ c.args.what = elim c.match-what.branch [ in-Progress+else-seconds-gt-FIRST_PROGRESS w ↦ w.what-is ∙ sym w.in-Progress.is | in_default w ↦ w.what-is ] in
    let step = c.args.step in
    let planned = option_copied c.args.planned in
    let seconds = c.args.start + c.args.clock in
    let timestamp = c.new-timestamp.result in
    let diag = warning_of (outcome_view step).result in
    let body = stated_members (diagnostic_address step.change.now step.kind (outcome_view step)) (codes "warning") diag in
    let out = c.begin_line-out.result in
    let written = c.put_event-written.new.out in
    subst (λ (w : What). OnOk c.end_diagnostic-in-WarnNote.result (c.end_diagnostic-in-WarnNote.new.self ≡ c.args.self.now ++ line_of_event seconds step planned w)) (sym c.in-WarnNote.is ∙ same)
    (note_added c.end_diagnostic-in-WarnNote.result c.put_event-written.result _ _ _ _ _ _ _ _ seconds (message_of step planned WarnNote) (record { name = refl; type_name = refl; members = body.0; body = body.1 })
    (c.self.view_is ∙ c.begin_line-out.ensures.lines) c.begin_line-out.ensures.tokens
    (subst (λ (w : What). OnOk c.put_event-written.result (written.tokens ≡ out.tokens ++ message_tokens timestamp (message_of step planned w))) c.in-WarnNote.is c.put_event-written.ensures.ok)
    c.end_diagnostic-in-WarnNote.ensures.ok c.new-timestamp.ensures (ap verbatim_members c.warning.ensures))

pub returns-in_default-what : goal.returns-in_default-what
returns-in_default-what c =
    let same : c.match-what.what ≡ c.args.what = elim c.match-what.branch [ in-Progress+else-seconds-gt-FIRST_PROGRESS w ↦ w.what-is ∙ sym w.in-Progress.is | in_default w ↦ w.what-is ] in
    let step = c.args.step in
    let planned = option_copied c.args.planned in
    let seconds = c.args.start + c.args.clock in
    let what = c.match-what.what in
    let verbatim = keeps_nothing (outcome_view step) what c.in_default-what.not-ErrorNote c.in_default-what.not-WarnNote in
    record {
      ok = line_added c.end_line.result _ _ _ _ _ _ _ _ (c.self.view_is ∙ c.begin_line-out.ensures.lines) c.begin_line-out.ensures.tokens c.put_event-written.ensures.ok c.end_line.ensures.ok
          (message_is _ _ _ c.new-timestamp.ensures ∙ sym (ap (line_with_verbatim seconds (message_of step planned what)) verbatim) ∙ ap (line_of_event seconds step planned) same);
      err = search rules;
    }
