use Rattle.std.proofs.Common.{◌+◌, ◌++◌, ap, refl, ◌∙◌}
use Rattle.std.specs.Prelude.{flat_map}
use Rattle.std.proofs.lemmas.Result.{on_ok_weaker}
use Rattle.apply_writer.specs.Stream.Terraform.{StreamExtras, contains_error, imported_in}
use Rattle.apply_text_terraform.specs.Lines.{note_text}
use Rattle.apply_command.specs.declared.command_lines.CommandLines.{CommandLines}
use Rattle.apply_command.specs.Lines.{prepared_extras, prepared_form}
use Rattle.apply_command.proofs.Tails.{whole_tail}
use Rattle.apply_command.proofs.command_lines.CommandLinesFormLines.build_tail.Goals as goal
use Rattle.apply_command.proofs.command_lines.CommandLinesFormLines.build_tail.Goals.{then-not-self-via-then-not-self, then-not-self-via-else-not-self+then-contains_error}

pub returns-clause-ok : goal.returns-clause-ok
returns-clause-ok c =
    let s = c.args.self.now in let p = s.prepared.now in
    let extras = c.extras-extras.ensures in
    on_ok_weaker c.push_totals.result
    (λ all. whole_tail s.start p.took c.args.latest _ refl (prepared_extras p) s.operation c.args.counts.now _ _ p.applies c.contains_error.result c.clear.new.self _ _
    c.if-not-self.false c.if-contains_error.false
    (c.contains_error.ensures ∙ ap (λ (e : StreamExtras). contains_error e.notes c.args.counts.now) extras)
    (ap (λ (e : StreamExtras). imported_in e.details) extras) (ap (λ (e : StreamExtras). e.outputs) extras) c.clear.ensures
    (c.in_ok-push_notes.ensures ∙ ap (λ (e : StreamExtras). c.clear.new.self ++ flat_map (note_text s.start (p.took + c.args.latest)) e.notes) extras) all)
    c.push_totals.ensures

pub returns-then-not-self-clause-form : goal.returns-then-not-self-clause-form
returns-then-not-self-clause-form c =
    let form_of = λ (s : CommandLines). prepared_form s.prepared.now s.start s.operation in
    elim c.then-not-self.branch [
      | then-not-self-via-then-not-self w ↦ ap form_of w.self-is
      | then-not-self-via-else-not-self+then-contains_error w ↦ ap form_of w.self-is
    ]
