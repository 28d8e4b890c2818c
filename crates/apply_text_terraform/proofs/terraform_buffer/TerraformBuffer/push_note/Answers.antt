use Rattle.std.proofs.Common.{refl, ap, ◌∙◌}
use Rattle.apply_text_terraform.specs.Verbatim.{verbatim_members}
use Rattle.apply_text_terraform.specs.Message.{severity_words}
use Rattle.apply_text_terraform.proofs.NotesAdded.{note_added, stated_members}
use Rattle.apply_text_terraform.proofs.terraform_buffer.TerraformBuffer.push_note.Goals as goal

pub returns-clause-ok : goal.returns-clause-ok
returns-clause-ok c =
    let note = c.args.note.now in
    let body = stated_members note.address (severity_words note.severity).1 note.diag in
    note_added c.end_diagnostic.result _ _ _ _ _ _ _ _ _ _ _ (record { name = refl; type_name = refl; members = body.0; body = body.1 })
    (c.self.view_is ∙ c.begin_line-out.ensures.lines) c.begin_line-out.ensures.tokens c.put_note-written.ensures.ok c.end_diagnostic.ensures.ok c.new-timestamp.ensures (ap verbatim_members c.new.ensures)
