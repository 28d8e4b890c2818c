-- What comes behind an apply, with its time counted from the planning or from the apply.
use Rattle.std.proofs.Common.{◌≡◌, ◌∙◌, ◌+◌, ◌++◌, ℕ, Bool, true, false, List, [], ap, refl, sym, arith}
use Rattle.std.specs.Prelude.{flat_map, if◌then◌else◌}
use Rattle.apply_model.specs.declared.details.note.Note.{Note}
use Rattle.apply_model.specs.declared.details.output.Output.{Output}
use Rattle.apply_events.specs.declared.counts.Counts.{Counts}
use Rattle.apply_text.specs.declared.operation.Operation.{Operation}
use Rattle.apply_text.specs.declared.operation.Operation.TheVariants.{Apply, Destroy}
use Rattle.apply_text_terraform.specs.Lines.{line_of_text, line_with_verbatim, message_line, note_text, summary_text}
use Rattle.apply_text_terraform.specs.Message.{note_message, summary_message}
use Rattle.apply_text_terraform.specs.Outputs.{outputs_message}
use Rattle.apply_text_terraform.specs.UtcTimestamp.{precise_timestamp_text}
use Rattle.apply_text_terraform.specs.Verbatim.{verbatim_members}
use Rattle.apply_writer.specs.Stream.Terraform.{StreamExtras, contains_error, imported_in, outputs_of_apply, tail_text}

later : (start took latest clock : ℕ) → clock ≡ took + latest → start + clock ≡ (start + took) + latest
later start took latest clock is = omega (arith, is)

module _ (start took latest clock : ℕ) (is : clock ≡ took + latest) where
  pub same_notes : (notes : List Note) → flat_map (note_text start clock) notes ≡ flat_map (note_text (start + took) latest) notes
  same_notes notes = ap (λ (n : ℕ). flat_map (λ (note : Note). line_with_verbatim n (note_message note) (verbatim_members note.diag)) notes) (later start took latest clock is)

  same_outputs : (operation : Operation) (outputs : List Output) → outputs_of_apply operation start clock outputs ≡ outputs_of_apply operation (start + took) latest outputs
  same_outputs Apply outputs = ap (λ (n : ℕ). line_of_text (outputs_message (precise_timestamp_text n) outputs)) (later start took latest clock is)
  same_outputs Destroy outputs = refl

  same_summary : (operation : Operation) (counts : Counts) (imported : ℕ) → summary_text start clock operation counts imported ≡ summary_text (start + took) latest operation counts imported
  same_summary operation counts imported = ap (λ (n : ℕ). message_line n (summary_message operation counts imported)) (later start took latest clock is)

  -- diagnostics, summary and outputs
  pub whole_tail : (extras : StreamExtras) (operation : Operation) (counts : Counts) (imported : ℕ) (outputs : List Output) (applies contains : Bool) (cleared noted new : List ℕ)
      → applies ≡ true → contains ≡ false → contains ≡ contains_error extras.notes counts → imported ≡ imported_in extras.details → outputs ≡ extras.outputs
      → cleared ≡ [] → noted ≡ cleared ++ flat_map (note_text start clock) extras.notes
      → new ≡ noted ++ (summary_text start clock operation counts imported ++ outputs_of_apply operation start clock outputs)
      → new ≡ (if applies then tail_text extras (start + took) operation latest counts else flat_map (note_text (start + took) latest) extras.notes)
  whole_tail extras operation counts imported outputs applies contains cleared noted new applied none error imports are empty notes all =
      let n = same_notes extras.notes in
      let s = same_summary operation counts (imported_in extras.details) in
      let o = same_outputs operation extras.outputs in
      let no : contains_error extras.notes counts ≡ false = sym error ∙ none in
      all ∙ rw (notes, empty, imports, are, n, s, o, applied, no) refl
