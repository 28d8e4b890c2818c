-- What was prepared is what the command prints and applies.
use Rattle.std.proofs.Common.{◌≡◌, ◌∙◌, ℕ, List, ap, ap₂, map, refl, subst}
use Rattle.apply_hooks.specs.declared.rule.Rule.{Rule}
use Rattle.apply_model.specs.Plan.SavedPlan.{SavedPlan}
use Rattle.apply_model.specs.Script.OutcomeMap.{OutcomeMap}
use Rattle.apply_events.specs.Step.{Work}
use Rattle.apply_text.specs.declared.operation.Operation.{Operation}
use Rattle.apply_text_terraform.specs.declared.command.Command.{Command}
use Rattle.apply_command.specs.declared.command_lines.CommandLines.{CommandLines}
use Rattle.apply_command.specs.declared.prepared.Prepared.{Prepared}
use Rattle.apply_command.specs.Form.{command_form}
use Rattle.apply_command.specs.Head.{line_text}
use Rattle.apply_command.specs.Lines.{prepared_extras, prepared_form, prepared_head, prepared_lines, prepared_plan, prepared_script}
use Rattle.apply_command.specs.Prepared.{IsPrepared}
use Rattle.apply_command.specs.Reading.{CommandInputs, applied_plan, applied_script, extras, form, head_inputs, is_applied, lines}
use Rattle.apply_writer.specs.Stream.Form.{StreamForm}

module _ (command : Command) (lanes : ℕ) (read : CommandInputs) (prepared : Prepared) (h : IsPrepared command lanes read prepared) where
  same_plan : prepared_plan prepared ≡ applied_plan command lanes read
  same_plan = rw (h.applies, h.plan, h.no_changes) refl

  same_script : prepared_script prepared ≡ applied_script command lanes read
  same_script = rw (h.applies, h.script, h.no_script) refl

  head_is : (start : ℕ) → prepared_head prepared start ≡ head_inputs command lanes read start
  head_is start = rw (h.plan, h.details, h.drifts, h.planned_outputs, h.told, h.totals, h.took) refl

  extras_are : prepared_extras prepared ≡ extras command lanes read
  extras_are = rw (h.details, h.notes, h.outputs) refl

  same_form : (start : ℕ) (operation : Operation) → prepared_form prepared start operation ≡ form command lanes read start operation
  same_form start operation =
      ap₂ (λ inputs ls. command_form inputs ls prepared.applies (prepared_plan prepared) (prepared_script prepared) (prepared_extras prepared) operation) (head_is start) h.lines
      ∙ ap₂ (λ b es. command_form (head_inputs command lanes read start) (lines command lanes read) b (prepared_plan prepared) (prepared_script prepared) es operation) h.applies extras_are
      ∙ ap₂ (λ p s. command_form (head_inputs command lanes read start) (lines command lanes read) (is_applied command lanes read) p s (extras command lanes read) operation) same_plan same_script

  abbrev work : SavedPlan → OutcomeMap → List (List Rule) → Work
  work plan script hooks = record { plan = plan; script = script; hooks = hooks }

  -- what holds of lines of what was prepared and of what is applied holds of what the bytes state
  pub as_prepared : (P : StreamForm → Work → Type 0) (hooks : List (List Rule)) (start : ℕ) (operation : Operation) (lines : CommandLines)
      → (lines.prepared.now ≡ prepared) × (lines.start ≡ start) × (lines.operation ≡ operation)
      → P (prepared_form lines.prepared.now lines.start lines.operation) (work (prepared_plan prepared) (prepared_script prepared) hooks)
      → P (form command lanes read start operation) (work (applied_plan command lanes read) (applied_script command lanes read) hooks)
  as_prepared P hooks start operation lines made holds =
      let lines_are : prepared_form lines.prepared.now lines.start lines.operation ≡ prepared_form prepared start operation =
      ap (λ (p : Prepared). prepared_form p lines.start lines.operation) made.0 ∙ ap₂ (prepared_form prepared) made.1 made.2 in
      let works : work (prepared_plan prepared) (prepared_script prepared) hooks ≡ work (applied_plan command lanes read) (applied_script command lanes read) hooks =
      ap₂ (λ p s. work p s hooks) same_plan same_script in
      subst (λ (w : Work). P (form command lanes read start operation) w) works
      (subst (λ (f : StreamForm). P f (work (prepared_plan prepared) (prepared_script prepared) hooks)) (lines_are ∙ same_form start operation) holds)

-- lines of what is the same build the same stream, with the same chunks before the apply
module _ (one other : CommandLines) (same : (one.prepared ≡ other.prepared) × (one.start ≡ other.start) × (one.operation ≡ other.operation)) where
  pub forms_are : prepared_form one.prepared.now one.start one.operation ≡ prepared_form other.prepared.now other.start other.operation
  forms_are = ap (λ p. prepared_form p.now one.start one.operation) same.0 ∙ ap₂ (prepared_form other.prepared.now) same.1 same.2

  pub chunks_are : map (line_text (prepared_head one.prepared.now one.start)) (prepared_lines one.prepared.now)
      ≡ map (line_text (prepared_head other.prepared.now other.start)) (prepared_lines other.prepared.now)
  chunks_are = ap₂ (λ p start. map (line_text (prepared_head p.now start)) (prepared_lines p.now)) same.0 same.1
