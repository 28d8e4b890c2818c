use Rattle.std.proofs.Common.{◌≡◌, [], List, Option, ap, subst, sym, take, ℕ, ◌+◌}
use Rattle.std.specs.Option.{option_map_or}
use Rattle.std.specs.Prelude.{slice_get}
use Rattle.stream_record_steps.specs.Steps.{PlannedStep}
use Rattle.term_words.specs.MessageTexts.{AppendsText}
use Rattle.term_words.specs.declared.message_text.MessageText.{MessageText}
use Rattle.stream_record_warnings.specs.StepWarnings.{early_warning, early_warnings}
use Rattle.term_words.proofs.Appended.{text_as}
use Rattle.stream_record_warnings.proofs.TextLemmas.{pieces_all, pieces_more, pieces_same}
use Rattle.stream_record_warnings.proofs.steps.push_early.Goals as goal
use Rattle.stream_record_warnings.proofs.steps.push_early.Goals.{in-Some, in_default}

pub loop-place-preserved : goal.loop-place-preserved
loop-place-preserved c =
    let line = c.args.line in
    let step = c.args.step.now in
    let planned = c.args.planned.now in
    let early = c.args.early.now in
    let i = c.loop-place.place-index in
    let piece = λ (place : ℕ). option_map_or (early_warning line step) (slice_get planned place) [] in
    let all = λ (t : MessageText). AppendsText c.args.text.now t (early_warnings line step planned (take (i + 1) early)) in
    elim c.match-step_at.branch [
      | in-Some w ↦ subst all (sym w.text-is)
          (pieces_more piece early i 0 c.args.text.now c.loop-place.text w.push_early_step.new.text c.loop-place-test.true c.loop-place.invariant
          (text_as c.loop-place.text w.push_early_step.new.text _ _ (ap (λ (o : Option PlannedStep). option_map_or (early_warning line step) o []) w.in-Some.ensures) w.push_early_step.ensures))
      | in_default w ↦ subst all (sym w.text-is)
          (pieces_same piece early i 0 c.args.text.now c.loop-place.text c.loop-place-test.true
          (ap (λ (o : Option PlannedStep). option_map_or (early_warning line step) o []) (sym w.in_default.ensures)) c.loop-place.invariant)
    ]

pub returns : goal.returns
returns c =
    pieces_all (λ (place : ℕ). option_map_or (early_warning c.args.line c.args.step.now) (slice_get c.args.planned.now place) []) c.args.early.now
    c.loop-place.place-index c.args.text.now c.loop-place.text c.loop-place-test.false c.loop-place.invariant
