use Rattle.std.proofs.Common.{ℕ, ◌<◌, Bool, Option, ap, arith, length, of_z, refl, take, to_z, w64, ◌∙◌}
use Rattle.std.specs.List.{flat_map}
use Rattle.term_words.proofs.Appended.{text_all, text_as, text_none, text_then}
use Rattle.stream_watch.specs.Ending.{without_end_line, without_end_words}
use Rattle.stream_watch.specs.Steps.{step_view}
use Rattle.stream_watch.specs.declared.steps.OpenStep.{OpenStep}
use Rattle.stream_watch.proofs.Taken.{flat_map_take-more}
use Rattle.stream_watch.proofs.ending.print_without_end.Goals as goal

pub loop-step-init : goal.loop-step-init
loop-step-init c = record { width = refl; has_colour = refl; printed = text_none c.args.printer.now.printed }

pub loop-step-preserved : goal.loop-step-preserved
loop-step-preserved c =
    let before = c.args.printer.now in
    let printer = c.loop-step.printer in
    let after = c.line.new.self in
    let steps = c.args.steps.now in
    let step = c.step-item.result in
    let elapsed = c.args.elapsed in
    let now = to_z w64 (of_z w64 c.args.now) in
    let words = without_end_words now (step_view step) in
    let had = c.loop-step.invariant in
    let line = c.line.ensures words (text_all c.new-text.result c.push_without_end.new.text words c.new-text.ensures c.push_without_end.ensures) in
    let f = λ (s : OpenStep). without_end_line before.width before.has_colour elapsed now (step_view s) in
    let as_before = ap (λ (width : Option ℕ). without_end_line width printer.has_colour elapsed now (step_view step)) had.width
    ∙ ap (λ (has_colour : Bool). without_end_line before.width has_colour elapsed now (step_view step)) had.has_colour in
    let within : c.loop-step.step-index < length steps = omega arith in
    record {
      width = line.width ∙ had.width;
      has_colour = line.has_colour ∙ had.has_colour;
      printed = text_as before.printed after.printed _ _ (flat_map_take-more f steps c.loop-step.step-index step within c.step-item.is)
          (text_then before.printed printer.printed after.printed (flat_map f (take c.loop-step.step-index steps)) (f step) had.printed
          (text_as printer.printed after.printed _ _ as_before line.printed));
    }
