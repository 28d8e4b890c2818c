use Rattle.std.proofs.Common.{Bool, false, refl, subst, sym, ◌∙◌}
use Rattle.stream_timeline.specs.Building.{HasRead}
use Rattle.stream_timeline.specs.Messages.{message_of}
use Rattle.stream_timeline.specs.TimelineRead.{counted, counted_line, with_line, with_message_or_passed_over}
use Rattle.stream_timeline.specs.declared.reading.builder.TimelineBuilder.{TimelineBuilder}
use Rattle.stream_timeline.proofs.BeginningRuns.{blank_no_run}
use Rattle.stream_timeline.proofs.ReadingLine.{counted_takes, goes_from, held_by, line_alone, not_blank}
use Rattle.stream_timeline.proofs.reading.builder.TimelineBuilder.line.Goals as goal

pub returns-then-is_blank_line : goal.returns-then-is_blank_line
returns-then-is_blank_line c = λ t timeline.
    let old = c.args.self.now in
    let new : TimelineBuilder = record old { timeline = c.count_line.new.self } in
    let blank = sym c.is_blank_line.ensures ∙ c.if-is_blank_line.true in
    let read : HasRead new (counted false t) = line_alone new (counted false t) (counted_takes old new false t timeline c.count_line.ensures c.requires refl) in
    rw blank (subst (λ (b : Bool). HasRead new (counted b t)) (sym (blank_no_run c.args.line.now blank)) read)

pub returns : goal.returns
returns c =
    let old = c.args.self.now in
    let line = c.args.line.now in
    let given : TimelineBuilder = record { timeline = old.timeline; opened = old.opened; scratch = c.take_scratch.new.stored } in
    goes_from (HasRead old) (HasRead given) c.line_with-result.new.self _ (λ t. with_message_or_passed_over (message_of line) (counted_line line t)) (with_line line) refl refl c.line_with-result.result
    (λ t timeline. (t, held_by old given t refl refl timeline, not_blank line (counted_line line t) (sym c.is_blank_line.ensures ∙ c.if-is_blank_line.false)))
    c.line_with-result.ensures
