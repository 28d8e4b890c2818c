use Rattle.std.proofs.Common.{◌≡◌, ℤ, Bool, Some, SFits, false, of_z, to_z, w64, ap, refl, rules, subst, sym, ◌∙◌}
use Rattle.std.proofs.lemmas.Int.{to_z-of_z}
use Rattle.stream_timeline.specs.Building.{HasRead}
use Rattle.stream_timeline.specs.Messages.{message_of}
use Rattle.stream_timeline.specs.TimeRange.{with_time}
use Rattle.stream_timeline.specs.TimelineRead.{counted, with_message_or_passed_over}
use Rattle.stream_timeline.specs.declared.reading.builder.TimelineBuilder.{TimelineBuilder}
use Rattle.stream_timeline.proofs.ReadingLine.{counted_takes, time_only_read}
use Rattle.stream_timeline.proofs.reading.builder.TimelineBuilder.line_with.Goals as goal

pub returns-in-Some : goal.returns-in-Some
returns-in-Some c = λ t timeline.
    let old = c.args.self.now in
    let line = c.args.line.now in
    let begun : TimelineBuilder = record old { timeline = c.count_line.new.self } in
    let new : TimelineBuilder = record old { timeline = c.add_time.new.self } in
    let m = c.in-Some.time in
    let fits : SFits w64 m = search rules in
    let same : to_z w64 (of_z w64 m) ≡ m = to_z-of_z w64 m fits in
    let reading = counted_takes old begun false t timeline c.count_line.ensures c.requires refl in
    let read : HasRead new (with_message_or_passed_over (message_of line) (counted false t)) =
    time_only_read begun new (counted false t) line m reading
    (c.add_time.ensures ∙ ap (λ (x : ℤ). record begun.timeline { time_range = Some (with_time x begun.timeline.time_range) }) same) refl c.in-Some.ensures.time in
    subst (λ (b : Bool). HasRead new (with_message_or_passed_over (message_of line) (counted b t))) (sym c.in-Some.ensures.no_run) read
