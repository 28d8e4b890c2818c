use Rattle.std.proofs.Common.{◌≡◌, Bool, None, Option, ap, ap₂, arith, false, refl, subst, sym, ◌∙◌}
use Rattle.std.proofs.lemmas.Grind.{common_steps}
use Rattle.serde_json.specs.Data.{Data}
use Rattle.apply_json.specs.Tree.{◌>>=◌, tree_of}
use Rattle.stream_message.specs.Runs.{is_version_text}
use Rattle.stream_timeline.specs.Building.{HasRead, IsReadingLine}
use Rattle.stream_timeline.specs.Messages.{Message, message_of, tree_message}
use Rattle.stream_timeline.specs.SlotContents.{message_in}
use Rattle.stream_timeline.specs.TimelineRead.{TimelineRead, counted, counted_line, with_message_or_passed_over}
use Rattle.stream_timeline.specs.declared.reading.builder.TimelineBuilder.{TimelineBuilder}
use Rattle.stream_timeline.proofs.BeginningRuns.{no_run}
use Rattle.stream_timeline.proofs.ReadingLine.{counted_takes, goes_from, passed_read}
use Rattle.stream_timeline.proofs.SlotContents.{message_read, run_read, timeline_selection}
use Rattle.stream_timeline.proofs.reading.builder.TimelineBuilder.whole_line.Goals as goal

pub returns-in-Ok : goal.returns-in-Ok
returns-in-Ok c =
    let read = c.in-Ok.ensures.ok in
    let old = c.args.self.now in
    let line = c.args.line.now in
    let slots = c.read_line.new.line in
    let begins_run = c.is_version.result in
    let begun : TimelineBuilder = record old { timeline = c.count_line.new.self } in
    let holds = read.2 timeline_selection c.new-slots.ensures in
    let is : begins_run ≡ is_version_text line = c.is_version.ensures ∙ run_read line slots read.0 read.1 holds in
    goes_from (HasRead old) (IsReadingLine begun) c.message.new.self _ (with_message_or_passed_over (message_in slots))
    (λ t. with_message_or_passed_over (message_of line) (counted_line line t)) refl refl c.message.result
    (λ t timeline. (
      counted begins_run t,
      counted_takes old begun begins_run t timeline c.count_line.ensures c.requires refl,
      ap₂ (λ (m : Option Message) (b : Bool). with_message_or_passed_over m (counted b t)) (message_read line slots read.0 read.1 holds) is,
    ))
    c.message.ensures

-- a line that is no JSON begins no run, and is passed over
pub returns-in-Err-TooLarge : goal.returns-in-Err-TooLarge
returns-in-Err-TooLarge c = λ t timeline.
    let none : tree_of c.args.line.now ≡ None = grind (arith, common_steps) in
    let old = c.args.self.now in
    let line = c.args.line.now in
    let begun : TimelineBuilder = record old { timeline = c.count_line-in-Err-TooLarge.new.self } in
    let new : TimelineBuilder = record old { timeline = c.pass_over.new.self } in
    let passed = passed_read begun new (counted false t) (counted_takes old begun false t timeline c.count_line-in-Err-TooLarge.ensures c.requires refl) c.pass_over.ensures refl in
    let no_message : message_of line ≡ None = ap (λ (o : Option Data). o >>= tree_message) none in
    subst (λ (u : TimelineRead). HasRead new u)
    (ap₂ (λ (m : Option Message) (b : Bool). with_message_or_passed_over m (counted b t)) (sym no_message) (sym (no_run line none))) passed

pub read_line-requires : goal.read_line-requires
read_line-requires c = (timeline_selection, c.new-slots.ensures)
