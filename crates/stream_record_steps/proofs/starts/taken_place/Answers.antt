use Rattle.std.proofs.Common.{◌∙◌, sym}
use Rattle.std.specs.Option.{option_copied}
use Rattle.stream_record_steps.proofs.Finds.{first_more, first_same, none_of_id, none_of_kind, takes_by_id}
use Rattle.stream_record_steps.proofs.starts.taken_place.Goals as goal
use Rattle.stream_record_steps.proofs.starts.taken_place.Goals.{then-is_free+else-had_id, else-is_free}

pub returns-then-had_id : goal.returns-then-had_id
returns-then-had_id c =
    takes_by_id c.args.slots.now c.args.kind (option_copied c.args.id) c.args.steps.now c.loop-step.step-index c.step-item.result c.place.result
    c.loop-step-test.true c.step-item.is (sym c.is_free.ensures ∙ c.if-is_free.true) (sym c.had_id.ensures ∙ c.if-had_id.true) c.place.ensures
    c.loop-step.invariant.none

pub loop-step-preserved : goal.loop-step-preserved
loop-step-preserved c = elim c.if-is_free.branch [
  | then-is_free+else-had_id w ↦ record {
    none =
        none_of_id c.args.slots.now c.args.kind (option_copied c.args.id) c.args.steps.now c.loop-step.step-index c.step-item.result
        c.loop-step-test.true c.step-item.is (sym w.had_id.ensures ∙ w.if-had_id.false) c.loop-step.invariant.none;
    first =
        first_more c.args.slots.now c.args.kind c.args.steps.now c.loop-step.step-index c.step-item.result c.loop-step.first c.if-is_free.first w.place-then-is_free.result
        c.loop-step-test.true c.step-item.is (sym c.is_free.ensures ∙ w.if-is_free.true) w.place-then-is_free.ensures c.loop-step.invariant.first
        (w.first-is ∙ w.or-first.ensures);
  }
  | else-is_free w ↦ record {
    none =
        none_of_kind c.args.slots.now c.args.kind (option_copied c.args.id) c.args.steps.now c.loop-step.step-index c.step-item.result
        c.loop-step-test.true c.step-item.is (sym c.is_free.ensures ∙ w.if-is_free.false) c.loop-step.invariant.none;
    first =
        first_same c.args.slots.now c.args.kind c.args.steps.now c.loop-step.step-index c.step-item.result c.loop-step.first c.if-is_free.first
        c.loop-step-test.true c.step-item.is (sym c.is_free.ensures ∙ w.if-is_free.false) c.loop-step.invariant.first w.first-is;
  }
]
