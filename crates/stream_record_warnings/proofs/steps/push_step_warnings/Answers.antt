use Rattle.std.proofs.Common.{Global, List, Vec, ap, map, ℕ}
use Rattle.std.specs.List.{flat_map}
use Rattle.stream_record_warnings.specs.StepWarnings.{warnings_at}
use Rattle.term_words.proofs.Appended.{text_as}
use Rattle.stream_record_warnings.proofs.TextLemmas.{pieces_all, pieces_more}
use Rattle.stream_record_warnings.proofs.steps.push_step_warnings.Goals as goal

pub loop-place-preserved : goal.loop-place-preserved
loop-place-preserved c =
    let early = map (λ (places : Vec ℕ Global). places.items) c.args.early.now in
    pieces_more (warnings_at c.args.begun.now c.args.recorded.now early) c.begins-place-items.result.now c.loop-place.place-index 0
    c.args.text.now c.loop-place.text c.push_warnings_at.new.text c.loop-place-test.true c.loop-place.invariant c.push_warnings_at.ensures

pub returns : goal.returns
returns c =
    let early = map (λ (places : Vec ℕ Global). places.items) c.args.early.now in
    let all = warnings_at c.args.begun.now c.args.recorded.now early in
    text_as c.args.text.now c.loop-place.text _ _ (ap (λ (places : List ℕ). flat_map all places) c.begins-place-items.ensures)
    (pieces_all all c.begins-place-items.result.now c.loop-place.place-index c.args.text.now c.loop-place.text c.loop-place-test.false c.loop-place.invariant)
