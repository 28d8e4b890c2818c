use Rattle.std.proofs.Common.{◌≡◌, ◌∙◌, ◌&&◌, Bool, List, ap, arith, eqb, length, ℕ}
use Rattle.stream_record_waits.specs.Graph.{waits_at}
use Rattle.stream_record_waits.specs.Steps.{both_began, lists_in}
use Rattle.stream_record_waits.proofs.Ranges.{pushed}
use Rattle.stream_record_waits.proofs.Rows.{row}
use Rattle.stream_record_waits.proofs.joined.joined_by_graph.Goals as goal

pub loop-step-preserved : goal.loop-step-preserved
loop-step-preserved c =
    let step = c.loop-step.step in
    let f : ℕ → Bool = λ other. both_began c.args.steps.now other && eqb (length (waits_at (lists_in c.args.after.now) other)) 0 in
    let waits : c.as_slice.result.now ≡ waits_at (lists_in c.args.after.now) step = c.as_slice.ensures.value ∙ row c.args.after.now step c.index-after-step.result (omega arith) c.index-after-step.is in
    pushed f step c.loop-step.joined.items c.push.new.self.items c.waits_for_none-is_joined.result c.loop-step.invariant
    (c.waits_for_none-is_joined.ensures ∙ ap (λ (list : List ℕ). both_began c.args.steps.now step && eqb (length list) 0) waits)
    c.in_ok-push.ensures.items
