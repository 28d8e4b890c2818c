use Rattle.std.proofs.Common.{◌&&◌, Bool, ℕ}
use Rattle.stream_record_waits.specs.Steps.{both_began, follows_at_once}
use Rattle.stream_record_waits.proofs.Ranges.{pushed}
use Rattle.stream_record_waits.proofs.joined.joined_by_lines.Goals as goal

pub loop-step-preserved : goal.loop-step-preserved
loop-step-preserved c =
    let f : ℕ → Bool = λ other. both_began c.args.steps.now other && follows_at_once c.args.steps.now other in
    pushed f c.loop-step.step c.loop-step.joined.items c.push.new.self.items c.follows_on-is_joined.result c.loop-step.invariant c.follows_on-is_joined.ensures c.in_ok-push.ensures.items
