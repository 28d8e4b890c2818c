use Rattle.std.specs.List.{range_with_len}
use Rattle.apply_events.proofs.Dealing.{all_named, dealt_out, lists}
use Rattle.laws_run.proofs.partitions.numbers_can_be_dealt_out.Goals as goal

-- all of them to the first
pub returns : goal.returns
returns c workers limit some =
    (lists (λ _. 0) limit (range_with_len 0 workers), dealt_out (λ _. 0) workers limit (range_with_len 0 workers) (λ k low. some) (all_named workers))
