use Rattle.apply_events.proofs.Parts.{one_list}
use Rattle.apply_events.proofs.partition.a_partition_for_one_worker_is_all_numbers_in_order.Goals as goal

pub returns : goal.returns
returns c limit lists parts = one_list limit lists parts
