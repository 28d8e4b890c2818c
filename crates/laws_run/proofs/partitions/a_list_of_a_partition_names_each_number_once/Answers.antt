use Rattle.apply_events.proofs.Parts.{own_list}
use Rattle.laws_run.proofs.partitions.a_list_of_a_partition_names_each_number_once.Goals as goal

pub returns : goal.returns
returns c workers limit worker lists parts less = own_list workers limit worker lists parts less
