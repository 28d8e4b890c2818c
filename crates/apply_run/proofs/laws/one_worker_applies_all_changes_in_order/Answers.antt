use Rattle.std.proofs.Common.{◌∙◌, ap, length}
use Rattle.std.specs.Prelude.{[], slice_index_or}
use Rattle.apply_events.specs.WorkerEvents.{worker_events}
use Rattle.apply_run.specs.Applied.{reports_of}
use Rattle.apply_run.proofs.laws.one_worker_applies_all_changes_in_order.Goals as goal

pub returns : goal.returns
returns c work lists events applied =
    c.an_interleaving_of_one_worker_is_its_list.ensures (reports_of work lists) events applied.interleaved
    ∙ ap (λ ls. worker_events work 0 (slice_index_or ls 0 [])) (c.a_partition_for_one_worker_is_all_numbers_in_order.ensures (length work.plan.changes) lists applied.dealt_out)
