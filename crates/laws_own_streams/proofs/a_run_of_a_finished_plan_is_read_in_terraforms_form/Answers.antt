use Rattle.std.proofs.Common.{[]}
use Rattle.laws_own_streams.proofs.FinishedPlans.{as_it_is}
use Rattle.laws_own_streams.proofs.a_run_of_a_finished_plan_is_read_in_terraforms_form.Goals as goal

pub returns : goal.returns
returns c plan script stated lanes start operation events read is finished run succeed ends reads =
    as_it_is stated lanes start operation events read finished
    (λ run succeed ends reads.
    c.a_run_in_lanes_is_read_in_terraforms_form.ensures.by_ends (record { plan = plan; script = script; hooks = [] }) stated lanes start operation events read is run succeed ends reads) run succeed ends reads
