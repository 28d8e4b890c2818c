use Rattle.apply_events.specs.Waits.Schedule.{schedule}
use Rattle.laws_run.proofs.Chains.{no_sooner}
use Rattle.laws_run.proofs.LastEvents.{ends_late}
use Rattle.laws_run.proofs.time_lines.no_step_ends_before_its_chain_of_waits.Goals as goal

pub returns : goal.returns
returns c = record {
  done = λ work n name at seconds some few is chain.
      no_sooner work n (schedule work n) (c.the_schedule_starts_each_turn_that_can_begin.ensures work n some) few name at seconds is chain;
  events = λ work n events name seconds some few line begun chain.
      ends_late work n (schedule work n) events (c.the_schedule_starts_each_turn_that_can_begin.ensures work n some) few line.interleaved name seconds begun chain;
}
