use Rattle.std.proofs.Common.{◌≡◌, ◌<◌, ◌≤◌, ◌^◌, List, [], true, Some, length, subst, ap, map, arith}
use Rattle.apply_model.specs.declared.details.note.Note.{Note}
use Rattle.apply_hooks.specs.Hooks.{max_hooks}
use Rattle.apply_text.specs.Order.{hook_messages_of}
use Rattle.laws_lines.specs.Stated.{told_by}
use Rattle.laws_own_streams.proofs.OwnReads.{plain_read}
use Rattle.laws_own_streams.proofs.ReadScripts.{given_told}
use Rattle.laws_own_streams.proofs.a_run_in_lanes_is_read.Goals as goal
use Rattle.laws_reads.specs.Runs.{IsOfRun}
use Rattle.laws_texts.specs.Streams.{plain_address, without_place}
use Rattle.laws_texts.proofs.TimeLineStreams.{told_by_ends}

pub returns-clause-as_told : goal.returns-clause-as_told
returns-clause-as_told c given work lanes start operation events read is run reads =
    let some : 0 < lanes = (let low = run.some in omega arith) in
    let few_hooks : length work.hooks ≤ max_hooks = (let none : length work.hooks ≡ 0 = ap length run.hooks in omega arith) in
    let limits = c.what_was_read_is_within_limits.ensures given work is in
    let fit = c.every_event_of_a_time_line_can_happen.ensures work lanes events some limits few_hooks run.line in
    let few : length events < 2 ^ 64 = (let most = c.a_time_line_has_few_events.ensures.few work lanes events some limits run.line in omega arith) in
    plain_read work.plan work.script start operation events read
    (record {
      bits = c.events_that_can_happen_fit_bits.ensures work.plan work.script events limits.short_steps fit few;
      told = given_told work.plan given.script work.script is.script_is start events run.starts fit;
      fit = fit;
      falls = c.the_time_of_a_time_line_never_falls.ensures.of_steps work lanes events run.line;
    })
    (c.texts_that_were_read_are_utf8.ensures given work.plan work.script is) (c.no_address_is_empty.ensures given.plan work.plan is.plan_is) reads

pub returns-clause-by_ends : goal.returns-clause-by_ends
returns-clause-by_ends c given work lanes start operation events read is run ends reads =
    subst (λ (l : List Note). IsOfRun (told_by work.plan work.script) start 2 (hook_messages_of events) (map without_place l) [] (Some operation) true read)
    (told_by_ends plain_address work.plan work lanes events run.hooks run.line ends)
    (returns-clause-as_told c given work lanes start operation events read is run reads)
