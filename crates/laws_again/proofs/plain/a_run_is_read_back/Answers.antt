use Rattle.std.proofs.Common.{◌≡◌, ◌∙◌, ◌<◌, List, [], append-nil, true, Some, refl, sym, subst, inl, arith}
use Rattle.apply_model.specs.declared.details.note.Note.{Note}
use Rattle.apply_text.specs.Order.{hook_messages_of}
use Rattle.stream_record_outcomes.specs.Assignment.{considered}
use Rattle.stream_record_script.specs.Recordings.{circumstances_of, notes_in, steps_in}
use Rattle.laws_lines.specs.Stated.{told_by}
use Rattle.laws_own_streams.specs.Runs.{notes_read_by_ends, without_hooks}
use Rattle.laws_reads.specs.Outcomes.{AreRecorded}
use Rattle.laws_again.specs.Streams.{inputs_of}
use Rattle.laws_again.proofs.Considered.{considered_are}
use Rattle.laws_again.proofs.PlainRuns.{events_end, given_of_steps, messages_end}
use Rattle.laws_again.proofs.plain.a_run_is_read_back.Goals as goal

pub returns : goal.returns
returns c plan script saved steps lanes start operation events of_plan read run early apart ends reads =
    let is = run.read in
    let line = run.time_line in
    let some = run.sizes.some in
    let positive : 0 < lanes = omega (arith, some) in
    let given = inputs_of plan script in
    let work = without_hooks saved steps in
    let hooks = hook_messages_of events in
    let notes = notes_read_by_ends saved steps events in
    let follow = c.a_run_of_what_was_read_can_be_followed.ensures given work events is refl apart (events_end saved steps events ends) in
    let got = c.a_run_in_lanes_is_read.ensures.by_ends given work lanes start operation events read is
    (record { hooks = refl; some = run.sizes.some; line = line; starts = early }) (messages_end steps hooks ends) reads in
    let circumstances = circumstances_of of_plan.note read in
    let all_are = subst (λ (ns : List Note). considered circumstances ns ≡ ns) (sym got.notes_are) (considered_are circumstances saved steps events) in
    let are = c.the_steps_of_a_run_are_recorded.ensures of_plan (told_by saved steps) start 2 hooks notes [] (Some operation) true read got in record {
      own = record {
        hooks = refl;
        some = run.sizes.some;
        line = line;
        apart = follow.apart;
        outcomes = given_of_steps saved script steps is.script_is;
        ends = ends;
      };
      whole = c.hook_messages_of_a_run_are_of_whole_steps.ensures work lanes events positive follow line;
      plan = refl;
      script = refl;
      begun_is = got.begun;
      form = inl (record { default = refl; address = refl });
      notes_are = got.notes_are ∙ sym (append-nil notes);
      recorded_are = subst (λ (ns : List Note). AreRecorded saved.changes read.begun ns true (steps_in of_plan read) (notes_in of_plan read)) all_are are;
    }
