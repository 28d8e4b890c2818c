use Rattle.std.proofs.Common.{◌∙◌, [], refl, ap}
use Rattle.apply_text.specs.Order.{hook_messages_of}
use Rattle.laws_lines.specs.Stated.{id_of}
use Rattle.laws_own_streams.specs.Runs.{without_hooks}
use Rattle.laws_texts.specs.Streams.{plain_address}
use Rattle.laws_texts.specs.TimeLines.{notes_by_ends}
use Rattle.laws_again.specs.ReadBack.{plain_reading}
use Rattle.laws_again.proofs.PlainRuns.{id_is, shown_again}
use Rattle.laws_again.proofs.plain.a_run_that_was_read_back_has_the_same_stream.Goals as goal

pub returns : goal.returns
returns c saved steps other lanes start operation events others begun notes recorded left back goes has line =
    let work = without_hooks saved steps in
    let again = without_hooks saved other in
    let reading = plain_reading saved steps start in
    let first = c.works_that_go_alike_have_the_same_hook_messages.ensures work again lanes events goes back.own.line in
    let same = c.time_lines_are_unique.ensures again lanes others first.0 line first.1 in
    let known = c.what_is_recorded_goes_as_the_steps_went.ensures work lanes events reading begun [] notes recorded left back in
    c.time_lines_that_end_alike_have_the_same_stream.ensures work again start operation lanes lanes events others (record {
      messages = record {
        no_hooks = refl;
        others_no_hooks = refl;
        line = back.own.line;
        others_line = line;
        hooks = ap hook_messages_of same ∙ first.2;
        alike = λ d k kind begins at.
            (let is = known.began d k kind at begins in
            c.recorded_outcomes_end_as_the_steps_ended.ensures.plain work lanes d k begun recorded (id_of saved steps) other kind known has at begins
            (id_is saved steps d k is.change kind is.change_at is.kind_at));
      };
      notes = shown_again (notes_by_ends plain_address saved steps events) (notes_by_ends plain_address saved other events) left notes
          (c.recorded_diagnostics_come_again.ensures.again work lanes events reading begun [] notes recorded left other back has)
          (c.recorded_diagnostics_come_again.ensures.none_left work lanes events reading begun [] notes recorded left back refl)
          back.notes_are;
    })
