use Rattle.std.proofs.Common.{List, inl, inr, map, string_bytes, ⊎_elim}
use Rattle.clap.specs.Walk.{Text}
use Rattle.clap.specs.declared.error.kind.ErrorKind.TheVariants.{DisplayHelp, DisplayVersion}
use Rattle.apply_run.specs.Run.{SinkState}
use Rattle.apply_cli_args.specs.Invocation.{IsOfWords}
use Rattle.apply_cli.specs.Command.{sink_state}
use Rattle.apply_cli.specs.Invocation.{unfailed}
use Rattle.apply_cli.proofs.Followed.{followed, followed_in_part}
use Rattle.apply_cli.proofs.Reports.{quiet_of_matched}
use Rattle.apply_cli.proofs.Usages.{alone_is_not_followed, asked, few_statuses, help_is_answered, is_answered, unchanged, not_answered, version_is_answered}
use Rattle.apply_cli.proofs.program.follow.Goals as goal

pub returns-in-Ok-clause-applied : goal.returns-in-Ok-clause-applied
returns-in-Ok-clause-applied g c = λ good.
    let words : List Text = map string_bytes c.args.words.now in
    let is_of_words : IsOfWords words c.in-Ok.invocation = record { stated = c.in-Ok.ensures.stated; in_range = c.in-Ok.ensures.in_range } in
    inl (followed g.W.Write.contents g.F.File.Read.remaining words c.in-Ok.invocation (g.R.Read.remaining c.args.input) c.args.output
    c.new.result c.follow_invocation.result.0 c.follow_invocation.result.1 is_of_words c.new.ensures (c.follow_invocation.ensures.ended.applied good))

pub returns-in-Ok-clause-cut_off : goal.returns-in-Ok-clause-cut_off
returns-in-Ok-clause-cut_off g c = λ bad.
    let words : List Text = map string_bytes c.args.words.now in
    let is_of_words : IsOfWords words c.in-Ok.invocation = record { stated = c.in-Ok.ensures.stated; in_range = c.in-Ok.ensures.in_range } in
    ⊎_elim (λ unchanged. inl unchanged) (λ begun. inr (inl begun))
    (followed_in_part g.W.Write.contents g.F.File.Read.remaining words c.in-Ok.invocation (g.R.Read.remaining c.args.input) c.args.output
    c.new.result c.follow_invocation.result.0 is_of_words c.new.ensures (c.follow_invocation.ensures.ended.cut_off bad))

pub returns-in-Ok-clause-reported : goal.returns-in-Ok-clause-reported
returns-in-Ok-clause-reported g c = λ good.
    let is_of_words : IsOfWords (map string_bytes c.args.words.now) c.in-Ok.invocation = record { stated = c.in-Ok.ensures.stated; in_range = c.in-Ok.ensures.in_range } in
    inr (record { invocation = c.in-Ok.invocation; is_of_words = is_of_words; reported = c.follow_invocation.ensures.ended.reported good })

pub returns-in-Ok-clause-quiet : goal.returns-in-Ok-clause-quiet
returns-in-Ok-clause-quiet g c = λ good.
    let words : List Text = map string_bytes c.args.words.now in
    let is_of_words : IsOfWords words c.in-Ok.invocation = record { stated = c.in-Ok.ensures.stated; in_range = c.in-Ok.ensures.in_range } in
    quiet_of_matched words (g.R.Read.remaining c.args.input) (g.E.Write.contents c.args.faults.now) (g.E.Write.contents c.follow_invocation.new.faults)
    (inr (record { invocation = c.in-Ok.invocation; is_of_words = is_of_words; reported = c.follow_invocation.ensures.ended.reported good }))

pub returns-in-Ok-clause-help : goal.returns-in-Ok-clause-help
returns-in-Ok-clause-help g c = λ alone.
    let words : List Text = map string_bytes c.args.words.now in
    absurd (alone_is_not_followed DisplayHelp words c.in-Ok.invocation alone c.in-Ok.ensures.stated)

pub returns-in-Ok-clause-version_too : goal.returns-in-Ok-clause-version_too
returns-in-Ok-clause-version_too g c = λ alone.
    let words : List Text = map string_bytes c.args.words.now in
    absurd (alone_is_not_followed DisplayVersion words c.in-Ok.invocation alone c.in-Ok.ensures.stated)

-- words that are not followed
pub returns-in-Err : goal.returns-in-Err
returns-in-Err g c =
    let words : List Text = map string_bytes c.args.words.now in
    let why = c.in-Err.usage in
    let before : SinkState = unfailed (g.W.Write.contents c.args.output) in
    let after : SinkState = sink_state g.W.Write.contents c.answer_unfollowed.result.0 in
    let status = c.answer_unfollowed.result.1 in
    let is = is_answered why before after status c.answer_unfollowed.ensures.version_answered c.answer_unfollowed.ensures.answered in
    let refused = c.in-Err.ensures.refused in
    record {
      version = λ asked. let yes = c.ask_for_version.ensures.1 asked in let no = c.if-ask_for_version.false in absurd cc;
      version_too = λ alone. version_is_answered words why before after status is alone refused;
      applied = λ good. inr (asked words why before after status is good refused);
      help = λ alone. help_is_answered words why before after status is alone refused;
      refused = λ bad. unchanged why before after status is bad;
      cut_off = λ bad. ⊎_elim (λ same. inl same) (λ version_answered. inr (inr version_answered)) (not_answered words why before after status is bad refused);
      quiet = λ good _. c.answer_unfollowed.ensures.quiet (asked words why before after status is good refused).0;
      reported = λ good. inl (c.answer_unfollowed.ensures.quiet (asked words why before after status is good refused).0);
      gone = c.answer_unfollowed.ensures.gone;
      statuses = few_statuses why before after status is;
    }
