use Rattle.std.proofs.Common.{◌≡◌, ℤ, false, Option, Some, ap, subst, sym}
use Rattle.std.specs.Prelude.{IfSome}
use Rattle.std.specs.Option.{option_map_or}
use Rattle.serde_json.specs.Data.{Data}
use Rattle.apply_json.specs.Tree.{◌>>=◌}
use Rattle.stream_message.specs.Members.{kind_of}
use Rattle.stream_message.specs.Runs.{is_version}
use Rattle.stream_timeline.specs.Messages.{Message, tree_message}
use Rattle.stream_timeline.specs.SlotContents.{time_only}
use Rattle.stream_timeline.proofs.TimeLines.{no_run_alone, time_alone}
use Rattle.stream_timeline.proofs.reading.time_lines.time_in.Goals as goal

pub returns-in-Ok-clause-time : goal.returns-in-Ok-clause-time
returns-in-Ok-clause-time c =
    let read = c.in-Ok.ensures.ok in
    subst (λ (o : Option Message). IfSome c.time_of.result (λ time. o ≡ Some (time_only time))) (sym (ap (λ (o : Option Data). o >>= tree_message) read.1))
    (subst (λ (value : Option ℤ). IfSome value (λ time. tree_message read.0 ≡ Some (time_only time))) (sym c.time_of.ensures) (time_alone c.in-Ok.head read.0 read.2))

pub returns-in-Ok-clause-no_run : goal.returns-in-Ok-clause-no_run
returns-in-Ok-clause-no_run c =
    let read = c.in-Ok.ensures.ok in
    subst (λ (o : Option Data). IfSome c.time_of.result (λ time. option_map_or (λ d. is_version (kind_of d)) o false ≡ false)) (sym read.1)
    (subst (λ (value : Option ℤ). IfSome value (λ time. is_version (kind_of read.0) ≡ false)) (sym c.time_of.ensures) (no_run_alone c.in-Ok.head read.0 read.2))
