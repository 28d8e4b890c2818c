use Rattle.std.proofs.Common.{◌∙◌, ap}
use Rattle.jiff.proofs.Family.{parse_timestamp-printed}
use Rattle.apply_text.specs.Start.{start_of, start_read}
use Rattle.apply_cli_args.proofs.present.start_of_instant.Goals as goal

pub returns : goal.returns
returns c =
    c.read.ensures ∙ ap start_of c.as_str.ensures.value
    ∙ ap start_read (parse_timestamp-printed c.new.result c.args.instant c.timestamp_text-text.result.bytes c.new.ensures c.timestamp_text-text.ensures)
