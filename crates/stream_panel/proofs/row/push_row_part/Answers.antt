use Rattle.std.proofs.Common.{ap, sym}
use Rattle.std.specs.Prelude.{option_map}
use Rattle.std.specs.Option.{option_copied}
use Rattle.stream_watch.specs.Lengths.{lengths_view}
use Rattle.stream_panel.specs.Rows.{row_part}
use Rattle.stream_panel.proofs.Parts.{part_as}
use Rattle.stream_panel.proofs.row.push_row_part.Goals as goal

pub returns-in-Some : goal.returns-in-Some
unfolding row_part
returns-in-Some c words had =
    part_as c.args.out.now c.push_kind_part.new.out c.args.has_colour _ _
    (sym (ap (λ lengths. row_part c.args.room c.args.age (option_map lengths_view (option_copied lengths)) words) c.in-Some.is)) (c.push_kind_part.ensures words had)

pub returns-in-None : goal.returns-in-None
unfolding row_part
returns-in-None c words had =
    part_as c.args.out.now c.push_within.new.out c.args.has_colour _ _
    (sym (ap (λ lengths. row_part c.args.room c.args.age (option_map lengths_view (option_copied lengths)) words) c.in-None.is)) (c.push_within.ensures words had)
