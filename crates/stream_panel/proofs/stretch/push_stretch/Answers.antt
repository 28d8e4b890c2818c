use Rattle.std.proofs.Common.{arith, refl}
use Rattle.stream_panel.proofs.Widths.{rendered_columns}
use Rattle.stream_panel.proofs.stretch.push_stretch.Goals as goal

pub returns : goal.returns
returns c whole =
    let added = c.push_characters.ensures whole in
    record {
      whole = added.0;
      text = added.1;
      widths = refl;
      columns = omega (arith, c.saturating_add-out.ensures, c.columns.ensures, rendered_columns c.args.rendition c.args.characters.now);
    }
