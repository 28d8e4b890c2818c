use Rattle.std.proofs.Common.{◌++◌}
use Rattle.std.specs.Prelude.{codes}
use Rattle.term_words.proofs.Appended.{text_then}
use Rattle.stream_panel.specs.Frames.{control}
use Rattle.stream_panel.proofs.frame.push_between_modes.Goals as goal

pub returns : goal.returns
returns c bytes had =
    let t0 = c.args.out.now in
    let off = control (codes "?7l") in
    let both = text_then t0 c.text.new.self c.add.new.self off bytes c.text.ensures (c.add.ensures bytes had) in
    text_then t0 c.add.new.self c.text-2.new.self (off ++ bytes) (control (codes "?7h")) both c.text-2.ensures
