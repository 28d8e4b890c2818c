use Rattle.std.proofs.Common.{Ok, Err, ap, subst, sym}
use Rattle.std.proofs.KnownBytes.{Keeps-refl}
use Rattle.stream_view.specs.Viewed.{WasDrawn}
use Rattle.stream_view.specs.declared.command.drawn.Drawn.{Drawn}
use Rattle.stream_view.specs.declared.command.picture_fault.PictureFault.{PictureFault}
use Rattle.stream_view.proofs.DrawnStreams.{unselected_drawn}
use Rattle.stream_view.proofs.command.choosing.draw_choice.Goals as goal

pub returns-in-Err-clause-drawn : goal.returns-in-Err-clause-drawn
returns-in-Err-clause-drawn g c =
    let before = g.W.Write.contents c.args.out.now in
    subst (λ (fault : PictureFault). WasDrawn {A = Drawn} c.args.settings.now.form c.args.is_colour_wanted before before (Err fault)) (sym c.from.ensures)
    (unselected_drawn c.args.settings.now.form c.args.is_colour_wanted c.in-Err.fault before before (Keeps-refl before))

pub returns-in-Err-clause-stream : goal.returns-in-Err-clause-stream
returns-in-Err-clause-stream g c =
    (Err c.in-Err.fault, c.in-Err.ensures.selected, (ap Err c.from.ensures, Keeps-refl (g.W.Write.contents c.args.out.now)))

pub returns-in-Ok-clause-stream : goal.returns-in-Ok-clause-stream
returns-in-Ok-clause-stream g c = (Ok c.in-Ok.selected, c.in-Ok.ensures.selected, c.draw_run.ensures.stream)
