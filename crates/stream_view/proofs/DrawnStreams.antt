-- What was drawn, by the time line and the settings.
use Rattle.std.proofs.Common.{◌≡◌, ℕ, Bool, List, Option, None, Some, Result, Ok, Err, refl, subst, sym}
use Rattle.std.specs.Prelude.{IfSome, OnOk}
use Rattle.std.specs.Io.KnownBytes.{Keeps}
use Rattle.stream_runs.specs.Selected.{IsSelected}
use Rattle.stream_runs.specs.declared.choice.RunChoice.{RunChoice}
use Rattle.stream_runs.specs.declared.fault.RunFault.{RunFault}
use Rattle.stream_runs.specs.declared.fault.RunFault.TheVariants as run
use Rattle.stream_timeline.specs.declared.reading.timeline_fault.TimelineFault.TheVariants as timeline_fault
use Rattle.stream_view.specs.Json.{JsonWritten}
use Rattle.stream_view.specs.Markdown.{MarkdownWritten}
use Rattle.stream_view.specs.Markup.{SvgWritten}
use Rattle.stream_view.specs.Texts.{TextWritten}
use Rattle.stream_view.specs.Viewed.{IsDrawn, IsOfInput, IsOfStream, PictureWritten, WasDrawn, is_on, unselected}
use Rattle.stream_view.specs.declared.command.colour.Colour.{Colour}
use Rattle.stream_view.specs.declared.command.drawn.Drawn.{Drawn}
use Rattle.stream_view.specs.declared.command.settings.Form.{Form}
use Rattle.stream_view.specs.declared.command.settings.Form.TheVariants as form
use Rattle.stream_view.specs.declared.command.picture_fault.PictureFault.TheVariants as fault
use Rattle.stream_view.specs.declared.draw_fault.DrawFault.{DrawFault}
use Rattle.stream_view.specs.declared.picture.Picture.{Picture}
use Rattle.stream_view.specs.declared.row_choice.RowChoice.{RowChoice}
use Rattle.stream_view.proofs.Sent.{as_lines}

pub text_drawn : (asked : Form) (width : ℕ) (colour : Colour) (is_wanted : Bool) (picture : Picture) (a b after : Option (List ℕ))
    (has_colour : Bool) (drawn : Result (Unit {0}) DrawFault) → asked ≡ form.Text width colour → has_colour ≡ is_on is_wanted colour
    → drawn ≡ Ok tt → after ≡ b → OnOk drawn (TextWritten width has_colour picture a b) → IsDrawn asked is_wanted picture a after
text_drawn asked width colour is_wanted picture a b after has_colour drawn is on done left written =
    subst (λ (f : Form). IsDrawn f is_wanted picture a after) (sym is)
    (subst (TextWritten width (is_on is_wanted colour) picture a) (sym left)
    (subst (λ (shows : Bool). TextWritten width shows picture a b) on
    (subst (λ (r : Result (Unit {0}) DrawFault). OnOk r (TextWritten width has_colour picture a b)) done written)))

pub svg_drawn : (asked : Form) (is_wanted : Bool) (picture : Picture) (a b after : Option (List ℕ)) (drawn : Result (Unit {0}) DrawFault)
    → asked ≡ form.Svg → drawn ≡ Ok tt → after ≡ b → OnOk drawn (SvgWritten picture a b) → IsDrawn asked is_wanted picture a after
svg_drawn asked is_wanted picture a b after drawn is done left written =
    subst (λ (f : Form). IsDrawn f is_wanted picture a after) (sym is)
    (subst (SvgWritten picture a) (sym left) (subst (λ (r : Result (Unit {0}) DrawFault). OnOk r (SvgWritten picture a b)) done written))

pub json_drawn : (asked : Form) (is_wanted : Bool) (picture : Picture) (a b after : Option (List ℕ)) (drawn : Result (Unit {0}) DrawFault)
    → asked ≡ form.Json → drawn ≡ Ok tt → after ≡ b → OnOk drawn (JsonWritten picture a b) → IsDrawn asked is_wanted picture a after
json_drawn asked is_wanted picture a b after drawn is done left written =
    subst (λ (f : Form). IsDrawn f is_wanted picture a after) (sym is)
    (subst (JsonWritten picture a) (sym left) (subst (λ (r : Result (Unit {0}) DrawFault). OnOk r (JsonWritten picture a b)) done written))

pub markdown_drawn : (asked : Form) (is_wanted : Bool) (picture : Picture) (a b after : Option (List ℕ)) (drawn : Result (Unit {0}) DrawFault)
    → asked ≡ form.Markdown → drawn ≡ Ok tt → after ≡ b → OnOk drawn (MarkdownWritten picture a b) → IsDrawn asked is_wanted picture a after
markdown_drawn asked is_wanted picture a b after drawn is done left written =
    subst (λ (f : Form). IsDrawn f is_wanted picture a after) (sym is)
    (subst (MarkdownWritten picture a) (sym left) (subst (λ (r : Result (Unit {0}) DrawFault). OnOk r (MarkdownWritten picture a b)) done written))

pub picture_written : (asked : Form) (is_wanted : Bool) (picture : Picture) (a b : Option (List ℕ)) → IsDrawn asked is_wanted picture a b
    → PictureWritten asked is_wanted a b
picture_written (form.Text width colour) is_wanted picture a b drawn = as_lines width (is_on is_wanted colour) picture a b drawn
picture_written form.Svg is_wanted picture a b drawn = (picture, drawn)
picture_written form.Json is_wanted picture a b drawn = (picture, drawn)
picture_written form.Markdown is_wanted picture a b drawn = (picture, drawn)

-- nothing was written for want of a run
pub unselected_drawn : (asked : Form) (is_wanted : Bool) (why : RunFault) (a b : Option (List ℕ)) → Keeps a b → WasDrawn {A = Drawn} asked is_wanted a b (Err (unselected why))
unselected_drawn asked is_wanted (run.Missing missing) a b keeps = keeps
unselected_drawn asked is_wanted (run.TooLong line) a b keeps = keeps
unselected_drawn asked is_wanted run.TooMany a b keeps = keeps
unselected_drawn asked is_wanted (run.Unread failed) a b keeps = keeps
unselected_drawn asked is_wanted run.Memory a b keeps = keeps

-- memory was refused before anything was read
nothing_read : (given : Option (List ℕ)) (find : Bool) (rows : RowChoice) (asked : Form) (is_wanted : Bool) (a b : Option (List ℕ))
    → IfSome given (λ bytes. IsOfStream {A = Drawn} find bytes 0 rows asked is_wanted a b (Err (fault.NoTimeline timeline_fault.Memory)))
nothing_read None find rows asked is_wanted a b = tt
nothing_read (Some bytes) find rows asked is_wanted a b = tt

nothing_selected : (given : Option (List ℕ)) (find : Bool) (choice : RunChoice) → IfSome given (λ bytes. IsSelected find choice bytes (Err run.Memory))
nothing_selected None find choice = tt
nothing_selected (Some bytes) find choice = tt

pub memory_drawn : (chosen : Option RunChoice) (find : Bool) (given : Option (List ℕ)) (rows : RowChoice) (asked : Form) (is_wanted : Bool)
    (a b : Option (List ℕ)) → Keeps a b → IsOfInput {A = Drawn} chosen find given rows asked is_wanted a b (Err (fault.NoTimeline timeline_fault.Memory))
memory_drawn None find given rows asked is_wanted a b keeps = nothing_read given find rows asked is_wanted a b
memory_drawn (Some choice) find given rows asked is_wanted a b keeps = (Err run.Memory, nothing_selected given find choice, (refl, keeps))
