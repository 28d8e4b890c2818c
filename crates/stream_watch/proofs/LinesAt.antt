-- A line, which the panel hides or not.
use Rattle.std.proofs.Common.{◌≡◌, ℕ, List, [], false, refl, true}
use Rattle.std.specs.Prelude.{◌&&◌}
use Rattle.stream_watch.specs.Clock.{elapsed}
use Rattle.stream_watch.specs.Marks.{is_in_panel}
use Rattle.stream_watch.specs.Printed.{line_bytes}
use Rattle.stream_watch.specs.State.{State, line_at}
use Rattle.stream_watch.specs.declared.looks.Looks.{Looks}
use Rattle.stream_watch.specs.declared.mark.Mark.{Mark}

pub hidden_line : (looks : Looks) (state : State) (mark : Mark) (words : List ℕ) → (looks.has_panel && is_in_panel mark) ≡ true → line_at looks state mark words ≡ []
unfolding line_at
hidden_line looks state mark words hides = rw hides refl

pub shown_line : (looks : Looks) (state : State) (mark : Mark) (words : List ℕ) → (looks.has_panel && is_in_panel mark) ≡ false
    → line_at looks state mark words ≡ line_bytes looks.width looks.has_colour (elapsed state.clock) mark words
unfolding line_at
shown_line looks state mark words shown = rw shown refl
