-- What is told, one thing after another.
use Rattle.std.proofs.Common.{◌≡◌, ◌∙◌, ℕ, [], ◌++◌, Bool, List, Option, ap, subst, sym}
use Rattle.term_words.specs.MessageTexts.{AppendsText}
use Rattle.term_words.proofs.Appended.{text_as, text_then}
use Rattle.term_words.specs.declared.message_text.MessageText.{MessageText}
use Rattle.stream_watch.specs.Printed.{Prints}
use Rattle.stream_watch.specs.State.{State, Tells, Told, line_at, line_told, looks_of, state_of, told_then}
use Rattle.stream_watch.specs.declared.looks.Looks.{Looks}
use Rattle.stream_watch.specs.declared.mark.Mark.{Mark}
use Rattle.stream_watch.specs.declared.watcher.Watcher.{Watcher}

pub tells_as : (a b : Watcher) (s t : Told) → s ≡ t → Tells a b s → Tells a b t
tells_as a b s t is told = subst (λ (u : Told). Tells a b u) is told

pub tells_then : (a b c : Watcher) (s t : Told) → Tells a b s → Tells b c t → Tells a c (record { bytes = s.bytes ++ t.bytes; state = t.state })
tells_then a b c s t first second = record {
  looks = second.looks ∙ first.looks;
  find = second.find ∙ first.find;
  state = second.state;
  bytes = text_then a.printer.printed b.printer.printed c.printer.printed s.bytes t.bytes first.bytes second.bytes;
}

-- A line behind what was told before it. Between them the state may change, and only the state.
pub line_then : (a b d c : Watcher) (s : Told) (change : State → State) (mark : Mark) (words : List ℕ) → Tells a b s
    → looks_of d ≡ looks_of b → d.find ≡ b.find → d.printer.printed ≡ b.printer.printed → state_of d ≡ change (state_of b)
    → Tells d c (line_told (looks_of d) (state_of d) mark words)
    → Tells a c (told_then s (λ (state : State). line_told (looks_of a) (change state) mark words))
line_then a b d c s change mark words first looks find printed changed second =
    let state : state_of d ≡ change s.state = changed ∙ ap change first.state in
    let same : looks_of d ≡ looks_of a = looks ∙ first.looks in
    let bytes : line_at (looks_of d) (state_of d) mark words ≡ line_at (looks_of a) (change s.state) mark words =
    ap (λ (l : Looks). line_at l (state_of d) mark words) same ∙ ap (λ (st : State). line_at (looks_of a) st mark words) state in
    let added : AppendsText b.printer.printed c.printer.printed (line_at (looks_of d) (state_of d) mark words) =
    subst (λ (text : MessageText). AppendsText text c.printer.printed (line_at (looks_of d) (state_of d) mark words)) printed second.bytes in
    record {
      looks = second.looks ∙ same;
      find = second.find ∙ find ∙ first.find;
      state = second.state ∙ state;
      bytes = text_then a.printer.printed b.printer.printed c.printer.printed s.bytes (line_at (looks_of a) (change s.state) mark words) first.bytes
          (text_as b.printer.printed c.printer.printed (line_at (looks_of d) (state_of d) mark words) (line_at (looks_of a) (change s.state) mark words) bytes added);
    }

-- what is told behind what was told, in the looks of the beginning
pub told_behind : (a b c : Watcher) (s : Told) (next : Looks → State → Told) → Tells a b s → Tells b c (next (looks_of b) (state_of b))
    → Tells a c (told_then s (next (looks_of a)))
told_behind a b c s next first second =
    let same : next (looks_of b) (state_of b) ≡ next (looks_of a) s.state =
    ap (λ (looks : Looks). next looks (state_of b)) first.looks ∙ ap (next (looks_of a)) first.state in
    tells_then a b c s (next (looks_of a) s.state) first (tells_as b c _ _ same second)

-- a printer that prints tells
pub looks_same : (a b : Watcher) (bytes : List ℕ) → b.has_panel ≡ a.has_panel → Prints a.printer b.printer bytes → looks_of b ≡ looks_of a
looks_same a b bytes panel prints =
    let looks_with : Option ℕ → Bool → Bool → Looks = λ width has_colour has_panel. record { width = width; has_colour = has_colour; has_panel = has_panel } in
    ap (λ (width : Option ℕ). looks_with width b.printer.has_colour b.has_panel) prints.width
    ∙ ap (λ (has_colour : Bool). looks_with a.printer.width has_colour b.has_panel) prints.has_colour
    ∙ ap (looks_with a.printer.width a.printer.has_colour) panel
