-- What is told where the state changes first.
use Rattle.std.proofs.Common.{◌≡◌, ℕ, List, refl}
use Rattle.term_words.proofs.Appended.{text_none}
use Rattle.stream_watch.specs.State.{State, Tells, line_told, looks_of, nothing, state_of}
use Rattle.stream_watch.specs.declared.mark.Mark.{Mark}
use Rattle.stream_watch.specs.declared.watcher.Watcher.{Watcher}
use Rattle.stream_watch.proofs.Tellings.{line_then}

pub tells_nothing : (a : Watcher) → Tells a a (nothing (state_of a))
tells_nothing a = record { looks = refl; find = refl; state = refl; bytes = text_none a.printer.printed }

-- a line behind a change of the state
pub line_in : (a d c : Watcher) (state : State) (mark : Mark) (words : List ℕ)
    → looks_of d ≡ looks_of a → d.find ≡ a.find → d.printer.printed ≡ a.printer.printed → state_of d ≡ state
    → Tells d c (line_told (looks_of d) (state_of d) mark words) → Tells a c (line_told (looks_of a) state mark words)
line_in a d c state mark words looks find printed changed told =
    line_then a a d c (nothing (state_of a)) (λ (before : State). state) mark words (tells_nothing a) looks find printed changed told
