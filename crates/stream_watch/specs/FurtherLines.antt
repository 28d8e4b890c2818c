-- Texts that belong to the line before them.
use Rattle.std.specs.Prelude.{◌≡◌, ℕ, List}
use Rattle.std.specs.List.{flat_map}
use Rattle.term_words.specs.MessageTexts.{AppendsText}
use Rattle.stream_watch.specs.State.{further_line, looks_of, state_of}
use Rattle.stream_watch.specs.declared.looks.Looks.{Looks}
use Rattle.stream_watch.specs.declared.mark.Mark.{Mark}
use Rattle.stream_watch.specs.declared.watcher.Watcher.{Watcher}

-- texts that belong to a line with this mark, in their order
abbrev pub further_lines : Looks → Mark → (texts : List (List ℕ)) → List ℕ
further_lines looks mark texts = flat_map (further_line looks mark) texts

-- Unless memory was refused, these texts were told, and nothing else changed.
pub record TellsFurther (before after : Watcher) (mark : Mark) (texts : List (List ℕ)) : Type 0 where
  pub looks : looks_of after ≡ looks_of before
  pub find : after.find ≡ before.find
  pub state : state_of after ≡ state_of before
  pub bytes : AppendsText before.printer.printed after.printer.printed (further_lines (looks_of before) mark texts)
