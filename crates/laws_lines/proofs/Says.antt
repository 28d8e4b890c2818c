-- A line and its message, by the tree of its text.
use Rattle.std.proofs.Common.{◌≡◌, ℕ, List, [], ◌∷◌, ◌++◌, pos, false, Option, Some, option_map, ap, ◌∙◌}
use Rattle.std.specs.Option.{option_map_or}
use Rattle.serde_json.specs.Data.{Data}
use Rattle.apply_json.specs.Tree.{◌>>=◌, tree_of}
use Rattle.apply_text.specs.Laws.{line_feeds}
use Rattle.stream_message.specs.Timestamp.{instant_of}
use Rattle.stream_record_lines.specs.declared.event.Event.{Event}
use Rattle.stream_record_lines.specs.declared.stated_line.StatedLine.TheVariants.{Message}
use Rattle.stream_record_lines.specs.declared.stated_message.StatedMessage.{StatedMessage}
use Rattle.stream_record_lines.specs.Lines.{without_message}
use Rattle.stream_record_lines.specs.Messages.{message_of}
use Rattle.stream_record_lines.specs.Seconds.{nearest_second}
use Rattle.laws_check.specs.Forms.{IsParsedAs}
use Rattle.laws_lines.specs.Stated.{IsStatedAs, stated_at}
use Rattle.laws_lines.proofs.HookMessages.{at}

-- the line states the event at that timestamp
pub record Says (line moment : List ℕ) (event : Event) : Type 0 where
  pub text : List ℕ
  pub line_is : line ≡ text ++ 10 ∷ []
  pub no_feed : line_feeds text ≡ 0
  pub says : tree_of text >>= message_of text ≡ Some (at moment event)

pub says_of : (line moment : List ℕ) (tree : Data) (event : Event) → IsParsedAs line tree → ((raw : List ℕ) → message_of raw tree ≡ Some (at moment event)) → Says line moment event
says_of line moment tree event read says = record {
  text = read.text;
  line_is = read.line_is;
  no_feed = read.no_feed;
  says = ap (λ (o : Option Data). o >>= message_of read.text) read.tree_is ∙ says read.text;
}

-- with the second of the timestamp
pub stated_of : (line moment : List ℕ) (seconds : ℕ) (event : Event) → option_map nearest_second (instant_of moment) ≡ Some (pos seconds) → Says line moment event → IsStatedAs line (stated_at seconds event)
stated_of line moment seconds event second is = record {
  text = is.text;
  line_is = is.line_is;
  no_feed = is.no_feed;
  stated = ap (λ (o : Option StatedMessage). option_map_or Message o (without_message false is.text))
      (is.says ∙ ap (λ s. Some (record { second = s; event = event })) second);
}
