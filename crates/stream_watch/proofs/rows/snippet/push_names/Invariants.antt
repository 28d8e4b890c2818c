use denote.Text.{Utf8}
use denote.Shadow.{shadow}
use Rattle.std.proofs.Common.{◌≡◌, map, take}
use Rattle.std.specs.Prelude.{codes}
use Rattle.std.specs.List.{filter_map}
use Rattle.serde_json.specs.View.{view}
use Rattle.term_words.specs.MessageTexts.{AppendsText}
use Rattle.stream_watch.specs.Joined.{before_more, joined}
use Rattle.stream_watch.specs.SnippetRow.{name_of}
use Rattle.stream_watch.proofs.rows.snippet.push_names.Given as goal

abbrev pub invariant-loop-parameter : goal.invariant-loop-parameter
invariant-loop-parameter l = record {
  words : AppendsText l.initial.text l.text (joined (codes ", ") (filter_map name_of (map view (take l.parameter-index l.parameters))));
  is_text : shadow (Utf8 l.before);
  before : l.before ≡ before_more (codes ", ") (filter_map name_of (map view (take l.parameter-index l.parameters)));
}
