use Rattle.std.proofs.Common.{[], ◌∙◌, ◌++◌, ap}
use Rattle.std.specs.Prelude.{codes, option_map, option_to_list}
use Rattle.std.specs.List.{slice_split}
use Rattle.std.specs.Option.{option_map_or}
use Rattle.serde_json.specs.View.{view}
use Rattle.apply_json.specs.Tree.{non_empty_text_of}
use Rattle.term_text.specs.LineTexts.{is_line_feed}
use Rattle.stream_watch.specs.SnippetRow.{code_lines, context_words, numbered}
use Rattle.stream_watch.proofs.Told.{further_then, further_to}
use Rattle.stream_watch.proofs.watcher.Watcher.snippet_code.Goals as goal

pub returns : goal.returns
returns c =
    let snippet = view c.args.snippet.now in
    let context = option_to_list (option_map context_words (non_empty_text_of (codes "context") snippet)) in
    further_to _ _ _ _ _ (further_then _ _ _ _ _ _ c.snippet_context.ensures c.in_ok-snippet_lines.ensures)
    (ap (λ number. context ++ numbered number (slice_split is_line_feed c.in-Some.code.now)) c.first_number.ensures
    ∙ ap (λ code. option_map_or (code_lines snippet) code []) c.in-Some.ensures)
