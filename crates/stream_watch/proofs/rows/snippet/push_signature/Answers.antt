use Rattle.std.proofs.Common.{◌∙◌, ap, map, sym}
use Rattle.std.specs.Prelude.{option_map}
use Rattle.std.specs.List.{filter_map}
use Rattle.serde_json.specs.View.{view}
use Rattle.term_words.proofs.Appended.{text_as, text_then}
use Rattle.stream_watch.specs.SnippetRow.{name_of}
use Rattle.stream_watch.proofs.Signatures.{signature_with, signature_without}
use Rattle.stream_watch.proofs.rows.snippet.push_signature.Goals as goal

pub returns-in-Some : goal.returns-in-Some
returns-in-Some c =
    let signature = view c.args.signature.now in
    let parameter = view c.in-Some.parameter.now in
    let names = filter_map name_of (map view c.items_of.result.now) in
    text_as c.args.text.now c.push_variadic.new.text _ _
    (signature_with signature parameter names c.push_names-before.result.now (ap (filter_map name_of) c.items_of.ensures) c.push_names-before.ensures.before c.in-Some.ensures)
    (text_then c.args.text.now c.push_names-before.new.text c.push_variadic.new.text _ _ c.push_names-before.ensures.words c.push_variadic.ensures)

pub returns-in_default : goal.returns-in_default
returns-in_default c =
    let signature = view c.args.signature.now in
    let names = filter_map name_of (map view c.items_of.result.now) in
    text_as c.args.text.now c.push_names-before.new.text _ _
    (signature_without signature names (ap (filter_map name_of) c.items_of.ensures) (sym (ap (option_map (λ value. view value.now)) c.in_default.is) ∙ c.member.ensures))
    c.push_names-before.ensures.words
