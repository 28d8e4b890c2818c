use Rattle.std.proofs.Common.{◌≡◌, ap, length, arith, rules, string_bytes, take, ◌∙◌}
use Rattle.std.specs.Str.{IsCharBoundary}
use Rattle.std.proofs.lemmas.Str.{IsUtf8-string_bytes}
use Rattle.term_text.proofs.Texts.{all_added, preserved_split, none_left}
use Rattle.term_text.proofs.controls.push_controls_escaped.Goals as goal

pub truncate-requires : goal.truncate-requires
truncate-requires c = λ short.
    let before : c.len-before.result ≡ length (string_bytes c.args.text.now) = c.len-before.ensures ∙ search rules in
    let place = preserved_split _ _ (IsUtf8-string_bytes c.args.text.now) (IsUtf8-string_bytes c.push_until.new.text) c.in-Err.ensures.kept in
    let there : IsCharBoundary (string_bytes c.push_until.new.text) c.len-before.result = rw before place in
    (there.0, λ some. there.1)

pub returns-in-Ok-clause-ok : goal.returns-in-Ok-clause-ok
returns-in-Ok-clause-ok c =
    all_added c.in-Ok.ensures.added.0 _ _ _ (none_left _ (λ some. let past = c.in-Ok.ensures.enough some in omega arith)) c.in-Ok.ensures.added.1

-- what was added before memory was refused is cut off again
pub returns-in-Err-clause-err : goal.returns-in-Err-clause-err
returns-in-Err-clause-err c =
    let before : c.len-before.result ≡ length (string_bytes c.args.text.now) = c.len-before.ensures ∙ c.args.text.now.bytes.ok.0 in
    c.truncate.ensures.bytes ∙ (ap (λ n. take n (string_bytes c.push_until.new.text)) before ∙ c.in-Err.ensures.kept)
