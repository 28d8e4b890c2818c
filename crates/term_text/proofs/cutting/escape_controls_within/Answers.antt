use Rattle.std.proofs.Common.{◌≡◌, ◌++◌, List, ℕ, length, arith, rules, ap, subst, ◌∙◌, string_bytes, string_len, IfOk}
use Rattle.std.proofs.lemmas.Str.{IsUtf8-string_bytes}
use Rattle.term_text.specs.Shown.{shown_text}
use Rattle.term_text.proofs.Texts.{all_added, none_left}
use Rattle.term_text.proofs.Rooms.{cut_text-short, cut_text-long}
use Rattle.term_text.proofs.cutting.escape_controls_within.Goals as goal

pub returns-then-len-limit : goal.returns-then-len-limit
returns-then-len-limit c =
    let size : string_len c.push_until.new.text ≡ length (string_bytes c.push_until.new.text) = search rules in
    let whole = c.in_ok-push_until.ensures.added.1 ∙ ap (λ t. t ++ shown_text c.args.bytes.now) c.new-text.ensures.bytes in
    cut_text-short c.args.limit _ _ (omega (arith, c.len.ensures)) (all_added c.in_ok-push_until.ensures.added.0 _ _ _ (none_left _ (λ some. let past = c.in_ok-push_until.ensures.enough some in omega (arith, c.len.ensures))) whole)

pub returns : goal.returns
returns c =
    let size : string_len c.push_until.new.text ≡ length (string_bytes c.push_until.new.text) = search rules in
    let whole = c.in_ok-push_until.ensures.added.1 ∙ ap (λ t. t ++ shown_text c.args.bytes.now) c.new-text.ensures.bytes in
    let cut = cut_text-long c.args.limit _ _ _ (IsUtf8-string_bytes c.push_until.new.text) (omega (arith, c.len.ensures)) whole in
    subst (λ (bytes : List ℕ). IfOk c.cut.result (λ text. string_bytes text ≡ bytes)) cut c.cut.ensures
