use Rattle.std.proofs.Common.{ℕ, Bool, List, ap, cond, sym, ◌∙◌}
use Rattle.term_text.specs.Fronts.{cut_text}
use Rattle.term_text.specs.Shown.{shown_text}
use Rattle.term_words.proofs.Appended.{text_all, text_as}
use Rattle.stream_watch.specs.State.{line_told, looks_of, nothing, state_of}
use Rattle.stream_watch.specs.declared.mark.Mark.TheVariants as mark
use Rattle.stream_watch.proofs.RowTellings.{empty_is, tells_nothing}
use Rattle.stream_watch.proofs.Tellings.{tells_as}
use Rattle.stream_watch.proofs.watcher.Watcher.passed_text.Goals as goal

pub returns-then-not-is_empty : goal.returns-then-not-is_empty
returns-then-not-is_empty c =
    let before = c.args.self.now in
    let looks = looks_of before in
    let state = state_of before in
    let words = cut_text 1024 (shown_text c.args.text.now) in
    let cut = text_as c.new-cut.result c.escaped_within.new.self _ words (ap (λ (bytes : List ℕ). cut_text 1024 (shown_text bytes)) c.as_bytes.ensures.value) c.escaped_within.ensures in
    let line = c.line.ensures words (text_all c.new-cut.result c.escaped_within.new.self words c.new-cut.ensures cut) in
    let some = sym c.if-not-is_empty.true ∙ c.is_empty.ensures ∙ empty_is c.args.text.now in
    tells_as before c.line.new.self _ _ (ap (λ (none : Bool). cond none (nothing state) (line_told looks state mark.Passed words)) some) line

pub returns-else-not-is_empty : goal.returns-else-not-is_empty
returns-else-not-is_empty c =
    let before = c.args.self.now in
    let looks = looks_of before in
    let state = state_of before in
    let words = cut_text 1024 (shown_text c.args.text.now) in
    let none = sym c.if-not-is_empty.false ∙ c.is_empty.ensures ∙ empty_is c.args.text.now in
    tells_as before before _ _ (ap (λ (none : Bool). cond none (nothing state) (line_told looks state mark.Passed words)) none) (tells_nothing before)
