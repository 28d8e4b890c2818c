use Rattle.std.proofs.Common.{◌≡◌, ◌++◌, ℕ, List, Result, Ok, Err, OnOk, codes, is_ok, if◌then◌else◌, ap, ◌∙◌, append_assoc, string_bytes}
use Rattle.term_text.specs.Shown.{shown_text}
use Rattle.apply_cli.specs.Unmatched.{unmatched_line}
use Rattle.apply_cli.proofs.unmatched.push_line.Goals as goal

-- three pieces, one after the other
pieces : {E : Type 0} (last : Result (Unit {0}) E) (old a b c one two new : List ℕ) → one ≡ old ++ a → two ≡ one ++ b → new ≡ (if is_ok last then two ++ c else two)
    → OnOk last (new ≡ old ++ (a ++ b ++ c))
pieces (Ok done) old a b c one two new first second third = third ∙ ap (λ xs. xs ++ c) (second ∙ ap (λ xs. xs ++ b) first) ∙ simp append_assoc
pieces (Err refused) old a b c one two new first second third = tt

pub returns : goal.returns
unfolding unmatched_line
returns c =
    pieces c.push_str-2.result (string_bytes c.args.lines.now) (codes "applystream: --halt-in ") (shown_text c.args.prefix.now) (codes ": no address of the plan begins with it\n")
    (string_bytes c.push_str.new.self) (string_bytes c.push_controls_escaped.new.text) (string_bytes c.push_str-2.new.self)
    c.in_ok-push_str.ensures.bytes
    (c.in_ok-push_controls_escaped.ensures.ok ∙ ap (λ bytes. string_bytes c.push_str.new.self ++ shown_text bytes) c.as_bytes.ensures.value)
    c.push_str-2.ensures.bytes
