use Rattle.std.proofs.Common.{◌≡◌, ◌∙◌, ◌<◌, ℕ, ap, arith, drop, false, get_or, length, sym, true}
use Rattle.std.proofs.lemmas.Bool.Decides.{nat_tests}
use Rattle.std.proofs.lemmas.Grind.{get_or_default_zero}
use Rattle.std.proofs.lemmas.List.{take_rest}
use Rattle.std.proofs.lemmas.List.Sums.{prefix_len_is}
use Rattle.std.specs.List.{prefix_len}
use Rattle.term_text.specs.Fitting.{is_blank}
use Rattle.term_text.proofs.wrapping.without_front_blanks.Goals as goal
use Rattle.term_text.proofs.wrapping.without_front_blanks.Goals.{then-front-test+else-characters-len-eq32, else-front-test}

pub returns-clause-value : goal.returns-clause-value
returns-clause-value c =
    let text = c.args.characters.now in
    let len = c.front.len in
    let blank : (k : ℕ) → k < len → is_blank (get_or text k 0) ≡ true = λ k below. let is = c.front.invariant.1 k below in grind (arith, nat_tests) in
    let stops : len < length text → is_blank (get_or text len 0) ≡ false = λ below. elim c.front-test.branch [
      | then-front-test+else-characters-len-eq32 w ↦ (let bad = w.if-characters-len-eq32.false in let at = w.index-characters-len in grind (arith, nat_tests, get_or_default_zero))
      | else-front-test w ↦ (let none = w.front-test.false in absurd (omega (arith, none, below)))
    ] in
    let is : prefix_len is_blank text ≡ len = prefix_len_is is_blank text len 0 c.front.invariant.0 blank stops in
    take_rest text len ∙ ap (λ k. drop k text) (sym is)
