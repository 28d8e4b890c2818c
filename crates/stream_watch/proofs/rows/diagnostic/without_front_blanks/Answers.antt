use Rattle.std.proofs.Common.{◌≡◌, ◌∙◌, ◌<◌, ℕ, ap, arith, drop, false, get_or, length, sym, true}
use Rattle.std.proofs.lemmas.Bool.Decides.{nat_tests}
use Rattle.std.proofs.lemmas.List.{take_rest}
use Rattle.std.proofs.lemmas.List.Sums.{prefix_len_is}
use Rattle.std.specs.List.{prefix_len}
use Rattle.term_text.specs.Fitting.{is_blank}
use Rattle.stream_watch.proofs.rows.diagnostic.without_front_blanks.Goals as goal
use Rattle.stream_watch.proofs.rows.diagnostic.without_front_blanks.Goals.{then-front-test+else-line-len-eq32, else-front-test}

pub returns : goal.returns
returns c =
    let line = c.args.line.now in
    let len = c.front.len in
    let blank : (k : ℕ) → k < len → is_blank (get_or line k 0) ≡ true = λ k below. let is = c.front.invariant.1 k below in grind (arith, nat_tests) in
    let stops : len < length line → is_blank (get_or line len 0) ≡ false = λ below. elim c.front-test.branch [
      | then-front-test+else-line-len-eq32 w ↦ (let bad = w.if-line-len-eq32.false in grind (arith, nat_tests))
      | else-front-test w ↦ (let none = w.front-test.false in absurd (omega (arith, none, below)))
    ] in
    let is : prefix_len is_blank line ≡ len = prefix_len_is is_blank line len 0 c.front.invariant.0 blank stops in
    take_rest line len ∙ ap (λ k. drop k line) (sym is)
