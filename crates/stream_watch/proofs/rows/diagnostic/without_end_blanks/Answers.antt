use Rattle.std.proofs.Common.{◌≡◌, ◌-◌, ◌<◌, ◌≤◌, ℕ, ap, arith, false, get_or, length, take, true}
use Rattle.std.proofs.lemmas.Bool.Decides.{nat_tests}
use Rattle.std.proofs.lemmas.List.Sums.{suffix_len_is}
use Rattle.std.specs.List.{suffix_len}
use Rattle.term_text.specs.Fitting.{is_blank}
use Rattle.stream_watch.proofs.rows.diagnostic.without_end_blanks.Goals as goal
use Rattle.stream_watch.proofs.rows.diagnostic.without_end_blanks.Goals.{then-back-test+else-line-len-eq32, else-back-test}

pub returns : goal.returns
returns c =
    let line = c.args.line.now in
    let len = c.back.len in
    let within = c.back.invariant.0 in
    let blank : (k : ℕ) → len ≤ k → k < length line → is_blank (get_or line k 0) ≡ true =
    λ k from below. let is = c.back.invariant.1 k from below in grind (arith, nat_tests) in
    let stops : 0 < len → is_blank (get_or line (len - 1) 0) ≡ false = λ some. elim c.back-test.branch [
      | then-back-test+else-line-len-eq32 w ↦ (let bad = w.if-line-len-eq32.false in grind (arith, nat_tests))
      | else-back-test w ↦ (let none = w.back-test.false in absurd (omega (arith, none, some)))
    ] in
    let is : suffix_len is_blank line ≡ length line - len = suffix_len_is is_blank line len 0 within blank stops in
    ap (λ k. take k line) (omega (arith, is, within))
