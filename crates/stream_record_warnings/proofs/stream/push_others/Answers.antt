use Rattle.std.proofs.Common.{◌≡◌, ◌<◌, ◌≤◌, ◌-◌, [], ◌++◌, Bool, List, ap, arith, cond, false, true, ℕ}
use Rattle.std.specs.Prelude.{codes, nat_lt}
use Rattle.std.specs.Fmt.{decimal}
use Rattle.std.proofs.lemmas.Bool.Decides.{nat_tests}
use Rattle.term_words.proofs.Appended.{text_as, text_none, text_then}
use Rattle.stream_record_warnings.proofs.stream.push_others.Goals as goal

are_more : (n : ℕ) → 1 < n → true ≡ nat_lt 1 n
are_more n above = grind (arith, nat_tests)

is_one : (n : ℕ) → n ≤ 1 → false ≡ nat_lt 1 n
is_one n below = grind (arith, nat_tests)

abbrev words : (more : List ℕ) (n : ℕ) → Bool → List ℕ
words more n are = cond are (codes ", and " ++ (decimal (n - 1) ++ more)) []

pub returns-then-count-gt1 : goal.returns-then-count-gt1
returns-then-count-gt1 c =
    let last = c.text-then-count-gt1.new.self in
    text_as c.args.text.now last _ _ (ap (words c.args.more.now c.args.count) (are_more c.args.count c.if-count-gt1.true))
    (text_then c.args.text.now c.text.new.self last (codes ", and ") _ c.text.ensures
    (text_then c.text.new.self c.number.new.self last _ _ c.number.ensures c.text-then-count-gt1.ensures))

pub returns-else-count-gt1 : goal.returns-else-count-gt1
returns-else-count-gt1 c =
    text_as c.args.text.now c.args.text.now [] _ (ap (words c.args.more.now c.args.count) (is_one c.args.count c.if-count-gt1.false)) (text_none c.args.text.now)
