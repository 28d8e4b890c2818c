use Rattle.std.proofs.Common.{◌≡◌, ◌+◌, [], ◌∷◌, List, ℕ, length, drop, map, Ok, Err, refl, sym, ap, ◌∙◌, arith, Vec, Global, Result, Option}
use Rattle.stream_check.specs.declared.verdict.finding.Finding.{Finding}
use Rattle.stream_check.specs.declared.verdict.whole.Whole.{Whole}
use Rattle.stream_check.specs.Lines.{at_line, read_line, verdict_after, verdict_of}
use Rattle.stream_check.proofs.Continuing.{line_count}
use Rattle.stream_check.proofs.WholeStream.{finding_at, goes_on, is_done, is_faulty, none_left, one_left, with_one}
use Rattle.stream_check.proofs.verdict.from_lines.check_lines.Goals as goal

abbrev text_of : Vec ℕ Global → List ℕ
text_of line = line.items

pub line-requires : goal.line-requires
line-requires c = let below = c.requires in let count = c.loop-number.invariant.count in omega arith

pub loop-number-init : goal.loop-number-init
loop-number-init c = record { count = line_count c.new-checker.result [] c.new-checker.ensures; read = ([], c.new-checker.ensures, refl) }

abbrev rest_of : List (Vec ℕ Global) → List (List ℕ)
rest_of lines = map text_of lines

pub returns-in-Err : goal.returns-in-Err
returns-in-Err c = λ memory.
    let known = c.loop-number.invariant.read in
    let x = c.index-lines-number.result in
    let rest = drop (c.loop-number.number + 1) c.args.lines.now in
    let left : rest_of (drop c.loop-number.number c.args.lines.now) ≡ x.items ∷ rest_of rest = one_left text_of c.args.lines.now c.loop-number.number x c.loop-number-test.true c.index-lines-number.is in
    let is : verdict_after c.args.mode known.0 (x.items ∷ rest_of rest) ≡ verdict_of c.args.mode (rest_of c.args.lines.now) = ap (verdict_after c.args.mode known.0) (sym left) ∙ known.2 in
    let after = c.in-Err.ensures known.0 known.1 in
    let fault : read_line c.args.mode.find known.0 x.items ≡ Err c.in-Err.fault = ap (read_line c.args.mode.find known.0) (sym c.deref.ensures.value) ∙ after.1 memory in
    let number : length known.0 + 1 ≡ c.loop-number.number + 1 = ap (λ (n : ℕ). n + 1) (sym (line_count c.loop-number.checker known.0 known.1) ∙ c.loop-number.invariant.count) in
    is_faulty c.args.mode known.0 x.items (rest_of rest) (verdict_of c.args.mode (rest_of c.args.lines.now)) c.in-Err.fault fault is
    ∙ ap (λ (n : ℕ). finding_at c.args.mode known.0 n c.in-Err.fault) number
    ∙ ap (λ (o : Option ℕ). let e : Result Whole Finding = Err (record { line = c.loop-number.number + 1; fault = c.in-Err.fault; passed = o }) in e) (sym (c.passed.ensures known.0 after.0))

pub loop-number-preserved : goal.loop-number-preserved
loop-number-preserved c =
    let known = c.loop-number.invariant.read in
    let x = c.index-lines-number.result in
    let rest = drop (c.loop-number.number + 1) c.args.lines.now in
    let left : rest_of (drop c.loop-number.number c.args.lines.now) ≡ x.items ∷ rest_of rest = one_left text_of c.args.lines.now c.loop-number.number x c.loop-number-test.true c.index-lines-number.is in
    let is : verdict_after c.args.mode known.0 (x.items ∷ rest_of rest) ≡ verdict_of c.args.mode (rest_of c.args.lines.now) = ap (verdict_after c.args.mode known.0) (sym left) ∙ known.2 in
    let new = c.in-Ok.ensures known.0 known.1 in
    let read : read_line c.args.mode.find known.0 x.items ≡ Ok new.0 = ap (read_line c.args.mode.find known.0) (sym c.deref.ensures.value) ∙ new.1 in
    let longer : length new.0 ≡ length known.0 + 1 = with_one c.args.mode.find known.0 x.items new.0 read in
    record {
      count = line_count _ new.0 new.2 ∙ longer ∙ ap (λ (n : ℕ). n + 1) (sym (line_count c.loop-number.checker known.0 known.1) ∙ c.loop-number.invariant.count);
      read = (new.0, new.2, goes_on c.args.mode known.0 new.0 x.items (rest_of rest) (verdict_of c.args.mode (rest_of c.args.lines.now)) read is);
    }

pub returns-in-Ok-end : goal.returns-in-Ok-end
returns-in-Ok-end c =
    let known = c.loop-number.invariant.read in
    let is : verdict_after c.args.mode known.0 ([]) ≡ verdict_of c.args.mode (rest_of c.args.lines.now) = ap (verdict_after c.args.mode known.0) (sym (none_left text_of c.args.lines.now c.loop-number.number c.loop-number-test.false)) ∙ known.2 in
    is_done c.args.mode known.0 (verdict_of c.args.mode (rest_of c.args.lines.now)) is ∙ ap (at_line c.args.mode known.0 (length known.0)) (sym (c.in-Ok-end.ensures known.0 known.1))

pub returns : goal.returns
returns c = λ memory.
    let known = c.loop-number.invariant.read in
    let is : verdict_after c.args.mode known.0 ([]) ≡ verdict_of c.args.mode (rest_of c.args.lines.now) = ap (verdict_after c.args.mode known.0) (sym (none_left text_of c.args.lines.now c.loop-number.number c.loop-number-test.false)) ∙ known.2 in
    let number : length known.0 ≡ length c.args.lines.now = let count = c.loop-number.invariant.count in let lines = line_count c.loop-number.checker known.0 known.1 in omega arith in
    is_done c.args.mode known.0 (verdict_of c.args.mode (rest_of c.args.lines.now)) is ∙ ap (at_line c.args.mode known.0 (length known.0)) (sym (c.in-Err-end.ensures known.0 known.1))
    ∙ ap (λ (n : ℕ). finding_at c.args.mode known.0 n c.in-Err-end.fault) number
    ∙ ap (λ (o : Option ℕ). let e : Result Whole Finding = Err (record { line = length c.args.lines.now; fault = c.in-Err-end.fault; passed = o }) in e) (sym (c.passed-in-Err-end.ensures known.0 known.1))
