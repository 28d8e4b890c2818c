use Rattle.std.proofs.Common.{◌≡◌, ◌∙◌, sym, refl}
use Rattle.stream_check.specs.declared.rules.fault.Fault.TheVariants.{TooLong}
use Rattle.stream_check.proofs.Judging.{after_fault, none_of, on_ok_to, still_found}
use Rattle.stream_check.proofs.OneLine.{too_long}
use Rattle.stream_check.proofs.verdict.judge.Judge.too_long.Goals as goal

pub returns-then-is_some : goal.returns-then-is_some
returns-then-is_some c = λ mode texts judged text many. still_found mode c.args.self.now texts text (sym c.is_some.ensures ∙ c.if-is_some.true) judged

pub returns : goal.returns
returns c = on_ok_to c.find_fault.result _ _
    (λ finds. λ mode texts judged text many. after_fault mode c.args.self.now c.find_fault.new.self c.args.self.now.checker texts text TooLong
    (none_of c.args.self.now.found (sym c.is_some.ensures ∙ c.if-is_some.false)) c.find_fault.ensures.mode
    (λ messages has. (has, λ memory. too_long c.args.self.now.mode.find text messages many)) finds judged)
    c.find_fault.ensures.found
