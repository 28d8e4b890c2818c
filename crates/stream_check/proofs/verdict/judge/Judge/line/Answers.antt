use Rattle.std.proofs.Common.{◌≡◌, sym, ◌∙◌, refl, ℕ, List, Ok, Err, subst}
use Rattle.stream_check.specs.Checking.{Continues}
use Rattle.stream_check.specs.Lines.{read_line}
use Rattle.stream_check.proofs.Judging.{after_fault, none_of, on_ok_to, still_found, with_line}
use Rattle.stream_check.proofs.verdict.judge.Judge.line.Goals as goal

pub returns-then-is_some : goal.returns-then-is_some
returns-then-is_some c = λ mode texts judged. still_found mode c.args.self.now texts c.args.line.now.text.items (sym c.is_some.ensures ∙ c.if-is_some.true) judged

pub returns-in-Ok : goal.returns-in-Ok
returns-in-Ok c = λ mode texts judged.
    let goes = subst (λ (text : List ℕ). Continues c.args.self.now.checker c.line.new.self (λ messages. read_line c.args.self.now.mode.find messages text) (Ok c.in-Ok.field-0)) c.deref.ensures.value c.in-Ok.ensures in
    with_line mode c.args.self.now (record { alloc = c.args.self.now.alloc; mode = c.args.self.now.mode; checker = c.line.new.self; found = c.args.self.now.found }) texts c.args.line.now.text.items c.in-Ok.field-0
    (none_of c.args.self.now.found (sym c.is_some.ensures ∙ c.if-is_some.false)) refl refl goes judged

pub returns-in-Err : goal.returns-in-Err
returns-in-Err c =
    let refuses = subst (λ (text : List ℕ). Continues c.args.self.now.checker c.line.new.self (λ messages. read_line c.args.self.now.mode.find messages text) (Err c.in-Err.fault)) c.deref.ensures.value c.in-Err.ensures in
    on_ok_to c.find_fault.result _ _
    (λ finds. λ mode texts judged. after_fault mode c.args.self.now c.find_fault.new.self c.line.new.self texts c.args.line.now.text.items c.in-Err.fault
    (none_of c.args.self.now.found (sym c.is_some.ensures ∙ c.if-is_some.false)) c.find_fault.ensures.mode refuses finds judged)
    c.find_fault.ensures.found
