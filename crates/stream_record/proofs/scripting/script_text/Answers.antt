use Rattle.std.proofs.Common.{◌+◌, Bool, true, subst, sym}
use Rattle.std.specs.Prelude.{codes}
use Rattle.std.proofs.lemmas.Result.{err_from_is_err_and}
use Rattle.term_words.specs.declared.message_text.MessageText.{MessageText}
use Rattle.term_words.proofs.Appended.{text_all}
use Rattle.stream_record.proofs.Begun.{Begun}
use Rattle.stream_record.proofs.EntryTexts.{begun_large, entry_begun, front_is, left, none_begun, whole}
use Rattle.stream_record.proofs.scripting.script_text.Goals as goal
use Rattle.stream_record.proofs.scripting.script_text.Goals.{in-Some+in_ok-check_size, in_default}

pub loop-number-init : goal.loop-number-init
loop-number-init c = record {
  front = codes "{\"changes\":[";
  is = front_is c.args.plan.now.changes c.args.script.now c.args.outputs.now c.args.notes.now;
  has = text_all c.new-text.result c.text.new.self _ c.new-text.ensures c.text.ensures;
}

pub loop-number-preserved : goal.loop-number-preserved
loop-number-preserved c =
    let changes = c.args.plan.now.changes in
    let script = c.args.script.now in
    let outputs = c.args.outputs.now in
    let notes = c.args.notes.now in
    let number = c.loop-number.number in
    let rest = left changes script outputs notes in
    let all = whole changes script outputs notes in
    elim c.match-entry_steps.branch [
      | in-Some+in_ok-check_size w ↦
          let more = entry_begun changes script outputs notes c.loop-number.later number c.change-change.result.now c.change-change.ensures w.in-Some.steps.now
          c.loop-number.text w.push_opening.new.text w.push_entry.new.text w.in-Some.ensures c.loop-number.invariant
          w.push_opening.ensures w.push_entry.ensures in
          subst (λ (later : Bool). Begun (rest later (number + 1)) all c.match-entry_steps.text) (sym w.later-is)
          (subst (λ (text : MessageText). Begun (rest true (number + 1)) all text) (sym w.text-is) more)
      | in_default w ↦
          let same = none_begun changes script outputs notes c.loop-number.later number c.change-change.result.now c.change-change.ensures c.loop-number.text w.in_default.ensures c.loop-number.invariant in
          subst (λ (later : Bool). Begun (rest later (number + 1)) all c.match-entry_steps.text) (sym w.later-is)
          (subst (λ (text : MessageText). Begun (rest c.loop-number.later (number + 1)) all text) (sym w.text-is) same)
    ]

pub returns-in_err-check_size-clause-err : goal.returns-in_err-check_size-clause-err
returns-in_err-check_size-clause-err c =
    let changes = c.args.plan.now.changes in
    let script = c.args.script.now in
    let outputs = c.args.outputs.now in
    let notes = c.args.notes.now in
    let more = entry_begun changes script outputs notes c.loop-number.later c.loop-number.number c.change-change.result.now c.change-change.ensures
    c.in-Some.steps.now c.loop-number.text c.push_opening.new.text c.push_entry.new.text c.in-Some.ensures c.loop-number.invariant
    c.push_opening.ensures c.push_entry.ensures in
    let p = err_from_is_err_and c.from_residual.result c.from_residual.ensures.1 in
    rw (p.1, p.2) (λ known. begun_large changes script outputs notes _ c.push_entry.new.text _ more (c.in_err-check_size.ensures.err known))
