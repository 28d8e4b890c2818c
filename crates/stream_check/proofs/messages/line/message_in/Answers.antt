use Rattle.std.proofs.Common.{length, subst, arith}
use Rattle.apply_json.specs.declared.json_fault.JsonFault.{JsonFault}
use Rattle.apply_json.specs.Parsed.{IsNoTree}
use Rattle.stream_check.specs.MessageView.{message_view}
use Rattle.stream_check.specs.declared.messages.line.TheConstants.{SELECTION}
use Rattle.stream_check.proofs.SlotContents.{given, no_json, message_in_text}
use Rattle.stream_check.proofs.messages.line.message_in.Goals as goal

pub returns-in-Ok : goal.returns-in-Ok
returns-in-Ok c = given message_view c.message_of.result _ _ c.message_of.ensures (message_in_text c.args.find c.args.text.now c.read_line.new.line (let read = c.in-Ok.ensures.ok in (read.0, read.1, read.2 SELECTION c.new-line.ensures)))

pub returns-in-Err-TooLarge : goal.returns-in-Err-TooLarge
returns-in-Err-TooLarge c =
    let why = subst (λ (fault : JsonFault). IsNoTree (length c.args.text.now) fault c.args.text.now) c.in-Err-TooLarge.field-0-is c.in-Err-TooLarge.ensures.err in
    absurd (omega (arith, why))

pub returns-in-Err-NotJson : goal.returns-in-Err-NotJson
returns-in-Err-NotJson c = λ memory.
    let why = subst (λ (fault : JsonFault). IsNoTree (length c.args.text.now) fault c.args.text.now) c.in-Err-NotJson.field-0-is c.in-Err-NotJson.ensures.err in
    no_json c.args.find c.args.text.now why.1

pub read_line-requires : goal.read_line-requires
read_line-requires c = (SELECTION, c.new-line.ensures)
