use Rattle.std.proofs.Common.{refl}
use Rattle.stream_message.proofs.line_slots.LineSlots.new.Goals as goal

pub returns : goal.returns
returns c = record {
  selection_is = refl;
  head = c.new.ensures;
  terraform = λ selected. refl;
  hook = λ selected. (c.new-2.ensures.is, c.new-2.ensures.holds);
  change = λ selected. (c.new-3.ensures.is, c.new-3.ensures.holds);
  changes = λ selected. (c.new-4.ensures.is, c.new-4.ensures.holds);
  diagnostic = λ selected. (c.new-5.ensures.is, c.new-5.ensures.holds c.args.selection.diagnostic_texts);
}
