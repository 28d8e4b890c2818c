use Rattle.std.proofs.Common.{refl}
use Rattle.stream_message.proofs.diagnostic_slots.DiagnosticSlots.new.Goals as goal

pub returns : goal.returns
returns c = record {
  is = refl;
  holds = λ texts. record {
    severity = refl;
    address = refl;
    summary = λ selected. refl;
    detail = λ selected. refl;
    range = λ selected. c.new.ensures;
  };
}
