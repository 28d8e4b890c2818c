-- What is handed over.
use Rattle.std.specs.Prelude.{ℕ, List, slice_range}
use Rattle.stream_ahead.specs.declared.handover.Handover.{Handover}

-- the bytes that were read and are not yet taken
abbrev pub waiting : Handover → List ℕ
waiting handover = slice_range handover.bytes.items handover.start handover.end
