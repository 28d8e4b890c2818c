use Rattle.std.proofs.Common.{sym, subst}
use Rattle.std.specs.Str.{IsUtf8}
use Rattle.apply_text.proofs.LinesAdded.{still_utf8}
use Rattle.apply_text.proofs.line_buffer.LineBuffer.push_line_feed.Goals as goal

pub invariant_of-self : goal.invariant_of-self
invariant_of-self c = subst IsUtf8 (sym c.extend_from_slice.ensures.items) (still_utf8 _ _ c.self.invariant)
