use Rattle.std.proofs.Common.{sym, subst}
use Rattle.std.specs.Str.{IsUtf8}
use Rattle.std.proofs.lemmas.Str.{IsUtf8-append}
use Rattle.apply_text.proofs.line_buffer.LineBuffer.end_line.Goals as goal

pub invariant_of-self : goal.invariant_of-self
invariant_of-self c = subst IsUtf8 (sym c.into_inner.ensures.items) (IsUtf8-append _ _ c.requires.utf8 c.into_inner.ensures.utf8)
