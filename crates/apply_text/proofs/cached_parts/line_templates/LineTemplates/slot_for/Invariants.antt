use Rattle.std.proofs.Common.{◌-◌, length}
use Rattle.apply_text.proofs.cached_parts.line_templates.LineTemplates.slot_for.Given as goal

abbrev pub decreases-loop-self : goal.decreases-loop-self
decreases-loop-self g l = 64 - length l.self.templates.items
