use Rattle.std.proofs.Common.{sym, ◌∙◌, subst}
use Rattle.std.specs.Option.{option_copied}
use Rattle.apply_text.specs.HookLines.{IsPlainId}
use Rattle.apply_text.proofs.HookLines.{plain_text}
use Rattle.apply_text.proofs.cached_parts.hook_fields.is_plain_id.Goals as goal

pub returns-in-Some : goal.returns-in-Some
returns-in-Some c = λ plain. subst (λ id. IsPlainId (option_copied id)) (sym c.in-Some.is) (plain_text _ (sym c.is_plain_text.ensures ∙ plain))
