use Rattle.std.proofs.Common.{option_map, ap, ap₂, sym, ◌∙◌}
use Rattle.std.specs.Option.{option_zip}
use Rattle.apply_plan.proofs.Plans.Joined.{held, made}
use Rattle.apply_plan.proofs.plan.element.Element.of.Goals as goal

-- the members are joined in the order that the definition of the element uses
pub returns-in_default : goal.returns-in_default
returns-in_default c =
    let parts = ap₂ option_zip (ap₂ option_zip c.zip-kinds.ensures c.zip-names.ensures) (ap₂ option_zip c.zip-places.ensures c.zip-others.ensures) in
    let is = held c.args.slots.now _ _ _ _ _ _ _ c.text.ensures c.mode_of.ensures c.filled_text.ensures c.filled_text-2.ensures c.text_or.ensures c.index_key.ensures c.text_or-2.ensures in
    sym (is ∙ sym (ap (option_map made) (c.zip-3.ensures ∙ ap₂ option_zip c.zip.ensures c.zip-2.ensures ∙ parts)) ∙ ap (option_map made) c.in_default.is)

pub returns : goal.returns
returns c =
    let parts = ap₂ option_zip (ap₂ option_zip c.zip-kinds.ensures c.zip-names.ensures) (ap₂ option_zip c.zip-places.ensures c.zip-others.ensures) in
    let is = held c.args.slots.now _ _ _ _ _ _ _ c.text.ensures c.mode_of.ensures c.filled_text.ensures c.filled_text-2.ensures c.text_or.ensures c.index_key.ensures c.text_or-2.ensures in
    rw c.non_empty.ensures (sym (is ∙ sym (ap (option_map made) (c.zip-3.ensures ∙ ap₂ option_zip c.zip.ensures c.zip-2.ensures ∙ parts)) ∙ ap (option_map made) c.in-Some.is))
