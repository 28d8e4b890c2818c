use Rattle.std.proofs.Common.{sym, ap, ◌∙◌}
use Rattle.std.specs.Option.{option_copied}
use Rattle.apply_planning_script.proofs.Clashes.{members_are, zip_some}
use Rattle.apply_planning_script.proofs.raw_item.RawItem.of.Goals as goal

pub returns : goal.returns
returns c =
    let w = zip_some c.zip-scalars.result c.args.slots.failed _ _ (sym c.in-Some.is ∙ c.zip.ensures) in
    let z = zip_some c.zip-texts.result c.zip-others.result _ _ (sym w.0 ∙ c.zip-scalars.ensures) in
    let t = zip_some c.zip-names.result c.text_or-2.result _ _ (sym z.0 ∙ c.zip-texts.ensures) in
    let n = zip_some c.filled_text.result c.text_or.result _ _ (sym t.0 ∙ c.zip-names.ensures) in
    let o = zip_some c.number_or_none.result c.zip-flags.result _ _ (sym z.1 ∙ c.zip-others.ensures) in
    let f = zip_some c.flag_or_false.result c.flag_or_false-2.result _ _ (sym o.1 ∙ c.zip-flags.ensures) in
    c.with.ensures
    ∙ rw (c.non_empty-deposed.ensures, c.non_empty-id.ensures)
    (members_are c.args.slots c.in-Some.address.now c.in-Some.deposed.now c.in-Some.id.now c.in-Some.seconds c.in-Some.is_gone c.in-Some.is_skipped c.in-Some.failure
    (sym c.filled_text.ensures ∙ ap option_copied n.0) (sym c.text_or.ensures ∙ ap option_copied n.1) (sym c.text_or-2.ensures ∙ ap option_copied t.1)
    (sym c.number_or_none.ensures ∙ o.0) (sym c.flag_or_false.ensures ∙ f.0) (sym c.flag_or_false-2.ensures ∙ f.1) w.1)
