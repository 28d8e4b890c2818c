use Rattle.std.proofs.Common.{◌≡◌, length, map, ap, ◌∙◌}
use Rattle.std.proofs.lemmas.List.{length-map, with_items_is}
use Rattle.input_validate.specs.Findings.{Reported, reported, under}
use Rattle.input_validate.proofs.Collected.{stored_as, reported_under}
use Rattle.input_validate.proofs.findings.list.Findings.under.Goals as goal

pub returns : goal.returns
returns c = λ all e.
    let seen : stored_as c.self.inside.stored.items c.self.inside.count c.self.inside.refuses ≡ reported all = cc (c.self.view_is, e) in
    let long : length c.begin_with.new.stored ≡ c.self.inside.stored.len =
    ap length c.in_ok-begin_with.ensures ∙ length-map c.deref_mut.result.now (under c.args.segment) ∙ c.deref_mut.ensures.len in
    reported_under c.args.segment all _
    (with_items_is c.self.inside.stored c.begin_with.new.stored long ∙ c.in_ok-begin_with.ensures
    ∙ ap (map (under c.args.segment)) (c.deref_mut.ensures.value ∙ ap (λ (t : Reported). t.stored) seen))
    (ap (λ (t : Reported). t.count) seen) (ap (λ (t : Reported). t.refuses) seen)
