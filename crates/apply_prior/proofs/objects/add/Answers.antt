use Rattle.std.proofs.Common.{filter_map, map, ap, ◌∙◌}
use Rattle.serde_json.specs.Find.{as_str}
use Rattle.serde_json.specs.View.{view}
use Rattle.apply_prior.specs.Objects.{prior_object}
use Rattle.apply_prior.specs.Views.{element_view}
use Rattle.apply_prior.proofs.Gathered.{gathered, with_id}
use Rattle.apply_prior.proofs.objects.add.Goals as goal

pub returns : goal.returns
returns c drifts before holds =
    let o = c.args.objects.now in
    let object = element_view c.args.object.now in
    let texts = filter_map as_str (map view c.args.depends_on.now) in
    let all = gathered o.seen c.insert.new.self c.id.result (prior_object drifts object texts) before o.objects.items c.push.new.self.items c.in_ok-prior.prior c.in_ok-insert.field-0 c.id.ensures.address
    c.id.ensures.deposed holds.set c.in_ok-insert.ensures.fresh c.if-not-branch.false c.in_ok-insert.ensures.added holds.stored c.in_ok-push.ensures.items (c.in_ok-prior.ensures ∙ ap (with_id object texts) (c.id_before-id_before.ensures drifts holds.ids)) in
    record { stored = all.0; set = all.1; ids = holds.ids }
