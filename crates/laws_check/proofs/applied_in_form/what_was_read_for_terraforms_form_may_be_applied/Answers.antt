use Rattle.laws_check.proofs.FormRead.{may_be_applied}
use Rattle.laws_check.proofs.applied_in_form.what_was_read_for_terraforms_form_may_be_applied.Goals as goal

pub returns : goal.returns
returns c given stated is =
    may_be_applied given stated is (c.relative_addresses_join_their_module.ensures given.plan stated.plan is.plan_is) (c.each_object_is_named_once.ensures given.plan stated.plan is.plan_is)
    (c.all_but_no_ops_are_planned.ensures given.plan stated.plan stated.details is.plan_is is.details_are).as_many
