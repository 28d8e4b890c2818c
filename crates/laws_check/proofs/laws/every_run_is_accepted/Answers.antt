use Rattle.laws_check.proofs.laws.every_run_is_accepted.Goals as goal

pub returns : goal.returns
returns c plans schedule work events ordinary provisioned reads can run =
    c.whole_steps_are_accepted.ensures plans work events ordinary provisioned reads (c.a_run_is_of_whole_steps.ensures schedule work events can run)
