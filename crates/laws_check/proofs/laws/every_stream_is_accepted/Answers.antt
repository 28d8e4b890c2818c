use Rattle.laws_check.proofs.laws.every_stream_is_accepted.Goals as goal

pub returns : goal.returns
returns c plans schedule work start events operation ordinary provisioned reads can run read =
    c.every_stream_of_whole_steps_is_accepted.ensures plans work start events operation ordinary provisioned reads (c.a_run_is_of_whole_steps.ensures schedule work events can run) read
