-- The job of the workers as contracts see it.
use Rattle.apply_events.specs.Step.{Work}
use Rattle.apply_hooks.specs.Registry.{rules_of}
use Rattle.apply_run.specs.declared.worker.job.WorkerJob.{WorkerJob}

-- the work of the job
abbrev pub work_of : {a b G : _} {g : _} → WorkerJob a b G g → Work
work_of job = record { plan = job.plan.now; script = job.script.now; hooks = rules_of job.registry.now }
