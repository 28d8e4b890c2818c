use Rattle.apply_run.specs.Worker.WorkerJob.{work_of}
use Rattle.apply_run.proofs.applying.run_prepared.Given as goal

-- the run is named for what it applies, and for its claims and its bus
abbrev pub ghosts-run_workers : goal.ghosts-run_workers
ghosts-run_workers g a = record { work = work_of a.job.now; claims = a.job.now.claims.now; bus = a.endpoints.rx.bus }
