-- What is returned from a run that was given up before anything was taken.
use Rattle.std.specs.Prelude.{◌≡◌}
use Rattle.apply_run.specs.declared.run.NotBegun.{NotBegun}
use Rattle.apply_run.specs.declared.run.NotBegun.TheVariants.{NoThread, OutOfMemory}
use Rattle.apply_run.specs.declared.run.prepared.Endpoints.{Endpoints}
use Rattle.apply_writer.specs.declared.stream.StreamWriter.{StreamWriter}

-- the stream is unchanged; if memory was refused, the endpoints are returned unused, so no thread
-- was started with them
abbrev pub GivesBack : {S F : Type 0} → StreamWriter S F → Endpoints → NotBegun S F → Type 0
GivesBack stream endpoints (NoThread back) = back ≡ stream
GivesBack stream endpoints (OutOfMemory back unused) = (back ≡ stream) × (unused ≡ endpoints)
