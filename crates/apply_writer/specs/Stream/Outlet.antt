-- What was written to a sink, until the writing stopped.
use Rattle.std.specs.Prelude.{◌≡◌, ℕ, ◌+◌, List, ◌++◌, length, Option}
use Rattle.std.specs.Io.KnownBytes.{Appends}
use mathlib.Core.List.{IsPrefix}
use Rattle.apply_writer.specs.declared.stream.output.Output.{Output}
use Rattle.apply_writer.specs.declared.stream.output.WriteState.{WriteState}
use Rattle.apply_writer.specs.declared.stream.output.WriteState.TheVariants.{Open, Failed, OutOfMemory}

-- an output: whether it is still written to, the bytes of its sink, the failed writes, and the
-- number of bytes written
pub record Outlet : Type 0 where
  pub state : WriteState
  pub bytes : Option (List ℕ)
  pub failures : ℕ
  pub written : ℕ

-- an output, from what its sink reveals
abbrev pub outlet_of : {S : Type 0} → (bytes : S → Option (List ℕ)) → (failed : S → ℕ) → Output S → Outlet
outlet_of bytes failed output = record {
  state = output.state;
  bytes = bytes output.sink;
  failures = failed output.sink;
  written = output.written;
}

-- how many writes failed before the writing reached this state
abbrev pub failed_writes : WriteState → ℕ
failed_writes Open = 0
failed_writes Failed = 1
failed_writes OutOfMemory = 0

-- the state after memory was refused for the next line
abbrev pub stop_for_memory : WriteState → WriteState
stop_for_memory Open = OutOfMemory
stop_for_memory Failed = Failed
stop_for_memory OutOfMemory = OutOfMemory

-- since the sink had these bytes and so many failures, all of the bytes were written, or a prefix
-- of them if the writing stopped
pub record HasWritten (before : Option (List ℕ)) (failures : ℕ) (all : List ℕ) (outlet : Outlet) : Type 0 where
  pub part : List ℕ
  pub is_prefix : IsPrefix part all
  pub whole : outlet.state ≡ Open → part ≡ all
  pub appended : Appends before outlet.bytes part
  pub counted : outlet.written ≡ length part
  pub failed : outlet.failures ≡ failures + failed_writes outlet.state

-- these bytes were written after all that was written before
abbrev pub Writes : (old new : Outlet) → (bytes : List ℕ) → Type 0
Writes old new bytes = (before : Option (List ℕ)) (failures : ℕ) (all : List ℕ)
    → HasWritten before failures all old → HasWritten before failures (all ++ bytes) new

-- no write has failed, and nothing was written since
pub record IsRefused (old new : Outlet) : Type 0 where
  pub none_failed : failed_writes old.state ≡ 0
  pub bytes : new.bytes ≡ old.bytes
  pub failures : new.failures ≡ old.failures
  pub written : new.written ≡ old.written
