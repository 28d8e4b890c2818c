-- What can be done at each stage, and the stage after it.
use Rattle.std.specs.Prelude.{Bool, true, false, Result, Ok, Err, ℕ, ◌==◌, if◌then◌else◌}
use Rattle.std.specs.declared.io.Error.{Error}
use Rattle.stream_ahead.specs.declared.stage.Stage.{Stage}
use Rattle.stream_ahead.specs.declared.stage.Stage.TheVariants.{Idle, Wanted, Bytes, Failed, End}

-- whether bytes can be taken
abbrev pub has_bytes : Stage → Bool
has_bytes Bytes = true
has_bytes _ = false

-- whether a read returns at once: with bytes, an error or the end
abbrev pub is_ready : Stage → Bool
is_ready Bytes = true
is_ready (Failed error) = true
is_ready End = true
is_ready _ = false

-- whether the thread has to wait until something is taken or asked for
abbrev pub is_at_rest : Stage → Bool
is_at_rest Idle = true
is_at_rest Bytes = true
is_at_rest (Failed error) = true
is_at_rest _ = false

-- the stage after a read was asked for
abbrev pub asked : Stage → Stage
asked Idle = Wanted
asked stage = stage

-- what a read returns at this stage, where it can take so many bytes
abbrev pub answer_at : Stage → ℕ → Result ℕ Error
answer_at Bytes count = Ok count
answer_at (Failed error) count = Err error
answer_at _ count = Ok 0

-- the stage after a read, where so many bytes are left
abbrev pub taken : Stage → ℕ → Stage
taken Bytes left = if left == 0 then Wanted else Bytes
taken (Failed error) left = Idle
taken stage left = stage

-- the stage after a read of the input gave this
abbrev pub after_read : Result ℕ Error → Stage
after_read (Ok count) = if count == 0 then End else Bytes
after_read (Err error) = Failed error

-- the same, where a read has an effect only if it was wanted
abbrev pub given : Result ℕ Error → Stage → Stage
given outcome Wanted = after_read outcome
given outcome stage = stage
