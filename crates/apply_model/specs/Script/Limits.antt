-- The limits of a step of a script (the script's own format).
use Rattle.std.specs.Prelude.{ℕ}

-- The longest time of a step with all its provisioners, in seconds: one day.
abbrev pub max_seconds : ℕ
max_seconds = 86400

-- The most provisioners of a step.
abbrev pub max_provisioners : ℕ
max_provisioners = 8

-- The most texts that a provisioner prints.
abbrev pub max_outputs : ℕ
max_outputs = 100

-- The most items of all `after` lists of a script together.
abbrev pub max_waits : ℕ
max_waits = 1000000
