-- How many lines a report has.
use Rattle.std.specs.Prelude.{ℕ, ◌+◌, ◌-◌, ◌==◌, List, Bool, count_by, if◌then◌else◌, length, max, min, nat_lt}
use Rattle.input_validate.specs.Findings.{Reported}

-- the number of lines of a text; a line feed ends each line
abbrev pub line_count : List ℕ → ℕ
line_count text = count_by (λ byte. byte == 10) text

-- how many findings are printed
abbrev pub max_printed : ℕ
max_printed = 1000

-- The number of lines for these many findings: one for each. After 1,000 findings, one line tells
-- how many more there are. Without findings, one line accepts the inputs.
abbrev pub lines_for : (findings : ℕ) → ℕ
lines_for findings = max 1 (min findings (max_printed + 1))

-- the number of lines for the stored findings of a plan, and of a script if one is given
abbrev pub lines_of : (plan script : Reported) → (has_script : Bool) → ℕ
lines_of plan script has_script =
    min max_printed (length plan.stored) + (if has_script then min (max_printed - length plan.stored) (length script.stored) else 0)
    + (if nat_lt max_printed (plan.count + script.count) then 1 else 0)
