-- Faults as programs see them.
use Rattle.std.specs.Prelude.{ℕ, ◌+◌, List, codes, Bool, true, false, ◌||◌, min, Option, Some, None}
use Rattle.stream_check.specs.declared.rules.fault.Fault.{Fault}
use Rattle.stream_check.specs.declared.rules.fault.Fault.TheVariants as fault

-- the word for the fault
abbrev pub word_of : Fault → List ℕ
word_of fault.TooLong = codes "too_long"
word_of fault.NotJson = codes "not_a_message"
word_of fault.NoType = codes "not_a_message"
word_of (fault.Malformed path member_fault) = codes "malformed"
word_of fault.NoVersion = codes "no_version"
word_of (fault.VersionAgain line) = codes "version_again"
word_of (fault.AfterSummary line) = codes "after_summary"
word_of (fault.PlanAgain line) = codes "plan_again"
word_of fault.OutputsAlone = codes "outputs_alone"
word_of (fault.StartsAgain line) = codes "starts_again"
word_of (fault.TooMany line) = codes "too_many"
word_of fault.NotPlanned = codes "not_planned"
word_of fault.NotOpen = codes "not_open"
word_of (fault.NotLater line) = codes "not_later"
word_of (fault.LeavesProvisioner line) = codes "leaves_provisioner"
word_of fault.NoStep = codes "no_step"
word_of (fault.ProvisionerRuns line) = codes "provisioner_runs"
word_of fault.NoProvisioner = codes "no_provisioner"
word_of fault.Unended = codes "unended"
word_of fault.Planned = codes "planned"
word_of (fault.WrongTotals stated counted) = codes "wrong_totals"
word_of (fault.WrongPlanTotals stated counted) = codes "wrong_totals"
word_of fault.NoEnd = codes "no_end"
word_of fault.NoApply = codes "no_end"
word_of (fault.NoMessage lines) = codes "no_message"
word_of fault.Memory = codes "memory"

-- the line that the faulty one contradicts
abbrev pub other_of : Fault → Option ℕ
other_of (fault.VersionAgain line) = Some line
other_of (fault.AfterSummary line) = Some line
other_of (fault.PlanAgain line) = Some line
other_of (fault.StartsAgain line) = Some line
other_of (fault.TooMany line) = Some line
other_of (fault.NotLater line) = Some line
other_of (fault.LeavesProvisioner line) = Some line
other_of (fault.ProvisionerRuns line) = Some line
other_of _ = None

-- the number of a line in an input with so many lines before the stream; it stays a number of 64
-- bits
abbrev pub line_after : (lines line : ℕ) → ℕ
line_after lines line = min (lines + line) 18446744073709551615

-- the fault, with the numbers of lines in the input
abbrev pub fault_after : (lines : ℕ) → Fault → Fault
fault_after lines (fault.VersionAgain line) = fault.VersionAgain (line_after lines line)
fault_after lines (fault.AfterSummary line) = fault.AfterSummary (line_after lines line)
fault_after lines (fault.PlanAgain line) = fault.PlanAgain (line_after lines line)
fault_after lines (fault.StartsAgain line) = fault.StartsAgain (line_after lines line)
fault_after lines (fault.TooMany line) = fault.TooMany (line_after lines line)
fault_after lines (fault.NotLater line) = fault.NotLater (line_after lines line)
fault_after lines (fault.LeavesProvisioner line) = fault.LeavesProvisioner (line_after lines line)
fault_after lines (fault.ProvisionerRuns line) = fault.ProvisionerRuns (line_after lines line)
fault_after lines given = given

-- the report has the front of the faulty line
abbrev pub reports_front : Fault → Bool
reports_front fault.NotJson = true
reports_front fault.NoType = true
reports_front _ = false

-- the message of the faulty line is no JSON
abbrev pub is_no_json : Fault → Bool
is_no_json fault.NotJson = true
is_no_json _ = false

-- the report names what the faulty line is about
abbrev pub reports_object : Fault → Bool
reports_object fault.TooLong = false
reports_object fault.NotJson = false
reports_object fault.NoType = false
reports_object (fault.Malformed path member_fault) = false
reports_object fault.Unended = false
reports_object fault.Planned = false
reports_object (fault.WrongTotals stated counted) = false
reports_object (fault.WrongPlanTotals stated counted) = false
reports_object fault.NoEnd = false
reports_object fault.NoApply = false
reports_object (fault.NoMessage lines) = false
reports_object fault.Memory = false
reports_object _ = true

-- the report has something of the faulty line
abbrev pub reports_line : Fault → Bool
reports_line fault = reports_front fault || reports_object fault
