-- The report on a stream that is not whole, as an object.
use Rattle.std.specs.Prelude.{ℕ, List, codes, map, Option, Some, None}
use Rattle.serde_json.specs.Data.{Data, Members, array, no_members, object, put as with_member}
use Rattle.serde_json.specs.View.{items_of}
use Rattle.stream_check.specs.declared.command.object.Object.{Object}
use Rattle.stream_check.specs.declared.command.object.Object.TheVariants as about
use Rattle.stream_check.specs.declared.command.finding_report.FindingReport.{FindingReport}
use Rattle.stream_check.specs.declared.rules.fault.Fault.{Fault}
use Rattle.stream_check.specs.declared.rules.fault.Fault.TheVariants as fault
use Rattle.stream_check.specs.declared.rules.open_entry.OpenEntry.{OpenEntry}
use Rattle.stream_check.specs.Malformed.{path_text}
use Rattle.stream_check.specs.Faults.{line_after}
use Rattle.stream_check.specs.Objects.{finding_after, with_count, with_finding, with_front, with_number, with_text, with_totals}
use Rattle.stream_check.specs.Unended.{kind_word}
use Rattle.stream_check.specs.Words.{action_word}

-- one open entry
abbrev pub entry_object : (lines_before : ℕ) → OpenEntry → Data
entry_object lines_before entry =
    object
    (with_number (codes "line") (line_after lines_before entry.line)
    (with_text (codes "kind") (kind_word entry.kind) (with_text (codes "address") entry.address.now no_members)))

abbrev pub entries_array : (lines_before : ℕ) → List OpenEntry → Data
entries_array lines_before entries = array (items_of (map (entry_object lines_before) entries))

abbrev pub with_entries : (name : List ℕ) → (lines_before : ℕ) → List OpenEntry → Members → Members
with_entries name lines_before entries members = with_member name (entries_array lines_before entries) members

-- what the faulty line is about
abbrev pub with_object : Option Object → Members → Members
with_object None members = members
with_object (Some (about.Step action address)) members =
    with_text (codes "action") (action_word action) (with_text (codes "address") address.now members)
with_object (Some (about.Provisioner None address)) members = with_text (codes "address") address.now members
with_object (Some (about.Provisioner (Some name) address)) members =
    with_text (codes "provisioner") name.now (with_text (codes "address") address.now members)

-- the members that only some faults have
abbrev pub with_detail : Fault → FindingReport → Members → Members
with_detail fault.NotJson report members = with_front report.text.now report.is_cut_off members
with_detail fault.NoType report members = with_front report.text.now report.is_cut_off members
with_detail (fault.Malformed path member_fault) report members = with_text (codes "member") (path_text path) members
with_detail (fault.WrongTotals stated counted) report members =
    with_totals (codes "counted") counted (with_totals (codes "says") stated members)
with_detail (fault.WrongPlanTotals stated counted) report members =
    with_totals (codes "counted") counted (with_totals (codes "says") stated members)
with_detail fault.Unended report members = with_entries (codes "open") report.lines_before report.listed.now members
with_detail fault.Planned report members = with_entries (codes "planned") report.lines_before report.listed.now members
with_detail (fault.NoMessage lines) report members = with_number (codes "lines") lines members
with_detail _ report members = members

abbrev pub with_details : FindingReport → Members → Members
with_details report members = with_detail report.finding.fault report members

abbrev pub with_report : FindingReport → Members → Members
with_report report members =
    with_count (codes "runs") report.runs
    (with_details report (with_object report.object (with_finding (finding_after report.lines_before report.finding) members)))
