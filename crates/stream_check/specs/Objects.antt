-- The members of the objects that report verdicts. Each member is put where its name belongs in the
-- order of bytes.
use Rattle.std.specs.Prelude.{ℕ, List, codes, Bool, true, false, if◌then◌else◌, Option, Some, None}
use Rattle.serde_json.specs.Data.{Data, Members, boolean, no_members, number, object, put as with_member, string, unsigned}
use Rattle.stream_check.specs.declared.messages.totals.Totals.{Totals}
use Rattle.stream_check.specs.declared.verdict.finding.Finding.{Finding}
use Rattle.stream_check.specs.declared.verdict.whole.Whole.{Whole}
use Rattle.stream_check.specs.Faults.{fault_after, line_after, other_of, word_of}
use Rattle.term_text.specs.Fronts.{front_of}
use Rattle.term_text.specs.Shown.{readable_text}

abbrev pub with_text : (name text : List ℕ) → Members → Members
with_text name text members = with_member name (string text) members

abbrev pub with_number : (name : List ℕ) → ℕ → Members → Members
with_number name n members = with_member name (number (unsigned n)) members

-- a count, where there is one
abbrev pub with_count : (name : List ℕ) → Option ℕ → Members → Members
with_count name None members = members
with_count name (Some n) members = with_number name n members

-- totals
abbrev pub totals_object : Totals → Data
totals_object totals =
    object
    (with_number (codes "remove") totals.removed
    (with_number (codes "change") totals.changed (with_number (codes "add") totals.added no_members)))

abbrev pub with_totals : (name : List ℕ) → Totals → Members → Members
with_totals name totals members = with_member name (totals_object totals) members

-- `plan` for the stream of a plan
abbrev pub with_plan : Bool → Members → Members
with_plan is_plan members = if is_plan then with_member (codes "plan") (boolean true) members else members

-- the members of a verdict on a whole stream
abbrev pub with_whole : Whole → Members → Members
with_whole whole members =
    with_count (codes "passed") whole.passed
    (with_plan whole.is_plan
    (with_member (codes "whole") (boolean true)
    (with_number (codes "remove") whole.totals.removed
    (with_number (codes "lines") whole.lines
    (with_member (codes "errors") (boolean whole.has_errors)
    (with_number (codes "change") whole.totals.changed (with_number (codes "add") whole.totals.added members)))))))

-- the finding, with the numbers of lines in the input
abbrev pub finding_after : (lines : ℕ) → Finding → Finding
finding_after lines finding = record { line = line_after lines finding.line; fault = fault_after lines finding.fault; passed = finding.passed }

-- the fault and its line, with the line that the faulty one contradicts
abbrev pub with_finding : Finding → Members → Members
with_finding finding members =
    with_count (codes "passed") finding.passed
    (with_count (codes "other") (other_of finding.fault)
    (with_member (codes "whole") (boolean false)
    (with_number (codes "line") finding.line (with_text (codes "fault") (word_of finding.fault) members))))

-- the first 80 bytes of a line that is no message, and whether it is cut off
abbrev pub with_front : (text : List ℕ) → (is_cut_off : Bool) → Members → Members
with_front text is_cut_off members =
    with_member (codes "cut_off") (boolean is_cut_off) (with_text (codes "text") (readable_text (front_of 80 text)) members)
