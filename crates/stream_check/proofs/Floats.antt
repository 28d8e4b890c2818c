-- The objects that report verdicts have no number with a point.
use Rattle.std.proofs.Common.{◌≡◌, ℕ, List, [], ◌∷◌, map, Bool, true, false, Option, Some, None, refl, Ordering, Less, Equal, Greater}
use Rattle.std.specs.Prelude.{◌||◌, codes}
use Rattle.std.specs.Cmp.Lexicographic.{slice_cmp}
use Rattle.std.specs.Ordering.{match_ordering, nat_cmp}
use Rattle.serde_json.specs.Data.{Data, Members, array, boolean, member, no_members, number, object, put, string, unsigned}
use Rattle.serde_json.specs.View.{items_of}
use Rattle.serde_json.specs.Written.{has_float, items_have_float, members_have_float}
use Rattle.stream_check.specs.declared.command.object.Object.{Object}
use Rattle.stream_check.specs.declared.command.object.Object.TheVariants as about
use Rattle.stream_check.specs.declared.command.finding_report.FindingReport.{FindingReport}
use Rattle.stream_check.specs.declared.messages.totals.Totals.{Totals}
use Rattle.stream_check.specs.declared.rules.fault.Fault.{Fault}
use Rattle.stream_check.specs.declared.rules.fault.Fault.TheVariants as fault
use Rattle.stream_check.specs.declared.rules.open_entry.OpenEntry.{OpenEntry}
use Rattle.stream_check.specs.declared.verdict.finding.Finding.{Finding}
use Rattle.stream_check.specs.declared.verdict.whole.Whole.{Whole}
use Rattle.stream_check.specs.Malformed.{path_text}
use Rattle.stream_check.specs.Faults.{line_after, other_of, word_of}
use Rattle.stream_check.specs.Objects.{finding_after, totals_object, with_count, with_finding, with_front, with_plan, with_totals, with_whole}
use Rattle.stream_check.specs.ReportObject.{entry_object, with_detail, with_object, with_report}
use Rattle.stream_check.specs.Unended.{kind_word}
use Rattle.stream_check.specs.Words.{action_word}
use Rattle.term_text.specs.Fronts.{front_of}
use Rattle.term_text.specs.Shown.{readable_text}

first_false : (a b : Bool) → (a || b) ≡ false → a ≡ false
first_false true b h = absurd cc
first_false false b h = refl

second_false : (a b : Bool) → (a || b) ≡ false → b ≡ false
second_false true b h = absurd cc
second_false false b h = h

neither : (a b : Bool) → a ≡ false → b ≡ false → (a || b) ≡ false
neither a b e f = rw (e, f) refl

-- a member more
put_none : (k : List ℕ) (d : Data) (ms : Members) → has_float d ≡ false → members_have_float ms ≡ false → members_have_float (put k d ms) ≡ false
put_none k d no_members here rest = neither (has_float d) false here refl
put_none k d (member l e ms) here rest = at (slice_cmp nat_cmp k l) (put_none k d ms here (second_false (has_float e) (members_have_float ms) rest))
  where
    at : (o : Ordering) → members_have_float (put k d ms) ≡ false → members_have_float (match_ordering o (member k d (member l e ms)) (member l d ms) (member l e (put k d ms))) ≡ false
    at Less later = neither (has_float d) (has_float e || members_have_float ms) here rest
    at Equal later = neither (has_float d) (members_have_float ms) here (second_false (has_float e) (members_have_float ms) rest)
    at Greater later = neither (has_float e) (members_have_float (put k d ms)) (first_false (has_float e) (members_have_float ms) rest) later

-- members without one
pub record Floatless (ms : Members) : Type 0 where
  pub free : members_have_float ms ≡ false

none_yet : Floatless no_members
none_yet = record { free = refl }

one_put : {ms : Members} (k : List ℕ) (d : Data) → has_float d ≡ false → Floatless ms → Floatless (put k d ms)
one_put {ms} k d here rest = record { free = put_none k d ms here rest.free }

text_put : {ms : Members} (k text : List ℕ) → Floatless ms → Floatless (put k (string text) ms)
text_put k text rest = one_put k (string text) refl rest

number_put : {ms : Members} (k : List ℕ) (n : ℕ) → Floatless ms → Floatless (put k (number (unsigned n)) ms)
number_put k n rest = one_put k (number (unsigned n)) refl rest

count_put : {ms : Members} (k : List ℕ) (o : Option ℕ) → Floatless ms → Floatless (with_count k o ms)
count_put k None rest = rest
count_put k (Some n) rest = number_put k n rest

none_in_totals : (totals : Totals) → has_float (totals_object totals) ≡ false
none_in_totals totals = (number_put (codes "remove") totals.removed (number_put (codes "change") totals.changed (number_put (codes "add") totals.added none_yet))).free

-- ---- one part after another

none_found : (f : Finding) → Floatless (with_finding f no_members)
none_found f =
    count_put (codes "passed") f.passed
    (count_put (codes "other") (other_of f.fault)
    (one_put (codes "whole") (boolean false) refl (number_put (codes "line") f.line (text_put (codes "fault") (word_of f.fault) none_yet))))

none_about : {ms : Members} (o : Option Object) → Floatless ms → Floatless (with_object o ms)
none_about None rest = rest
none_about (Some (about.Step action address)) rest = text_put (codes "action") (action_word action) (text_put (codes "address") address.now rest)
none_about (Some (about.Provisioner None address)) rest = text_put (codes "address") address.now rest
none_about (Some (about.Provisioner (Some name) address)) rest = text_put (codes "provisioner") name.now (text_put (codes "address") address.now rest)

none_in_entry : (lines_before : ℕ) (entry : OpenEntry) → has_float (entry_object lines_before entry) ≡ false
none_in_entry lines_before entry = (number_put (codes "line") (line_after lines_before entry.line) (text_put (codes "kind") (kind_word entry.kind) (text_put (codes "address") entry.address.now none_yet))).free

none_in_entries : (lines_before : ℕ) (entries : List OpenEntry) → items_have_float (items_of (map (entry_object lines_before) entries)) ≡ false
none_in_entries lines_before [] = refl
none_in_entries lines_before (entry ∷ entries) =
    neither (has_float (entry_object lines_before entry)) (items_have_float (items_of (map (entry_object lines_before) entries))) (none_in_entry lines_before entry) (none_in_entries lines_before entries)

none_in_front : {ms : Members} (text : List ℕ) (b : Bool) → Floatless ms → Floatless (with_front text b ms)
none_in_front text b rest = one_put (codes "cut_off") (boolean b) refl (text_put (codes "text") (readable_text (front_of 80 text)) rest)

none_in_both : {ms : Members} (stated counted : Totals) → Floatless ms → Floatless (with_totals (codes "counted") counted (with_totals (codes "says") stated ms))
none_in_both stated counted rest =
    one_put (codes "counted") (totals_object counted) (none_in_totals counted) (one_put (codes "says") (totals_object stated) (none_in_totals stated) rest)

none_detailed : {ms : Members} (f : Fault) (report : FindingReport) → Floatless ms → Floatless (with_detail f report ms)
none_detailed fault.NotJson report rest = none_in_front report.text.now report.is_cut_off rest
none_detailed fault.NoType report rest = none_in_front report.text.now report.is_cut_off rest
none_detailed (fault.Malformed path member_fault) report rest = text_put (codes "member") (path_text path) rest
none_detailed (fault.WrongTotals stated counted) report rest = none_in_both stated counted rest
none_detailed (fault.WrongPlanTotals stated counted) report rest = none_in_both stated counted rest
none_detailed fault.Unended report rest = one_put (codes "open") (array (items_of (map (entry_object report.lines_before) report.listed.now))) (none_in_entries report.lines_before report.listed.now) rest
none_detailed fault.Planned report rest = one_put (codes "planned") (array (items_of (map (entry_object report.lines_before) report.listed.now))) (none_in_entries report.lines_before report.listed.now) rest
none_detailed (fault.NoMessage lines) report rest = number_put (codes "lines") lines rest
none_detailed _ report rest = rest

pub none_in_report : (report : FindingReport) → has_float (object (with_report report no_members)) ≡ false
none_in_report report =
    (count_put (codes "runs") report.runs
    (none_detailed report.finding.fault report (none_about report.object (none_found (finding_after report.lines_before report.finding))))).free

plan_put : {ms : Members} (is_plan : Bool) → Floatless ms → Floatless (with_plan is_plan ms)
plan_put true rest = one_put (codes "plan") (boolean true) refl rest
plan_put false rest = rest

pub none_whole : (whole : Whole) → has_float (object (with_whole whole no_members)) ≡ false
none_whole whole =
    (count_put (codes "passed") whole.passed
    (plan_put whole.is_plan
    (one_put (codes "whole") (boolean true) refl
    (number_put (codes "remove") whole.totals.removed
    (number_put (codes "lines") whole.lines
    (one_put (codes "errors") (boolean whole.has_errors) refl
    (number_put (codes "change") whole.totals.changed (number_put (codes "add") whole.totals.added none_yet)))))))).free
