-- A diagnostic is told whole.
use Rattle.std.proofs.Common.{◌≡◌, ◌∙◌, ℕ, ℤ, List, ◌++◌, ◌&&◌, Bool, true, Option, Some, ap, append_assoc, codes, is_some, option_and_then, option_map, refl, subst, sym, unwrap_or}
use Rattle.serde_json.specs.Data.{Data}
use Rattle.apply_json.specs.Tree.{◌>>=◌, member_of, text_of}
use Rattle.stream_message.specs.Kinds.{kind_named}
use Rattle.stream_watch.specs.Clock.{elapsed}
use Rattle.stream_watch.specs.DiagnosticRow.{address_of, body_lines, diagnostic_words, severity_mark, severity_told}
use Rattle.stream_watch.specs.FurtherLines.{further_lines}
use Rattle.stream_watch.specs.Progress.{is_due}
use Rattle.stream_watch.specs.Reading.{message_of}
use Rattle.stream_watch.specs.RefreshRow.{reported_told}
use Rattle.stream_watch.specs.State.{State, Told, line_at, told_then}
use Rattle.stream_watch.specs.Telling.{at_moment, kind_told, message_or_line_told, moment_of, other_told, text_told, told_at, under_way_told_if}
use Rattle.stream_watch.specs.declared.clock.Clock.{Clock}
use Rattle.stream_watch.specs.declared.looks.Looks.{Looks}
use Rattle.laws_watch.specs.Diagnostics.{HasDiagnostic, IsToldAs, diagnostic_rows}
use Rattle.laws_watch.specs.Rows.{rows_bytes}
use Rattle.laws_watch.specs.Told.{report_rows, tells_under_way, under_way_after}
use Rattle.laws_watch.proofs.KindRows.{reads_keep}
use Rattle.laws_watch.proofs.LineRows.{told_as, under_way_rows_are}
use Rattle.laws_watch.proofs.Own.{KeepsTime, report_is}
use Rattle.laws_watch.proofs.RowBytes.{line_and_further_bytes}

-- the row of the diagnostic
severity_told_at : (looks : Looks) (state : State) (find : Bool) (line : List ℕ) (tree diagnostic : Data) (severity : List ℕ) (moment : Option ℤ)
    → text_of (codes "type") tree ≡ Some (codes "diagnostic") → member_of (codes "diagnostic") tree ≡ Some diagnostic
    → text_of (codes "severity") diagnostic ≡ Some severity
    → told_at looks state find line tree moment ≡ severity_told looks state severity diagnostic
severity_told_at looks state find line tree diagnostic severity moment kind member word =
    let other = other_told looks line tree state in
    let time = unwrap_or moment state.clock.now in
    let told = λ (d : Data). option_map (λ (s : List ℕ). severity_told looks state s d) (text_of (codes "severity") d) in
    ap (λ (o : Option (List ℕ)). unwrap_or (option_and_then (λ name. kind_told looks state find line name tree time (kind_named name)) o) other) kind
    ∙ ap (λ (o : Option Data). unwrap_or (o >>= told) other) member
    ∙ ap (λ (o : Option (List ℕ)). unwrap_or (option_map (λ (s : List ℕ). severity_told looks state s diagnostic) o) other) word

record IsSeverityTold (looks : Looks) (state : State) (severity : List ℕ) (diagnostic : Data) (told : Told) : Type 0 where
  bytes : told.bytes ≡ rows_bytes looks (report_rows (elapsed state.clock) state) ++ rows_bytes looks (diagnostic_rows (elapsed state.clock) severity diagnostic)
  kept : KeepsTime state told.state

severity_is : (looks : Looks) (state : State) (severity : List ℕ) (diagnostic : Data)
    → IsSeverityTold looks state severity diagnostic (severity_told looks state severity diagnostic)
severity_is looks state severity diagnostic =
    let reported = reported_told looks state in
    let report = report_is looks state in
    let m = severity_mark severity in
    let line = line_at looks reported.state m (diagnostic_words severity diagnostic) in
    let lines = further_lines looks m (body_lines diagnostic) in
    let reads = reads_keep (address_of diagnostic) reported.state in
    record {
      bytes = append_assoc reported.bytes line lines
          ∙ ap (λ (v : List ℕ). reported.bytes ++ v) (line_and_further_bytes looks reported.state m m (diagnostic_words severity diagnostic) (body_lines diagnostic))
          ∙ ap (λ (c : Clock). reported.bytes ++ rows_bytes looks (diagnostic_rows (elapsed c) severity diagnostic)) report.kept.clock
          ∙ ap (λ (v : List ℕ). v ++ rows_bytes looks (diagnostic_rows (elapsed state.clock) severity diagnostic)) report.bytes;
      kept = record { clock = reads.clock ∙ report.kept.clock; marks = reads.marks ∙ report.kept.marks };
    }

-- with what is under way
told_with : (looks : Looks) (before state : State) (severity : List ℕ) (diagnostic : Data) (has_moment : Bool) (told : Told) → state.refreshes ≡ before.refreshes
    → told ≡ severity_told looks state severity diagnostic
    → IsToldAs looks before true (λ time. diagnostic_rows time severity diagnostic) (has_moment && is_due told.state) (told_then told (under_way_told_if has_moment looks))
told_with looks before state severity diagnostic has_moment told same is =
    let own = subst (IsSeverityTold looks state severity diagnostic) (sym is) (severity_is looks state severity diagnostic) in
    told_as looks before true (λ time. diagnostic_rows time severity diagnostic) (has_moment && is_due told.state) state told
    (under_way_told_if has_moment looks told.state) same own.kept own.bytes (under_way_rows_are has_moment looks told.state)

message_told_whole : (looks : Looks) (state : State) (find : Bool) (line severity : List ℕ) (diagnostic : Data) (message : Option Data) (tree : Data)
    → message ≡ Some tree → text_of (codes "type") tree ≡ Some (codes "diagnostic") → member_of (codes "diagnostic") tree ≡ Some diagnostic
    → text_of (codes "severity") diagnostic ≡ Some severity
    → IsToldAs looks state true (λ time. diagnostic_rows time severity diagnostic) (under_way_after looks state find line message)
    (message_or_line_told looks state find line message)
message_told_whole looks state find line severity diagnostic message tree is kind member word =
    subst
    (λ (m : Option Data). IsToldAs looks state true (λ time. diagnostic_rows time severity diagnostic) (under_way_after looks state find line m)
    (message_or_line_told looks state find line m)) (sym is)
    (told_with looks state (at_moment (moment_of tree) state) severity diagnostic (is_some (moment_of tree))
    (told_at looks (at_moment (moment_of tree) state) find line tree (moment_of tree)) refl
    (severity_told_at looks (at_moment (moment_of tree) state) find line tree diagnostic severity (moment_of tree) kind member word))

pub diagnostic_told_whole : (looks : Looks) (state : State) (find : Bool) (line severity : List ℕ) (diagnostic : Data)
    → HasDiagnostic find line severity diagnostic
    → IsToldAs looks state true (λ time. diagnostic_rows time severity diagnostic) (tells_under_way looks state find line) (text_told looks state find line)
unfolding text_told
diagnostic_told_whole looks state find line severity diagnostic has =
    message_told_whole looks state find line severity diagnostic (message_of find line) has.tree has.message has.kind has.member has.severity
