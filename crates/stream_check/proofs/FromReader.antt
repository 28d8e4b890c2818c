-- A stream that is read line by line.
use Rattle.std.proofs.Common.{◌≡◌, ◌≢◌, ◌<◌, ◌^◌, ℕ, suc, ◌+◌, ◌-◌, true, false, cond, List, [], ◌∷◌, length, Bool, Option, Some, None, Result, Ok, Err, refl, sym, ap, ◌∙◌, subst, arith}
use Rattle.std.specs.Prelude.{◌&&◌, ◌||◌, not, IfErr, IfSome, OnSome, option_map}
use Rattle.std.specs.List.{list_any}
use Rattle.std.specs.Io.KnownBytes.{IsAtEnd}
use Rattle.std.specs.Io.BufRead.{drop_through}
use Rattle.stream_check.specs.declared.rules.fault.Fault.{Fault}
use Rattle.stream_check.specs.declared.rules.fault.Fault.TheVariants.{Memory, NoApply, NoEnd, NoMessage, Planned, TooLong, Unended}
use Rattle.stream_check.specs.declared.rules.mode.Mode.{Mode}
use Rattle.stream_check.specs.declared.verdict.finding.Finding.{Finding}
use Rattle.stream_lines.specs.declared.line.LineEnd.{LineEnd}
use Rattle.stream_lines.specs.declared.line.LineEnd.TheVariants as next
use Rattle.stream_check.specs.declared.verdict.read_fault.ReadFault.{ReadFault}
use Rattle.stream_check.specs.declared.verdict.read_fault.ReadFault.TheVariants as read
use Rattle.stream_check.specs.declared.verdict.whole.Whole.{Whole}
use Rattle.stream_check.specs.declared.rules.checker.Checker.{Checker}
use Rattle.stream_check.specs.declared.command.finding_report.FindingReport.{FindingReport}
use Rattle.stream_check.specs.About.{about_line, object_view}
use Rattle.stream_check.specs.Checking.{HasRead}
use Rattle.stream_lines.specs.Cut.{after_lines, first_line, has_feed, cut_lines, feed_at, line_at}
use Rattle.stream_check.specs.Faults.{is_no_json, reports_front, reports_line, reports_object}
use Rattle.stream_check.specs.Judged.{judged, judged_after, Stops, StopsAt}
use Rattle.stream_check.specs.Lines.{apply_end, at_line, end_of, is_plan_stream, is_without_messages, leaves_planned, no_end_of, passed_of, read_line, verdict_after, verdict_of, whole_of, whole_plan_of}
use Rattle.stream_check.specs.Open.{any_open}
use Rattle.stream_check.specs.Tally.{is_error, is_summary}
use Rattle.stream_check.specs.Reports.{AreListed, IsReportOf, runs_from}
use Rattle.stream_check.specs.Message.{Message}
use Rattle.stream_lines.specs.Reading.{Gives}
use Rattle.stream_check.specs.Reading.{IsAnswer, IsFaultAt, IsNoAnswer}
use Rattle.stream_lines.proofs.FirstLine.{cut_first}
use Rattle.stream_check.proofs.OneLine.{too_long}
use Rattle.stream_check.proofs.WholeStream.{finding_at, goes_on, is_done, is_faulty, with_one}

-- after the messages so far, the rest gives the verdict on all, and that many more lines
pub record LeadsTo (mode : Mode) (bytes rest : List ℕ) (messages : List Message) : Type 0 where
  pub verdict : verdict_after mode messages (cut_lines rest) ≡ verdict_of mode (cut_lines bytes)
  pub count : length (cut_lines bytes) ≡ length messages + length (cut_lines rest)
  pub reached : judged_after mode messages (cut_lines rest) ≡ judged mode (cut_lines bytes)
  pub place : rest ≡ after_lines (length messages) bytes

abbrev pub Leads : Mode → (all left : Option (List ℕ)) → List Message → Type 0
Leads mode all left messages = IfSome all (λ bytes. (rest : List ℕ) × (left ≡ Some rest) × LeadsTo mode bytes rest messages)

-- at the start
pub starts : (mode : Mode) (all : Option (List ℕ)) → Leads mode all all []
starts mode None = tt
starts mode (Some bytes) = (bytes, refl, record { verdict = refl; count = omega arith; reached = refl; place = refl })

-- what the reader gives of what is left
pub given : (left rest : Option (List ℕ)) (which : LineEnd) (line xs : List ℕ) → left ≡ Some xs → IfSome left (Gives which line rest) → Gives which line rest xs
given left rest which line xs is gives = subst (λ (o : Option (List ℕ)). IfSome o (Gives which line rest)) is gives

-- the first line was read, and the rest comes after it
pub record Ahead (mode : Mode) (messages : List Message) (bytes xs : List ℕ) : Type 0 where
  pub verdict : verdict_after mode messages (first_line xs ∷ cut_lines (drop_through 10 xs)) ≡ verdict_of mode (cut_lines bytes)
  pub count : length (cut_lines bytes) ≡ length messages + (length (cut_lines (drop_through 10 xs)) + 1)
  pub reached : judged_after mode messages (first_line xs ∷ cut_lines (drop_through 10 xs)) ≡ judged mode (cut_lines bytes)

ahead : (mode : Mode) (messages : List Message) (bytes xs : List ℕ) → xs ≢ [] → LeadsTo mode bytes xs messages → Ahead mode messages bytes xs
ahead mode messages bytes [] some h = absurd (some refl)
ahead mode messages bytes (x ∷ xs) some h =
    let cut = cut_first x xs in
    let counted : length (cut_lines (x ∷ xs)) ≡ length (cut_lines (drop_through 10 (x ∷ xs))) + 1 = ap length cut ∙ omega arith in
    record { verdict = ap (verdict_after mode messages) (sym cut) ∙ h.verdict; count = h.count ∙ ap (λ (n : ℕ). length messages + n) counted; reached = ap (judged_after mode messages) (sym cut) ∙ h.reached }

-- ---- what was judged

judged_on : (mode : Mode) (messages later : List Message) (text : List ℕ) (texts : List (List ℕ)) (all : List Message) → read_line mode.find messages text ≡ Ok later → judged_after mode messages (text ∷ texts) ≡ all → judged_after mode later texts ≡ all
unfolding judged_after
judged_on mode messages later text texts all e is = rw e at is

judged_here : (mode : Mode) (messages : List Message) (text : List ℕ) (texts : List (List ℕ)) (fault : Fault) (all : List Message) → read_line mode.find messages text ≡ Err fault → judged_after mode messages (text ∷ texts) ≡ all → messages ≡ all
unfolding judged_after
judged_here mode messages text texts fault all e is = rw e at is

judged_all : (mode : Mode) (messages all : List Message) → judged_after mode messages [] ≡ all → messages ≡ all
unfolding judged_after
judged_all mode messages all is = is

-- one line further
further : (messages later : List Message) (bytes rest : List ℕ) → length later ≡ length messages + 1 → rest ≡ after_lines (length messages) bytes → drop_through 10 rest ≡ after_lines (length later) bytes
further messages later bytes rest longer place =
    ap (drop_through 10) place ∙ ap (λ (n : ℕ). after_lines n bytes) (let e : suc (length messages) ≡ length later = omega arith in e)

-- ---- one line after another

-- after a line
pub leads_on : (mode : Mode) (all left rest : Option (List ℕ)) (messages later : List Message) (line : List ℕ) (feed : Bool) → Leads mode all left messages → IfSome left (Gives (next.Line feed) line rest) → read_line mode.find messages line ≡ Ok later → Leads mode all rest later
leads_on mode None left rest messages later line feed h gives e = tt
leads_on mode (Some bytes) left rest messages later line feed h gives e =
    let n = given left rest (next.Line feed) line h.0 h.1 gives in
    let at = ahead mode messages bytes h.0 n.0 h.2 in
    let more = with_one mode.find messages line later e in
    let before = at.count in
    let first : verdict_after mode messages (line ∷ cut_lines (drop_through 10 h.0)) ≡ verdict_of mode (cut_lines bytes) =
    ap (λ (l : List ℕ). verdict_after mode messages (l ∷ cut_lines (drop_through 10 h.0))) n.1 ∙ at.verdict in (
      drop_through 10 h.0,
      n.2,
      record {
        verdict = goes_on mode messages later line (cut_lines (drop_through 10 h.0)) (verdict_of mode (cut_lines bytes)) e first;
        count = omega arith;
        reached = judged_on mode messages later line (cut_lines (drop_through 10 h.0)) (judged mode (cut_lines bytes)) e (ap (λ (l : List ℕ). judged_after mode messages (l ∷ cut_lines (drop_through 10 h.0))) n.1 ∙ at.reached);
        place = further messages later bytes h.0 more h.2.place;
      },
    )

-- the answer at a fault
faulty : (mode : Mode) (earlier : List Message) (texts : List (List ℕ)) (line : ℕ) (fault : Fault) (r : ReadFault) → IsFaultAt mode earlier line fault r → (fault ≢ Memory → verdict_of mode texts ≡ finding_at mode earlier line fault) → IsAnswer mode texts (Err r)
faulty mode earlier texts line fault (read.Found finding) is v =
    (λ e. is.0 (ap (λ (f : Finding). f.fault) (sym is.1) ∙ e), v is.0 ∙ ap (λ (f : Finding). let found : Result Whole Finding = Err f in found) (sym is.1))
faulty mode earlier texts line fault read.Memory is v = tt
faulty mode earlier texts line fault read.TooMany is v = absurd is
faulty mode earlier texts line fault (read.NoRun missing) is v = absurd is
faulty mode earlier texts line fault (read.Unread number) is v = absurd is
faulty mode earlier texts line fault (read.Uncreated failed) is v = absurd is
faulty mode earlier texts line fault read.Unwritten is v = absurd is

-- at a faulty line
pub leads_wrong : (mode : Mode) (all left rest : Option (List ℕ)) (messages : List Message) (line : List ℕ) (feed : Bool) (fault : Fault) (r : ReadFault) → Leads mode all left messages → IfSome left (Gives (next.Line feed) line rest)
    → (fault ≢ Memory → read_line mode.find messages line ≡ Err fault) → IsFaultAt mode messages (length messages + 1) fault r → IfSome all (λ bytes. IsAnswer mode (cut_lines bytes) (Err r))
leads_wrong mode None left rest messages line feed fault r h gives e is = tt
leads_wrong mode (Some bytes) left rest messages line feed fault r h gives e is =
    let k = given left rest (next.Line feed) line h.0 h.1 gives in
    let at = ahead mode messages bytes h.0 k.0 h.2 in
    let first : verdict_after mode messages (line ∷ cut_lines (drop_through 10 h.0)) ≡ verdict_of mode (cut_lines bytes) =
    ap (λ (l : List ℕ). verdict_after mode messages (l ∷ cut_lines (drop_through 10 h.0))) k.1 ∙ at.verdict in
    faulty mode messages (cut_lines bytes) (length messages + 1) fault r is
    (λ memory. is_faulty mode messages line (cut_lines (drop_through 10 h.0)) (verdict_of mode (cut_lines bytes)) fault (e memory) first)

-- at a line that is too long
pub leads_too_long : (mode : Mode) (all left rest : Option (List ℕ)) (messages : List Message) (line : List ℕ) (r : ReadFault) → Leads mode all left messages → IfSome left (Gives next.TooLong line rest)
    → IsFaultAt mode messages (length messages + 1) TooLong r → IfSome all (λ bytes. IsAnswer mode (cut_lines bytes) (Err r))
leads_too_long mode None left rest messages line r h gives is = tt
leads_too_long mode (Some bytes) left rest messages line r h gives is =
    let k = given left rest next.TooLong line h.0 h.1 gives in
    let at = ahead mode messages bytes h.0 k.0 h.2 in
    faulty mode messages (cut_lines bytes) (length messages + 1) TooLong r is
    (λ memory. is_faulty mode messages (first_line h.0) (cut_lines (drop_through 10 h.0)) (verdict_of mode (cut_lines bytes)) TooLong (too_long mode.find (first_line h.0) messages k.1) at.verdict)

-- at a line more than there may be
pub leads_too_far : (mode : Mode) (all left rest : Option (List ℕ)) (messages : List Message) (line : List ℕ) (feed : Bool) → Leads mode all left messages → IfSome left (Gives (next.Line feed) line rest) → (length messages < 2 ^ 32 → ⊥) → IfSome all (λ bytes. 2 ^ 32 < length (cut_lines bytes))
leads_too_far mode None left rest messages line feed h gives full = tt
leads_too_far mode (Some bytes) left rest messages line feed h gives full =
    let k = given left rest (next.Line feed) line h.0 h.1 gives in
    let at = ahead mode messages bytes h.0 k.0 h.2 in
    let count = at.count in
    omega arith

-- at the end
pub leads_out : (mode : Mode) (all left rest : Option (List ℕ)) (messages : List Message) (line : List ℕ) → Leads mode all left messages → IfSome left (Gives next.End line rest) → IfSome all (λ bytes. verdict_of mode (cut_lines bytes) ≡ at_line mode messages (length messages) (end_of mode messages))
leads_out mode None left rest messages line h gives = tt
leads_out mode (Some bytes) left rest messages line h gives =
    let none = (given left rest next.End line h.0 h.1 gives).0 in
    is_done mode messages (verdict_of mode (cut_lines bytes)) (ap (λ (xs : List ℕ). verdict_after mode messages (cut_lines xs)) (sym none) ∙ h.2.verdict)

-- the end was reached
pub at_end_of : (left rest : Option (List ℕ)) (line : List ℕ) → IfSome left (Gives next.End line rest) → OnSome left (IsAtEnd rest)
at_end_of None rest line gives = tt
at_end_of (Some bytes) rest line gives = gives.1

-- what is known of the reader as it is and was
pub at_end_too : (mode : Mode) (all left rest : Option (List ℕ)) (messages : List Message) → Leads mode all left messages → OnSome left (IsAtEnd rest) → OnSome all (IsAtEnd rest)
at_end_too mode None left rest messages h end = tt
at_end_too mode (Some bytes) left rest messages h end = subst (λ (o : Option (List ℕ)). OnSome o (IsAtEnd rest)) h.1 end

pub as_answer : (mode : Mode) (o : Option (List ℕ)) (v : Result Whole Finding) (r : Result Whole ReadFault) → IfSome o (λ bytes. verdict_of mode (cut_lines bytes) ≡ v) → ((texts : List (List ℕ)) → verdict_of mode texts ≡ v → IsAnswer mode texts r) → IfSome o (λ bytes. IsAnswer mode (cut_lines bytes) r)
as_answer mode None v r h answer = tt
as_answer mode (Some bytes) v r h answer = answer (cut_lines bytes) h

-- an answer without a verdict
refused : (mode : Mode) (texts : List (List ℕ)) (r : ReadFault) → IsNoAnswer r → IsAnswer mode texts (Err r)
refused mode texts (read.Found finding) none = absurd none
refused mode texts read.TooMany none = absurd none
refused mode texts (read.NoRun missing) none = absurd none
refused mode texts (read.Unread number) none = tt
refused mode texts (read.Uncreated failed) none = absurd none
refused mode texts read.Unwritten none = absurd none
refused mode texts read.Memory none = tt

pub says_nothing : (mode : Mode) (o : Option (List ℕ)) (r : ReadFault) → IsNoAnswer r → IfSome o (λ bytes. IsAnswer mode (cut_lines bytes) (Err r))
says_nothing mode None r none = tt
says_nothing mode (Some bytes) r none = refused mode (cut_lines bytes) r none

-- ---- where the judgement stopped

not_then : {T : Type 0} (b : Bool) (here there : T) → b ≡ false → b ≡ true → here ≡ there
not_then b here there never yet = absurd cc

-- the text of the line of that number
here_is : (messages : List Message) (bytes rest line : List ℕ) → rest ≡ after_lines (length messages) bytes → line ≡ first_line rest → line ≡ line_at (length messages + 1) bytes
here_is messages bytes rest line place is =
    is ∙ ap first_line place ∙ ap (λ (n : ℕ). first_line (after_lines n bytes)) (let e : length messages ≡ length messages + 1 - 1 = omega arith in e)

-- and whether a line feed ends it
feed_is : (messages : List Message) (bytes rest : List ℕ) (feed : Bool) → rest ≡ after_lines (length messages) bytes → feed ≡ has_feed rest → feed ≡ feed_at (length messages + 1) bytes
feed_is messages bytes rest feed place is =
    is ∙ ap has_feed place ∙ ap (λ (n : ℕ). has_feed (after_lines n bytes)) (let e : length messages ≡ length messages + 1 - 1 = omega arith in e)

-- and what is left after it
left_is : (messages : List Message) (bytes rest : List ℕ) (left : Option (List ℕ)) → rest ≡ after_lines (length messages) bytes → left ≡ Some (drop_through 10 rest) → left ≡ Some (after_lines (length messages + 1) bytes)
left_is messages bytes rest left place is =
    is ∙ ap Some (ap (drop_through 10) place ∙ ap (λ (n : ℕ). after_lines n bytes) (let e : suc (length messages) ≡ length messages + 1 = omega arith in e))

-- at a finding of that fault
stops_found : (mode : Mode) (bytes : List ℕ) (earlier : List Message) (checker : Checker) (line : List ℕ) (feed : Bool) (left : Option (List ℕ)) (number : ℕ) (fault : Fault) (finding : Finding) → finding ≡ record { line = number; fault = fault; passed = passed_of mode earlier }
    → HasRead checker (judged mode (cut_lines bytes)) → (reports_line fault ≡ true → line ≡ line_at number bytes) → (reports_line fault ≡ true → feed ≡ feed_at number bytes) → (reports_line fault ≡ true → left ≡ Some (after_lines number bytes)) → StopsAt mode bytes finding checker line feed left
stops_found mode bytes earlier checker line feed left number fault finding is read report ends rest =
    subst (λ (f : Finding). StopsAt mode bytes f checker line feed left) (sym is) (record { has_read = read; is_line = report; is_feed = ends; is_left = rest })

stops_at : (mode : Mode) (bytes : List ℕ) (earlier : List Message) (checker : Checker) (line : List ℕ) (feed : Bool) (left : Option (List ℕ)) (number : ℕ) (fault : Fault) (r : ReadFault) → IsFaultAt mode earlier number fault r
    → (fault ≢ Memory → HasRead checker (judged mode (cut_lines bytes))) → (reports_line fault ≡ true → line ≡ line_at number bytes) → (reports_line fault ≡ true → feed ≡ feed_at number bytes) → (reports_line fault ≡ true → left ≡ Some (after_lines number bytes)) → Stops mode (Some bytes) checker line feed left (Err r)
stops_at mode bytes earlier checker line feed left number fault (read.Found finding) is read report ends rest = stops_found mode bytes earlier checker line feed left number fault finding is.1 (read is.0) report ends rest
stops_at mode bytes earlier checker line feed left number fault read.Memory is read report ends rest = tt
stops_at mode bytes earlier checker line feed left number fault read.TooMany is read report ends rest = tt
stops_at mode bytes earlier checker line feed left number fault (read.NoRun missing) is read report ends rest = absurd is
stops_at mode bytes earlier checker line feed left number fault (read.Unread n) is read report ends rest = tt
stops_at mode bytes earlier checker line feed left number fault (read.Uncreated failed) is read report ends rest = absurd is
stops_at mode bytes earlier checker line feed left number fault read.Unwritten is read report ends rest = absurd is

-- nothing is known of the bytes
stops_unseen : (mode : Mode) (checker : Checker) (line : List ℕ) (feed : Bool) (left : Option (List ℕ)) (r : ReadFault) → Stops mode None checker line feed left (Err r)
stops_unseen mode checker line feed left (read.Found finding) = tt
stops_unseen mode checker line feed left read.Memory = tt
stops_unseen mode checker line feed left read.TooMany = tt
stops_unseen mode checker line feed left (read.NoRun missing) = tt
stops_unseen mode checker line feed left (read.Unread n) = tt
stops_unseen mode checker line feed left (read.Uncreated failed) = tt
stops_unseen mode checker line feed left read.Unwritten = tt

pub stops_nowhere : (mode : Mode) (o : Option (List ℕ)) (checker : Checker) (line : List ℕ) (feed : Bool) (left : Option (List ℕ)) (r : ReadFault) → IsNoAnswer r → Stops mode o checker line feed left (Err r)
stops_nowhere mode o checker line feed left (read.Found finding) none = absurd none
stops_nowhere mode o checker line feed left read.Memory none = tt
stops_nowhere mode o checker line feed left read.TooMany none = tt
stops_nowhere mode o checker line feed left (read.NoRun missing) none = absurd none
stops_nowhere mode o checker line feed left (read.Unread n) none = tt
stops_nowhere mode o checker line feed left (read.Uncreated failed) none = absurd none
stops_nowhere mode o checker line feed left read.Unwritten none = absurd none

-- at a faulty line
pub stops_wrong : (mode : Mode) (all left rest : Option (List ℕ)) (messages : List Message) (checker : Checker) (line : List ℕ) (feed : Bool) (fault : Fault) (r : ReadFault) → Leads mode all left messages → IfSome left (Gives (next.Line feed) line rest)
    → (fault ≢ Memory → read_line mode.find messages line ≡ Err fault) → HasRead checker messages → IsFaultAt mode messages (length messages + 1) fault r → Stops mode all checker line feed rest (Err r)
stops_wrong mode None left rest messages checker line feed fault r h gives e read is = stops_unseen mode checker line feed rest r
stops_wrong mode (Some bytes) left rest messages checker line feed fault r h gives e read is =
    let k = given left rest (next.Line feed) line h.0 h.1 gives in
    let at = ahead mode messages bytes h.0 k.0 h.2 in
    stops_at mode bytes messages checker line feed rest (length messages + 1) fault r is
    (λ memory. subst (λ (ms : List Message). HasRead checker ms)
    (judged_here mode messages line (cut_lines (drop_through 10 h.0)) fault (judged mode (cut_lines bytes)) (e memory) (ap (λ (l : List ℕ). judged_after mode messages (l ∷ cut_lines (drop_through 10 h.0))) k.1 ∙ at.reached)) read)
    (λ tells. here_is messages bytes h.0 line h.2.place k.1)
    (λ tells. feed_is messages bytes h.0 feed h.2.place k.3)
    (λ tells. left_is messages bytes h.0 rest h.2.place k.2)

-- at a line that is too long
pub stops_too_long : (mode : Mode) (all left rest : Option (List ℕ)) (messages : List Message) (checker : Checker) (line : List ℕ) (feed : Bool) (r : ReadFault) → Leads mode all left messages → IfSome left (Gives next.TooLong line rest)
    → HasRead checker messages → IsFaultAt mode messages (length messages + 1) TooLong r → Stops mode all checker line feed rest (Err r)
stops_too_long mode None left rest messages checker line feed r h gives read is = stops_unseen mode checker line feed rest r
stops_too_long mode (Some bytes) left rest messages checker line feed r h gives read is =
    let k = given left rest next.TooLong line h.0 h.1 gives in
    let at = ahead mode messages bytes h.0 k.0 h.2 in
    stops_at mode bytes messages checker line feed rest (length messages + 1) TooLong r is
    (λ memory. subst (λ (ms : List Message). HasRead checker ms)
    (judged_here mode messages (first_line h.0) (cut_lines (drop_through 10 h.0)) TooLong (judged mode (cut_lines bytes)) (too_long mode.find (first_line h.0) messages k.1) at.reached) read)
    (not_then (reports_line TooLong) line (line_at (length messages + 1) bytes) refl)
    (not_then (reports_line TooLong) feed (feed_at (length messages + 1) bytes) refl)
    (not_then (reports_line TooLong) rest (Some (after_lines (length messages + 1) bytes)) refl)

abbrev no_such : Fault → Result Whole Fault
no_such fault = Err fault

fault_of : (a b : Fault) → no_such a ≡ Err b → a ≡ b
fault_of a b e = cc

-- a fault of the end reports nothing of a line
end_tells_none : (mode : Mode) (messages : List Message) (fault : Fault) → end_of mode messages ≡ Err fault → reports_line fault ≡ false
unfolding end_of
end_tells_none mode messages fault e = by_open (any_open messages) e
  where
    by_lines : (b : Bool) → reports_line (cond b (NoMessage (length messages)) NoEnd) ≡ false
    by_lines true = refl
    by_lines false = refl

    by_apply : (p : Bool) → reports_line (cond p NoApply (cond (is_without_messages messages) (NoMessage (length messages)) NoEnd)) ≡ false
    by_apply true = refl
    by_apply false = by_lines (is_without_messages messages)

    by_end : (b : Bool) → cond b (Ok (whole_of mode messages)) (no_such (no_end_of messages)) ≡ Err fault → reports_line fault ≡ false
    by_end true e = absurd cc
    by_end false e = ap reports_line (sym (fault_of (no_end_of messages) fault e)) ∙ by_apply (is_plan_stream messages)

    by_planned : (b : Bool) → cond b (no_such Planned) (cond (list_any is_summary messages || list_any is_error messages) (Ok (whole_of mode messages)) (no_such (no_end_of messages))) ≡ Err fault → reports_line fault ≡ false
    by_planned true e = ap reports_line (sym (fault_of Planned fault e))
    by_planned false e = by_end (list_any is_summary messages || list_any is_error messages) e

    by_plan : (b : Bool) → cond b (Ok (whole_plan_of mode messages)) (apply_end mode messages) ≡ Err fault → reports_line fault ≡ false
    by_plan true e = absurd cc
    by_plan false e = by_planned (leaves_planned messages) e

    by_open : (b : Bool) → cond b (no_such Unended) (cond (mode.plan && is_plan_stream messages) (Ok (whole_plan_of mode messages)) (apply_end mode messages)) ≡ Err fault → reports_line fault ≡ false
    by_open true e = ap reports_line (sym (fault_of Unended fault e))
    by_open false e = by_plan (mode.plan && is_plan_stream messages) e

-- at the end
pub stops_out : (mode : Mode) (all left rest : Option (List ℕ)) (messages : List Message) (checker : Checker) (line : List ℕ) (feed : Bool) (fault : Fault) (r : ReadFault) → Leads mode all left messages → IfSome left (Gives next.End line rest)
    → HasRead checker messages → end_of mode messages ≡ Err fault → IsFaultAt mode messages (length messages) fault r → Stops mode all checker line feed rest (Err r)
stops_out mode None left rest messages checker line feed fault r h gives read e is = stops_unseen mode checker line feed rest r
stops_out mode (Some bytes) left rest messages checker line feed fault r h gives read e is =
    let none = (given left rest next.End line h.0 h.1 gives).0 in
    stops_at mode bytes messages checker line feed rest (length messages) fault r is
    (λ memory. subst (λ (ms : List Message). HasRead checker ms)
    (judged_all mode messages (judged mode (cut_lines bytes)) (ap (λ (xs : List ℕ). judged_after mode messages (cut_lines xs)) (sym none) ∙ h.2.reached)) read)
    (not_then (reports_line fault) line (line_at (length messages) bytes) (end_tells_none mode messages fault e))
    (not_then (reports_line fault) feed (feed_at (length messages) bytes) (end_tells_none mode messages fault e))
    (not_then (reports_line fault) rest (Some (after_lines (length messages) bytes)) (end_tells_none mode messages fault e))

pub stops_ended : (mode : Mode) (all left rest : Option (List ℕ)) (messages : List Message) (checker : Checker) (line : List ℕ) (feed : Bool) (r : Result Whole ReadFault) → Leads mode all left messages → IfSome left (Gives next.End line rest)
    → HasRead checker messages → IfErr r (λ answer. (ms : List Message) → HasRead checker ms → (fault : Fault) × (end_of mode ms ≡ Err fault) × IsFaultAt mode ms (length ms) fault answer) → Stops mode all checker line feed rest r
stops_ended mode all left rest messages checker line feed (Ok whole) h gives read why = tt
stops_ended mode all left rest messages checker line feed (Err answer) h gives read why =
    let w = why messages read in
    stops_out mode all left rest messages checker line feed w.0 answer h gives read w.1 w.2

-- ---- the report

front_is_line : (fault : Fault) → reports_front fault ≡ true → reports_line fault ≡ true
front_is_line fault e = rw e refl

object_is_line : (fault : Fault) → reports_object fault ≡ true → reports_line fault ≡ true
object_is_line fault e = or_true (reports_front fault) (reports_object fault) e
  where
    or_true : (a b : Bool) → b ≡ true → (a || b) ≡ true
    or_true true b is = refl
    or_true false b is = is

-- whether the line is cut off, as reported
cut_same : (a b : Fault) (here there is : Bool) → a ≡ b → is ≡ (is_no_json b && not here) → here ≡ there → is ≡ (is_no_json a && not there)
cut_same a b here there is same so feeds = so ∙ ap (λ (f : Fault). is_no_json f && not here) (sym same) ∙ ap (λ (feed : Bool). is_no_json a && not feed) feeds

about_same : (find b : Bool) (line there : List ℕ) → (b ≡ true → line ≡ there) → cond b (about_line find line) None ≡ cond b (about_line find there) None
about_same find true line there same = ap (about_line find) (same refl)
about_same find false line there same = refl

pub report_holds : (mode : Mode) (bytes : List ℕ) (finding : Finding) (checker : Checker) (line : List ℕ) (feed : Bool) (left : Option (List ℕ)) (report : FindingReport) → report.finding ≡ finding → report.text.now ≡ line
    → report.is_cut_off ≡ (is_no_json finding.fault && not feed)
    → option_map object_view report.object ≡ cond (reports_object finding.fault) (about_line mode.find line) None
    → ((messages : List Message) → HasRead checker messages → AreListed finding.fault messages report.listed.now)
    → report.lines_before ≡ mode.lines_before
    → ((rest : List ℕ) → (reports_line finding.fault ≡ true → left ≡ Some rest) → IfSome report.runs (λ n. n ≡ runs_from mode.find rest))
    → StopsAt mode bytes finding checker line feed left → IsReportOf mode bytes report
report_holds mode bytes finding checker line feed left report same text cut about listed before runs stops = record {
  text = λ front. text ∙ stops.is_line (shown front) ∙ number;
  cut_off = λ front.
      cut_same report.finding.fault finding.fault feed (feed_at report.finding.line bytes) report.is_cut_off (ap (λ (f : Finding). f.fault) same) cut
      (stops.is_feed (shown front) ∙ sym (ap (λ (f : Finding). feed_at f.line bytes) same));
  object = about
      ∙ about_same mode.find (reports_object finding.fault) line (line_at finding.line bytes) (λ tells. stops.is_line (object_is_line finding.fault tells))
      ∙ sym (ap (λ (f : Finding). cond (reports_object f.fault) (about_line mode.find (line_at f.line bytes)) None) same);
  listed = subst (λ (f : Finding). AreListed f.fault (judged mode (cut_lines bytes)) report.listed.now) (sym same) (listed (judged mode (cut_lines bytes)) stops.has_read);
  before = before;
  runs = subst (λ (f : Finding). IfSome report.runs (λ n. n ≡ runs_from mode.find (after_lines f.line bytes))) (sym same) (runs (after_lines finding.line bytes) stops.is_left);
}
  where
    number : line_at finding.line bytes ≡ line_at report.finding.line bytes
    number = sym (ap (λ (f : Finding). line_at f.line bytes) same)

    shown : reports_front report.finding.fault ≡ true → reports_line finding.fault ≡ true
    shown front = front_is_line finding.fault (sym (ap (λ (f : Finding). reports_front f.fault) same) ∙ front)

pub report_holds_if_known : (mode : Mode) (seen : Option (List ℕ)) (finding : Finding) (checker : Checker) (line : List ℕ) (feed : Bool) (left : Option (List ℕ)) (report : FindingReport) → report.finding ≡ finding → report.text.now ≡ line
    → report.is_cut_off ≡ (is_no_json finding.fault && not feed)
    → option_map object_view report.object ≡ cond (reports_object finding.fault) (about_line mode.find line) None
    → ((messages : List Message) → HasRead checker messages → AreListed finding.fault messages report.listed.now)
    → report.lines_before ≡ mode.lines_before
    → ((rest : List ℕ) → (reports_line finding.fault ≡ true → left ≡ Some rest) → IfSome report.runs (λ n. n ≡ runs_from mode.find rest))
    → IfSome seen (λ bytes. StopsAt mode bytes finding checker line feed left) → IfSome seen (λ bytes. IsReportOf mode bytes report)
report_holds_if_known mode None finding checker line feed left report same text cut about listed before runs stops = tt
report_holds_if_known mode (Some bytes) finding checker line feed left report same text cut about listed before runs stops = report_holds mode bytes finding checker line feed left report same text cut about listed before runs stops
