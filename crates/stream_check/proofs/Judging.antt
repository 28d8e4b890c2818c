-- What a judge knows after one more line.
use Rattle.std.proofs.Common.{◌≡◌, ◌≢◌, ◌+◌, ◌<◌, ◌++◌, ◌∷◌, [], ℕ, List, length, append-nil, append_assoc, Bool, true, false, Option, Some, None, Result, Ok, Err, refl, sym, ap, ◌∙◌, subst}
use Rattle.std.specs.Prelude.{OnOk, is_some}
use Rattle.stream_check.specs.Checking.{Continues, HasRead}
use Rattle.stream_check.specs.Judging.{Decides, HasJudged, IsFoundAfter, IsVerdict, IsVerdictAfter}
use Rattle.stream_check.specs.Lines.{at_line, passed_of, read_line, verdict_after, verdict_of}
use Rattle.stream_check.specs.Message.{Message}
use Rattle.stream_check.specs.declared.rules.checker.Checker.{Checker}
use Rattle.stream_check.specs.declared.rules.fault.Fault.{Fault}
use Rattle.stream_check.specs.declared.rules.fault.Fault.TheVariants.{Memory}
use Rattle.stream_check.specs.declared.rules.mode.Mode.{Mode}
use Rattle.stream_check.specs.declared.verdict.finding.Finding.{Finding}
use Rattle.stream_check.specs.declared.verdict.judge.Found.{Found}
use Rattle.stream_check.specs.declared.verdict.judge.Judge.{Judge}
use Rattle.stream_check.specs.declared.verdict.judge.Verdict.{Verdict}
use Rattle.stream_check.specs.declared.verdict.whole.Whole.{Whole}
use Rattle.stream_check.proofs.WholeStream.{finding_at, goes_on, is_faulty}

-- the verdict on the lines, once a fault was found
pub fault_stays : (mode : Mode) (judge : Judge) (texts : List (List ℕ)) (found : Found) → HasJudged mode judge texts → judge.found ≡ Some found
    → verdict_of mode texts ≡ Err found.finding
fault_stays mode judge texts found judged is =
    let known : Decides mode judge texts (Some found) = subst (λ (o : Option Found). Decides mode judge texts o) is judged.decides in
    ap (λ (l : List (List ℕ)). verdict_of mode l) (sym (append-nil texts)) ∙ known []

-- one more line does not change a fault that was found
pub still_found : (mode : Mode) (judge : Judge) (texts : List (List ℕ)) (text : List ℕ) → is_some judge.found ≡ true → HasJudged mode judge texts
    → HasJudged mode judge (texts ++ text ∷ [])
still_found mode judge texts text is judged = record { mode_is = judged.mode_is; decides = decided judge.found judged.decides is } where
  decided : (o : Option Found) → Decides mode judge texts o → is_some o ≡ true → Decides mode judge (texts ++ text ∷ []) o
  decided None d e = absurd cc
  decided (Some found) d e = λ more. ap (λ (l : List (List ℕ)). verdict_of mode l) (append_assoc texts (text ∷ []) more) ∙ d (text ∷ more)

-- without a fault, the messages of the lines are known
pub messages_of : (mode : Mode) (judge : Judge) (texts : List (List ℕ)) → judge.found ≡ None → HasJudged mode judge texts
    → (messages : List Message) × HasRead judge.checker messages
    × ((more : List (List ℕ)) → verdict_of mode (texts ++ more) ≡ verdict_after mode messages more)
messages_of mode judge texts is judged = subst (λ (o : Option Found). Decides mode judge texts o) is judged.decides

-- a line that is accepted goes on
pub line_goes_on : (mode : Mode) (texts : List (List ℕ)) (messages later : List Message) (text : List ℕ)
    → ((more : List (List ℕ)) → verdict_of mode (texts ++ more) ≡ verdict_after mode messages more) → read_line mode.find messages text ≡ Ok later
    → (more : List (List ℕ)) → verdict_of mode ((texts ++ text ∷ []) ++ more) ≡ verdict_after mode later more
line_goes_on mode texts messages later text known read more =
    ap (λ (l : List (List ℕ)). verdict_of mode l) (append_assoc texts (text ∷ []) more) ∙ known (text ∷ more)
    ∙ sym (goes_on mode messages later text more (verdict_after mode messages (text ∷ more)) read refl)

-- a line that is refused ends the check
pub line_is_faulty : (mode : Mode) (texts : List (List ℕ)) (messages : List Message) (text : List ℕ) (fault : Fault)
    → ((more : List (List ℕ)) → verdict_of mode (texts ++ more) ≡ verdict_after mode messages more) → read_line mode.find messages text ≡ Err fault
    → (more : List (List ℕ)) → verdict_of mode ((texts ++ text ∷ []) ++ more) ≡ finding_at mode messages (length messages + 1) fault
line_is_faulty mode texts messages text fault known read more =
    ap (λ (l : List (List ℕ)). verdict_of mode l) (append_assoc texts (text ∷ []) more) ∙ known (text ∷ more)
    ∙ is_faulty mode messages text more (verdict_after mode messages (text ∷ more)) fault read refl

-- the judge after a fault was found
pub with_fault : (mode : Mode) (judge : Judge) (texts : List (List ℕ)) (messages : List Message) (text : List ℕ) (fault : Fault)
    → judge.mode ≡ mode → ((more : List (List ℕ)) → verdict_of mode (texts ++ more) ≡ verdict_after mode messages more)
    → read_line mode.find messages text ≡ Err fault → IsFoundAfter mode messages (length messages + 1) fault judge.found
    → HasJudged mode judge (texts ++ text ∷ [])
with_fault mode judge texts messages text fault is_mode known read is_found = record { mode_is = is_mode; decides = decided judge.found is_found } where
  decided : (o : Option Found) → IsFoundAfter mode messages (length messages + 1) fault o → Decides mode judge (texts ++ text ∷ []) o
  decided None f = absurd f
  decided (Some found) f = λ more. line_is_faulty mode texts messages text fault known read more
      ∙ ap (λ (x : Finding). let e : Result Whole Finding = Err x in e) (sym f.1)

pub none_of : (o : Option Found) → is_some o ≡ false → o ≡ None
none_of None e = refl
none_of (Some found) e = absurd cc

not_memory : (mode : Mode) (messages : List Message) (line : ℕ) (fault : Fault) (o : Option Found) → IsFoundAfter mode messages line fault o → fault ≢ Memory
not_memory mode messages line fault None f = absurd f
not_memory mode messages line fault (Some found) f = f.0

pub on_ok_to : {T E : Type 0} (r : Result T E) (P Q : Type 0) → (P → Q) → OnOk r P → OnOk r Q
on_ok_to (Ok x) P Q f p = f p
on_ok_to (Err e) P Q f p = tt

-- the judge after a line that is accepted
pub with_line : (mode : Mode) (judge new : Judge) (texts : List (List ℕ)) (text : List ℕ) (done : Unit {0}) → judge.found ≡ None → new.found ≡ judge.found → new.mode ≡ judge.mode
    → Continues judge.checker new.checker (λ messages. read_line judge.mode.find messages text) (Ok done)
    → HasJudged mode judge texts → HasJudged mode new (texts ++ text ∷ [])
with_line mode judge new texts text done none kept same goes judged =
    let known = messages_of mode judge texts none judged in
    let next = goes known.0 known.1 in
    let read : read_line mode.find known.0 text ≡ Ok next.0 = ap (λ (m : Mode). read_line m.find known.0 text) (sym judged.mode_is) ∙ next.1 in
    record {
      mode_is = same ∙ judged.mode_is;
      decides = subst (λ (o : Option Found). Decides mode new (texts ++ text ∷ []) o) (sym (kept ∙ none)) (next.0, next.2, line_goes_on mode texts known.0 next.0 text known.2 read);
    }

-- the judge after a line that is refused
pub after_fault : (mode : Mode) (judge new : Judge) (checker : Checker) (texts : List (List ℕ)) (text : List ℕ) (fault : Fault) → judge.found ≡ None → new.mode ≡ judge.mode
    → Continues judge.checker checker (λ messages. read_line judge.mode.find messages text) (Err fault)
    → ((messages : List Message) → HasRead checker messages → IsFoundAfter judge.mode messages (length messages + 1) fault new.found)
    → HasJudged mode judge texts → HasJudged mode new (texts ++ text ∷ [])
after_fault mode judge new checker texts text fault none same refuses finds judged =
    let known = messages_of mode judge texts none judged in
    let refused = refuses known.0 known.1 in
    let is_found : IsFoundAfter mode known.0 (length known.0 + 1) fault new.found =
    subst (λ (m : Mode). IsFoundAfter m known.0 (length known.0 + 1) fault new.found) judged.mode_is (finds known.0 refused.0) in
    let read : read_line mode.find known.0 text ≡ Err fault =
    ap (λ (m : Mode). read_line m.find known.0 text) (sym judged.mode_is) ∙ refused.1 (not_memory mode known.0 (length known.0 + 1) fault new.found is_found) in
    with_fault mode new texts known.0 text fault (same ∙ judged.mode_is) known.2 read is_found

-- the verdict at the end of a stream without a fault before
pub ends_whole : (mode : Mode) (judge : Judge) (texts : List (List ℕ)) (verdict : Verdict) → judge.found ≡ None
    → ((messages : List Message) → HasRead judge.checker messages → IsVerdictAfter judge.mode messages verdict)
    → HasJudged mode judge texts → IsVerdict mode texts verdict
ends_whole mode judge texts verdict none ends judged =
    let known = messages_of mode judge texts none judged in
    let ended : IsVerdictAfter mode known.0 verdict = subst (λ (m : Mode). IsVerdictAfter m known.0 verdict) judged.mode_is (ends known.0 known.1) in
    record {
      answer = ap (λ (l : List (List ℕ)). verdict_of mode l) (sym (append-nil texts)) ∙ known.2 [] ∙ ended.answer;
      text = ended.text;
    }
