-- What was shown of the lines that were read, where lines are shown without a panel.
use Rattle.std.proofs.Common.{◌≡◌, ◌∙◌, ◌++◌, ◌∷◌, [], ℕ, List, Bool, Option, Some, None, Ok, Err, ap, append-nil, append_assoc, refl, subst, sym}
use Rattle.std.specs.Prelude.{IfOk, IfSome, Result}
use Rattle.std.specs.Io.KnownBytes.{Appends, Keeps}
use Rattle.std.proofs.KnownBytes.{Appends-kept, Appends-trans}
use Rattle.stream_check.specs.Judging.{HasJudged}
use Rattle.stream_check.specs.declared.rules.mode.Mode.{Mode}
use Rattle.stream_check.specs.declared.verdict.finding.Finding.{Finding}
use Rattle.stream_check.specs.declared.verdict.judge.Judge.{Judge}
use Rattle.stream_check.specs.declared.verdict.whole.Whole.{Whole}
use Rattle.stream_lines.specs.Reading.{Gives}
use Rattle.stream_lines.specs.declared.line.LineEnd.TheVariants as next
use Rattle.term_words.proofs.Appended.{text_all}
use Rattle.stream_watch.specs.Printed.{HasPrinted}
use Rattle.stream_watch.specs.State.{State, Tells, Told, beginning, looks_of, state_of}
use Rattle.stream_watch.specs.Stream.{last_told, lines_told, stream_told}
use Rattle.stream_watch.specs.Telling.{text_told}
use Rattle.stream_watch.specs.declared.looks.Looks.{Looks}
use Rattle.stream_watch.specs.declared.watcher.Watcher.{Watcher}
use Rattle.stream_watch_cli.specs.Watched.{HasEnded, HasShortLines, HasToldAll, HasToldOf, Sends}
use Rattle.stream_watch_cli.specs.declared.watch_fault.WatchFault.{WatchFault}
use Rattle.stream_watch_cli.proofs.Reached.{Known, Reached, next_reached, reached_there, too_short_here}

-- ---- one line more

state_more : (looks : Looks) (find : Bool) (lines : List (List ℕ)) (line : List ℕ) (state : State)
    → (lines_told looks find (lines ++ line ∷ []) state).state ≡ (text_told looks (lines_told looks find lines state).state find line).state
state_more looks find [] line state = refl
state_more looks find (first ∷ lines) line state = state_more looks find lines line (text_told looks state find first).state

bytes_more : (looks : Looks) (find : Bool) (lines : List (List ℕ)) (line : List ℕ) (state : State)
    → (lines_told looks find (lines ++ line ∷ []) state).bytes
    ≡ (lines_told looks find lines state).bytes ++ (text_told looks (lines_told looks find lines state).state find line).bytes
bytes_more looks find [] line state = append-nil (text_told looks state find line).bytes
bytes_more looks find (first ∷ lines) line state =
    let told = text_told looks state find first in
    ap (λ (bytes : List ℕ). told.bytes ++ bytes) (bytes_more looks find lines line told.state)
    ∙ sym (append_assoc told.bytes (lines_told looks find lines told.state).bytes (text_told looks (lines_told looks find lines told.state).state find line).bytes)

appends_none : (known : Option (List ℕ)) → Appends known known []
appends_none None = tt
appends_none (Some bytes) = sym (append-nil bytes)

-- all that is told of these lines was written
pub record HasTold (looks : Looks) (find : Bool) (lines : List (List ℕ)) (watcher : Watcher) (before now : Option (List ℕ)) : Type 0 where
  pub looks_are : looks_of watcher ≡ looks
  pub finds : watcher.find ≡ find
  pub state : state_of watcher ≡ (lines_told looks find lines beginning).state
  pub empty : HasPrinted watcher.printer []
  pub written : Appends before now (lines_told looks find lines beginning).bytes

-- a line was told, and what was told was written
pub told_more : (looks : Looks) (find : Bool) (lines : List (List ℕ)) (line : List ℕ) (a b c : Watcher) (before now later : Option (List ℕ))
    → HasTold looks find lines a before now → Tells a b (text_told (looks_of a) (state_of a) a.find line) → Sends b c now later
    → HasTold looks find (lines ++ line ∷ []) c before later
told_more looks find lines line a b c before now later had tells sends =
    let state = (lines_told looks find lines beginning).state in
    let same : text_told (looks_of a) (state_of a) a.find line ≡ text_told looks state find line =
    ap (λ (l : Looks). text_told l (state_of a) a.find line) had.looks_are
    ∙ ap (λ (s : State). text_told looks s a.find line) had.state
    ∙ ap (λ (f : Bool). text_told looks state f line) had.finds in
    let told = subst (λ (t : Told). Tells a b t) same tells in
    let written = sends.written (text_told looks state find line).bytes
    (text_all a.printer.printed b.printer.printed (text_told looks state find line).bytes had.empty told.bytes) in
    record {
      looks_are = sends.looks ∙ told.looks ∙ had.looks_are;
      finds = sends.find ∙ told.find ∙ had.finds;
      state = sends.state ∙ told.state ∙ sym (state_more looks find lines line beginning);
      empty = sends.empty;
      written = subst (Appends before later) (sym (bytes_more looks find lines line beginning))
          (Appends-trans before now later (lines_told looks find lines beginning).bytes (text_told looks state find line).bytes had.written written);
    }

-- nothing was told and nothing was written meanwhile
pub told_kept : (looks : Looks) (find : Bool) (lines : List (List ℕ)) (a b : Watcher) (before now later : Option (List ℕ))
    → HasTold looks find lines a before now → b ≡ a → Keeps now later → HasTold looks find lines b before later
told_kept looks find lines a b before now later had same kept =
    subst (λ (w : Watcher). HasTold looks find lines w before later) (sym same)
    (record {
      looks_are = had.looks_are;
      finds = had.finds;
      state = had.state;
      empty = had.empty;
      written = Appends-kept before now later (lines_told looks find lines beginning).bytes had.written kept;
    })

-- before the first line
pub told_none : (looks : Looks) (find : Bool) (watcher : Watcher) (before : Option (List ℕ)) → watcher.find ≡ find → looks_of watcher ≡ looks
    → state_of watcher ≡ beginning → HasPrinted watcher.printer [] → HasTold looks find [] watcher before before
told_none looks find watcher before finds looks_are state empty =
    record { looks_are = looks_are; finds = finds; state = state; empty = empty; written = appends_none before }

-- ---- while lines are read

-- where no line is too long, all that is told of the lines before the rest was written
abbrev pub Shown : Mode → Looks → (is_shown : Type 0) → (all left : Option (List ℕ)) → Judge → Watcher → (before now : Option (List ℕ)) → Type 0
Shown mode looks is_shown all left judge watcher before now =
    IfSome all (λ bytes. HasShortLines bytes → (rest : List ℕ) × (left ≡ Some rest)
    × (reached : Reached mode bytes rest judge) × (is_shown → HasTold looks mode.find reached.texts watcher before now))

-- so what the judge has read is known
pub known_of : (mode : Mode) (looks : Looks) (is_shown : Type 0) (all left : Option (List ℕ)) (judge : Judge) (watcher : Watcher) (before now : Option (List ℕ))
    → Shown mode looks is_shown all left judge watcher before now → Known mode all left judge
known_of mode looks is_shown None left judge watcher before now shown = tt
known_of mode looks is_shown (Some bytes) left judge watcher before now shown = λ short. let at = shown short in (at.0, at.1, at.2)

pub shown_first : (mode : Mode) (looks : Looks) (is_shown : Type 0) (all : Option (List ℕ)) (judge : Judge) (watcher : Watcher) (before : Option (List ℕ))
    → HasJudged mode judge [] → HasTold looks mode.find [] watcher before before → Shown mode looks is_shown all all judge watcher before before
shown_first mode looks is_shown None judge watcher before judged told = tt
shown_first mode looks is_shown (Some bytes) judge watcher before judged told =
    λ short. (bytes, refl, record { texts = []; cut = refl; judged = judged }, λ shown. told)

pub shown_more : (mode : Mode) (looks : Looks) (is_shown : Type 0) (all left rest : Option (List ℕ)) (judge new : Judge) (line : List ℕ) (feed : Bool)
    (a w b c : Watcher) (before now mid later : Option (List ℕ)) → Shown mode looks is_shown all left judge a before now
    → IfSome left (Gives (next.Line feed) line rest)
    → ((mode : Mode) → (texts : List (List ℕ)) → HasJudged mode judge texts → HasJudged mode new (texts ++ line ∷ []))
    → (is_shown → w ≡ a) → (is_shown → Keeps now mid)
    → Tells w b (text_told (looks_of w) (state_of w) w.find line) → (is_shown → Sends b c mid later)
    → Shown mode looks is_shown all rest new c before later
shown_more mode looks is_shown None left rest judge new line feed a w b c before now mid later known gives more same kept tells sends = tt
shown_more mode looks is_shown (Some bytes) left rest judge new line feed a w b c before now mid later known gives more same kept tells sends = λ short.
    let at = known short in
    let further = next_reached mode bytes left rest judge new line feed at.0 at.1 at.2 gives more in (
      further.0,
      further.1,
      further.2.0,
      λ shown. subst (λ (lines : List (List ℕ)). HasTold looks mode.find lines c before later) (sym further.2.1)
          (told_more looks mode.find at.2.texts line w b c before mid later
          (told_kept looks mode.find at.2.texts a w before now mid (at.3 shown) (same shown) (kept shown)) tells (sends shown)),
    )

pub shown_too_long : (mode : Mode) (looks : Looks) (is_shown : Type 0) (all left rest later : Option (List ℕ)) (judge new : Judge) (line : List ℕ)
    (a b : Watcher) (before now after : Option (List ℕ)) → Shown mode looks is_shown all left judge a before now
    → IfSome left (Gives next.TooLong line rest) → Shown mode looks is_shown all later new b before after
shown_too_long mode looks is_shown None left rest later judge new line a b before now after known gives = tt
shown_too_long mode looks is_shown (Some bytes) left rest later judge new line a b before now after known gives =
    λ short. let at = known short in absurd (too_short_here mode bytes left rest judge line short at.0 at.1 at.2 gives)

-- ---- the end

ended_all : (mode : Mode) (looks : Looks) (is_lines : Type 0) (lines : List (List ℕ)) (watcher : Watcher) (before now after : Option (List ℕ)) (answer : Result Whole Finding)
    → is_lines → HasTold looks mode.find lines watcher before now → (ended : HasEnded mode lines watcher is_lines now after answer)
    → Appends before after (stream_told looks mode.find lines ended.0).bytes
ended_all mode looks is_lines lines watcher before now after answer shown had ended =
    let verdict = ended.0 in
    let told = lines_told looks mode.find lines beginning in
    let same : last_told (looks_of watcher) verdict (state_of watcher) ≡ last_told looks verdict told.state =
    ap (λ (l : Looks). last_told l verdict (state_of watcher)) had.looks_are ∙ ap (λ (s : State). last_told looks verdict s) had.state in
    Appends-trans before now after told.bytes (last_told looks verdict told.state).bytes had.written
    (subst (λ (t : Told). Appends now after t.bytes) same (ended.3 shown had.empty))

pub shown_all : (mode : Mode) (looks : Looks) (is_shown : Type 0) (all left rest : Option (List ℕ)) (judge : Judge) (line : List ℕ) (a w : Watcher) (is_lines : Type 0)
    (before now mid after : Option (List ℕ)) (result : Result (Result Whole Finding) WatchFault) → Shown mode looks is_shown all left judge a before now
    → IfSome left (Gives next.End line rest)
    → (is_shown → w ≡ a) → (is_shown → Keeps now mid) → (is_shown → is_lines)
    → IfOk result (λ answer. (mode : Mode) → (texts : List (List ℕ)) → HasJudged mode judge texts → HasEnded mode texts w is_lines mid after answer)
    → is_shown → IfSome all (λ bytes. HasShortLines bytes → HasToldAll mode looks bytes before after result)
shown_all mode looks is_shown None left rest judge line a w is_lines before now mid after result known gives same kept stays ends shown = tt
shown_all mode looks is_shown (Some bytes) left rest judge line a w is_lines before now mid after (Err fault) known gives same kept stays ends shown = λ short. tt
shown_all mode looks is_shown (Some bytes) left rest judge line a w is_lines before now mid after (Ok answer) known gives same kept stays ends shown = λ short.
    let at = known short in
    let ended = ends mode at.2.texts at.2.judged in
    let had = told_kept looks mode.find at.2.texts a w before now mid (at.3 shown) (same shown) (kept shown) in
    let written = ended_all mode looks is_lines at.2.texts w before mid after answer (stays shown) had ended in
    subst (λ (lines : List (List ℕ)). HasToldOf mode looks lines before after answer)
    (sym (reached_there mode bytes left rest judge line at.0 at.1 at.2 gives)) (ended.0, ended.1, ended.2, written)

pub not_shown : (mode : Mode) (looks : Looks) (is_shown : Type 0) (all before after : Option (List ℕ)) (fault : WatchFault)
    → is_shown → IfSome all (λ bytes. HasShortLines bytes → HasToldAll mode looks bytes before after (Err fault))
not_shown mode looks is_shown None before after fault shown = tt
not_shown mode looks is_shown (Some bytes) before after fault shown = λ short. tt
