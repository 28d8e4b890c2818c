-- How far a stream was read and judged.
use Rattle.std.proofs.Common.{◌≡◌, ◌≢◌, ◌<◌, ◌≤◌, ◌++◌, ◌∷◌, [], ℕ, List, All, length, append-nil, append_assoc, Bool, Option, Some, None, Result, Ok, Err, refl, sym, ap, ◌∙◌, arith, subst}
use Rattle.std.specs.Prelude.{IfOk, IfSome, OnOk}
use Rattle.std.specs.Io.BufRead.{drop_through}
use Rattle.std.specs.Io.KnownBytes.{IsAtEnd}
use Rattle.std.proofs.lemmas.List.Elements.{All-head, All-tail}
use Rattle.stream_check.specs.Judging.{HasJudged}
use Rattle.stream_check.specs.Lines.{verdict_of}
use Rattle.stream_check.specs.declared.rules.mode.Mode.{Mode}
use Rattle.stream_check.specs.declared.verdict.finding.Finding.{Finding}
use Rattle.stream_check.specs.declared.verdict.judge.Judge.{Judge}
use Rattle.stream_check.specs.declared.verdict.whole.Whole.{Whole}
use Rattle.stream_lines.specs.Cut.{cut_lines, first_line}
use Rattle.stream_lines.specs.Limits.{max_bytes}
use Rattle.stream_lines.specs.Reading.{Gives}
use Rattle.stream_lines.specs.declared.line.LineEnd.{LineEnd}
use Rattle.stream_lines.specs.declared.line.LineEnd.TheVariants as next
use Rattle.stream_lines.proofs.FirstLine.{cut_first}
use Rattle.stream_watch_cli.specs.Watched.{HasShortLines, IsVerdictOf}
use Rattle.stream_watch_cli.specs.declared.watch_fault.WatchFault.{WatchFault}

-- the judge has read the lines before the rest
pub record Reached (mode : Mode) (bytes rest : List ℕ) (judge : Judge) : Type 0 where
  pub texts : List (List ℕ)
  pub cut : cut_lines bytes ≡ texts ++ cut_lines rest
  pub judged : HasJudged mode judge texts

-- so it is if no line is too long
abbrev pub Known : Mode → (all left : Option (List ℕ)) → Judge → Type 0
Known mode all left judge =
    IfSome all (λ bytes. HasShortLines bytes → (rest : List ℕ) × (left ≡ Some rest) × Reached mode bytes rest judge)

pub given : (left rest : Option (List ℕ)) (which : LineEnd) (line xs : List ℕ) → left ≡ Some xs → IfSome left (Gives which line rest) → Gives which line rest xs
given left rest which line xs is gives = subst (λ (o : Option (List ℕ)). IfSome o (Gives which line rest)) is gives

cut_some : (xs : List ℕ) → xs ≢ [] → cut_lines xs ≡ first_line xs ∷ cut_lines (drop_through 10 xs)
cut_some [] some = absurd (some refl)
cut_some (x ∷ xs) some = cut_first x xs

-- one more line, from the bytes that are left
pub next_reached : (mode : Mode) (bytes : List ℕ) (left rest : Option (List ℕ)) (judge new : Judge) (line : List ℕ) (feed : Bool) (xs : List ℕ) → left ≡ Some xs
    → (at : Reached mode bytes xs judge) → IfSome left (Gives (next.Line feed) line rest)
    → ((mode : Mode) → (texts : List (List ℕ)) → HasJudged mode judge texts → HasJudged mode new (texts ++ line ∷ []))
    → (tail : List ℕ) × (rest ≡ Some tail) × ((reached : Reached mode bytes tail new) × (reached.texts ≡ at.texts ++ line ∷ []))
next_reached mode bytes left rest judge new line feed xs is at gives more =
    let read = given left rest (next.Line feed) line xs is gives in
    let tail = drop_through 10 xs in (
      tail,
      read.2,
      (
        record {
          texts = at.texts ++ line ∷ [];
          cut = at.cut ∙ ap (λ (ls : List (List ℕ)). at.texts ++ ls) (cut_some xs read.0 ∙ ap (λ (l : List ℕ). l ∷ cut_lines tail) (sym read.1))
              ∙ sym (append_assoc at.texts (line ∷ []) (cut_lines tail));
          judged = more mode at.texts at.judged;
        },
        refl,
      ),
    )

abbrev is_short : List ℕ → Type 0
is_short line = length line ≤ max_bytes

all_behind : (xs ys : List (List ℕ)) → All is_short (xs ++ ys) → All is_short ys
all_behind [] ys all = all
all_behind (x ∷ xs) ys all = all_behind xs ys (All-tail is_short x (xs ++ ys) all)

too_short : (n : ℕ) → n ≤ max_bytes → max_bytes < n → ⊥
too_short n short long = omega arith

-- a line that is too long is none of short ones
pub too_short_here : (mode : Mode) (bytes : List ℕ) (left rest : Option (List ℕ)) (judge : Judge) (line : List ℕ) → HasShortLines bytes → (xs : List ℕ) → left ≡ Some xs
    → Reached mode bytes xs judge → IfSome left (Gives next.TooLong line rest) → ⊥
too_short_here mode bytes left rest judge line short xs is at gives =
    let read = given left rest next.TooLong line xs is gives in
    let behind = cut_lines (drop_through 10 xs) in
    let all : All is_short (at.texts ++ (first_line xs ∷ behind)) =
    subst (λ (ls : List (List ℕ)). All is_short ls) (at.cut ∙ ap (λ (ls : List (List ℕ)). at.texts ++ ls) (cut_some xs read.0)) short in
    too_short (length (first_line xs)) (All-head is_short (first_line xs) behind (all_behind at.texts (first_line xs ∷ behind) all)) read.1

-- at the end, all lines were read
pub reached_there : (mode : Mode) (bytes : List ℕ) (left rest : Option (List ℕ)) (judge : Judge) (line xs : List ℕ) → left ≡ Some xs
    → (at : Reached mode bytes xs judge) → IfSome left (Gives next.End line rest) → cut_lines bytes ≡ at.texts
reached_there mode bytes left rest judge line xs is at gives =
    let read = given left rest next.End line xs is gives in
    at.cut ∙ ap (λ (xs : List ℕ). at.texts ++ cut_lines xs) read.0 ∙ append-nil at.texts

-- the end of the stream
pub verdict_there : (mode : Mode) (all left rest : Option (List ℕ)) (judge : Judge) (line : List ℕ) (answer : Result Whole Finding) → Known mode all left judge
    → IfSome left (Gives next.End line rest)
    → ((mode : Mode) → (texts : List (List ℕ)) → HasJudged mode judge texts → verdict_of mode texts ≡ answer)
    → IfSome all (λ bytes. HasShortLines bytes → verdict_of mode (cut_lines bytes) ≡ answer)
verdict_there mode None left rest judge line answer known gives judged = tt
verdict_there mode (Some bytes) left rest judge line answer known gives judged = λ short.
    let at = known short in
    let read = given left rest next.End line at.0 at.1 gives in
    ap (λ (ls : List (List ℕ)). verdict_of mode ls) (at.2.cut ∙ ap (λ (xs : List ℕ). at.2.texts ++ cut_lines xs) read.0 ∙ append-nil at.2.texts)
    ∙ judged mode at.2.texts at.2.judged

pub ends_there : (mode : Mode) (all left rest : Option (List ℕ)) (judge : Judge) (line : List ℕ) → Known mode all left judge
    → IfSome left (Gives next.End line rest) → IfSome all (λ bytes. HasShortLines bytes → IsAtEnd rest)
ends_there mode None left rest judge line known gives = tt
ends_there mode (Some bytes) left rest judge line known gives = λ short.
    let at = known short in
    (given left rest next.End line at.0 at.1 gives).1

-- the verdict, and the end, as the clauses say them
pub answered : (mode : Mode) (all left rest : Option (List ℕ)) (judge : Judge) (line : List ℕ) (result : Result (Result Whole Finding) WatchFault) → Known mode all left judge
    → IfSome left (Gives next.End line rest)
    → IfOk result (λ answer. (mode : Mode) → (texts : List (List ℕ)) → HasJudged mode judge texts → verdict_of mode texts ≡ answer)
    → IfSome all (λ bytes. HasShortLines bytes → IsVerdictOf mode bytes result)
answered mode None left rest judge line result known gives judged = tt
answered mode (Some bytes) left rest judge line (Ok answer) known gives judged = verdict_there mode (Some bytes) left rest judge line answer known gives judged
answered mode (Some bytes) left rest judge line (Err fault) known gives judged = λ short. tt

pub ended : {T E : Type 0} (all rest : Option (List ℕ)) (result : Result T E) → IfSome all (λ bytes. HasShortLines bytes → IsAtEnd rest)
    → IfSome all (λ bytes. HasShortLines bytes → OnOk result (IsAtEnd rest))
ended None rest result at_end = tt
ended (Some bytes) rest (Ok x) at_end = at_end
ended (Some bytes) rest (Err e) at_end = λ short. tt

pub not_answered : (mode : Mode) (all : Option (List ℕ)) (fault : WatchFault) → IfSome all (λ bytes. HasShortLines bytes → IsVerdictOf mode bytes (Err fault))
not_answered mode None fault = tt
not_answered mode (Some bytes) fault = λ short. tt

pub not_ended : (all rest : Option (List ℕ)) (fault : WatchFault) → IfSome all (λ bytes. HasShortLines bytes → (let e : Result (Result Whole Finding) WatchFault = Err fault in OnOk e (IsAtEnd rest)))
not_ended None rest fault = tt
not_ended (Some bytes) rest fault = λ short. tt
