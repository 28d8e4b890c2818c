-- What is remembered: the steps that are open, and at most a thousand lengths.
use Rattle.std.proofs.Common.{◌≡◌, ◌∙◌, ℕ, ℤ, ◌+◌, ◌<◌, ◌≤◌, List, [], ◌∷◌, ◌++◌, ◌==◌, ◌&&◌, Bool, true, false, not, Option, None, Some, ap, arith, codes, find, if◌then◌else◌, is_some, length, length-append, option_and_then, option_map, refl, unwrap_or}
use Rattle.std.specs.Prelude.{nat_le, nat_lt}
use Rattle.std.specs.List.{count_by}
use Rattle.std.specs.Option.{option_map_or}
use Rattle.std.specs.Str.{bytes_eq}
use Rattle.std.proofs.lemmas.Bool.{false≢true, ltb-true}
use Rattle.std.proofs.lemmas.List.Sums.{count_by-le-length, length-filter, sum_by-cons}
use Rattle.serde_json.specs.Data.{Data}
use Rattle.apply_json.specs.Tree.{◌>>=◌, is_empty, member_of, text_of}
use Rattle.stream_message.specs.Kinds.{kind_named}
use Rattle.stream_message.specs.declared.kind.Kind.{Kind}
use Rattle.stream_message.specs.declared.kind.Kind.TheVariants as kind
use Rattle.stream_message.specs.declared.stage.Stage.{Stage}
use Rattle.stream_message.specs.declared.stage.Stage.TheVariants as stage
use Rattle.term_text.specs.LineTexts.{line_text, text_lines}
use Rattle.stream_watch.specs.Changes.{NamedChange, change_of, counting}
use Rattle.stream_watch.specs.Counts.{is_change}
use Rattle.stream_watch.specs.DiagnosticRow.{address_of, severity_told, text_or_nothing, without_reads}
use Rattle.stream_watch.specs.Hooks.{Hook, hook_of}
use Rattle.stream_watch.specs.Lengths.{KindLength, has_room, is_kind, longer_by, one_length, with_first, with_length}
use Rattle.stream_watch.specs.Noted.{with_length_of}
use Rattle.stream_watch.specs.OutputRows.{all_told, has_outputs}
use Rattle.stream_watch.specs.Outputs.{outputs_of}
use Rattle.stream_watch.specs.ProvisionerRows.{told_of_provisioner, with_running}
use Rattle.stream_watch.specs.Reading.{message_of}
use Rattle.stream_watch.specs.RefreshRow.{refresh_state, reported_told}
use Rattle.stream_watch.specs.State.{State, Told, beginning, line_told, nothing}
use Rattle.stream_watch.specs.StepRows.{NamedStep, step_of, told_of_step, with_step}
use Rattle.stream_watch.specs.Steps.{Running, Step, last_step, reads_at, runs_at, with_provisioner, without_first}
use Rattle.stream_watch.specs.Stream.{lines_told}
use Rattle.stream_watch.specs.SummaryRow.{summary_words}
use Rattle.stream_watch.specs.Telling.{at_moment, kind_told, lines_or_line_told, message_or_line_told, moment_of, other_told, passed_told, text_told, told_at, under_way_told_if}
use Rattle.stream_watch.specs.declared.looks.Looks.{Looks}
use Rattle.stream_watch.specs.declared.mark.Mark.TheVariants as mark
use Rattle.laws_watch.specs.Asked.{output_of}
use Rattle.laws_watch.specs.Memory.{begins, begins_kind, begins_message, is_start}
use Rattle.laws_watch.proofs.ProgressLines.{under_way_differs}

one_if : Bool → ℕ
one_if b = if b then 1 else 0

record Keeps (more : Bool) (before after : State) : Type 0 where
  steps : length after.steps ≤ one_if more + length before.steps
  lengths : length before.lengths ≤ 1000 → length after.lengths ≤ 1000

-- ---- lists

without_shorter : {X : Type 0} (holds : X → Bool) (xs : List X) → length (without_first holds xs) ≤ length xs
without_shorter holds [] = omega arith
without_shorter holds (x ∷ xs) = first (holds x) (without_shorter holds xs)
  where
    first : (b : Bool) → length (without_first holds xs) ≤ length xs → length (if b then xs else x ∷ without_first holds xs) ≤ length (x ∷ xs)
    first true less = omega arith
    first false less = omega (arith, less)

provisioner_as_long : (holds : Step → Bool) (running : Option Running) (steps : List Step) → length (with_provisioner holds running steps) ≡ length steps
provisioner_as_long holds running [] = refl
provisioner_as_long holds running (step ∷ steps) =
    either (provisioner_as_long holds running steps) (is_some (last_step holds steps)) (holds step)
  where
    either : length (with_provisioner holds running steps) ≡ length steps → (later here : Bool)
        → length (if later then step ∷ with_provisioner holds running steps else if here then record step { provisioner = running } ∷ steps else step ∷ steps)
        ≡ length (step ∷ steps)
    either same true here = omega (arith, same)
    either same false true = refl
    either same false false = refl

-- one that was found is missing afterwards
without_found : {X : Type 0} (holds : X → Bool) (xs : List X) (o : Option X) → find holds xs ≡ o → is_some o ≡ true
    → length (without_first holds xs) + 1 ≡ length xs
without_found holds [] None is some = absurd (false≢true some)
without_found holds [] (Some x) is some = absurd cc
without_found holds (x ∷ xs) o is some = first (λ found. without_found holds xs o found some) (holds x) is
  where
    first : (find holds xs ≡ o → length (without_first holds xs) + 1 ≡ length xs) → (b : Bool) → (if b then Some x else find holds xs) ≡ o
        → length (if b then xs else x ∷ without_first holds xs) + 1 ≡ length (x ∷ xs)
    first later true found = omega arith
    first later false found = let rest = later found in omega (arith, rest)

-- ---- lengths

first_short : (room : Bool) (lengths : List KindLength) (one : KindLength) → (room ≡ true → length lengths < 1000) → length lengths ≤ 1000
    → length (if room then lengths ++ one ∷ [] else lengths) ≤ 1000
first_short true lengths one has short = let less = has refl in omega (arith, less, length-append lengths (one ∷ []))
first_short false lengths one has short = short

first_true : (a b : Bool) → (a && b) ≡ true → a ≡ true
first_true true b both = refl
first_true false b both = both

one_more_short : (action kind : List ℕ) (took : ℕ) (lengths : List KindLength) → length lengths ≤ 1000 → length (with_first action kind took lengths) ≤ 1000
one_more_short action kind took lengths short =
    first_short (has_room action kind lengths) lengths (one_length action kind took)
    (λ room. ltb-true (length lengths) 1000 (first_true (nat_lt (length lengths) 1000) (nat_le (length action + length kind) 256) room)) short

changed_short : (holds : KindLength → Bool) (change : KindLength → KindLength) (lengths others : List KindLength) (o : Option KindLength) → find holds lengths ≡ o
    → length lengths ≤ 1000 → length others ≤ 1000
    → length (option_map_or (λ kept. without_first holds lengths ++ change kept ∷ []) o others) ≤ 1000
changed_short holds change lengths others None is short other = other
changed_short holds change lengths others (Some kept) is short other =
    let less = without_found holds lengths (Some kept) is refl in
    omega (arith, less, length-append (without_first holds lengths) (change kept ∷ []))

lengths_short : (action kind : List ℕ) (took : ℕ) (lengths : List KindLength) → length lengths ≤ 1000 → length (with_length action kind took lengths) ≤ 1000
unfolding with_length
lengths_short action kind took lengths short =
    changed_short (is_kind action kind) (longer_by took) lengths (with_first action kind took lengths) (find (is_kind action kind) lengths) refl short
    (one_more_short action kind took lengths short)

noted_short : (moment : ℤ) (state : State) (step : Option Step) → length state.lengths ≤ 1000
    → length (option_map_or (with_length_of moment state) step state).lengths ≤ 1000
noted_short moment state None short = short
noted_short moment state (Some step) short = lengths_short step.action step.kind _ state.lengths short

noted_steps : (moment : ℤ) (state : State) (step : Option Step) → (option_map_or (with_length_of moment state) step state).steps ≡ state.steps
noted_steps moment state None = refl
noted_steps moment state (Some step) = refl

-- ---- states

keeps_same : (more : Bool) (before after : State) → after.steps ≡ before.steps → after.lengths ≡ before.lengths → Keeps more before after
unfolding one_if
keeps_same more before after steps lengths =
    let same = ap (λ (x : List Step). length x) steps in
    let kept = ap (λ (x : List KindLength). length x) lengths in
    record { steps = omega (arith, same); lengths = λ short. omega (arith, kept, short) }

keeps_fewer : (more : Bool) (before after : State) → length after.steps ≤ length before.steps → (length before.lengths ≤ 1000 → length after.lengths ≤ 1000) → Keeps more before after
keeps_fewer more before after steps lengths = record { steps = omega (arith, steps); lengths = lengths }

keeps_one_more : (before after : State) (step : Step) → after.steps ≡ before.steps ++ step ∷ [] → after.lengths ≡ before.lengths → Keeps true before after
unfolding one_if
keeps_one_more before after step steps lengths =
    let longer = ap (λ (x : List Step). length x) steps in
    let kept = ap (λ (x : List KindLength). length x) lengths in
    record { steps = omega (arith, longer, length-append before.steps (step ∷ [])); lengths = λ short. omega (arith, kept, short) }

reported_if_same : (none : Bool) (looks : Looks) (state : State) (other : Told) → other.state.steps ≡ state.steps → other.state.lengths ≡ state.lengths
    → ((if none then nothing state else other).state.steps ≡ state.steps) × ((if none then nothing state else other).state.lengths ≡ state.lengths)
reported_if_same true looks state other steps lengths = (refl, refl)
reported_if_same false looks state other steps lengths = (steps, lengths)

reported_same : (looks : Looks) (state : State)
    → ((reported_told looks state).state.steps ≡ state.steps) × ((reported_told looks state).state.lengths ≡ state.lengths)
reported_same looks state = reported_if_same (state.refreshes.unreported == 0) looks state _ refl refl

-- after the refreshes, where the rest keeps the state
keeps_reported : (more : Bool) (looks : Looks) (state : State) → Keeps more state (reported_told looks state).state
keeps_reported more looks state =
    let same = reported_same looks state in keeps_same more state (reported_told looks state).state same.0 same.1

-- one step more, after the refreshes or without them
keeps_began : (reports : Bool) (looks : Looks) (state : State) (change : State → State) (step : Step)
    → ((s : State) → ((change s).steps ≡ s.steps ++ step ∷ []) × ((change s).lengths ≡ s.lengths))
    → Keeps true state (change (if reports then reported_told looks state else nothing state).state)
keeps_began true looks state change step one_more =
    let reported = reported_told looks state in
    let same = reported_same looks state in
    let more = one_more reported.state in
    keeps_one_more state (change reported.state) step (more.0 ∙ ap (λ (x : List Step). x ++ step ∷ []) same.0) (more.1 ∙ same.1)
keeps_began false looks state change step one_more = let more = one_more state in keeps_one_more state (change state) step more.0 more.1

-- one step less at most, and the length of a step noted
keeps_noted : (holds : Step → Bool) (moment : ℤ) (state : State) (noted : Option Step) (after : State)
    → after.steps ≡ without_first holds (option_map_or (with_length_of moment state) noted state).steps
    → after.lengths ≡ (option_map_or (with_length_of moment state) noted state).lengths → Keeps false state after
keeps_noted holds moment state noted after steps lengths =
    let left = ap (λ (x : List Step). length x) steps in
    let fewer = without_shorter holds (option_map_or (with_length_of moment state) noted state).steps in
    let same = ap (λ (x : List Step). length x) (noted_steps moment state noted) in
    let kept = ap (λ (x : List KindLength). length x) lengths in
    keeps_fewer false state after (omega (arith, left, fewer, same))
    (λ short. let few = noted_short moment state noted short in omega (arith, kept, few))

-- ---- options

abbrev KeepsIf : Bool → State → Option Told → Type 0
KeepsIf more state None = Unit {0}
KeepsIf more state (Some told) = Keeps more state told.state

if_map : {X : Type 0} (more : Bool) (state : State) (told : X → Told) → ((x : X) → Keeps more state (told x).state) → (o : Option X)
    → KeepsIf more state (option_map told o)
if_map more state told each None = tt
if_map more state told each (Some x) = each x

if_named : {X : Type 0} (more : Bool) (state : State) (told : X → Told) → ((x : X) → Keeps more state (told x).state) → (o : Option X)
    → KeepsIf (is_some o && more) state (option_map told o)
if_named more state told each None = tt
if_named more state told each (Some x) = each x

if_then : {X : Type 0} (more : Bool) (state : State) (told : X → Option Told) → ((x : X) → KeepsIf more state (told x)) → (o : Option X)
    → KeepsIf more state (o >>= told)
if_then more state told each None = tt
if_then more state told each (Some x) = each x

if_if : (more : Bool) (state : State) (b : Bool) (told : Option Told) → KeepsIf more state told → KeepsIf more state (if b then told else None)
if_if more state true told keeps = keeps
if_if more state false told keeps = tt

if_or : (more : Bool) (state : State) (o : Option Told) (other : Told) → KeepsIf more state o → Keeps more state other.state
    → Keeps more state (unwrap_or o other).state
if_or more state None other keeps otherwise = otherwise
if_or more state (Some told) other keeps otherwise = keeps

-- ---- messages

stage_keeps : (looks : Looks) (state : State) (moment : ℤ) (stage : Stage) (step : NamedStep)
    → Keeps (is_start stage) state (told_of_step looks state stage moment step).state
stage_keeps looks state moment stage.Start step =
    keeps_began (is_change step.action) looks state (with_step step moment) _ (λ s. (refl, refl))
stage_keeps looks state moment stage.Progress step = keeps_same false state state refl refl
stage_keeps looks state moment stage.Complete step = keeps_noted _ moment state _ _ refl refl
stage_keeps looks state moment stage.Errored step = keeps_fewer false state _ (without_shorter _ state.steps) (λ short. short)

refresh_keeps : (state : State) (moment : ℤ) (stage : Stage) (named : Hook) → Keeps (is_start stage) state (refresh_state state stage moment named)
refresh_keeps state moment stage.Start named = keeps_one_more state _ _ refl refl
refresh_keeps state moment stage.Progress named = keeps_fewer false state _ (without_shorter _ state.steps) (λ short. short)
refresh_keeps state moment stage.Complete named = keeps_noted _ moment state _ _ refl refl
refresh_keeps state moment stage.Errored named = keeps_fewer false state _ (without_shorter _ state.steps) (λ short. short)

running_keeps : (state : State) (address : List ℕ) (running : Option Running) → Keeps false state (with_running address running state)
running_keeps state address running =
    let same = provisioner_as_long (runs_at address) running state.steps in
    keeps_fewer false state (with_running address running state) (omega (arith, same)) (λ short. short)

provisioner_keeps : (looks : Looks) (state : State) (moment : ℤ) (stage : Stage) (named : Hook)
    → KeepsIf false state (told_of_provisioner looks state stage moment named)
provisioner_keeps looks state moment stage.Start named = running_keeps state named.address _
provisioner_keeps looks state moment stage.Progress named =
    if_map false state _ (λ output. keeps_same false state state refl refl) (output_of named)
provisioner_keeps looks state moment stage.Complete named = running_keeps state named.address None
provisioner_keeps looks state moment stage.Errored named = running_keeps state named.address None

reads_keep : (address : Option (List ℕ)) (before state : State) → state.steps ≡ before.steps → state.lengths ≡ before.lengths
    → Keeps false before (without_reads address state)
reads_keep None before state steps lengths = keeps_same false before state steps lengths
reads_keep (Some address) before state steps lengths =
    let others = λ (step : Step). not (reads_at address step) in
    let fewer = count_by-le-length others state.steps in
    let as_many = length-filter others state.steps in
    let same = ap (λ (x : List Step). length x) steps in
    let kept = ap (λ (x : List KindLength). length x) lengths in
    keeps_fewer false before (without_reads (Some address) state) (omega (arith, fewer, as_many, same)) (λ short. omega (arith, kept, short))

severity_keeps : (looks : Looks) (state : State) (severity : List ℕ) (diagnostic : Data)
    → Keeps false state (severity_told looks state severity diagnostic).state
severity_keeps looks state severity diagnostic =
    let same = reported_same looks state in
    reads_keep (address_of diagnostic) state (reported_told looks state).state same.0 same.1

planned_keeps : (looks : Looks) (state : State) (change : NamedChange) → Keeps false state (reported_told looks (counting change.action state)).state
planned_keeps looks state change =
    let same = reported_same looks (counting change.action state) in
    keeps_same false state (reported_told looks (counting change.action state)).state same.0 same.1

kind_keeps : (looks : Looks) (state : State) (find : Bool) (line name : List ℕ) (tree : Data) (moment : ℤ) (k : Kind)
    → KeepsIf (begins_kind tree k) state (kind_told looks state find line name tree moment k)
kind_keeps looks state find line name tree moment kind.Version = if_map false state _ (λ version. keeps_reported false looks state) (text_of (codes "terraform") tree)
kind_keeps looks state find line name tree moment kind.Planned = if_map false state _ (planned_keeps looks state) (change_of tree)
kind_keeps looks state find line name tree moment (kind.Apply stage) = if_named (is_start stage) state _ (stage_keeps looks state moment stage) (step_of tree)
kind_keeps looks state find line name tree moment (kind.Ephemeral stage) = if_named (is_start stage) state _ (stage_keeps looks state moment stage) (step_of tree)
kind_keeps looks state find line name tree moment (kind.Refresh stage) =
    if_named (is_start stage) state (λ named. nothing (refresh_state state stage moment named)) (refresh_keeps state moment stage) (hook_of tree)
kind_keeps looks state find line name tree moment (kind.Provision stage) = if_then false state _ (provisioner_keeps looks state moment stage) (hook_of tree)
kind_keeps looks state find line name tree moment kind.Diagnostic =
    if_then false state _ (λ diagnostic. if_map false state _ (λ severity. severity_keeps looks state severity diagnostic) (text_of (codes "severity") diagnostic))
    (member_of (codes "diagnostic") tree)
kind_keeps looks state find line name tree moment kind.Summary = if_map false state _ (λ words. keeps_reported false looks state) (summary_words tree)
kind_keeps looks state find line name tree moment kind.Outputs =
    if_if false state (has_outputs tree) (Some (all_told looks state (outputs_of find line))) (keeps_reported false looks state)
kind_keeps looks state find line name tree moment kind.Other =
    if_if false state (bytes_eq name (codes "resource_drift")) _ (if_map false state _ (λ change. keeps_reported false looks state) (change_of tree))

row_keeps : (looks : Looks) (state : State) (find : Bool) (line : List ℕ) (tree : Data) (moment : ℤ) (name : Option (List ℕ))
    → KeepsIf (option_map_or (λ n. begins_kind tree (kind_named n)) name false) state
    (option_and_then (λ n. kind_told looks state find line n tree moment (kind_named n)) name)
row_keeps looks state find line tree moment None = tt
row_keeps looks state find line tree moment (Some name) = kind_keeps looks state find line name tree moment (kind_named name)

-- ---- lines

passed_keeps : (more : Bool) (looks : Looks) (state : State) (line : List ℕ) → Keeps more state (passed_told looks line state).state
passed_keeps more looks state line = by_blank (is_empty (line_text line)) _
  where
    by_blank : (b : Bool) (words : List ℕ) → Keeps more state (if b then nothing state else line_told looks state mark.Passed words).state
    by_blank true words = keeps_same more state state refl refl
    by_blank false words = keeps_same more state state refl refl

text_keeps : (more : Bool) (looks : Looks) (state : State) (line : List ℕ) (lines : List (List ℕ))
    → Keeps more state (lines_or_line_told looks line lines state).state
text_keeps more looks state line [] = passed_keeps more looks state line
text_keeps more looks state line (first ∷ rest) = keeps_same more state state refl refl

own_keeps : (looks : Looks) (state : State) (find : Bool) (line : List ℕ) (tree : Data) (moment : Option ℤ)
    → Keeps (begins_message tree) state (told_at looks state find line tree moment).state
own_keeps looks state find line tree moment =
    if_or (begins_message tree) state _ (other_told looks line tree state)
    (row_keeps looks state find line tree (unwrap_or moment state.clock.now) (text_of (codes "type") tree))
    (text_keeps (begins_message tree) looks state line (text_lines (text_or_nothing (codes "@message") tree)))

-- neither the time nor what is under way changes what is remembered
keeps_through : (more : Bool) (before at own after : State) → at.steps ≡ before.steps → at.lengths ≡ before.lengths → Keeps more at own
    → after.steps ≡ own.steps → after.lengths ≡ own.lengths → Keeps more before after
keeps_through more before at own after steps lengths keeps steps_after lengths_after =
    let first = ap (λ (x : List Step). length x) steps in
    let second = ap (λ (x : List KindLength). length x) lengths in
    let third = ap (λ (x : List Step). length x) steps_after in
    let fourth = ap (λ (x : List KindLength). length x) lengths_after in
    let less = keeps.steps in
    record {
      steps = omega (arith, first, third, less);
      lengths = λ short. let kept = keeps.lengths (omega (arith, second, short)) in omega (arith, fourth, kept);
    }

line_keeps_of : (looks : Looks) (state : State) (find : Bool) (line : List ℕ) (message : Option Data)
    → Keeps (option_map_or begins_message message false) state (message_or_line_told looks state find line message).state
line_keeps_of looks state find line None = passed_keeps false looks state line
line_keeps_of looks state find line (Some tree) =
    let at = at_moment (moment_of tree) state in
    let own = (told_at looks at find line tree (moment_of tree)).state in
    let under = under_way_differs (is_some (moment_of tree)) looks own in
    keeps_through (begins_message tree) state at own (under_way_told_if (is_some (moment_of tree)) looks own).state refl refl
    (own_keeps looks at find line tree (moment_of tree)) under.steps under.lengths

line_keeps : (looks : Looks) (state : State) (find : Bool) (line : List ℕ) → Keeps (begins find line) state (text_told looks state find line).state
unfolding text_told
line_keeps looks state find line = line_keeps_of looks state find line (message_of find line)

steps_from : (looks : Looks) (find : Bool) (lines : List (List ℕ)) (state : State)
    → length (lines_told looks find lines state).state.steps ≤ count_by (begins find) lines + length state.steps
unfolding one_if
steps_from looks find [] state = omega arith
steps_from looks find (line ∷ lines) state =
    let next = (text_told looks state find line).state in
    let more = (line_keeps looks state find line).steps in
    let rest = steps_from looks find lines next in
    let counted = sum_by-cons (λ l. if begins find l then 1 else 0) line lines in
    omega (arith, more, rest, counted)

pub steps_begun : (looks : Looks) (find : Bool) (lines : List (List ℕ))
    → length (lines_told looks find lines beginning).state.steps ≤ count_by (begins find) lines
steps_begun looks find lines = let all = steps_from looks find lines beginning in omega (arith, all)

lengths_from : (looks : Looks) (find : Bool) (lines : List (List ℕ)) (state : State) → length state.lengths ≤ 1000
    → length (lines_told looks find lines state).state.lengths ≤ 1000
lengths_from looks find [] state short = short
lengths_from looks find (line ∷ lines) state short =
    lengths_from looks find lines (text_told looks state find line).state ((line_keeps looks state find line).lengths short)

pub lengths_few : (looks : Looks) (find : Bool) (lines : List (List ℕ)) → length (lines_told looks find lines beginning).state.lengths ≤ 1000
lengths_few looks find lines = lengths_from looks find lines beginning (omega arith)
