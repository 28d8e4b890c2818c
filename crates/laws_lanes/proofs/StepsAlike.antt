-- Steps that go alike take the same time, go on alike, and have the same hook messages.
use Rattle.std.proofs.Common.{◌≡◌, ℕ, ◌+◌, Bool, true, false, ◌&&◌, ◌||◌, not, List, [], ◌∷◌, ◌++◌, Option, Some, None, cond, map, refl, sym, ap, ◌∙◌, arith}
use Rattle.std.specs.Prelude.{is_none, is_some, nat_eq, option_map, option_to_list}
use Rattle.std.proofs.lemmas.Bool.{true≢false}
use Rattle.std.proofs.lemmas.List.{append-nil}
use Rattle.std.proofs.lemmas.List.Elements.{filter-append}
use Rattle.std.proofs.lemmas.List.Sums.{sum_by-cons}
use Rattle.apply_model.specs.declared.script.provisioner.Provisioner.{Provisioner}
use Rattle.apply_model.specs.declared.script.timed_text.TimedText.{TimedText}
use Rattle.apply_model.specs.Script.Outcome.{has_failed, seconds_of_all}
use Rattle.apply_hooks.specs.declared.phase.Phase.{Phase}
use Rattle.apply_hooks.specs.declared.phase.Phase.TheVariants.{Pre, PostDone}
use Rattle.apply_events.specs.ChangeEvents.{in_turn}
use Rattle.apply_events.specs.Diagnostics.{is_note}
use Rattle.apply_events.specs.Provisions.{along, emitted_by, progress}
use Rattle.apply_events.specs.Step.{Step}
use Rattle.apply_events.specs.StepEvents.{between, end_of, endings, event, goes_on, halts, notes, phase_after, seconds_of, start_events, step_events, step_time}
use Rattle.apply_events.specs.Waits.Done.{done_among, end_after}
use Rattle.apply_events.specs.Waits.LaneTime.{later_by}
use Rattle.apply_events.specs.declared.event.Event.{Event}
use Rattle.apply_events.specs.declared.lanes.lane_time.LaneTime.{LaneTime}
use Rattle.apply_events.specs.declared.what.What.{What}
use Rattle.apply_events.specs.declared.what.What.TheVariants.{Halted, ProvisionComplete, ProvisionErrored, ProvisionStart, Start, WarnNote}
use Rattle.laws_lanes.specs.Alike.{RunAlike, hooks_of}

-- two steps of the same place that go alike, without hooks
pub record GoLike (one other : Step) : Type 0 where
  pub change : other.change ≡ one.change
  pub number : other.number ≡ one.number
  pub before : other.seconds_before ≡ one.seconds_before
  pub ran : RunAlike one.ran other.ran
  pub after : other.seconds_after ≡ one.seconds_after
  pub fails : other.fails ≡ one.fails
  pub ends : one.only_warns ≡ false
  pub other_ends : other.only_warns ≡ false
  pub halts : (phase : Phase) → one.halts phase ≡ None
  pub other_halts : (phase : Phase) → other.halts phase ≡ None

abbrev pub AllGoLike : (ones others : List Step) → Type 0
AllGoLike [] [] = Unit {0}
AllGoLike [] (other ∷ others) = ⊥
AllGoLike (one ∷ ones) [] = ⊥
AllGoLike (one ∷ ones) (other ∷ others) = GoLike one other × AllGoLike ones others

-- ---- how long they take

same_seconds : (ones others : List Provisioner) → RunAlike ones others → seconds_of_all others ≡ seconds_of_all ones
same_seconds [] [] h = refl
same_seconds [] (other ∷ others) h = absurd h
same_seconds (one ∷ ones) [] h = absurd h
same_seconds (one ∷ ones) (other ∷ others) h =
    let rest = same_seconds ones others h.1 in
    let here = h.0.seconds in
    let sum = sum_by-cons (λ (p : Provisioner). p.seconds) one ones in
    let other_sum = sum_by-cons (λ (p : Provisioner). p.seconds) other others in omega arith

same_seconds_of : (one other : Step) → GoLike one other → seconds_of other ≡ seconds_of one
same_seconds_of one other h =
    let before = h.before in let after = h.after in let ran = same_seconds one.ran other.ran h.ran in omega arith

time_is : (s : Step) → s.halts Pre ≡ None → step_time s ≡ seconds_of s
time_is s free = ap (λ answer. cond (is_some answer) 0 (seconds_of s)) free

pub same_time : (one other : Step) → GoLike one other → step_time other ≡ step_time one
same_time one other h = time_is other (h.other_halts Pre) ∙ same_seconds_of one other h ∙ sym (time_is one (h.halts Pre))

goes_if : (pre post : Option ℕ) (failing : Bool) → pre ≡ None → post ≡ None → (is_none pre && not failing && is_none post) ≡ not failing
goes_if None None true p q = refl
goes_if None None false p q = refl
goes_if None (Some hook) failing p q = absurd cc
goes_if (Some hook) post failing p q = absurd cc

pub same_goes_on : (one other : Step) → GoLike one other → goes_on other ≡ goes_on one
same_goes_on one other h =
    goes_if (other.halts Pre) (other.halts PostDone) other.fails (h.other_halts Pre) (h.other_halts PostDone)
    ∙ ap not h.fails ∙ sym (goes_if (one.halts Pre) (one.halts PostDone) one.fails (h.halts Pre) (h.halts PostDone))

pub same_end : (at : LaneTime) (ones others : List Step) → AllGoLike ones others → end_after at others ≡ end_after at ones
same_end at [] [] h = refl
same_end at [] (other ∷ others) h = absurd h
same_end at (one ∷ ones) [] h = absurd h
same_end at (one ∷ ones) (other ∷ others) h =
    ap (λ t. end_after (later_by t at) others) (same_time one other h.0) ∙ same_end (later_by (step_time one) at) ones others h.1

pub same_done : (k : ℕ) (at : LaneTime) (ones others : List Step) → AllGoLike ones others → done_among k at others ≡ done_among k at ones
same_done k at [] [] h = refl
same_done k at [] (other ∷ others) h = absurd h
same_done k at (one ∷ ones) [] h = absurd h
same_done k at (one ∷ ones) (other ∷ others) h =
    let answer : ℕ → Bool → ℕ → Option LaneTime → Option LaneTime = λ number goes time rest. cond (nat_eq number k) (cond goes (Some (later_by time at)) None) rest in
    ap (λ number. answer number (goes_on other) (step_time other) (done_among k (later_by (step_time other) at) others)) h.0.number
    ∙ ap (λ goes. answer one.number goes (step_time other) (done_among k (later_by (step_time other) at) others)) (same_goes_on one other h.0)
    ∙ ap (λ time. answer one.number (goes_on one) time (done_among k (later_by time at) others)) (same_time one other h.0)
    ∙ ap (answer one.number (goes_on one) (step_time one)) (same_done k (later_by (step_time one) at) ones others h.1)

-- ---- what they show

-- what a provisioner shows, and then the rest
abbrev shown : (d after i since : ℕ) → (seconds : ℕ) → (failed : Bool) → List TimedText → List (ℕ × What) → List (ℕ × What)
shown d after i since seconds failed output rest =
    progress d after since ++ (since, ProvisionStart i)
    ∷ (emitted_by d since i 0 since (since + seconds) (cond failed (ProvisionErrored i) (ProvisionComplete i)) output ++ rest)

same_along : (d after i since : ℕ) (ones others : List Provisioner) → RunAlike ones others → along d after i since others ≡ along d after i since ones
same_along d after i since [] [] h = refl
same_along d after i since [] (other ∷ others) h = absurd h
same_along d after i since (one ∷ ones) [] h = absurd h
same_along d after i since (one ∷ ones) (other ∷ others) h =
    let rest : ℕ → List Provisioner → List (ℕ × What) = λ seconds all. along d (since + seconds) (i + 1) (since + seconds) all in
    ap (λ seconds. shown d after i since seconds (has_failed other) other.output (rest seconds others)) h.0.seconds
    ∙ ap (λ failed. shown d after i since one.seconds failed other.output (rest one.seconds others)) h.0.failed
    ∙ ap (λ output. shown d after i since one.seconds (has_failed one) output (rest one.seconds others)) h.0.output
    ∙ ap (shown d after i since one.seconds (has_failed one) one.output) (same_along d (since + one.seconds) (i + 1) (since + one.seconds) ones others h.1)

same_between : (one other : Step) → GoLike one other → between other ≡ between one
same_between one other h =
    ap (λ d. along d 0 0 other.seconds_before other.ran) (same_seconds_of one other h)
    ∙ ap (λ since. along (seconds_of one) 0 0 since other.ran) h.before
    ∙ same_along (seconds_of one) 0 0 one.seconds_before one.ran other.ran h.ran

abbrev of_place : (lane c k at : ℕ) → What → Event
of_place lane c k at what = record { worker = lane; change = c; step = k; what = what; at = at }

-- the events of a step before its end
abbrev begins : (lane c k at : ℕ) → List (ℕ × What) → List Event
begins lane c k at between = of_place lane c k at Start ∷ [] ++ map (λ p. of_place lane c k (at + p.0) p.1) between

abbrev ends : (lane c k at seconds : ℕ) → (failing : Bool) → Event
ends lane c k at seconds failing = of_place lane c k (at + seconds) (end_of failing seconds)

shown_end : (lane c k at seconds : ℕ) (failing warns only : Bool) → only ≡ false
    → hooks_of (map (λ what. of_place lane c k (at + seconds) what) (cond (failing || not only) (end_of failing seconds ∷ notes failing warns) (WarnNote ∷ []))) ≡ ends lane c k at seconds failing ∷ []
shown_end lane c k at seconds true warns only is = refl
shown_end lane c k at seconds false true false is = refl
shown_end lane c k at seconds false false false is = refl
shown_end lane c k at seconds false warns true is = absurd (true≢false is)

shown_is : (lane at : ℕ) (s : Step) → ((phase : Phase) → s.halts phase ≡ None) → s.only_warns ≡ false
    → hooks_of (step_events lane s at) ≡ hooks_of (begins lane s.change s.number at (between s)) ++ ends lane s.change s.number at (seconds_of s) s.fails ∷ []
shown_is lane at s free has_end =
    let p : Event → Bool = λ event. not (is_note event.what) in
    let front = begins lane s.change s.number at (between s) in
    let last = map (λ what. event lane s (at + seconds_of s) what) (endings s) in
    let halted = halts lane s (phase_after s.fails) (at + seconds_of s) in
    let no_halt : halted ≡ [] = ap (λ answer. option_to_list (option_map (λ hook. event lane s (at + seconds_of s) (Halted (phase_after s.fails) hook)) answer)) (free (phase_after s.fails)) in
    ap (λ answer. hooks_of (cond (is_some answer) (halts lane s Pre at) (start_events lane s at))) (free Pre)
    ∙ filter-append p (front ++ last) halted ∙ ap (λ l. hooks_of (front ++ last) ++ hooks_of l) no_halt ∙ append-nil (hooks_of (front ++ last))
    ∙ filter-append p front last
    ∙ ap (λ l. hooks_of front ++ l) (shown_end lane s.change s.number at (seconds_of s) s.fails s.warns s.only_warns has_end)

pub same_shown : (lane at : ℕ) (one other : Step) → GoLike one other → hooks_of (step_events lane other at) ≡ hooks_of (step_events lane one at)
same_shown lane at one other h =
    let all : ℕ → ℕ → List (ℕ × What) → ℕ → Bool → List Event = λ c k between seconds failing. hooks_of (begins lane c k at between) ++ ends lane c k at seconds failing ∷ [] in
    shown_is lane at other h.other_halts h.other_ends
    ∙ ap (λ c. all c other.number (between other) (seconds_of other) other.fails) h.change
    ∙ ap (λ k. all one.change k (between other) (seconds_of other) other.fails) h.number
    ∙ ap (λ l. all one.change one.number l (seconds_of other) other.fails) (same_between one other h)
    ∙ ap (λ t. all one.change one.number (between one) t other.fails) (same_seconds_of one other h)
    ∙ ap (all one.change one.number (between one) (seconds_of one)) h.fails
    ∙ sym (shown_is lane at one h.halts h.ends)

pub same_all_shown : (lane at : ℕ) (ones others : List Step) → AllGoLike ones others
    → hooks_of (in_turn (step_events lane) step_time others at) ≡ hooks_of (in_turn (step_events lane) step_time ones at)
same_all_shown lane at [] [] h = refl
same_all_shown lane at [] (other ∷ others) h = absurd h
same_all_shown lane at (one ∷ ones) [] h = absurd h
same_all_shown lane at (one ∷ ones) (other ∷ others) h =
    let p : Event → Bool = λ event. not (is_note event.what) in
    let rest : ℕ → List Step → List Event = λ time steps. in_turn (step_events lane) step_time steps (at + time) in
    filter-append p (step_events lane other at) (rest (step_time other) others)
    ∙ ap (λ l. l ++ hooks_of (rest (step_time other) others)) (same_shown lane at one other h.0)
    ∙ ap (λ time. hooks_of (step_events lane one at) ++ hooks_of (rest time others)) (same_time one other h.0)
    ∙ ap (λ l. hooks_of (step_events lane one at) ++ l) (same_all_shown lane (at + step_time one) ones others h.1)
    ∙ sym (filter-append p (step_events lane one at) (rest (step_time one) ones))
