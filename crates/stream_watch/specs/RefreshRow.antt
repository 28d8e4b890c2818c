-- What is told of refreshes.
use Rattle.std.specs.Prelude.{ℕ, ℤ, List, [], ◌∷◌, ◌++◌, ◌==◌, Option, codes, if◌then◌else◌, option_map, true}
use Rattle.serde_json.specs.Data.{Data}
use Rattle.stream_message.specs.declared.stage.Stage.{Stage}
use Rattle.stream_message.specs.declared.stage.Stage.TheVariants as stage
use Rattle.term_words.specs.Words.{number_words}
use Rattle.stream_watch.specs.Hooks.{Hook, hook_of, kind_of}
use Rattle.stream_watch.specs.Noted.{with_noted}
use Rattle.stream_watch.specs.Refreshes.{length_of, none_after, with_begin, with_end}
use Rattle.stream_watch.specs.State.{State, Told, line_told, nothing}
use Rattle.stream_watch.specs.Steps.{is_step, new_step, without_first}
use Rattle.stream_watch.specs.Words.{length_words}
use Rattle.stream_watch.specs.declared.looks.Looks.{Looks}
use Rattle.stream_watch.specs.declared.mark.Mark.TheVariants as mark
use Rattle.stream_watch.specs.declared.refreshes.Refreshes.{Refreshes}

-- how many ended since that was told last, and how long they took
abbrev pub refreshed_words : Refreshes → List ℕ
refreshed_words refreshes =
    codes "refreshed " ++ number_words refreshes.unreported (codes "object") ++ length_words (codes " in ") (length_of refreshes)

-- they are told, where some ended
abbrev pub reported_told : Looks → State → Told
reported_told looks state =
    if state.refreshes.unreported == 0 then nothing state
    else line_told looks (record state { refreshes = none_after state.refreshes.ended }) mark.Done (refreshed_words state.refreshes)

-- ---- what messages change

-- the state after a refresh began
abbrev pub refresh_began : (address kind : List ℕ) (moment : ℤ) → State → State
refresh_began address kind moment state = record state {
  steps = state.steps ++ new_step address (codes "refresh") kind true moment ∷ [];
  refreshes = with_begin moment state.refreshes;
}

-- the state after a refresh ended, which was open or not
abbrev pub refresh_ended : (address : List ℕ) (moment : ℤ) → State → State
refresh_ended address moment state = record state {
  steps = without_first (is_step address (codes "refresh") true) state.steps;
  refreshes = with_end moment state.refreshes;
}

-- the time of a refresh that is open is kept
abbrev pub noted_refresh : (address : List ℕ) (moment : ℤ) → State → State
noted_refresh address moment state = with_noted (is_step address (codes "refresh") true) moment state

abbrev pub refresh_state : State → Stage → (moment : ℤ) → Hook → State
refresh_state state stage.Start moment named = refresh_began named.address (kind_of named.hook) moment state
refresh_state state stage.Complete moment named = refresh_ended named.address moment (noted_refresh named.address moment state)
refresh_state state _ moment named = refresh_ended named.address moment state

-- nothing is told of a refresh by itself; none if the message lacks the address
abbrev pub refresh_told : State → Stage → Data → (moment : ℤ) → Option Told
refresh_told state stage tree moment = option_map (λ named. nothing (refresh_state state stage moment named)) (hook_of tree)
