-- Streams of the same hook messages and of the same diagnostics are the same.
use Rattle.std.proofs.Common.{◌≡◌, ℕ, List, ◌++◌, length, All, append_assoc, sym, ap, ◌∙◌}
use Rattle.std.specs.Prelude.{flat_map}
use Rattle.apply_events.specs.declared.event.Event.{Event}
use Rattle.apply_text.specs.Latest.{latest_of}
use Rattle.apply_text.specs.Order.{as_written, hook_messages_of, notes_of}
use Rattle.laws_texts.specs.Streams.{AreNotesInTime}
use Rattle.laws_texts.proofs.Clocks.{body, body_is, last_clock, latest_with_notes, lines_from, lines_same}

-- the latest time of the hook messages
abbrev pub hooks_clock : List Event → ℕ
hooks_clock events = last_clock (hook_messages_of events)

-- the lines of the diagnostics, and the end of the stream
abbrev pub after_hooks : (line : ℕ → Event → List ℕ) → (tail : ℕ → List ℕ) → (clock : ℕ) → List Event → List ℕ
after_hooks line tail clock events = flat_map (line clock) (notes_of events) ++ tail clock

abbrev pub whole : (head : List ℕ) → (line : ℕ → Event → List ℕ) → (tail : ℕ → List ℕ) → List Event → List ℕ
whole head line tail events = (head ++ body line (as_written events)) ++ tail (latest_of (as_written events) (length (as_written events)))

whole_is : (head : List ℕ) (line : ℕ → Event → List ℕ) (tail : ℕ → List ℕ) (events : List Event) → AreNotesInTime events
    → whole head line tail events ≡ head ++ (lines_from line 0 (hook_messages_of events) ++ after_hooks line tail (hooks_clock events) events)
whole_is head line tail events in_time =
    let hooks = hook_messages_of events in
    let notes = notes_of events in
    let first = lines_from line 0 hooks in
    let lines = flat_map (line (hooks_clock events)) notes in
    ap (λ l. (head ++ l) ++ tail (latest_of (as_written events) (length (as_written events)))) (body_is line hooks notes in_time)
    ∙ ap (λ t. (head ++ (first ++ lines)) ++ tail t) (latest_with_notes hooks notes in_time)
    ∙ append_assoc head (first ++ lines) (tail (hooks_clock events))
    ∙ ap (λ l. head ++ l) (append_assoc first lines (tail (hooks_clock events)))

pub same_streams : (head : List ℕ) (line other_line : ℕ → Event → List ℕ) (tail other_tail : ℕ → List ℕ) (events others : List Event)
    → AreNotesInTime events → AreNotesInTime others → hook_messages_of others ≡ hook_messages_of events
    → All (λ e. (clock : ℕ) → other_line clock e ≡ line clock e) (hook_messages_of events)
    → after_hooks other_line other_tail (hooks_clock events) others ≡ after_hooks line tail (hooks_clock events) events
    → whole head other_line other_tail others ≡ whole head line tail events
same_streams head line other_line tail other_tail events others in_time others_in_time hooks same last =
    whole_is head other_line other_tail others others_in_time
    ∙ ap (λ h. head ++ (lines_from other_line 0 h ++ after_hooks other_line other_tail (last_clock h) others)) hooks
    ∙ ap (λ l. head ++ (l ++ after_hooks other_line other_tail (hooks_clock events) others)) (lines_same line other_line 0 (hook_messages_of events) same)
    ∙ ap (λ l. head ++ (lines_from line 0 (hook_messages_of events) ++ l)) last
    ∙ sym (whole_is head line tail events in_time)
