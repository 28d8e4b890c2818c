-- A line changes the open steps in `watch` as it changes them in `view`.
use Rattle.std.proofs.Common.{◌≡◌, ◌∙◌, ℕ, ◌∷◌, [], Bool, List, Option, None, Some, true, false, ⊎_elim, ap, codes, fold, refl, sym}
use Rattle.std.specs.Prelude.{ℤ, All, is_some, option_and_then, option_map, unwrap_or}
use Rattle.std.proofs.lemmas.Bool.{cases_Bool, true≢false}
use Rattle.std.proofs.lemmas.List.Elements.{All-head, All-tail}
use Rattle.serde_json.specs.Data.{Data}
use Rattle.apply_json.specs.Tree.{◌>>=◌, is_empty, text_of, tree_of}
use Rattle.apply_json_tree.specs.Trimmed.{trimmed}
use Rattle.apply_json_tree.proofs.Trimmed.Lookups.{text_trimmed}
use Rattle.stream_message.specs.Kinds.{kind_named}
use Rattle.stream_message.specs.Members.{time_of, type_of}
use Rattle.stream_message.specs.Timestamp.{instant_of}
use Rattle.term_text.specs.LineTexts.{line_text, text_lines}
use Rattle.stream_timeline.specs.Messages as drawn_messages
use Rattle.stream_timeline.specs.Messages.{Message, content_of, message_at, tree_message}
use Rattle.stream_timeline.specs.TimelineRead.{TimelineRead, counted_line, empty_timeline, is_blank_line, timeline_of, with_line, with_message_or_passed_over}
use Rattle.stream_watch.specs.DiagnosticRow.{text_or_nothing}
use Rattle.stream_watch.specs.Progress.{is_due}
use Rattle.stream_watch.specs.Reading as watched_messages
use Rattle.stream_watch.specs.Reading.{if_typed}
use Rattle.stream_watch.specs.Shape.{message_selection}
use Rattle.stream_watch.specs.State.{State, Told, beginning}
use Rattle.stream_watch.specs.Steps.{Step}
use Rattle.stream_watch.specs.Stream.{lines_told}
use Rattle.stream_watch.specs.Telling.{at_moment, kind_told, lines_or_line_told, message_or_line_told, message_told, moment_of, other_told, passed_told, row_told, text_told, told_at, under_way_told_if}
use Rattle.stream_watch.specs.declared.looks.Looks.{Looks}
use Rattle.stream_watch.specs.declared.message.shape.MessageShape.TheVariants as shape
use Rattle.laws_watch.specs.Durations.{IsTimed, closes_read}
use Rattle.laws_watch.proofs.Blank.{no_tree}
use Rattle.laws_watch.proofs.DrawnBegins.{after_content, drawn-content, drawn_begins}
use Rattle.laws_watch.proofs.KindBegins.{content_is}
use Rattle.laws_watch.proofs.RowBegins.{IsKey, row-steps, steps_after}
use Rattle.laws_watch.proofs.WatchedBegins.{watched_begins}

-- ---- what is told besides rows

passed-steps : (looks : Looks) (line : List ℕ) (state : State) → (passed_told looks line state).state.steps ≡ state.steps
passed-steps looks line state =
    ⊎_elim (λ (empty : is_empty (line_text line) ≡ true). rw empty refl) (λ (some : is_empty (line_text line) ≡ false). rw some refl)
    (cases_Bool (is_empty (line_text line)))

other-steps : (looks : Looks) (line : List ℕ) (texts : List (List ℕ)) (state : State) → (lines_or_line_told looks line texts state).state.steps ≡ state.steps
other-steps looks line [] state = passed-steps looks line state
other-steps looks line (first ∷ rest) state = refl

under_way-steps : (has_moment : Bool) (looks : Looks) (state : State) → (under_way_told_if has_moment looks state).state.steps ≡ state.steps
under_way-steps false looks state = refl
under_way-steps true looks state =
    ⊎_elim (λ (due : is_due state ≡ true). rw due refl) (λ (none : is_due state ≡ false). rw none refl) (cases_Bool (is_due state))

or-steps : (told : Option Told) (fallback : Told) (steps : List Step) → fallback.state.steps ≡ steps → (unwrap_or told fallback).state.steps ≡ steps_after told steps
or-steps None fallback steps same = same
or-steps (Some told) fallback steps same = refl

-- ---- moments

same_bound : {A B : Type 0} (f : A → Option B) (o : Option A) → option_and_then f o ≡ (o >>= f)
same_bound f None = refl
same_bound f (Some x) = refl

pub same_moment : (d : Data) → moment_of (trimmed message_selection shape.Message d) ≡ time_of d
same_moment d =
    ap (option_and_then instant_of) (text_trimmed message_selection shape.Message shape.Scalar (codes "@timestamp") d refl)
    ∙ same_bound instant_of (text_of (codes "@timestamp") d)

there_is : {A : Type 0} (o : Option A) → is_some o ≡ true → (x : A) × (o ≡ Some x)
there_is None none = absurd (true≢false (sym none))
there_is (Some x) some = (x, refl)

module _ (address action : List ℕ) (key : IsKey address action) (looks : Looks) where
  abbrev watched : State → List ℤ
  watched state = watched_begins address action state.steps

  abbrev drawn : TimelineRead → List ℤ
  drawn t = drawn_begins address action t.steps

  -- ---- a message

  message-steps : (state : State) (line name : List ℕ) (d : Data) (moment : ℤ) → type_of d ≡ Some name → time_of d ≡ Some moment
      → closes_read address action (trimmed message_selection shape.Message d) ≡ false
      → watched (message_told looks state false line (trimmed message_selection shape.Message d)).state ≡ after_content address action (content_of name d) moment (watched state)
  message-steps state line name d moment typed timed open_still =
      let tree = trimmed message_selection shape.Message d in
      let now : moment_of tree ≡ Some moment = same_moment d ∙ timed in
      let named : text_of (codes "type") tree ≡ Some name = text_trimmed message_selection shape.Message shape.Scalar (codes "type") d refl ∙ typed in
      let later = at_moment (moment_of tree) state in
      let first = told_at looks later false line tree (moment_of tree) in
      let row = row_told looks later false line tree (unwrap_or (moment_of tree) later.clock.now) in
      let at_row : first.state.steps ≡ steps_after row state.steps =
      or-steps row (other_told looks line tree later) state.steps (other-steps looks line (text_lines (text_or_nothing (codes "@message") tree)) later) in
      let kind_row : row ≡ kind_told looks later false line name tree moment (kind_named name) =
      ap (option_and_then (λ name. kind_told looks later false line name tree (unwrap_or (moment_of tree) later.clock.now) (kind_named name))) named
      ∙ ap (λ m. kind_told looks later false line name tree (unwrap_or m later.clock.now) (kind_named name)) now in
      ap (watched_begins address action)
      (under_way-steps (is_some (moment_of tree)) looks first.state ∙ at_row ∙ ap (λ told. steps_after told state.steps) kind_row)
      ∙ row-steps address action key looks later line name d moment (kind_named name) open_still
      ∙ ap (λ content. after_content address action content moment (watched state)) (content_is name d)

  -- ---- a line

  -- a line without a message
  view_passes : (line : List ℕ) (t : TimelineRead) → drawn_messages.message_of line ≡ None → drawn (with_line line t) ≡ drawn t
  view_passes line t none =
      ⊎_elim (λ (blank : is_blank_line line ≡ true). rw blank refl)
      (λ (some : is_blank_line line ≡ false). rw some (ap (λ message. drawn (with_message_or_passed_over message (counted_line line t))) none))
      (cases_Bool (is_blank_line line))

  watch_passes : (line : List ℕ) (state : State) → watched_messages.message_of false line ≡ None → watched (text_told looks state false line).state ≡ watched state
  unfolding text_told
  watch_passes line state none =
      ap (λ message. watched (message_or_line_told looks state false line message).state) none ∙ ap (watched_begins address action) (passed-steps looks line state)

  -- a line with one
  view_reads : (line name : List ℕ) (d : Data) (moment : ℤ) (t : TimelineRead) → tree_of line ≡ Some d → type_of d ≡ Some name → time_of d ≡ Some moment
      → drawn (with_line line t) ≡ after_content address action (content_of name d) moment (drawn t)
  view_reads line name d moment t tree typed timed =
      let message : drawn_messages.message_of line ≡ Some (message_at name d moment) =
      ap (λ o. o >>= tree_message) tree ∙ ap (λ o. o >>= λ name. (time_of d >>= λ time. Some (message_at name d time))) typed
      ∙ ap (λ o. o >>= λ time. Some (message_at name d time)) timed in
      ⊎_elim (λ (blank : is_blank_line line ≡ true). absurd (cc (no_tree line blank, tree)))
      (λ (some : is_blank_line line ≡ false).
      rw some
      (ap (λ message. drawn (with_message_or_passed_over message (counted_line line t))) message
      ∙ drawn-content address action (content_of name d) moment _))
      (cases_Bool (is_blank_line line))

  watch_reads : (line name : List ℕ) (d : Data) (moment : ℤ) (state : State) → tree_of line ≡ Some d → type_of d ≡ Some name → time_of d ≡ Some moment
      → closes_read address action (trimmed message_selection shape.Message d) ≡ false
      → watched (text_told looks state false line).state ≡ after_content address action (content_of name d) moment (watched state)
  unfolding text_told
  watch_reads line name d moment state tree typed timed open_still =
      let message : watched_messages.message_of false line ≡ Some (trimmed message_selection shape.Message d) =
      ap (λ o. option_map (trimmed message_selection shape.Message) (o >>= if_typed)) tree
      ∙ ap (λ o. option_map (trimmed message_selection shape.Message) (option_map (λ name. d) o)) typed in
      ap (λ message. watched (message_or_line_told looks state false line message).state) message ∙ message-steps state line name d moment typed timed open_still

  line_same : (state : State) (t : TimelineRead) (line : List ℕ) → IsTimed address action line → watched state ≡ drawn t
      → watched (text_told looks state false line).state ≡ drawn (with_line line t)
  line_same state t line timed same = by_tree (tree_of line) refl
    where
      by_type : (d : Data) → tree_of line ≡ Some d → (name : Option (List ℕ)) → type_of d ≡ name → watched (text_told looks state false line).state ≡ drawn (with_line line t)
      by_type d tree None typed =
          let watch_none : watched_messages.message_of false line ≡ None =
          ap (λ o. option_map (trimmed message_selection shape.Message) (o >>= if_typed)) tree
          ∙ ap (λ o. option_map (trimmed message_selection shape.Message) (option_map (λ name. d) o)) typed in
          let view_none : drawn_messages.message_of line ≡ None =
          ap (λ o. o >>= tree_message) tree ∙ ap (λ o. o >>= λ name. (time_of d >>= λ time. Some (message_at name d time))) typed in
          watch_passes line state watch_none ∙ same ∙ sym (view_passes line t view_none)
      by_type d tree (Some name) typed =
          let message : watched_messages.message_of false line ≡ Some (trimmed message_selection shape.Message d) =
          ap (λ o. option_map (trimmed message_selection shape.Message) (o >>= if_typed)) tree
          ∙ ap (λ o. option_map (trimmed message_selection shape.Message) (option_map (λ name. d) o)) typed in
          let found = there_is (moment_of (trimmed message_selection shape.Message d)) (timed.timed (trimmed message_selection shape.Message d) message) in
          let moment : time_of d ≡ Some found.0 = sym (same_moment d) ∙ found.1 in
          watch_reads line name d found.0 state tree typed moment (timed.keeps (trimmed message_selection shape.Message d) message)
          ∙ ap (after_content address action (content_of name d) found.0) same ∙ sym (view_reads line name d found.0 t tree typed moment)

      by_tree : (tree : Option Data) → tree_of line ≡ tree → watched (text_told looks state false line).state ≡ drawn (with_line line t)
      by_tree None tree =
          let watch_none : watched_messages.message_of false line ≡ None = ap (λ o. option_map (trimmed message_selection shape.Message) (o >>= if_typed)) tree in
          let view_none : drawn_messages.message_of line ≡ None = ap (λ o. o >>= tree_message) tree in
          watch_passes line state watch_none ∙ same ∙ sym (view_passes line t view_none)
      by_tree (Some d) tree = by_type d tree (type_of d) refl

  -- ---- lines

  lines_from : (state : State) (t : TimelineRead) (lines : List (List ℕ)) → All (IsTimed address action) lines → watched state ≡ drawn t
      → watched (lines_told looks false lines state).state ≡ drawn (fold (λ t line. with_line line t) t lines)
  lines_from state t [] timed same = same
  lines_from state t (line ∷ lines) timed same =
      lines_from (text_told looks state false line).state (with_line line t) lines (All-tail (IsTimed address action) line lines timed)
      (line_same state t line (All-head (IsTimed address action) line lines timed) same)

  pub lines_same : (lines : List (List ℕ)) → All (IsTimed address action) lines → watched (lines_told looks false lines beginning).state ≡ drawn (timeline_of lines)
  lines_same lines timed = lines_from beginning empty_timeline lines timed refl
