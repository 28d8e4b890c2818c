-- A time line without hooks is its hook messages with the diagnostic of each end after it.
use Rattle.std.proofs.Common.{◌≡◌, ℕ, ◌<◌, ◌≤◌, Bool, true, false, cond, not, eqb, List, [], ◌∷◌, All, refl, sym, ap, ◌∙◌, subst, true≢false}
use Rattle.std.specs.Prelude.{filter, filter_map}
use Rattle.std.proofs.lemmas.List.Elements.{All-filter, All-weaker, filter_passes}
use Rattle.apply_events.specs.declared.event.Event.{Event}
use Rattle.apply_events.specs.declared.what.What.{What}
use Rattle.apply_events.specs.declared.what.What.TheVariants.{Halted}
use Rattle.apply_events.specs.Diagnostics.{is_note}
use Rattle.apply_events.specs.Interleaving.{IsInterleaving}
use Rattle.apply_events.specs.OfWorker.{of_worker}
use Rattle.apply_events.specs.Step.{Work}
use Rattle.apply_events.specs.Totals.{is_halted}
use Rattle.apply_events.specs.Waits.Schedule.{schedule}
use Rattle.apply_events.specs.Waits.TimeLine.{IsTimeLine, lane_time_of, lane_turns}
use Rattle.apply_events.proofs.Waits.Order.{unique}
use Rattle.apply_text.specs.Order.{hook_messages_of, notes_of}
use Rattle.laws_texts.specs.Notes.{HasAnEnd, ends_of, note_after}
use Rattle.laws_texts.specs.Streams.{AreNotHalted, AreNotesInTime}
use Rattle.laws_texts.proofs.Clocks.{last_clock, none_later}
use Rattle.laws_texts.proofs.NotesInOrder.{InOrder-filter, InOrder-woven, same_time}
use Rattle.laws_texts.proofs.NotesOfSteps.{lane_woven}
use Rattle.laws_texts.proofs.Woven.{all_woven, notes_of_woven, part_of_woven, with_what, woven}

-- ---- two filters may be applied in either order

push : (p : Event → Bool) (t : Bool) (e : Event) (es : List Event)
    → filter p (cond t (e ∷ es) es) ≡ cond t (cond (p e) (e ∷ filter p es) (filter p es)) (filter p es)
push p true e es = refl
push p false e es = refl

cross : (a b : Bool) (e : Event) (es : List Event) → cond b (cond a (e ∷ es) es) es ≡ cond a (cond b (e ∷ es) es) es
cross true true e es = refl
cross true false e es = refl
cross false true e es = refl
cross false false e es = refl

swapped : (p q : Event → Bool) (es : List Event) → filter p (filter q es) ≡ filter q (filter p es)
swapped p q [] = refl
swapped p q (e ∷ es) =
    push p (q e) e (filter q es) ∙ ap (λ l. cond (q e) (cond (p e) (e ∷ l) l) l) (swapped p q es)
    ∙ cross (p e) (q e) e (filter q (filter p es)) ∙ sym (push q (p e) e (filter p es))

-- ---- hook messages

no_note : (what : What) → not (is_note what) ≡ true → is_note what ≡ false
no_note what is = elim (is_note what) as (λ t. not t ≡ true → t ≡ false) [ true ↦ λ never. sym never | false ↦ λ _. refl ] is

pub are_hooks : (events : List Event) → All (λ e. is_note e.what ≡ false) (hook_messages_of events)
are_hooks events =
    All-weaker (λ (e : Event). not (is_note e.what) ≡ true) (λ e. is_note e.what ≡ false) (λ e is. no_note e.what is)
    (hook_messages_of events) (filter_passes (λ (e : Event). not (is_note e.what)) events)

no_halt : (what : What) → is_note what ≡ false → is_halted what ≡ false
no_halt (Halted phase hook) hook_message = absurd (true≢false hook_message)
no_halt _ hook_message = refl

-- ---- the time line

module _ (work : Work) (n : ℕ) (events : List Event) (none : work.hooks ≡ []) (line : IsTimeLine work n events)
    (ends : All (HasAnEnd work.script) (hook_messages_of events)) where
  abbrev hooks : List Event
  hooks = hook_messages_of events

  abbrev both : List Event
  both = woven work.script hooks

  hooks_of_lane : (lane : ℕ) → lane < n → of_worker lane hooks ≡ hook_messages_of (lane_turns work (schedule work n) lane)
  hooks_of_lane lane lt =
      swapped (λ e. eqb e.worker lane) (λ e. not (is_note e.what)) events ∙ ap hook_messages_of (line.interleaved.parts lane lt)

  part : (lane : ℕ) → lane < n → of_worker lane both ≡ lane_turns work (schedule work n) lane
  part lane lt =
      let same = hooks_of_lane lane lt in
      part_of_woven work.script lane hooks ∙ ap (woven work.script) same
      ∙ lane_woven work none (schedule work n) lane
      (subst (All (HasAnEnd work.script)) same (All-filter (λ (e : Event). eqb e.worker lane) (HasAnEnd work.script) hooks ends))

  interleaved : IsInterleaving n (lane_turns work (schedule work n)) both
  interleaved = record {
    named = all_woven work.script (λ e. e.worker < n) hooks (λ e what _ low. low)
        (All-filter (λ (e : Event). not (is_note e.what)) (λ e. e.worker < n) events line.interleaved.named);
    parts = part;
  }

  pub is_woven : events ≡ both
  is_woven =
      let when = lane_time_of (schedule work n) in
      unique when n (lane_turns work (schedule work n)) events both line.interleaved interleaved line.in_order
      (InOrder-woven when (same_time (schedule work n)) work.script hooks (InOrder-filter when (λ e. not (is_note e.what)) events line.in_order))

  pub notes_follow : notes_of events ≡ filter_map (note_after work.script) (ends_of hooks)
  notes_follow = ap notes_of is_woven ∙ notes_of_woven work.script hooks (are_hooks events)

  -- ---- what holds of all events

  holds : (P : Event → Type 0) → ((e : Event) (what : What) → is_halted what ≡ false → P e → P (with_what e what)) → All P hooks → All P events
  holds P keeps all = subst (All P) (sym is_woven) (all_woven work.script P hooks keeps all)

  pub in_time : AreNotesInTime events
  in_time =
      All-filter (λ e. is_note e.what) (λ e. e.at ≤ last_clock hooks) events
      (holds (λ e. e.at ≤ last_clock hooks) (λ e what _ early. early) (none_later hooks))

  pub not_halted : AreNotHalted events
  not_halted =
      holds (λ e. is_halted e.what ≡ false) (λ e what none _. none)
      (All-weaker (λ (e : Event). is_note e.what ≡ false) (λ e. is_halted e.what ≡ false) (λ e hook. no_halt e.what hook) hooks (are_hooks events))
