-- Hook messages in order stay in order with the diagnostic of each end after it.
use Rattle.std.proofs.Common.{◌≡◌, Bool, true, false, cond, List, [], ◌∷◌, ◌++◌, All, refl, sym, ap, ◌∙◌, subst, arith}
use Rattle.std.specs.Prelude.{filter, option_map, option_to_list}
use Rattle.std.proofs.lemmas.List.Elements.{All-cons, All-filter, All-weaker}
use Rattle.apply_model.specs.Script.Outcome.{fails}
use Rattle.apply_model.specs.Script.OutcomeMap.{OutcomeMap, outcome_of}
use Rattle.apply_events.specs.declared.event.Event.{Event}
use Rattle.apply_events.specs.declared.lanes.lane_time.LaneTime.{LaneTime}
use Rattle.apply_events.specs.declared.lanes.turn.StartedTurn.{StartedTurn}
use Rattle.apply_events.specs.declared.what.What.{What}
use Rattle.apply_events.specs.declared.what.What.TheVariants.{ErrorNote, WarnNote}
use Rattle.apply_events.specs.Step.{has_warning}
use Rattle.apply_events.specs.Waits.LaneTime.{IsNoLater}
use Rattle.apply_events.specs.Waits.TimeLine.{InOrder, Precedes, is_of_turn, lane_time_from, lane_time_of}
use Rattle.laws_texts.specs.Notes.{is_end, note_of}
use Rattle.laws_texts.proofs.Woven.{all_woven, note_list, with_what, woven}

-- ---- the time of an event does not depend on what happens

pub same_time : (started : List StartedTurn) (e : Event) (what : What) → lane_time_of started (with_what e what) ≡ lane_time_of started e
same_time [] e what = refl
same_time (one ∷ others) e what =
    ap (λ t. cond (is_of_turn one.turn e) (lane_time_from one.begin e) t) (same_time others e what)

-- ---- lists in order

pub InOrder-filter : (when : Event → LaneTime) (p : Event → Bool) (es : List Event) → InOrder when es → InOrder when (filter p es)
InOrder-filter when p [] h = h
InOrder-filter when p (e ∷ es) h =
    let rest = InOrder-filter when p es h.1 in
    elim (p e) as (λ t. InOrder when (cond t (e ∷ filter p es) (filter p es)))
    [ true ↦ (All-filter p (Precedes when e) es h.0, rest) | false ↦ rest ]

module _ (when : Event → LaneTime) (same : (e : Event) (what : What) → when (with_what e what) ≡ when e) where
  precedes_after : (e f : Event) (what : What) → Precedes when e f → Precedes when e (with_what f what)
  precedes_after e f what p = (subst (IsNoLater (when e)) (sym (same f what)) p.0, λ is. p.1 (is ∙ same f what))

  precedes_before : (e f : Event) (what : What) → Precedes when e f → Precedes when (with_what e what) f
  precedes_before e f what p = (subst (λ t. IsNoLater t (when f)) (sym (same e what)) p.0, λ is. p.1 (sym (same e what) ∙ is))

  precedes_itself : (e : Event) → Precedes when e e
  precedes_itself e = ((omega arith, λ is. omega arith), λ is. omega arith)

  put_note : (e : Event) (what : What) (es : List Event) → All (Precedes when e) es → InOrder when es → InOrder when (e ∷ with_what e what ∷ es)
  put_note e what es first h = (
    All-cons (Precedes when e) (with_what e what) es (precedes_after e e what (precedes_itself e)) first,
    (All-weaker (Precedes when e) (Precedes when (with_what e what)) (λ f p. precedes_before e f what p) es first, h),
  )

  -- an event, and the diagnostic after it, before events that the event precedes
  put_first : (fails warns : Bool) (e : Event) (es : List Event) → All (Precedes when e) es → InOrder when es
      → InOrder when (e ∷ (option_to_list (option_map (with_what e) (note_of fails warns)) ++ es))
  put_first true warns e es first h = put_note e ErrorNote es first h
  put_first false true e es first h = put_note e WarnNote es first h
  put_first false false e es first h = (first, h)

  module _ (script : OutcomeMap) where
    put_list : (ends : Bool) (e : Event) (es : List Event) → All (Precedes when e) es → InOrder when es → InOrder when (e ∷ (note_list script ends e ++ es))
    put_list true e es first h =
        let outcome = outcome_of script e.change e.step in put_first (fails outcome) (has_warning outcome.result) e es first h
    put_list false e es first h = (first, h)

    pub InOrder-woven : (es : List Event) → InOrder when es → InOrder when (woven script es)
    InOrder-woven [] h = h
    InOrder-woven (e ∷ es) h =
        put_list (is_end e.what) e (woven script es)
        (all_woven script (Precedes when e) es (λ f what _ p. precedes_after e f what p) h.0)
        (InOrder-woven es h.1)
