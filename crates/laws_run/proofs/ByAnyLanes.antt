-- Which steps begin does not depend on how many lanes there are.
use Rattle.std.proofs.Common.{◌≡◌, ℕ, zero, suc, ◌<◌, true, List, [], ◌∷◌, ◌++◌, length, Some, refl, sym, ap, ◌∙◌, subst, ⊎_elim, inl, inr, arith}
use Rattle.std.specs.List.{Contains}
use Rattle.std.proofs.lemmas.Bool.{and_from}
use Rattle.std.proofs.lemmas.List.{append_assoc}
use Rattle.std.proofs.lemmas.List.Elements.{Contains-append_right}
use Rattle.apply_model.specs.declared.script.wait.Wait.{Wait}
use Rattle.apply_model.specs.Script.Waits.{waits_of}
use Rattle.apply_events.specs.declared.event.Event.{Event}
use Rattle.apply_events.specs.declared.lanes.lane_time.LaneTime.{LaneTime}
use Rattle.apply_events.specs.declared.lanes.turn.StartedTurn.{StartedTurn}
use Rattle.apply_events.specs.declared.lanes.turn.Turn.{Turn}
use Rattle.apply_events.specs.Fits.{IsApplied}
use Rattle.apply_events.specs.Interleaving.{IsInterleaving}
use Rattle.apply_events.specs.Step.{Step, Work, kinds_applied, step_of, steps_of}
use Rattle.apply_events.specs.Waits.Done.{done_at}
use Rattle.apply_events.specs.Waits.StartedTurns.{WereStarted}
use Rattle.apply_events.specs.Waits.TimeLine.{lane_turns}
use Rattle.apply_events.specs.Waits.Turn.{begun_steps, waits_of_turn}
use Rattle.apply_events.proofs.AppliedSteps.{few_applied}
use Rattle.apply_events.proofs.StepNumbers.{steps_of-numbered}
use Rattle.apply_events.proofs.Waits.Located.{answer}
use Rattle.apply_events.proofs.Waits.Members.{all_in, in_cases, in_head, not_in_none}
use Rattle.apply_events.proofs.Waits.Once.{IsTurnOf, known_turn}
use Rattle.apply_events.proofs.Waits.TurnEvents.{done_in_turn}
use Rattle.apply_events.proofs.Waits.TurnSteps.{all_at, begun_of_change, begun_within, has_two, length-steps_of, numbered_in, second_after_first}
use Rattle.laws_run.specs.WaitingSteps.{BeginWhereAllIsDone, HasFewSteps, goes_on_if_begun, has_events, is_done_along}
use Rattle.laws_run.proofs.AfterWaits.{are_turns, done_located, no_names, none_named, single_count, waits_are}
use Rattle.laws_run.proofs.LeftOut.{goes_at, has_is}
use Rattle.laws_run.proofs.Named.{named}
use Rattle.laws_run.proofs.Waited.{IsDoneBefore, are_done_before}

module _ (w : Work) (n : ℕ) (taken : List StartedTurn) (events : List Event) (up : WereStarted w n taken) (line : IsInterleaving n (lane_turns w taken) events)
    (few : HasFewSteps w) (others : List Event) (exact : BeginWhereAllIsDone w others) where
  -- each step of a turn that begins has events among the others too
  abbrev HasAll : StartedTurn → Type 0
  HasAll one = (s : Step) → Contains (begun_steps w one.turn) s → has_events others (record { change = one.turn.change; step = s.number }) ≡ true

  abbrev HaveAll : List StartedTurn → Type 0
  HaveAll ones = (one : StartedTurn) → Contains ones one → HasAll one

  has_step : (turn : Turn) (s : Step) → Contains (begun_steps w turn) s → IsApplied w.plan w.script turn.change s.number
  has_step turn s there =
      let high = (numbered_in 0 (steps_of w turn.change) s (steps_of-numbered w turn.change) (begun_of_change w turn s there)).1 in
      let size = length-steps_of w turn.change in omega arith

  -- what one of them waits for is done among the others
  done_too : (before : List StartedTurn) (name : Wait) → HaveAll before → (m : LaneTime) → done_at w before name ≡ Some m → is_done_along w others name ≡ true
  done_too before name all m is =
      let answer = done_located w before name m is in
      let done = done_in_turn w answer.0 name m answer.2 in
      let s = done.step.0 in
      let same : record { change = answer.0.turn.change; step = s.number } ≡ name =
      ap (λ c. let x : Wait = record { change = c; step = s.number } in x) done.change ∙ ap (λ k. let x : Wait = record { change = name.change; step = k } in x) done.step.2 in
      and_from (has_events others name) (goes_on_if_begun w name)
      (sym (ap (has_events others) same) ∙ all answer.0 answer.1 s done.step.1)
      (goes_at w n taken events up line answer.0.turn s name done.step.1 (sym done.change) (sym done.step.2) ∙ done.step.3)

  first_has : (later before : List StartedTurn) (one : StartedTurn) (s : Step) → taken ≡ later ++ one ∷ before → HaveAll before → Contains (begun_steps w one.turn) s → one.turn.first ≡ s.number
      → has_events others (record { change = one.turn.change; step = s.number }) ≡ true
  first_has later before one s is all there first =
      let ready = up.ready later before one is in
      let within = begun_within w one.turn s there in
      let low = within.0 in let high = within.1 in
      let waits : waits_of_turn w one.turn ≡ waits_of w.script one.turn.change s.number = waits_are w one.turn one.turn.change s.number refl first (omega arith) in
      exact one.turn.change s.number (has_step one.turn s there)
      ∙ all_in (is_done_along w others) (waits_of w.script one.turn.change s.number) (λ name waited.
      let done = all_at (IsDoneBefore w before ready.at) (waits_of_turn w one.turn) name (are_done_before w before (waits_of_turn w one.turn) ready.at ready.ready)
      (subst (λ l. Contains l name) (sym waits) waited) in
      done_too before name all done.0 done.1)

  one_has : (later before : List StartedTurn) (one : StartedTurn) → taken ≡ later ++ one ∷ before → HaveAll before → IsTurnOf w one.turn.change one.turn → HasAll one
  one_has later before one is all (inr split) s there =
      let count = single_count split.1 in
      let within = begun_within w one.turn s there in let low = within.0 in let high = within.1 in
      first_has later before one s is all there (omega arith)
  one_has later before one is all (inl alone) s there = by_number s.number refl
    where
      by_number : (k : ℕ) → s.number ≡ k → has_events others (record { change = one.turn.change; step = s.number }) ≡ true
      by_number zero number = first_has later before one s is all there (ap (λ (t : Turn). t.first) alone.1 ∙ sym number)
      by_number (suc k) number =
          let c = one.turn.change in
          let has = has_step one.turn s there in
          let most = few c in let applied = few_applied w.plan w.script c in
          let size : length (kinds_applied w.plan w.script c) ≡ 2 = omega arith in
          let two = has_two w c (omega arith) (omega arith) in
          let is_one : s.number ≡ 1 = omega arith in
          let earlier = second_after_first w c two s (subst (λ t. Contains (begun_steps w t) s) alone.1 there) is_one in
          let s0 = step_of w c 0 two.first in
          let mine : Contains (begun_steps w one.turn) s0 = subst (λ t. Contains (begun_steps w t) s0) (sym alone.1) earlier.0 in
          let first : has_events others (record { change = c; step = 0 }) ≡ true = first_has later before one s0 is all mine (ap (λ (t : Turn). t.first) alone.1) in
          let done : is_done_along w others (record { change = c; step = 0 }) ≡ true =
          and_from (has_events others (record { change = c; step = 0 })) (goes_on_if_begun w (record { change = c; step = 0 })) first
          (goes_at w n taken events up line one.turn s0 (record { change = c; step = 0 }) mine refl refl ∙ earlier.1) in
          ap (λ j. has_events others (record { change = c; step = j })) is_one
          ∙ exact c 1 (let lt : 1 < length (kinds_applied w.plan w.script c) = omega arith in lt)
          ∙ all_in (is_done_along w others) (waits_of w.script c 1) (λ name waited. ⊎_elim
          (λ (here : record { change = c; step = 0 } ≡ name). ap (is_done_along w others) (sym here) ∙ done)
          (λ (named_there : Contains (named w c 1) name). absurd (none_named (named w c 1) name (no_names w c size alone.0) named_there))
          (in_cases (record { change = c; step = 0 }) (named w c 1) name waited))

  all_have : (later ones : List StartedTurn) → taken ≡ later ++ ones → HaveAll ones
  all_have later [] is one there = absurd (not_in_none one there)
  all_have later (x ∷ ones) is one there =
      let rest = all_have (later ++ x ∷ []) ones (is ∙ sym (append_assoc later (x ∷ []) ones)) in ⊎_elim
      (λ (same : x ≡ one). subst HasAll same (one_has later ones x is rest (known_turn w taken x (are_turns w n taken events up line) (subst (λ l. Contains l x) (sym is) (Contains-append_right later (x ∷ ones) x (in_head x ones))))))
      (λ (inside : Contains ones one). rest one inside)
      (in_cases x ones one there)

  pub has_too : (name : Wait) → has_events events name ≡ true → has_events others name ≡ true
  has_too name some =
      let e = has_is w n taken events up line name some in
      let its = answer w n taken events line e.0 e.1 in
      let s = its.of.step.0 in
      let same : record { change = its.one.turn.change; step = s.number } ≡ name =
      ap (λ c. let x : Wait = record { change = c; step = s.number } in x) (sym its.of.change ∙ e.2) ∙ ap (λ k. let x : Wait = record { change = name.change; step = k } in x) (sym its.of.step.2 ∙ e.3) in
      sym (ap (has_events others) same) ∙ all_have [] taken refl its.one its.there s its.of.step.1
