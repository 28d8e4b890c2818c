-- How the events of a change go on, by how far its steps are.
use Rattle.std.proofs.Common.{◌≡◌, ◌∙◌, ℕ, zero, suc, true, false, List, [], ◌∷◌, ◌++◌, Some, refl, sym, ap, append-nil, append_assoc, subst, subst₂, ◌⊎◌, inl, inr, ⊎_elim}
use Rattle.std.specs.Prelude.{◌≢◌, filter, slice_get, ⊤}
use Rattle.std.specs.List.{Contains}
use Rattle.std.proofs.lemmas.Bool.{and_parts, eqb-true}
use Rattle.std.proofs.lemmas.List.Elements.{All-contains, Contains-append_cases, Contains-append_left, Contains-append_right}
use Rattle.apply_model.specs.declared.plan.step_kind.StepKind.{StepKind}
use Rattle.apply_model.specs.Plan.SavedPlan.{SavedPlan}
use Rattle.apply_events.specs.declared.event.Event.{Event}
use Rattle.apply_events.specs.declared.what.What.{What}
use Rattle.apply_events.specs.declared.what.What.TheVariants.{Start, Progress, Complete, Errored, ErrorNote, WarnNote, Halted, ProvisionStart, ProvisionOutput, ProvisionComplete, ProvisionErrored}
use Rattle.apply_events.specs.Step.{kinds_of}
use Rattle.apply_events.proofs.Waits.Members.{filter_in, in_cases, in_head, in_tail, not_in_none}
use Rattle.laws_begun.specs.Followed.{AreWhole, IsWhole, IsWholeOrNone, events_of_step, is_completion, is_end, is_fact, is_of_change, is_of_provisioner, is_of_step, may_be_provisioned}
use Rattle.laws_begun.proofs.Phases.{Phase, NotBegun, UnderWay, HasCompleted, after_completion, fact_keeps, phase_after}

-- ---- the phases of the two steps of a change

abbrev pub phase_at : (first second : Phase) → ℕ → Phase
phase_at first second zero = first
phase_at first second (suc k) = second

abbrev pub first_after : Phase → ℕ → What → Phase
first_after first zero what = phase_after first what
first_after first (suc k) what = first

abbrev pub second_after : Phase → ℕ → What → Phase
second_after second zero what = second
second_after second (suc k) what = phase_after second what

-- ---- what may come

-- the step may have provisioners, if the event is of one
abbrev pub CanComeAt : SavedPlan → (c k : ℕ) → What → Type 0
CanComeAt plan c k what = is_of_provisioner what ≡ true → (kind : StepKind) → slice_get (kinds_of plan c) k ≡ Some kind → may_be_provisioned kind ≡ true

-- a step starts that has not begun: the first one, or the one after a first that completed
abbrev pub CanStart : (first second : Phase) → ℕ → Type 0
CanStart first second k = (phase_at first second k ≡ NotBegun) × ((k ≡ 0) ⊎ (first ≡ HasCompleted))

-- of the two steps only this one is under way
abbrev pub IsAlone : (first second : Phase) → ℕ → Type 0
IsAlone first second k = (phase_at first second k ≡ UnderWay) × (phase_at second first k ≡ UnderWay → ⊥)

abbrev pub IsReady : SavedPlan → (c : ℕ) → (first second : Phase) → (k : ℕ) → What → Type 0
IsReady plan c first second k Start = CanStart first second k
IsReady plan c first second k (Progress seconds) = phase_at first second k ≡ UnderWay
IsReady plan c first second k (Complete seconds) = phase_at first second k ≡ UnderWay
IsReady plan c first second k (Errored seconds) = phase_at first second k ≡ UnderWay
IsReady plan c first second k ErrorNote = ⊥
IsReady plan c first second k WarnNote = ⊥
IsReady plan c first second k (Halted phase hook) = ⊥
IsReady plan c first second k (ProvisionStart i) = IsAlone first second k × CanComeAt plan c k (ProvisionStart i)
IsReady plan c first second k (ProvisionOutput i line) = IsAlone first second k × CanComeAt plan c k (ProvisionOutput i line)
IsReady plan c first second k (ProvisionComplete i) = IsAlone first second k × CanComeAt plan c k (ProvisionComplete i)
IsReady plan c first second k (ProvisionErrored i) = IsAlone first second k × CanComeAt plan c k (ProvisionErrored i)

-- each of the events may come when it comes
abbrev pub Goes : SavedPlan → (c : ℕ) → (first second : Phase) → List Event → Type 0
Goes plan c first second [] = ⊤
Goes plan c first second (event ∷ events) =
    IsReady plan c first second event.step event.what × Goes plan c (first_after first event.step event.what) (second_after second event.step event.what) events

-- ---- whole steps

-- the events are of the step of that number, and may be
abbrev AreOf : SavedPlan → (c k : ℕ) → List Event → Type 0
AreOf plan c k events = (event : Event) → Contains events event → (event.step ≡ k) × CanComeAt plan c k event.what

fact_ready : (plan : SavedPlan) (c : ℕ) (first second : Phase) (k : ℕ) (what : What) → is_fact what ≡ true → IsAlone first second k → CanComeAt plan c k what → IsReady plan c first second k what
fact_ready plan c first second k (Progress seconds) is alone can = alone.0
fact_ready plan c first second k (ProvisionStart i) is alone can = (alone, can)
fact_ready plan c first second k (ProvisionOutput i line) is alone can = (alone, can)
fact_ready plan c first second k (ProvisionComplete i) is alone can = (alone, can)
fact_ready plan c first second k (ProvisionErrored i) is alone can = (alone, can)
fact_ready plan c first second k _ is alone can = absurd cc

end_ready : (plan : SavedPlan) (c : ℕ) (first second : Phase) (k : ℕ) (what : What) → is_end what ≡ true → IsAlone first second k → IsReady plan c first second k what
end_ready plan c first second k (Complete seconds) is alone = alone.0
end_ready plan c first second k (Errored seconds) is alone = alone.0
end_ready plan c first second k _ is alone = absurd cc

first_keeps : (first : Phase) (k : ℕ) (what : What) → is_fact what ≡ true → first_after first k what ≡ first
first_keeps first zero what is = fact_keeps first what is
first_keeps first (suc k) what is = refl

second_keeps : (second : Phase) (k : ℕ) (what : What) → is_fact what ≡ true → second_after second k what ≡ second
second_keeps second zero what is = refl
second_keeps second (suc k) what is = fact_keeps second what is

module _ (plan : SavedPlan) (c : ℕ) where
  goes_with : (first second : Phase) (event : Event) (events : List Event) (k : ℕ) (what : What) → event.step ≡ k → event.what ≡ what → IsReady plan c first second k what
      → Goes plan c (first_after first k what) (second_after second k what) events → Goes plan c first second (event ∷ events)
  goes_with first second event events k what number is ready goes = (
    subst₂ (λ n w. IsReady plan c first second n w) (sym number) (sym is) ready,
    subst₂ (λ n w. Goes plan c (first_after first n w) (second_after second n w) events) (sym number) (sym is) goes,
  )

  goes_facts : (first second : Phase) (k : ℕ) (facts rest : List Event) → IsAlone first second k → AreOf plan c k facts → ((event : Event) → Contains facts event → is_fact event.what ≡ true)
      → Goes plan c first second rest → Goes plan c first second (facts ++ rest)
  goes_facts first second k [] rest alone are of_facts goes = goes
  goes_facts first second k (event ∷ facts) rest alone are of_facts goes =
      let own = are event (in_head event facts) in
      let is = of_facts event (in_head event facts) in
      let later = goes_facts first second k facts rest alone (λ other has. are other (in_tail event facts other has)) (λ other has. of_facts other (in_tail event facts other has)) goes in
      goes_with first second event (facts ++ rest) k event.what own.0 refl (fact_ready plan c first second k event.what is alone own.1)
      (subst₂ (λ x y. Goes plan c x y (facts ++ rest)) (sym (first_keeps first k event.what is)) (sym (second_keeps second k event.what is)) later)

  goes_whole : (first second : Phase) (k : ℕ) (events rest : List Event) (whole : IsWhole events) → AreOf plan c k events → CanStart first second k
      → IsAlone (first_after first k Start) (second_after second k Start) k
      → Goes plan c (first_after (first_after first k Start) k whole.end.what) (second_after (second_after second k Start) k whole.end.what) rest
      → Goes plan c first second (events ++ rest)
  goes_whole first second k events rest whole are can alone goes =
      let inner = whole.facts ++ whole.end ∷ [] in
      let all : AreOf plan c k (whole.start ∷ inner) = subst (AreOf plan c k) whole.are are in
      let end_in = Contains-append_right whole.facts (whole.end ∷ []) whole.end (in_head whole.end []) in
      let ended = goes_with (first_after first k Start) (second_after second k Start) whole.end rest k whole.end.what (all whole.end (in_tail whole.start inner whole.end end_in)).0 refl
      (end_ready plan c _ _ k whole.end.what whole.ends alone) goes in
      let facts = goes_facts (first_after first k Start) (second_after second k Start) k whole.facts (whole.end ∷ rest) alone
      (λ other has. all other (in_tail whole.start inner other (Contains-append_left whole.facts (whole.end ∷ []) other has)))
      (λ other has. All-contains (λ event. is_fact event.what ≡ true) whole.facts other whole.are_facts has) ended in
      let started = goes_with first second whole.start (whole.facts ++ whole.end ∷ rest) k Start (all whole.start (in_head whole.start inner)).0 whole.starts can facts in
      let same : events ++ rest ≡ whole.start ∷ (whole.facts ++ whole.end ∷ rest) =
      ap (λ l. l ++ rest) whole.are ∙ ap (λ l. whole.start ∷ l) (append_assoc whole.facts (whole.end ∷ []) rest) in
      subst (Goes plan c first second) (sym same) started

  -- the end of the first step is its completion
  completion_ends : (events : List Event) (whole : IsWhole events) (event : Event) → Contains events event → is_completion event.what ≡ true → is_completion whole.end.what ≡ true
  completion_ends events whole event has is = ⊎_elim
      (λ (start : whole.start ≡ event). absurd (no_start event.what (ap (λ (e : Event). e.what) (sym start) ∙ whole.starts) is))
      (λ (later : Contains (whole.facts ++ whole.end ∷ []) event). ⊎_elim
      (λ (fact : Contains whole.facts event). absurd (no_fact event.what (All-contains (λ event. is_fact event.what ≡ true) whole.facts event whole.are_facts fact) is))
      (λ (end : Contains (whole.end ∷ []) event). ⊎_elim
      (λ (same : whole.end ≡ event). ap (λ (e : Event). is_completion e.what) same ∙ is)
      (λ (none : Contains [] event). absurd (not_in_none event none))
      (in_cases whole.end [] event end))
      (Contains-append_cases whole.facts (whole.end ∷ []) event later))
      (in_cases whole.start (whole.facts ++ whole.end ∷ []) event (subst (λ l. Contains l event) whole.are has))
    where
      no_start : (what : What) → what ≡ Start → is_completion what ≡ true → ⊥
      no_start what start is = let both : true ≡ false = sym is ∙ ap is_completion start in cc

      no_fact : (what : What) → is_fact what ≡ true → is_completion what ≡ true → ⊥
      no_fact (Complete seconds) fact is = cc
      no_fact _ fact is = cc

  goes_second : (first : Phase) (events : List Event) → IsWholeOrNone events → AreOf plan c 1 events → (events ≢ [] → first ≡ HasCompleted) → Goes plan c first NotBegun events
  goes_second first [] whole are completed = tt
  goes_second first (event ∷ events) whole are completed =
      let well : first ≡ HasCompleted = completed (λ none. cc) in
      subst (Goes plan c first NotBegun) (append-nil (event ∷ events))
      (goes_whole first NotBegun 1 (event ∷ events) [] whole are (refl, inr well) (refl, λ (other : first ≡ UnderWay). let both : HasCompleted ≡ UnderWay = sym well ∙ other in cc) tt)

  goes_both : (first second : List Event) → IsWholeOrNone first → IsWholeOrNone second → AreOf plan c 0 first → AreOf plan c 1 second
      → (second ≢ [] → (event : Event) × Contains first event × (is_completion event.what ≡ true)) → Goes plan c NotBegun NotBegun (first ++ second)
  goes_both [] second none whole are others completed = goes_second NotBegun second whole others (λ some. absurd (not_in_none (completed some).0 (completed some).1))
  goes_both (event ∷ first) second whole other are others completed =
      goes_whole NotBegun NotBegun 0 (event ∷ first) second whole are (refl, inl refl) (refl, λ second_is. cc)
      (goes_second (phase_after UnderWay whole.end.what) second other others
      (λ some. let has = completed some in after_completion whole.end.what (completion_ends (event ∷ first) whole has.0 has.1 has.2)))

pub goes_from_start : (plan : SavedPlan) (events : List Event) → AreWhole plan events → (c : ℕ) → Goes plan c NotBegun NotBegun (filter (is_of_change c) events)
goes_from_start plan events whole c =
    subst (Goes plan c NotBegun NotBegun) (sym (whole.in_turn c))
    (goes_both plan c (events_of_step c 0 events) (events_of_step c 1 events) (whole.steps c 0) (whole.steps c 1) (of_step 0) (of_step 1) (whole.completed c))
  where
    of_step : (k : ℕ) → AreOf plan c k (events_of_step c k events)
    of_step k event has =
        let parts = filter_in (is_of_step c k) events event has in
        let both = and_parts _ _ parts.1 in
        let number = eqb-true event.step k both.1 in
        let change = eqb-true event.change c both.0 in
        let can = All-contains (λ event. is_of_provisioner event.what ≡ true → (kind : StepKind) → slice_get (kinds_of plan event.change) event.step ≡ Some kind → may_be_provisioned kind ≡ true) events event whole.provisioners parts.0 in
        (number, subst₂ (λ d n. CanComeAt plan d n event.what) change number can)
