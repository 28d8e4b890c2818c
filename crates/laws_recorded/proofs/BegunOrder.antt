-- Each line of a stream keeps the order in which steps began and ended.
use Rattle.std.proofs.Common.{◌≡◌, ◌∙◌, ◌+◌, ◌-◌, ◌<◌, ◌≤◌, ℕ, ℤ, zero, suc, Bool, true, false, cond, List, [], ◌∷◌, map, set, Option, None, Some, refl, sym, ap, arith, subst, ◌⊎◌, inl, inr, ⊎_elim}
use Rattle.std.specs.Prelude.{◌&&◌, ◌||◌, IfSome, filter, is_none, option_map, slice_get}
use Rattle.std.specs.List.{find}
use Rattle.std.specs.Option.{option_flatten, option_map_or, option_or}
use Rattle.std.proofs.lemmas.Bool.{and_parts}
use Rattle.apply_model.specs.declared.plan.step_kind.StepKind.{StepKind}
use Rattle.stream_record_lines.specs.declared.provisioner.Provisioner.{Provisioner}
use Rattle.stream_record_lines.specs.declared.step.Step.{Step}
use Rattle.stream_record_lines.specs.declared.step.StepStage.{StepStage}
use Rattle.stream_record_lines.specs.declared.step.StepStage.TheVariants as stage
use Rattle.stream_record_steps.specs.declared.begun_step.BegunStep.{BegunStep}
use Rattle.stream_record_steps.specs.declared.begun_step.StepEnd.{StepEnd}
use Rattle.stream_record_steps.specs.declared.step_facts.StepFact.{StepFact}
use Rattle.stream_record_steps.specs.Begun.{Begun, begun_at, is_left, none_begun}
use Rattle.stream_record_steps.specs.Starts.{after_start_of, first_known, goes_well, had_id, is_free, may_begin, taken_place}
use Rattle.stream_record_steps.specs.Steps.{PlannedStep, is_first_step, steps_at}
use Rattle.stream_record_steps.specs.Taken.{after_provisioner, after_stage, after_step}
use Rattle.stream_record_steps.specs.UnderWay.{after_end, after_fact, changed_at, ended, plus_fact, with_odd}
use Rattle.laws_recorded.specs.Begins.{BeginInOrder, IsBegunBefore}

-- ---- one item changes

set_at : (xs : List (Option BegunStep)) (place : ℕ) (item : Option BegunStep) (other : ℕ)
    → ((other ≡ place) × (begun_at (set xs place item) other ≡ item)) ⊎ (begun_at (set xs place item) other ≡ begun_at xs other)
set_at [] place item other = inr refl
set_at (x ∷ xs) zero item zero = inl (refl, refl)
set_at (x ∷ xs) zero item (suc other) = inr refl
set_at (x ∷ xs) (suc place) item zero = inr refl
set_at (x ∷ xs) (suc place) item (suc other) = ⊎_elim
    (λ (here : (other ≡ place) × (begun_at (set xs place item) other ≡ item)). inl (ap suc here.0, here.1))
    (λ (same : begun_at (set xs place item) other ≡ begun_at xs other). inr same)
    (set_at xs place item other)

-- ---- what is kept

-- each step began before the line
abbrev pub BeginBefore : Begun → (line : ℕ) → Type 0
BeginBefore begun line = (place : ℕ) (step : BegunStep) → begun_at begun.by_step place ≡ Some step → step.line < line

-- each step has the place where it stands
abbrev pub HavePlaces : List PlannedStep → Type 0
HavePlaces planned = (place : ℕ) (step : PlannedStep) → slice_get planned place ≡ Some step → step.place ≡ place

-- the order is kept, and all starts are before the line
abbrev pub IsKept : List PlannedStep → (line : ℕ) → Begun → Type 0
IsKept planned line begun = (begun.planned ≡ planned) × BeginInOrder begun × BeginBefore begun line

pub none_kept : (planned : List PlannedStep) (line : ℕ) → IsKept planned line (none_begun planned)
none_kept planned line = (
  refl,
  record {
    ends = λ place step is. absurd (nowhere planned place step is);
    begins = λ place known step at first is. absurd (nowhere planned place step is);
  },
  λ place step is. absurd (nowhere planned place step is),
)
  where
    nowhere : (steps : List PlannedStep) (place : ℕ) (step : BegunStep) → begun_at (map (λ s. None) steps) place ≡ Some step → ⊥
    nowhere [] place step is = cc
    nowhere (s ∷ steps) zero step is = cc
    nowhere (s ∷ steps) (suc place) step is = nowhere steps place step is

pub later : (planned : List PlannedStep) (line next : ℕ) (begun : Begun) → line ≤ next → IsKept planned line begun → IsKept planned next begun
later planned line next begun less kept = (kept.0, kept.1, λ place step is. let early = kept.2 place step is in omega (arith, early, less))

-- ---- a fact, or an end

module _ (change : BegunStep → BegunStep) where
  -- a step, or what the change makes of it
  abbrev Comes : BegunStep → BegunStep → Type 0
  Comes step now = (now ≡ step) ⊎ (now ≡ change step)

  changed_from : (by_step : List (Option BegunStep)) (place other : ℕ) (now : BegunStep) → begun_at (changed_at place change by_step) other ≡ Some now
      → (step : BegunStep) × (begun_at by_step other ≡ Some step) × Comes step now
  changed_from by_step place other now is = ⊎_elim
      (λ (here : (other ≡ place) × (begun_at (changed_at place change by_step) other ≡ option_map change (begun_at by_step place))).
      of (begun_at by_step place) refl here.0 (sym here.1 ∙ is))
      (λ (same : begun_at (changed_at place change by_step) other ≡ begun_at by_step other). (now, sym same ∙ is, inl refl))
      (set_at by_step place (option_map change (begun_at by_step place)) other)
    where
      of : (o : Option BegunStep) → begun_at by_step place ≡ o → other ≡ place → option_map change o ≡ Some now → (step : BegunStep) × (begun_at by_step other ≡ Some step) × Comes step now
      of None at same is = cc
      of (Some step) at same is = let made : now ≡ change step = cc in (step, ap (begun_at by_step) same ∙ at, inr made)

  changed_to : (by_step : List (Option BegunStep)) (place other : ℕ) (step : BegunStep) → begun_at by_step other ≡ Some step
      → (now : BegunStep) × (begun_at (changed_at place change by_step) other ≡ Some now) × Comes step now
  changed_to by_step place other step is = ⊎_elim
      (λ (here : (other ≡ place) × (begun_at (changed_at place change by_step) other ≡ option_map change (begun_at by_step place))).
      (change step, here.1 ∙ ap (option_map change) (ap (begun_at by_step) (sym here.0) ∙ is), inr refl))
      (λ (same : begun_at (changed_at place change by_step) other ≡ begun_at by_step other). (step, same ∙ is, inl refl))
      (set_at by_step place (option_map change (begun_at by_step place)) other)

  module _ (line : ℕ) (keeps : (step : BegunStep) → (change step).line ≡ step.line)
      (ends : (step : BegunStep) → step.line < line → IfSome step.end (λ end. step.line ≤ end.line) → IfSome (change step).end (λ end. step.line ≤ end.line)) where
    same_line : (step now : BegunStep) → Comes step now → now.line ≡ step.line
    same_line step now comes = ⊎_elim
        (λ (same : now ≡ step). ap (λ (s : BegunStep). s.line) same)
        (λ (made : now ≡ change step). ap (λ (s : BegunStep). s.line) made ∙ keeps step) comes

    same_ends : (step now : BegunStep) → Comes step now → step.line < line → IfSome step.end (λ end. step.line ≤ end.line) → IfSome now.end (λ end. now.line ≤ end.line)
    same_ends step now comes early has = ⊎_elim
        (λ (same : now ≡ step). subst (λ (s : BegunStep). IfSome s.end (λ end. s.line ≤ end.line)) (sym same) has)
        (λ (made : now ≡ change step).
        subst (λ (s : BegunStep). IfSome s.end (λ end. s.line ≤ end.line)) (sym made)
        (subst (λ (n : ℕ). IfSome (change step).end (λ end. n ≤ end.line)) (sym (keeps step)) (ends step early has))) comes

    pub change_kept : (planned : List PlannedStep) (begun new : Begun) (place : ℕ) → new.planned ≡ begun.planned → new.by_step ≡ changed_at place change begun.by_step
        → IsKept planned line begun → IsKept planned line new
    change_kept planned begun new place same is kept =
        let from = λ (other : ℕ) (now : BegunStep) (at : begun_at new.by_step other ≡ Some now).
        changed_from begun.by_step place other now (ap (λ (b : List (Option BegunStep)). begun_at b other) (sym is) ∙ at) in (
          same ∙ kept.0,
          record {
            ends = λ other now at.
                let old = from other now at in
                same_ends old.0 now old.2 (kept.2 other old.0 old.1) (kept.1.ends other old.0 old.1);
            begins = λ other known now at first began.
                let old = from other now began in
                let before = kept.1.begins other known old.0 (ap (λ (p : List PlannedStep). slice_get p other) (sym same) ∙ at) first old.1 in
                let here = changed_to begun.by_step place (other - 1) before.step before.began in
                let one = same_line before.step here.0 here.2 in
                let two = same_line old.0 now old.2 in
                let less = before.earlier in record {
                  step = here.0;
                  began = ap (λ (b : List (Option BegunStep)). begun_at b (other - 1)) is ∙ here.1;
                  earlier = omega (arith, one, two, less);
                };
          },
          λ other now at.
              let old = from other now at in
              let early = kept.2 other old.0 old.1 in
              let one = same_line old.0 now old.2 in omega (arith, early, one),
        )

pub fact_kept : (planned : List PlannedStep) (line number : ℕ) (fact : StepFact) (place : Option ℕ) (begun : Begun) → IsKept planned line begun → IsKept planned line (after_fact number fact place begun)
fact_kept planned line number fact None begun kept = (kept.0, record { ends = kept.1.ends; begins = kept.1.begins }, kept.2)
fact_kept planned line number fact (Some place) begun kept =
    change_kept (plus_fact fact) line (λ step. refl) (λ step early has. has) planned begun (after_fact number fact (Some place) begun) place refl refl kept

pub end_kept : (planned : List PlannedStep) (line : ℕ) (end : StepEnd) (place : Option ℕ) (begun : Begun) → line ≤ end.line → IsKept planned line begun → IsKept planned line (after_end end place begun)
end_kept planned line end None begun late kept = (kept.0, record { ends = kept.1.ends; begins = kept.1.begins }, kept.2)
end_kept planned line end (Some place) begun late kept =
    change_kept (ended end) line (λ step. refl) (λ step early has. omega (arith, early, late)) planned begun (after_end end (Some place) begun) place refl refl kept

pub odd_kept : (planned : List PlannedStep) (line number : ℕ) (begun : Begun) → IsKept planned line begun → IsKept planned line (with_odd number begun)
odd_kept planned line number begun kept = (kept.0, record { ends = kept.1.ends; begins = kept.1.begins }, kept.2)

-- ---- a start

found_in : {X : Type 0} (test : X → Bool) (xs : List X) (x : X) → find test xs ≡ Some x → (test x ≡ true) × ((i : ℕ) × (slice_get xs i ≡ Some x))
found_in test [] x is = absurd cc
found_in test (y ∷ ys) x is = of (test y) refl is (found_in test ys x)
  where
    of : (b : Bool) → test y ≡ b → cond b (Some y) (find test ys) ≡ Some x → (find test ys ≡ Some x → (test x ≡ true) × ((i : ℕ) × (slice_get ys i ≡ Some x)))
        → (test x ≡ true) × ((i : ℕ) × (slice_get (y ∷ ys) i ≡ Some x))
    of true passed same later = let it : y ≡ x = cc in (ap test (sym it) ∙ passed, (0, ap Some it))
    of false not same later = let rest = later same in (rest.0, (suc rest.1.0, rest.1.1))

left_in : {X : Type 0} (test : X → Bool) (xs : List X) (i : ℕ) (x : X) → slice_get (filter test xs) i ≡ Some x → (j : ℕ) × (slice_get xs j ≡ Some x)
left_in test [] i x is = absurd cc
left_in test (y ∷ ys) i x is = of (test y) i is (λ i. left_in test ys i x)
  where
    of : (b : Bool) (i : ℕ) → slice_get (cond b (y ∷ filter test ys) (filter test ys)) i ≡ Some x
        → ((i : ℕ) → slice_get (filter test ys) i ≡ Some x → (j : ℕ) × (slice_get ys j ≡ Some x)) → (j : ℕ) × (slice_get (y ∷ ys) j ≡ Some x)
    of true zero same later = (0, same)
    of true (suc i) same later = let rest = later i same in (suc rest.0, rest.1)
    of false i same later = let rest = later i same in (suc rest.0, rest.1)

-- a step of the plan that a start may take
pub record IsTaken (planned : List PlannedStep) (by_step : List (Option BegunStep)) (place : ℕ) : Type 0 where
  pub step : PlannedStep
  pub stands : slice_get planned place ≡ Some step
  pub left : is_left by_step place ≡ true
  pub ready : may_begin by_step step ≡ true

module _ (planned : List PlannedStep) (places : HavePlaces planned) (by_step : List (Option BegunStep)) (kind : StepKind) (id : Option (List ℕ)) (address : List ℕ) where
  abbrev steps : List PlannedStep
  steps = steps_at planned address

  taken_by : (step : PlannedStep) (i : ℕ) → slice_get (steps_at planned address) i ≡ Some step → is_free by_step kind step ≡ true → IsTaken planned by_step step.place
  taken_by step i at free =
      let stands = left_in _ planned i step at in
      let place = places stands.0 step stands.1 in
      let parts = and_parts _ (is_left by_step step.place && may_begin by_step step) free in
      let both = and_parts (is_left by_step step.place) (may_begin by_step step) parts.1 in
      record { step = step; stands = ap (slice_get planned) place ∙ stands.1; left = both.0; ready = both.1 }

  pub taken : (place : ℕ) → taken_place by_step kind id (steps_at planned address) ≡ Some place → IsTaken planned by_step place
  taken place is = of (find (λ (step : PlannedStep). is_free by_step kind step && had_id id step) (steps_at planned address)) refl (find (is_free by_step kind) (steps_at planned address)) refl is
    where
      of : (first : Option PlannedStep) → find (λ (step : PlannedStep). is_free by_step kind step && had_id id step) (steps_at planned address) ≡ first
          → (second : Option PlannedStep) → find (is_free by_step kind) (steps_at planned address) ≡ second
          → option_map (λ (step : PlannedStep). step.place) (option_or first second) ≡ Some place → IsTaken planned by_step place
      of (Some step) found second other same =
          let it : step.place ≡ place = cc in
          let has = found_in (λ (s : PlannedStep). is_free by_step kind s && had_id id s) (steps_at planned address) step found in
          subst (IsTaken planned by_step) it (taken_by step has.1.0 has.1.1 (and_parts (is_free by_step kind step) (had_id id step) has.0).0)
      of None found (Some step) other same =
          let it : step.place ≡ place = cc in
          let has = found_in (is_free by_step kind) (steps_at planned address) step other in
          subst (IsTaken planned by_step) it (taken_by step has.1.0 has.1.1 has.0)
      of None found None other same = cc

not_left : (by_step : List (Option BegunStep)) (place : ℕ) (step : BegunStep) → is_left by_step place ≡ true → begun_at by_step place ≡ Some step → ⊥
not_left by_step place step left is = of (slice_get by_step place) left is
  where
    of : (o : Option (Option BegunStep)) → option_map_or (λ (s : Option BegunStep). is_none s) o false ≡ true → option_flatten o ≡ Some step → ⊥
    of None left is = cc
    of (Some None) left is = cc
    of (Some (Some one)) left is = cc

before_of : (by_step : List (Option BegunStep)) (step : PlannedStep) → may_begin by_step step ≡ true → is_first_step step ≡ false → (before : BegunStep) × (begun_at by_step (step.place - 1) ≡ Some before)
before_of by_step step ready first = of (begun_at by_step (step.place - 1)) refl (or_second (is_first_step step) _ ready first)
  where
    or_second : (a b : Bool) → (a || b) ≡ true → a ≡ false → b ≡ true
    or_second true b is other = cc
    or_second false b is other = is

    of : (o : Option BegunStep) → begun_at by_step (step.place - 1) ≡ o → option_map_or goes_well o false ≡ true → (before : BegunStep) × (begun_at by_step (step.place - 1) ≡ Some before)
    of None at well = cc
    of (Some before) at well = (before, at)

same_item : {X : Type 0} (xs ys : List X) (i j : ℕ) (x y : X) → xs ≡ ys → i ≡ j → slice_get xs i ≡ Some x → slice_get ys j ≡ Some y → x ≡ y
same_item xs ys i j x y lists places one other = cc

module _ (planned : List PlannedStep) (places : HavePlaces planned) (line : ℕ) (begun new : Begun) (same : new.planned ≡ begun.planned)
    (place : ℕ) (step : BegunStep) (is : new.by_step ≡ set begun.by_step place (Some step)) (here : step.line ≡ line) (endless : step.end ≡ None)
    (taken : IsTaken planned begun.by_step place) (kept : IsKept planned line begun) where
  now_at : (other : ℕ) (now : BegunStep) → begun_at new.by_step other ≡ Some now → ((other ≡ place) × (step ≡ now)) ⊎ (begun_at begun.by_step other ≡ Some now)
  now_at other now at =
      let there = ap (λ (b : List (Option BegunStep)). begun_at b other) (sym is) ∙ at in ⊎_elim
      (λ (own : (other ≡ place) × (begun_at (set begun.by_step place (Some step)) other ≡ Some step)). let it : step ≡ now = let both : Some step ≡ Some now = sym own.1 ∙ there in cc in inl (own.0, it))
      (λ (old : begun_at (set begun.by_step place (Some step)) other ≡ begun_at begun.by_step other). inr (sym old ∙ there))
      (set_at begun.by_step place (Some step) other)

  was_at : (other : ℕ) (was : BegunStep) → begun_at begun.by_step other ≡ Some was → begun_at new.by_step other ≡ Some was
  was_at other was at = ap (λ (b : List (Option BegunStep)). begun_at b other) is ∙ ⊎_elim
      (λ (own : (other ≡ place) × (begun_at (set begun.by_step place (Some step)) other ≡ Some step)). absurd (not_left begun.by_step place was taken.left (ap (begun_at begun.by_step) (sym own.0) ∙ at)))
      (λ (old : begun_at (set begun.by_step place (Some step)) other ≡ begun_at begun.by_step other). old ∙ at)
      (set_at begun.by_step place (Some step) other)

  ends_now : (other : ℕ) (now : BegunStep) → begun_at new.by_step other ≡ Some now → IfSome now.end (λ end. now.line ≤ end.line)
  ends_now other now at = ⊎_elim
      (λ (own : (other ≡ place) × (step ≡ now)).
      subst (λ (s : BegunStep). IfSome s.end (λ end. s.line ≤ end.line)) own.1 (subst (λ (o : Option StepEnd). IfSome o (λ end. step.line ≤ end.line)) (sym endless) tt))
      (λ (old : begun_at begun.by_step other ≡ Some now). kept.1.ends other now old)
      (now_at other now at)

  begins_now : (other : ℕ) (known : PlannedStep) (now : BegunStep) → slice_get new.planned other ≡ Some known → is_first_step known ≡ false → begun_at new.by_step other ≡ Some now
      → IsBegunBefore new.by_step (other - 1) now.line
  begins_now other known now stands first at =
      let there : slice_get begun.planned other ≡ Some known = ap (λ (p : List PlannedStep). slice_get p other) (sym same) ∙ stands in ⊎_elim
      (λ (own : (other ≡ place) × (step ≡ now)).
      let it = same_item begun.planned planned other place known taken.step kept.0 own.0 there taken.stands in
      let put : taken.step.place ≡ place = places place taken.step taken.stands in
      let before = before_of begun.by_step taken.step taken.ready (ap is_first_step (sym it) ∙ first) in
      let spot : taken.step.place - 1 ≡ other - 1 = ap (λ (n : ℕ). n - 1) (put ∙ sym own.0) in
      let old : begun_at begun.by_step (other - 1) ≡ Some before.0 = ap (begun_at begun.by_step) (sym spot) ∙ before.1 in
      let early = kept.2 (other - 1) before.0 old in
      let line_is : now.line ≡ line = ap (λ (s : BegunStep). s.line) (sym own.1) ∙ here in
      record { step = before.0; began = was_at (other - 1) before.0 old; earlier = omega (arith, early, line_is) })
      (λ (old : begun_at begun.by_step other ≡ Some now).
      let before = kept.1.begins other known now there first old in
      record { step = before.step; began = was_at (other - 1) before.step before.began; earlier = before.earlier })
      (now_at other now at)

  pub taken_kept : IsKept planned (line + 1) new
  taken_kept = (
    same ∙ kept.0,
    record { ends = ends_now; begins = begins_now },
    λ other now at. ⊎_elim
        (λ (own : (other ≡ place) × (step ≡ now)). let line_is : now.line ≡ line = ap (λ (s : BegunStep). s.line) (sym own.1) ∙ here in omega (arith, line_is))
        (λ (old : begun_at begun.by_step other ≡ Some now). let early = kept.2 other now old in omega (arith, early))
        (now_at other now at),
  )

pub start_kept : (planned : List PlannedStep) → HavePlaces planned → (line : ℕ) (second : ℤ) (kind : StepKind) (address : List ℕ) (found : Option ℕ) (begun : Begun)
    → ((place : ℕ) → found ≡ Some place → IsTaken planned begun.by_step place) → IsKept planned line begun → IsKept planned (line + 1) (after_start_of line second kind address found begun)
start_kept planned places line second kind address None begun taken kept =
    let less = later planned line (line + 1) begun (omega arith) kept in (less.0, record { ends = less.1.ends; begins = less.1.begins }, less.2)
start_kept planned places line second kind address (Some place) begun taken kept =
    taken_kept planned places line begun (after_start_of line second kind address (Some place) begun) refl place (first_known line second kind begun.latest) refl refl refl (taken place refl) kept

-- ---- a message

module _ (planned : List PlannedStep) (places : HavePlaces planned) (line : ℕ) (second : ℤ) (begun : Begun) (kept : IsKept planned line begun) where
  stage_kept : (kind : StepKind) (address : List ℕ) (now : StepStage) → IsKept planned (line + 1) (after_stage line second kind address now begun)
  stage_kept kind address (stage.Began id) =
      start_kept planned places line second kind address (taken_place begun.by_step kind id (steps_at begun.planned address)) (record begun { has_starts = true })
      (λ place is. taken planned places begun.by_step kind id address place (ap (λ (p : List PlannedStep). taken_place begun.by_step kind id (steps_at p address)) (sym kept.0) ∙ is))
      (kept.0, record { ends = kept.1.ends; begins = kept.1.begins }, kept.2)
  stage_kept kind address (stage.Progress seconds) = later planned line (line + 1) _ (omega arith) (fact_kept planned line line _ _ begun kept)
  stage_kept kind address (stage.Completed seconds id_key id) = later planned line (line + 1) _ (omega arith) (end_kept planned line _ _ begun (omega arith) kept)
  stage_kept kind address (stage.Failed seconds) = later planned line (line + 1) _ (omega arith) (end_kept planned line _ _ begun (omega arith) kept)

  pub step_kept : (step : Step) → IsKept planned (line + 1) (after_step line second step begun)
  step_kept step =
      let stage = stage_kept step.kind step.address step.stage in (stage.0, record { ends = stage.1.ends; begins = stage.1.begins }, stage.2)

  pub provisioner_kept : (provisioner : Provisioner) → IsKept planned (line + 1) (after_provisioner line second provisioner begun)
  provisioner_kept provisioner = later planned line (line + 1) (after_provisioner line second provisioner begun) (omega arith) (fact_kept planned line line _ _ begun kept)
