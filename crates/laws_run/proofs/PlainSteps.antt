-- The events of a step with none of the newer members of a script.
use Rattle.std.proofs.Common.{◌≡◌, ℕ, ◌+◌, ◌≤◌, List, [], ◌∷◌, ◌++◌, append-nil, append_assoc, cond, filter, map, nat_lt, nat_le, Bool, true, false, Option, None, refl, sym, ap, ap₂, ◌∙◌, subst, is_some, take, arith}
use Rattle.std.specs.Prelude.{◌&&◌, ◌||◌, not}
use Rattle.std.specs.List.{AllByRecursion, enumerate_from, list_any}
use Rattle.std.specs.Option.{option_map_or}
use Rattle.std.proofs.lemmas.Bool.Decides.{nat_tests}
use Rattle.std.proofs.lemmas.List.Sums.{sum_by-cons}
use Rattle.apply_model.specs.declared.plan.step_kind.StepKind.{StepKind}
use Rattle.apply_model.specs.declared.plan.step_kind.StepKind.TheVariants.{Create, Update, Delete, Read}
use Rattle.apply_model.specs.declared.script.outcome.Outcome.{Outcome}
use Rattle.apply_model.specs.declared.script.provisioner.Provisioner.{Provisioner}
use Rattle.apply_model.specs.declared.script.timed_text.TimedText.{TimedText}
use Rattle.apply_model.specs.Script.Outcome.{fails, has_failed, is_failed, makes_fail, ran, seconds_before, seconds_after, seconds_of_all}
use Rattle.apply_model.specs.Script.OutcomeMap.{first_skipped, outcome_of}
use Rattle.apply_hooks.specs.declared.phase.Phase.TheVariants.{Pre}
use Rattle.apply_events.specs.declared.event.Event.{Event}
use Rattle.apply_events.specs.declared.what.What.{What}
use Rattle.apply_events.specs.declared.what.What.TheVariants.{Start, Progress, WarnNote, ProvisionOutput, ProvisionStart}
use Rattle.apply_events.specs.ProgressTimes.{progress_times}
use Rattle.apply_events.specs.Provisions.{along, output_at, progress, provision_end, emitted_by}
use Rattle.apply_events.specs.Step.{Step, Work, kinds_of, step_of, steps_of}
use Rattle.apply_events.specs.StepEvents.{between, end_of, endings, event, halts, notes, phase_after, seconds_of, start_events, step_events, emits_end}
use Rattle.laws_run.specs.PlainSteps.{IsPlain, IsPlainProvisioner, plain_events, plain_fails, plain_ran, plain_started, plain_time, provisions, results}

-- ---- lists

none_verbatim : {X : Type 0} (test : X → Bool) → ((x : X) → test x ≡ false) → (xs : List X) → filter test xs ≡ []
none_verbatim test none [] = refl
none_verbatim test none (x ∷ xs) = ap (λ (b : Bool). cond b (x ∷ filter test xs) (filter test xs)) (none x) ∙ none_verbatim test none xs

between_none : (n p : ℕ) → (nat_lt n p && nat_le p n) ≡ false
between_none n p = grind (arith, nat_tests)

no_progress : (d n : ℕ) → progress d n n ≡ []
no_progress d n = ap (map (λ p. (p, Progress p))) (none_verbatim (λ p. nat_lt n p && nat_le p n) (between_none n) (progress_times d))

-- ---- provisioners

strict_failure : (p : Provisioner) → p.may_fail ≡ false → makes_fail p ≡ has_failed p
strict_failure p strict = ap (λ (b : Bool). is_some (cond b None p.failed)) strict

ran_plainly : (ps : List Provisioner) → AllByRecursion IsPlainProvisioner ps → ran ps ≡ plain_ran ps
ran_plainly [] all = refl
ran_plainly (p ∷ ps) all = ap₂ (λ (b : Bool) (l : List Provisioner). p ∷ cond b [] l) (strict_failure p all.0.strict) (ran_plainly ps all.1)

any_failed : (ps : List Provisioner) → AllByRecursion IsPlainProvisioner ps → list_any makes_fail ps ≡ list_any has_failed ps
any_failed [] all = refl
any_failed (p ∷ ps) all = ap₂ (λ (a b : Bool). a || b) (strict_failure p all.0.strict) (any_failed ps all.1)

plain_of_ran : (ps : List Provisioner) → AllByRecursion IsPlainProvisioner ps → AllByRecursion IsPlainProvisioner (plain_ran ps)
plain_of_ran [] all = tt
plain_of_ran (p ∷ ps) all = (all.0, of_test (has_failed p) (plain_of_ran ps all.1))
  where
    of_test : (b : Bool) → AllByRecursion IsPlainProvisioner (plain_ran ps) → AllByRecursion IsPlainProvisioner (cond b [] (plain_ran ps))
    of_test true rest = tt
    of_test false rest = rest

output_last : (after since seconds : ℕ) (text : TimedText) → after ≤ since + seconds → text.after ≡ seconds → output_at after since (since + seconds) text ≡ since + seconds
output_last after since seconds text early at = omega (arith, early, at)

module _ (d i since : ℕ) (p : Provisioner) where
  emitted_last : (j after : ℕ) (texts : List TimedText) → after ≤ since + p.seconds → AllByRecursion (λ (text : TimedText). text.after ≡ p.seconds) texts
      → emitted_by d after i j since (since + p.seconds) (provision_end i p) texts ≡ progress d after (since + p.seconds) ++ map (λ what. (since + p.seconds, what)) (results i j p texts)
  emitted_last j after [] early all = refl
  emitted_last j after (text ∷ texts) early all =
      let until = since + p.seconds in
      let at : output_at after since until text ≡ until = output_last after since p.seconds text early all.0 in
      let same : until ≤ until = omega arith in
      ap (λ (n : ℕ). progress d after n ++ (n, ProvisionOutput i j) ∷ emitted_by d n i (j + 1) since until (provision_end i p) texts) at
      ∙ ap (λ (l : List (ℕ × What)). progress d after until ++ (until, ProvisionOutput i j) ∷ l)
      (emitted_last (j + 1) until texts same all.1 ∙ ap (λ (l : List (ℕ × What)). l ++ map (λ what. (until, what)) (results i (j + 1) p texts)) (no_progress d until))

along_plainly : (d after i since : ℕ) (ps : List Provisioner) → AllByRecursion IsPlainProvisioner ps → d ≡ since + seconds_of_all ps → along d after i since ps ≡ progress d after since ++ provisions d i since ps
along_plainly d after i since [] all whole = ap (progress d after) (let end : d ≡ since = omega (arith, whole) in end) ∙ sym (append-nil (progress d after since))
along_plainly d after i since (p ∷ ps) all whole =
    let until = since + p.seconds in
    let early : since ≤ until = omega arith in
    let both = sum_by-cons (λ (q : Provisioner). q.seconds) p ps in
    let rest : d ≡ until + seconds_of_all ps = omega (arith, whole, both) in
    let emitted = emitted_last d i since p 0 since p.output early all.0.at_end in
    let others = along_plainly d until (i + 1) until ps all.1 rest ∙ ap (λ (l : List (ℕ × What)). l ++ provisions d (i + 1) until ps) (no_progress d until) in
    ap₂ (λ (a b : List (ℕ × What)). progress d after since ++ (since, ProvisionStart i) ∷ (a ++ b)) emitted others
    ∙ ap (λ (l : List (ℕ × What)). progress d after since ++ (since, ProvisionStart i) ∷ l)
    (append_assoc (progress d since until) (map (λ what. (until, what)) (results i 0 p p.output)) (provisions d (i + 1) until ps))

-- ---- a step

-- the time of a step, and its events between start and end, by the times before and after its
-- provisioners
record IsPlainly (outcome : Outcome) (before after : ℕ) : Type 0 where
  time : before + seconds_of_all (ran outcome.provisioners) + after ≡ plain_time outcome
  between : along (before + seconds_of_all (ran outcome.provisioners) + after) 0 0 before (ran outcome.provisioners)
      ≡ progress (plain_time outcome) 0 outcome.seconds ++ provisions (plain_time outcome) 0 outcome.seconds (plain_ran outcome.provisioners)

module _ (outcome : Outcome) (all : AllByRecursion IsPlainProvisioner outcome.provisioners) where
  -- the provider comes first
  provider_first : IsPlainly outcome outcome.seconds 0
  provider_first =
      let same = ran_plainly outcome.provisioners all in
      let time : outcome.seconds + seconds_of_all (ran outcome.provisioners) + 0 ≡ plain_time outcome = omega (arith, ap seconds_of_all same) in
      record {
        time = time;
        between = ap₂ (λ (d : ℕ) (ps : List Provisioner). along d 0 0 outcome.seconds ps) time same
            ∙ along_plainly (plain_time outcome) 0 0 outcome.seconds (plain_ran outcome.provisioners) (plain_of_ran outcome.provisioners all) refl;
      }

-- a delete without provisioners
delete_time : (seconds : ℕ) (ps : List Provisioner) → ps ≡ [] → 0 + seconds_of_all (ran ps) + cond (not (list_any makes_fail ps)) seconds 0 ≡ seconds + seconds_of_all (plain_ran ps)
delete_time seconds ps none =
    subst (λ (l : List Provisioner). 0 + seconds_of_all (ran l) + cond (not (list_any makes_fail l)) seconds 0 ≡ seconds + seconds_of_all (plain_ran l)) (sym none)
    (let same : 0 + 0 + seconds ≡ seconds + 0 = omega arith in same)

delete_between : (seconds : ℕ) (ps : List Provisioner) → ps ≡ []
    → along (0 + seconds_of_all (ran ps) + cond (not (list_any makes_fail ps)) seconds 0) 0 0 0 (ran ps)
    ≡ progress (seconds + seconds_of_all (plain_ran ps)) 0 seconds ++ provisions (seconds + seconds_of_all (plain_ran ps)) 0 seconds (plain_ran ps)
delete_between seconds ps none =
    subst
    (λ (l : List Provisioner). along (0 + seconds_of_all (ran l) + cond (not (list_any makes_fail l)) seconds 0) 0 0 0 (ran l)
    ≡ progress (seconds + seconds_of_all (plain_ran l)) 0 seconds ++ provisions (seconds + seconds_of_all (plain_ran l)) 0 seconds (plain_ran l)) (sym none)
    (let first : 0 + 0 + seconds ≡ seconds = omega arith in
    let last : seconds ≡ seconds + 0 = omega arith in
    ap (λ (n : ℕ). progress n 0 n) first ∙ ap (λ (n : ℕ). progress n 0 seconds) last ∙ sym (append-nil (progress (seconds + 0) 0 seconds)))

by_kind : (kind : StepKind) (outcome : Outcome) → IsPlain kind outcome → IsPlainly outcome (seconds_before kind outcome) (seconds_after kind outcome)
by_kind Create outcome plain = provider_first outcome plain.provisioners
by_kind Update outcome plain = provider_first outcome plain.provisioners
by_kind Read outcome plain = provider_first outcome plain.provisioners
by_kind Delete outcome plain = record {
  time = delete_time outcome.seconds outcome.provisioners (plain.none_of_delete refl);
  between = delete_between outcome.seconds outcome.provisioners (plain.none_of_delete refl);
}

ends_plainly : (fails only_warns warns : Bool) (seconds : ℕ) → only_warns ≡ false → cond (emits_end fails only_warns) (end_of fails seconds ∷ notes fails warns) (WarnNote ∷ []) ≡ end_of fails seconds ∷ notes fails warns
ends_plainly fails true warns seconds is = absurd cc
ends_plainly true false warns seconds is = refl
ends_plainly false false warns seconds is = refl

module _ (work : Work) (c k : ℕ) (kind : StepKind) (plain : IsPlain kind (outcome_of work.script c k)) where
  abbrev outcome : Outcome
  outcome = outcome_of work.script c k

  abbrev step : Step
  step = step_of work c k kind

  fails_plainly : fails outcome ≡ plain_fails outcome
  fails_plainly = ap (λ (b : Bool). is_failed outcome.result || b) (any_failed outcome.provisioners plain.provisioners)

  -- what starts, from how long it takes, what happens in between, whether it fails and how it ends
  abbrev emitted : (worker at time : ℕ) → List (ℕ × What) → (failed : Bool) → List What → List Event
  emitted worker at time happened failed ended =
      event worker step at Start
      ∷ (map (λ p. event worker step (at + p.0) p.1) happened
      ++ (map (λ what. event worker step (at + time) what) ended ++ halts worker step (phase_after failed) (at + time)))

  started_plainly : (worker at : ℕ) → start_events worker step at ≡ plain_started worker step outcome at
  started_plainly worker at =
      let is = by_kind kind outcome plain in
      ap (λ (l : List Event). event worker step at Start ∷ l)
      (append_assoc (map (λ p. event worker step (at + p.0) p.1) (between step)) (map (λ what. event worker step (at + seconds_of step) what) (endings step)) (halts worker step (phase_after step.fails) (at + seconds_of step)))
      ∙ ap (emitted worker at (seconds_of step) (between step) step.fails) (ends_plainly step.fails step.only_warns step.warns (seconds_of step) plain.not_warned)
      ∙ ap (λ (happened : List (ℕ × What)). emitted worker at (seconds_of step) happened step.fails (end_of step.fails (seconds_of step) ∷ notes step.fails step.warns)) is.between
      ∙ ap₂ (λ (time : ℕ) (failed : Bool). emitted worker at time (progress (plain_time outcome) 0 outcome.seconds ++ provisions (plain_time outcome) 0 outcome.seconds (plain_ran outcome.provisioners)) failed (end_of failed time ∷ notes failed step.warns))
      is.time fails_plainly

  pub events_plainly : (worker at : ℕ) → step_events worker step at ≡ plain_events worker step outcome at
  events_plainly worker at =
      ap (λ (l : List Event). cond (is_some (step.halts Pre)) (halts worker step Pre at) l) (started_plainly worker at)

-- ---- the steps of a change

pub none_left_out : (work : Work) (c : ℕ) → first_skipped work.script c ≡ None → steps_of work c ≡ map (λ p. step_of work c p.0 p.1) (enumerate_from 0 (kinds_of work.plan c))
none_left_out work c none =
    ap (λ (o : Option ℕ). map (λ p. step_of work c p.0 p.1) (enumerate_from 0 (option_map_or (λ skipped. take skipped (kinds_of work.plan c)) o (kinds_of work.plan c)))) none
