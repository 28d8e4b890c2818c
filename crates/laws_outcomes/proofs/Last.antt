-- How the last provisioner of a step stands, by the facts of its events.
use Rattle.std.proofs.Common.{◌≡◌, ◌∙◌, ℕ, ℤ, ◌+◌, List, [], ◌∷◌, ◌++◌, Bool, false, true, ap, map, refl}
use Rattle.std.specs.Prelude.{◌||◌, if◌then◌else◌}
use Rattle.std.specs.List.{list_any}
use Rattle.std.proofs.lemmas.List.{map-append}
use Rattle.apply_model.specs.declared.script.outcome.Outcome.{Outcome}
use Rattle.apply_model.specs.declared.script.provisioner.Provisioner.{Provisioner}
use Rattle.apply_model.specs.declared.script.timed_text.TimedText.{TimedText}
use Rattle.apply_model.specs.Script.Outcome.{has_failed, makes_fail, ran}
use Rattle.apply_events.specs.declared.what.What.{What}
use Rattle.apply_events.specs.declared.what.What.TheVariants.{ProvisionOutput, ProvisionStart}
use Rattle.apply_events.specs.Provisions.{along, emitted_by, output_at, progress, provision_end, times_within}
use Rattle.stream_record_steps.specs.declared.step_facts.StepFact.{StepFact}
use Rattle.stream_record_outcomes.specs.declared.last_provisioner.LastProvisioner.{LastProvisioner}
use Rattle.stream_record_outcomes.specs.declared.last_provisioner.LastProvisioner.TheVariants as standing
use Rattle.stream_record_outcomes.specs.Provisioners.{fails_its_step, has_provisioner, last_from}
use Rattle.laws_outcomes.specs.Told.{fact_of, step_fact}
use Rattle.laws_outcomes.proofs.Along.{IsEnd, end_as, end_is, map_block, progress_at}
use Rattle.laws_outcomes.proofs.Provisioners.{fatal_fails}

-- How the last provisioner stands after these ran, one after another.
abbrev pub last_of : (before : LastProvisioner) → List Provisioner → LastProvisioner
last_of before [] = before
last_of before (provisioner ∷ others) = last_of (end_as (has_failed provisioner)) others

last_append : (before : LastProvisioner) (facts others : List StepFact) → last_from before (facts ++ others) ≡ last_from (last_from before facts) others
last_append before [] others = refl
last_append before (fact ∷ facts) others = last_append (last_from before (fact ∷ [])) facts others

module _ (begin : ℤ) (outcome : Outcome) where
  same_in_progress : (before : LastProvisioner) (seconds : List ℕ) → last_from before (map (step_fact begin outcome) (progress_at seconds)) ≡ before
  same_in_progress before [] = refl
  same_in_progress before (t ∷ ts) = same_in_progress before ts

  after_progress : (before : LastProvisioner) (d after until : ℕ) (others : List StepFact)
      → last_from before (map (step_fact begin outcome) (progress d after until) ++ others) ≡ last_from before others
  after_progress before d after until others =
      last_append before (map (step_fact begin outcome) (progress d after until)) others
      ∙ ap (λ (before : LastProvisioner). last_from before others) (same_in_progress before (times_within d after until))

  after_emitted : (failed : Bool) (d after i j since until : ℕ) (end : What) (outputs : List TimedText) → IsEnd failed (fact_of outcome end)
      → last_from standing.UnderWay (map (step_fact begin outcome) (emitted_by d after i j since until end outputs)) ≡ end_as failed
  after_emitted failed d after i j since until end [] is =
      ap (last_from standing.UnderWay) (map-append (step_fact begin outcome) (progress d after until) ((until, end) ∷ []))
      ∙ after_progress standing.UnderWay d after until (step_fact begin outcome (until, end) ∷ [])
      ∙ is.last standing.UnderWay
  after_emitted failed d after i j since until end (output ∷ outputs) is =
      let at = output_at after since until output in
      let rest = emitted_by d at i (j + 1) since until end outputs in
      ap (last_from standing.UnderWay) (map-append (step_fact begin outcome) (progress d after at) ((at, ProvisionOutput i j) ∷ rest))
      ∙ after_progress standing.UnderWay d after at (map (step_fact begin outcome) ((at, ProvisionOutput i j) ∷ rest))
      ∙ after_emitted failed d at i (j + 1) since until end outputs is

  pub last_is : (before : LastProvisioner) (d after i since : ℕ) (provisioners : List Provisioner)
      → last_from before (map (step_fact begin outcome) (along d after i since provisioners)) ≡ last_of before provisioners
  last_is before d after i since [] = same_in_progress before (times_within d after d)
  last_is before d after i since (provisioner ∷ others) =
      let until = since + provisioner.seconds in
      let events = progress d after since in
      let own = emitted_by d since i 0 since until (provision_end i provisioner) provisioner.output in
      let later = along d until (i + 1) until others in
      let tell = map (step_fact begin outcome) in
      ap (last_from before) (map_block (step_fact begin outcome) events (since, ProvisionStart i) own later)
      ∙ after_progress before d after since (step_fact begin outcome (since, ProvisionStart i) ∷ (tell own ++ tell later))
      ∙ last_append standing.UnderWay (tell own) (tell later)
      ∙ ap (λ (before : LastProvisioner). last_from before (tell later))
      (after_emitted (has_failed provisioner) d since i 0 since until (provision_end i provisioner) provisioner.output (end_is outcome i provisioner))
      ∙ last_is (end_as (has_failed provisioner)) d until (i + 1) until others

-- ---- whether there is one, and whether it failed

end_has : (failed : Bool) → has_provisioner (end_as failed) ≡ true
end_has true = refl
end_has false = refl

last_has : (before : LastProvisioner) (provisioners : List Provisioner) → has_provisioner before ≡ true → has_provisioner (last_of before provisioners) ≡ true
last_has before [] has = has
last_has before (provisioner ∷ others) has = last_has (end_as (has_failed provisioner)) others (end_has (has_failed provisioner))

pub some_has : (before : LastProvisioner) (provisioner : Provisioner) (others : List Provisioner)
    → has_provisioner (last_of before (ran (provisioner ∷ others))) ≡ true
some_has before provisioner others =
    last_has (end_as (has_failed provisioner)) (if makes_fail provisioner then [] else ran others) (end_has (has_failed provisioner))

-- The last that ran failed, if any makes the step fail.
pub last_fails : (before : LastProvisioner) (provisioners : List Provisioner) → list_any makes_fail provisioners ≡ true
    → fails_its_step (last_of before (ran provisioners)) ≡ true
last_fails before [] any = absurd (cc)
last_fails before (provisioner ∷ others) any =
    elim (makes_fail provisioner) as (λ (b : Bool). makes_fail provisioner ≡ b → (b || list_any makes_fail others) ≡ true
    → fails_its_step (last_of before (provisioner ∷ (if b then [] else ran others))) ≡ true) [
      | true ↦ λ fatal some. ap (λ (b : Bool). fails_its_step (end_as b)) (fatal_fails provisioner fatal)
      | false ↦ λ goes_on some. last_fails (end_as (has_failed provisioner)) others some
    ] refl any
