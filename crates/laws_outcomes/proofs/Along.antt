-- The facts between the start and the end of a step come in order.
use Rattle.std.proofs.Common.{◌≡◌, ◌∙◌, ℕ, zero, suc, ◌+◌, ◌-◌, ◌<◌, ◌≤◌, ◌⊎◌, List, [], ◌∷◌, ◌++◌, Option, None, Bool, false, true, ap, arith, cond, filter, inl, inr, map, nat_le, nat_lt, refl, subst, sym, ⊎_elim}
use Rattle.std.specs.Prelude.{◌&&◌, if◌then◌else◌}
use Rattle.std.specs.List.{range_with_len}
use Rattle.std.proofs.lemmas.Bool.{leb-true, ltb-true}
use Rattle.std.proofs.lemmas.List.{map-append}
use Rattle.std.proofs.lemmas.List.Sums.{sum_by-cons}
use Rattle.apply_model.specs.declared.script.outcome.Outcome.{Outcome}
use Rattle.apply_model.specs.declared.script.provisioner.Provisioner.{Provisioner}
use Rattle.apply_model.specs.declared.script.timed_text.TimedText.{TimedText}
use Rattle.apply_model.specs.Script.Outcome.{has_failed, seconds_of_all}
use Rattle.apply_events.specs.declared.what.What.{What}
use Rattle.apply_events.specs.declared.what.What.TheVariants.{Progress, ProvisionComplete, ProvisionErrored, ProvisionOutput, ProvisionStart}
use Rattle.apply_events.specs.ProgressTimes.{is_multiple_of_ten}
use Rattle.apply_events.specs.Provisions.{along, emitted_by, output_at, progress, provision_end, times_within}
use Rattle.stream_record_steps.specs.declared.step_facts.Stated.{Stated}
use Rattle.stream_record_outcomes.specs.declared.last_provisioner.LastProvisioner.{LastProvisioner}
use Rattle.stream_record_outcomes.specs.declared.last_provisioner.LastProvisioner.TheVariants as last
use Rattle.stream_record_outcomes.specs.Provisioners.{begun_name, ended_with, ends_one, fails_one, last_after, output_of}
use Rattle.stream_record_outcomes.specs.Times.{TimedFact}
use Rattle.stream_record_outcomes.specs.Took.{progress_of}
use Rattle.laws_outcomes.specs.Told.{fact_of}
use Rattle.laws_outcomes.proofs.FactTimes.{InOrder, IsDueAt, order_append}

-- What the line of an event states, and when it comes.
abbrev pub told : Outcome → ℕ × What → TimedFact
told outcome one = record { second = one.0; stated = fact_of outcome one.1 }

-- The events of progress at these seconds.
abbrev pub progress_at : List ℕ → List (ℕ × What)
progress_at seconds = map (λ p. (p, Progress p)) seconds

-- ---- parts

-- What comes before a provisioner, its start, its own events and the rest.
pub map_block : {X Y : Type 0} (f : X → Y) (before : List X) (start : X) (own rest : List X)
    → map f (before ++ start ∷ (own ++ rest)) ≡ map f before ++ f start ∷ (map f own ++ map f rest)
map_block {Y} f before start own rest =
    map-append f before (start ∷ (own ++ rest))
    ∙ ap (λ (ys : List Y). map f before ++ f start ∷ ys) (map-append f own rest)

-- ---- the end of a provisioner

-- How a provisioner stands that ended.
abbrev pub end_as : (failed : Bool) → LastProvisioner
end_as failed = if failed then last.Failed else last.Ended

-- The fact is the end of a provisioner.
pub record IsEnd (failed : Bool) (stated : Stated) : Type 0 where
  pub progress : progress_of stated ≡ None
  pub begins : begun_name stated ≡ None
  pub output : output_of stated ≡ None
  pub ends : ends_one stated ≡ true
  pub fails : fails_one stated ≡ failed
  pub last : (before : LastProvisioner) → last_after before stated ≡ ended_with (end_as failed) before

pub end_is : (outcome : Outcome) (i : ℕ) (provisioner : Provisioner) → IsEnd (has_failed provisioner) (fact_of outcome (provision_end i provisioner))
end_is outcome i provisioner =
    elim (has_failed provisioner) as (λ (b : Bool). IsEnd b (fact_of outcome (if b then ProvisionErrored i else ProvisionComplete i))) [
      | true ↦ record { progress = refl; begins = refl; output = refl; ends = refl; fails = refl; last = λ before. refl }
      | false ↦ record { progress = refl; begins = refl; output = refl; ends = refl; fails = refl; last = λ before. refl }
    ]

-- ---- progress

-- The numbers rise, from more than `low` up to `high`.
abbrev Climbs : (low high : ℕ) → List ℕ → Type 0
Climbs low high [] = low ≤ high
Climbs low high (t ∷ ts) = (low < t) × Climbs t high ts

abbrev is_between : (after until : ℕ) → ℕ → Bool
is_between after until p = nat_lt after p && nat_le p until

both : (one other : Bool) → (one && other) ≡ true → (one ≡ true) × (other ≡ true)
both true true is = (refl, refl)
both true false is = absurd (cc)
both false other is = absurd (cc)

between_climbs : (after until m low n : ℕ) → (m < low) ⊎ (m ≤ after) → m ≤ until
    → Climbs m until (filter (is_between after until) (filter is_multiple_of_ten (range_with_len low n)))
between_climbs after until m low zero from le = le
between_climbs after until m low (suc n) from le =
    let next : (m < low + 1) ⊎ (m ≤ after) = ⊎_elim (λ (x : m < low). inl (omega arith)) (λ (y : m ≤ after). inr y) from in
    let others = filter is_multiple_of_ten (range_with_len (low + 1) n) in
    elim (is_multiple_of_ten low) as (λ (t : Bool). Climbs m until (filter (is_between after until) (cond t (low ∷ others) others))) [
      | true ↦ elim (is_between after until low) as (λ (t : Bool). is_between after until low ≡ t
          → Climbs m until (cond t (low ∷ filter (is_between after until) others) (filter (is_between after until) others))) [
            | true ↦ λ is.
                let within = both (nat_lt after low) (nat_le low until) is in
                let above : after < low = ltb-true after low within.0 in (
                  ⊎_elim (λ (x : m < low). x) (λ (y : m ≤ after). omega arith) from,
                  between_climbs after until low (low + 1) n (inl (omega arith)) (leb-true low until within.1),
                )
            | false ↦ λ is. between_climbs after until m (low + 1) n next le
          ] refl
      | false ↦ between_climbs after until m (low + 1) n next le
    ]

climb_in_order : (outcome : Outcome) (low high : ℕ) (seconds : List ℕ) → Climbs low high seconds
    → InOrder low high (map (told outcome) (progress_at seconds))
climb_in_order outcome low high [] climbs = climbs
climb_in_order outcome low high (t ∷ ts) climbs = ((refl, climbs.0), climb_in_order outcome t high ts climbs.1)

pub progress_order : (outcome : Outcome) (d after until : ℕ) → after ≤ until → InOrder after until (map (told outcome) (progress d after until))
progress_order outcome d after until le =
    climb_in_order outcome after until (times_within d after until) (between_climbs after until after 1 (d - 1) (inr (omega arith)) le)

-- ---- provisioners

emitted_order : (outcome : Outcome) (d after i j since until : ℕ) (end : What) (outputs : List TimedText)
    → progress_of (fact_of outcome end) ≡ None → after ≤ until
    → InOrder after until (map (told outcome) (emitted_by d after i j since until end outputs))
emitted_order outcome d after i j since until end [] none low =
    let due : IsDueAt until until (progress_of (fact_of outcome end)) =
    subst (λ (o : Option ℕ). IsDueAt until until o) (sym none) (let le : until ≤ until = omega arith in le) in
    subst (λ (facts : List TimedFact). InOrder after until facts) (sym (map-append (told outcome) (progress d after until) ((until, end) ∷ [])))
    (order_append after until until (map (told outcome) (progress d after until)) (told outcome (until, end) ∷ [])
    (progress_order outcome d after until low) (due, omega arith))
emitted_order outcome d after i j since until end (output ∷ outputs) none low =
    let at = output_at after since until output in
    let first : after ≤ at = omega arith in
    let last : at ≤ until = omega arith in
    let rest = emitted_by d at i (j + 1) since until end outputs in
    subst (λ (facts : List TimedFact). InOrder after until facts) (sym (map-append (told outcome) (progress d after at) ((at, ProvisionOutput i j) ∷ rest)))
    (order_append after at until (map (told outcome) (progress d after at)) (map (told outcome) ((at, ProvisionOutput i j) ∷ rest))
    (progress_order outcome d after at first) (omega arith, emitted_order outcome d at i (j + 1) since until end outputs none last))

-- The facts of a step of d seconds come in order.
pub along_order : (outcome : Outcome) (d after i since : ℕ) (provisioners : List Provisioner) → after ≤ since → since + seconds_of_all provisioners ≤ d
    → InOrder after d (map (told outcome) (along d after i since provisioners))
along_order outcome d after i since [] low high =
    progress_order outcome d after d (let none : seconds_of_all [] ≡ 0 = refl in omega arith)
along_order outcome d after i since (provisioner ∷ others) low high =
    let until = since + provisioner.seconds in
    let before = progress d after since in
    let end = provision_end i provisioner in
    let own = emitted_by d since i 0 since until end provisioner.output in
    let rest = along d until (i + 1) until others in
    let sum = sum_by-cons (λ (one : Provisioner). one.seconds) provisioner others in
    subst (λ (facts : List TimedFact). InOrder after d facts) (sym (map_block (told outcome) before (since, ProvisionStart i) own rest))
    (order_append after since d (map (told outcome) before) (told outcome (since, ProvisionStart i) ∷ (map (told outcome) own ++ map (told outcome) rest))
    (progress_order outcome d after since low) (
      omega arith,
      order_append since until d (map (told outcome) own) (map (told outcome) rest)
          (emitted_order outcome d since i 0 since until end provisioner.output (end_is outcome i provisioner).progress (omega arith))
          (along_order outcome d until (i + 1) until others (omega arith) (omega arith)),
    ))
