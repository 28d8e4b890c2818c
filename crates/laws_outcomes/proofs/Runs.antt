-- The provisioners that are recorded of a step ran as those of the script.
use Rattle.std.proofs.Common.{◌≡◌, ◌∙◌, ℕ, ◌+◌, ◌-◌, ◌≤◌, ◌⊎◌, List, [], ◌∷◌, ◌++◌, Option, None, Some, Bool, false, true, ap, append-nil, arith, cond, find, filter_map, inl, inr, is_some, map, min, option_map, refl, slice_get, subst, sym, ⊎_elim}
use Rattle.std.specs.Prelude.{⊤, ◌&&◌, if◌then◌else◌, nat_le}
use Rattle.std.specs.List.{AllByRecursion, before_first, cons_option}
use Rattle.std.specs.Option.{option_map_or, option_or}
use Rattle.std.proofs.lemmas.Bool.{leb-true}
use Rattle.std.proofs.lemmas.List.{map-append}
use Rattle.std.proofs.lemmas.List.Elements.{filter_map-append}
use Rattle.std.proofs.lemmas.List.Sums.{sum_by-cons}
use Rattle.apply_model.specs.declared.script.outcome.Outcome.{Outcome}
use Rattle.apply_model.specs.declared.script.provisioner.Provisioner.{Provisioner}
use Rattle.apply_model.specs.declared.script.timed_text.TimedText.{TimedText}
use Rattle.apply_model.specs.Script.Outcome.{are_in_time, has_failed, seconds_of_all}
use Rattle.apply_events.specs.declared.what.What.{What}
use Rattle.apply_events.specs.declared.what.What.TheVariants.{ProvisionOutput, ProvisionStart}
use Rattle.apply_events.specs.Provisions.{along, emitted_by, output_at, progress, provision_end, times_within}
use Rattle.apply_text.specs.Message.{name_of, output_of as text_of}
use Rattle.stream_record_outcomes.specs.Outcome.{last_until}
use Rattle.stream_record_outcomes.specs.Provisioners.{ProvisionerRun, at_once, begins, begun_name, end_second, ends_one, fails_one, last_end, output_of, run_before, run_from, runs_in, timed_output, went_on}
use Rattle.stream_record_outcomes.specs.Times.{TimedFact}
use Rattle.laws_outcomes.specs.Told.{fact_of}
use Rattle.laws_outcomes.proofs.Along.{IsEnd, end_is, map_block, progress_at, told}
use Rattle.laws_outcomes.proofs.Lists.{StandAt, all_append, all_are, find_later, front_later, front_none, last_append, last_none, nothing_of, stand_all}

-- ---- facts of progress

-- The fact begins and ends no provisioner, and no provisioner writes it.
record IsQuiet (fact : TimedFact) : Type 0 where
  begins_none : begun_name fact.stated ≡ None
  writes_none : output_of fact.stated ≡ None
  ends_none : ends_one fact.stated ≡ false

quiet_at : (outcome : Outcome) (seconds : List ℕ) → AllByRecursion IsQuiet (map (told outcome) (progress_at seconds))
quiet_at outcome [] = tt
quiet_at outcome (t ∷ ts) = (record { begins_none = refl; writes_none = refl; ends_none = refl }, quiet_at outcome ts)

quiet : (outcome : Outcome) (d after until : ℕ) → AllByRecursion IsQuiet (map (told outcome) (progress d after until))
quiet outcome d after until = quiet_at outcome (times_within d after until)

quiet_begins : (facts : List TimedFact) → AllByRecursion IsQuiet facts → AllByRecursion (λ fact. begun_name fact.stated ≡ None) facts
quiet_begins facts are = all_are IsQuiet (λ fact. begun_name fact.stated ≡ None) facts (λ fact is. is.begins_none) are

-- ---- facts that begin no provisioner

no_begin : (facts : List TimedFact) → AllByRecursion (λ fact. begun_name fact.stated ≡ None) facts → AllByRecursion (λ fact. begins fact ≡ false) facts
no_begin facts none =
    all_are (λ fact. begun_name fact.stated ≡ None) (λ fact. begins fact ≡ false) facts (λ fact is. ap is_some is) none

runs_later : (own : Bool) (whole : ℕ) (facts others : List TimedFact) → AllByRecursion (λ fact. begun_name fact.stated ≡ None) facts
    → runs_in own whole (facts ++ others) ≡ runs_in own whole others
runs_later own whole [] others none = refl
runs_later own whole (fact ∷ facts) others none =
    ap (λ (name : Option (List ℕ)). run_before (option_map (run_from own whole fact.second (facts ++ others)) name) (runs_in own whole (facts ++ others))) none.0
    ∙ runs_later own whole facts others none.1

no_runs : (own : Bool) (whole : ℕ) (facts : List TimedFact) → AllByRecursion (λ fact. begun_name fact.stated ≡ None) facts → runs_in own whole facts ≡ []
no_runs own whole facts none =
    ap (λ (fs : List TimedFact). runs_in own whole fs) (sym (append-nil facts)) ∙ runs_later own whole facts [] none

-- ---- the facts of a provisioner

module _ (outcome : Outcome) (d i since until : ℕ) (end : What) where
  emitted_begins : (after j : ℕ) (outputs : List TimedText) → begun_name (fact_of outcome end) ≡ None
      → AllByRecursion (λ fact. begun_name fact.stated ≡ None) (map (told outcome) (emitted_by d after i j since until end outputs))
  emitted_begins after j [] none =
      let before = progress d after until in
      subst (AllByRecursion (λ fact. begun_name fact.stated ≡ None)) (sym (map-append (told outcome) before ((until, end) ∷ [])))
      (all_append (λ fact. begun_name fact.stated ≡ None) (map (told outcome) before) (told outcome (until, end) ∷ [])
      (quiet_begins (map (told outcome) before) (quiet outcome d after until)) (none, tt))
  emitted_begins after j (output ∷ outputs) none =
      let at = output_at after since until output in
      let before = progress d after at in
      let rest = emitted_by d at i (j + 1) since until end outputs in
      subst (AllByRecursion (λ fact. begun_name fact.stated ≡ None)) (sym (map-append (told outcome) before ((at, ProvisionOutput i j) ∷ rest)))
      (all_append (λ fact. begun_name fact.stated ≡ None) (map (told outcome) before) (map (told outcome) ((at, ProvisionOutput i j) ∷ rest))
      (quiet_begins (map (told outcome) before) (quiet outcome d after at)) (refl, emitted_begins at (j + 1) outputs none))

  -- The end is the last end among the events of a provisioner.
  emitted_end : (after j : ℕ) (outputs : List TimedText) → ends_one (fact_of outcome end) ≡ true
      → last_end (map (told outcome) (emitted_by d after i j since until end outputs)) ≡ Some (told outcome (until, end))
  emitted_end after j [] ends =
      let before = map (told outcome) (progress d after until) in
      ap last_end (map-append (told outcome) (progress d after until) ((until, end) ∷ []))
      ∙ last_append (λ fact. ends_one fact.stated) before (told outcome (until, end) ∷ [])
      ∙ ap (λ (b : Bool). option_or (cond b (Some (told outcome (until, end))) None) (last_end before)) ends
  emitted_end after j (output ∷ outputs) ends =
      let at = output_at after since until output in
      let before = map (told outcome) (progress d after at) in
      let text = told outcome (at, ProvisionOutput i j) in
      let rest = map (told outcome) (emitted_by d at i (j + 1) since until end outputs) in
      let later : last_end rest ≡ Some (told outcome (until, end)) = emitted_end at (j + 1) outputs ends in
      ap last_end (map-append (told outcome) (progress d after at) ((at, ProvisionOutput i j) ∷ emitted_by d at i (j + 1) since until end outputs))
      ∙ last_append (λ fact. ends_one fact.stated) before (text ∷ rest)
      ∙ ap (λ (o : Option TimedFact). option_or o (last_end before))
      (last_append (λ fact. ends_one fact.stated) (text ∷ []) rest ∙ ap (λ (o : Option TimedFact). option_or o (last_end (text ∷ []))) later)

-- ---- outputs

-- One output is recorded as it is stated.
text_again : (outcome : Outcome) (i j at since seconds : ℕ) (provisioner : Provisioner) (output : TimedText)
    → slice_get outcome.provisioners i ≡ Some provisioner → slice_get provisioner.output j ≡ Some output
    → at ≡ since + output.after → output.after ≤ seconds
    → timed_output since seconds (told outcome (at, ProvisionOutput i j)) ≡ Some output
text_again outcome i j at since seconds provisioner output is stands when within =
    let text : text_of outcome i j ≡ output.text =
    ap (λ (o : Option Provisioner). option_map_or (λ p. option_map_or (λ timed. timed.text) (slice_get p.output j) []) o []) is
    ∙ ap (λ (o : Option TimedText). option_map_or (λ timed. timed.text) o []) stands in
    let second : min (at - since) seconds ≡ output.after = omega arith in
    ap (λ (n : ℕ). let timed : TimedText = record { after = n; text = text_of outcome i j } in Some timed) second
    ∙ ap (λ (bytes : List ℕ). let timed : TimedText = record { after = output.after; text = bytes } in Some timed) text

all_three : (one two three : Bool) → (one && two && three) ≡ true → (one ≡ true) × (two ≡ true) × (three ≡ true)
all_three true true true is = (refl, refl, refl)
all_three true true false is = absurd (cc)
all_three true false three is = absurd (cc)
all_three false two three is = absurd (cc)

nothing_written : (since seconds : ℕ) (facts : List TimedFact) → AllByRecursion (λ fact. output_of fact.stated ≡ None) facts
    → filter_map (timed_output since seconds) facts ≡ []
nothing_written since seconds facts none =
    nothing_of (timed_output since seconds) facts
    (all_are (λ fact. output_of fact.stated ≡ None) (λ fact. timed_output since seconds fact ≡ None) facts
    (λ fact is. ap (λ (o : Option (List ℕ)). option_map (λ text. let timed : TimedText = record { after = min (fact.second - since) seconds; text = text } in timed) o) is) none)

quiet_writes : (facts : List TimedFact) → AllByRecursion IsQuiet facts → AllByRecursion (λ fact. output_of fact.stated ≡ None) facts
quiet_writes facts are = all_are IsQuiet (λ fact. output_of fact.stated ≡ None) facts (λ fact is. is.writes_none) are

module _ (outcome : Outcome) (d i since : ℕ) (provisioner : Provisioner) (end : What)
    (is : slice_get outcome.provisioners i ≡ Some provisioner) (none : output_of (fact_of outcome end) ≡ None) where
  -- The outputs of a provisioner are recorded as they are stated.
  outputs_again : (after j until low : ℕ) (outputs : List TimedText) → StandAt provisioner.output j outputs
      → after ≤ since + low → until ≡ since + provisioner.seconds → are_in_time low provisioner.seconds outputs ≡ true
      → filter_map (timed_output since provisioner.seconds) (map (told outcome) (emitted_by d after i j since until end outputs)) ≡ outputs
  outputs_again after j until low [] stand early ends in_time =
      let before = progress d after until in
      ap (filter_map (timed_output since provisioner.seconds)) (map-append (told outcome) before ((until, end) ∷ []))
      ∙ nothing_written since provisioner.seconds (map (told outcome) before ++ told outcome (until, end) ∷ [])
      (all_append (λ fact. output_of fact.stated ≡ None) (map (told outcome) before) (told outcome (until, end) ∷ [])
      (quiet_writes (map (told outcome) before) (quiet outcome d after until)) (none, tt))
  outputs_again after j until low (output ∷ outputs) stand early ends in_time =
      let timely = all_three (nat_le low output.after) (nat_le output.after provisioner.seconds) (are_in_time output.after provisioner.seconds outputs) in_time in
      let later : low ≤ output.after = leb-true low output.after timely.0 in
      let within : output.after ≤ provisioner.seconds = leb-true output.after provisioner.seconds timely.1 in
      let at = output_at after since until output in
      let when : at ≡ since + output.after = omega arith in
      let before = progress d after at in
      let read = timed_output since provisioner.seconds in
      let text = told outcome (at, ProvisionOutput i j) in
      let rest = map (told outcome) (emitted_by d at i (j + 1) since until end outputs) in
      ap (filter_map read) (map-append (told outcome) before ((at, ProvisionOutput i j) ∷ emitted_by d at i (j + 1) since until end outputs))
      ∙ filter_map-append read (map (told outcome) before) (text ∷ rest)
      ∙ ap (λ (texts : List TimedText). texts ++ filter_map read (text ∷ rest))
      (nothing_written since provisioner.seconds (map (told outcome) before) (quiet_writes (map (told outcome) before) (quiet outcome d after at)))
      ∙ ap (λ (o : Option TimedText). cons_option o (filter_map read rest))
      (text_again outcome i j at since provisioner.seconds provisioner output is stand.0 when within)
      ∙ ap (λ (texts : List TimedText). output ∷ texts)
      (outputs_again at (j + 1) until output.after outputs stand.1 (omega arith) ends timely.2)

-- ---- what follows a provisioner

-- What comes before the next provisioner begins, and when it begins.
record IsFollowed (until : ℕ) (others : List Provisioner) (rest : List TimedFact) : Type 0 where
  front : List TimedFact
  front_is : before_first begins rest ≡ front
  front_quiet : AllByRecursion IsQuiet front
  next : (whole : ℕ) → (others ≡ [] → whole ≡ until) → option_map_or (λ fact. fact.second) (find begins rest) whole ≡ until
  last : others ≡ [] → AllByRecursion IsQuiet rest

followed : (outcome : Outcome) (d i until : ℕ) (others : List Provisioner)
    → IsFollowed until others (map (told outcome) (along d until i until others))
followed outcome d i until [] =
    let rest = map (told outcome) (progress d until d) in
    let are = quiet outcome d until d in
    let none = no_begin rest (quiet_begins rest are) in record {
      front = rest;
      front_is = front_none begins rest none;
      front_quiet = are;
      next = λ whole ends.
          ap (λ (fs : List TimedFact). option_map_or (λ fact. fact.second) (find begins fs) whole) (sym (append-nil rest))
          ∙ ap (λ (o : Option TimedFact). option_map_or (λ fact. fact.second) o whole) (find_later begins rest [] none)
          ∙ ends refl;
      last = λ same. are;
    }
followed outcome d i until (provisioner ∷ others) =
    let before = progress d until until in
    let end = until + provisioner.seconds in
    let own = emitted_by d until i 0 until end (provision_end i provisioner) provisioner.output in
    let later = along d end (i + 1) end others in
    let split = map_block (told outcome) before (until, ProvisionStart i) own later in
    let start = told outcome (until, ProvisionStart i) ∷ (map (told outcome) own ++ map (told outcome) later) in
    let are = quiet outcome d until until in
    let none = no_begin (map (told outcome) before) (quiet_begins (map (told outcome) before) are) in record {
      front = map (told outcome) before ++ [];
      front_is = ap (before_first begins) split ∙ front_later begins (map (told outcome) before) start none;
      front_quiet = all_append IsQuiet (map (told outcome) before) [] are tt;
      next = λ whole ends.
          ap (λ (fs : List TimedFact). option_map_or (λ fact. fact.second) (find begins fs) whole) split
          ∙ ap (λ (o : Option TimedFact). option_map_or (λ fact. fact.second) o whole) (find_later begins (map (told outcome) before) start none);
      last = λ same. absurd (cc);
    }

-- ---- one provisioner

-- The provisioner is recorded as it ran.
pub record IsRunOf (provisioner : Provisioner) (since : ℕ) (run : ProvisionerRun) : Type 0 where
  pub name : run.name ≡ provisioner.name
  pub began : run.begin ≡ since
  pub until : run.until ≡ since + provisioner.seconds
  pub output : filter_map (timed_output since provisioner.seconds) run.facts ≡ provisioner.output
  pub failed : went_on run ≡ has_failed provisioner

module _ (outcome : Outcome) (d i since : ℕ) (provisioner : Provisioner) (others : List Provisioner) (own : Bool) (whole : ℕ)
    (is : slice_get outcome.provisioners i ≡ Some provisioner)
    (in_time : are_in_time 0 provisioner.seconds provisioner.output ≡ true)
    (ends : (own ≡ true) ⊎ (whole ≡ since + seconds_of_all (provisioner ∷ others))) where
  abbrev until : ℕ
  until = since + provisioner.seconds

  abbrev end : What
  end = provision_end i provisioner

  abbrev emitted : List TimedFact
  emitted = map (told outcome) (emitted_by d since i 0 since until end provisioner.output)

  abbrev rest : List TimedFact
  rest = map (told outcome) (along d until (i + 1) until others)

  abbrev is_end : IsEnd (has_failed provisioner) (fact_of outcome end)
  is_end = end_is outcome i provisioner

  begins_none : AllByRecursion (λ fact. begun_name fact.stated ≡ None) emitted
  begins_none = emitted_begins outcome d i since until end since 0 provisioner.output is_end.begins

  ended : last_end emitted ≡ Some (told outcome (until, end))
  ended = emitted_end outcome d i since until end since 0 provisioner.output is_end.ends

  -- Where only progress follows, the end of the provisioner is the last one.
  ended_before : (facts : List TimedFact) → AllByRecursion IsQuiet facts → last_end (emitted ++ facts) ≡ Some (told outcome (until, end))
  ended_before facts are =
      last_append (λ fact. ends_one fact.stated) emitted facts
      ∙ ap (λ (o : Option TimedFact). option_or o (last_end emitted))
      (last_none (λ fact. ends_one fact.stated) facts (all_are IsQuiet (λ fact. ends_one fact.stated ≡ false) facts (λ fact is. is.ends_none) are))
      ∙ ended

  end_by : (b : Bool) → (b ≡ true) ⊎ (whole ≡ since + seconds_of_all (provisioner ∷ others)) → others ≡ [] → AllByRecursion IsQuiet rest
      → (if b then end_second whole (emitted ++ rest) else whole) ≡ until
  end_by true or same are = ap (λ (o : Option TimedFact). option_map_or (λ fact. fact.second) o whole) (ended_before rest are)
  end_by false or same are =
      let none : seconds_of_all others ≡ 0 = ap seconds_of_all same in
      let sum = sum_by-cons (λ (one : Provisioner). one.seconds) provisioner others in
      ⊎_elim (λ (not_own : false ≡ true). absurd (cc)) (λ (e : whole ≡ since + seconds_of_all (provisioner ∷ others)). omega arith) or

  is_run : (name : List ℕ) → name ≡ provisioner.name → IsRunOf provisioner since (run_from own whole since (emitted ++ rest) name)
  is_run name named =
      let follows = followed outcome d (i + 1) until others in
      let front : before_first begins (emitted ++ rest) ≡ emitted ++ follows.front =
      front_later begins emitted rest (no_begin emitted begins_none) ∙ ap (λ (facts : List TimedFact). emitted ++ facts) follows.front_is in
      let last : ℕ = if own then end_second whole (emitted ++ rest) else whole in record {
        name = named;
        began = refl;
        until =
            ap (λ (o : Option TimedFact). option_map_or (λ fact. fact.second) o last) (find_later begins emitted rest (no_begin emitted begins_none))
            ∙ follows.next last (λ same. end_by own ends same (follows.last same));
        output =
            ap (filter_map (timed_output since provisioner.seconds)) front
            ∙ filter_map-append (timed_output since provisioner.seconds) emitted follows.front
            ∙ ap (λ (texts : List TimedText). filter_map (timed_output since provisioner.seconds) emitted ++ texts)
            (nothing_written since provisioner.seconds follows.front (quiet_writes follows.front follows.front_quiet))
            ∙ append-nil (filter_map (timed_output since provisioner.seconds) emitted)
            ∙ outputs_again outcome d i since provisioner end is is_end.output since 0 until 0 provisioner.output (stand_all provisioner.output)
            (omega arith) refl in_time;
        failed =
            ap (λ (facts : List TimedFact). option_map_or (λ fact. fails_one fact.stated) (last_end facts) false) front
            ∙ ap (λ (o : Option TimedFact). option_map_or (λ fact. fails_one fact.stated) o false) (ended_before follows.front follows.front_quiet)
            ∙ is_end.fails;
      }

-- ---- all provisioners

-- The provisioners are recorded as they ran, one after another, the first from `since` on.
abbrev pub AreRunsOf : (since : ℕ) → List Provisioner → List ProvisionerRun → Type 0
AreRunsOf since [] [] = ⊤
AreRunsOf since [] (run ∷ runs) = ⊥
AreRunsOf since (provisioner ∷ others) [] = ⊥
AreRunsOf since (provisioner ∷ others) (run ∷ runs) =
    IsRunOf provisioner since run × AreRunsOf (since + provisioner.seconds) others runs

abbrev pub IsTimely : Provisioner → Type 0
IsTimely provisioner = are_in_time 0 provisioner.seconds provisioner.output ≡ true

pub runs_are : (outcome : Outcome) (d after i since : ℕ) (provisioners : List Provisioner) (own : Bool) (whole : ℕ)
    → StandAt outcome.provisioners i provisioners → AllByRecursion IsTimely provisioners
    → (own ≡ true) ⊎ (whole ≡ since + seconds_of_all provisioners)
    → AreRunsOf since provisioners (runs_in own whole (map (told outcome) (along d after i since provisioners)))
runs_are outcome d after i since [] own whole stand timely ends =
    let facts = map (told outcome) (progress d after d) in
    subst (AreRunsOf since []) (sym (no_runs own whole facts (quiet_begins facts (quiet outcome d after d)))) tt
runs_are outcome d after i since (provisioner ∷ others) own whole stand timely ends =
    let until = since + provisioner.seconds in
    let before = progress d after since in
    let own_events = emitted_by d since i 0 since until (provision_end i provisioner) provisioner.output in
    let later = along d until (i + 1) until others in
    let emitted = map (told outcome) own_events in
    let rest = map (told outcome) later in
    let start = told outcome (since, ProvisionStart i) in
    let name : name_of outcome i ≡ provisioner.name = ap (λ (o : Option Provisioner). option_map_or (λ p. p.name) o []) stand.0 in
    let first : IsRunOf provisioner since (run_from own whole since (emitted ++ rest) (name_of outcome i)) =
    is_run outcome d i since provisioner others own whole stand.0 timely.0 ends (name_of outcome i) name in
    let sum = sum_by-cons (λ (one : Provisioner). one.seconds) provisioner others in
    let ends_later : (own ≡ true) ⊎ (whole ≡ until + seconds_of_all others) =
    ⊎_elim (λ (e : own ≡ true). inl e) (λ (e : whole ≡ since + seconds_of_all (provisioner ∷ others)). inr (omega arith)) ends in
    let none = begins_none outcome d i since provisioner others own whole stand.0 timely.0 ends in
    let runs : runs_in own whole (map (told outcome) (along d after i since (provisioner ∷ others)))
    ≡ run_from own whole since (emitted ++ rest) (name_of outcome i) ∷ runs_in own whole rest =
    ap (runs_in own whole) (map_block (told outcome) before (since, ProvisionStart i) own_events later)
    ∙ runs_later own whole (map (told outcome) before) (start ∷ (emitted ++ rest)) (quiet_begins (map (told outcome) before) (quiet outcome d after since))
    ∙ ap (λ (rs : List ProvisionerRun). run_from own whole since (emitted ++ rest) (name_of outcome i) ∷ rs) (runs_later own whole emitted rest none) in
    subst (AreRunsOf since (provisioner ∷ others)) (sym runs)
    (first, runs_are outcome d until (i + 1) until others own whole stand.1 timely.1 ends_later)

-- ---- the first and the last

pub at_once_are : (provisioners : List Provisioner) (runs : List ProvisionerRun) → AreRunsOf 0 provisioners runs
    → AreRunsOf 0 provisioners (at_once runs)
at_once_are [] [] are = tt
at_once_are [] (run ∷ runs) are = absurd are
at_once_are (provisioner ∷ others) [] are = absurd are
at_once_are (provisioner ∷ others) (run ∷ runs) are =
    (record { name = are.0.name; began = refl; until = are.0.until; output = are.0.output; failed = are.0.failed }, are.1)

-- The last provisioner ends after the seconds of all.
pub last_until_is : (since : ℕ) (provisioners : List Provisioner) (runs : List ProvisionerRun) → AreRunsOf since provisioners runs
    → last_until since runs ≡ since + seconds_of_all provisioners
last_until_is since [] [] are = let none : seconds_of_all [] ≡ 0 = refl in omega arith
last_until_is since [] (run ∷ runs) are = absurd are
last_until_is since (provisioner ∷ others) [] are = absurd are
last_until_is since (provisioner ∷ others) (run ∷ runs) are =
    let rest : last_until (since + provisioner.seconds) runs ≡ since + provisioner.seconds + seconds_of_all others =
    last_until_is (since + provisioner.seconds) others runs are.1 in
    let sum = sum_by-cons (λ (one : Provisioner). one.seconds) provisioner others in
    let all : since + provisioner.seconds + seconds_of_all others ≡ since + seconds_of_all (provisioner ∷ others) = omega arith in
    ap (λ (n : ℕ). last_until n runs) are.0.until ∙ rest ∙ all
