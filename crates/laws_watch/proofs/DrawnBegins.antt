-- When the open steps of an action and address began, as `view` knows it, and how the content of a
-- message changes that.
use Rattle.std.proofs.Common.{◌≡◌, ◌∙◌, ℕ, zero, suc, ◌+◌, ◌∷◌, ◌++◌, [], Bool, List, Option, None, Some, true, false, ⊎_elim, ap, ap₂, append-nil, drop, map, refl, sym}
use Rattle.std.specs.Prelude.{ℤ, ◌&&◌, filter}
use Rattle.std.specs.Option.{option_map_or}
use Rattle.std.specs.Str.{bytes_eq}
use Rattle.std.proofs.lemmas.Bool.{and_parts, cases_Bool}
use Rattle.std.proofs.lemmas.List.{map-append}
use Rattle.std.proofs.lemmas.List.Elements.{filter-append}
use Rattle.apply_json.proofs.Held.{is_name}
use Rattle.stream_timeline.specs.Messages.{Content, begins, begins_provisioner, ends, ends_provisioner, error, other, plan_summary, summary, unusable, version, warning}
use Rattle.stream_timeline.specs.Steps.{StepRead, at_place, begun_step, ended, first_of, has_open_provisioner, is_open, is_open_at, is_open_with, last_of, marked_by_error, passes_at, places, with_provisioner, with_provisioner_ended}
use Rattle.stream_timeline.specs.TimelineRead.{TimelineRead, with_content, with_passed_over, with_provisioner_end_at}
use Rattle.laws_watch.proofs.FirstOnes.{at_first_place, first_changed}
use Rattle.laws_watch.proofs.WatchedBegins.{is_key, with_key_begin, with_key_end}

-- when the steps of this action and address began that are open
abbrev pub drawn_begins : (address action : List ℕ) → List StepRead → List ℤ
drawn_begins address action steps = map (λ (step : StepRead). step.begin) (filter (is_open_with address action) steps)

-- the begins after a message with this content at that moment
abbrev pub after_content : (address action : List ℕ) → Content → ℤ → List ℤ → List ℤ
after_content address action (begins other_address other_action) moment before = with_key_begin (is_key address action other_address other_action) moment before
after_content address action (ends other_address other_action failed) moment before = with_key_end (is_key address action other_address other_action) before
after_content address action (begins_provisioner other_address name) moment before = before
after_content address action (ends_provisioner other_address failed) moment before = before
after_content address action (error of diagnostic) moment before = before
after_content address action (warning diagnostic) moment before = before
after_content address action (version text) moment before = before
after_content address action (plan_summary totals) moment before = before
after_content address action (summary totals) moment before = before
after_content address action other moment before = before
after_content address action unusable moment before = before

module _ (address action : List ℕ) where
  abbrev keyed : StepRead → Bool
  keyed step = is_open_with address action step

  abbrev drawn : List StepRead → List ℤ
  drawn steps = drawn_begins address action steps

  -- ---- changes that no begin and no end is part of

  -- the step is open as before, with its names and its begin
  abbrev IsAsBefore : (change : StepRead → StepRead) → Type 0
  IsAsBefore change = (step : StepRead) → (keyed (change step) ≡ keyed step) × ((change step).begin ≡ step.begin)

  drawn-first : (one another : StepRead) (xs ys : List StepRead) → keyed one ≡ keyed another → one.begin ≡ another.begin → drawn xs ≡ drawn ys → drawn (one ∷ xs) ≡ drawn (another ∷ ys)
  drawn-first one another xs ys same begin rest =
      ⊎_elim
      (λ (chosen : keyed another ≡ true).
      let first : keyed one ≡ true = same ∙ chosen in
      rw (chosen, first) (ap₂ (λ b t. b ∷ t) begin rest))
      (λ (passed : keyed another ≡ false).
      let first : keyed one ≡ false = same ∙ passed in
      rw (passed, first) rest)
      (cases_Bool (keyed another))

  drawn-at : (place : ℕ) (change : StepRead → StepRead) (steps : List StepRead) → IsAsBefore change → drawn (at_place place change steps) ≡ drawn steps
  drawn-at place change [] as_before = refl
  drawn-at zero change (step ∷ steps) as_before = drawn-first (change step) step steps steps (as_before step).0 (as_before step).1 refl
  drawn-at (suc place) change (step ∷ steps) as_before = drawn-first step step (at_place place change steps) steps refl refl (drawn-at place change steps as_before)

  drawn-map : (change : StepRead → StepRead) (steps : List StepRead) → IsAsBefore change → drawn (map change steps) ≡ drawn steps
  drawn-map change [] as_before = refl
  drawn-map change (step ∷ steps) as_before = drawn-first (change step) step (map change steps) steps (as_before step).0 (as_before step).1 (drawn-map change steps as_before)

  marked_is : (of : Option (List ℕ)) → IsAsBefore (marked_by_error of)
  marked_is None step = (refl, refl)
  marked_is (Some at_address) step =
      ⊎_elim (λ (yes : is_open_at at_address step ≡ true). rw yes (refl, refl)) (λ (out : is_open_at at_address step ≡ false). rw out (refl, refl))
      (cases_Bool (is_open_at at_address step))

  -- ---- a step begins

  drawn-begun : (other_address other_action : List ℕ) (line : ℕ) (moment : ℤ) (steps : List StepRead)
      → drawn (steps ++ begun_step line other_address other_action moment ∷ []) ≡ with_key_begin (is_key address action other_address other_action) moment (drawn steps)
  drawn-begun other_address other_action line moment steps =
      let one = begun_step line other_address other_action moment in
      let split : drawn (steps ++ one ∷ []) ≡ drawn steps ++ drawn (one ∷ []) =
      ap (map (λ (step : StepRead). step.begin)) (filter-append keyed steps (one ∷ [])) ∙ map-append (λ (step : StepRead). step.begin) (filter keyed steps) (filter keyed (one ∷ [])) in
      ⊎_elim
      (λ (same : is_key address action other_address other_action ≡ true).
      let chosen : drawn (one ∷ []) ≡ moment ∷ [] = rw same refl in
      rw same (split ∙ ap (λ t. drawn steps ++ t) chosen))
      (λ (apart : is_key address action other_address other_action ≡ false).
      let passed : drawn (one ∷ []) ≡ [] = rw apart refl in
      rw apart (split ∙ ap (λ t. drawn steps ++ t) passed ∙ append-nil (drawn steps)))
      (cases_Bool (is_key address action other_address other_action))

  -- ---- a step ends

  three : (a b c : Bool) → (b && c) ≡ false → (a && b && c) ≡ false
  three true b c none = none
  three false b c none = refl

  -- a step with other names is not one of these
  other_step : (other_address other_action : List ℕ) (step : StepRead) → is_key address action other_address other_action ≡ false
      → is_open_with other_address other_action step ≡ true → keyed step ≡ false
  other_step other_address other_action step apart is =
      let both = and_parts _ _ is in
      let one : step.address ≡ other_address = is_name step.address other_address (and_parts _ _ both.0).1 in
      let two : step.action ≡ other_action = is_name step.action other_action both.1 in
      ap₂ (λ x y. is_open step && bytes_eq x address && bytes_eq y action) one two
      ∙ three (is_open step) (bytes_eq other_address address) (bytes_eq other_action action) apart

  drawn-closed : (moment : ℤ) (failed : Bool) (steps : List StepRead) → drawn (first_changed keyed (ended moment failed) steps) ≡ drop 1 (drawn steps)
  drawn-closed moment failed [] = refl
  drawn-closed moment failed (step ∷ steps) =
      ⊎_elim
      (λ (chosen : keyed step ≡ true). rw chosen refl)
      (λ (passed : keyed step ≡ false).
      let rest = first_changed keyed (ended moment failed) steps in
      let same : drawn (step ∷ rest) ≡ drawn rest = rw passed refl in
      rw passed (same ∙ drawn-closed moment failed steps))
      (cases_Bool (keyed step))

  drawn-apart : (other_address other_action : List ℕ) (moment : ℤ) (failed : Bool) (steps : List StepRead) → is_key address action other_address other_action ≡ false
      → drawn (first_changed (is_open_with other_address other_action) (ended moment failed) steps) ≡ drawn steps
  drawn-apart other_address other_action moment failed [] apart = refl
  drawn-apart other_address other_action moment failed (step ∷ steps) apart =
      ⊎_elim
      (λ (ends_here : is_open_with other_address other_action step ≡ true).
      let passed : keyed step ≡ false = other_step other_address other_action step apart ends_here in
      let same : drawn (step ∷ steps) ≡ drawn steps = rw passed refl in
      rw ends_here (sym same))
      (λ (stays : is_open_with other_address other_action step ≡ false).
      let rest = first_changed (is_open_with other_address other_action) (ended moment failed) steps in
      let later : drawn (step ∷ rest) ≡ drawn (step ∷ steps) = drawn-first step step rest steps refl refl (drawn-apart other_address other_action moment failed steps apart) in
      rw stays later)
      (cases_Bool (is_open_with other_address other_action step))

  drawn-ended : (other_address other_action : List ℕ) (moment : ℤ) (failed : Bool) (steps : List StepRead)
      → drawn (first_changed (is_open_with other_address other_action) (ended moment failed) steps) ≡ with_key_end (is_key address action other_address other_action) (drawn steps)
  drawn-ended other_address other_action moment failed steps =
      ⊎_elim
      (λ (same : is_key address action other_address other_action ≡ true).
      let parts = and_parts (bytes_eq other_address address) (bytes_eq other_action action) same in
      let one : other_address ≡ address = is_name other_address address parts.0 in
      let two : other_action ≡ action = is_name other_action action parts.1 in
      rw same (ap₂ (λ x y. drawn (first_changed (is_open_with x y) (ended moment failed) steps)) one two ∙ drawn-closed moment failed steps))
      (λ (apart : is_key address action other_address other_action ≡ false).
      rw apart (drawn-apart other_address other_action moment failed steps apart))
      (cases_Bool (is_key address action other_address other_action))

  -- the steps with the one at a place changed, if there is such a place
  at_if : (t : TimelineRead) (change : StepRead → StepRead) (place : Option ℕ)
      → (option_map_or (λ place. record t { steps = at_place place change t.steps }) place (with_passed_over t)).steps ≡ option_map_or (λ n. at_place n change t.steps) place t.steps
  at_if t change None = refl
  at_if t change (Some place) = refl

  -- ---- the content of a message

  begun_provisioner : (t : TimelineRead) (change : StepRead → StepRead) (place : Option ℕ) → IsAsBefore change
      → drawn (option_map_or (λ place. record t { steps = at_place place change t.steps; begun = t.begun + 1 }) place (with_passed_over t)).steps ≡ drawn t.steps
  begun_provisioner t change None as_before = refl
  begun_provisioner t change (Some place) as_before = drawn-at place change t.steps as_before

  ended_provisioner : (t : TimelineRead) (failed : Bool) (moment : ℤ) (place : Option ℕ)
      → drawn (option_map_or (λ place. with_provisioner_end_at place failed moment t) place (with_passed_over t)).steps ≡ drawn t.steps
  ended_provisioner t failed moment None = refl
  ended_provisioner t failed moment (Some place) =
      ⊎_elim
      (λ (yes : passes_at place has_open_provisioner t.steps ≡ true). rw yes (drawn-at place (with_provisioner_ended moment failed) t.steps (λ step. (refl, refl))))
      (λ (out : passes_at place has_open_provisioner t.steps ≡ false). rw out refl)
      (cases_Bool (passes_at place has_open_provisioner t.steps))

  pub drawn-content : (content : Content) (moment : ℤ) (t : TimelineRead) → drawn (with_content moment content t).steps ≡ after_content address action content moment (drawn t.steps)
  drawn-content (begins other_address other_action) moment t = drawn-begun other_address other_action t.lines moment t.steps
  drawn-content (ends other_address other_action failed) moment t =
      ap drawn (at_if t (ended moment failed) (first_of (places (is_open_with other_address other_action) t.steps))
      ∙ at_first_place (is_open_with other_address other_action) (ended moment failed) t.steps)
      ∙ drawn-ended other_address other_action moment failed t.steps
  drawn-content (begins_provisioner other_address name) moment t =
      begun_provisioner t (with_provisioner name moment) (last_of (places (is_open_at other_address) t.steps)) (λ step. (refl, refl))
  drawn-content (ends_provisioner other_address failed) moment t = ended_provisioner t failed moment (last_of (places (is_open_at other_address) t.steps))
  drawn-content (error of diagnostic) moment t = drawn-map (marked_by_error of) t.steps (marked_is of)
  drawn-content (warning diagnostic) moment t = refl
  drawn-content (version text) moment t = refl
  drawn-content (plan_summary totals) moment t = refl
  drawn-content (summary totals) moment t = refl
  drawn-content other moment t = refl
  drawn-content unusable moment t = refl
