-- What is left of a step between its start and its end, one by one.
use Rattle.std.proofs.Common.{◌≡◌, ℕ, zero, suc, ◌+◌, ◌<◌, ◌≤◌, All, Bool, Bor, true, false, ◌&&◌, List, [], ◌∷◌, ◌++◌, cond, drop, get_or, length, Option, Some, None, sym, refl, ap, subst, ◌∙◌, arith}
use Rattle.std.specs.Prelude.{IfNone, IfSome, is_some, not, slice_get}
use Rattle.std.specs.List.{list_any}
use Rattle.std.specs.Option.{option_copied}
use Rattle.std.proofs.lemmas.List.{drop_all, drop_more}
use Rattle.std.proofs.lemmas.List.Sums.{sum_by-cons, sum_by-take-le, sum_by_more, sum_by_more_le}
use Rattle.std.proofs.lemmas.List.Elements.{All-cons, All-head, All-nil, All-tail}
use Rattle.std.proofs.lemmas.Option.{get_or_from_slice_get, slice_get_within}
use Rattle.apply_model.specs.declared.plan.step_kind.StepKind.{StepKind}
use Rattle.apply_model.specs.declared.plan.step_kind.StepKind.TheVariants.{Delete}
use Rattle.apply_model.specs.declared.script.outcome.Outcome.{Outcome}
use Rattle.apply_model.specs.declared.script.provisioner.Provisioner.{Provisioner}
use Rattle.apply_model.specs.declared.script.timed_text.TimedText.{TimedText}
use Rattle.apply_model.specs.Plan.StepKind.{is_kind}
use Rattle.apply_model.specs.Script.Outcome.{makes_fail, ran, seconds_before, seconds_in_all, seconds_of_all, took}
use Rattle.apply_events.specs.declared.what.What.TheVariants.{ProvisionOutput, ProvisionStart}
use Rattle.apply_events.specs.Course.{GivesNext}
use Rattle.apply_events.specs.declared.mid_step.MidStep.{MidStep}
use Rattle.apply_events.specs.declared.what.What.{What}
use Rattle.apply_events.specs.MidStep.{due, left_at, left_of, since}
use Rattle.apply_events.specs.Provisions.{along, output_at, progress, provision_end, emitted_by}

-- ---- the provisioner at a number

pub drop_some : (ps : List Provisioner) (i : ℕ) (p : Provisioner) → slice_get ps i ≡ Some p → drop i ps ≡ p ∷ drop (i + 1) ps
drop_some ps i p answer = drop_more ps i p (slice_get_within ps i p answer) ∙ ap (λ q. q ∷ drop (i + 1) ps) (get_or_from_slice_get ps i p p answer)

pub drop_none : (ps : List Provisioner) (i : ℕ) → slice_get ps i ≡ None → drop i ps ≡ []
drop_none [] zero none = refl
drop_none [] (suc i) none = refl
drop_none (p ∷ ps) zero none = cc
drop_none (p ∷ ps) (suc i) none = drop_none ps i none

pub since_more : (own : ℕ) (ps : List Provisioner) (i : ℕ) (p : Provisioner) → slice_get ps i ≡ Some p → since own ps (i + 1) ≡ since own ps i + p.seconds
since_more own ps i p answer =
    let sum = sum_by_more (λ (q : Provisioner). q.seconds) ps i p (slice_get_within ps i p answer) in
    let same = ap (λ (q : Provisioner). q.seconds) (get_or_from_slice_get ps i p p answer) in
    omega arith

pub since_in_time : (own : ℕ) (ps : List Provisioner) (i : ℕ) → since own ps i ≤ own + seconds_of_all ps
since_in_time own ps i = let less = sum_by-take-le (λ (q : Provisioner). q.seconds) ps i in omega arith

pub ends_in_time : (own : ℕ) (ps : List Provisioner) (i : ℕ) (p : Provisioner) → slice_get ps i ≡ Some p → since own ps i + p.seconds ≤ own + seconds_of_all ps
ends_in_time own ps i p answer =
    let less = sum_by_more_le (λ (q : Provisioner). q.seconds) ps i p (slice_get_within ps i p answer) in
    let same = ap (λ (q : Provisioner). q.seconds) (get_or_from_slice_get ps i p p answer) in
    omega arith

-- ---- a provisioner has not begun

-- after the last provisioner there is progress up to the end
left_past : (d own : ℕ) (ps : List Provisioner) (emitted i : ℕ) (outputs : Option ℕ) → outputs ≡ None → slice_get ps i ≡ None → left_at d own ps emitted i outputs ≡ progress d emitted d
left_past d own ps emitted i outputs is past = rw (is, drop_none ps i past) refl

-- before another there is progress up to its begin
left_before : (d own : ℕ) (ps : List Provisioner) (emitted i begin : ℕ) (outputs : Option ℕ) (p : Provisioner) → outputs ≡ None → slice_get ps i ≡ Some p → begin ≡ since own ps i
    → left_at d own ps emitted i outputs ≡ progress d emitted begin ++ (begin, ProvisionStart i) ∷ left_at d own ps begin i (Some 0)
left_before d own ps emitted i begin outputs p is answer same = rw (is, ← same, drop_some ps i p answer) refl

same_gives : (before' after' before after : List (ℕ × What)) (result : Option (ℕ × What)) → before' ≡ before → after' ≡ after → GivesNext before result after → GivesNext before' result after'
same_gives before' after' before after None b a gives = (b ∙ gives.0, a ∙ gives.1)
same_gives before' after' before after (Some first) b a gives = b ∙ gives ∙ ap (λ l. first ∷ l) (sym a)

-- the progress up to `until` is emitted one by one
pub gives : (d until : ℕ) (old new : MidStep) (result : Option (ℕ × What))
    → IfNone result ((progress d old.emitted until ≡ []) × (new ≡ old)) → IfSome result (λ first. progress d old.emitted until ≡ first ∷ progress d new.emitted until)
    → GivesNext (progress d old.emitted until) result (progress d new.emitted until)
gives d until old new None none some = (none.0, ap (λ (m : MidStep). progress d m.emitted until) none.1 ∙ none.0)
gives d until old new (Some first) none some = some

-- the last progress is emitted, if there is any
pub begin_last : (d own : ℕ) (ps : List Provisioner) (old new : MidStep) (result : Option (ℕ × What)) (answer : Option (Bor Provisioner)) (none : Bool)
    → old.outputs ≡ None → new.provisioner ≡ old.provisioner → new.outputs ≡ old.outputs
    → option_copied answer ≡ slice_get ps old.provisioner → is_some answer ≡ not none → none ≡ true
    → GivesNext (progress d old.emitted d) result (progress d new.emitted d) → GivesNext (left_of d own ps old) result (left_of d own ps new)
begin_last d own ps old new result (Some p) none is number outputs at test past gives = let no : true ≡ false = test ∙ ap not past in cc
begin_last d own ps old new result None none is number outputs at test past gives =
    same_gives (left_of d own ps old) (left_of d own ps new) (progress d old.emitted d) (progress d new.emitted d) result
    (left_past d own ps old.emitted old.provisioner old.outputs is (sym at))
    (left_past d own ps new.emitted new.provisioner new.outputs (outputs ∙ is) (ap (slice_get ps) number ∙ sym at)) gives

-- the progress before a provisioner is emitted
pub begin_emitted : (d own : ℕ) (ps : List Provisioner) (old new : MidStep) (begin : ℕ) (first : ℕ × What) (answer : Option (Bor Provisioner)) (none : Bool)
    → old.outputs ≡ None → new.provisioner ≡ old.provisioner → new.outputs ≡ old.outputs → begin ≡ since own ps old.provisioner
    → option_copied answer ≡ slice_get ps old.provisioner → is_some answer ≡ not none → none ≡ false
    → progress d old.emitted begin ≡ first ∷ progress d new.emitted begin → left_of d own ps old ≡ first ∷ left_of d own ps new
begin_emitted d own ps old new begin first None none is number outputs same at test past gives = let no : false ≡ true = test ∙ ap not past in cc
begin_emitted d own ps old new begin first (Some p) none is number outputs same at test past gives =
    let rest = (begin, ProvisionStart old.provisioner) ∷ left_at d own ps begin old.provisioner (Some 0) in
    left_before d own ps old.emitted old.provisioner begin old.outputs p.now is (sym at) same
    ∙ ap (λ l. l ++ rest) gives
    ∙ ap (λ l. first ∷ l) (sym (
    ap (λ i. left_at d own ps new.emitted i new.outputs) number
    ∙ left_before d own ps new.emitted old.provisioner begin new.outputs p.now (outputs ∙ is) (sym at) same))

-- it begins
begin_starts : (d own : ℕ) (ps : List Provisioner) (emitted i begin : ℕ) (outputs : Option ℕ) (answer : Option (Bor Provisioner)) (none : Bool)
    → outputs ≡ None → begin ≡ since own ps i → progress d emitted begin ≡ []
    → option_copied answer ≡ slice_get ps i → is_some answer ≡ not none → none ≡ false
    → left_at d own ps emitted i outputs ≡ (begin, ProvisionStart i) ∷ left_at d own ps begin i (Some 0)
begin_starts d own ps emitted i begin outputs None none is same no_time at test past = let no : false ≡ true = test ∙ ap not past in cc
begin_starts d own ps emitted i begin outputs (Some p) none is same no_time at test past =
    left_before d own ps emitted i begin outputs p.now is (sym at) same ∙ ap (λ l. l ++ (begin, ProvisionStart i) ∷ left_at d own ps begin i (Some 0)) no_time

-- no progress was emitted before
pub begin_now : (d own : ℕ) (ps : List Provisioner) (old m : MidStep) (begin : ℕ) (answer : Option (Bor Provisioner)) (none : Bool)
    → m ≡ old → old.outputs ≡ None → begin ≡ since own ps old.provisioner → progress d old.emitted begin ≡ []
    → option_copied answer ≡ slice_get ps old.provisioner → is_some answer ≡ not none → none ≡ false
    → left_of d own ps old ≡ (begin, ProvisionStart m.provisioner) ∷ left_at d own ps begin m.provisioner (Some 0)
begin_now d own ps old m begin answer none occupied is same no_time at test past =
    subst (λ (x : MidStep). left_of d own ps old ≡ (begin, ProvisionStart x.provisioner) ∷ left_at d own ps begin x.provisioner (Some 0)) (sym occupied)
    (begin_starts d own ps old.emitted old.provisioner begin old.outputs answer none is same no_time at test past)

-- ---- a provisioner has begun

pub run_none : (d own : ℕ) (ps : List Provisioner) (emitted i line : ℕ) (outputs : Option ℕ) → outputs ≡ Some line → None ≡ slice_get ps i
    → left_at d own ps emitted i outputs ≡ []
run_none d own ps emitted i line outputs is past = rw (is, drop_none ps i (sym past)) refl

-- the next event, and the events after it
abbrev rest_at : (d at i j since until : ℕ) (end : What) → List TimedText → List (ℕ × What)
rest_at d at i j since until end [] = (at, end) ∷ []
rest_at d at i j since until end (o ∷ os) = (at, ProvisionOutput i j) ∷ emitted_by d at i (j + 1) since until end os

emitted_is : (d after i j since until : ℕ) (end : What) (outputs : List TimedText)
    → emitted_by d after i j since until end outputs ≡ progress d after (due after since until outputs) ++ rest_at d (due after since until outputs) i j since until end outputs
emitted_is d after i j since until end [] = refl
emitted_is d after i j since until end (o ∷ os) = refl

-- the due second stays the same while progress is emitted
due_preserved : (after later since until : ℕ) (outputs : List TimedText) → after ≤ later → later ≤ due after since until outputs → due later since until outputs ≡ due after since until outputs
due_preserved after later since until [] low high = refl
due_preserved after later since until (o ∷ os) low high = omega arith

pub due_in_time : (after since until : ℕ) (outputs : List TimedText) → due after since until outputs ≤ until
due_in_time after since until [] = omega arith
due_in_time after since until (o ∷ os) = omega arith

text_located : (outputs : List TimedText) (line : ℕ) (o : TimedText) → Some o ≡ slice_get outputs line → drop line outputs ≡ o ∷ drop (line + 1) outputs
text_located outputs line o answer = drop_more outputs line o (slice_get_within outputs line o (sym answer)) ∙ ap (λ q. q ∷ drop (line + 1) outputs) (get_or_from_slice_get outputs line o o (sym answer))

pub due_located : (after since until : ℕ) (outputs : List TimedText) (line : ℕ) (o : TimedText) → Some o ≡ slice_get outputs line
    → due after since until (drop line outputs) ≡ output_at after since until o
due_located after since until outputs line o answer = ap (due after since until) (text_located outputs line o answer)

pub due_past : (after since until : ℕ) (outputs : List TimedText) (line : ℕ) → length outputs ≤ line → due after since until (drop line outputs) ≡ until
due_past after since until outputs line past = ap (due after since until) (drop_all line outputs past)

first_left : (outputs : List TimedText) (line : ℕ) → line < length outputs → (o : TimedText) × (drop line outputs ≡ o ∷ drop (line + 1) outputs)
first_left [] line less = absurd (omega arith)
first_left (o ∷ os) line less = (get_or (o ∷ os) line o, drop_more (o ∷ os) line o less)

left_within : (d own : ℕ) (ps : List Provisioner) (emitted i line begin : ℕ) (outputs : Option ℕ) (p : Provisioner)
    → outputs ≡ Some line → Some p ≡ slice_get ps i → begin ≡ since own ps i
    → left_at d own ps emitted i outputs
    ≡ emitted_by d emitted i line begin (begin + p.seconds) (provision_end i p) (drop line p.output) ++ along d (begin + p.seconds) (i + 1) (begin + p.seconds) (drop (i + 1) ps)
left_within d own ps emitted i line begin outputs p is answer same = rw (is, ← same, drop_some ps i p (sym answer)) refl

pub run_times : (d own : ℕ) (ps : List Provisioner) (old new : MidStep) (line begin when : ℕ) (first : ℕ × What) (p : Provisioner)
    → old.outputs ≡ Some line → new.provisioner ≡ old.provisioner → new.outputs ≡ old.outputs → Some p ≡ slice_get ps old.provisioner → begin ≡ since own ps old.provisioner
    → when ≡ due old.emitted begin (begin + p.seconds) (drop line p.output) → old.emitted ≤ new.emitted → new.emitted ≤ when
    → progress d old.emitted when ≡ first ∷ progress d new.emitted when
    → left_of d own ps old ≡ first ∷ left_of d own ps new
run_times d own ps old new line begin when first p is number outputs answer same at low high next =
    let end = begin + p.seconds in
    let i = old.provisioner in
    let left = drop line p.output in
    let more = along d end (i + 1) end (drop (i + 1) ps) in
    let emits : ℕ → List (ℕ × What) = λ n. rest_at d n i line begin end (provision_end i p) left in
    let occupied : due new.emitted begin end left ≡ when = due_preserved old.emitted new.emitted begin end left low (subst (λ n. new.emitted ≤ n) at high) ∙ sym at in
    left_within d own ps old.emitted i line begin old.outputs p is answer same
    ∙ ap (λ l. l ++ more) (emitted_is d old.emitted i line begin end (provision_end i p) left ∙ ap (λ n. progress d old.emitted n ++ emits n) (sym at) ∙ ap (λ l. l ++ emits when) next)
    ∙ ap (λ l. first ∷ l) (sym (
    ap (λ n. left_at d own ps new.emitted n new.outputs) number
    ∙ left_within d own ps new.emitted i line begin new.outputs p (outputs ∙ is) answer same
    ∙ ap (λ l. l ++ more) (emitted_is d new.emitted i line begin end (provision_end i p) left ∙ ap (λ n. progress d new.emitted n ++ emits n) occupied)))

-- no progress comes before the next
left_due : (d own : ℕ) (ps : List Provisioner) (emitted i line begin when : ℕ) (outputs : Option ℕ) (p : Provisioner)
    → outputs ≡ Some line → Some p ≡ slice_get ps i → begin ≡ since own ps i
    → when ≡ due emitted begin (begin + p.seconds) (drop line p.output) → progress d emitted when ≡ []
    → left_at d own ps emitted i outputs
    ≡ rest_at d when i line begin (begin + p.seconds) (provision_end i p) (drop line p.output) ++ along d (begin + p.seconds) (i + 1) (begin + p.seconds) (drop (i + 1) ps)
left_due d own ps emitted i line begin when outputs p is answer same at none =
    let end = begin + p.seconds in
    let left = drop line p.output in
    let emits : ℕ → List (ℕ × What) = λ n. rest_at d n i line begin end (provision_end i p) left in
    left_within d own ps emitted i line begin outputs p is answer same
    ∙ ap (λ l. l ++ along d end (i + 1) end (drop (i + 1) ps))
    (emitted_is d emitted i line begin end (provision_end i p) left ∙ ap (λ n. progress d emitted n ++ emits n) (sym at) ∙ ap (λ l. l ++ emits when) none)

run_emits : (d own : ℕ) (ps : List Provisioner) (emitted i line begin when : ℕ) (outputs : Option ℕ) (p : Provisioner)
    → outputs ≡ Some line → Some p ≡ slice_get ps i → begin ≡ since own ps i
    → when ≡ due emitted begin (begin + p.seconds) (drop line p.output) → progress d emitted when ≡ [] → line < length p.output
    → left_at d own ps emitted i outputs ≡ (when, ProvisionOutput i line) ∷ left_at d own ps when i (Some (line + 1))
run_emits d own ps emitted i line begin when outputs p is answer same at none less =
    let end = begin + p.seconds in
    let next = first_left p.output line less in
    let more = along d end (i + 1) end (drop (i + 1) ps) in
    left_due d own ps emitted i line begin when outputs p is answer same at none
    ∙ ap (λ left. rest_at d when i line begin end (provision_end i p) left ++ more) next.1
    ∙ ap (λ l. (when, ProvisionOutput i line) ∷ l) (sym (left_within d own ps when i (line + 1) begin (Some (line + 1)) p refl answer same))

run_ends : (d own : ℕ) (ps : List Provisioner) (emitted i line begin when : ℕ) (outputs : Option ℕ) (p : Provisioner)
    → outputs ≡ Some line → Some p ≡ slice_get ps i → begin ≡ since own ps i
    → when ≡ due emitted begin (begin + p.seconds) (drop line p.output) → progress d emitted when ≡ [] → length p.output ≤ line
    → left_at d own ps emitted i outputs ≡ (when, provision_end i p) ∷ left_at d own ps when (i + 1) None
run_ends d own ps emitted i line begin when outputs p is answer same at none all =
    let end = begin + p.seconds in
    let past : drop line p.output ≡ [] = drop_all line p.output all in
    let last : when ≡ end = at ∙ ap (λ left. due emitted begin end left) past in
    let next : since own ps (i + 1) ≡ end = since_more own ps i p (sym answer) ∙ ap (λ n. n + p.seconds) (sym same) in
    left_due d own ps emitted i line begin when outputs p is answer same at none
    ∙ ap (λ left. rest_at d when i line begin end (provision_end i p) left ++ along d end (i + 1) end (drop (i + 1) ps)) past
    ∙ ap (λ l. (when, provision_end i p) ∷ l) (rw (last, next) refl)

pub run_emits_now : (d own : ℕ) (ps : List Provisioner) (old m : MidStep) (line begin when : ℕ) (p : Provisioner)
    → m ≡ old → old.outputs ≡ Some line → Some p ≡ slice_get ps old.provisioner → begin ≡ since own ps old.provisioner
    → when ≡ due old.emitted begin (begin + p.seconds) (drop line p.output) → progress d old.emitted when ≡ [] → line < length p.output
    → left_of d own ps old ≡ (when, ProvisionOutput m.provisioner line) ∷ left_at d own ps when m.provisioner (Some (line + 1))
run_emits_now d own ps old m line begin when p occupied is answer same at none less =
    subst (λ (x : MidStep). left_of d own ps old ≡ (when, ProvisionOutput x.provisioner line) ∷ left_at d own ps when x.provisioner (Some (line + 1))) (sym occupied)
    (run_emits d own ps old.emitted old.provisioner line begin when old.outputs p is answer same at none less)

pub run_ends_now : (d own : ℕ) (ps : List Provisioner) (old m : MidStep) (line begin when : ℕ) (p : Provisioner)
    → m ≡ old → old.outputs ≡ Some line → Some p ≡ slice_get ps old.provisioner → begin ≡ since own ps old.provisioner
    → when ≡ due old.emitted begin (begin + p.seconds) (drop line p.output) → progress d old.emitted when ≡ [] → length p.output ≤ line
    → left_of d own ps old ≡ (when, provision_end m.provisioner p) ∷ left_at d own ps when (m.provisioner + 1) None
run_ends_now d own ps old m line begin when p occupied is answer same at none all =
    subst (λ (x : MidStep). left_of d own ps old ≡ (when, provision_end x.provisioner p) ∷ left_at d own ps when (x.provisioner + 1) None) (sym occupied)
    (run_ends d own ps old.emitted old.provisioner line begin when old.outputs p is answer same at none all)

pub run_in_time : (d own : ℕ) (ps : List Provisioner) (i begin : ℕ) (p : Provisioner)
    → Some p ≡ slice_get ps i → own + seconds_of_all ps ≤ d → begin ≡ since own ps i → begin + p.seconds ≤ d
run_in_time d own ps i begin p answer whole same = let ends = ends_in_time own ps i p (sym answer) in (omega arith)

-- ---- a step that no script states

drop-nil : (i : ℕ) → drop {A = Provisioner} i [] ≡ []
drop-nil zero = refl
drop-nil (suc i) = refl

-- ---- the provisioners that run are the first of all

pub ran_few : (ps : List Provisioner) → length (ran ps) ≤ length ps
ran_few [] = omega arith
ran_few (p ∷ ps) =
    let rest = ran_few ps in
    elim (makes_fail p) as (λ b. suc (length (cond b [] (ran ps))) ≤ suc (length ps)) [ true ↦ omega arith | false ↦ omega arith ]

pub ran_get : (ps : List Provisioner) (k : ℕ) → k < length (ran ps) → slice_get (ran ps) k ≡ slice_get ps k
ran_get [] k less = absurd (omega arith)
ran_get (p ∷ ps) zero less = refl
ran_get (p ∷ ps) (suc k) less =
    elim (makes_fail p) as (λ b. suc k < suc (length (cond b [] (ran ps))) → slice_get (cond b [] (ran ps)) k ≡ slice_get ps k)
    [ true ↦ λ l. absurd (omega arith) | false ↦ λ l. ran_get ps k (omega arith) ] less

-- the provisioner that a loop over those that run is at
pub ran_at : (ps : List Provisioner) (k : ℕ) (p : Provisioner) → k < length (ran ps) → Some p ≡ slice_get ps k → slice_get (ran ps) k ≡ Some p
ran_at ps k p less answer = ran_get ps k less ∙ sym answer

-- they take no longer than all
pub ran_short : (ps : List Provisioner) → seconds_of_all (ran ps) ≤ seconds_of_all ps
ran_short [] = omega arith
ran_short (p ∷ ps) =
    let rest = ran_short ps in
    let whole = sum_by-cons (λ (q : Provisioner). q.seconds) p ps in
    elim (makes_fail p) as (λ b. seconds_of_all (p ∷ cond b [] (ran ps)) ≤ seconds_of_all (p ∷ ps)) [
      | true ↦ (let one = sum_by-cons (λ (q : Provisioner). q.seconds) p [] in omega arith)
      | false ↦ (let one = sum_by-cons (λ (q : Provisioner). q.seconds) p (ran ps) in omega arith)
    ]

-- what holds of all holds of them
pub ran_all : (P : Provisioner → Type 0) (ps : List Provisioner) → All P ps → All P (ran ps)
ran_all P [] all = All-nil P
ran_all P (p ∷ ps) all =
    All-cons P p (cond (makes_fail p) [] (ran ps)) (All-head P p ps all)
    (elim (makes_fail p) as (λ b. All P (cond b [] (ran ps))) [ true ↦ All-nil P | false ↦ ran_all P ps (All-tail P p ps all) ])

-- ---- a step takes no longer than its provider and all provisioners

takes : (first stopped : Bool) (own ran all : ℕ) → ran ≤ all → cond first 0 own + ran + cond (first && not stopped) own 0 ≤ own + all
takes true true own ran all less = omega arith
takes true false own ran all less = omega arith
takes false stopped own ran all less = omega arith

pub took_short : (kind : StepKind) (outcome : Outcome) → took kind outcome ≤ seconds_in_all outcome
took_short kind outcome =
    takes (is_kind Delete kind) (list_any makes_fail outcome.provisioners) outcome.seconds (seconds_of_all (ran outcome.provisioners)) (seconds_of_all outcome.provisioners)
    (ran_short outcome.provisioners)

-- the provider before its provisioners, and these, take no longer than the step
pub before_whole : (kind : StepKind) (outcome : Outcome) → seconds_before kind outcome + seconds_of_all (ran outcome.provisioners) ≤ took kind outcome
before_whole kind outcome = omega arith
