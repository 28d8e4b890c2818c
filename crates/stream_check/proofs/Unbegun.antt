-- The planned creates that have not begun, message by message.
use Rattle.std.proofs.Common.{◌≡◌, ℕ, ◌+◌, List, [], ◌∷◌, length, Bool, true, false, cond, Option, Some, None, refl, ap, ◌∙◌, ⊎_elim, unwrap_or}
use Rattle.std.specs.Prelude.{◌&&◌, ◌||◌, ◌==◌, is_some, IsSome}
use Rattle.std.specs.List.{list_any}
use Rattle.std.specs.Option.{option_map_or}
use Rattle.std.specs.Str.{bytes_eq}
use Rattle.std.proofs.lemmas.Bool.{cases_Bool}
use Rattle.std.proofs.lemmas.Slice.Eq.{bytes_eq-Decides}
use Rattle.stream_check.specs.declared.messages.action.Action.{Action}
use Rattle.stream_check.specs.declared.messages.intent.Intent.{Intent}
use Rattle.stream_check.specs.declared.messages.timed_stage.TimedStage.{TimedStage}
use Rattle.stream_check.specs.declared.rules.address_state.AddressState.{AddressState}
use Rattle.stream_check.specs.declared.rules.open_entry.OpenKind.TheVariants.{Create}
use Rattle.stream_check.specs.declared.rules.pending.Pending.{Pending}
use Rattle.stream_message.specs.declared.stage.Stage.{Stage}
use Rattle.stream_check.specs.AddressState.{idle, unless_idle}
use Rattle.stream_check.specs.Intents.{creates}
use Rattle.stream_check.specs.Message.{Message, version, step, provision, planned, plan_summary, summary, diagnostic, outputs, other, foreign}
use Rattle.stream_check.specs.Open.{stands_open}
use Rattle.stream_check.specs.Tallied.{awaits_create, tally_of}
use Rattle.stream_check.specs.Tally.{begun_totals}
use Rattle.stream_check.specs.Unbegun.{any_unbegun, awaiting, begun_state, is_unbegun, one_begun, one_planned, planned_address, planned_state, starts_create, unbegun_after, unbegun_at}
use Rattle.stream_check.specs.Unended.{open_step, opens_of}

-- ---- the stored state

abbrev stored : Option Pending → Option AddressState
stored waiting = unless_idle (awaiting waiting)

begun_is : (w : Option Pending) → begun_state (stored w) ≡ stored (one_begun w)
begun_is None = refl
begun_is (Some p) = refl

waiting_there : (w : Option Pending) → (unwrap_or (stored w) idle).create ≡ w
waiting_there None = refl
waiting_there (Some p) = refl

-- a stored state stands open where a create waits
pub stands_where : (w : Option Pending) → stands_open false false (unwrap_or (stored w) idle) ≡ is_some w
stands_where None = refl
stands_where (Some p) = refl

pub entry_where : (a : List ℕ) (w : Option Pending) → opens_of false false a (unwrap_or (stored w) idle) ≡ open_step a Create w
entry_where a None = refl
entry_where a (Some p) = refl

pub found_where : (w : Option Pending) → is_some w ≡ true → IsSome (stored w)
found_where None e = absurd cc
found_where (Some p) e = refl

-- ---- one message more

and_right : (x y : Bool) → (x && y) ≡ true → y ≡ true
and_right true y e = e
and_right false y e = absurd cc

-- what the map has after a step
pub stepped : (old new : List ℕ → Option AddressState) (a : List ℕ) (k : Action) (stage : TimedStage) (ms : List Message) → ((b : List ℕ) → old b ≡ stored (unbegun_at b ms))
    → ((b : List ℕ) → new b ≡ cond (starts_create stage k && bytes_eq a b) (begun_state (old a)) (old b)) → (b : List ℕ) → new b ≡ stored (unbegun_at b (step a k stage ∷ ms))
unfolding unbegun_at
stepped old new a k stage ms before changes b =
    changes b
    ∙ ⊎_elim
    (λ (yes : (starts_create stage k && bytes_eq a b) ≡ true).
    let same : a ≡ b = (bytes_eq-Decides a b).0 (and_right (starts_create stage k) (bytes_eq a b) yes) in
    rw yes (ap begun_state (before a) ∙ begun_is (unbegun_at a ms) ∙ ap (λ (x : List ℕ). stored (one_begun (unbegun_at x ms))) same))
    (λ (no : (starts_create stage k && bytes_eq a b) ≡ false). rw no (before b))
    (cases_Bool (starts_create stage k && bytes_eq a b))

pub provision_waits : (a : List ℕ) (stage : Stage) (ms : List Message) (b : List ℕ) → unbegun_at b (provision a stage ∷ ms) ≡ unbegun_at b ms
unfolding unbegun_at
provision_waits a stage ms b = refl

pub diagnostic_waits : (is_error : Bool) (o : Option (List ℕ)) (ms : List Message) (b : List ℕ) → unbegun_at b (diagnostic is_error o ∷ ms) ≡ unbegun_at b ms
unfolding unbegun_at
diagnostic_waits is_error o ms b = refl

-- what the map has after a planned change
pub planned_waits : (old : List ℕ → Option AddressState) (i : Intent) (o : Option (List ℕ)) (ms : List Message) → ((b : List ℕ) → old b ≡ stored (unbegun_at b ms))
    → (b : List ℕ) → planned_state (awaits_create i (tally_of ms)) (length ms + 1) o old b ≡ stored (unbegun_at b (planned i o ∷ ms))
unfolding unbegun_at
planned_waits old i None ms before b = before b
planned_waits old i (Some a) ms before b =
    ⊎_elim
    (λ (yes : (awaits_create i (tally_of ms) && bytes_eq a b) ≡ true).
    let same : a ≡ b = (bytes_eq-Decides a b).0 (and_right (awaits_create i (tally_of ms)) (bytes_eq a b) yes) in
    let there : (unwrap_or (old a) idle).create ≡ unbegun_at a ms = ap (λ (s : Option AddressState). (unwrap_or s idle).create) (before a) ∙ waiting_there (unbegun_at a ms) in
    rw yes (ap (λ (w : Option Pending). stored (Some (one_planned (length ms + 1) w))) there ∙ ap (λ (x : List ℕ). stored (Some (one_planned (length ms + 1) (unbegun_at x ms)))) same))
    (λ (no : (awaits_create i (tally_of ms) && bytes_eq a b) ≡ false). rw no (before b))
    (cases_Bool (awaits_create i (tally_of ms) && bytes_eq a b))

-- ---- some planned create waits

abbrev plans_at : List ℕ → Message → Bool
plans_at a m = option_map_or (λ b. bytes_eq b a) (planned_address m) false

none_about : (all : List Message) → ((a : List ℕ) → is_some (unbegun_at a all) ≡ false) → (o : Option (List ℕ)) → option_map_or (λ a. is_some (unbegun_at a all)) o false ≡ false
none_about all none None = refl
none_about all none (Some a) = none a

none_of : (all ms : List Message) → ((a : List ℕ) → is_some (unbegun_at a all) ≡ false) → list_any (is_unbegun all) ms ≡ false
none_of all [] none = refl
none_of all (m ∷ ms) none = rw (none_about all none (planned_address m), none_of all ms none) refl

pub none_waits : (all : List Message) → ((a : List ℕ) → is_some (unbegun_at a all) ≡ false) → any_unbegun all ≡ false
unfolding any_unbegun
none_waits all none = none_of all all none

-- a create that waits was planned
begun_waited : (w : Option Pending) → is_some (one_begun w) ≡ true → is_some w ≡ true
begun_waited None e = e
begun_waited (Some p) e = refl

step_waited : (begins : Bool) (w : Option Pending) → is_some (cond begins (one_begun w) w) ≡ true → is_some w ≡ true
step_waited true w e = begun_waited w e
step_waited false w e = e

plan_waited : (x y : Bool) (p : Pending) (w : Option Pending) → y ≡ false → is_some (cond (x && y) (Some p) w) ≡ true → is_some w ≡ true
plan_waited true true p w apart e = absurd cc
plan_waited true false p w apart e = e
plan_waited false y p w apart e = e

still_waits : (a : List ℕ) (line n : ℕ) (m : Message) (w : Option Pending) → plans_at a m ≡ false → is_some (unbegun_after a line n m w) ≡ true → is_some w ≡ true
still_waits a line n version w apart e = e
still_waits a line n (step b k stage) w apart e = step_waited (starts_create stage k && bytes_eq b a) w e
still_waits a line n (provision b stage) w apart e = e
still_waits a line n (planned i None) w apart e = e
still_waits a line n (planned i (Some b)) w apart e = plan_waited (creates i && n == 0) (bytes_eq b a) (one_planned line w) w apart e
still_waits a line n (plan_summary totals) w apart e = e
still_waits a line n (summary totals) w apart e = e
still_waits a line n (diagnostic b o) w apart e = e
still_waits a line n outputs w apart e = e
still_waits a line n other w apart e = e
still_waits a line n foreign w apart e = e

seen_about : (a : List ℕ) (all : List Message) (o : Option (List ℕ)) → option_map_or (λ b. bytes_eq b a) o false ≡ true → is_some (unbegun_at a all) ≡ true → option_map_or (λ b. is_some (unbegun_at b all)) o false ≡ true
seen_about a all None e there = absurd cc
seen_about a all (Some b) e there = ap (λ (x : List ℕ). is_some (unbegun_at x all)) ((bytes_eq-Decides b a).0 e) ∙ there

or_right : (x y : Bool) → y ≡ true → (x || y) ≡ true
or_right true y e = refl
or_right false y e = e

some_of : (a : List ℕ) (all ms : List Message) → is_some (unbegun_at a all) ≡ true → is_some (unbegun_at a ms) ≡ true → list_any (is_unbegun all) ms ≡ true
unfolding unbegun_at
some_of a all [] there e = absurd cc
some_of a all (m ∷ ms) there e =
    ⊎_elim
    (λ (yes : plans_at a m ≡ true). rw (seen_about a all (planned_address m) yes there) refl)
    (λ (no : plans_at a m ≡ false).
    or_right (is_unbegun all m) (list_any (is_unbegun all) ms)
    (some_of a all ms there (still_waits a (length ms + 1) (begun_totals ms).added m (unbegun_at a ms) no e)))
    (cases_Bool (plans_at a m))

pub some_waits : (all : List Message) (a : List ℕ) → is_some (unbegun_at a all) ≡ true → any_unbegun all ≡ true
unfolding any_unbegun
some_waits all a there = some_of a all all there there
