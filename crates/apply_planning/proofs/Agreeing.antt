-- An object waits for names until all steps that it waits for are done, and is ready at the same
-- time.
use Rattle.std.proofs.Common.{◌≡◌, ℕ, zero, suc, ◌+◌, ◌<◌, ◌≤◌, Bool, true, false, ◌&&◌, List, [], ◌∷◌, Option, Some, None, cond, length, not, refl, sym, ap, ◌∙◌, subst, ⊎_elim, arith, eqb, eq-eqb}
use Rattle.std.specs.Prelude.{option_map, option_to_list, slice_get}
use Rattle.std.specs.List.{Contains, list_any}
use Rattle.std.specs.Str.{bytes_eq}
use Rattle.std.proofs.lemmas.Bool.{and_parts, cases_Bool, cases_lt, true≢false}
use Rattle.std.proofs.lemmas.Option.{get_or_from_slice_get, slice_get-map, slice_get_within}
use Rattle.apply_model.specs.declared.script.wait.Wait.{Wait}
use Rattle.apply_events.specs.declared.lanes.lane_time.LaneTime.{LaneTime}
use Rattle.apply_events.specs.Waits.LaneTime.{IsNoLater, first_lane_time, later_of, next_round}
use Rattle.apply_events.specs.Waits.Queue.{later_round_if, none_done, missing_count, missing_if, ready_round_of}
use Rattle.apply_events.proofs.Waits.Followers.{from_test, wait_is}
use Rattle.apply_events.proofs.Waits.Members.{any_in, flat_map_in, in_any, in_cases, in_flat_map, in_head, in_tail, not_in_none}
use Rattle.apply_events.proofs.Waits.Standing.{beyond}
use Rattle.apply_events.proofs.Waits.Moments.{first_no_later, later_no_later, no_later_both, no_later_on, second_no_later}
use Rattle.apply_planning.specs.declared.pending_names.PendingNames.{PendingNames}
use Rattle.apply_planning.specs.declared.told.Told.{Told}
use Rattle.apply_planning.specs.Names.{first_named, name_wait, name_waits, names_of, waits_by}
use Rattle.apply_planning.specs.PendingNames.{ArePending, NoneDone, WasDone, name_at, named_done, owner_at, pending_count}
use Rattle.apply_planning.specs.PlanningWork.{is_needed, waits_from}
use Rattle.apply_planning.proofs.Closed.{owner_known}
use Rattle.apply_planning.proofs.Counted.{all_done, none_pending}
use Rattle.apply_planning.proofs.PlannedWork.{object_at}
use Rattle.apply_planning.proofs.Numbered.{bytes_same, first_is, named_at, other_bytes, same_bytes}

-- ---- when some steps are all done

all_known : (done : Wait → Option LaneTime) (names : List Wait) (x : Wait) → missing_count done names ≡ 0 → Contains names x → (m : LaneTime) × (done x ≡ Some m)
all_known done [] x none there = absurd (not_in_none x there)
all_known done (name ∷ names) x none there = ⊎_elim
    (λ (same : name ≡ x). by_answer (done name) (ap done (sym same)) (omega arith))
    (λ (later : Contains names x). all_known done names x (omega arith) later)
    (in_cases name names x there)
  where
    by_answer : (answer : Option LaneTime) → done x ≡ answer → missing_if answer ≡ 0 → (m : LaneTime) × (done x ≡ Some m)
    by_answer None is none = absurd (omega arith)
    by_answer (Some m) is none = (m, is)

none_missing : (done : Wait → Option LaneTime) (names : List Wait) → ((x : Wait) → Contains names x → (m : LaneTime) × (done x ≡ Some m)) → missing_count done names ≡ 0
none_missing done [] each = refl
none_missing done (name ∷ names) each =
    let here = ap missing_if (each name (in_head name names)).1 in
    let rest = none_missing done names (λ x there. each x (in_tail name names x there)) in omega arith

round_after : (done : Wait → Option LaneTime) (names : List Wait) (x : Wait) (m : LaneTime) → Contains names x → done x ≡ Some m → IsNoLater (next_round m) (ready_round_of done names)
round_after done [] x m there is = absurd (not_in_none x there)
round_after done (name ∷ names) x m there is = ⊎_elim
    (λ (same : name ≡ x).
    subst (λ o. IsNoLater (next_round m) (later_round_if o (ready_round_of done names))) (sym (ap done same ∙ is)) (first_no_later (next_round m) (ready_round_of done names)))
    (λ (later : Contains names x). grows (done name) (ready_round_of done names) (round_after done names x m later is))
    (in_cases name names x there)
  where
    grows : (answer : Option LaneTime) (at : LaneTime) → IsNoLater (next_round m) at → IsNoLater (next_round m) (later_round_if answer at)
    grows None at low = low
    grows (Some other) at low = no_later_on (next_round m) at (later_of (next_round other) at) low (second_no_later (next_round other) at)

round_within : (done : Wait → Option LaneTime) (names : List Wait) (at : LaneTime) → ((x : Wait) (m : LaneTime) → Contains names x → done x ≡ Some m → IsNoLater (next_round m) at) → IsNoLater (ready_round_of done names) at
round_within done [] at each = (omega arith, λ _. omega arith)
round_within done (name ∷ names) at each =
    by_answer (done name) refl (ready_round_of done names) (round_within done names at (λ x m there. each x m (in_tail name names x there)))
  where
    by_answer : (answer : Option LaneTime) → done name ≡ answer → (rest : LaneTime) → IsNoLater rest at → IsNoLater (later_round_if answer rest) at
    by_answer None is rest low = low
    by_answer (Some m) is rest low = later_no_later (next_round m) rest at (each name m (in_head name names) is) low

next_no_later : (a b : LaneTime) → IsNoLater a b → IsNoLater (next_round a) (next_round b)
next_no_later a b le = let low = le.0 in (low, λ same. (let round = le.1 same in omega arith))

-- ---- the names that an object waits for

pub names_in : (number : List ℕ → Option ℕ) (one : Told) (x : Wait) → Contains (name_waits number one) x
    → (name : List ℕ) × Contains one.depends_on.items name × (bytes_eq name one.name ≡ false) × (number name ≡ Some x.change) × (x.step ≡ 0)
names_in number one x there =
    let answer = flat_map_in (waits_by number one.name) one.depends_on.items x there in
    let rest = by_test (bytes_eq answer.0 one.name) (number answer.0) answer.2 in
    (answer.0, answer.1, rest.0, rest.1, rest.2)
  where
    by_number : (found : Option ℕ) → Contains (option_to_list (option_map name_wait found)) x → (found ≡ Some x.change) × (x.step ≡ 0)
    by_number None inside = absurd (not_in_none x inside)
    by_number (Some k) inside = ⊎_elim
        (λ (same : name_wait k ≡ x). (ap (λ (y : Wait). Some y.change) same, sym (ap (λ (y : Wait). y.step) same)))
        (λ (later : Contains [] x). absurd (not_in_none x later))
        (in_cases (name_wait k) [] x inside)

    by_test : (t : Bool) (found : Option ℕ) → Contains (cond t [] (option_to_list (option_map name_wait found))) x → (t ≡ false) × (found ≡ Some x.change) × (x.step ≡ 0)
    by_test true found inside = absurd (not_in_none x inside)
    by_test false found inside = let both = by_number found inside in (refl, both.0, both.1)

pub in_names : (number : List ℕ → Option ℕ) (one : Told) (name : List ℕ) (k : ℕ) → Contains one.depends_on.items name → bytes_eq name one.name ≡ false → number name ≡ Some k → Contains (name_waits number one) (name_wait k)
in_names number one name k there differ is =
    in_flat_map (waits_by number one.name) one.depends_on.items name (name_wait k) there
    (subst (λ l. Contains l (name_wait k)) (sym (ap (λ t. cond t [] (option_to_list (option_map name_wait (number name)))) differ ∙ ap (λ o. option_to_list (option_map name_wait o)) is))
    (in_head (name_wait k) []))

-- ---- the steps that an object waits for

pub steps_in : (others : List Told) (one : Told) (first : ℕ) (x : Wait) → Contains (waits_from first others one) x
    → (other : Told) × (c : ℕ) × (slice_get others c ≡ Some other) × (x ≡ name_wait (first + c)) × (is_needed one other ≡ true)
steps_in [] one first x there = absurd (not_in_none x there)
steps_in (other ∷ others) one first x there = ⊎_elim
    (λ (needed : is_needed one other ≡ true). ⊎_elim
    (λ (same : name_wait first ≡ x).
    let here : first ≡ first + 0 = omega arith in (other, 0, refl, sym same ∙ ap name_wait here, needed))
    (λ (later : Contains (waits_from (first + 1) others one) x). on (steps_in others one (first + 1) x later))
    (in_cases (name_wait first) (waits_from (first + 1) others one) x
    (subst (λ l. Contains l x) (ap (λ t. cond t (name_wait first ∷ waits_from (first + 1) others one) (waits_from (first + 1) others one)) needed) there)))
    (λ (not_needed : is_needed one other ≡ false).
    on (steps_in others one (first + 1) x
    (subst (λ l. Contains l x) (ap (λ t. cond t (name_wait first ∷ waits_from (first + 1) others one) (waits_from (first + 1) others one)) not_needed) there)))
    (cases_Bool (is_needed one other))
  where
    on : ((o : Told) × (c : ℕ) × (slice_get others c ≡ Some o) × (x ≡ name_wait (first + 1 + c)) × (is_needed one o ≡ true))
        → (o : Told) × (c : ℕ) × (slice_get (other ∷ others) c ≡ Some o) × (x ≡ name_wait (first + c)) × (is_needed one o ≡ true)
    on rest = let place : first + 1 + rest.1 ≡ first + suc rest.1 = omega arith in (rest.0, suc rest.1, rest.2, rest.3 ∙ ap name_wait place, rest.4)

pub in_steps : (others : List Told) (one : Told) (first c : ℕ) (other : Told) → slice_get others c ≡ Some other → is_needed one other ≡ true → Contains (waits_from first others one) (name_wait (first + c))
in_steps [] one first c other is needed = absurd cc
in_steps (x ∷ others) one first zero other is needed =
    let same : x ≡ other = cc in
    let here : first ≡ first + 0 = omega arith in
    subst (λ k. Contains (waits_from first (x ∷ others) one) (name_wait k)) here
    (subst (λ l. Contains l (name_wait first)) (sym (ap (λ t. cond t (name_wait first ∷ waits_from (first + 1) others one) (waits_from (first + 1) others one)) (ap (is_needed one) same ∙ needed)))
    (in_head (name_wait first) (waits_from (first + 1) others one)))
in_steps (x ∷ others) one first (suc c) other is needed =
    let place : first + 1 + c ≡ first + suc c = omega arith in
    let rest = subst (λ k. Contains (waits_from (first + 1) others one) (name_wait k)) place (in_steps others one (first + 1) c other is needed) in
    by_test (is_needed one x) rest
  where
    by_test : (t : Bool) → Contains (waits_from (first + 1) others one) (name_wait (first + suc c))
        → Contains (cond t (name_wait first ∷ waits_from (first + 1) others one) (waits_from (first + 1) others one)) (name_wait (first + suc c))
    by_test true inside = in_tail (name_wait first) (waits_from (first + 1) others one) (name_wait (first + suc c)) inside
    by_test false inside = inside

-- what a done name means
pub named_is : (pending : PendingNames) (x : Wait) (m : LaneTime) → named_done pending x ≡ Some m
    → ((name_at pending.names.items x.change).pending ≡ 0) × ((name_at pending.names.items x.change).at ≡ m) × (owner_at pending.owners.items x.change ≡ x.change)
named_is pending x m is = by_tests (eqb x.step 0) (eqb (owner_at pending.owners.items x.change) x.change) (eqb (name_at pending.names.items x.change).pending 0) refl refl is
  where
    by_tests : (t u v : Bool) → eqb (owner_at pending.owners.items x.change) x.change ≡ u → eqb (name_at pending.names.items x.change).pending 0 ≡ v
        → cond (t && u && v) (Some (name_at pending.names.items x.change).at) None ≡ Some m
        → ((name_at pending.names.items x.change).pending ≡ 0) × ((name_at pending.names.items x.change).at ≡ m) × (owner_at pending.owners.items x.change ≡ x.change)
    by_tests true true true owns same is = (from_test (name_at pending.names.items x.change).pending 0 same, cc, from_test (owner_at pending.owners.items x.change) x.change owns)
    by_tests true true false owns same is = absurd cc
    by_tests true false v owns same is = absurd cc
    by_tests false u v owns same is = absurd cc

-- at first no name is done
pub none_named : (told : List Told) (pending : PendingNames) → ArePending told none_done pending → (x : Wait) → none_done x ≡ named_done pending x
none_named told pending h x = by_answer (named_done pending x) refl
  where
    not_none : ((m : LaneTime) × (none_done x ≡ Some m)) → ⊥
    not_none some = let is : None ≡ Some some.0 = some.1 in cc

    by_answer : (answer : Option LaneTime) → named_done pending x ≡ answer → None ≡ answer
    by_answer None is = refl
    by_answer (Some m) is =
        let its = named_is pending x m is in
        let owners = h.owners in ⊎_elim
        (λ (lt : x.change < length told).
        absurd (not_none (none_pending pending.owners.items none_done x.change (length told) x.change (sym (h.count x.change lt) ∙ its.0) lt its.2)))
        (λ (ge : length told ≤ x.change).
        let none : owner_at pending.owners.items x.change ≡ x.change + 1 = beyond pending.owners.items x.change (x.change + 1) (omega arith) in
        let its_own = its.2 in absurd (omega arith))
        (cases_lt x.change (length told))

-- ---- both

name_of : (told : List Told) (c : ℕ) (other : Told) → slice_get told c ≡ Some other → named_at told c ≡ other.name
name_of told c other is = get_or_from_slice_get (names_of told) c other.name [] (slice_get-map (λ (x : Told). x.name) told c ∙ ap (option_map (λ (x : Told). x.name)) is)

not_on : (t : Bool) → not t ≡ true → t ≡ false
not_on true is = absurd cc
not_on false is = refl

module _ (told : List Told) (done : Wait → Option LaneTime) (pending : PendingNames) (h : ArePending told done pending)
    (number : List ℕ → Option ℕ) (numbers : (name : List ℕ) → number name ≡ first_named told name) (one : Told) where
  abbrev owners : List ℕ
  owners = pending.owners.items

  abbrev names : List Wait
  names = name_waits number one

  abbrev steps : List Wait
  steps = waits_from 0 told one

  -- a step that the object waits for is of an object whose name it waits for
  record IsOfName (x : Wait) : Type 0 where
    pub c : ℕ
    pub is : x ≡ name_wait c
    pub known : c < length told
    pub waited : Contains names (name_wait (owner_at owners c))

  of_name : (x : Wait) → Contains steps x → IsOfName x
  of_name x there =
      let found = steps_in told one 0 x there in
      let other = found.0 in let c = found.1 in
      let known = slice_get_within told c other found.2 in
      let both = and_parts (list_any (λ name. bytes_eq name other.name) one.depends_on.items) (not (bytes_eq one.name other.name)) found.4 in
      let any = in_any (λ name. bytes_eq name other.name) one.depends_on.items both.0 in
      let name : any.0 ≡ other.name = bytes_same any.0 other.name any.2 in
      let place : 0 + c ≡ c = omega arith in
      let apart : bytes_eq any.0 one.name ≡ false = other_bytes any.0 one.name (λ same. true≢false (sym (same_bytes one.name other.name (sym same ∙ name)) ∙ not_on (bytes_eq one.name other.name) both.1)) in
      record {
        c = c;
        is = found.3 ∙ ap name_wait place;
        known = known;
        waited = in_names number one any.0 (owner_at owners c) any.1 apart
            (numbers any.0 ∙ ap (first_named told) (name ∙ sym (name_of told c other found.2)) ∙ h.owner c known);
      }

  -- a name that the object waits for is that of some objects, and it waits for the step of each
  record IsName (x : Wait) : Type 0 where
    pub is : x ≡ name_wait x.change
    pub known : x.change < length told
    pub owns : owner_at owners x.change ≡ x.change
    pub waited : (c : ℕ) → c < length told → owner_at owners c ≡ x.change → Contains steps (name_wait c)

  is_name : (x : Wait) → Contains names x → IsName x
  is_name x there =
      let found = names_in number one x there in
      let name = found.0 in
      let first : first_named told name ≡ Some x.change = sym (numbers name) ∙ found.3 in
      let its = first_is told name x.change first in
      record {
        is = wait_is x (name_wait x.change) refl found.4;
        known = its.0;
        owns = some_same (owner_at owners x.change) x.change (sym (h.owner x.change its.0) ∙ ap (first_named told) its.1 ∙ first);
        waited = λ c lt owned. (
            let object = object_at told c lt in
            let other = object.0 in
            let again = first_is told (named_at told c) x.change (h.owner c lt ∙ ap Some owned) in
            let same : name ≡ other.name = sym its.1 ∙ again.1 ∙ name_of told c other object.1 in
            let place : 0 + c ≡ c = omega arith in
            let any = any_in (λ n. bytes_eq n other.name) one.depends_on.items name found.1 (same_bytes name other.name same) in
            let apart : bytes_eq one.name other.name ≡ false = other_bytes one.name other.name (λ is. true≢false (sym (same_bytes name one.name (same ∙ sym is)) ∙ found.2)) in
            subst (λ k. Contains steps (name_wait k)) place
            (in_steps told one 0 c other object.1 (ap (λ t. t && not (bytes_eq one.name other.name)) any ∙ ap not apart)));
      }
    where
      some_same : (a b : ℕ) → Some a ≡ Some b → a ≡ b
      some_same a b is = cc

  -- the names are done where the steps are
  names_after : missing_count done steps ≡ 0 → missing_count (named_done pending) names ≡ 0
  names_after none = none_missing (named_done pending) names (λ x there.
      (let name = is_name x there in
      let all : pending_count owners done x.change (length told) ≡ 0 = all_done owners done x.change (length told) (λ c lt owned. all_known done steps (name_wait c) none (name.waited c lt owned)) in
      let empty : (name_at pending.names.items x.change).pending ≡ 0 = h.count x.change name.known ∙ all in
      ((name_at pending.names.items x.change).at, name_is_done x name empty)))
    where
      name_is_done : (x : Wait) → IsName x → (name_at pending.names.items x.change).pending ≡ 0 → named_done pending x ≡ Some (name_at pending.names.items x.change).at
      name_is_done x name empty =
          ap (λ t. cond (t && eqb (owner_at owners x.change) x.change && eqb (name_at pending.names.items x.change).pending 0) (Some (name_at pending.names.items x.change).at) None) (eq-eqb x.step 0 (ap (λ (y : Wait). y.step) name.is))
          ∙ ap (λ t. cond (t && eqb (name_at pending.names.items x.change).pending 0) (Some (name_at pending.names.items x.change).at) None) (eq-eqb (owner_at owners x.change) x.change name.owns)
          ∙ ap (λ t. cond t (Some (name_at pending.names.items x.change).at) None) (eq-eqb (name_at pending.names.items x.change).pending 0 empty)

  -- each step is done where the names are, no later than its name
  pub step_done : missing_count (named_done pending) names ≡ 0 → (x : Wait) → Contains steps x → (m : LaneTime) × (done x ≡ Some m) × IsNoLater (next_round m) (ready_round_of (named_done pending) names)
  step_done none x there =
      let step = of_name x there in
      let k = owner_at owners step.c in
      let name = all_known (named_done pending) names (name_wait k) none step.waited in
      let its = named_is pending (name_wait k) name.0 name.1 in
      let known = owner_known told done pending h step.c step.known in
      let m = none_pending owners done k (length told) step.c (sym (h.count k known) ∙ its.0) step.known refl in
      let low = h.late k step.c m.0 step.known refl m.1 in (
        m.0,
        ap done step.is ∙ m.1,
        no_later_on (next_round m.0) (next_round name.0) (ready_round_of (named_done pending) names)
            (next_no_later m.0 name.0 (subst (IsNoLater m.0) its.1 low))
            (round_after (named_done pending) names (name_wait k) name.0 step.waited name.1),
      )

  steps_after : missing_count (named_done pending) names ≡ 0 → missing_count done steps ≡ 0
  steps_after none = none_missing done steps (λ x there. (let m = step_done none x there in (m.0, m.1)))

  -- and the object is ready at the same time
  name_low : missing_count done steps ≡ 0 → (x : Wait) (m : LaneTime) → Contains names x → named_done pending x ≡ Some m → IsNoLater (next_round m) (ready_round_of done steps)
  name_low none x m there is =
      let name = is_name x there in
      let its = named_is pending x m is in ⊎_elim
      (λ (was : WasDone owners done x.change (name_at pending.names.items x.change).at).
      let size = h.owners in
      let lt : was.0 < length told = let less = was.1 in omega arith in
      round_after done steps (name_wait was.0) m (name.waited was.0 lt was.2) (was.3 ∙ ap Some its.1))
      (λ (never : ((name_at pending.names.items x.change).at ≡ first_lane_time) × NoneDone owners done x.change).
      let size = h.owners in
      let known = name.known in
      let some = all_known done steps (name_wait x.change) none (name.waited x.change name.known name.owns) in
      absurd (not_none some.0 (sym (never.1 x.change (omega arith) name.owns) ∙ some.1)))
      (h.met x.change name.known)
    where
      not_none : (m : LaneTime) → None ≡ Some m → ⊥
      not_none m is = cc

  pub same_round : missing_count done steps ≡ 0 → ready_round_of (named_done pending) names ≡ ready_round_of done steps
  same_round none =
      let both = names_after none in
      no_later_both (ready_round_of (named_done pending) names) (ready_round_of done steps)
      (round_within (named_done pending) names (ready_round_of done steps) (name_low none))
      (round_within done steps (ready_round_of (named_done pending) names) (λ x m there is.
      (let low = step_done both x there in
      subst (λ y. IsNoLater (next_round y) (ready_round_of (named_done pending) names)) (some_is low.0 m (sym low.1 ∙ is)) low.2)))
    where
      some_is : (a b : LaneTime) → Some a ≡ Some b → a ≡ b
      some_is a b is = cc

  pub agree : ((missing_count done steps ≡ 0) → missing_count (named_done pending) names ≡ 0) × ((missing_count (named_done pending) names ≡ 0) → missing_count done steps ≡ 0)
  agree = (names_after, steps_after)
