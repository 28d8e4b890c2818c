-- The checker accepts the messages of a planning. What it holds open then is what the told objects
-- have under way.
use Rattle.std.proofs.Common.{◌≡◌, ◌≢◌, ℕ, zero, suc, ◌+◌, ◌<◌, ◌≤◌, ◌==◌, List, [], ◌∷◌, ◌++◌, length, flat_map, Bool, true, false, cond, Option, Some, None, Result, Ok, Err, refl, sym, ap, ap₂, ◌∙◌, subst, ⊎_elim, is_some, count_by, arith, bytes_eq, slice_get, eq-eqb, ne_eqb}
use Rattle.std.specs.Prelude.{◌&&◌}
use Rattle.std.specs.List.{range_with_len}
use Rattle.std.specs.Option.{option_map_or}
use Rattle.std.proofs.Math.Bool.{and-false}
use Rattle.std.proofs.lemmas.Bool.{cases_eq, lt-ltb}
use Rattle.std.proofs.lemmas.List.Sums.{sum_by-cons}
use Rattle.std.proofs.lemmas.Option.{same_Some, slice_get_within}
use Rattle.apply_model.specs.declared.plan.mode.Mode.{Mode}
use Rattle.apply_model.specs.declared.plan.mode.Mode.TheVariants.{Managed, DataSource}
use Rattle.stream_check.specs.declared.messages.action.Action.{Action}
use Rattle.stream_check.specs.declared.messages.action.Action.TheVariants.{Create, Update, Delete, Read, Refresh}
use Rattle.stream_check.specs.declared.messages.timed_stage.TimedStage.{TimedStage}
use Rattle.stream_check.specs.declared.messages.timed_stage.TimedStage.TheVariants as stage
use Rattle.stream_check.specs.declared.rules.address_state.AddressState.{AddressState}
use Rattle.stream_check.specs.declared.rules.fault.Fault.{Fault}
use Rattle.stream_check.specs.declared.rules.fault.Fault.TheVariants.{StartsAgain, TooMany}
use Rattle.stream_check.specs.declared.rules.pending.Pending.{Pending}
use Rattle.stream_check.specs.declared.rules.pending.Pending.TheVariants.{One, Several}
use Rattle.stream_check.specs.AddressState.{pending_at, state_of, step_on}
use Rattle.stream_check.specs.Course.{after, begun, max_overlap, may_overlap}
use Rattle.stream_check.specs.Lines.{next}
use Rattle.stream_check.specs.Message.{Message, step, version}
use Rattle.stream_check.specs.Results.{◌>>=◌}
use Rattle.apply_events.specs.declared.event.Event.{Event}
use Rattle.apply_events.specs.declared.what.What.{What}
use Rattle.apply_events.specs.declared.what.What.TheVariants.{Start, Progress, Complete, Errored, ErrorNote, WarnNote, Halted, ProvisionStart, ProvisionOutput, ProvisionComplete, ProvisionErrored}
use Rattle.apply_planning.specs.declared.told.Told.{Told}
use Rattle.apply_planning.proofs.PlannedWork.{object_at}
use Rattle.laws_check.specs.Passing.{with_all}
use Rattle.laws_check.specs.WholeSteps.{events_of_change}
use Rattle.laws_check.proofs.Counting.{changed, counted, none_or_some, one_at_least, weight}
use Rattle.laws_check.proofs.Fitting.{Answers, MatchesPending, ends, fits_same, nothing_fits, tells}
use Rattle.laws_check.proofs.Moves.{by_address}
use Rattle.laws_check.proofs.Parts.{Each}
use Rattle.laws_check.proofs.Standings.{IsAmid, IsNoFailure, failures_same, next_step, pending_other, pending_same, provisioner_same, same_text, step_elsewhere, step_in, step_is, step_there}
use Rattle.laws_check.proofs.Turning.{followed_by, followed_by_both, joined}
use Rattle.laws_command_check.specs.FewTold.{is_told_at}
use Rattle.laws_command_check.specs.HeadReadBack.{planning_read_back, told_read_back}

abbrev fine : {A : Type 0} → A → Result A Fault
fine x = Ok x

-- ---- a refresh or a read begins, where few stand open

begun_alike : (k : Action) → may_overlap k ≡ true → (line : ℕ) (p : Option Pending) → begun k line p ≡ begun Delete line p
begun_alike k may line None = refl
begun_alike k may line (Some (One begin elapsed since)) = ap (λ (b : Bool). cond b (fine (Some (Several begin 2))) (Err (StartsAgain begin))) may
begun_alike k may line (Some (Several begin count)) = refl

begins_few : (limit c : ℕ) (h g : ℕ → Option ℕ) → c < limit → ((b : ℕ) → b ≢ c → g b ≡ h b) → (line : ℕ) (p : Option Pending) → h c ≡ None → g c ≡ Some 0 → counted g 0 limit ≤ max_overlap → MatchesPending limit Delete h p → Answers limit Delete g (begun Delete line p)
begins_few limit c h g known others line None old new few f =
    let all = changed h g c 0 limit others (omega arith) (omega arith) in
    let was : weight (h c) ≡ 0 = ap weight old in
    let is : weight (g c) ≡ 1 = ap weight new in (
      Some (One line 0 line),
      refl,
      (
        (let none : counted h 0 limit ≡ 0 = f in omega arith),
        λ b s less e. ⊎_elim
            (λ (here : b ≡ c). same_Some s 0 (sym e ∙ ap g here ∙ new))
            (λ elsewhere. absurd (let one = one_at_least h b limit s less (sym (others b elsewhere) ∙ e) in let none : counted h 0 limit ≡ 0 = f in omega arith))
            (cases_eq b c),
      ),
    )
begins_few limit c h g known others line (Some (One begin elapsed since)) old new few f =
    let all = changed h g c 0 limit others (omega arith) (omega arith) in
    let was : weight (h c) ≡ 0 = ap weight old in
    let is : weight (g c) ≡ 1 = ap weight new in
    let one : counted h 0 limit ≡ 1 = f.0 in
    (Some (Several begin 2), refl, (refl, omega arith, omega arith))
begins_few limit c h g known others line (Some (Several begin count)) old new few f =
    let all = changed h g c 0 limit others (omega arith) (omega arith) in
    let was : weight (h c) ≡ 0 = ap weight old in
    let is : weight (g c) ≡ 1 = ap weight new in
    let some : counted h 0 limit ≡ count = f.1 in
    let fewer : count < max_overlap = omega arith in
    (Some (Several begin (count + 1)), ap (λ b. cond b (fine (Some (Several begin (count + 1)))) (Err (TooMany begin))) (lt-ltb count max_overlap fewer), (refl, omega arith, omega arith))

-- ---- what the told objects have under way

-- the action of an object of that mode
abbrev pub action_for : Mode → Action
action_for Managed = Refresh
action_for DataSource = Read

abbrev pub same_mode : Mode → Mode → Bool
same_mode Managed Managed = true
same_mode Managed DataSource = false
same_mode DataSource Managed = false
same_mode DataSource DataSource = true

itself : (m : Mode) → same_mode m m ≡ true
itself Managed = refl
itself DataSource = refl

-- the object has that mode and that address
abbrev pub is_of : Mode → (a : List ℕ) → Option Told → Bool
is_of m a None = false
is_of m a (Some t) = same_mode t.object.mode m && is_told_at a t

-- the elapsed seconds of each object, with others of object c
abbrev pub put : (ℕ → Option ℕ) → (c : ℕ) → Option ℕ → ℕ → Option ℕ
put opens c o b = cond (b == c) o (opens b)

put_here : (opens : ℕ → Option ℕ) (c : ℕ) (o : Option ℕ) → put opens c o c ≡ o
put_here opens c o = ap (λ (t : Bool). cond t o (opens c)) (eq-eqb c c refl)

put_elsewhere : (opens : ℕ → Option ℕ) (c : ℕ) (o : Option ℕ) (b : ℕ) → b ≢ c → put opens c o b ≡ opens b
put_elsewhere opens c o b apart = ap (λ (t : Bool). cond t o (opens b)) (ne_eqb b c apart)

-- an address at which only refreshes and reads stand open
pub record IsQuiet (s : AddressState) : Type 0 where
  pub create : s.create ≡ None
  pub update : s.update ≡ None
  pub delete : s.delete ≡ None
  pub provisioner : s.provisioner ≡ None
  pub failures : s.failures ≡ None

module _ (told : List Told) where
  -- the elapsed seconds of an object, if it has that mode and that address
  abbrev pub shown_in : Mode → (ℕ → Option ℕ) → (a : List ℕ) → (c : ℕ) → Option ℕ
  shown_in m opens a c = cond (is_of m a (slice_get told c)) (opens c) None

  -- the checker has accepted the messages, and holds open what the objects have under way
  pub record Stands (opens : ℕ → Option ℕ) (ms : List Message) : Type 0 where
    pub amid : IsAmid ms
    pub open_steps : (m : Mode) (a : List ℕ) → MatchesPending (length told) Delete (shown_in m opens a) (pending_at (action_for m) (state_of a ms))
    pub quiet : (a : List ℕ) → IsQuiet (state_of a ms)

  -- ---- what is shown of an object

  seen_here : (m : Mode) (opens : ℕ → Option ℕ) (a : List ℕ) (c : ℕ) → is_of m a (slice_get told c) ≡ true → shown_in m opens a c ≡ opens c
  seen_here m opens a c is = ap (λ (t : Bool). cond t (opens c) None) is

  seen_other : (m : Mode) (opens : ℕ → Option ℕ) (c : ℕ) (o : Option ℕ) (a : List ℕ) (b : ℕ) → b ≢ c → shown_in m (put opens c o) a b ≡ shown_in m opens a b
  seen_other m opens c o a b apart = ap (λ (x : Option ℕ). cond (is_of m a (slice_get told b)) x None) (put_elsewhere opens c o b apart)

  seen_nowhere : (m : Mode) (opens : ℕ → Option ℕ) (c : ℕ) (o : Option ℕ) (a : List ℕ) → is_of m a (slice_get told c) ≡ false → (b : ℕ) → shown_in m (put opens c o) a b ≡ shown_in m opens a b
  seen_nowhere m opens c o a away b =
      ⊎_elim
      (λ (here : b ≡ c).
      let at_c : shown_in m (put opens c o) a c ≡ shown_in m opens a c = ap (λ (t : Bool). cond t (put opens c o c) None) away ∙ sym (ap (λ (t : Bool). cond t (opens c) None) away) in
      subst (λ (x : ℕ). shown_in m (put opens c o) a x ≡ shown_in m opens a x) (sym here) at_c)
      (λ elsewhere. seen_other m opens c o a b elsewhere)
      (cases_eq b c)

  -- ---- one message

  abbrev Moves : (ℕ → Option ℕ) → List Message → Message → Type 0
  Moves opens ms m = (next ms m ≡ Ok (m ∷ ms)) × Stands opens (m ∷ ms)

  module _ (opens : ℕ → Option ℕ) (ms : List Message) (c : ℕ) (t : Told) (is : slice_get told c ≡ Some t) (stands : Stands opens ms) where
    abbrev a : List ℕ
    a = t.object.address

    of_itself : (m : Mode) → t.object.mode ≡ m → is_of m t.object.address (slice_get told c) ≡ true
    of_itself m mode = ap (is_of m t.object.address) is ∙ ap (λ (x : Mode). same_mode x m && bytes_eq t.object.address t.object.address) mode ∙ ap₂ (λ (x y : Bool). x && y) (itself m) (same_text t.object.address)

    of_other_mode : (m n : Mode) → t.object.mode ≡ m → same_mode m n ≡ false → (b : List ℕ) → is_of n b (slice_get told c) ≡ false
    of_other_mode m n mode apart b = ap (is_of n b) is ∙ ap (λ (x : Mode). same_mode x n && bytes_eq t.object.address b) mode ∙ ap (λ (x : Bool). x && bytes_eq t.object.address b) apart

    of_other_address : (n : Mode) (b : List ℕ) → bytes_eq t.object.address b ≡ false → is_of n b (slice_get told c) ≡ false
    of_other_address n b apart = ap (is_of n b) is ∙ ap (λ (x : Bool). same_mode t.object.mode n && x) apart ∙ and-false (same_mode t.object.mode n)

    quiet_step : (m : Mode) (st : TimedStage) (line : ℕ) (p : Option Pending) (s : AddressState) → IsNoFailure st → IsQuiet s → IsQuiet (step_in (action_for m) st line p s)
    quiet_step Managed st line p s fails q = record {
      create = pending_other Refresh Create st line p s refl ∙ q.create;
      update = pending_other Refresh Update st line p s refl ∙ q.update;
      delete = pending_other Refresh Delete st line p s refl ∙ q.delete;
      provisioner = provisioner_same Refresh st line p s ∙ q.provisioner;
      failures = failures_same Refresh st line p s fails ∙ q.failures;
    }
    quiet_step DataSource st line p s fails q = record {
      create = pending_other Read Create st line p s refl ∙ q.create;
      update = pending_other Read Update st line p s refl ∙ q.update;
      delete = pending_other Read Delete st line p s refl ∙ q.delete;
      provisioner = provisioner_same Read st line p s ∙ q.provisioner;
      failures = failures_same Read st line p s fails ∙ q.failures;
    }

    stepped : (m : Mode) → t.object.mode ≡ m → (st : TimedStage) (o : Option ℕ) (p : Option Pending) → IsNoFailure st → after (action_for m) st (length ms + 1) (pending_at (action_for m) (state_of t.object.address ms)) ≡ Ok p
        → MatchesPending (length told) Delete (shown_in m (put opens c o) t.object.address) p → Moves (put opens c o) ms (step t.object.address (action_for m) st)
    stepped m mode st o p fails e fit =
        let k = action_for m in
        let s = state_of a ms in
        let line = length ms + 1 in
        let on : step_on k st line s ≡ Ok (step_in k st line p s) =
        step_is k st line p s (λ some. let bad : false ≡ true = sym (ap is_some (stands.quiet a).provisioner) ∙ some in absurd cc) e in
        let there : state_of a (step a k st ∷ ms) ≡ step_in k st line p s = step_there a k st (step_in k st line p s) ms on in (
          next_step a k st (step_in k st line p s) ms stands.amid on,
          record {
            amid = stands.amid;
            open_steps = λ n. by_address (λ b. MatchesPending (length told) Delete (shown_in n (put opens c o) b) (pending_at (action_for n) (state_of b (step a k st ∷ ms)))) a
                (subst (λ (x : AddressState). MatchesPending (length told) Delete (shown_in n (put opens c o) a) (pending_at (action_for n) x)) (sym there) (at_it m mode n e fit))
                (λ b away.
                subst (λ (x : AddressState). MatchesPending (length told) Delete (shown_in n (put opens c o) b) (pending_at (action_for n) x)) (sym (step_elsewhere a k st ms b away))
                (fits_same (length told) Delete (shown_in n opens b) (shown_in n (put opens c o) b) (pending_at (action_for n) (state_of b ms)) (λ d less. seen_nowhere n opens c o b (of_other_address n b away) d) (stands.open_steps n b)));
            quiet = by_address (λ b. IsQuiet (state_of b (step a k st ∷ ms))) a
                (subst IsQuiet (sym there) (quiet_step m st line p s fails (stands.quiet a)))
                (λ b away. subst IsQuiet (sym (step_elsewhere a k st ms b away)) (stands.quiet b));
          },
        )
      where
        at_it : (m : Mode) → t.object.mode ≡ m → (n : Mode) → after (action_for m) st (length ms + 1) (pending_at (action_for m) (state_of t.object.address ms)) ≡ Ok p
            → MatchesPending (length told) Delete (shown_in m (put opens c o) t.object.address) p
            → MatchesPending (length told) Delete (shown_in n (put opens c o) t.object.address) (pending_at (action_for n) (step_in (action_for m) st (length ms + 1) p (state_of t.object.address ms)))
        at_it Managed mode Managed e fit = subst (MatchesPending (length told) Delete (shown_in Managed (put opens c o) a)) (sym (pending_same Refresh st (length ms + 1) p (state_of a ms))) fit
        at_it DataSource mode DataSource e fit = subst (MatchesPending (length told) Delete (shown_in DataSource (put opens c o) a)) (sym (pending_same Read st (length ms + 1) p (state_of a ms))) fit
        at_it Managed mode DataSource e fit =
            subst (MatchesPending (length told) Delete (shown_in DataSource (put opens c o) a)) (sym (pending_other Refresh Read st (length ms + 1) p (state_of a ms) refl))
            (fits_same (length told) Delete (shown_in DataSource opens a) (shown_in DataSource (put opens c o) a) (pending_at Read (state_of a ms)) (λ d less. seen_nowhere DataSource opens c o a (of_other_mode Managed DataSource mode refl a) d) (stands.open_steps DataSource a))
        at_it DataSource mode Managed e fit =
            subst (MatchesPending (length told) Delete (shown_in Managed (put opens c o) a)) (sym (pending_other Read Refresh st (length ms + 1) p (state_of a ms) refl))
            (fits_same (length told) Delete (shown_in Managed opens a) (shown_in Managed (put opens c o) a) (pending_at Refresh (state_of a ms)) (λ d less. seen_nowhere Managed opens c o a (of_other_mode DataSource Managed mode refl a) d) (stands.open_steps Managed a))

    within : c < length told
    within = slice_get_within told c t is

    starts : (m : Mode) → t.object.mode ≡ m → opens c ≡ None → counted (shown_in m (put opens c (Some 0)) t.object.address) 0 (length told) ≤ max_overlap
        → Moves (put opens c (Some 0)) ms (step t.object.address (action_for m) stage.Start)
    starts m mode closed few =
        let p = pending_at (action_for m) (state_of a ms) in
        let answer = begins_few (length told) c (shown_in m opens a) (shown_in m (put opens c (Some 0)) a) within (λ b apart. seen_other m opens c (Some 0) a b apart) (length ms + 1) p
        (seen_here m opens a c (of_itself m mode) ∙ closed) (seen_here m (put opens c (Some 0)) a c (of_itself m mode) ∙ put_here opens c (Some 0)) few (stands.open_steps m a) in
        stepped m mode stage.Start (Some 0) answer.0 tt (begun_alike (action_for m) (overlaps m) (length ms + 1) p ∙ answer.1) answer.2
      where
        overlaps : (n : Mode) → may_overlap (action_for n) ≡ true
        overlaps Managed = refl
        overlaps DataSource = refl

    goes_on : (m : Mode) → t.object.mode ≡ m → (low s : ℕ) → opens c ≡ Some low → low < s → Moves (put opens c (Some s)) ms (step t.object.address (action_for m) (stage.Progress s))
    goes_on m mode low s under_way more =
        let answer = tells (length told) c Delete (shown_in m opens a) (shown_in m (put opens c (Some s)) a) within (λ b apart. seen_other m opens c (Some s) a b apart) low s (length ms + 1) (pending_at (action_for m) (state_of a ms))
        (seen_here m opens a c (of_itself m mode) ∙ under_way) more (seen_here m (put opens c (Some s)) a c (of_itself m mode) ∙ put_here opens c (Some s)) (stands.open_steps m a) in
        stepped m mode (stage.Progress s) (Some s) answer.0 tt answer.1 answer.2

    completes : (m : Mode) → t.object.mode ≡ m → (low s : ℕ) → opens c ≡ Some low → low ≤ s → Moves (put opens c None) ms (step t.object.address (action_for m) (stage.Complete s))
    completes m mode low s under_way more =
        let answer = ends (length told) c Delete (shown_in m opens a) (shown_in m (put opens c None) a) within (λ b apart. seen_other m opens c None a b apart) low s (pending_at (action_for m) (state_of a ms))
        (seen_here m opens a c (of_itself m mode) ∙ under_way) more (seen_here m (put opens c None) a c (of_itself m mode) ∙ put_here opens c None) (stands.open_steps m a) in
        stepped m mode (stage.Complete s) None answer.0 tt answer.1 answer.2

  -- ---- the events of an object

  -- the elapsed seconds after an event, as the checker sees them: a refresh has none
  abbrev pub turned : Mode → Option ℕ → What → Option ℕ
  turned Managed o Start = Some 0
  turned Managed o (Complete s) = None
  turned Managed o _ = o
  turned DataSource o Start = Some 0
  turned DataSource o (Progress s) = Some s
  turned DataSource o (Complete s) = None
  turned DataSource o _ = o

  -- the event may come then
  abbrev pub May : Mode → Option ℕ → What → Type 0
  May Managed o Start = o ≡ None
  May Managed o (Complete s) = o ≡ Some 0
  May Managed o _ = Unit {0}
  May DataSource o Start = o ≡ None
  May DataSource o (Progress s) = (low : ℕ) × (o ≡ Some low) × (low < s)
  May DataSource o (Complete s) = (low : ℕ) × (o ≡ Some low) × (low ≤ s)
  May DataSource o _ = Unit {0}

  -- the events of one object may come one after another, and it is so then
  abbrev pub Course : (After : Option ℕ → Type 0) → Mode → Option ℕ → List Event → Type 0
  Course After m o [] = After o
  Course After m o (e ∷ es) = May m o e.what × Course After m (turned m o e.what) es

  abbrev pub Courses : (After : Told → Option ℕ → Type 0) → (ℕ → Option ℕ) → List Event → Type 0
  Courses After opens es = (c : ℕ) (t : Told) → slice_get told c ≡ Some t → Course (After t) t.object.mode (opens c) (events_of_change c es)

  -- ---- few objects share an address

  module _ (a : List ℕ) where
    abbrev share : Option Told → ℕ
    share o = option_map_or (λ (t : Told). cond (is_told_at a t) 1 0) o 0

    counted_most : (xs : List Told) (low : ℕ) (h : ℕ → Option ℕ) → ((k : ℕ) → weight (h (low + k)) ≤ share (slice_get xs k)) → counted h low (length xs) ≤ count_by (is_told_at a) xs
    counted_most [] low h each = omega arith
    counted_most (x ∷ xs) low h each =
        let first = sum_by-cons (λ c. cond (is_some (h c)) 1 0) low (range_with_len (low + 1) (length xs)) in
        let same : low + 0 ≡ low = omega arith in
        let here : weight (h low) ≤ share (Some x) = subst (λ (n : ℕ). weight (h n) ≤ share (Some x)) same (each zero) in
        let all = sum_by-cons (λ t. cond (is_told_at a t) 1 0) x xs in
        let rest = counted_most xs (low + 1) h (λ k. subst (λ (n : ℕ). weight (h n) ≤ share (slice_get xs k)) (let e : low + suc k ≡ low + 1 + k = omega arith in e) (each (suc k))) in
        omega arith

    pub few_shown : (m : Mode) (opens : ℕ → Option ℕ) → counted (shown_in m opens a) 0 (length told) ≤ count_by (is_told_at a) told
    few_shown m opens = counted_most told 0 (shown_in m opens a) (λ k. subst (λ (n : ℕ). weight (shown_in m opens a n) ≤ share (slice_get told k)) (let e : k ≡ 0 + k = omega arith in e) (of_found (slice_get told k) (opens k)))
      where
        of_open : (o : Option ℕ) → weight o ≤ 1
        of_open None = omega arith
        of_open (Some x) = omega arith

        of_tests : (x y : Bool) (o : Option ℕ) → weight (cond (x && y) o None) ≤ cond y 1 0
        of_tests true true o = of_open o
        of_tests true false o = omega arith
        of_tests false y o = omega arith

        of_found : (f : Option Told) (o : Option ℕ) → weight (cond (is_of m a f) o None) ≤ share f
        of_found None o = omega arith
        of_found (Some t) o = of_tests (same_mode t.object.mode m) (is_told_at a t) o

  -- ---- one event

  -- its messages are accepted
  record Went (opens : ℕ → Option ℕ) (ms : List Message) (c : ℕ) (now : Option ℕ) (xs : List Message) : Type 0 where
    then_open : ℕ → Option ℕ
    accepted : with_all ms xs ≡ Ok (followed_by ms xs)
    stands : Stands then_open (followed_by ms xs)
    here : then_open c ≡ now
    others : (b : ℕ) → b ≢ c → then_open b ≡ opens b

  module _ (few : (a : List ℕ) → count_by (is_told_at a) told ≤ max_overlap) where
    module _ (opens : ℕ → Option ℕ) (ms : List Message) (c : ℕ) (t : Told) (is : slice_get told c ≡ Some t) (stands : Stands opens ms) where
      moved : (o : Option ℕ) (m : Message) → Moves (put opens c o) ms m → Went opens ms c o (m ∷ [])
      moved o m moves = record {
        then_open = put opens c o;
        accepted = ap (λ (r : Result (List Message) Fault). r >>= λ later. with_all later []) moves.0;
        stands = moves.1;
        here = put_here opens c o;
        others = λ b apart. put_elsewhere opens c o b apart;
      }

      stays : Went opens ms c (opens c) []
      stays = record { then_open = opens; accepted = refl; stands = stands; here = refl; others = λ b apart. refl }

      room : (m : Mode) → counted (shown_in m (put opens c (Some 0)) t.object.address) 0 (length told) ≤ max_overlap
      room m = let most = few_shown t.object.address m (put opens c (Some 0)) in let all = few t.object.address in omega arith

      goes : (m : Mode) → t.object.mode ≡ m → (w : What) → May m (opens c) w → Went opens ms c (turned m (opens c) w) (told_read_back m t.object.address w)
      goes Managed mode Start may = moved (Some 0) _ (starts opens ms c t is stands Managed mode may (room Managed))
      goes Managed mode (Progress s) may = stays
      goes Managed mode (Complete s) may = moved None _ (completes opens ms c t is stands Managed mode 0 0 may (omega arith))
      goes Managed mode (Errored s) may = stays
      goes Managed mode ErrorNote may = stays
      goes Managed mode WarnNote may = stays
      goes Managed mode (Halted phase hook) may = stays
      goes Managed mode (ProvisionStart i) may = stays
      goes Managed mode (ProvisionOutput i n) may = stays
      goes Managed mode (ProvisionComplete i) may = stays
      goes Managed mode (ProvisionErrored i) may = stays
      goes DataSource mode Start may = moved (Some 0) _ (starts opens ms c t is stands DataSource mode may (room DataSource))
      goes DataSource mode (Progress s) may = moved (Some s) _ (goes_on opens ms c t is stands DataSource mode may.0 s may.1 may.2)
      goes DataSource mode (Complete s) may = moved None _ (completes opens ms c t is stands DataSource mode may.0 s may.1 may.2)
      goes DataSource mode (Errored s) may = stays
      goes DataSource mode ErrorNote may = stays
      goes DataSource mode WarnNote may = stays
      goes DataSource mode (Halted phase hook) may = stays
      goes DataSource mode (ProvisionStart i) may = stays
      goes DataSource mode (ProvisionOutput i n) may = stays
      goes DataSource mode (ProvisionComplete i) may = stays
      goes DataSource mode (ProvisionErrored i) may = stays

    -- ---- all events

    abbrev pub Ran : (After : Told → Option ℕ → Type 0) → List Message → List Message → Type 0
    Ran After ms xs = (with_all ms xs ≡ Ok (followed_by ms xs)) × ((last : ℕ → Option ℕ) × Stands last (followed_by ms xs) × ((c : ℕ) (t : Told) → slice_get told c ≡ Some t → After t (last c)))

    pub all_run : (After : Told → Option ℕ → Type 0) (es : List Event) (opens : ℕ → Option ℕ) (ms : List Message) → Stands opens ms → Each (λ e. e.change < length told) es → Courses After opens es
        → Ran After ms (flat_map (planning_read_back told) es)
    all_run After [] opens ms stands known courses = (refl, (opens, stands, courses))
    all_run After (e ∷ es) opens ms stands known courses =
        let found = object_at told e.change known.0 in
        let t = found.0 in
        let its : events_of_change e.change (e ∷ es) ≡ e ∷ events_of_change e.change es = ap (λ (b : Bool). cond b (e ∷ events_of_change e.change es) (events_of_change e.change es)) (eq-eqb e.change e.change refl) in
        let course : Course (After t) t.object.mode (opens e.change) (e ∷ events_of_change e.change es) = subst (Course (After t) t.object.mode (opens e.change)) its (courses e.change t found.1) in
        let xs = told_read_back t.object.mode t.object.address e.what in
        let ys = flat_map (planning_read_back told) es in
        let one = goes opens ms e.change t found.1 stands t.object.mode refl e.what course.0 in
        let rest = all_run After es one.then_open (followed_by ms xs) one.stands known.1 (λ c u is. ⊎_elim
        (λ (here : c ≡ e.change).
        let same : t ≡ u = same_Some t u (sym found.1 ∙ ap (slice_get told) (sym here) ∙ is) in
        subst (λ (x : Told). Course (After x) x.object.mode (one.then_open c) (events_of_change c es)) same
        (subst (λ (x : ℕ). Course (After t) t.object.mode (one.then_open x) (events_of_change x es)) (sym here)
        (subst (λ (o : Option ℕ). Course (After t) t.object.mode o (events_of_change e.change es)) (sym one.here) course.1)))
        (λ (elsewhere : c ≢ e.change).
        let later : events_of_change c (e ∷ es) ≡ events_of_change c es = ap (λ (b : Bool). cond b (e ∷ events_of_change c es) (events_of_change c es)) (ne_eqb e.change c (λ f. elsewhere (sym f))) in
        subst (λ (o : Option ℕ). Course (After u) u.object.mode o (events_of_change c es)) (sym (one.others c elsewhere)) (subst (Course (After u) u.object.mode (opens c)) later (courses c u is)))
        (cases_eq c e.change)) in
        let same : followed_by (followed_by ms xs) ys ≡ followed_by ms (xs ++ ys) = followed_by_both ms xs ys in
        subst (λ (l : List Message). Ran After ms (l ++ ys)) (sym (ap (λ (o : Option Told). option_map_or (λ (x : Told). told_read_back x.object.mode x.object.address e.what) o []) found.1)) (
          joined ms (followed_by ms xs) xs ys one.accepted ∙ rest.0 ∙ ap (λ (l : List Message). fine l) same,
          (rest.1.0, subst (λ (l : List Message). Stands rest.1.0 l) same rest.1.1, rest.1.2),
        )

  -- ---- at the begin

  pub at_begin : Stands (λ c. None) (version ∷ [])
  unfolding state_of
  at_begin = record {
    amid = (refl, refl, refl);
    open_steps = λ m a. idle_at m a;
    quiet = λ a. record { create = refl; update = refl; delete = refl; provisioner = refl; failures = refl };
  }
    where
      closed : (m : Mode) (a : List ℕ) (c : ℕ) → shown_in m (λ c. None) a c ≡ None
      closed m a c = elim (is_of m a (slice_get told c)) as (λ b. cond {A = Option ℕ} b None None ≡ None) [ true ↦ refl | false ↦ refl ]

      none_open : (m : Mode) (a : List ℕ) → counted (shown_in m (λ c. None) a) 0 (length told) ≡ 0
      none_open m a = ⊎_elim (λ none. none) (λ located. absurd (let bad : None ≡ Some located.1 = sym (closed m a located.0) ∙ located.3 in cc)) (none_or_some (shown_in m (λ c. None) a) 0 (length told))

      idle_at : (m : Mode) (a : List ℕ) → MatchesPending (length told) Delete (shown_in m (λ c. None) a) (pending_at (action_for m) (state_of a (version ∷ [])))
      idle_at Managed a = none_open Managed a
      idle_at DataSource a = none_open DataSource a

  -- nothing of that mode stands open where no object has anything under way
  pub all_closed : (m : Mode) (opens : ℕ → Option ℕ) (ms : List Message) → Stands opens ms → ((c : ℕ) (t : Told) → slice_get told c ≡ Some t → t.object.mode ≡ m → opens c ≡ None) → (a : List ℕ) → pending_at (action_for m) (state_of a ms) ≡ None
  all_closed m opens ms stands closed a = nothing_fits (length told) Delete (shown_in m opens a) (pending_at (action_for m) (state_of a ms)) (stands.open_steps m a)
      (⊎_elim (λ none. none) (λ located. absurd (let bad : None ≡ Some located.1 = sym (hidden located.0) ∙ located.3 in cc)) (none_or_some (shown_in m opens a) 0 (length told)))
    where
      of_test : (x y : Bool) (o : Option ℕ) → (x ≡ true → o ≡ None) → cond (x && y) o None ≡ None
      of_test true true o is = is refl
      of_test true false o is = refl
      of_test false y o is = refl

      of_mode : (n k : Mode) → same_mode n k ≡ true → n ≡ k
      of_mode Managed Managed e = refl
      of_mode Managed DataSource e = absurd cc
      of_mode DataSource Managed e = absurd cc
      of_mode DataSource DataSource e = refl

      of_found : (c : ℕ) (f : Option Told) → slice_get told c ≡ f → cond (is_of m a f) (opens c) None ≡ None
      of_found c None is = refl
      of_found c (Some t) is = of_test (same_mode t.object.mode m) (is_told_at a t) (opens c) (λ e. closed c t is (of_mode t.object.mode m e))

      hidden : (c : ℕ) → shown_in m opens a c ≡ None
      hidden c = of_found c (slice_get told c) refl
