-- An event that may happen to a change is accepted, whatever the other changes have under way.
use Rattle.std.proofs.Common.{◌++◌, ◌≡◌, ◌≢◌, ℕ, ◌+◌, ◌<◌, ◌≤◌, List, [], ◌∷◌, length, map, is_some, Bool, true, false, cond, Option, Some, None, Result, Ok, refl, sym, ap, ◌∙◌, subst, ◌⊎◌, inl, inr, ⊎_elim, eq-eqb, ne_eqb, Err}
use Rattle.std.proofs.lemmas.Bool.{cases_eq}
use Rattle.stream_check.specs.declared.messages.action.Action.{Action}
use Rattle.stream_check.specs.declared.messages.action.Action.TheVariants.{Delete}
use Rattle.stream_check.specs.declared.rules.fault.Fault.{Fault}
use Rattle.stream_message.specs.declared.stage.Stage.{Stage}
use Rattle.stream_message.specs.declared.stage.Stage.TheVariants as stage
use Rattle.stream_check.specs.declared.messages.timed_stage.TimedStage.TheVariants as timed_stage
use Rattle.stream_check.specs.Course.{max_overlap}
use Rattle.stream_check.specs.Lines.{next}
use Rattle.stream_check.specs.Message.{Message, step, provision, diagnostic}
use Rattle.stream_check.specs.Results.{◌>>=◌}
use Rattle.stream_check.specs.AddressState as standing
use Rattle.stream_check.specs.AddressState.{may_provision, pending_at, state_of}
use Rattle.apply_events.specs.declared.what.What.{What}
use Rattle.apply_events.specs.declared.what.What.TheVariants.{Start, Progress, Complete, Errored, ErrorNote, WarnNote, Halted, ProvisionStart, ProvisionOutput, ProvisionComplete, ProvisionErrored}
use Rattle.laws_check.specs.Passing.{with_all}
use Rattle.laws_check.specs.ReadBack.{read_back}
use Rattle.laws_check.proofs.Counting.{counted, none_or_some}
use Rattle.laws_check.proofs.Fitting.{begins, ends, something_open, tells}
use Rattle.laws_check.proofs.Moves.{Agrees, Apart, Has, Moves, Sole, noted, not_running, provisioned, running, shown_here, shown_is, stepped}
use Rattle.laws_check.proofs.Phases.{Deed, Follows, IsAtRest, IsProvisioning, MayRun, Phase, between, under_way, unexplained, Turns, of_change, put, put_elsewhere, put_here, seconds_in, shown, shown_same}
use Rattle.laws_check.proofs.Standings.{may_hold, provision_is}

-- the message of what happens to a change
abbrev pub message_of_deed : (ℕ → List ℕ) → Deed → Message
message_of_deed addresses d = read_back (addresses d.change) d.action d.what

-- the messages and others after them, the latest first
abbrev pub followed_by : List Message → List Message → List Message
followed_by earlier [] = earlier
followed_by earlier (m ∷ ms) = followed_by (m ∷ earlier) ms

pub joined : (ms later xs ys : List Message) → with_all ms xs ≡ Ok later → with_all ms (xs ++ ys) ≡ with_all later ys
joined ms later [] ys e = ap (λ (l : List Message). with_all l ys) (same e)
  where
    same : (let r : Result (List Message) Fault = Ok ms in r) ≡ Ok later → ms ≡ later
    same e = cc
joined ms later (x ∷ xs) ys e = first (next ms x) (λ now. joined now later xs ys) e
  where
    first : (r : Result (List Message) Fault) → ((now : List Message) → with_all now xs ≡ Ok later → with_all now (xs ++ ys) ≡ with_all later ys)
        → (r >>= λ now. with_all now xs) ≡ Ok later → (r >>= λ now. with_all now (xs ++ ys)) ≡ with_all later ys
    first (Ok now) rest e = rest now e
    first (Err fault) rest e = absurd cc

pub followed_by_both : (ms xs ys : List Message) → followed_by (followed_by ms xs) ys ≡ followed_by ms (xs ++ ys)
followed_by_both ms [] ys = refl
followed_by_both ms (x ∷ xs) ys = followed_by_both (x ∷ ms) xs ys

abbrev acts_as : Action → Phase → Action
acts_as k between = k
acts_as k (under_way l t b) = l
acts_as k unexplained = k

-- with other seconds
abbrev later : ℕ → Phase → Phase
later s between = between
later s (under_way l t b) = under_way l s b
later s unexplained = unexplained

nothing : {X : Type 0} (o : Option X) → (is_some o ≡ true → ⊥) → o ≡ None
nothing None h = refl
nothing (Some x) h = absurd (h refl)

something : {X : Type 0} (o : Option X) → is_some o ≡ true → (x : X) × (o ≡ Some x)
something None e = absurd cc
something (Some x) e = (x, refl)

module _ (limit : ℕ) (addresses : ℕ → List ℕ) (Within : List ℕ → Type 0) (Does : ℕ → Action → Type 0) (Provides : ℕ → Type 0) where
  -- each is of a change below the limit that does so, at one of the addresses
  abbrev pub AllKnown : List Deed → Type 0
  AllKnown [] = Unit {0}
  AllKnown (d ∷ ds) = ((d.change < limit) × Within (addresses d.change) × Does d.change d.action) × AllKnown ds

  -- the messages are accepted, and in the end each change is at rest
  abbrev pub Runs : List Message → List Message → Type 0
  Runs ms more = (with_all ms more ≡ Ok (followed_by ms more)) × ((phases : ℕ → Phase) × Agrees limit addresses Within Does Provides phases (followed_by ms more) × ((c : ℕ) → c < limit → IsAtRest (phases c)))

module _ (limit : ℕ) (addresses : ℕ → List ℕ) (Within : List ℕ → Type 0) (Does : ℕ → Action → Type 0) (Provides : ℕ → Type 0) (few : limit ≤ max_overlap) (apart : Apart addresses Does) (sole : Sole addresses Provides) where
  -- one change at one time
  module _ (phases : ℕ → Phase) (ms : List Message) (c : ℕ) (k : Action) (agrees : Agrees limit addresses Within Does Provides phases ms) (less : c < limit) (within : Within (addresses c)) (does : Does c k) where
    -- the message is accepted, and the change is in that phase then
    abbrev Goes : Phase → Message → Type 0
    Goes q m = Moves limit addresses Within Does Provides phases ms c q m

    others : (q : Phase) (b : ℕ) → b ≢ c → shown addresses (put phases c q) (addresses c) k b ≡ shown addresses phases (addresses c) k b
    others q b elsewhere = shown_same addresses phases (put phases c q) (addresses c) k b (put_elsewhere phases c q b elsewhere)

    before : (p : Phase) → phases c ≡ p → shown addresses phases (addresses c) k c ≡ seconds_in k p
    before p is = shown_here addresses phases k c ∙ ap (seconds_in k) is

    now : (q : Phase) → shown addresses (put phases c q) (addresses c) k c ≡ seconds_in k q
    now q = shown_here addresses (put phases c q) k c ∙ ap (seconds_in k) (put_here phases c q)

    does_then : (t : ℕ) (l : Action) (s : ℕ) (x y : Bool) → under_way k s x ≡ under_way l t y → Does c l
    does_then t l s x y e = subst (Does c) (ap (acts_as k) e) does

    -- the action may start: no other change has it under way at the address, unless it is a delete
    may_start : phases c ≡ between → (k ≡ Delete) ⊎ (counted (shown addresses phases (addresses c) k) 0 limit ≡ 0)
    may_start is =
        ⊎_elim
        (λ none. inr none)
        (λ located.
        let does_too = shown_is addresses phases (addresses c) k located.0 located.1 located.3 in
        inl (apart located.0 c k does_too.0 (agrees.does located.0 located.1 k does_too.1 does_too.2) does
        (λ same. absurd (let f : between ≡ under_way k located.1 does_too.1 = sym is ∙ ap phases (sym same) ∙ does_too.2 in cc))))
        (none_or_some (shown addresses phases (addresses c) k) 0 limit)

    starts : phases c ≡ between → Goes (under_way k 0 false) (step (addresses c) k timed_stage.Start)
    starts is =
        let answer = begins limit c k (shown addresses phases (addresses c) k) (shown addresses (put phases c (under_way k 0 false)) (addresses c) k) less (others (under_way k 0 false)) (length ms + 1) (pending_at k (state_of (addresses c) ms)) few
        (before between is) (now (under_way k 0 false) ∙ running k 0 false) (may_start is) (agrees.open_steps (addresses c) k within) in
        stepped limit addresses Within Does Provides phases ms c k timed_stage.Start (under_way k 0 false) answer.0 agrees less within answer.1 answer.2
        (λ l other. not_running k l 0 false other ∙ sym (ap (seconds_in l) is))
        (λ t l b e. does_then t l 0 false b e)
        (inl (tt, λ u. absurd (let f : between ≡ unexplained = sym is ∙ u in cc)))
        (λ p. absurd (let f : between ≡ under_way p.1 p.0 true = sym is ∙ p.2 in cc))
        (λ p. absurd (let f : under_way k 0 false ≡ under_way p.1 p.0 true = p.2 in cc))

    goes_on : (t s : ℕ) (b : Bool) → phases c ≡ under_way k t b → t < s → Goes (under_way k s b) (step (addresses c) k (timed_stage.Progress s))
    goes_on t s b is more =
        let answer = tells limit c k (shown addresses phases (addresses c) k) (shown addresses (put phases c (under_way k s b)) (addresses c) k) less (others (under_way k s b)) t s (length ms + 1) (pending_at k (state_of (addresses c) ms))
        (before (under_way k t b) is ∙ running k t b) more (now (under_way k s b) ∙ running k s b) (agrees.open_steps (addresses c) k within) in
        stepped limit addresses Within Does Provides phases ms c k (timed_stage.Progress s) (under_way k s b) answer.0 agrees less within answer.1 answer.2
        (λ l other. not_running k l s b other ∙ sym (ap (seconds_in l) is ∙ not_running k l t b other))
        (λ u l d e. does_then u l s b d e)
        (inl (tt, λ u. absurd (let f : under_way k t b ≡ unexplained = sym is ∙ u in cc)))
        (λ p. (s, p.1, ap (later s) (let f : under_way k t b ≡ under_way p.1 p.0 true = sym is ∙ p.2 in f), p.3))
        (λ p. (t, p.1, is ∙ ap (later t) p.2, p.3))

    completes : (t s : ℕ) → phases c ≡ under_way k t false → t ≤ s → Goes between (step (addresses c) k (timed_stage.Complete s))
    completes t s is more =
        let answer = ends limit c k (shown addresses phases (addresses c) k) (shown addresses (put phases c between) (addresses c) k) less (others between) t s (pending_at k (state_of (addresses c) ms))
        (before (under_way k t false) is ∙ running k t false) more (now between) (agrees.open_steps (addresses c) k within) in
        stepped limit addresses Within Does Provides phases ms c k (timed_stage.Complete s) between answer.0 agrees less within answer.1 answer.2
        (λ l other. sym (ap (seconds_in l) is ∙ not_running k l t false other))
        (λ u l b e. absurd cc)
        (inl (tt, λ u. absurd (let f : under_way k t false ≡ unexplained = sym is ∙ u in cc)))
        (λ p. absurd (let f : under_way k t false ≡ under_way p.1 p.0 true = sym is ∙ p.2 in cc))
        (λ p. absurd (let f : between ≡ under_way p.1 p.0 true = p.2 in cc))

    fails : (t s : ℕ) → phases c ≡ under_way k t false → t ≤ s → Goes unexplained (step (addresses c) k (timed_stage.Errored s))
    fails t s is more =
        let answer = ends limit c k (shown addresses phases (addresses c) k) (shown addresses (put phases c unexplained) (addresses c) k) less (others unexplained) t s (pending_at k (state_of (addresses c) ms))
        (before (under_way k t false) is ∙ running k t false) more (now unexplained) (agrees.open_steps (addresses c) k within) in
        stepped limit addresses Within Does Provides phases ms c k (timed_stage.Errored s) unexplained answer.0 agrees less within answer.1 answer.2
        (λ l other. sym (ap (seconds_in l) is ∙ not_running k l t false other))
        (λ u l b e. absurd cc)
        (inr refl)
        (λ p. absurd (let f : under_way k t false ≡ under_way p.1 p.0 true = sym is ∙ p.2 in cc))
        (λ p. absurd (let f : unexplained ≡ under_way p.1 p.0 true = p.2 in cc))

    -- the change may have a provisioner under way: no other change has one under way at the address
    module _ (may : MayRun (Provides c) k) where
      alone : (d : ℕ) → d ≢ c → addresses d ≡ addresses c → IsProvisioning (phases d) → ⊥
      alone d other there is = other (sole d c there (agrees.provides d is) may.0)

      provisions_may : (t : ℕ) (b : Bool) → phases c ≡ under_way k t b → may_provision (state_of (addresses c) ms) ≡ true
      provisions_may t b is =
          let s = state_of (addresses c) ms in
          may_hold k s may.1
          (something_open limit k (shown addresses phases (addresses c) k) (pending_at k s) c t (agrees.open_steps (addresses c) k within) less (before (under_way k t b) is ∙ running k t b))

      none_runs : (t : ℕ) → phases c ≡ under_way k t false → (state_of (addresses c) ms).provisioner ≡ None
      none_runs t is = nothing (state_of (addresses c) ms).provisioner (λ some.
          let located = agrees.provisioners (addresses c) within some in
          ⊎_elim
          (λ (here : located.0 ≡ c). let f : under_way k t false ≡ under_way located.3.1 located.3.0 true = sym is ∙ ap phases (sym here) ∙ located.3.2 in cc)
          (λ elsewhere. alone located.0 elsewhere located.2 located.3)
          (cases_eq located.0 c))

      one_runs : (t : ℕ) → phases c ≡ under_way k t true → (x : ℕ) × ((state_of (addresses c) ms).provisioner ≡ Some x)
      one_runs t is = something (state_of (addresses c) ms).provisioner (agrees.provisioning c less within (t, k, is, may.1))

      runs_then : (t : ℕ) → Has limit addresses Within Does Provides (put phases c (under_way k t true)) (addresses c)
      runs_then t = (c, less, refl, (t, k, put_here phases c (under_way k t true), may.1))

      provision_starts : (t : ℕ) → phases c ≡ under_way k t false → Goes (under_way k t true) (provision (addresses c) stage.Start)
      provision_starts t is =
          let s = state_of (addresses c) ms in
          provisioned limit addresses Within Does Provides phases ms c stage.Start (under_way k t true) (Some (length ms + 1)) agrees less within
          (provision_is stage.Start (length ms + 1) s None (Some (length ms + 1)) (provisions_may t false is) (none_runs t is) refl)
          (λ l. sym (ap (seconds_in l) is))
          (λ u l b e. does_then u l t true b e)
          (λ u. absurd (let f : under_way k t false ≡ unexplained = sym is ∙ u in cc))
          (λ _. runs_then t)
          (λ d there p. refl)
          (λ _. may.0)

      provision_goes_on : (t : ℕ) → phases c ≡ under_way k t true → Goes (under_way k t true) (provision (addresses c) stage.Progress)
      provision_goes_on t is =
          let s = state_of (addresses c) ms in
          let one = one_runs t is in
          provisioned limit addresses Within Does Provides phases ms c stage.Progress (under_way k t true) (Some one.0) agrees less within
          (provision_is stage.Progress (length ms + 1) s (Some one.0) (Some one.0) (provisions_may t true is) one.1 refl)
          (λ l. sym (ap (seconds_in l) is))
          (λ u l b e. does_then u l t true b e)
          (λ u. absurd (let f : under_way k t true ≡ unexplained = sym is ∙ u in cc))
          (λ _. runs_then t)
          (λ d there p. refl)
          (λ _. may.0)

      provision_ends : (end : Stage) → ((line x : ℕ) → standing.provisioned end line (Some x) ≡ Ok None) → (t : ℕ) → phases c ≡ under_way k t true → Goes (under_way k t false) (provision (addresses c) end)
      provision_ends end is_end t is =
          let s = state_of (addresses c) ms in
          let one = one_runs t is in
          provisioned limit addresses Within Does Provides phases ms c end (under_way k t false) None agrees less within
          (provision_is end (length ms + 1) s (Some one.0) None (provisions_may t true is) one.1 (is_end (length ms + 1) one.0))
          (λ l. sym (ap (seconds_in l) is))
          (λ u l b e. does_then u l t false b e)
          (λ u. absurd (let f : under_way k t true ≡ unexplained = sym is ∙ u in cc))
          (λ none. absurd cc)
          (λ d there p. absurd
          (⊎_elim
          (λ (here : d ≡ c). let f : under_way k t false ≡ under_way p.1 p.0 true = sym (put_here phases c (under_way k t false)) ∙ ap (put phases c (under_way k t false)) (sym here) ∙ p.2 in cc)
          (λ elsewhere. alone d elsewhere there (subst IsProvisioning (put_elsewhere phases c (under_way k t false) d elsewhere) p))
          (cases_eq d c)))
          (λ _. may.0)

    contains_error : (p : Phase) → phases c ≡ p → ((l : Action) → seconds_in l p ≡ None) → Goes between (diagnostic true (Some (addresses c)))
    contains_error p is none =
        noted limit addresses Within Does Provides phases ms c true between agrees less within (λ l. sym (ap (seconds_in l) is ∙ none l))
        (λ t l b e. absurd cc)
        (λ provisions. absurd (let f : None ≡ Some provisions.0 = sym (none provisions.1) ∙ ap (seconds_in provisions.1) (sym is ∙ provisions.2) ∙ running provisions.1 provisions.0 true in cc))
        (λ provisions. absurd (let f : between ≡ under_way provisions.1 provisions.0 true = provisions.2 in cc))
        (inl refl)

    -- a diagnostic leaves the change where it is
    emits_note : (e : Bool) (p : Phase) → phases c ≡ p → Goes p (diagnostic e (Some (addresses c)))
    emits_note e p is =
        noted limit addresses Within Does Provides phases ms c e p agrees less within (λ l. sym (ap (seconds_in l) is))
        (λ t l b same. agrees.does c t l b (is ∙ same)) (λ provisions. subst IsProvisioning is provisions) (λ provisions. subst IsProvisioning (sym is) provisions)
        (inr (sym is))

    exactly : (l : Action) (t : ℕ) (b wanted : Bool) → phases c ≡ under_way l t b → l ≡ k → b ≡ wanted → phases c ≡ under_way k t wanted
    exactly l t b wanted is same flag = is ∙ ap (λ (x : Action). under_way x t b) same ∙ ap (under_way k t) flag

    pub turns : (p : Phase) (what : What) (q : Phase) → phases c ≡ p → Turns (Provides c) p k what q → Goes q (read_back (addresses c) k what)
    turns between Start q is turn = subst (λ (x : Phase). Goes x (step (addresses c) k timed_stage.Start)) (sym turn) (starts is)
    turns (under_way l t b) (Progress s) q is turn =
        subst (λ (x : Phase). Goes x (step (addresses c) k (timed_stage.Progress s))) (sym turn.2) (goes_on t s b (is ∙ ap (λ (x : Action). under_way x t b) turn.0) turn.1)
    turns (under_way l t b) (Complete s) q is turn =
        subst (λ (x : Phase). Goes x (step (addresses c) k (timed_stage.Complete s))) (sym turn.3) (completes t s (exactly l t b false is turn.0 turn.1) turn.2)
    turns (under_way l t b) (Errored s) q is turn =
        subst (λ (x : Phase). Goes x (step (addresses c) k (timed_stage.Errored s))) (sym turn.3) (fails t s (exactly l t b false is turn.0 turn.1) turn.2)
    turns (under_way l t b) (ProvisionStart i) q is turn =
        subst (λ (x : Phase). Goes x (provision (addresses c) stage.Start)) (sym turn.3) (provision_starts turn.1 t (exactly l t b false is turn.0 turn.2))
    turns (under_way l t b) (ProvisionOutput i line) q is turn =
        subst (λ (x : Phase). Goes x (provision (addresses c) stage.Progress)) (sym turn.3) (provision_goes_on turn.1 t (exactly l t b true is turn.0 turn.2))
    turns (under_way l t b) (ProvisionComplete i) q is turn =
        subst (λ (x : Phase). Goes x (provision (addresses c) stage.Complete)) (sym turn.3) (provision_ends turn.1 stage.Complete (λ line x. refl) t (exactly l t b true is turn.0 turn.2))
    turns (under_way l t b) (ProvisionErrored i) q is turn =
        subst (λ (x : Phase). Goes x (provision (addresses c) stage.Errored)) (sym turn.3) (provision_ends turn.1 stage.Errored (λ line x. refl) t (exactly l t b true is turn.0 turn.2))
    turns between ErrorNote q is turn = subst (λ (x : Phase). Goes x (diagnostic true (Some (addresses c)))) (sym turn) (contains_error between is (λ l. refl))
    turns between WarnNote q is turn = subst (λ (x : Phase). Goes x (diagnostic false (Some (addresses c)))) (sym turn) (emits_note false between is)
    turns between (Halted phase hook) q is turn = subst (λ (x : Phase). Goes x (diagnostic true (Some (addresses c)))) (sym turn) (contains_error between is (λ l. refl))
    turns unexplained ErrorNote q is turn = subst (λ (x : Phase). Goes x (diagnostic true (Some (addresses c)))) (sym turn) (contains_error unexplained is (λ l. refl))
    turns unexplained WarnNote q is turn = subst (λ (x : Phase). Goes x (diagnostic false (Some (addresses c)))) (sym turn) (emits_note false unexplained is)
    turns unexplained (Halted phase hook) q is turn = subst (λ (x : Phase). Goes x (diagnostic true (Some (addresses c)))) (sym turn) (contains_error unexplained is (λ l. refl))
    turns between (Progress s) q is turn = absurd turn
    turns between (Complete s) q is turn = absurd turn
    turns between (Errored s) q is turn = absurd turn
    turns between (ProvisionStart i) q is turn = absurd turn
    turns between (ProvisionOutput i line) q is turn = absurd turn
    turns between (ProvisionComplete i) q is turn = absurd turn
    turns between (ProvisionErrored i) q is turn = absurd turn
    turns (under_way l t b) Start q is turn = absurd turn
    turns unexplained Start q is turn = absurd turn
    turns unexplained (Progress s) q is turn = absurd turn
    turns unexplained (Complete s) q is turn = absurd turn
    turns unexplained (Errored s) q is turn = absurd turn
    turns unexplained (ProvisionStart i) q is turn = absurd turn
    turns unexplained (ProvisionOutput i line) q is turn = absurd turn
    turns unexplained (ProvisionComplete i) q is turn = absurd turn
    turns unexplained (ProvisionErrored i) q is turn = absurd turn
    turns (under_way l t b) ErrorNote q is turn = absurd turn
    turns (under_way l t b) WarnNote q is turn = subst (λ (x : Phase). Goes x (diagnostic false (Some (addresses c)))) (sym turn) (emits_note false (under_way l t b) is)
    turns (under_way l t b) (Halted phase hook) q is turn = subst (λ (x : Phase). Goes x (diagnostic true (Some (addresses c)))) (sym turn) (emits_note true (under_way l t b) is)

  -- ---- all that happens

  -- what is so of each change after all
  abbrev Courses : (After : ℕ → Phase → Type 0) → (ℕ → Phase) → List Deed → Type 0
  Courses After phases ds = (c : ℕ) → c < limit → (q : Phase) × Follows (Provides c) (phases c) (of_change c ds) q × After c q

  -- the first event, and the courses after it
  first_follows : (After : ℕ → Phase → Type 0) (phases : ℕ → Phase) (d : Deed) (ds : List Deed) → Courses After phases (d ∷ ds) → (less : d.change < limit)
      → (r : Phase) × Turns (Provides d.change) (phases d.change) d.action d.what r × Courses After (put phases d.change r) ds
  first_follows After phases d ds courses less =
      let mine = courses d.change less in
      let first : of_change d.change (d ∷ ds) ≡ d ∷ of_change d.change ds = ap (λ (b : Bool). cond b (d ∷ of_change d.change ds) (of_change d.change ds)) (eq-eqb d.change d.change refl) in
      let follow : Follows (Provides d.change) (phases d.change) (d ∷ of_change d.change ds) mine.0 = subst (λ (l : List Deed). Follows (Provides d.change) (phases d.change) l mine.0) first mine.1 in (
        follow.0,
        follow.1,
        λ c l. ⊎_elim
            (λ (same : c ≡ d.change).
            subst (λ (x : ℕ). (q : Phase) × Follows (Provides x) (put phases d.change follow.0 x) (of_change x ds) q × After x q) (sym same)
            (mine.0, subst (λ (p : Phase). Follows (Provides d.change) p (of_change d.change ds) mine.0) (sym (put_here phases d.change follow.0)) follow.2, mine.2))
            (λ (elsewhere : c ≢ d.change).
            let later : of_change c (d ∷ ds) ≡ of_change c ds = ap (λ (b : Bool). cond b (d ∷ of_change c ds) (of_change c ds)) (ne_eqb d.change c (λ e. elsewhere (sym e))) in
            let its = courses c l in
            (its.0, subst (λ (p : Phase). Follows (Provides c) p (of_change c ds) its.0) (sym (put_elsewhere phases d.change follow.0 c elsewhere)) (subst (λ (x : List Deed). Follows (Provides c) (phases c) x its.0) later its.1), its.2))
            (cases_eq c d.change),
      )

  -- the messages are accepted, and the courses are run
  abbrev Ran : (After : ℕ → Phase → Type 0) → List Message → List Message → Type 0
  Ran After ms more = (with_all ms more ≡ Ok (followed_by ms more)) × ((phases : ℕ → Phase) × Agrees limit addresses Within Does Provides phases (followed_by ms more) × ((c : ℕ) → c < limit → After c (phases c)))

  one_more : (After : ℕ → Phase → Type 0) (ms : List Message) (m : Message) (more : List Message) → next ms m ≡ Ok (m ∷ ms) → Ran After (m ∷ ms) more → Ran After ms (m ∷ more)
  one_more After ms m more e rest = (ap (λ (r : Result (List Message) Fault). r >>= λ later. with_all later more) e ∙ rest.0, rest.1)

  none_more : (After : ℕ → Phase → Type 0) (phases : ℕ → Phase) (ms : List Message) → Agrees limit addresses Within Does Provides phases ms → Courses After phases [] → Ran After ms []
  none_more After phases ms agrees courses = (refl, (phases, agrees, λ c l. let its = courses c l in subst (After c) (sym its.1) its.2))

  all_run : (After : ℕ → Phase → Type 0) (ds : List Deed) (phases : ℕ → Phase) (ms : List Message) → Agrees limit addresses Within Does Provides phases ms → AllKnown limit addresses Within Does Provides ds
      → Courses After phases ds → Ran After ms (map (message_of_deed addresses) ds)
  all_run After [] phases ms agrees known courses = none_more After phases ms agrees courses
  all_run After (d ∷ ds) phases ms agrees known courses =
      let first = first_follows After phases d ds courses known.0.0 in
      let here = turns phases ms d.change d.action agrees known.0.0 known.0.1 known.0.2 (phases d.change) d.what first.0 refl first.1 in
      one_more After ms (message_of_deed addresses d) (map (message_of_deed addresses) ds) here.0 (all_run After ds (put phases d.change first.0) (message_of_deed addresses d ∷ ms) here.1 known.1 first.2)

  pub both_run : (hs ns : List Deed) (phases : ℕ → Phase) (ms : List Message) → Agrees limit addresses Within Does Provides phases ms → AllKnown limit addresses Within Does Provides hs → AllKnown limit addresses Within Does Provides ns
      → ((c : ℕ) → c < limit → (q : Phase) × Follows (Provides c) (phases c) (of_change c hs) q × ((r : Phase) × Follows (Provides c) q (of_change c ns) r × IsAtRest r))
      → Runs limit addresses Within Does Provides ms (map (message_of_deed addresses) hs ++ map (message_of_deed addresses) ns)
  both_run hs ns phases ms agrees known known_too courses =
      let front = all_run (λ c q. (r : Phase) × Follows (Provides c) q (of_change c ns) r × IsAtRest r) hs phases ms agrees known courses in
      let back = all_run (λ c q. IsAtRest q) ns front.1.0 (followed_by ms (map (message_of_deed addresses) hs)) front.1.1 known_too (λ c l. front.1.2 c l) in
      let same : followed_by (followed_by ms (map (message_of_deed addresses) hs)) (map (message_of_deed addresses) ns) ≡ followed_by ms (map (message_of_deed addresses) hs ++ map (message_of_deed addresses) ns) = followed_by_both ms (map (message_of_deed addresses) hs) (map (message_of_deed addresses) ns) in (
        joined ms (followed_by ms (map (message_of_deed addresses) hs)) (map (message_of_deed addresses) hs) (map (message_of_deed addresses) ns) front.0 ∙ back.0 ∙ ap (λ (l : List Message). fine l) same,
        (back.1.0, subst (λ (l : List Message). Agrees limit addresses Within Does Provides back.1.0 l) same back.1.1, back.1.2),
      )
    where
      fine : List Message → Result (List Message) Fault
      fine l = Ok l
