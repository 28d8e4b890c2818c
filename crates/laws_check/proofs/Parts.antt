-- The events of each change among those of several workers.
use Rattle.std.proofs.Common.{filter, ◌≡◌, ◌≢◌, ℕ, ◌+◌, ◌<◌, ◌≤◌, ◌==◌, zero, suc, All, List, [], ◌∷◌, ◌++◌, length, map, get_or, sum_by, Bool, true, false, cond, Option, Some, None, refl, sym, ap, ◌∙◌, subst, ⊎_elim, slice_get, option_map, option_to_list, append-nil, inr, arith, eq-eqb, ne_eqb}
use Rattle.std.specs.Prelude.{is_some, not}
use Rattle.std.specs.List.{enumerate_from}
use Rattle.std.proofs.lemmas.Bool.{cases_eq, lt-ltb}
use Rattle.std.proofs.lemmas.Bool.Decides.{eqb_tells}
use Rattle.std.proofs.lemmas.List.Elements.{All-cons, All-head, All-nil, All-tail}
use Rattle.std.proofs.lemmas.List.Sums.{get_or-le-sum_by, sum_by-cons}
use Rattle.std.proofs.lemmas.Option.{slice_get_within}
use Rattle.apply_model.specs.declared.plan.step_kind.StepKind.{StepKind}
use Rattle.apply_hooks.specs.declared.phase.Phase.TheVariants.{Pre}
use Rattle.apply_events.specs.declared.event.Event.{Event}
use Rattle.apply_events.specs.declared.what.What.{What}
use Rattle.apply_events.specs.declared.what.What.TheVariants.{Start, Halted}
use Rattle.apply_events.specs.Diagnostics.{is_note}
use Rattle.apply_events.specs.ChangeEvents.{begun, change_events, in_turn, span_of}
use Rattle.apply_events.specs.Fits.{HasStep}
use Rattle.apply_events.specs.Interleaving.{IsInterleaving}
use Rattle.apply_events.specs.OfWorker.{of_worker}
use Rattle.apply_events.specs.Partition.{IsPartition, count_of}
use Rattle.apply_events.specs.Step.{Step, Work, kinds_applied, kinds_of, step_of, steps_of}
use Rattle.apply_events.specs.StepEvents.{between, endings, event, goes_on, halts, phase_after, seconds_of, start_events, step_events, step_time}
use Rattle.apply_events.specs.WorkerEvents.{worker_events}
use Rattle.apply_text.specs.Order.{as_written, hook_messages_of, notes_of}
use Rattle.laws_check.specs.WholeSteps.{AreOfSteps, IsOfWholeSteps, events_of_change}
use Rattle.laws_check.proofs.AppliedKinds.{applied_is_planned}

-- ---- what holds of each event

abbrev pub Each : (Event → Type 0) → List Event → Type 0
Each P [] = Unit {0}
Each P (e ∷ es) = P e × Each P es

pub each_both : (P : Event → Type 0) (es fs : List Event) → Each P es → Each P fs → Each P (es ++ fs)
each_both P [] fs h g = g
each_both P (e ∷ es) fs h g = (h.0, each_both P es fs h.1 g)

pub each_weaker : (P Q : Event → Type 0) → ((e : Event) → P e → Q e) → (es : List Event) → Each P es → Each Q es
each_weaker P Q f [] h = tt
each_weaker P Q f (e ∷ es) h = (f e h.0, each_weaker P Q f es h.1)

each_map : {X : Type 0} (P : Event → Type 0) (g : X → Event) (xs : List X) → ((x : X) → P (g x)) → Each P (map g xs)
each_map P g [] h = tt
each_map P g (x ∷ xs) h = (h x, each_map P g xs h)

each_located : (P : Event → Type 0) (g : ℕ → Event) (located : Option ℕ) → ((x : ℕ) → P (g x)) → Each P (option_to_list (option_map g located))
each_located P g None h = tt
each_located P g (Some x) h = (h x, tt)

-- the condition holds of each event of a step
abbrev Suits : (Event → Type 0) → (worker : ℕ) → Step → Type 0
Suits P w s = (at : ℕ) (what : What) → P (event w s at what)

each_of_step : (P : Event → Type 0) (w : ℕ) (s : Step) (at : ℕ) → Suits P w s → Each P (step_events w s at)
each_of_step P w s at h = either (s.halts Pre)
  where
    either : (located : Option ℕ) → Each P (cond (is_some located) (option_to_list (option_map (λ hook. event w s at (Halted Pre hook)) located)) (start_events w s at))
    either (Some hook) = (h at (Halted Pre hook), tt)
    either None =
        let start = event w s at Start ∷ [] in
        let middle = map (λ (x : ℕ × What). event w s (at + x.0) x.1) (between s) in
        let last = map (λ what. event w s (at + seconds_of s) what) (endings s) in
        each_both P (start ++ middle ++ last) (halts w s (phase_after s.fails) (at + seconds_of s))
        (each_both P (start ++ middle) last
        (each_both P start middle (h at Start, tt) (each_map P (λ (x : ℕ × What). event w s (at + x.0) x.1) (between s) (λ x. h (at + x.0) x.1)))
        (each_map P (λ what. event w s (at + seconds_of s) what) (endings s) (λ what. h (at + seconds_of s) what)))
        (each_located P (λ hook. event w s (at + seconds_of s) (Halted (phase_after s.fails) hook)) (s.halts (phase_after s.fails)) (λ hook. h (at + seconds_of s) (Halted (phase_after s.fails) hook)))

abbrev AllSuit : (Event → Type 0) → (worker : ℕ) → List Step → Type 0
AllSuit P w [] = Unit {0}
AllSuit P w (s ∷ steps) = Suits P w s × AllSuit P w steps

suit_begun : (P : Event → Type 0) (w : ℕ) (steps : List Step) → AllSuit P w steps → AllSuit P w (begun steps)
suit_begun P w [] h = tt
suit_begun P w (s ∷ steps) h = (h.0, elim (goes_on s) as (λ b. AllSuit P w (cond b (begun steps) [])) [ true ↦ suit_begun P w steps h.1 | false ↦ tt ])

each_of_steps : (P : Event → Type 0) (w : ℕ) (steps : List Step) (at : ℕ) → AllSuit P w steps → Each P (in_turn (step_events w) step_time steps at)
each_of_steps P w [] at h = tt
each_of_steps P w (s ∷ steps) at h = each_both P (step_events w s at) (in_turn (step_events w) step_time steps (at + step_time s)) (each_of_step P w s at h.0) (each_of_steps P w steps (at + step_time s) h.1)

-- ---- the events of a change

-- the event is of the change, and the plan has its step
pub record IsOfChange (work : Work) (c : ℕ) (e : Event) : Type 0 where
  pub named : e.change ≡ c
  pub planned : (kind : StepKind) × (slice_get (kinds_of work.plan e.change) e.step ≡ Some kind)

all_of : (work : Work) (w c n : ℕ) (kinds : List StepKind) → ((i : ℕ) (kind : StepKind) → slice_get kinds i ≡ Some kind → slice_get (kinds_of work.plan c) (n + i) ≡ Some kind)
    → AllSuit (IsOfChange work c) w (map (λ p. step_of work c p.0 p.1) (enumerate_from n kinds))
all_of work w c n [] is = tt
all_of work w c n (kind ∷ kinds) is =
    let here : n + 0 ≡ n = omega arith in (
      λ at what. record { named = refl; planned = (kind, subst (λ (x : ℕ). slice_get (kinds_of work.plan c) x ≡ Some kind) here (is 0 kind refl)) },
      all_of work w c (n + 1) kinds (λ i k located. let next : n + suc i ≡ n + 1 + i = omega arith in subst (λ (x : ℕ). slice_get (kinds_of work.plan c) x ≡ Some k) next (is (suc i) k located)),
    )

pub change_is_of : (work : Work) (w c at : ℕ) → Each (IsOfChange work c) (change_events work w c at)
change_is_of work w c at =
    each_of_steps (IsOfChange work c) w (begun (steps_of work c)) at
    (suit_begun (IsOfChange work c) w (steps_of work c) (all_of work w c 0 (kinds_applied work.plan work.script c)
    (λ i kind applied. let same : i ≡ 0 + i = omega arith in subst (λ (x : ℕ). slice_get (kinds_of work.plan c) x ≡ Some kind) same (applied_is_planned work.plan work.script c i kind applied))))

-- ---- the part of a change in a list

both_parts : (c : ℕ) (es fs : List Event) → events_of_change c (es ++ fs) ≡ events_of_change c es ++ events_of_change c fs
both_parts c [] fs = refl
both_parts c (e ∷ es) fs = at (e.change == c) (both_parts c es fs)
  where
    at : (b : Bool) → events_of_change c (es ++ fs) ≡ events_of_change c es ++ events_of_change c fs → cond b (e ∷ events_of_change c (es ++ fs)) (events_of_change c (es ++ fs)) ≡ cond b (e ∷ events_of_change c es) (events_of_change c es) ++ events_of_change c fs
    at true is = ap (λ (l : List Event). e ∷ l) is
    at false is = is

whole_part : (c : ℕ) (es : List Event) → Each (λ e. e.change ≡ c) es → events_of_change c es ≡ es
whole_part c [] h = refl
whole_part c (e ∷ es) h = ap (λ (b : Bool). cond b (e ∷ events_of_change c es) (events_of_change c es)) (eq-eqb e.change c h.0) ∙ ap (λ (l : List Event). e ∷ l) (whole_part c es h.1)

no_part : (c : ℕ) (es : List Event) → Each (λ e. e.change ≢ c) es → events_of_change c es ≡ []
no_part c [] h = refl
no_part c (e ∷ es) h = ap (λ (b : Bool). cond b (e ∷ events_of_change c es) (events_of_change c es)) (ne_eqb e.change c h.0) ∙ no_part c es h.1

first_counted : (c b : ℕ) (changes : List ℕ) → count_of c (b ∷ changes) ≡ cond (b == c) 1 0 + count_of c changes
first_counted c b changes = sum_by-cons (λ x. cond (x == c) 1 0) b changes

module _ (work : Work) (w : ℕ) where
  abbrev turn : List ℕ → ℕ → List Event
  turn changes at = in_turn (change_events work w) (span_of work) changes at

  other_part : (c b at : ℕ) → b ≢ c → events_of_change c (change_events work w b at) ≡ []
  other_part c b at apart = no_part c (change_events work w b at) (each_weaker (IsOfChange work b) (λ e. e.change ≢ c) (λ e is same. apart (sym is.named ∙ same)) (change_events work w b at) (change_is_of work w b at))

  own_part : (c at : ℕ) → events_of_change c (change_events work w c at) ≡ change_events work w c at
  own_part c at = whole_part c (change_events work w c at) (each_weaker (IsOfChange work c) (λ e. e.change ≡ c) (λ e is. is.named) (change_events work w c at) (change_is_of work w c at))

  none_left : (c : ℕ) (changes : List ℕ) (at : ℕ) → count_of c changes ≡ 0 → events_of_change c (turn changes at) ≡ []
  none_left c [] at none = refl
  none_left c (b ∷ changes) at none =
      let count = first_counted c b changes in
      ⊎_elim
      (λ (same : ((b == c) ≡ true) × (b ≡ c)). absurd (let one : cond {A = ℕ} (b == c) 1 0 ≡ 1 = ap (λ (t : Bool). cond t 1 0) same.0 in omega arith))
      (λ (other : ((b == c) ≡ false) × (b ≢ c)).
      let here : cond {A = ℕ} (b == c) 1 0 ≡ 0 = ap (λ (t : Bool). cond t 1 0) other.0 in
      both_parts c (change_events work w b at) (turn changes (at + span_of work b))
      ∙ ap (λ (l : List Event). l ++ events_of_change c (turn changes (at + span_of work b))) (other_part c b at other.1)
      ∙ none_left c changes (at + span_of work b) (omega arith))
      (eqb_tells b c)

  -- a change that stands once has its events
  pub part_of_turn : (c : ℕ) (changes : List ℕ) (at : ℕ) → count_of c changes ≡ 1 → (begin : ℕ) × (events_of_change c (turn changes at) ≡ change_events work w c begin)
  part_of_turn c [] at one = absurd (let none : count_of c [] ≡ 0 = refl in omega arith)
  part_of_turn c (b ∷ changes) at one =
      let count = first_counted c b changes in
      let split = both_parts c (change_events work w b at) (turn changes (at + span_of work b)) in
      ⊎_elim
      (λ (same : ((b == c) ≡ true) × (b ≡ c)).
      let here : cond {A = ℕ} (b == c) 1 0 ≡ 1 = ap (λ (t : Bool). cond t 1 0) same.0 in (
        at,
        split ∙ ap (λ (l : List Event). events_of_change c (change_events work w b at) ++ l) (none_left c changes (at + span_of work b) (omega arith))
            ∙ append-nil (events_of_change c (change_events work w b at)) ∙ ap (λ (x : ℕ). events_of_change c (change_events work w x at)) same.1 ∙ own_part c at,
      ))
      (λ (other : ((b == c) ≡ false) × (b ≢ c)).
      let here : cond {A = ℕ} (b == c) 1 0 ≡ 0 = ap (λ (t : Bool). cond t 1 0) other.0 in
      let rest = part_of_turn c changes (at + span_of work b) (omega arith) in
      (rest.0, split ∙ ap (λ (l : List Event). l ++ events_of_change c (turn changes (at + span_of work b))) (other_part c b at other.1) ∙ rest.1))
      (eqb_tells b c)

-- ---- who has a change

-- a number that is one of a list's, and whose worker no other is
only_one : (f : List ℕ → ℕ) (lists : List (List ℕ)) → sum_by f lists ≡ 1
    → (w : ℕ) × (w < length lists) × (f (get_or lists w []) ≡ 1) × ((v : ℕ) → v < length lists → 1 ≤ f (get_or lists v []) → v ≡ w)
only_one f [] one = absurd (let none : sum_by f [] ≡ 0 = refl in omega arith)
only_one f (list ∷ lists) one =
    let sum = sum_by-cons f list lists in
    ⊎_elim
    (λ (none : f list ≡ 0).
    let rest = only_one f lists (omega arith) in
    (suc rest.0, (let less : rest.0 < length lists = rest.1 in omega arith), rest.2, later none rest.0 rest.3))
    (λ (some : f list ≡ 0 → ⊥).
    let here : f list ≡ 1 = omega arith in
    let nothing : sum_by f lists ≡ 0 = omega arith in
    (0, omega arith, here, first nothing))
    (cases_eq (f list) 0)
  where
    later : f list ≡ 0 → (w : ℕ) → ((v : ℕ) → v < length lists → 1 ≤ f (get_or lists v []) → v ≡ w) → (v : ℕ) → v < suc (length lists) → 1 ≤ f (get_or (list ∷ lists) v []) → v ≡ suc w
    later none w only zero less some = absurd (omega arith)
    later none w only (suc v) less some = ap suc (only v (omega arith) some)

    first : sum_by f lists ≡ 0 → (v : ℕ) → v < suc (length lists) → 1 ≤ f (get_or (list ∷ lists) v []) → v ≡ 0
    first nothing zero less some = refl
    first nothing (suc v) less some = absurd (let part : f (get_or lists v []) ≤ sum_by f lists = get_or-le-sum_by f lists v [] (omega arith) in omega arith)

-- ---- an interleaving

-- what holds of each event of each worker
spread : (P : ℕ → Event → Type 0) (workers : ℕ) (es : List Event) → All (λ (e : Event). e.worker < workers) es → ((w : ℕ) → w < workers → Each (P w) (of_worker w es)) → Each (λ e. P e.worker e) es
spread P workers [] named h = tt
spread P workers (e ∷ es) named h =
    let less : e.worker < workers = All-head (λ (e : Event). e.worker < workers) e es named in
    let own : of_worker e.worker (e ∷ es) ≡ e ∷ of_worker e.worker es = ap (λ (b : Bool). cond b (e ∷ of_worker e.worker es) (of_worker e.worker es)) (eq-eqb e.worker e.worker refl) in
    let here : Each (P e.worker) (e ∷ of_worker e.worker es) = subst (Each (P e.worker)) own (h e.worker less) in
    (here.0, spread P workers es (All-tail (λ (e : Event). e.worker < workers) e es named) (λ w l. rest (P w) (e.worker == w) (of_worker w es) (h w l)))
  where
    rest : (Q : Event → Type 0) (b : Bool) (fs : List Event) → Each Q (cond b (e ∷ fs) fs) → Each Q fs
    rest Q true fs h = h.1
    rest Q false fs h = h

-- a change whose events all name one worker has its part of that worker's part
narrowed : (c w : ℕ) (es : List Event) → Each (λ e. e.change ≡ c → e.worker ≡ w) es → events_of_change c es ≡ events_of_change c (of_worker w es)
narrowed c w [] h = refl
narrowed c w (e ∷ es) h =
    let rest = narrowed c w es h.1 in
    ⊎_elim
    (λ (same : ((e.change == c) ≡ true) × (e.change ≡ c)).
    let mine : (e.worker == w) ≡ true = eq-eqb e.worker w (h.0 same.1) in
    ap (λ (b : Bool). cond b (e ∷ events_of_change c es) (events_of_change c es)) same.0
    ∙ ap (λ (l : List Event). e ∷ l) rest
    ∙ sym (ap (λ (b : Bool). cond b (e ∷ events_of_change c (of_worker w es)) (events_of_change c (of_worker w es))) same.0)
    ∙ ap (events_of_change c) (sym (ap (λ (b : Bool). cond b (e ∷ of_worker w es) (of_worker w es)) mine)))
    (λ (other : ((e.change == c) ≡ false) × (e.change ≢ c)).
    ap (λ (b : Bool). cond b (e ∷ events_of_change c es) (events_of_change c es)) other.0
    ∙ rest
    ∙ skipped (e.worker == w) other.0)
    (eqb_tells e.change c)
  where
    skipped : (b : Bool) → (e.change == c) ≡ false → events_of_change c (of_worker w es) ≡ events_of_change c (cond b (e ∷ of_worker w es) (of_worker w es))
    skipped true no_part_of = sym (ap (λ (t : Bool). cond t (e ∷ events_of_change c (of_worker w es)) (events_of_change c (of_worker w es))) no_part_of)
    skipped false no_part_of = refl

-- each event of a worker is of a change that its list names, and the plan has its step
pub record IsListed (work : Work) (changes : List ℕ) (e : Event) : Type 0 where
  pub listed : 1 ≤ count_of e.change changes
  pub planned : (kind : StepKind) × (slice_get (kinds_of work.plan e.change) e.step ≡ Some kind)

turn_listed : (work : Work) (w : ℕ) (all changes : List ℕ) (at : ℕ) → ((c : ℕ) → count_of c changes ≤ count_of c all) → Each (IsListed work all) (turn work w changes at)
turn_listed work w all [] at within = tt
turn_listed work w all (b ∷ changes) at within =
    each_both (IsListed work all) (change_events work w b at) (turn work w changes (at + span_of work b))
    (each_weaker (IsOfChange work b) (IsListed work all)
    (λ e is. record {
      listed = let same : e.change ≡ b = is.named in subst (λ (x : ℕ). 1 ≤ count_of x all) (sym same)
          (let count = first_counted b b changes in let more = within b in let one : cond {A = ℕ} (b == b) 1 0 ≡ 1 = ap (λ (t : Bool). cond t 1 0) (eq-eqb b b refl) in omega arith);
      planned = is.planned;
    })
    (change_events work w b at) (change_is_of work w b at))
    (turn_listed work w all changes (at + span_of work b) (λ c. let count = first_counted c b changes in let more = within c in omega arith))

pub worker_listed : (work : Work) (w : ℕ) (changes : List ℕ) → Each (IsListed work changes) (worker_events work w changes)
worker_listed work w changes = turn_listed work w changes changes 0 (λ c. omega arith)

module _ (work : Work) (workers limit : ℕ) (lists : List (List ℕ)) (events : List Event)
    (dealt : IsPartition workers limit lists) (interleaved : IsInterleaving workers (λ w. worker_events work w (get_or lists w [])) events) where
  pub all_listed : Each (λ e. IsListed work (get_or lists e.worker []) e) events
  all_listed = spread (λ w e. IsListed work (get_or lists w []) e) workers events interleaved.named (λ w less. subst (Each (IsListed work (get_or lists w []))) (sym (interleaved.parts w less)) (worker_listed work w (get_or lists w [])))

  owners : (c w : ℕ) (es : List Event) → All (λ (e : Event). e.worker < workers) es → Each (λ e. IsListed work (get_or lists e.worker []) e) es
      → ((v : ℕ) → v < workers → 1 ≤ count_of c (get_or lists v []) → v ≡ w) → Each (λ e. e.change ≡ c → e.worker ≡ w) es
  owners c w [] named listed only = tt
  owners c w (e ∷ es) named listed only = (
    λ same. only e.worker (All-head (λ (e : Event). e.worker < workers) e es named) (subst (λ (x : ℕ). 1 ≤ count_of x (get_or lists e.worker [])) same listed.0.listed),
    owners c w es (All-tail (λ (e : Event). e.worker < workers) e es named) listed.1 only,
  )

  -- the part of a change is its events, whoever applied it
  pub part_of_change : (c : ℕ) → c < limit → (w : ℕ) × (begin : ℕ) × (events_of_change c events ≡ change_events work w c begin)
  part_of_change c less =
      let whose = only_one (count_of c) lists (dealt.once c ∙ ap (λ (b : Bool). cond b 1 0) (lt-ltb c limit less)) in
      let count : length lists ≡ workers = dealt.count in
      let mine : Each (λ e. e.change ≡ c → e.worker ≡ whose.0) events = owners c whose.0 events interleaved.named all_listed (λ v l. whose.3 v (omega arith)) in
      let part = part_of_turn work whose.0 c (get_or lists whose.0 []) 0 whose.2 in
      (whose.0, part.0, narrowed c whose.0 events mine ∙ ap (events_of_change c) (interleaved.parts whose.0 (let l : whose.0 < length lists = whose.1 in omega arith)) ∙ part.1)

-- ---- all of it

-- the steps of a change that begin are whole, one after another
begun_are_whole : (w : ℕ) (steps : List Step) (at : ℕ) → AreOfSteps steps (in_turn (step_events w) step_time (begun steps) at)
begun_are_whole w [] at = refl
begun_are_whole w (s ∷ steps) at =
    let then = at + step_time s in
    inr (
      w,
      at,
      in_turn (step_events w) step_time (cond (goes_on s) (begun steps) []) then,
      refl,
      λ on. subst (λ (b : Bool). AreOfSteps steps (in_turn (step_events w) step_time (cond b (begun steps) []) then)) (sym on) (begun_are_whole w steps then),
      λ off. ap (λ (b : Bool). in_turn (step_events w) step_time (cond b (begun steps) []) then) off,
    )

all_of_each : (P : Event → Type 0) (es : List Event) → Each P es → All P es
all_of_each P [] h = All-nil P
all_of_each P (e ∷ es) h = All-cons P e es h.0 (all_of_each P es h.1)

pub each_of_all : (P : Event → Type 0) (es : List Event) → All P es → Each P es
each_of_all P [] h = tt
each_of_all P (e ∷ es) h = (All-head P e es h, each_of_all P es (All-tail P e es h))

-- what workers report to whom all changes are dealt out
pub run_of_whole_steps : (work : Work) (workers : ℕ) (lists : List (List ℕ)) (events : List Event) → IsPartition workers (length work.plan.changes) lists → IsInterleaving workers (λ w. worker_events work w (get_or lists w [])) events
    → IsOfWholeSteps work events
run_of_whole_steps work workers lists events dealt interleaved =
    let limit = length work.plan.changes in
    record {
      planned = all_of_each (λ e. HasStep work.plan e.change e.step) events
          (each_weaker (λ e. IsListed work (get_or lists e.worker []) e) (λ e. HasStep work.plan e.change e.step)
          (λ e is. slice_get_within (kinds_of work.plan e.change) e.step is.planned.0 is.planned.1) events (all_listed work workers limit lists events dealt interleaved));
      whole = λ c less.
          let part = part_of_change work workers limit lists events dealt interleaved c less in
          subst (AreOfSteps (steps_of work c)) (sym part.2) (begun_are_whole part.0 (steps_of work c) part.1);
    }

-- ---- as they are written

each_verbatim : (P : Event → Type 0) (test : Event → Bool) (es : List Event) → Each P es → Each P (filter test es)
each_verbatim P test [] h = tt
each_verbatim P test (e ∷ es) h = at (test e) (each_verbatim P test es h.1)
  where
    at : (b : Bool) → Each P (filter test es) → Each P (cond b (e ∷ filter test es) (filter test es))
    at true rest = (h.0, rest)
    at false rest = rest

pub each_written : (P : Event → Type 0) (es : List Event) → Each P es → Each P (as_written es)
each_written P es h = each_both P (hook_messages_of es) (notes_of es) (each_verbatim P (λ e. not (is_note e.what)) es h) (each_verbatim P (λ e. is_note e.what) es h)

filters_swap : {X : Type 0} (p q : X → Bool) (xs : List X) → filter p (filter q xs) ≡ filter q (filter p xs)
filters_swap p q [] = refl
filters_swap p q (x ∷ xs) = at (p x) (q x) refl refl (filters_swap p q xs)
  where
    at : (a b : Bool) → p x ≡ a → q x ≡ b → filter p (filter q xs) ≡ filter q (filter p xs) → filter p (cond b (x ∷ filter q xs) (filter q xs)) ≡ filter q (cond a (x ∷ filter p xs) (filter p xs))
    at true true e f rest = ap (λ (t : Bool). cond t (x ∷ filter p (filter q xs)) (filter p (filter q xs))) e ∙ ap (λ l. x ∷ l) rest ∙ sym (ap (λ (t : Bool). cond t (x ∷ filter q (filter p xs)) (filter q (filter p xs))) f)
    at true false e f rest = rest ∙ sym (ap (λ (t : Bool). cond t (x ∷ filter q (filter p xs)) (filter q (filter p xs))) f)
    at false true e f rest = ap (λ (t : Bool). cond t (x ∷ filter p (filter q xs)) (filter p (filter q xs))) e ∙ rest
    at false false e f rest = rest

pub part_of_verbatim : (c : ℕ) (test : Event → Bool) (es : List Event) → events_of_change c (filter test es) ≡ filter test (events_of_change c es)
part_of_verbatim c test es = filters_swap (λ (e : Event). e.change == c) test es
