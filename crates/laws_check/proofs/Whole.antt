-- The whole stream in the default form: version, events, and summary.
use Rattle.std.proofs.Common.{◌≡◌, ◌≢◌, ℕ, ◌+◌, ◌<◌, List, [], ◌∷◌, ◌++◌, length, Bool, true, false, cond, Option, Some, None, Result, Ok, Err, refl, sym, ap, ap₂, ◌∙◌, subst, ⊎_elim, is_some, count_by, arith, eq-eqb}
use Rattle.std.specs.Prelude.{◌&&◌, ◌||◌, not}
use Rattle.std.specs.List.{list_any}
use Rattle.std.specs.Option.{option_map_or}
use Rattle.std.proofs.Math.Bool.{and-false}
use Rattle.std.proofs.lemmas.Bool.{or_parts}
use Rattle.std.proofs.lemmas.List.Sums.{sum_by-cons}
use Rattle.stream_check.specs.declared.messages.action.Action.{Action}
use Rattle.stream_check.specs.declared.messages.action.Action.TheVariants.{Create, Update, Delete, Read, Refresh}
use Rattle.stream_check.specs.declared.messages.totals.Totals.{Totals}
use Rattle.stream_check.specs.declared.rules.fault.Fault.{Fault}
use Rattle.stream_check.specs.declared.rules.fault.Fault.TheVariants.{AfterSummary, Planned}
use Rattle.stream_check.specs.declared.rules.address_state.AddressState.{AddressState}
use Rattle.stream_check.specs.Lines.{end_of, is_plan_stream, leaves_planned, next, summed, whole_of}
use Rattle.stream_check.specs.Message.{Message, version, summary}
use Rattle.stream_check.specs.Open.{any_open, stands_open}
use Rattle.stream_check.specs.Results.{◌>>=◌}
use Rattle.stream_check.specs.AddressState.{pending_at, state_of}
use Rattle.stream_check.specs.Tally.{completed_totals, is_error, is_plan_summary, is_summary, is_version, line_of, same_totals}
use Rattle.stream_check.specs.Unbegun.{any_unbegun, is_unbegun, planned_address, unbegun_at}
use Rattle.stream_check.proofs.OpenSteps.{not_any_open}
use Rattle.laws_check.specs.Passing.{plain, verdict_on, with_all}
use Rattle.laws_check.proofs.Counting.{counted, none_or_some}
use Rattle.laws_check.proofs.Fitting.{MatchesPending, nothing_fits}
use Rattle.laws_check.proofs.Moves.{Agrees, shown_is}
use Rattle.laws_check.proofs.Ordinary.{Anywhere}
use Rattle.laws_check.proofs.Phases.{IsAtRest, Phase, between, under_way, shown}
use Rattle.laws_check.proofs.Standings.{next_after}
use Rattle.laws_check.proofs.Turning.{Runs, followed_by, joined}

-- ---- the begin

none_shown : (limit : ℕ) (addresses : ℕ → List ℕ) (phases : ℕ → Phase) (a : List ℕ) (k : Action) → ((c : ℕ) → c < limit → phases c ≡ between) → counted (shown addresses phases a k) 0 limit ≡ 0
none_shown limit addresses phases a k rest =
    ⊎_elim
    (λ none. none)
    (λ located. let seen = shown_is addresses phases a k located.0 located.1 located.3 in
    absurd (let e : between ≡ under_way k located.1 seen.1 = sym (rest located.0 (let less : located.0 < 0 + limit = located.2 in omega arith)) ∙ seen.2 in cc))
    (none_or_some (shown addresses phases a k) 0 limit)

-- if the changes are at rest, nothing is under way but reads
none_left : (limit : ℕ) (addresses : ℕ → List ℕ) (phases : ℕ → Phase) (a : List ℕ) (k : Action) → k ≢ Read → ((c : ℕ) → c < limit → IsAtRest (phases c)) → counted (shown addresses phases a k) 0 limit ≡ 0
none_left limit addresses phases a k other rest =
    ⊎_elim
    (λ none. none)
    (λ located. let seen = shown_is addresses phases a k located.0 located.1 located.3 in
    absurd (other (subst IsAtRest seen.2 (rest located.0 (let less : located.0 < 0 + limit = located.2 in omega arith)))))
    (none_or_some (shown addresses phases a k) 0 limit)

pub at_begin : (limit : ℕ) (addresses : ℕ → List ℕ) (Does : ℕ → Action → Type 0) (Provides : ℕ → Type 0) → Agrees limit addresses Anywhere Does Provides (λ c. between) (version ∷ [])
unfolding state_of
at_begin limit addresses Does Provides = record {
  open_steps = λ a k _. idle_at a k (none_shown limit addresses (λ c. between) a k (λ c less. refl));
  provisioners = λ a _ some. absurd cc;
  provisioning = λ c less _ is. absurd (let e : between ≡ under_way is.1 is.0 true = is.2 in cc);
  failures = λ a _ some. absurd cc;
  does = λ c t k b e. absurd cc;
  provides = λ c is. absurd (let e : between ≡ under_way is.1 is.0 true = is.2 in cc);
  amid = (refl, refl, refl);
}
  where
    idle_at : (a : List ℕ) (k : Action) → counted (shown addresses (λ c. between) a k) 0 limit ≡ 0 → MatchesPending limit k (shown addresses (λ c. between) a k) (pending_at k (state_of a (version ∷ [])))
    idle_at a Create none = none
    idle_at a Update none = none
    idle_at a Delete none = none
    idle_at a Read none = none
    idle_at a Refresh none = none

-- ---- the end: nothing stands open but reads

-- failures do not keep an address open
pub closed_but : (r : Bool) (s : AddressState) → s.create ≡ None → s.update ≡ None → s.delete ≡ None → s.refresh ≡ None → stands_open r false s ≡ false
closed_but true s c u d x = rw (c, u, d, x) refl
closed_but false s c u d x = rw (c, u, d) refl

closed_from : (r f : Bool) (s : AddressState) → s.create ≡ None → s.update ≡ None → s.delete ≡ None → s.refresh ≡ None → s.failures ≡ None → stands_open r f s ≡ false
closed_from r false s c u d x y = closed_but r s c u d x
closed_from true true s c u d x y = rw (c, u, d, x, y) refl
closed_from false true s c u d x y = rw (c, u, d, y) refl

nothing : {X : Type 0} (o : Option X) → (is_some o ≡ true → ⊥) → o ≡ None
nothing None h = refl
nothing (Some x) h = absurd (h refl)

pub none_stands : (limit : ℕ) (addresses : ℕ → List ℕ) (Does : ℕ → Action → Type 0) (Provides : ℕ → Type 0) (phases : ℕ → Phase) (ms : List Message) → Agrees limit addresses Anywhere Does Provides phases ms → ((c : ℕ) → c < limit → IsAtRest (phases c))
    → (k : Action) → k ≢ Read → (a : List ℕ) → pending_at k (state_of a ms) ≡ None
none_stands limit addresses Does Provides phases ms agrees rest k other a = nothing_fits limit k (shown addresses phases a k) (pending_at k (state_of a ms)) (agrees.open_steps a k tt) (none_left limit addresses phases a k other rest)

closed_at_end : (limit : ℕ) (addresses : ℕ → List ℕ) (Does : ℕ → Action → Type 0) (Provides : ℕ → Type 0) (phases : ℕ → Phase) (ms : List Message) → Agrees limit addresses Anywhere Does Provides phases ms → ((c : ℕ) → c < limit → IsAtRest (phases c))
    → (r f : Bool) (a : List ℕ) → stands_open r f (state_of a ms) ≡ false
closed_at_end limit addresses Does Provides phases ms agrees rest r f a =
    let none = λ (k : Action) (other : k ≢ Read). none_stands limit addresses Does Provides phases ms agrees rest k other a in
    closed_from r f (state_of a ms) (none Create (λ e. absurd cc)) (none Update (λ e. absurd cc)) (none Delete (λ e. absurd cc)) (none Refresh (λ e. absurd cc))
    (nothing (state_of a ms).failures (λ some. let located = agrees.failures a tt some in subst IsAtRest located.3 (rest located.0 located.1)))

-- ---- the summary

agree : (t : Totals) → same_totals t t ≡ true
agree t = rw (eq-eqb t.added t.added refl, eq-eqb t.changed t.changed refl, eq-eqb t.removed t.removed refl) refl

pub next_summary : (t : Totals) (ms : List Message) → is_some (line_of is_version ms) ≡ true → line_of is_summary ms ≡ None → any_open ms ≡ false → t ≡ completed_totals ms → next ms (summary t) ≡ Ok (summary t ∷ ms)
next_summary t ms begun unsummed closed same =
    let agrees : same_totals t (completed_totals ms) ≡ true = ap (same_totals t) (sym same) ∙ agree t in
    next_after ms (summary t) begun (λ first. ap (λ (o : Option ℕ). option_map_or (λ line. Err (AfterSummary line)) o (summed t ms)) unsummed ∙ rw (closed, agrees) refl)

still_closed : (t : Totals) (ms : List Message) (a : List ℕ) → state_of a (summary t ∷ ms) ≡ state_of a ms
unfolding state_of
still_closed t ms a = refl

-- the message is about a planned change with an address
abbrev pub plans_somewhere : Message → Bool
plans_somewhere m = is_some (planned_address m)

-- a stream that is no plan's, and has a summary or an error
pub whole_end : (plans : Bool) (ms : List Message) → any_open ms ≡ false → is_plan_stream ms ≡ false → leaves_planned ms ≡ false → (list_any is_summary ms || list_any is_error ms) ≡ true → end_of (plain plans) ms ≡ Ok (whole_of (plain plans) ms)
unfolding end_of
whole_end true ms closed no_plan begun ends = rw (closed, no_plan, begun, ends) refl
whole_end false ms closed no_plan begun ends = rw (closed, begun, ends) refl

-- a stream that is no plan's, and leaves a planned create
pub planned_end : (plans : Bool) (ms : List Message) → any_open ms ≡ false → is_plan_stream ms ≡ false → leaves_planned ms ≡ true → end_of (plain plans) ms ≡ Err Planned
unfolding end_of
planned_end true ms closed no_plan left = rw (closed, no_plan, left) refl
planned_end false ms closed no_plan left = rw (closed, left) refl

-- where nothing is planned, nothing planned is left
none_planned : (all ms : List Message) → list_any plans_somewhere ms ≡ false → list_any (is_unbegun all) ms ≡ false
none_planned all [] none = refl
none_planned all (m ∷ ms) none = let both = or_parts (plans_somewhere m) (list_any plans_somewhere ms) none in ap₂ (λ (a b : Bool). a || b) (unplanned (planned_address m) both.0) (none_planned all ms both.1)
  where
    unplanned : (o : Option (List ℕ)) → is_some o ≡ false → option_map_or (λ a. is_some (unbegun_at a all)) o false ≡ false
    unplanned None is = refl
    unplanned (Some a) is = absurd cc

leaves_none : (ms : List Message) → list_any plans_somewhere ms ≡ false → leaves_planned ms ≡ false
unfolding any_unbegun
leaves_none ms none = ap (λ (b : Bool). (list_any is_summary ms && not (list_any is_error ms)) && b) (none_planned ms ms none) ∙ and-false (list_any is_summary ms && not (list_any is_error ms))

-- where an apply is summed up, the stream is no plan's
pub summed_up : (t : Totals) (ms : List Message) → is_plan_stream (summary t ∷ ms) ≡ false
summed_up t ms = and-false (is_some (line_of is_plan_summary ms))

-- ---- some message

or_swapped : (a b c : Bool) → ((b || a) || c) ≡ (a || (b || c))
or_swapped true true c = refl
or_swapped true false c = refl
or_swapped false true c = refl
or_swapped false false c = refl

pub any_followed_by : (p : Message → Bool) (earlier ms : List Message) → list_any p (followed_by earlier ms) ≡ (list_any p earlier || list_any p ms)
any_followed_by p earlier [] = or_false (list_any p earlier)
  where
    or_false : (b : Bool) → b ≡ (b || false)
    or_false true = refl
    or_false false = refl
any_followed_by p earlier (m ∷ ms) = any_followed_by p (m ∷ earlier) ms ∙ or_swapped (list_any p earlier) (p m) (list_any p ms)

-- ---- all messages

pub accepted : (takes_plans : Bool) (limit : ℕ) (addresses : ℕ → List ℕ) (Does : ℕ → Action → Type 0) (Provides : ℕ → Type 0) (ms : List Message) (t : Totals) → Runs limit addresses Anywhere Does Provides (version ∷ []) ms → list_any plans_somewhere ms ≡ false → t ≡ completed_totals (followed_by (version ∷ []) ms)
    → verdict_on (plain takes_plans) (version ∷ (ms ++ summary t ∷ [])) ≡ Ok (whole_of (plain takes_plans) (summary t ∷ followed_by (version ∷ []) ms))
accepted takes_plans limit addresses Does Provides ms t runs none_plans totals =
    let later = followed_by (version ∷ []) ms in
    let agrees = runs.1.1 in
    let closed = closed_at_end limit addresses Does Provides runs.1.0 later agrees runs.1.2 in
    let last : next later (summary t) ≡ Ok (summary t ∷ later) = next_summary t later agrees.amid.0 agrees.amid.1 (not_any_open later (closed _ _)) totals in
    let all = summary t ∷ later in
    let none : any_open all ≡ false = not_any_open all (λ a. ap (stands_open _ _) (still_closed t later a) ∙ closed _ _ a) in
    ap (λ (r : Result (List Message) Fault). r >>= end_of (plain takes_plans)) (joined (version ∷ []) later ms (summary t ∷ []) runs.0 ∙ ap (λ (r : Result (List Message) Fault). r >>= λ all. with_all all []) last)
    ∙ whole_end takes_plans all none (summed_up t later) (leaves_none all (any_followed_by plans_somewhere (version ∷ []) ms ∙ none_plans)) refl

-- ---- the messages

pub counts_followed_by : (p : Message → Bool) (earlier ms : List Message) → count_by p (followed_by earlier ms) ≡ count_by p earlier + count_by p ms
counts_followed_by p earlier [] = let none : count_by p [] ≡ 0 = refl in omega arith
counts_followed_by p earlier (m ∷ ms) =
    let rest = counts_followed_by p (m ∷ earlier) ms in
    let here = sum_by-cons (λ x. cond (p x) 1 0) m earlier in
    let there = sum_by-cons (λ x. cond (p x) 1 0) m ms in
    omega arith

pub length_followed_by : (earlier ms : List Message) → length (followed_by earlier ms) ≡ length earlier + length ms
length_followed_by earlier [] = omega arith
length_followed_by earlier (m ∷ ms) = let rest = length_followed_by (m ∷ earlier) ms in omega arith
