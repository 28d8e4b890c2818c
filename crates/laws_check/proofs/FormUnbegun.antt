-- The planned creates that a checker finds never begun, in Terraform's form, are the creates of the
-- plan that never start.
use Rattle.std.proofs.Common.{◌≡◌, ℕ, zero, suc, ◌+◌, ◌-◌, ◌<◌, ◌≤◌, List, [], ◌∷◌, ◌++◌, cond, count_by, length, Bool, true, false, Option, Some, None, is_some, refl, sym, ap, ◌∙◌, subst, arith}
use Rattle.std.specs.Prelude.{◌&&◌, ◌==◌, nat_lt}
use Rattle.std.specs.Str.{bytes_eq}
use Rattle.std.proofs.lemmas.Bool.{lt-ltb}
use Rattle.std.proofs.lemmas.List.Sums.{sum_by-cons}
use Rattle.stream_check.specs.declared.messages.action.Action.TheVariants as action
use Rattle.stream_check.specs.declared.messages.intent.Intent.{Intent}
use Rattle.stream_check.specs.declared.rules.pending.Pending.{Pending}
use Rattle.stream_check.specs.declared.rules.pending.Pending.TheVariants.{One, Several}
use Rattle.stream_check.specs.Intents.{creates}
use Rattle.stream_check.specs.Limits.{max_lines}
use Rattle.stream_check.specs.Message.{Message, version, step, provision, planned, plan_summary, summary, diagnostic, outputs, other, foreign}
use Rattle.stream_check.specs.Tally.{begins, begun_totals}
use Rattle.stream_check.specs.Unbegun.{one_begun, one_planned, starts_create, unbegun_after, unbegun_at}
use Rattle.laws_check.proofs.FormFailures.{AreDiagnostics}
use Rattle.laws_check.proofs.FormWhole.{AreIntents}
use Rattle.laws_check.proofs.Turning.{followed_by}

-- ---- how many creates wait at an address

abbrev pub waits : Option Pending → ℕ
waits None = 0
waits (Some (One start_line last_seconds since)) = 1
waits (Some (Several start_line count)) = count

-- some wait where the number is not 0
abbrev pub Counts : Option Pending → Type 0
Counts w = is_some w ≡ nat_lt 0 (waits w)

begun_one : (w : Option Pending) → Counts w → (waits (one_begun w) ≡ waits w - 1) × Counts (one_begun w)
begun_one None is = (refl, refl)
begun_one (Some (One start_line last_seconds since)) is = (refl, refl)
begun_one (Some (Several start_line zero)) is = absurd cc
begun_one (Some (Several start_line (suc zero))) is = (refl, refl)
begun_one (Some (Several start_line (suc (suc n)))) is =
    let several : nat_lt 1 (suc (suc n)) ≡ true = lt-ltb 1 (suc (suc n)) (omega arith) in
    let left : nat_lt 0 (suc (suc n) - 1) ≡ true = lt-ltb 0 (suc (suc n) - 1) (omega arith) in
    rw several (refl, sym left)

planned_one : (line : ℕ) (w : Option Pending) → Counts w → waits w < max_lines → (waits (Some (one_planned line w)) ≡ waits w + 1) × Counts (Some (one_planned line w))
planned_one line None is few = (refl, refl)
planned_one line (Some (One start_line last_seconds since)) is few = (refl, refl)
planned_one line (Some (Several start_line count)) is few =
    let less : nat_lt count max_lines ≡ true = lt-ltb count max_lines few in
    (ap (λ (b : Bool). cond b (count + 1) count) less, sym (ap (λ (b : Bool). nat_lt 0 (cond b (count + 1) count)) less ∙ lt-ltb 0 (count + 1) (omega arith)))

-- ---- messages that plan creates at the address, and that start them

module _ (a : List ℕ) where
  abbrev pub plans_here : Message → Bool
  plans_here version = false
  plans_here (step b k stage) = false
  plans_here (provision b stage) = false
  plans_here (planned i None) = false
  plans_here (planned i (Some b)) = creates i && bytes_eq b a
  plans_here (plan_summary t) = false
  plans_here (summary t) = false
  plans_here (diagnostic severe o) = false
  plans_here outputs = false
  plans_here other = false
  plans_here foreign = false

  abbrev pub starts_here : Message → Bool
  starts_here version = false
  starts_here (step b k stage) = starts_create stage k && bytes_eq b a
  starts_here (provision b stage) = false
  starts_here (planned i o) = false
  starts_here (plan_summary t) = false
  starts_here (summary t) = false
  starts_here (diagnostic severe o) = false
  starts_here outputs = false
  starts_here other = false
  starts_here foreign = false

  -- so many wait after these messages
  abbrev pub IsWaiting : List Message → ℕ → Type 0
  IsWaiting ms n = (waits (unbegun_at a ms) ≡ n) × Counts (unbegun_at a ms)

  one_more : (i : Intent) (o : Option (List ℕ)) (ns : List Message) (n : ℕ) → (begun_totals ns).added ≡ 0 → n < max_lines → IsWaiting ns n → IsWaiting (planned i o ∷ ns) (n + cond (plans_here (planned i o)) 1 0)
  unfolding unbegun_at
  one_more i None ns n none few waiting = (waiting.0 ∙ (let e : n ≡ n + 0 = omega arith in e), waiting.1)
  one_more i (Some b) ns n none few waiting = at (creates i) (bytes_eq b a) (begun_totals ns).added none
    where
      at : (x y : Bool) (begun : ℕ) → begun ≡ 0
          → (waits (cond ((x && begun == 0) && y) (Some (one_planned (length ns + 1) (unbegun_at a ns))) (unbegun_at a ns)) ≡ n + cond (x && y) 1 0) × Counts (cond ((x && begun == 0) && y) (Some (one_planned (length ns + 1) (unbegun_at a ns))) (unbegun_at a ns))
      at true true begun is =
          let more = planned_one (length ns + 1) (unbegun_at a ns) waiting.1 (omega (arith, waiting.0)) in
          rw is (more.0 ∙ ap (λ (m : ℕ). m + 1) waiting.0, more.1)
      at true false begun is = rw is (waiting.0 ∙ (let e : n ≡ n + 0 = omega arith in e), waiting.1)
      at false y begun is = (waiting.0 ∙ (let e : n ≡ n + 0 = omega arith in e), waiting.1)

  -- planned changes, before any create has begun
  pub all_wait : (ps ns : List Message) (n : ℕ) → AreIntents ps → (begun_totals ns).added ≡ 0 → n + length ps < max_lines → IsWaiting ns n → IsWaiting (followed_by ns ps) (n + count_by plans_here ps)
  all_wait [] ns n intents none few waiting = (waiting.0 ∙ (let e : n ≡ n + 0 = omega arith in e), waiting.1)
  all_wait (p ∷ ps) ns n intents none few waiting =
      let here : IsWaiting (p ∷ ns) (n + cond (plans_here p) 1 0) = subst (λ (m : Message). IsWaiting (m ∷ ns) (n + cond (plans_here m) 1 0)) (sym intents.0.2) (one_more intents.0.0 intents.0.1 ns n none (omega arith) waiting) in
      let still : (begun_totals (p ∷ ns)).added ≡ 0 = subst (λ (m : Message). (begun_totals (m ∷ ns)).added ≡ 0) (sym intents.0.2) (let all = sum_by-cons (λ m. cond (begins action.Create m) 1 0) (planned intents.0.0 intents.0.1) ns in omega (arith, none)) in
      let bit = at_most_one (plans_here p) in
      let rest = all_wait ps (p ∷ ns) (n + cond (plans_here p) 1 0) intents.1 still (omega arith) here in
      let all = sum_by-cons (λ m. cond (plans_here m) 1 0) p ps in
      (rest.0 ∙ (let e : n + cond (plans_here p) 1 0 + count_by plans_here ps ≡ n + count_by plans_here (p ∷ ps) = omega arith in e), rest.1)
    where
      at_most_one : (b : Bool) → cond {A = ℕ} b 1 0 ≤ 1
      at_most_one true = omega arith
      at_most_one false = omega arith

  -- messages that plan nothing
  abbrev pub PlanNothing : List Message → Type 0
  PlanNothing [] = Unit {0}
  PlanNothing (m ∷ ms) = ((line begun : ℕ) (w : Option Pending) → unbegun_after a line begun m w ≡ cond (starts_here m) (one_begun w) w) × PlanNothing ms

  one_less : (m : Message) (ns : List Message) (n : ℕ) → ((line begun : ℕ) (w : Option Pending) → unbegun_after a line begun m w ≡ cond (starts_here m) (one_begun w) w) → IsWaiting ns n → IsWaiting (m ∷ ns) (n - cond (starts_here m) 1 0)
  unfolding unbegun_at
  one_less m ns n is waiting = subst (λ (w : Option Pending). (waits w ≡ n - cond (starts_here m) 1 0) × Counts w) (sym (is (length ns + 1) (begun_totals ns).added (unbegun_at a ns))) (at (starts_here m))
    where
      at : (b : Bool) → (waits (cond b (one_begun (unbegun_at a ns)) (unbegun_at a ns)) ≡ n - cond b 1 0) × Counts (cond b (one_begun (unbegun_at a ns)) (unbegun_at a ns))
      at true = let less = begun_one (unbegun_at a ns) waiting.1 in (less.0 ∙ ap (λ (m : ℕ). m - 1) waiting.0, less.1)
      at false = (waiting.0 ∙ (let e : n ≡ n - 0 = omega arith in e), waiting.1)

  pub all_begin : (hs ns : List Message) (n : ℕ) → PlanNothing hs → IsWaiting ns n → IsWaiting (followed_by ns hs) (n - count_by starts_here hs)
  all_begin [] ns n nothing waiting = (waiting.0 ∙ (let e : n ≡ n - 0 = omega arith in e), waiting.1)
  all_begin (h ∷ hs) ns n nothing waiting =
      let rest = all_begin hs (h ∷ ns) (n - cond (starts_here h) 1 0) nothing.1 (one_less h ns n nothing.0 waiting) in
      let all = sum_by-cons (λ m. cond (starts_here m) 1 0) h hs in
      (rest.0 ∙ (let e : (n - cond (starts_here h) 1 0) - count_by starts_here hs ≡ n - count_by starts_here (h ∷ hs) = omega arith in e), rest.1)

  pub nothing_both : (xs ys : List Message) → PlanNothing xs → PlanNothing ys → PlanNothing (xs ++ ys)
  nothing_both [] ys h k = k
  nothing_both (x ∷ xs) ys h k = (h.0, nothing_both xs ys h.1 k)

  pub diagnostics_nothing : (xs : List Message) → AreDiagnostics xs → PlanNothing xs
  diagnostics_nothing [] h = tt
  diagnostics_nothing (x ∷ xs) h = (subst (λ (m : Message). (line begun : ℕ) (w : Option Pending) → unbegun_after a line begun m w ≡ cond (starts_here m) (one_begun w) w) (sym h.0.2) (λ line begun w. refl), diagnostics_nothing xs h.1)

  pub diagnostics_start_none : (xs : List Message) → AreDiagnostics xs → count_by starts_here xs ≡ 0
  diagnostics_start_none [] h = refl
  diagnostics_start_none (x ∷ xs) h =
      let all = sum_by-cons (λ m. cond (starts_here m) 1 0) x xs in
      let here : cond {A = ℕ} (starts_here x) 1 0 ≡ 0 = ap (λ (m : Message). cond (starts_here m) 1 0) h.0.2 in
      let rest = diagnostics_start_none xs h.1 in
      omega arith

  pub at_version_waits : IsWaiting (version ∷ []) 0
  unfolding unbegun_at
  at_version_waits = (refl, refl)
