-- The turns that wait for each step: each further one leads to those before it.
use Rattle.std.proofs.Common.{◌≡◌, ◌≢◌, ℕ, zero, suc, ◌+◌, ◌-◌, ◌<◌, ◌≤◌, Bool, true, false, ◌&&◌, List, [], ◌∷◌, ◌++◌, Some, cond, get_or, length, set, take, refl, sym, ap, ◌∙◌, subst, ⊎_elim, arith, eqb, eq-eqb, ne_eqb, length-append}
use Rattle.std.specs.Prelude.{slice_get}
use Rattle.std.proofs.lemmas.Bool.{and_parts, cases_Bool, cases_eq, true≢false}
use Rattle.std.proofs.lemmas.Bool.Decides.{eqb_tells}
use Rattle.std.proofs.lemmas.List.{get_or-set_other, get_or-set_same, get_or_append_left, length-set}
use Rattle.std.proofs.Math.Seq.{get_or-append_seam}
use Rattle.apply_model.specs.declared.script.wait.Wait.{Wait}
use Rattle.apply_model.specs.Script.OutcomeMap.{OutcomeMap, outcome_of}
use Rattle.apply_model.specs.Script.Waits.{waits_of}
use Rattle.apply_events.specs.declared.lanes.queue.followers.Follower.{Follower}
use Rattle.apply_events.specs.declared.lanes.queue.followers.Followers.{Followers}
use Rattle.apply_events.specs.declared.lanes.turn.Turn.{Turn}
use Rattle.apply_events.specs.Waits.Queue.{Follow, HasPlace, IsChain, with_waits_of, follower_at, is_same_wait, last_at, named, one_if, place_of, step_before, times, turn_waits}

-- ---- steps

pub from_test : (a b : ℕ) → eqb a b ≡ true → a ≡ b
from_test a b same = ⊎_elim
    (λ (c : _ × (a ≡ b)). c.1)
    (λ (c : (eqb a b ≡ false) × (a ≢ b)). absurd (true≢false (sym same ∙ c.0)))
    (eqb_tells a b)

pub wait_is : (a b : Wait) → a.change ≡ b.change → a.step ≡ b.step → a ≡ b
wait_is a b change step =
    ap (λ c. let w : Wait = record { change = c; step = a.step } in w) change ∙ ap (λ s. let w : Wait = record { change = b.change; step = s } in w) step

pub same_wait : (a b : Wait) → is_same_wait a b ≡ true → a ≡ b
same_wait a b same =
    let both = and_parts (eqb a.change b.change) (eqb a.step b.step) same in
    wait_is a b (from_test a.change b.change both.0) (from_test a.step b.step both.1)

pub is_same : (a b : Wait) → a.change ≡ b.change → a.step ≡ b.step → is_same_wait a b ≡ true
is_same a b change step = ap (λ t. t && eqb a.step b.step) (eq-eqb a.change b.change change) ∙ eq-eqb a.step b.step step

-- steps that differ have places that differ
other_place : (a b : Wait) → a.step < 2 → b.step < 2 → is_same_wait a b ≡ false → place_of b ≢ place_of a
other_place a b low high differ is = absurd (true≢false (sym (is_same a b (omega arith) (omega arith)) ∙ differ))

-- ---- chains

pub chain_low : (all : List Follower) (place : ℕ) (turns : List ℕ) → IsChain all place turns → place ≤ length all
chain_low all place [] h = omega arith
chain_low all place (turn ∷ turns) h = h.1

chain_on : (all more : List Follower) (place : ℕ) (turns : List ℕ) → IsChain all place turns → IsChain (all ++ more) place turns
chain_on all more place [] h = h
chain_on all more place (turn ∷ turns) h =
    let some = h.0 in let fits = h.1 in
    let size = length-append all more in
    let same : follower_at (all ++ more) (place - 1) ≡ follower_at all (place - 1) = get_or_append_left all more (record { turn = 0; before = 0 }) (place - 1) (omega arith) in (
      some,
      omega arith,
      ap (λ (f : Follower). f.turn) same ∙ h.2,
      subst (λ (f : Follower). f.before < place) (sym same) h.3,
      subst (λ (f : Follower). IsChain (all ++ more) f.before turns) (sym same) (chain_on all more (follower_at all (place - 1)).before turns h.4),
    )

-- ---- counts

also_other : (count : Wait → ℕ → ℕ) (turn : ℕ) (step name : Wait) (number : ℕ) → is_same_wait step name ≡ false → with_waits_of count turn (step ∷ []) name number ≡ count name number
also_other count turn step name number differ = by_test (eqb number turn) (named name (step ∷ [])) (count name number) (ap (λ t. one_if t + 0) differ)
  where
    by_test : (t : Bool) (n c : ℕ) → n ≡ 0 → cond t n 0 + c ≡ c
    by_test true n c h = omega arith
    by_test false n c h = omega arith

pub also_none : (count : Wait → ℕ → ℕ) (turn : ℕ) (name : Wait) (number : ℕ) → with_waits_of count turn [] name number ≡ count name number
also_none count turn name number = by_test (eqb number turn) (count name number)
  where
    by_test : (t : Bool) (c : ℕ) → cond t 0 0 + c ≡ c
    by_test true c = omega arith
    by_test false c = omega arith

pub named-append : (name : Wait) (xs ys : List Wait) → named name (xs ++ ys) ≡ named name xs + named name ys
named-append name [] ys = omega arith
named-append name (x ∷ xs) ys = let rest = named-append name xs ys in omega arith

pub with_waits_of-append : (count : Wait → ℕ → ℕ) (turn : ℕ) (xs ys : List Wait) (name : Wait) (number : ℕ) → with_waits_of (with_waits_of count turn xs) turn ys name number ≡ with_waits_of count turn (xs ++ ys) name number
with_waits_of-append count turn xs ys name number = by_test (eqb number turn) (named name xs) (named name ys) (named name (xs ++ ys)) (count name number) (named-append name xs ys)
  where
    by_test : (t : Bool) (a b ab c : ℕ) → ab ≡ a + b → cond t b 0 + (cond t a 0 + c) ≡ cond t ab 0 + c
    by_test true a b ab c h = omega arith
    by_test false a b ab c h = omega arith

pub same_counts : (limit : ℕ) (count other : Wait → ℕ → ℕ) (f : Followers) → ((name : Wait) (number : ℕ) → count name number ≡ other name number) → Follow limit count f → Follow limit other f
same_counts limit count other f same h = record {
  size = h.size;
  chains = λ name place. (let old = h.chains name place in (old.0, old.1, λ number. old.2 number ∙ same name number));
}

-- ---- one more

pub follow_other : (limit : ℕ) (count : Wait → ℕ → ℕ) (turn : ℕ) (step : Wait) (f : Followers) → (HasPlace step limit → ⊥) → Follow limit count f → Follow limit (with_waits_of count turn (step ∷ [])) f
follow_other limit count turn step f none h = record {
  size = h.size;
  chains = λ name place. (
      let old = h.chains name place in
      let differ : is_same_wait step name ≡ false = ⊎_elim
      (λ (same : is_same_wait step name ≡ true). absurd (none (subst (λ n. HasPlace n limit) (sym (same_wait step name same)) place)))
      (λ (differ : is_same_wait step name ≡ false). differ)
      (cases_Bool (is_same_wait step name)) in
      (old.0, old.1, λ number. old.2 number ∙ sym (also_other count turn step name number differ)));
}

module _ (limit : ℕ) (count : Wait → ℕ → ℕ) (turn : ℕ) (step : Wait) (f g : Followers) (place : HasPlace step limit) (h : Follow limit count f)
    (all : g.all.items ≡ f.all.items ++ (record { turn = turn; before = last_at f step }) ∷ [])
    (last : g.last.items ≡ set f.last.items (place_of step) (length f.all.items + 1)) where
  abbrev IsPreserved : Wait → Type 0
  IsPreserved name = (turns : List ℕ) × IsChain g.all.items (last_at g name) turns × ((number : ℕ) → times number turns ≡ with_waits_of count turn (step ∷ []) name number)

  counted : (number more old : ℕ) → more ≡ old → one_if (eqb turn number) + more ≡ cond (eqb number turn) (one_if (is_same_wait step step) + 0) 0 + old
  counted number more old same =
      let itself : one_if (is_same_wait step step) ≡ 1 = ap one_if (is_same step step refl refl) in ⊎_elim
      (λ (is : turn ≡ number).
      let yes = ap one_if (eq-eqb turn number is) in
      let there = ap (λ t. cond t (one_if (is_same_wait step step) + 0) 0) (eq-eqb number turn (sym is)) in omega arith)
      (λ (ne : turn ≢ number).
      let other = ap one_if (ne_eqb turn number ne) in
      let none = ap (λ t. cond t (one_if (is_same_wait step step) + 0) 0) (ne_eqb number turn (λ is. ne (sym is))) in omega arith)
      (cases_eq turn number)

  at_step : IsPreserved step
  at_step =
      let F = f.all.items in
      let x : Follower = record { turn = turn; before = last_at f step } in
      let old = h.chains step place in
      let size = h.size in let fits = place.1 in
      let low = chain_low F (last_at f step) old.0 old.1 in
      let sizes = length-append F (x ∷ []) in
      let at : last_at g step ≡ length F + 1 = ap (λ l. get_or l (place_of step) 0) last ∙ get_or-set_same f.last.items (place_of step) (length F + 1) 0 (omega arith) in
      let later_events : length F + 1 - 1 ≡ length F = omega arith in
      let here : follower_at (F ++ x ∷ []) (length F + 1 - 1) ≡ x = ap (follower_at (F ++ x ∷ [])) later_events ∙ get_or-append_seam F x [] (record { turn = 0; before = 0 }) in
      let chain : IsChain (F ++ x ∷ []) (length F + 1) (turn ∷ old.0) = (
        omega arith,
        omega arith,
        ap (λ (y : Follower). y.turn) here,
        subst (λ (y : Follower). y.before < length F + 1) (sym here) (omega arith),
        subst (λ (y : Follower). IsChain (F ++ x ∷ []) y.before old.0) (sym here) (chain_on F (x ∷ []) (last_at f step) old.0 old.1),
      ) in (
        turn ∷ old.0,
        subst (λ p. IsChain g.all.items p (turn ∷ old.0)) (sym at) (subst (λ l. IsChain l (length F + 1) (turn ∷ old.0)) (sym all) chain),
        λ number. counted number (times number old.0) (count step number) (old.2 number),
      )

  at_other : (name : Wait) → HasPlace name limit → is_same_wait step name ≡ false → IsPreserved name
  at_other name there differ =
      let F = f.all.items in
      let x : Follower = record { turn = turn; before = last_at f step } in
      let old = h.chains name there in
      let at : last_at g name ≡ last_at f name = ap (λ l. get_or l (place_of name) 0) last
      ∙ get_or-set_other f.last.items (place_of step) (place_of name) (length F + 1) 0 (other_place step name place.0 there.0 differ) in (
        old.0,
        subst (λ p. IsChain g.all.items p old.0) (sym at) (subst (λ l. IsChain l (last_at f name) old.0) (sym all) (chain_on F (x ∷ []) (last_at f name) old.0 old.1)),
        λ number. old.2 number ∙ sym (also_other count turn step name number differ),
      )

  pub follow_more : Follow limit (with_waits_of count turn (step ∷ [])) g
  follow_more = record {
    size = ap length last ∙ length-set f.last.items (place_of step) (length f.all.items + 1) ∙ h.size;
    chains = λ name there. ⊎_elim
        (λ (same : is_same_wait step name ≡ true). subst IsPreserved (same_wait step name same) at_step)
        (λ (differ : is_same_wait step name ≡ false). at_other name there differ)
        (cases_Bool (is_same_wait step name));
  }

-- ---- what a turn waits for

pub first_items : (xs : List Wait) (k : ℕ) (x : Wait) → Some x ≡ slice_get xs k → take (suc k) xs ≡ take k xs ++ x ∷ []
first_items [] k x is = absurd cc
first_items (y ∷ xs) zero x is = let same : y ≡ x = cc in ap (λ z. z ∷ []) same
first_items (y ∷ xs) (suc k) x is = ap (λ l. y ∷ l) (first_items xs k x is)

pub waits_after : (script : OutcomeMap) (turn : Turn) → turn.count ≢ 0 → turn_waits script turn ≡ step_before turn ++ (outcome_of script turn.change turn.first).after
waits_after script turn some =
    ap (λ t. cond t [] (waits_of script turn.change turn.first)) (ne_eqb turn.count 0 some) ∙ by_first turn.change turn.first
  where
    by_first : (c k : ℕ) → waits_of script c k ≡ cond (eqb k 0) [] (record { change = c; step = k - 1 } ∷ []) ++ (outcome_of script c k).after
    by_first c zero = refl
    by_first c (suc k) =
        let less : suc k - 1 ≡ k = omega arith in
        let after = (outcome_of script c (suc k)).after in
        let later : suc k ≢ 0 = omega arith in
        ap (λ j. let w : Wait = record { change = c; step = j } in w ∷ after) (sym less)
        ∙ sym (ap (λ t. cond t [] (record { change = c; step = suc k - 1 } ∷ []) ++ after) (ne_eqb (suc k) 0 later))

pub waits_no_step : (script : OutcomeMap) (turn : Turn) → turn.count ≡ 0 → turn_waits script turn ≡ []
waits_no_step script turn none = ap (λ t. cond t [] (waits_of script turn.change turn.first)) (eq-eqb turn.count 0 none)
