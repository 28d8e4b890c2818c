-- Turns that are found anew.
use Rattle.std.proofs.Common.{◌≡◌, ◌≢◌, ◌∙◌, ◌<◌, ◌≤◌, ◌+◌, ℕ, List, All, Global, Vec, true, false, length, get_or, take, sym, arith, subst, ◌⊎◌, inl, inr, ⊎_elim}
use Rattle.std.specs.List.{Contains}
use Rattle.std.proofs.lemmas.Bool.{cases_eq, cases_lt, true≢false}
use Rattle.std.proofs.lemmas.List.{get_or_past, length-map, take_more}
use Rattle.std.proofs.lemmas.List.Elements.{All-contains_itself, All-weaker, Contains-push_cases}
use Rattle.stream_record_waits.specs.declared.ready_turns.ReadyTurns.{ReadyTurns}
use Rattle.stream_record_waits.specs.Basis.{IsSound}
use Rattle.stream_record_waits.specs.Course.{Basis, Course, is_joined}
use Rattle.stream_record_waits.specs.Graph.{waits_at}
use Rattle.stream_record_waits.specs.ReadyTurns.{AreRenewed, IsAffected, IsTree, turn_in, turn_of}
use Rattle.stream_record_waits.specs.Steps.{lists_in}
use Rattle.stream_record_waits.specs.Waiters.{AreWaiters}
use Rattle.stream_record_waits.proofs.Rows.{row}

pub joined_within : (basis : Basis) → IsSound basis → (step : ℕ) → is_joined basis step ≡ true → step < length basis.steps
joined_within basis sound step joined = ⊎_elim
    (λ (lt : step < length basis.joined). let size = sound.joined in omega (arith, lt, size))
    (λ (ge : length basis.joined ≤ step). absurd (true≢false (sym joined ∙ get_or_past basis.joined step false ge)))
    (cases_lt step (length basis.joined))

-- the waiters of a step, as the code reads them
pub waiters_row : (basis : Basis) (rows : List (Vec ℕ Global)) (step : ℕ) (v : Vec ℕ Global) (items : List ℕ) → AreWaiters basis (lists_in rows) → step < length basis.steps
    → v ≡ get_or rows step v → items ≡ v.items → items ≡ waits_at (lists_in rows) step
waiters_row basis rows step v items are within is same =
    let size : length rows ≡ length basis.steps = sym (length-map rows (λ (vector : Vec ℕ Global). vector.items)) ∙ are.each in
    same ∙ row rows step v (omega (arith, size, within)) is

pub waiters_known : (basis : Basis) (rows : List (Vec ℕ Global)) (step : ℕ) (v : Vec ℕ Global) (items : List ℕ) → AreWaiters basis (lists_in rows) → step < length basis.steps
    → v ≡ get_or rows step v → items ≡ v.items → All (λ other. other < length basis.steps) items
waiters_known basis rows step v items are within is same =
    All-weaker (Contains items) (λ other. other < length basis.steps)
    (λ other c. (are.only other step (subst (λ (list : List ℕ). Contains list other) (waiters_row basis rows step v items are within is same) c)).0) items (All-contains_itself items)

module _ (basis : Basis) (course : Course) where
  pub one_renewed : (old new : ReadyTurns) (step : ℕ) → old.count ≡ length basis.steps → IsTree new → new.count ≡ old.count → turn_in new step ≡ turn_of basis course step
      → ((other : ℕ) → other < old.count → other ≢ step → turn_in new other ≡ turn_in old other) → AreRenewed basis course old new (λ other. other ≡ step)
  one_renewed old new step size tree same now others = record {
    tree = tree;
    each = same;
    stay = λ other within was. ⊎_elim
        (λ (is : other ≡ step). here other is)
        (λ (ne : other ≢ step). others other (omega (arith, size, within)) ne ∙ was)
        (cases_eq other step);
    renewed = λ other within is. here other is;
  }
    where
      here : (other : ℕ) → other ≡ step → turn_in new other ≡ turn_of basis course other
      here other is = subst (λ (s : ℕ). turn_in new s ≡ turn_of basis course s) (sym is) now

  pub renewed_on : (P Q R : ℕ → Type 0) (a b c : ReadyTurns) → AreRenewed basis course a b P → AreRenewed basis course b c Q → ((other : ℕ) → R other → P other ⊎ Q other) → AreRenewed basis course a c R
  renewed_on P Q R a b c first then either = record {
    tree = then.tree;
    each = then.each ∙ first.each;
    stay = λ other within was. then.stay other within (first.stay other within was);
    renewed = λ other within is. ⊎_elim
        (λ (p : P other). then.stay other within (first.renewed other within p))
        (λ (q : Q other). then.renewed other within q)
        (either other is);
  }

  -- one step more of a list
  pub more_renewed : (steps : List ℕ) (place : ℕ) (a b c : ReadyTurns) → place < length steps → AreRenewed basis course a b (Contains (take place steps)) → AreRenewed basis course b c (λ other. other ≡ get_or steps place 0)
      → AreRenewed basis course a c (Contains (take (place + 1) steps))
  more_renewed steps place a b c within first then =
      renewed_on (Contains (take place steps)) (λ other. other ≡ get_or steps place 0) (Contains (take (place + 1) steps)) a b c first then (λ other is. ⊎_elim
      (λ (early : Contains (take place steps) other). inl early)
      (λ (last : get_or steps place 0 ≡ other). inr (sym last))
      (Contains-push_cases (take place steps) (get_or steps place 0) other (subst (λ (list : List ℕ). Contains list other) (take_more steps place 0 within) is)))

  -- a step and its waiters, where no second step runs in its turn
  pub affected_alone : (waiters : List (List ℕ)) (row : List ℕ) (step : ℕ) (a b c : ReadyTurns) → row ≡ waits_at waiters step → is_joined basis (step + 1) ≡ false
      → AreRenewed basis course a b (λ other. other ≡ step) → AreRenewed basis course b c (Contains row) → AreRenewed basis course a c (IsAffected basis waiters step)
  affected_alone waiters row step a b c same alone first then =
      renewed_on (λ other. other ≡ step) (Contains row) (IsAffected basis waiters step) a b c first then (λ other is. ⊎_elim
      (λ (own : other ≡ step). inl own)
      (λ (rest : Contains (waits_at waiters step) other ⊎ ((is_joined basis (step + 1) ≡ true) × Contains (waits_at waiters (step + 1)) other)). inr (⊎_elim
      (λ (waits : Contains (waits_at waiters step) other). subst (λ (list : List ℕ). Contains list other) (sym same) waits)
      (λ (second : (is_joined basis (step + 1) ≡ true) × Contains (waits_at waiters (step + 1)) other). absurd (true≢false (sym second.0 ∙ alone)))
      rest))
      is)

  -- and where one does
  pub affected_both : (waiters : List (List ℕ)) (row second_row : List ℕ) (step : ℕ) (a b c d : ReadyTurns) → row ≡ waits_at waiters step → second_row ≡ waits_at waiters (step + 1)
      → AreRenewed basis course a b (λ other. other ≡ step) → AreRenewed basis course b c (Contains row) → AreRenewed basis course c d (Contains second_row)
      → AreRenewed basis course a d (IsAffected basis waiters step)
  affected_both waiters row second_row step a b c d same also first then last =
      renewed_on (λ other. other ≡ step) (λ other. Contains row other ⊎ Contains second_row other) (IsAffected basis waiters step) a b d first
      (renewed_on (Contains row) (Contains second_row) (λ other. Contains row other ⊎ Contains second_row other) b c d then last (λ other is. is)) (λ other is. ⊎_elim
      (λ (own : other ≡ step). inl own)
      (λ (rest : Contains (waits_at waiters step) other ⊎ ((is_joined basis (step + 1) ≡ true) × Contains (waits_at waiters (step + 1)) other)). inr (⊎_elim
      (λ (waits : Contains (waits_at waiters step) other). inl (subst (λ (list : List ℕ). Contains list other) (sym same) waits))
      (λ (second : (is_joined basis (step + 1) ≡ true) × Contains (waits_at waiters (step + 1)) other). inr (subst (λ (list : List ℕ). Contains list other) (sym also) second.1))
      rest))
      is)
