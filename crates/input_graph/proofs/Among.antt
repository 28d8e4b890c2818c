-- The steps among nodes.
use Rattle.std.proofs.Common.{◌≡◌, ◌≢◌, ◌⊎◌, ◌<◌, ◌+◌, ℕ, List, [], ◌∷◌, ◌++◌, length, take, get_or, cond, eqb, true, false, Bool, Option, Some, None, refl, sym, ap, ◌∙◌, ⊎_elim, inl, inr, subst, eq-eqb, ne_eqb}
use Rattle.std.specs.Prelude.{option_to_list}
use Rattle.std.specs.List.{Contains, cons_option, filter_map}
use Rattle.std.proofs.lemmas.Bool.{cases_Bool, true≢false}
use Rattle.std.proofs.lemmas.List.{take_more}
use Rattle.std.proofs.lemmas.List.Elements.{filter_map-append}
use Rattle.std.proofs.lemmas.Option.{get_or_from_slice_get, slice_get-get_or}
use Rattle.input_graph.specs.Waits.{unless_same}
use Rattle.input_graph.proofs.Members.{front_or_further, further, in_front, no_member}

module _ {X Y : Type 0} (h : X → Option Y) where
  from_front : (x : X) (xs : List X) (y : Y) (o : Option Y) → h x ≡ o → ((x' : X) × Contains xs x' × (h x' ≡ Some y)) ⊎ (o ≡ Some y)
      → (x' : X) × Contains (x ∷ xs) x' × (h x' ≡ Some y)
  from_front x xs y o is found = ⊎_elim
      (λ (more : (x' : X) × Contains xs x' × (h x' ≡ Some y)). (more.0, further x more.0 xs more.1, more.2))
      (λ (here : o ≡ Some y). (x, in_front x xs, is ∙ here))
      found

  chosen_from : (xs : List Y) (y : Y) (o : Option Y) → Contains (cons_option o xs) y → Contains xs y ⊎ (o ≡ Some y)
  chosen_from xs y None c = inl c
  chosen_from xs y (Some z) c = ⊎_elim (λ (is : z ≡ y). inr (ap Some is)) (λ (more : Contains xs y). inl more) (front_or_further z y xs c)

  pub member_from : (xs : List X) (y : Y) → Contains (filter_map h xs) y → (x : X) × Contains xs x × (h x ≡ Some y)
  member_from [] y c = absurd (no_member y c)
  member_from (x ∷ xs) y c =
      from_front x xs y (h x) refl
      (⊎_elim (λ (more : Contains (filter_map h xs) y). inl (member_from xs y more)) (λ (here : h x ≡ Some y). inr here) (chosen_from (filter_map h xs) y (h x) c))

  chosen_has : (xs : List Y) (y : Y) (o : Option Y) → Contains xs y ⊎ (o ≡ Some y) → Contains (cons_option o xs) y
  chosen_has xs y None c = ⊎_elim (λ (more : Contains xs y). more) (λ (here : None ≡ Some y). cc) c
  chosen_has xs y (Some z) c = ⊎_elim
      (λ (more : Contains xs y). further z y xs more)
      (λ (here : Some z ≡ Some y). let is : z ≡ y = cc in subst (λ (w : Y). Contains (w ∷ xs) y) (sym is) (in_front y xs))
      c

  pub member_of : (xs : List X) (x : X) (y : Y) → Contains xs x → h x ≡ Some y → Contains (filter_map h xs) y
  member_of [] x y c is = absurd (no_member x c)
  member_of (x' ∷ xs) x y c is = chosen_has (filter_map h xs) y (h x') (⊎_elim
      (λ (same : x' ≡ x). inr (ap h same ∙ is))
      (λ (more : Contains xs x). inl (member_of xs x y more is))
      (front_or_further x' x xs c))

-- a step other than this one
pub other_from : (step other : ℕ) (o : Option ℕ) → unless_same step o ≡ Some other → (o ≡ Some other) × (other ≢ step)
other_from step other None is = cc
other_from step other (Some k) is = ⊎_elim
    (λ (yes : eqb k step ≡ true). let none : None ≡ Some other = ap (λ (b : Bool). cond b None (Some k)) (sym yes) ∙ is in cc)
    (λ (differs : eqb k step ≡ false).
    let it : Some k ≡ Some other = ap (λ (b : Bool). cond b None (Some k)) (sym differs) ∙ is in
    let same : k ≡ other = cc in
    (it, λ e. true≢false (sym (eq-eqb k step (same ∙ e)) ∙ differs)))
    (cases_Bool (eqb k step))

pub other_has : (step other : ℕ) (o : Option ℕ) → o ≡ Some other → other ≢ step → unless_same step o ≡ Some other
other_has step other o is differs = rw (is, ne_eqb other step differs) refl

alone : (o : Option ℕ) → option_to_list o ≡ cons_option o []
alone None = refl
alone (Some k) = refl

-- one node more
pub one_other : (step_of : List (Option ℕ)) (step : ℕ) (nodes : List ℕ) (i d : ℕ) (e : Option ℕ) (others new : List ℕ) → i < length nodes → get_or nodes i d < length step_of
    → others ≡ filter_map (λ node. unless_same step (get_or step_of node None)) (take i nodes) → new ≡ others ++ option_to_list (unless_same step (get_or step_of (get_or nodes i d) e))
    → new ≡ filter_map (λ node. unless_same step (get_or step_of node None)) (take (i + 1) nodes)
one_other step_of step nodes i d e others new within inside so_far grown =
    let h : ℕ → Option ℕ = λ node. unless_same step (get_or step_of node None) in
    let same : get_or step_of (get_or nodes i d) e ≡ get_or step_of (get_or nodes i d) None =
    sym (get_or_from_slice_get step_of (get_or nodes i d) (get_or step_of (get_or nodes i d) e) None (slice_get-get_or step_of (get_or nodes i d) e inside)) in
    grown
    ∙ ap (λ (list : List ℕ). list ++ option_to_list (unless_same step (get_or step_of (get_or nodes i d) e))) so_far
    ∙ ap (λ (o : Option ℕ). filter_map h (take i nodes) ++ option_to_list (unless_same step o)) same
    ∙ ap (λ (list : List ℕ). filter_map h (take i nodes) ++ list) (alone (h (get_or nodes i d)))
    ∙ sym (filter_map-append h (take i nodes) (get_or nodes i d ∷ []))
    ∙ ap (filter_map h) (sym (take_more nodes i d within))
