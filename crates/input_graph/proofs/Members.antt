-- Members of lists, and nodes that join a list.
use Rattle.std.proofs.Common.{◌≡◌, ◌⊎◌, ◌<◌, ◌≤◌, ℕ, zero, suc, List, [], ◌∷◌, ◌++◌, All, length, get_or, cond, true, false, Bool, refl, sym, ap, ◌∙◌, inl, inr, ⊎_elim, arith, subst, length-append}
use Rattle.std.specs.Prelude.{◌||◌, slice_get}
use Rattle.std.specs.List.{Contains, list_any}
use Rattle.std.specs.Str.{bytes_eq}
use Rattle.std.proofs.lemmas.Bool.{cases_Bool, true≢false}
use Rattle.std.proofs.lemmas.List.Elements.{All-push, Contains-append_left, Contains-push}
use Rattle.std.proofs.lemmas.Slice.Eq.{bytes_eq-Decides}
use Rattle.input_graph.specs.Nodes.{with_node}

pub in_front : {X : Type 0} (x : X) (xs : List X) → Contains (x ∷ xs) x
in_front x xs = (0, omega arith, refl)

pub further : {X : Type 0} (x y : X) (xs : List X) → Contains xs y → Contains (x ∷ xs) y
further x y xs c = (suc c.0, omega (arith, c.1), c.2)

at_place : {X : Type 0} (x y : X) (xs : List X) (k : ℕ) → k < length (x ∷ xs) → get_or (x ∷ xs) k y ≡ y → (x ≡ y) ⊎ Contains xs y
at_place x y xs zero within is = inl is
at_place x y xs (suc k) within is = inr (k, omega (arith, within), is)

pub front_or_further : {X : Type 0} (x y : X) (xs : List X) → Contains (x ∷ xs) y → (x ≡ y) ⊎ Contains xs y
front_or_further x y xs c = at_place x y xs c.0 c.1 c.2

pub no_member : {X : Type 0} (y : X) → Contains [] y → ⊥
no_member y c = omega (arith, c.1)

or_right : (a b : Bool) → b ≡ true → (a || b) ≡ true
or_right true b is = refl
or_right false b is = is

pub or_false : (a : Bool) → (a || false) ≡ a
or_false true = refl
or_false false = refl

pub or_assoc : (a b c : Bool) → (a || (b || c)) ≡ ((a || b) || c)
or_assoc true b c = refl
or_assoc false b c = refl

already : (a b : Bool) → (b ≡ true → a ≡ true) → a ≡ (a || b)
already true b implied = refl
already false true implied = implied refl
already false false implied = refl

-- a node that a test by bytes finds
pub found_member : (node : List ℕ) (nodes : List (List ℕ)) → list_any (bytes_eq node) nodes ≡ true → Contains nodes node
found_member node [] found = cc
found_member node (x ∷ xs) found = ⊎_elim
    (λ (yes : bytes_eq node x ≡ true). subst (λ (y : List ℕ). Contains (x ∷ xs) y) (sym ((bytes_eq-Decides node x).0 yes)) (in_front x xs))
    (λ (no : bytes_eq node x ≡ false). further x node xs (found_member node xs (ap (λ b. b || list_any (bytes_eq node) xs) (sym no) ∙ found)))
    (cases_Bool (bytes_eq node x))

same_text : (node : List ℕ) → bytes_eq node node ≡ true
same_text node = (bytes_eq-Decides node node).1 refl

pub member_found : (node : List ℕ) (nodes : List (List ℕ)) → Contains nodes node → list_any (bytes_eq node) nodes ≡ true
member_found node [] c = absurd (no_member node c)
member_found node (x ∷ xs) c = ⊎_elim
    (λ (same : x ≡ node). ap (λ (b : Bool). b || list_any (bytes_eq node) xs) (ap (bytes_eq node) same ∙ same_text node))
    (λ (more : Contains xs node). or_right (bytes_eq node x) (list_any (bytes_eq node) xs) (member_found node xs more))
    (front_or_further x node xs c)

pub not_found : (node : List ℕ) (nodes : List (List ℕ)) → list_any (bytes_eq node) nodes ≡ false → Contains nodes node → ⊥
not_found node nodes none c = true≢false (sym (member_found node nodes c) ∙ none)

-- the items at the front stay where they are
pub same_place : {X : Type 0} (xs ys : List X) (k : ℕ) → k < length xs → slice_get (xs ++ ys) k ≡ slice_get xs k
same_place [] ys k within = absurd (omega (arith, within))
same_place (x ∷ xs) ys zero within = refl
same_place (x ∷ xs) ys (suc k) within = same_place xs ys k (omega (arith, within))

-- a node joins
pub record Joins (nodes : List (List ℕ)) (node : List ℕ) (new : List (List ℕ)) : Type 0 where
  pub keeps : (other : List ℕ) → Contains nodes other → Contains new other
  pub has : Contains new node
  pub grows : length nodes ≤ length new
  pub stays : (k : ℕ) → k < length nodes → slice_get new k ≡ slice_get nodes k

joins_if : (nodes : List (List ℕ)) (node : List ℕ) (b : Bool) → list_any (bytes_eq node) nodes ≡ b → Joins nodes node (cond b nodes (nodes ++ node ∷ []))
joins_if nodes node true is = record {
  keeps = λ other c. c;
  has = found_member node nodes is;
  grows = omega arith;
  stays = λ k within. refl;
}
joins_if nodes node false is = record {
  keeps = λ other c. Contains-append_left nodes (node ∷ []) other c;
  has = Contains-push nodes node;
  grows = omega (arith, length-append nodes (node ∷ []));
  stays = λ k within. same_place nodes (node ∷ []) k within;
}

pub joins : (nodes : List (List ℕ)) (node : List ℕ) → Joins nodes node (with_node nodes node)
joins nodes node = joins_if nodes node (list_any (bytes_eq node) nodes) refl

only_if : (P : List ℕ → Type 0) (nodes : List (List ℕ)) (node : List ℕ) (b : Bool) → All P nodes → P node → All P (cond b nodes (nodes ++ node ∷ []))
only_if P nodes node true all one = all
only_if P nodes node false all one = All-push P nodes node all one

pub only_with : (P : List ℕ → Type 0) (nodes : List (List ℕ)) (node : List ℕ) → All P nodes → P node → All P (with_node nodes node)
only_with P nodes node all one = only_if P nodes node (list_any (bytes_eq node) nodes) all one

-- the test after a node joined
any_push : (test : List ℕ → Bool) (nodes : List (List ℕ)) (node : List ℕ) → list_any test (nodes ++ node ∷ []) ≡ (list_any test nodes || test node)
any_push test [] node = or_false (test node)
any_push test (x ∷ xs) node = ap (λ (b : Bool). test x || b) (any_push test xs node) ∙ or_assoc (test x) (list_any test xs) (test node)

any_with_if : (other : List ℕ) (nodes : List (List ℕ)) (node : List ℕ) (b : Bool) → list_any (bytes_eq node) nodes ≡ b
    → list_any (bytes_eq other) (cond b nodes (nodes ++ node ∷ [])) ≡ (list_any (bytes_eq other) nodes || bytes_eq other node)
any_with_if other nodes node true is = already (list_any (bytes_eq other) nodes) (bytes_eq other node)
    (λ same. member_found other nodes (subst (Contains nodes) (sym ((bytes_eq-Decides other node).0 same)) (found_member node nodes is)))
any_with_if other nodes node false is = any_push (bytes_eq other) nodes node

pub any_with : (other : List ℕ) (nodes : List (List ℕ)) (node : List ℕ) → list_any (bytes_eq other) (with_node nodes node) ≡ (list_any (bytes_eq other) nodes || bytes_eq other node)
any_with other nodes node = any_with_if other nodes node (list_any (bytes_eq node) nodes) refl
