-- Members in byte order of their names, and the members that are put among them.
use Rattle.std.proofs.Common.{◌≡◌, ℕ, List, Option, Some, None, Ordering, Less, Equal, Greater, refl, sym, ap, ◌∙◌, subst}
use Rattle.std.specs.Prelude.{⊤, IfSome}
use Rattle.std.specs.Cmp.{tied_itself}
use Rattle.std.specs.Cmp.Lexicographic.{slice_cmp, nat_list_cmp_total}
use Rattle.std.specs.Ordering.{nat_cmp, match_ordering, ordering_reverse}
use Rattle.std.proofs.lemmas.Map.Lookups.{exact_bytes}
use Rattle.serde_json.specs.Data.{Data, Members, no_members, member, put}
use Rattle.serde_json.specs.Find.{get_member}
use Rattle.laws_outputs.specs.NamesInOrder.{AreAfter, AreInOrder}

-- ---- names

pub itself : (name : List ℕ) → slice_cmp nat_cmp name name ≡ Equal
itself name = tied_itself nat_list_cmp_total name

pub turned : (first second : List ℕ) → slice_cmp nat_cmp first second ≡ Greater → slice_cmp nat_cmp second first ≡ Less
turned first second is = nat_list_cmp_total.antisymm second first ∙ ap ordering_reverse is

pub turned_back : (first second : List ℕ) → slice_cmp nat_cmp first second ≡ Less → slice_cmp nat_cmp second first ≡ Greater
turned_back first second is = nat_list_cmp_total.antisymm second first ∙ ap ordering_reverse is

never_both : (name key other : List ℕ) → slice_cmp nat_cmp key other ≡ Greater → slice_cmp nat_cmp name other ≡ Equal → slice_cmp nat_cmp name key ≡ Equal → ⊥
never_both name key other is one two =
    let never : Greater ≡ Equal = sym is ∙ (sym (nat_list_cmp_total.congr name key other two) ∙ one) in cc

-- ---- members stay in order

pub later : (first second : List ℕ) (ms : Members) → slice_cmp nat_cmp first second ≡ Less → AreAfter second ms → AreAfter first ms
later first second no_members less all = tt
later first second (member name d ms) less all = (nat_list_cmp_total.trans first second name less all.0, later first second ms less all.1)

put_after : (first name : List ℕ) (d : Data) (ms : Members) → slice_cmp nat_cmp first name ≡ Less → AreAfter first ms → AreAfter first (put name d ms)
put_after first name d no_members less all = (less, tt)
put_after first name d (member other e ms) less all = of_order (slice_cmp nat_cmp name other) (put_after first name d ms less all.1)
  where
    of_order : (o : Ordering) → AreAfter first (put name d ms)
        → AreAfter first (match_ordering o (member name d (member other e ms)) (member other d ms) (member other e (put name d ms)))
    of_order Less rest = (less, all)
    of_order Equal rest = all
    of_order Greater rest = (all.0, rest)

pub put_in_order : (name : List ℕ) (d : Data) (ms : Members) → AreInOrder ms → AreInOrder (put name d ms)
put_in_order name d no_members all = (tt, tt)
put_in_order name d (member other e ms) all = of_order (slice_cmp nat_cmp name other) refl (put_in_order name d ms all.1)
  where
    of_order : (o : Ordering) → slice_cmp nat_cmp name other ≡ o → AreInOrder (put name d ms)
        → AreInOrder (match_ordering o (member name d (member other e ms)) (member other d ms) (member other e (put name d ms)))
    of_order Less is rest = ((is, later name other ms is all.0), all)
    of_order Equal is rest = all
    of_order Greater is rest = (put_after other name d ms (turned name other is) all.0, rest)

-- ---- members are looked up

pub none_among : (name : List ℕ) (ms : Members) → AreAfter name ms → get_member name ms ≡ None
none_among name no_members all = refl
none_among name (member other d ms) all =
    ap (λ (o : Ordering). match_ordering o (get_member name ms) (Some d) (get_member name ms)) all.0 ∙ none_among name ms all.1

pub first_found : (name : List ℕ) (d : Data) (ms : Members) → get_member name (member name d ms) ≡ Some d
first_found name d ms = ap (λ (o : Ordering). match_ordering o (get_member name ms) (Some d) (get_member name ms)) (itself name)

replaced : (o : Ordering) (rest : Option Data) (own new : Data)
    → match_ordering o rest (Some new) rest ≡ match_ordering o (match_ordering o rest (Some own) rest) (Some new) (match_ordering o rest (Some own) rest)
replaced Less rest own new = refl
replaced Equal rest own new = refl
replaced Greater rest own new = refl

swapped : (o p : Ordering) (rest : Option Data) (own new : Data) → (o ≡ Equal → p ≡ Equal → ⊥)
    → match_ordering o (match_ordering p rest (Some new) rest) (Some own) (match_ordering p rest (Some new) rest)
    ≡ match_ordering p (match_ordering o rest (Some own) rest) (Some new) (match_ordering o rest (Some own) rest)
swapped Less p rest own new apart = refl
swapped Equal Less rest own new apart = refl
swapped Equal Equal rest own new apart = absurd (apart refl refl)
swapped Equal Greater rest own new apart = refl
swapped Greater p rest own new apart = refl

-- the look-up in what is left gives d at that name, and else what the members have
abbrev IsFound : (name key : List ℕ) → Data → (ms left : Members) → Type 0
IsFound name key d ms left =
    get_member name left ≡ match_ordering (slice_cmp nat_cmp name key) (get_member name ms) (Some d) (get_member name ms)

-- a member that is put in is found under its name, and no other member changes
pub put_found : (name key : List ℕ) (d : Data) (ms : Members)
    → get_member name (put key d ms) ≡ match_ordering (slice_cmp nat_cmp name key) (get_member name ms) (Some d) (get_member name ms)
put_found name key d no_members = refl
put_found name key d (member other e ms) = of_order (slice_cmp nat_cmp key other) refl (put_found name key d ms)
  where
    of_order : (o : Ordering) → slice_cmp nat_cmp key other ≡ o
        → get_member name (put key d ms) ≡ match_ordering (slice_cmp nat_cmp name key) (get_member name ms) (Some d) (get_member name ms)
        → IsFound name key d (member other e ms) (match_ordering o (member key d (member other e ms)) (member other d ms) (member other e (put key d ms)))
    of_order Less is rest = refl
    of_order Equal is rest = subst (λ (at : List ℕ). IsFound name at d (member other e ms) (member other d ms)) (sym (exact_bytes key other is)) (replaced (slice_cmp nat_cmp name other) (get_member name ms) e d)
    of_order Greater is rest =
        ap (λ (g : Option Data). match_ordering (slice_cmp nat_cmp name other) g (Some e) g) rest
        ∙ swapped (slice_cmp nat_cmp name other) (slice_cmp nat_cmp name key) (get_member name ms) e d (never_both name key other is)

-- ---- what holds of each member

abbrev pub AllMembers : (List ℕ → Data → Type 0) → Members → Type 0
AllMembers P no_members = ⊤
AllMembers P (member name d ms) = P name d × AllMembers P ms

module _ (P : List ℕ → Data → Type 0) where
  pub found_one : (name : List ℕ) (ms : Members) → AllMembers P ms → IfSome (get_member name ms) (P name)
  found_one name no_members all = tt
  found_one name (member key d ms) all = of_order (slice_cmp nat_cmp name key) (exact_bytes name key) (found_one name ms all.1)
    where
      of_order : (o : Ordering) → (o ≡ Equal → name ≡ key) → IfSome (get_member name ms) (P name)
          → IfSome (match_ordering o (get_member name ms) (Some d) (get_member name ms)) (P name)
      of_order Less same rest = rest
      of_order Equal same rest = subst (λ (at : List ℕ). P at d) (sym (same refl)) all.0
      of_order Greater same rest = rest

  pub each_found : (ms : Members) → AreInOrder ms → ((name : List ℕ) → IfSome (get_member name ms) (P name)) → AllMembers P ms
  each_found no_members all found = tt
  each_found (member key d ms) all found =
      (subst (λ (o : Option Data). IfSome o (P key)) (first_found key d ms) (found key), each_found ms all.1 (λ name. behind name (slice_cmp nat_cmp name key) refl))
    where
      behind : (name : List ℕ) (o : Ordering) → slice_cmp nat_cmp name key ≡ o → IfSome (get_member name ms) (P name)
      behind name Less is = subst (λ (p : Ordering). IfSome (match_ordering p (get_member name ms) (Some d) (get_member name ms)) (P name)) is (found name)
      behind name Equal is =
          subst (λ (at : List ℕ). IfSome (get_member at ms) (P at)) (sym (exact_bytes name key is))
          (subst (λ (o : Option Data). IfSome o (P key)) (sym (none_among key ms all.0)) tt)
      behind name Greater is = subst (λ (p : Ordering). IfSome (match_ordering p (get_member name ms) (Some d) (get_member name ms)) (P name)) is (found name)
