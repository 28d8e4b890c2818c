-- Numbers that join those that were found.
use Rattle.std.proofs.Common.{◌≡◌, ◌≢◌, ◌⊎◌, ◌<◌, ◌≤◌, ◌+◌, ℕ, List, [], ◌∷◌, ◌++◌, All, length, take, get_or, set, Some, refl, sym, ap, ◌∙◌, inl, inr, ⊎_elim, arith, subst, length-append}
use Rattle.std.specs.Prelude.{slice_get}
use Rattle.std.specs.List.{Contains}
use Rattle.std.proofs.lemmas.Bool.{cases_lt}
use Rattle.std.proofs.lemmas.List.{get_or-set_other, length-set, take_more}
use Rattle.std.proofs.lemmas.List.Elements.{All-contains_itself, All-nil, All-push, All-set, All-weaker, Contains-append_left, Contains-push}
use Rattle.std.proofs.lemmas.Option.{get_or_from_slice_get, slice_get-get_or, slice_get_within}
use Rattle.input_graph.specs.Numbering.{AreSeen, HaveJoined}
use Rattle.input_graph.proofs.Members.{same_place}

pub none_joined : (found : List ℕ) → HaveJoined found [] found
none_joined found = record {
  keeps = λ number c. c;
  has = All-nil (Contains found);
  only = All-weaker (Contains found) (λ number. Contains found number ⊎ Contains [] number) (λ number c. inl c) found (All-contains_itself found);
  grows = omega arith;
  stays = λ k within. refl;
}

-- a number that was not there
joined_new : (first more found : List ℕ) (number : ℕ) → HaveJoined first more found → HaveJoined first (more ++ number ∷ []) (found ++ number ∷ [])
joined_new first more found number j = record {
  keeps = λ other c. Contains-append_left found (number ∷ []) other (j.keeps other c);
  has = All-push (Contains (found ++ number ∷ [])) more number
      (All-weaker (Contains found) (Contains (found ++ number ∷ [])) (λ other c. Contains-append_left found (number ∷ []) other c) more j.has) (Contains-push found number);
  only = All-push (λ other. Contains first other ⊎ Contains (more ++ number ∷ []) other) found number
      (All-weaker (λ other. Contains first other ⊎ Contains more other) (λ other. Contains first other ⊎ Contains (more ++ number ∷ []) other)
      (λ other either. ⊎_elim (λ (c : Contains first other). inl c) (λ (c : Contains more other). inr (Contains-append_left more (number ∷ []) other c)) either) found j.only)
      (inr (Contains-push more number));
  grows = omega (arith, j.grows, length-append found (number ∷ []));
  stays = λ k within. same_place found (number ∷ []) k (omega (arith, within, j.grows)) ∙ j.stays k within;
}

-- a number that was there
joined_again : (first more found : List ℕ) (number : ℕ) → HaveJoined first more found → Contains found number → HaveJoined first (more ++ number ∷ []) found
joined_again first more found number j there = record {
  keeps = j.keeps;
  has = All-push (Contains found) more number j.has there;
  only = All-weaker (λ other. Contains first other ⊎ Contains more other) (λ other. Contains first other ⊎ Contains (more ++ number ∷ []) other)
      (λ other either. ⊎_elim (λ (c : Contains first other). inl c) (λ (c : Contains more other). inr (Contains-append_left more (number ∷ []) other c)) either) found j.only;
  grows = j.grows;
  stays = j.stays;
}

module _ (seen found : List ℕ) (stamp number count : ℕ) (s : AreSeen seen stamp found count) where
  kept : (other : ℕ) → slice_get (set seen number stamp) other ≡ Some stamp → other ≢ number → Contains (found ++ number ∷ []) other
  kept other at differs =
      let inside : other < length (set seen number stamp) = slice_get_within (set seen number stamp) other stamp at in
      let long = length-set seen number stamp in
      let within : other < length seen = omega (arith, inside, long) in
      let is : get_or seen other stamp ≡ stamp = sym (get_or-set_other seen number other stamp stamp differs) ∙ get_or_from_slice_get (set seen number stamp) other stamp stamp at in
      Contains-append_left found (number ∷ []) other (s.marks other (slice_get-get_or seen other stamp within ∙ ap Some is))

  marked : AreSeen (set seen number stamp) stamp (found ++ number ∷ []) count
  marked = record {
    each = length-set seen number stamp ∙ s.each;
    marks = λ other at. ⊎_elim
        (λ (lt : other < number). kept other at (λ (e : other ≡ number). omega (arith, e, lt)))
        (λ (ge : number ≤ other). ⊎_elim
        (λ (gt : number < other). kept other at (λ (e : other ≡ number). omega (arith, e, gt)))
        (λ (le : other ≤ number).
        let same : number ≡ other = omega (arith, ge, le) in
        subst (Contains (found ++ number ∷ [])) same (Contains-push found number))
        (cases_lt number other))
        (cases_lt other number);
    old = All-set (λ mark. mark ≤ stamp) seen number stamp (omega arith) s.old;
  }

module _ (all : List ℕ) (i d : ℕ) (first found seen : List ℕ) (stamp count : ℕ) (within : i < length all) (had : HaveJoined first (take i all) found × AreSeen seen stamp found count) where
  taken : take (i + 1) all ≡ take i all ++ get_or all i d ∷ []
  taken = take_more all i d within

  pub joined_more : (new now : List ℕ) → new ≡ found ++ get_or all i d ∷ [] → now ≡ set seen (get_or all i d) stamp → HaveJoined first (take (i + 1) all) new × AreSeen now stamp new count
  joined_more new now is marks =
      (rw (taken, is) (joined_new first (take i all) found (get_or all i d) had.0), rw (is, marks) (marked seen found stamp (get_or all i d) count had.1))

  pub joined_before : (all' : All (λ n. n < count) all) (v : ℕ) → v ≡ get_or seen (get_or all i d) v → v ≡ stamp → HaveJoined first (take (i + 1) all) found × AreSeen seen stamp found count
  joined_before all' v here is =
      let inside : get_or all i d < length seen = rw had.1.each (all' i d within) in
      let at = slice_get-get_or seen (get_or all i d) v inside ∙ ap Some (sym here ∙ is) in
      (rw taken (joined_again first (take i all) found (get_or all i d) had.0 (had.1.marks (get_or all i d) at)), had.1)
