-- One more object is done, and perhaps its name with it.
use Rattle.std.proofs.Common.{◌≡◌, ◌≢◌, ℕ, ◌+◌, ◌-◌, ◌<◌, ◌≤◌, Bool, true, false, ◌&&◌, List, Option, Some, None, cond, get_or, length, set, refl, sym, ap, ◌∙◌, subst, ⊎_elim, ◌⊎◌, inl, inr, arith, eqb, eq-eqb, ne_eqb}
use Rattle.std.proofs.lemmas.Bool.{cases_Bool, cases_eq, true≢false}
use Rattle.std.proofs.lemmas.List.{get_or-set_other, get_or-set_same, length-set}
use Rattle.apply_model.specs.declared.script.wait.Wait.{Wait}
use Rattle.apply_events.specs.declared.lanes.lane_time.LaneTime.{LaneTime}
use Rattle.apply_events.specs.Waits.LaneTime.{IsNoLater, first_lane_time, is_earlier, later_of}
use Rattle.apply_events.specs.Waits.Queue.{is_same_wait, with_step_done}
use Rattle.apply_events.proofs.Waits.Followers.{is_same, same_wait}
use Rattle.apply_events.proofs.Waits.Standing.{any_default}
use Rattle.apply_events.proofs.Waits.Moments.{first_no_later, no_later_both, no_later_on, no_later_refl, second_no_later}
use Rattle.apply_planning.specs.declared.pending_names.PendingName.{PendingName}
use Rattle.apply_planning.specs.declared.pending_names.PendingNames.{PendingNames}
use Rattle.apply_planning.specs.declared.told.Told.{Told}
use Rattle.apply_planning.specs.Names.{first_named, name_wait}
use Rattle.apply_planning.specs.PendingNames.{ArePending, Closes, NoneDone, WasDone, max_told, name_at, named_done, owner_at, pending_count}
use Rattle.apply_planning.proofs.Counted.{as_many, fewer, with_itself, with_other}
use Rattle.apply_planning.proofs.Numbered.{first_is, named_at}

-- the later of two times is one of them
either_later : (a b : LaneTime) → (later_of a b ≡ b) ⊎ (later_of a b ≡ a)
either_later a b = ⊎_elim
    (λ (earlier : is_earlier a b ≡ true). inl (ap (λ t. cond t b a) earlier))
    (λ (later : is_earlier a b ≡ false). inr (ap (λ t. cond t b a) later))
    (cases_Bool (is_earlier a b))

first_is_least : (m : LaneTime) → IsNoLater first_lane_time m
first_is_least m = (omega arith, λ _. omega arith)

later_of_first : (m : LaneTime) → later_of first_lane_time m ≡ m
later_of_first m = ⊎_elim
    (λ (is : later_of first_lane_time m ≡ m). is)
    (λ (is : later_of first_lane_time m ≡ first_lane_time).
    is ∙ no_later_both first_lane_time m (first_is_least m) (subst (IsNoLater m) is (second_no_later first_lane_time m)))
    (either_later first_lane_time m)

some_same : {X : Type 0} (a b : X) → Some a ≡ Some b → a ≡ b
some_same a b is = cc

is_off : (t u v : Bool) (at : LaneTime) → v ≡ false → cond (t && u && v) (Some at) None ≡ None
is_off true true v at is = ap (λ x. cond x (Some at) None) is
is_off true false v at is = refl
is_off false u v at is = refl

is_on : (u v : Bool) (at : LaneTime) → u ≡ true → v ≡ true → cond (true && u && v) (Some at) None ≡ Some at
is_on u v at both also = ap (λ x. cond (x && v) (Some at) None) both ∙ ap (λ x. cond x (Some at) None) also

module _ (told : List Told) (done : Wait → Option LaneTime) (pending : PendingNames) (h : ArePending told done pending) where
  -- the number of a name is that of an object with that name, whose own number it is
  pub owner_known : (c : ℕ) → c < length told → owner_at pending.owners.items c < length told
  owner_known c lt = (first_is told (named_at told c) (owner_at pending.owners.items c) (h.owner c lt)).0

  pub owner_owns : (c : ℕ) → c < length told → owner_at pending.owners.items (owner_at pending.owners.items c) ≡ owner_at pending.owners.items c
  owner_owns c lt =
      let owner = owner_at pending.owners.items c in
      let its = first_is told (named_at told c) owner (h.owner c lt) in
      some_same (owner_at pending.owners.items owner) owner (sym (h.owner owner its.0) ∙ ap (first_named told) its.1 ∙ h.owner c lt)

  module _ (number : ℕ) (known : number < length told) (new : done (name_wait number) ≡ None) where
    pub owner_fits : owner_at pending.owners.items number < length pending.names.items
    owner_fits = let size = h.size in let lt = owner_known number known in omega arith

    pub number_fits : number < length pending.owners.items
    number_fits = let size = h.owners in omega arith

    pub some_pending : 0 < (name_at pending.names.items (owner_at pending.owners.items number)).pending
    some_pending =
        let is = h.count (owner_at pending.owners.items number) (owner_known number known) in
        let more = fewer pending.owners.items done number first_lane_time new (owner_at pending.owners.items number) (length told) known refl in omega arith

    pub owner_read : (o : ℕ) → o ≡ get_or pending.owners.items number o → o ≡ owner_at pending.owners.items number
    owner_read o is = let lt = number_fits in is ∙ any_default pending.owners.items number o (number + 1) lt

    pub name_read : (o : ℕ) (x : PendingName) → o ≡ owner_at pending.owners.items number → x ≡ get_or pending.names.items o x → x ≡ name_at pending.names.items (owner_at pending.owners.items number)
    name_read o x same is =
        let lt = owner_fits in
        is ∙ ap (λ k. get_or pending.names.items k x) same
        ∙ any_default pending.names.items (owner_at pending.owners.items number) x (record { pending = 0; at = first_lane_time }) lt

    pub written : (o : ℕ) (x : PendingName) (m at : LaneTime) → o ≡ owner_at pending.owners.items number → x ≡ name_at pending.names.items (owner_at pending.owners.items number) → m ≡ later_of x.at at
        → set pending.names.items o (record { pending = x.pending - 1; at = m }) ≡ set pending.names.items (owner_at pending.owners.items number)
        (record { pending = (name_at pending.names.items (owner_at pending.owners.items number)).pending - 1; at = later_of (name_at pending.names.items (owner_at pending.owners.items number)).at at })
    written o x m at same read is =
        ap (λ k. set pending.names.items k (let y : PendingName = record { pending = x.pending - 1; at = m } in y)) same
        ∙ ap (λ n. set pending.names.items (owner_at pending.owners.items number) (let y : PendingName = record { pending = x.pending - 1; at = n } in y)) is
        ∙ ap (λ (z : PendingName). set pending.names.items (owner_at pending.owners.items number) (let y : PendingName = record { pending = z.pending - 1; at = later_of z.at at } in y)) read

    module _ (at : LaneTime) (early : at.round ≤ max_told) (after : PendingNames) (owners : after.owners.items ≡ pending.owners.items)
        (next : after.names.items ≡ set pending.names.items (owner_at pending.owners.items number)
        (record { pending = (name_at pending.names.items (owner_at pending.owners.items number)).pending - 1; at = later_of (name_at pending.names.items (owner_at pending.owners.items number)).at at })) where
      abbrev owner : ℕ
      owner = owner_at pending.owners.items number

      abbrev old : PendingName
      old = name_at pending.names.items owner

      abbrev changed : PendingName
      changed = record { pending = old.pending - 1; at = later_of old.at at }

      abbrev now : Wait → Option LaneTime
      now = with_step_done done (name_wait number) at

      here : name_at after.names.items owner ≡ changed
      here = ap (λ l. name_at l owner) next ∙ get_or-set_same pending.names.items owner changed (record { pending = 0; at = first_lane_time }) owner_fits

      there : (k : ℕ) → k ≢ owner → name_at after.names.items k ≡ name_at pending.names.items k
      there k ne = ap (λ l. name_at l k) next ∙ get_or-set_other pending.names.items owner k changed (record { pending = 0; at = first_lane_time }) ne

      owner_same : (c : ℕ) → owner_at after.owners.items c ≡ owner_at pending.owners.items c
      owner_same c = ap (λ l. owner_at l c) owners

      grows : (k : ℕ) → IsNoLater (name_at pending.names.items k).at (name_at after.names.items k).at
      grows k = ⊎_elim
          (λ (is : k ≡ owner).
          subst (λ j. IsNoLater (name_at pending.names.items j).at (name_at after.names.items j).at) (sym is)
          (subst (λ (x : PendingName). IsNoLater old.at x.at) (sym here) (first_no_later old.at at)))
          (λ (ne : k ≢ owner). subst (λ (x : PendingName). IsNoLater (name_at pending.names.items k).at x.at) (sym (there k ne)) (no_later_refl (name_at pending.names.items k).at))
          (cases_eq k owner)

      late : (k c : ℕ) (m : LaneTime) → c < length told → owner_at pending.owners.items c ≡ k → now (name_wait c) ≡ Some m → IsNoLater m (name_at after.names.items k).at
      late k c m lt is d = ⊎_elim
          (λ (same : c ≡ number).
          let it : at ≡ m = some_same at m (sym (with_itself done number at) ∙ sym (ap (λ x. now (name_wait x)) same) ∙ d) in
          let mine : owner ≡ k = ap (owner_at pending.owners.items) (sym same) ∙ is in
          subst (λ x. IsNoLater x (name_at after.names.items k).at) it
          (subst (λ j. IsNoLater at (name_at after.names.items j).at) mine
          (subst (λ (x : PendingName). IsNoLater at x.at) (sym here) (second_no_later old.at at))))
          (λ (ne : c ≢ number).
          no_later_on m (name_at pending.names.items k).at (name_at after.names.items k).at (h.late k c m lt is (sym (with_other done number c at ne) ∙ d)) (grows k))
          (cases_eq c number)

      -- an object that was done stays done at the same time
      still : (k : ℕ) (m : LaneTime) → WasDone pending.owners.items done k m → WasDone pending.owners.items now k m
      still k m was =
          let other : was.0 ≢ number = λ is. absurd (none_is m (sym (ap (λ x. done (name_wait x)) is ∙ new) ∙ was.3)) in
          (was.0, was.1, was.2, with_other done number was.0 at other ∙ was.3)
        where
          none_is : (m : LaneTime) → None ≡ Some m → ⊥
          none_is m is = cc

      itself : WasDone pending.owners.items now owner at
      itself = (number, number_fits, refl, with_itself done number at)

      met_here : WasDone pending.owners.items now owner (later_of old.at at)
      met_here = ⊎_elim
          (λ (was : WasDone pending.owners.items done owner old.at). ⊎_elim
          (λ (is : later_of old.at at ≡ at). subst (WasDone pending.owners.items now owner) (sym is) itself)
          (λ (is : later_of old.at at ≡ old.at). subst (WasDone pending.owners.items now owner) (sym is) (still owner old.at was))
          (either_later old.at at))
          (λ (none : (old.at ≡ first_lane_time) × NoneDone pending.owners.items done owner).
          subst (WasDone pending.owners.items now owner) (sym (ap (λ m. later_of m at) none.0 ∙ later_of_first at)) itself)
          (h.met owner (owner_known number known))

      met_there : (k : ℕ) → k ≢ owner → k < length told → WasDone pending.owners.items now k (name_at pending.names.items k).at ⊎ (((name_at pending.names.items k).at ≡ first_lane_time) × NoneDone pending.owners.items now k)
      met_there k ne lt = ⊎_elim
          (λ (was : WasDone pending.owners.items done k (name_at pending.names.items k).at). inl (still k (name_at pending.names.items k).at was))
          (λ (none : ((name_at pending.names.items k).at ≡ first_lane_time) × NoneDone pending.owners.items done k).
          inr (none.0, λ c less is. with_other done number c at (λ same. ne (sym is ∙ ap (owner_at pending.owners.items) same)) ∙ none.1 c less is))
          (h.met k lt)

      met : (k : ℕ) → k < length told → WasDone pending.owners.items now k (name_at after.names.items k).at ⊎ (((name_at after.names.items k).at ≡ first_lane_time) × NoneDone pending.owners.items now k)
      met k lt = ⊎_elim
          (λ (is : k ≡ owner).
          inl (subst (λ j. WasDone pending.owners.items now j (name_at after.names.items j).at) (sym is)
          (subst (λ (x : PendingName). WasDone pending.owners.items now owner x.at) (sym here) met_here)))
          (λ (ne : k ≢ owner).
          subst (λ (x : PendingName). WasDone pending.owners.items now k x.at ⊎ ((x.at ≡ first_lane_time) × NoneDone pending.owners.items now k)) (sym (there k ne)) (met_there k ne lt))
          (cases_eq k owner)

      count : (k : ℕ) → k < length told → (name_at after.names.items k).pending ≡ pending_count pending.owners.items now k (length told)
      count k lt = ⊎_elim
          (λ (is : k ≡ owner).
          let before = h.count owner (owner_known number known) in
          let more = fewer pending.owners.items done number at new owner (length told) known refl in
          let mine = ap (λ (x : PendingName). x.pending) here in
          subst (λ j. (name_at after.names.items j).pending ≡ pending_count pending.owners.items now j (length told)) (sym is) (omega arith))
          (λ (ne : k ≢ owner).
          ap (λ (x : PendingName). x.pending) (there k ne) ∙ h.count k lt ∙ sym (as_many pending.owners.items done number at new k (length told) (λ is. ne (sym is))))
          (cases_eq k owner)

      low_here : changed.at.round ≤ max_told
      low_here =
          let before = h.low owner in ⊎_elim
          (λ (is : later_of old.at at ≡ at). let round = ap (λ (m : LaneTime). m.round) is in omega arith)
          (λ (is : later_of old.at at ≡ old.at). let round = ap (λ (m : LaneTime). m.round) is in omega arith)
          (either_later old.at at)

      low : (k : ℕ) → (name_at after.names.items k).at.round ≤ max_told
      low k = ⊎_elim
          (λ (is : k ≡ owner).
          subst (λ j. (name_at after.names.items j).at.round ≤ max_told) (sym is) (subst (λ (x : PendingName). x.at.round ≤ max_told) (sym here) low_here))
          (λ (ne : k ≢ owner). subst (λ (x : PendingName). x.at.round ≤ max_told) (sym (there k ne)) (h.low k))
          (cases_eq k owner)

      pub are_pending : ArePending told now after
      are_pending = record {
        owners = ap length owners ∙ h.owners;
        size = ap length next ∙ length-set pending.names.items owner changed ∙ h.size;
        owner = λ c lt. h.owner c lt ∙ ap Some (sym (owner_same c));
        count = λ k lt. count k lt ∙ ap (λ l. pending_count l now k (length told)) (sym owners);
        late = λ k c m lt is d. late k c m lt (sym (owner_same c) ∙ is) d;
        met = λ k lt. subst (λ l. WasDone l now k (name_at after.names.items k).at ⊎ (((name_at after.names.items k).at ≡ first_lane_time) × NoneDone l now k)) (sym owners) (met k lt);
        low = low;
      }

      -- ---- whether the name is done

      -- of other names nothing changes
      other_name : (other : Wait) → other.change ≢ owner → named_done pending other ≡ named_done after other
      other_name other ne = sym
          (ap (λ (x : PendingName). cond (eqb other.step 0 && eqb (owner_at after.owners.items other.change) other.change && eqb x.pending 0) (Some x.at) None) (there other.change ne)
          ∙ ap (λ o. cond (eqb other.step 0 && eqb o other.change && eqb (name_at pending.names.items other.change).pending 0) (Some (name_at pending.names.items other.change).at) None) (owner_same other.change))

      not_before : (other : Wait) → other.change ≡ owner → named_done pending other ≡ None
      not_before other is =
          let some = some_pending in
          let more : (name_at pending.names.items other.change).pending ≢ 0 = subst (λ j. (name_at pending.names.items j).pending ≢ 0) (sym is) (omega arith) in
          is_off (eqb other.step 0) (eqb (owner_at pending.owners.items other.change) other.change) (eqb (name_at pending.names.items other.change).pending 0)
          (name_at pending.names.items other.change).at (ne_eqb (name_at pending.names.items other.change).pending 0 more)

      not_after : (other : Wait) → other.change ≡ owner → old.pending - 1 ≢ 0 → named_done after other ≡ None
      not_after other is more =
          let left : (name_at after.names.items other.change).pending ≢ 0 =
          subst (λ j. (name_at after.names.items j).pending ≢ 0) (sym is) (subst (λ (x : PendingName). x.pending ≢ 0) (sym here) more) in
          is_off (eqb other.step 0) (eqb (owner_at after.owners.items other.change) other.change) (eqb (name_at after.names.items other.change).pending 0)
          (name_at after.names.items other.change).at (ne_eqb (name_at after.names.items other.change).pending 0 left)

      pub stays_open : old.pending - 1 ≢ 0 → (other : Wait) → named_done pending other ≡ named_done after other
      stays_open more other = ⊎_elim
          (λ (is : other.change ≡ owner). not_before other is ∙ sym (not_after other is more))
          (λ (ne : other.change ≢ owner). other_name other ne)
          (cases_eq other.change owner)

      done_now : old.pending - 1 ≡ 0 → named_done after (name_wait owner) ≡ Some (later_of old.at at)
      done_now none =
          let owns : owner_at after.owners.items owner ≡ owner = owner_same owner ∙ owner_owns number known in
          let left : (name_at after.names.items owner).pending ≡ 0 = ap (λ (x : PendingName). x.pending) here ∙ none in
          is_on (eqb (owner_at after.owners.items owner) owner) (eqb (name_at after.names.items owner).pending 0) (name_at after.names.items owner).at
          (eq-eqb (owner_at after.owners.items owner) owner owns) (eq-eqb (name_at after.names.items owner).pending 0 left)
          ∙ ap (λ (x : PendingName). Some x.at) here

      pub is_closed : old.pending - 1 ≡ 0 → Closes pending (Some (name_wait owner, later_of old.at at)) after
      is_closed none = (
        refl,
        fits,
        not_before (name_wait owner) refl,
        low_here,
        λ other. ⊎_elim
            (λ (same : is_same_wait (name_wait owner) other ≡ true).
            ap (λ t. cond t (Some (later_of old.at at)) (named_done pending other)) same ∙ sym (done_now none) ∙ ap (named_done after) (same_wait (name_wait owner) other same))
            (λ (differ : is_same_wait (name_wait owner) other ≡ false).
            ap (λ t. cond t (Some (later_of old.at at)) (named_done pending other)) differ ∙ ⊎_elim
            (λ (is : other.change ≡ owner).
            let step : other.step ≢ 0 = λ zero. true≢false (sym (is_same (name_wait owner) other (sym is) (sym zero)) ∙ differ) in
            not_before other is ∙ sym (ap (λ t. cond (t && eqb (owner_at after.owners.items other.change) other.change && eqb (name_at after.names.items other.change).pending 0) (Some (name_at after.names.items other.change).at) None) (ne_eqb other.step 0 step)))
            (λ (ne : other.change ≢ owner). other_name other ne)
            (cases_eq other.change owner))
            (cases_Bool (is_same_wait (name_wait owner) other)),
      )
        where
          fits : owner < length pending.owners.items
          fits = let size = h.owners in let lt = owner_known number known in omega arith
