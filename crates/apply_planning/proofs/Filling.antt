-- Told objects before any is done: the names of the first ones are counted.
use Rattle.std.proofs.Common.{◌≡◌, ◌≢◌, ℕ, zero, suc, ◌+◌, ◌<◌, ◌≤◌, List, [], ◌∷◌, ◌++◌, Some, cond, get_or, length, set, replicate, refl, sym, ap, ◌∙◌, ⊎_elim, inr, arith, eqb, length-append}
use Rattle.std.proofs.lemmas.Bool.{cases_eq}
use Rattle.std.proofs.lemmas.List.{get_or-set_other, get_or-set_same, get_or_append_left, length-replicate, length-set}
use Rattle.std.proofs.Math.Seq.{get_or-append_seam}
use Rattle.apply_events.specs.Waits.LaneTime.{first_lane_time}
use Rattle.apply_events.specs.Waits.Queue.{none_done}
use Rattle.apply_planning.specs.declared.pending_names.PendingName.{PendingName}
use Rattle.apply_planning.specs.declared.pending_names.PendingNames.{PendingNames}
use Rattle.apply_planning.specs.declared.told.Told.{Told}
use Rattle.apply_planning.specs.Names.{first_named}
use Rattle.apply_planning.specs.PendingNames.{ArePending, name_at, owner_at, pending_count, pending_if}
use Rattle.apply_planning.proofs.Counted.{few_pending, of_name, of_other}
use Rattle.apply_planning.proofs.Numbered.{named_at}

-- the names of the first `count` objects are counted
pub record AreFilled (told : List Told) (count : ℕ) (pending : PendingNames) : Type 0 where
  pub owners : length pending.owners.items ≡ count
  pub size : length pending.names.items ≡ length told
  pub owner : (c : ℕ) → c < count → first_named told (named_at told c) ≡ Some (owner_at pending.owners.items c)
  pub counts : (k : ℕ) → k < length told → (name_at pending.names.items k).pending ≡ pending_count pending.owners.items none_done k count
  pub first : (k : ℕ) → (name_at pending.names.items k).at ≡ first_lane_time

all_first : (n k : ℕ) → name_at (replicate n (record { pending = 0; at = first_lane_time })) k ≡ record { pending = 0; at = first_lane_time }
all_first zero k = refl
all_first (suc n) zero = refl
all_first (suc n) (suc k) = all_first n k

pub none_filled : (told : List Told) (pending : PendingNames) → pending.owners.items ≡ [] → pending.names.items ≡ replicate (length told) (record { pending = 0; at = first_lane_time }) → AreFilled told 0 pending
none_filled told pending none names = record {
  owners = ap length none;
  size = ap length names ∙ length-replicate (length told) (let x : PendingName = record { pending = 0; at = first_lane_time } in x);
  owner = λ c lt. absurd (omega arith);
  counts = λ k lt. ap (λ l. (name_at l k).pending) names ∙ ap (λ (x : PendingName). x.pending) (all_first (length told) k);
  first = λ k. ap (λ l. (name_at l k).at) names ∙ ap (λ (x : PendingName). x.at) (all_first (length told) k);
}

pub all_filled : (told : List Told) (pending : PendingNames) → AreFilled told (length told) pending → ArePending told none_done pending
all_filled told pending h = record {
  owners = h.owners;
  size = h.size;
  owner = h.owner;
  count = h.counts;
  late = λ k c m lt is d. absurd cc;
  met = λ k lt. inr (h.first k, λ c less is. refl);
  low = λ k. (let none = ap (λ m. m.round) (h.first k) in omega arith);
}

same_if : (owners more : List ℕ) (k c : ℕ) → c < length owners → pending_if (owners ++ more) none_done k c ≡ pending_if owners none_done k c
same_if owners more k c lt = ap (λ o. cond (eqb o k) 1 0) (get_or_append_left owners more (c + 1) c lt)

same_count : (owners more : List ℕ) (k count : ℕ) → count ≤ length owners → pending_count (owners ++ more) none_done k count ≡ pending_count owners none_done k count
same_count owners more k zero le = refl
same_count owners more k (suc count) le =
    let rest = same_count owners more k count (omega arith) in let here = same_if owners more k count (omega arith) in omega arith

module _ (told : List Told) (count : ℕ) (pending : PendingNames) (h : AreFilled told count pending) (room : count < length told) (owner : ℕ) (fits : owner < length told)
    (is : first_named told (named_at told count) ≡ Some owner) where
  pub few : (name_at pending.names.items owner).pending ≤ count
  few = let same = h.counts owner fits in let low = few_pending pending.owners.items none_done owner count in omega arith

  module _ (after : PendingNames) (x : PendingName) (read : x ≡ name_at pending.names.items owner) (owners : after.owners.items ≡ pending.owners.items ++ owner ∷ [])
      (next : after.names.items ≡ set pending.names.items owner (record { pending = x.pending + 1; at = x.at })) where
    abbrev changed : PendingName
    changed = record { pending = x.pending + 1; at = x.at }

    here : name_at after.names.items owner ≡ changed
    here = let size = h.size in ap (λ l. name_at l owner) next ∙ get_or-set_same pending.names.items owner changed (record { pending = 0; at = first_lane_time }) (omega arith)

    there : (k : ℕ) → k ≢ owner → name_at after.names.items k ≡ name_at pending.names.items k
    there k ne = ap (λ l. name_at l k) next ∙ get_or-set_other pending.names.items owner k changed (record { pending = 0; at = first_lane_time }) ne

    old_owner : (c : ℕ) → c < count → owner_at after.owners.items c ≡ owner_at pending.owners.items c
    old_owner c lt = let size = h.owners in ap (λ l. owner_at l c) owners ∙ get_or_append_left pending.owners.items (owner ∷ []) (c + 1) c (omega arith)

    new_owner : owner_at after.owners.items count ≡ owner
    new_owner = ap (λ l. owner_at l count) owners ∙ ap (λ j. get_or (pending.owners.items ++ owner ∷ []) j (count + 1)) (sym h.owners) ∙ get_or-append_seam pending.owners.items owner [] (count + 1)

    count_more : (k : ℕ) → pending_count after.owners.items none_done k (count + 1) ≡ pending_if after.owners.items none_done k count + pending_count pending.owners.items none_done k count
    count_more k =
        let size = h.owners in
        let next_is : count + 1 ≡ suc count = omega arith in
        let rest : pending_count after.owners.items none_done k count ≡ pending_count pending.owners.items none_done k count =
        ap (λ l. pending_count l none_done k count) owners ∙ same_count pending.owners.items (owner ∷ []) k count (omega arith) in
        ap (pending_count after.owners.items none_done k) next_is ∙ ap (λ n. pending_if after.owners.items none_done k count + n) rest

    pub one_filled : AreFilled told (count + 1) after
    one_filled = record {
      owners = ap length owners ∙ length-append pending.owners.items (owner ∷ []) ∙ ap (λ n. n + 1) h.owners;
      size = ap length next ∙ length-set pending.names.items owner changed ∙ h.size;
      owner = λ c lt. ⊎_elim
          (λ (same : c ≡ count). ap (λ j. first_named told (named_at told j)) same ∙ is ∙ ap Some (sym (ap (owner_at after.owners.items) same ∙ new_owner)))
          (λ (ne : c ≢ count). h.owner c (omega arith) ∙ ap Some (sym (old_owner c (omega arith))))
          (cases_eq c count);
      counts = λ k lt. (
          let more = count_more k in
          let before = h.counts k lt in ⊎_elim
          (λ (same : k ≡ owner).
          let one = of_name after.owners.items none_done k count (new_owner ∙ sym same) in
          let mine : (name_at after.names.items k).pending ≡ (name_at pending.names.items k).pending + 1 =
          ap (λ j. (name_at after.names.items j).pending) same ∙ ap (λ (y : PendingName). y.pending) here ∙ ap (λ (y : PendingName). y.pending + 1) read ∙ ap (λ j. (name_at pending.names.items j).pending + 1) (sym same) in omega arith)
          (λ (ne : k ≢ owner).
          let none = of_other after.owners.items none_done k count (λ same. ne (sym same ∙ new_owner)) in
          let mine = ap (λ (y : PendingName). y.pending) (there k ne) in omega arith)
          (cases_eq k owner));
      first = λ k. ⊎_elim
          (λ (same : k ≡ owner). ap (λ j. (name_at after.names.items j).at) same ∙ ap (λ (y : PendingName). y.at) here ∙ ap (λ (y : PendingName). y.at) read ∙ h.first owner)
          (λ (ne : k ≢ owner). ap (λ (y : PendingName). y.at) (there k ne) ∙ h.first k)
          (cases_eq k owner);
    }
