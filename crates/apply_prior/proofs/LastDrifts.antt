-- The id before the last drift of each object, as drifts are added.
use Rattle.std.proofs.Common.{◌≡◌, ℕ, ◌+◌, ◌<◌, Bool, true, false, cond, List, [], ◌∷◌, ◌++◌, length, get_or, take, BTreeMap, Option, Some, if◌then◌else◌, refl, sym, ap, ◌∙◌}
use Rattle.std.specs.BTreeMap.{IsEmpty, Updates, get_by}
use Rattle.std.specs.Map.{lookup}
use Rattle.std.specs.Option.{option_copied, option_map_or}
use denote.Ref.{Bor}
use Rattle.apply_model.specs.Plan.ResourceChange.{ResourceChange}
use Rattle.apply_resolve.specs.declared.object_id.ObjectId.{ObjectId}
use Rattle.apply_resolve.specs.ObjectIds.{is_same_id}
use Rattle.apply_resolve.specs.ObjectName.{name_one_object}
use Rattle.apply_resolve.proofs.Orders.{by_address_and_key, orders}
use Rattle.apply_prior.specs.declared.drift.Drift.{Drift}
use Rattle.apply_model.specs.declared.plan.mode.Mode.{Mode}
use Rattle.apply_model.specs.declared.plan.mode.Mode.TheVariants.{Managed}
use Rattle.apply_prior.specs.Objects.{id_by_mode, last_id}
use Rattle.apply_prior.proofs.Lists.{one_more}

abbrev Ids : Type 0
Ids = BTreeMap ObjectId (Option (Bor (List ℕ)))

same_lookup : (p q : ObjectId → Bool) → ((key : ObjectId) → p key ≡ q key) → (entries : List (ObjectId × Option (Bor (List ℕ)))) → lookup p entries ≡ lookup q entries
same_lookup p q same [] = refl
same_lookup p q same (e ∷ es) = rw (same e.0, same_lookup p q same es) refl

-- what the map has at an object
pub get_is : (ids : Ids) (key : ObjectId) → get_by (by_address_and_key key) ids ≡ lookup (is_same_id key) ids.entries
get_is ids key = same_lookup _ _ (λ other. orders key other) ids.entries

-- the map has the id before the last drift of each object
abbrev pub HasLast : Ids → List Drift → Type 0
HasLast ids drifts = (object : ObjectId) → (id : Option (List ℕ)) → option_map_or option_copied (lookup (is_same_id object) ids.entries) id ≡ last_id drifts object.address.now (option_copied object.deposed) id

pub no_drifts : (ids : Ids) → IsEmpty ids → HasLast ids []
no_drifts ids empty object id = rw empty refl

last_end : (drifts : List Drift) (drift : Drift) (address : List ℕ) (deposed id : Option (List ℕ))
    → last_id (drifts ++ drift ∷ []) address deposed id ≡ (if name_one_object drift.change.address drift.change.deposed address deposed then drift.change.prior_id else last_id drifts address deposed id)
last_end [] drift address deposed id = refl
last_end (first ∷ drifts) drift address deposed id = last_end drifts drift address deposed _

chosen : (b : Bool) (before : Option (Bor (List ℕ))) (o : Option (Option (Bor (List ℕ)))) (id : Option (List ℕ))
    → option_map_or option_copied (cond b (Some before) o) id ≡ (if b then option_copied before else option_map_or option_copied o id)
chosen true before o id = refl
chosen false before o id = refl

-- one drift more
pub more_drifts : (old new : Ids) (drifts : List Drift) (i : ℕ) (drift : Drift) (key : ObjectId) (before : Option (Bor (List ℕ))) → i < length drifts → drift ≡ get_or drifts i drift
    → key.address.now ≡ drift.change.address → option_copied key.deposed ≡ drift.change.deposed → option_copied before ≡ drift.change.prior_id
    → HasLast old (take i drifts) → Updates by_address_and_key old new key (Some before) → HasLast new (take (i + 1) drifts)
more_drifts old new drifts i drift key before below read address deposed is has updates object id =
    ap (λ o. option_map_or option_copied o id) (sym (get_is new object) ∙ updates.0 object)
    ∙ chosen _ before (get_by (by_address_and_key object) old) id
    ∙ rw (orders key object, address, deposed, is, get_is old object, has object id) refl
    ∙ sym (last_end (take i drifts) drift object.address.now (option_copied object.deposed) id)
    ∙ ap (λ ds. last_id ds object.address.now (option_copied object.deposed) id) (sym (one_more drifts i drift below read))

-- the id before of a managed object, by what the map has
pub managed : (ids : Ids) (drifts : List Drift) (key : ObjectId) (o : Option (Option (Bor (List ℕ)))) (object : ResourceChange) (mode : Mode) (id : Option (List ℕ)) → mode ≡ Managed
    → key.address.now ≡ object.address → option_copied key.deposed ≡ object.deposed → o ≡ get_by (by_address_and_key key) ids → id ≡ option_map_or option_copied o object.prior_id → HasLast ids drifts
    → id ≡ id_by_mode mode drifts object
managed ids drifts key o object mode id is address deposed got found has =
    found ∙ ap (λ p. option_map_or option_copied p object.prior_id) (got ∙ get_is ids key) ∙ has key object.prior_id ∙ rw (address, deposed, is) refl
