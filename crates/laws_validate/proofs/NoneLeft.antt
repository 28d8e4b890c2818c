-- A script without the members that have unknown names has no warning.
use Rattle.std.proofs.Common.{◌≡◌, ℕ, zero, suc, List, [], ◌∷◌, Bool, true, false, if◌then◌else◌, slice_get, Option, Some, None, option_map, option_and_then, refl, sym, ap, ◌∙◌}
use Rattle.std.specs.Option.{option_map_or}
use Rattle.std.proofs.lemmas.Bool.{true≢false}
use Rattle.serde_json.specs.Data.{Data, null, boolean, number, string, array, object, Items, no_items, item, Members, no_members, member}
use Rattle.serde_json.specs.Find.{get}
use Rattle.apply_json.specs.ShallowView.{members_in}
use Rattle.apply_json.specs.Tree.{list_of}
use Rattle.apply_json_tree.specs.Trimmed.{trimmed, trimmed_items, trimmed_members}
use Rattle.apply_json_tree.proofs.Trimmed.Lookups.{get_trimmed}
use Rattle.input_validate.specs.declared.findings.name.Name.{Name}
use Rattle.input_validate.specs.declared.findings.name.Name.TheVariants as name
use Rattle.input_validate.specs.declared.findings.path.Segment.{Segment}
use Rattle.input_validate.specs.declared.findings.path.Segment.TheVariants.{Item, Member}
use Rattle.input_validate.specs.Names.{name_text}
use Rattle.input_validate.specs.Rules.{is_known, texts_in}
use Rattle.laws_validate.specs.Paths.{value_at, value_by}
use Rattle.laws_validate.specs.Reading as kind
use Rattle.laws_validate.specs.Reading.{Kind, among, kind_of_item, kind_of_member, reading, without_unknown}
use Rattle.laws_validate.specs.IgnoredMembers.{IsRead, IsIgnored, entry, failure, failure_of_provisioner, output, provisioner, step, top, wait, warning}

-- ---- along a path

-- a path leads from a value of one kind to one of another
data Leads : Kind → List Segment → Kind → Type 0 where
  here : {k : Kind} → Leads k [] k
  at_name : {k inner last : Kind} {path : List Segment} (n : Name) → kind_of_member k (name_text n) ≡ Some inner → Leads inner path last → Leads k (Member n ∷ path) last
  at_item : {k last : Kind} {path : List Segment} (n : ℕ) → Leads (kind_of_item k) path last → Leads k (Item n ∷ path) last

nth_left : (k : Kind) (ds : Items) (n : ℕ) → slice_get (list_of (trimmed_items reading k None ds)) n ≡ option_map (trimmed reading k) (slice_get (list_of ds) n)
nth_left k no_items n = refl
nth_left k (item d ds) zero = refl
nth_left k (item d ds) (suc n) = nth_left k ds n

item_left : (k : Kind) (n : ℕ) (d : Data) → value_by (Item n) (trimmed reading k d) ≡ option_map (trimmed reading (kind_of_item k)) (value_by (Item n) d)
item_left k n null = refl
item_left k n (boolean b) = refl
item_left k n (number x) = refl
item_left k n (string s) = refl
item_left k n (array ds) = nth_left (kind_of_item k) ds n
item_left k n (object ms) = refl

and_on : (inner last : Kind) (path : List Segment) → ((d : Data) → value_at path (trimmed reading inner d) ≡ option_map (trimmed reading last) (value_at path d)) → (o : Option Data)
    → option_and_then (value_at path) (option_map (trimmed reading inner) o) ≡ option_map (trimmed reading last) (option_and_then (value_at path) o)
and_on inner last path rest None = refl
and_on inner last path rest (Some d) = rest d

value_left : {k last : Kind} {path : List Segment} → Leads k path last → (d : Data) → value_at path (trimmed reading k d) ≡ option_map (trimmed reading last) (value_at path d)
value_left here d = refl
value_left (at_name {k} {inner} {last} {path} n looked rest) d =
    ap (option_and_then (value_at path)) (get_trimmed reading k inner (name_text n) d looked) ∙ and_on inner last path (value_left rest) (get (name_text n) d)
value_left (at_item {k} {last} {path} n rest) d =
    ap (option_and_then (value_at path)) (item_left k n d) ∙ and_on (kind_of_item k) last path (value_left rest) (value_by (Item n) d)

-- ---- the names that are left

abbrev where_known : Bool → Kind → Option Kind
where_known rule k = if rule then Some k else None

abbrev with_kind : Option Kind → List ℕ → Data → Members → Members
with_kind findings l d rest = option_map_or (λ k. member l (trimmed reading k d) rest) findings rest

same_text : (x y : List ℕ) → Some x ≡ Some y → x ≡ y
same_text x y e = cc

first_or_later : (names : List Name) (rule : Bool) (l : List ℕ) (k : Kind) (d : Data) (rest : Members) (n : ℕ) (text : List ℕ) → is_known names l ≡ rule
    → ((m : ℕ) → slice_get (texts_in rest) m ≡ Some text → is_known names text ≡ true)
    → slice_get (texts_in (with_kind (where_known rule k) l d rest)) n ≡ Some text → is_known names text ≡ true
first_or_later names true l k d rest zero text rule later e = ap (is_known names) (sym (same_text l text e)) ∙ rule
first_or_later names true l k d rest (suc n) text rule later e = later n e
first_or_later names false l k d rest n text rule later e = later n e

known_in : (k : Kind) (names : List Name) (inside : List ℕ → Kind) → ((text : List ℕ) → kind_of_member k text ≡ among names inside text) → (ms : Members) (n : ℕ) (text : List ℕ)
    → slice_get (texts_in (trimmed_members reading k ms)) n ≡ Some text → is_known names text ≡ true
known_in k names inside is no_members n text e = absurd cc
known_in k names inside is (member l d ms) n text e =
    first_or_later names (is_known names l) l (inside l) d (trimmed_members reading k ms) n text refl (λ m later. known_in k names inside is ms m text later)
    (ap (λ o. slice_get (texts_in (with_kind o l d (trimmed_members reading k ms))) n) (sym (is l)) ∙ e)

known_of : (k : Kind) (names : List Name) (inside : List ℕ → Kind) → ((text : List ℕ) → kind_of_member k text ≡ among names inside text) → (d : Data) (n : ℕ) (text : List ℕ)
    → slice_get (texts_in (members_in (trimmed reading k d))) n ≡ Some text → is_known names text ≡ true
known_of k names inside is null n text e = absurd cc
known_of k names inside is (boolean b) n text e = absurd cc
known_of k names inside is (number x) n text e = absurd cc
known_of k names inside is (string s) n text e = absurd cc
known_of k names inside is (array ds) n text e = absurd cc
known_of k names inside is (object ms) n text e = known_in k names inside is ms n text e

-- ---- the objects of a script

-- what stands where members of these names are read
record Stands (front : List Segment) (names : List Name) : Type 0 where
  k : Kind
  inside : List ℕ → Kind
  leads : Leads kind.Script front k
  is : (text : List ℕ) → kind_of_member k text ≡ among names inside text

stands : {front : List Segment} {names : List Name} → IsRead front names → Stands front names
stands top = record { k = kind.Script; inside = kind.in_script; leads = here; is = λ text. refl }
stands (entry e) = record { k = kind.Entry; inside = kind.in_entry; leads = at_name name.Changes refl (at_item e here); is = λ text. refl }
stands (step e s) =
    record { k = kind.Step; inside = kind.in_step; leads = at_name name.Changes refl (at_item e (at_name name.Steps refl (at_item s here))); is = λ text. refl }
stands (warning e s) =
    record { k = kind.Diagnostic; inside = kind.in_others; leads = at_name name.Changes refl (at_item e (at_name name.Steps refl (at_item s (at_name name.Warning refl here)))); is = λ text. refl }
stands (failure e s) =
    record { k = kind.Failure; inside = kind.in_others; leads = at_name name.Changes refl (at_item e (at_name name.Steps refl (at_item s (at_name name.Failed refl here)))); is = λ text. refl }
stands (provisioner e s p) = record {
  k = kind.Provisioner;
  inside = kind.in_provisioner;
  is = λ text. refl;
  leads = at_name name.Changes refl (at_item e (at_name name.Steps refl (at_item s (at_name name.Provisioners refl (at_item p here)))));
}
stands (failure_of_provisioner e s p) = record {
  k = kind.Diagnostic;
  inside = kind.in_others;
  is = λ text. refl;
  leads = at_name name.Changes refl (at_item e (at_name name.Steps refl (at_item s (at_name name.Provisioners refl (at_item p (at_name name.Failed refl here))))));
}
stands (output e s p n) = record {
  k = kind.Output;
  inside = kind.in_others;
  is = λ text. refl;
  leads = at_name name.Changes refl (at_item e (at_name name.Steps refl (at_item s (at_name name.Provisioners refl (at_item p (at_name name.Output refl (at_item n here)))))));
}
stands (wait e s n) = record {
  k = kind.Wait;
  inside = kind.in_others;
  is = λ text. refl;
  leads = at_name name.Changes refl (at_item e (at_name name.Steps refl (at_item s (at_name name.After refl (at_item n here)))));
}

made_of : (f : Data → Data) (o : Option Data) (y : Data) → option_map f o ≡ Some y → (x : Data) × (f x ≡ y)
made_of f None y e = absurd cc
made_of f (Some x) y e = (x, cc)

pub none_left : (script : Data) (path : List Segment) → IsIgnored IsRead (without_unknown script) path → ⊥
none_left script path h =
    let it = stands h.reads in
    let value = made_of (trimmed reading it.k) (value_at h.front script) h.value (sym (value_left it.leads script) ∙ h.value_is) in
    true≢false (sym (known_of it.k h.names it.inside it.is value.0 h.number h.text (ap (λ v. slice_get (texts_in (members_in v)) h.number) value.1 ∙ h.text_is)) ∙ h.unknown)
