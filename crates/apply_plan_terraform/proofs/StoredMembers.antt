-- Stored outputs, and the members that they stand for.
use Rattle.std.proofs.Common.{String, Global, Ordering, Less, Equal, Greater, string_bytes, string_cmp, nat_cmp, is_eq, cond, ◌≡◌, ℕ, List, [], ◌∷◌, ◌++◌, Option, Some, option_map, refl, ◌∙◌}
use Rattle.std.specs.BTreeMap.{insert_entry, is_at}
use Rattle.std.specs.Cmp.Lexicographic.{slice_cmp}
use Rattle.std.specs.Map.{lookup}
use Rattle.std.specs.Ordering.{match_ordering}
use Rattle.serde_json.specs.Data.{Data, Members, put}
use Rattle.serde_json.specs.Find.{get_member}
use Rattle.apply_plan_terraform.specs.declared.stored.stored_output.StoredOutput.{StoredOutput}
use Rattle.apply_plan_terraform.specs.StoredOutputs.{members_view, put_all, view}

abbrev pub Entry : Type 0
Entry = String Global × StoredOutput

members_view-match_ordering : (o : Ordering) (a b c : List Entry) → members_view (match_ordering o a b c) ≡ match_ordering o (members_view a) (members_view b) (members_view c)
members_view-match_ordering Less a b c = refl
members_view-match_ordering Equal a b c = refl
members_view-match_ordering Greater a b c = refl

pub members_view-insert_entry : (es : List Entry) (k : String Global) (v : StoredOutput) → members_view (insert_entry string_cmp es k v) ≡ put (string_bytes k) (view v) (members_view es)
members_view-insert_entry [] k v = refl
members_view-insert_entry (e ∷ es) k v = members_view-match_ordering (string_cmp k e.0) _ _ _ ∙ rw (members_view-insert_entry es k v)

value_or : (o : Ordering) (v : StoredOutput) (rest : Option StoredOutput) (d : Option Data) → option_map view rest ≡ d → option_map view (cond (is_eq o) (Some v) rest) ≡ match_ordering o d (Some (view v)) d
value_or Less v rest d e = e
value_or Equal v rest d e = refl
value_or Greater v rest d e = e

pub view-lookup : (name : List ℕ) (es : List Entry) → option_map view (lookup (is_at (λ k. slice_cmp nat_cmp name (string_bytes k))) es) ≡ get_member name (members_view es)
view-lookup name [] = refl
view-lookup name (e ∷ es) = value_or (slice_cmp nat_cmp name (string_bytes e.0)) e.1 _ _ (view-lookup name es)

-- one more at the end
pub put_last : (es : List Entry) (e : Entry) (collected : Members) → put_all (es ++ e ∷ []) collected ≡ put (string_bytes e.0) (view e.1) (put_all es collected)
put_last [] e collected = refl
put_last (first ∷ es) e collected = put_last es e _
