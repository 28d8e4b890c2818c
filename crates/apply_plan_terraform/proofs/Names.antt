-- A name stands for the last output with that name.
use Rattle.std.proofs.Common.{bytes_eq, cond, string_bytes, ◌≡◌, ℕ, List, [], ◌∷◌, ◌++◌, Bool, true, false, Option, Some, option_map, refl, sym, ap, ◌∙◌}
use Rattle.serde_json.specs.Data.{Data, Members, no_members, put}
use Rattle.serde_json.specs.Find.{get_member}
use Rattle.apply_plan_terraform.specs.StoredOutputs.{put_all, view}
use Rattle.apply_plan_terraform.specs.Outputs.{is_typed}
use Rattle.apply_plan_terraform.proofs.StoredMembers.{Entry, put_last}
use Rattle.apply_plan_terraform.proofs.Seeking.{at_name, at_other}

put_named : (name q : List ℕ) (d : Data) (ms : Members) (same : Bool) → bytes_eq name q ≡ same → get_member q (put name d ms) ≡ cond same (Some d) (get_member q ms)
put_named name q d ms true is = at_name q name d ms is
put_named name q d ms false is = at_other q name d ms is

typed_at : (same : Bool) (d : Data) (collected : Option Data) → option_map is_typed (cond same (Some d) collected) ≡ cond same (Some (is_typed d)) (option_map is_typed collected)
typed_at true d collected = refl
typed_at false d collected = refl

pub named_last : (es : List Entry) (e : Entry) (name : List ℕ) (typed : Bool) (q : List ℕ) (collected : Option Bool) → name ≡ string_bytes e.0 → typed ≡ is_typed (view e.1)
    → collected ≡ option_map is_typed (get_member q (put_all es no_members))
    → cond (bytes_eq name q) (Some typed) collected ≡ option_map is_typed (get_member q (put_all (es ++ e ∷ []) no_members))
named_last es e name typed q collected named is so_far =
    ap (λ k. cond (bytes_eq k q) (Some typed) collected) named
    ∙ ap (λ t. cond (bytes_eq (string_bytes e.0) q) (Some t) collected) is
    ∙ ap (cond (bytes_eq (string_bytes e.0) q) (Some (is_typed (view e.1)))) so_far
    ∙ sym (typed_at (bytes_eq (string_bytes e.0) q) (view e.1) (get_member q (put_all es no_members)))
    ∙ ap (option_map is_typed) (sym (put_named (string_bytes e.0) q (view e.1) (put_all es no_members) _ refl))
    ∙ ap (λ ms. option_map is_typed (get_member q ms)) (sym (put_last es e no_members))
