-- What a slot holds after one member more, whose name is known.
use Rattle.std.proofs.Common.{◌≡◌, ℕ, List, true, false, Option, Some, refl, ap, ◌∙◌, ⊎_elim}
use Rattle.std.specs.Prelude.{if◌then◌else◌}
use Rattle.std.specs.Str.{bytes_eq}
use Rattle.std.proofs.lemmas.Bool.{cases_Bool}
use Rattle.serde_json.specs.Data.{Data, Members, put}
use Rattle.serde_json.specs.Find.{get_member}
use Rattle.apply_json.proofs.Held.{is_name, left, taken}

-- the member `q` after the member `name` was added
abbrev pub located_after : (name : List ℕ) → Data → Members → List ℕ → Option Data
located_after name d ms q = if bytes_eq name q then Some d else get_member q ms

-- a slot that holds this member holds the member `q` of all members
pub after_member : {V : Type 0} (see : Option Data → V) (q k name : List ℕ) (d : Data) (ms : Members) (slot : V) → bytes_eq k name ≡ true → slot ≡ see (located_after name d ms q) → slot ≡ see (get_member q (put k d ms))
after_member see q k name d ms slot here is =
    let same = ap (λ (n : List ℕ). bytes_eq n q) (is_name k name here) in
    ⊎_elim (λ (yes : bytes_eq name q ≡ true). taken see q k d ms slot (same ∙ yes) (is ∙ rw yes refl))
    (λ (no : bytes_eq name q ≡ false). left see q k d ms slot (same ∙ no) (is ∙ rw no refl)) (cases_Bool (bytes_eq name q))
