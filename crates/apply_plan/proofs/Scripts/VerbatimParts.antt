-- Members of the values of a script, some of which are read as raw JSON text.
use Rattle.std.proofs.Common.{◌≡◌, ℕ, List, true, false, Option, Some, Result, ap, sym, ◌∙◌}
use Rattle.std.specs.Prelude.{OnOk}
use Rattle.std.specs.Str.{bytes_eq}
use Rattle.json.specs.Token.{Token}
use Rattle.json.specs.Json as json
use Rattle.serde_json.specs.Data.{Data, string}
use Rattle.serde_json.specs.Read.{converted, of_json}
use Rattle.apply_json.specs.Verbatim.{as_verbatim, mixed_tree, mixed_member}
use Rattle.apply_json.specs.ShallowView.{ShallowView, shallow_of}
use Rattle.apply_json.proofs.Copied.{if_ok}
use Rattle.apply_json.proofs.Held.{is_name}
use Rattle.apply_json.proofs.VerbatimValues as verbatim
use Rattle.apply_plan.specs.Script.Entry.{is_verbatim_name}

-- equal names are both verbatim or both not
pub as_that : (k q : List ℕ) → bytes_eq k q ≡ true → is_verbatim_name k ≡ is_verbatim_name q
as_that k q same = ap is_verbatim_name (is_name k q same)

module _ (k : List ℕ) (o : Option (json.Json × List Token)) (d : Data) (r : List Token) where
  -- a value without its contents, of a member that is not verbatim
  pub scalar_member : (x : ShallowView) → is_verbatim_name k ≡ false → converted of_json o ≡ Some (d, r) → x ≡ shallow_of (Some d)
      → (e : Data) × (converted (mixed_member is_verbatim_name k) o ≡ Some (e, r)) × (x ≡ shallow_of (Some e))
  scalar_member x not read is =
      let e = verbatim.scalar_kept is_verbatim_name o d r read in
      (e.0, verbatim.unkept is_verbatim_name o k e.0 r not e.1, is ∙ sym e.2)

  -- any other value
  pub other_member : is_verbatim_name k ≡ false → converted (mixed_tree is_verbatim_name) o ≡ Some (d, r) → converted (mixed_member is_verbatim_name k) o ≡ Some (d, r)
  other_member not read = verbatim.unkept is_verbatim_name o k d r not read

  -- a skipped member
  pub passed_member : converted of_json o ≡ Some (d, r) → (e : Data) × (converted (mixed_member is_verbatim_name k) o ≡ Some (e, r))
  passed_member read = verbatim.passed is_verbatim_name o k d r read

module _ (o : Option (json.Json × List Token)) (d : Data) (r : List Token) where
  -- a skipped item
  pub passed_item : converted of_json o ≡ Some (d, r) → (e : Data) × (converted (mixed_tree is_verbatim_name) o ≡ Some (e, r))
  passed_item read = let e = verbatim.scalar_kept is_verbatim_name o d r read in (e.0, e.1)

-- a verbatim member
text_member : (k : List ℕ) (o : Option (json.Json × List Token)) (text : List ℕ) (r : List Token) → is_verbatim_name k ≡ true → converted as_verbatim o ≡ Some (string text, r)
    → converted (mixed_member is_verbatim_name k) o ≡ Some (string text, r)
text_member k o text r is read = verbatim.own is_verbatim_name o k text r is read

-- ---- members whose reading may have failed

module _ {T E : Type 0} (r : Result T E) (k q : List ℕ) (here : bytes_eq k q ≡ true) (o : Option (json.Json × List Token)) (rest : List Token) where
  pub scalar_read : {x : ShallowView} {H : Data → Type 0} → is_verbatim_name q ≡ false → ((d : Data) → x ≡ shallow_of (Some d) → H d)
      → OnOk r ((d : Data) × (converted of_json o ≡ Some (d, rest)) × (x ≡ shallow_of (Some d)))
      → OnOk r ((d : Data) × (converted (mixed_member is_verbatim_name k) o ≡ Some (d, rest)) × H d)
  scalar_read not make read =
      if_ok r (λ done. let there = scalar_member k o done.0 rest _ (as_that k q here ∙ not) done.1 done.2 in (there.0, there.1, make there.0 there.2)) read

  pub other_read : {S H : Data → Type 0} → is_verbatim_name q ≡ false → ((d : Data) → S d → H d)
      → OnOk r ((d : Data) × (converted (mixed_tree is_verbatim_name) o ≡ Some (d, rest)) × S d)
      → OnOk r ((d : Data) × (converted (mixed_member is_verbatim_name k) o ≡ Some (d, rest)) × H d)
  other_read not make read = if_ok r (λ done. (done.0, other_member k o done.0 rest (as_that k q here ∙ not) done.1, make done.0 done.2)) read

  pub text_read : (H : Data → Type 0) {S : List ℕ → Type 0} → is_verbatim_name q ≡ true → ((text : List ℕ) → S text → H (string text))
      → OnOk r ((text : List ℕ) × (converted as_verbatim o ≡ Some (string text, rest)) × S text)
      → OnOk r ((d : Data) × (converted (mixed_member is_verbatim_name k) o ≡ Some (d, rest)) × H d)
  text_read H is make read = if_ok r (λ done. (string done.0, text_member k o done.0 rest (as_that k q here ∙ is) done.1, make done.0 done.2)) read

pub passed_read : {T E : Type 0} (r : Result T E) (k : List ℕ) (o : Option (json.Json × List Token)) (rest : List Token) {H : Data → Type 0} → ((d : Data) → H d)
    → OnOk r ((d : Data) × (converted of_json o ≡ Some (d, rest)))
    → OnOk r ((d : Data) × (converted (mixed_member is_verbatim_name k) o ≡ Some (d, rest)) × H d)
passed_read r k o rest make read = if_ok r (λ done. let there = passed_member k o done.0 rest done.1 in (there.0, there.1, make there.0)) read
