-- Outputs by name, and what the slots of an output hold after one member more.
use Rattle.std.proofs.Common.{String, Global, string_bytes, ◌≡◌, ℕ, List, [], ◌∷◌, Bool, true, false, codes, Option, Some, Result, option_map, refl, sym, ap, ◌∙◌, ⊎_elim}
use Rattle.std.specs.Prelude.{OnOk}
use Rattle.std.specs.Str.{bytes_eq}
use Rattle.std.specs.String.{string_eq}
use Rattle.std.proofs.lemmas.Bool.{cases_Bool}
use Rattle.indexmap.specs.IndexMap.{insert_entry}
use Rattle.json.specs.Json as json
use Rattle.json.specs.Token.{Token}
use Rattle.serde_json.specs.Data.{Data, Members, put}
use Rattle.serde_json.specs.Find.{as_str}
use Rattle.serde_json.specs.Read.{converted, of_json}
use Rattle.apply_json.specs.ShallowView.{ShallowView, shallow_of, shallow_view}
use Rattle.apply_json.specs.Tree.{◌>>=◌}
use Rattle.apply_json.specs.Verbatim.{mixed_member}
use Rattle.apply_json.proofs.Copied.{if_ok}
use Rattle.apply_json.proofs.Held.{is_name}
use Rattle.apply_json.proofs.OneMember.{after_member, located_after}
use Rattle.apply_json.proofs.VerbatimValues.{passed, scalar_kept, unkept}
use Rattle.stream_record_lines.specs.declared.outputs.output_slots.OutputSlots.{OutputSlots}
use Rattle.stream_record_lines.specs.declared.outputs.statement.Statement.{Statement}
use Rattle.stream_record_lines.specs.Outputs.{StatedOutput, is_json, put_output}
use Rattle.stream_record_lines.specs.OutputSlots.{HoldsOutput, entries_view, entry_view, statement_view}

-- a member of an output that has a slot
pub output_after : (k q : List ℕ) (d : Data) (ms : Members) → bytes_eq k q ≡ true → (slots : OutputSlots) → shallow_view slots.action ≡ shallow_of (located_after q d ms (codes "action"))
    → shallow_view slots.sensitive ≡ shallow_of (located_after q d ms (codes "sensitive"))
    → option_map string_bytes slots.type_json ≡ (located_after q d ms (codes "type") >>= as_str)
    → option_map string_bytes slots.value_json ≡ (located_after q d ms (codes "value") >>= as_str) → HoldsOutput slots (put k d ms)
output_after k q d ms here slots action sensitive type_json value_json = record {
  action = after_member shallow_of (codes "action") k q d ms _ here action;
  sensitive = after_member shallow_of (codes "sensitive") k q d ms _ here sensitive;
  type_json = after_member (λ o. o >>= as_str) (codes "type") k q d ms _ here type_json;
  value_json = after_member (λ o. o >>= as_str) (codes "value") k q d ms _ here value_json;
}

-- a value without its contents, of a member that is not read as text
pub scalar_read : {T E : Type 0} (r : Result T E) (k q : List ℕ) → bytes_eq k q ≡ true → is_json q ≡ false → (o : Option (json.Json × List Token)) (rest : List Token) {x : ShallowView} {H : Data → Type 0}
    → ((d : Data) → x ≡ shallow_of (Some d) → H d) → OnOk r ((d : Data) × (converted of_json o ≡ Some (d, rest)) × (x ≡ shallow_of (Some d)))
    → OnOk r ((d : Data) × (converted (mixed_member is_json k) o ≡ Some (d, rest)) × H d)
scalar_read r k q here not o rest make read =
    if_ok r
    (λ done.
    let kept = scalar_kept is_json o done.0 rest done.1 in
    (kept.0, unkept is_json o k kept.0 rest (ap is_json (is_name k q here) ∙ not) kept.1, make kept.0 (done.2 ∙ sym kept.2)))
    read

-- a skipped member
pub passed_read : {T E : Type 0} (r : Result T E) (is_verbatim : List ℕ → Bool) (k : List ℕ) (o : Option (json.Json × List Token)) (rest : List Token) {H : Data → Type 0}
    → ((d : Data) → H d) → OnOk r ((d : Data) × (converted of_json o ≡ Some (d, rest)))
    → OnOk r ((d : Data) × (converted (mixed_member is_verbatim k) o ≡ Some (d, rest)) × H d)
passed_read r is_verbatim k o rest make read = if_ok r (λ done. let there = passed is_verbatim o k done.0 rest done.1 in (there.0, there.1, make there.0)) read

abbrev Entry : Type 0
Entry = String Global × Statement

-- one output more, among those by name
pub entries_view-insert_entry : (es : List Entry) (k : String Global) (v : Statement) → entries_view (insert_entry string_eq es k v) ≡ put_output (entry_view (k, v)) (entries_view es)
entries_view-insert_entry [] k v = refl
entries_view-insert_entry (e ∷ es) k v =
    ⊎_elim (λ (same : bytes_eq (string_bytes k) (string_bytes e.0) ≡ true).
    let name : string_bytes e.0 ≡ string_bytes k = sym (is_name (string_bytes k) (string_bytes e.0) same) in
    rw same (ap (λ (x : List ℕ). statement_view x v ∷ entries_view es) name))
    (λ (apart : bytes_eq (string_bytes k) (string_bytes e.0) ≡ false). rw apart (ap (λ (xs : List StatedOutput). entry_view e ∷ xs) (entries_view-insert_entry es k v)))
    (cases_Bool (bytes_eq (string_bytes k) (string_bytes e.0)))
