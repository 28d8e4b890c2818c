-- What stands before the members of a script.
use Rattle.std.proofs.Common.{◌≡◌, [], ◌∷◌, ◌++◌, refl}
use Rattle.std.specs.Prelude.{codes}
use Rattle.json.specs.Print.{escape_byte, quoted}
use Rattle.stream_record.specs.Parts.{json_text}

pub detail_front : codes ",\"detail\":" ≡ 44 ∷ (quoted (codes "detail") ++ 58 ∷ [])
unfolding escape_byte
detail_front = refl

pub address_front : codes ",\"address\":" ≡ 44 ∷ (quoted (codes "address") ++ 58 ∷ [])
unfolding escape_byte
address_front = refl

pub range_front : codes ",\"range\":" ≡ 44 ∷ (quoted (codes "range") ++ 58 ∷ [])
unfolding escape_byte
range_front = refl

pub snippet_front : codes ",\"snippet\":" ≡ 44 ∷ (quoted (codes "snippet") ++ 58 ∷ [])
unfolding escape_byte
snippet_front = refl

pub summary_front : codes ",\"summary\":" ≡ 44 ∷ (quoted (codes "summary") ++ 58 ∷ [])
unfolding escape_byte
summary_front = refl

pub first_summary : codes "{\"summary\":" ≡ 123 ∷ (quoted (codes "summary") ++ 58 ∷ [])
unfolding escape_byte
first_summary = refl

pub first_severity : codes "{\"severity\":" ≡ 123 ∷ (quoted (codes "severity") ++ 58 ∷ [])
unfolding escape_byte
first_severity = refl

pub warning_word : codes "{\"severity\":\"warning\",\"summary\":" ≡ codes "{\"severity\":" ++ (json_text (codes "warning") ++ codes ",\"summary\":")
unfolding escape_byte
warning_word = refl

pub error_word : codes "{\"severity\":\"error\",\"summary\":" ≡ codes "{\"severity\":" ++ (json_text (codes "error") ++ codes ",\"summary\":")
unfolding escape_byte
error_word = refl

pub first_after : codes "{\"after\":" ≡ 123 ∷ (quoted (codes "after") ++ 58 ∷ [])
unfolding escape_byte
first_after = refl

pub text_front : codes ",\"text\":" ≡ 44 ∷ (quoted (codes "text") ++ 58 ∷ [])
unfolding escape_byte
text_front = refl

pub first_provisioner : codes "{\"provisioner\":" ≡ 123 ∷ (quoted (codes "provisioner") ++ 58 ∷ [])
unfolding escape_byte
first_provisioner = refl

pub seconds_front : codes ",\"seconds\":" ≡ 44 ∷ (quoted (codes "seconds") ++ 58 ∷ [])
unfolding escape_byte
seconds_front = refl

pub output_front : codes ",\"output\":" ≡ 44 ∷ (quoted (codes "output") ++ 58 ∷ [])
unfolding escape_byte
output_front = refl

pub failed_front : codes ",\"failed\":" ≡ 44 ∷ (quoted (codes "failed") ++ 58 ∷ [])
unfolding escape_byte
failed_front = refl

pub on_failure_front : codes ",\"on_failure\":" ≡ 44 ∷ (quoted (codes "on_failure") ++ 58 ∷ [])
unfolding escape_byte
on_failure_front = refl

pub continue_word : codes ",\"on_failure\":\"continue\"" ≡ codes ",\"on_failure\":" ++ json_text (codes "continue")
unfolding escape_byte
continue_word = refl

pub first_address : codes "{\"address\":" ≡ 123 ∷ (quoted (codes "address") ++ 58 ∷ [])
unfolding escape_byte
first_address = refl

pub deposed_front : codes ",\"deposed\":" ≡ 44 ∷ (quoted (codes "deposed") ++ 58 ∷ [])
unfolding escape_byte
deposed_front = refl

pub step_front : codes ",\"step\":" ≡ 44 ∷ (quoted (codes "step") ++ 58 ∷ [])
unfolding escape_byte
step_front = refl

pub first_seconds : codes "{\"seconds\":" ≡ 123 ∷ (quoted (codes "seconds") ++ 58 ∷ [])
unfolding escape_byte
first_seconds = refl

pub id_front : codes ",\"id\":" ≡ 44 ∷ (quoted (codes "id") ++ 58 ∷ [])
unfolding escape_byte
id_front = refl

pub warning_front : codes ",\"warning\":" ≡ 44 ∷ (quoted (codes "warning") ++ 58 ∷ [])
unfolding escape_byte
warning_front = refl

pub provisioners_front : codes ",\"provisioners\":" ≡ 44 ∷ (quoted (codes "provisioners") ++ 58 ∷ [])
unfolding escape_byte
provisioners_front = refl

pub after_front : codes ",\"after\":" ≡ 44 ∷ (quoted (codes "after") ++ 58 ∷ [])
unfolding escape_byte
after_front = refl

pub first_skipped : codes "{\"skipped\":" ≡ 123 ∷ (quoted (codes "skipped") ++ 58 ∷ [])
unfolding escape_byte
first_skipped = refl

pub steps_front : codes ",\"steps\":" ≡ 44 ∷ (quoted (codes "steps") ++ 58 ∷ [])
unfolding escape_byte
steps_front = refl

pub first_changes : codes "{\"changes\":" ≡ 123 ∷ (quoted (codes "changes") ++ 58 ∷ [])
unfolding escape_byte
first_changes = refl

pub diagnostics_front : codes ",\"diagnostics\":" ≡ 44 ∷ (quoted (codes "diagnostics") ++ 58 ∷ [])
unfolding escape_byte
diagnostics_front = refl

pub outputs_front : codes ",\"outputs\":" ≡ 44 ∷ (quoted (codes "outputs") ++ 58 ∷ [])
unfolding escape_byte
outputs_front = refl

pub first_sensitive : codes "{\"sensitive\":" ≡ 123 ∷ (quoted (codes "sensitive") ++ 58 ∷ [])
unfolding escape_byte
first_sensitive = refl

pub type_front : codes ",\"type\":" ≡ 44 ∷ (quoted (codes "type") ++ 58 ∷ [])
unfolding escape_byte
type_front = refl

pub value_front : codes ",\"value\":" ≡ 44 ∷ (quoted (codes "value") ++ 58 ∷ [])
unfolding escape_byte
value_front = refl
