-- What an error or a warning takes in bytes, and the first of them.
use Rattle.std.proofs.Common.{◌≡◌, ℕ, ◌-◌, ◌*◌, ◌≤◌, List, [], ◌∷◌, ◌++◌, Bool, true, false, cond, leb, ltb, length, map, take, drop, Option, Some, None, suc, zero, refl, ⊎_elim, arith}
use Rattle.std.specs.Prelude.{◌||◌, codes, unwrap_or}
use Rattle.std.specs.List.{sum_by}
use Rattle.std.specs.Option.{option_map, option_map_or}
use Rattle.std.specs.Str.{bytes_eq}
use Rattle.std.proofs.lemmas.Bool.{cases_Bool, leb-true, ltb-true}
use Rattle.std.proofs.lemmas.List.{length-append, length-drop, length-take, length_push}
use Rattle.std.proofs.lemmas.List.Sums.{sum_by-cons, sum_by_push}
use Rattle.serde_json.specs.Data.{Data}
use Rattle.apply_json.specs.Tree.{member_of, text_of}
use Rattle.stream_message.specs.Members.{address_of, file_of, hook_text, text_or_empty}
use Rattle.stream_timeline.specs.declared.reading.totals.Totals.{Totals}
use Rattle.stream_timeline.specs.Details.{DiagnosticRead, diagnostic_of, stored, lines_of_detail, trimmed_line}
use Rattle.stream_timeline.specs.Memory.{diagnostic_bytes}
use Rattle.laws_timeline.specs.Memory.{max_diagnostic_bytes}
use Rattle.stream_timeline.specs.Messages.{Content, begins, ends, begins_provisioner, ends_provisioner, error, warning, version, plan_summary, summary, other, unusable, begin_of, diagnostic_content, diagnostic_with, end_of, general_content, no_totals, other_step_content, provisioner_begin_of, provisioner_end_of, provisioner_content, refresh_begin_of, refresh_end_of, content_of, summary_in, summary_of, totals_in}
use Rattle.stream_timeline.specs.OpenPlaces.{text_bytes}
use Rattle.stream_timeline.specs.TimelineRead.{DiagnosticsRead, max_stored, with_diagnostic}

-- ---- a text that is cut

abbrev max_text : ℕ
max_text = 20504

parts_fit : (text : List ℕ) (b : Bool) → leb (length text) 20480 ≡ b → length (cond b text (take 8192 text) ++ cond b [] (drop (length text - 12288) text)) ≤ 20480
parts_fit text true e =
    let few : length text ≤ 20480 = leb-true (length text) 20480 e in
    omega (arith, few, length-append text [])
parts_fit text false e =
    omega (arith, length-append (take 8192 text) (drop (length text - 12288) text), length-take 8192 text, length-drop (length text - 12288) text)

text_fits : (text : List ℕ) → text_bytes (stored text) ≤ max_text
text_fits text = let few = parts_fit text (leb (length text) 20480) refl in omega (arith, few)

option_fits : (o : Option (List ℕ)) → text_bytes (unwrap_or (option_map stored o) []) ≤ max_text
option_fits None = omega arith
option_fits (Some text) = text_fits text

lines_fit : (n : ℕ) (lines : List (List ℕ)) → sum_by text_bytes (map (λ line. stored (trimmed_line line)) (take n lines)) ≤ n * max_text
lines_fit zero lines = omega arith
lines_fit (suc n) [] = omega arith
lines_fit (suc n) (line ∷ lines) =
    omega (arith, sum_by-cons text_bytes (stored (trimmed_line line)) (map (λ line. stored (trimmed_line line)) (take n lines)), text_fits (trimmed_line line), lines_fit n lines)

diagnostic_fits : (d : Data) → diagnostic_bytes (diagnostic_of d) ≤ max_diagnostic_bytes
diagnostic_fits d =
    omega (arith, text_fits (text_or_empty (codes "summary") d), option_fits (text_of (codes "address") d), option_fits (file_of d), lines_fit 10 (lines_of_detail (text_or_empty (codes "detail") d)))

-- ---- what a message says

abbrev IsSmall : Content → Type 0
IsSmall (begins address action) = Unit {0}
IsSmall (ends address action failed) = Unit {0}
IsSmall (begins_provisioner address name) = Unit {0}
IsSmall (ends_provisioner address failed) = Unit {0}
IsSmall (error address d) = diagnostic_bytes d ≤ max_diagnostic_bytes
IsSmall (warning d) = diagnostic_bytes d ≤ max_diagnostic_bytes
IsSmall (version text) = Unit {0}
IsSmall (plan_summary totals) = Unit {0}
IsSmall (summary totals) = Unit {0}
IsSmall other = Unit {0}
IsSmall unusable = Unit {0}

-- its diagnostic is no greater than one may be
pub record Fits (content : Content) : Type 0 where
  pub is : IsSmall content

either : {x y : Content} (b : Bool) → Fits x → Fits y → Fits (cond b x y)
either true h k = h
either false h k = k

where_is : {A : Type 0} {f : A → Content} {none : Content} (o : Option A) → ((a : A) → Fits (f a)) → Fits none → Fits (option_map_or f o none)
where_is None h k = k
where_is (Some a) h k = h a

none_fits : Fits unusable
none_fits = record { is = tt }

error_fits : (address : Option (List ℕ)) (d : Data) → Fits (error address (diagnostic_of d))
error_fits address d = record { is = diagnostic_fits d }

warning_fits : (d : Data) → Fits (warning (diagnostic_of d))
warning_fits d = record { is = diagnostic_fits d }

severity_fits : (severity : List ℕ) (d : Data) → Fits (diagnostic_with severity d)
severity_fits severity d =
    either (bytes_eq severity (codes "error")) (error_fits (text_of (codes "address") d) d) (either (bytes_eq severity (codes "warning")) (warning_fits d) none_fits)

diagnostic_content_fits : (d : Data) → Fits (diagnostic_content d)
diagnostic_content_fits d = where_is (member_of (codes "diagnostic") d) (λ members. severity_fits (text_or_empty (codes "severity") members) members) none_fits

totals_fit : (totals : Totals) → Fits (summary totals)
totals_fit totals = record { is = tt }

plan_fits : (totals : Totals) → Fits (plan_summary totals)
plan_fits totals = record { is = tt }

changes_fit : (changes : Data) → Fits (summary_in changes)
changes_fit changes = either (bytes_eq (text_or_empty (codes "operation") changes) (codes "plan")) (plan_fits (totals_in changes)) (totals_fit (totals_in changes))

summary_fits : (d : Data) → Fits (summary_of d)
summary_fits d = where_is (member_of (codes "changes") d) changes_fit (totals_fit no_totals)

begins_fit : (address action : List ℕ) → Fits (begins address action)
begins_fit address action = record { is = tt }

ends_fit : (address action : List ℕ) (failed : Bool) → Fits (ends address action failed)
ends_fit address action failed = record { is = tt }

provisioner_begins_fit : (address name : List ℕ) → Fits (begins_provisioner address name)
provisioner_begins_fit address name = record { is = tt }

provisioner_ends_fit : (address : List ℕ) (failed : Bool) → Fits (ends_provisioner address failed)
provisioner_ends_fit address failed = record { is = tt }

version_fits : (text : List ℕ) → Fits (version text)
version_fits text = record { is = tt }

other_fits : Fits other
other_fits = record { is = tt }

begin_fits : (d : Data) → Fits (begin_of d)
begin_fits d = where_is (address_of d) (λ address. where_is (hook_text (codes "action") d) (λ action. begins_fit address action) none_fits) none_fits

end_fits : (failed : Bool) (d : Data) → Fits (end_of failed d)
end_fits failed d = where_is (address_of d) (λ address. where_is (hook_text (codes "action") d) (λ action. ends_fit address action failed) none_fits) none_fits

refresh_begin_fits : (d : Data) → Fits (refresh_begin_of d)
refresh_begin_fits d = where_is (address_of d) (λ address. begins_fit address (codes "refresh")) none_fits

refresh_end_fits : (d : Data) → Fits (refresh_end_of d)
refresh_end_fits d = where_is (address_of d) (λ address. ends_fit address (codes "refresh") false) none_fits

provisioner_begin_fits : (d : Data) → Fits (provisioner_begin_of d)
provisioner_begin_fits d = where_is (address_of d) (λ address. provisioner_begins_fit address (unwrap_or (hook_text (codes "provisioner") d) [])) none_fits

provisioner_end_fits : (failed : Bool) (d : Data) → Fits (provisioner_end_of failed d)
provisioner_end_fits failed d = where_is (address_of d) (λ address. provisioner_ends_fit address failed) none_fits

general_fits : (name : List ℕ) (d : Data) → Fits (general_content name d)
general_fits name d =
    either (bytes_eq name (codes "diagnostic")) (diagnostic_content_fits d)
    (either (bytes_eq name (codes "version")) (version_fits (text_or_empty (codes "terraform") d))
    (either (bytes_eq name (codes "change_summary")) (summary_fits d) other_fits))

provisioner_fits : (name : List ℕ) (d : Data) → Fits (provisioner_content name d)
provisioner_fits name d =
    either (bytes_eq name (codes "provision_start")) (provisioner_begin_fits d)
    (either (bytes_eq name (codes "provision_complete")) (provisioner_end_fits false d)
    (either (bytes_eq name (codes "provision_errored")) (provisioner_end_fits true d) (general_fits name d)))

other_step_fits : (name : List ℕ) (d : Data) → Fits (other_step_content name d)
other_step_fits name d =
    either (bytes_eq name (codes "refresh_start")) (refresh_begin_fits d)
    (either (bytes_eq name (codes "refresh_complete")) (refresh_end_fits d) (provisioner_fits name d))

pub content_fits : (name : List ℕ) (d : Data) → Fits (content_of name d)
content_fits name d =
    either (bytes_eq name (codes "apply_start") || bytes_eq name (codes "ephemeral_op_start")) (begin_fits d)
    (either (bytes_eq name (codes "apply_complete") || bytes_eq name (codes "ephemeral_op_complete")) (end_fits false d)
    (either (bytes_eq name (codes "apply_errored") || bytes_eq name (codes "ephemeral_op_errored")) (end_fits true d) (other_step_fits name d)))

-- ---- the first of them

pub record AreFew (ds : DiagnosticsRead) : Type 0 where
  pub count : length ds.stored ≤ max_stored
  pub bytes : sum_by diagnostic_bytes ds.stored ≤ length ds.stored * max_diagnostic_bytes

pub one_more_fits : (d : DiagnosticRead) (ds : DiagnosticsRead) → diagnostic_bytes d ≤ max_diagnostic_bytes → AreFew ds → AreFew (with_diagnostic d ds)
one_more_fits d ds small few =
    let count = few.count in
    let bytes = few.bytes in
    ⊎_elim
    (λ (room : ltb (length ds.stored) max_stored ≡ true).
    let less = ltb-true (length ds.stored) max_stored room in
    let long = length_push ds.stored d in
    rw room
    (record {
      count = omega (arith, long, less);
      bytes = omega (arith, long, small, bytes, sum_by_push diagnostic_bytes ds.stored d);
    }))
    (λ (full : ltb (length ds.stored) max_stored ≡ false). rw full (record { count = count; bytes = bytes }))
    (cases_Bool (ltb (length ds.stored) max_stored))
