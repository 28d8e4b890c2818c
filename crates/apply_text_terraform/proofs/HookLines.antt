-- The fixed texts of a start or end message give its text.
use Rattle.std.proofs.Common.{◌≡◌, ℕ, ◌/◌, ◌%◌, inl, List, [], ◌∷◌, ◌++◌, codes, decimal, Option, option_map, Some, None, Bool, true, refl, sym, ap, ap₂, ◌∙◌, append_assoc, arith}
use Rattle.std.specs.Prelude.{◌&&◌, if◌then◌else◌}
use Rattle.std.specs.List.{list_all}
use Rattle.std.proofs.lemmas.Bool.{and_parts}
use Rattle.json.specs.Print.{escape, quoted}
use Rattle.json.proofs.OnLiterals.{json_on_literals}
use Rattle.serde_json.specs.Written.{compact_text}
use Rattle.apply_model.specs.declared.plan.step_kind.StepKind.{StepKind}
use Rattle.apply_model.specs.declared.plan.step_kind.StepKind.TheVariants.{Create, Update, Delete, Read}
use Rattle.apply_model.specs.Plan.ResourceChange.{ResourceChange}
use Rattle.apply_text.specs.declared.cached_parts.step_point.StepPoint.{StepPoint}
use Rattle.apply_text.specs.declared.cached_parts.step_point.StepPoint.TheVariants.{Start, Complete, Errored}
use Rattle.apply_text.specs.CachedParts.{CachedPieces, shown_step, unterminated_date, time_of_day}
use Rattle.apply_text.specs.HookLines as default
use Rattle.apply_text.specs.HookLines.{HookFieldsView, hook_front, hook_line, id_text, lead_text, point_type, seconds_text, seconds_words, seconds_and_id_text, fields_message}
use Rattle.apply_text.specs.Lines.{message_object, typed}
use Rattle.apply_text.specs.Message.{complete_message, errored_message, id_suffix, start_message}
use Rattle.apply_text.specs.Words.{action_word}
use Rattle.apply_text.proofs.CachedTexts.{pieces_same}
use Rattle.apply_text.proofs.HookLines.{complete_fields, errored_fields, in_lead, in_id_suffix, in_type, in_words, message_is, plain_text, message_quoted, same_id, start_fields}
use Rattle.apply_text.proofs.Progress.{in_action}
use Rattle.apply_text_terraform.specs.Escapes.{escaped}
use Rattle.apply_text_terraform.specs.HookLines.{IsPlainId, hook_middle, hook_pieces, hook_text, is_plain as is_plain_here}
use Rattle.apply_text_terraform.specs.Lines.{line_of_text, message_line}
use Rattle.apply_text_terraform.specs.Message.{with_body}
use Rattle.apply_text_terraform.specs.UtcTimestamp.{precise_timestamp_text}
use Rattle.apply_text_terraform.specs.Objects.{hook_object, resource_object}
use Rattle.apply_text_terraform.proofs.Cuts.{Begins, IsPlain, both_plain, is_plain, two_of_seven}
use Rattle.apply_text_terraform.proofs.Plain.{date_plain, decimal_plain, elapsed_plain, time_plain}
use Rattle.apply_text_terraform.proofs.Progress.{fine_is}

-- ---- ids that stand as they are

in_json : (id : List ℕ) → list_all is_plain_here id ≡ true → list_all default.is_plain id ≡ true
in_json [] plain = refl
in_json (byte ∷ bytes) plain =
    let parts = and_parts (is_plain_here byte) (list_all is_plain_here bytes) plain in
    ap₂ (λ a b. a && b) (and_parts (default.is_plain byte) (is_plain byte) parts.0).0 (in_json bytes parts.1)

in_form : (id : List ℕ) → list_all is_plain_here id ≡ true → IsPlain id
in_form [] plain = refl
in_form (byte ∷ bytes) plain =
    let parts = and_parts (is_plain_here byte) (list_all is_plain_here bytes) plain in
    ap₂ (λ a b. a && b) (and_parts (default.is_plain byte) (is_plain byte) parts.0).1 (in_form bytes parts.1)

plain_id : (id : Option (List ℕ)) → IsPlainId id → default.IsPlainId id
plain_id None plain = tt
plain_id (Some id) plain = plain_text id (in_json id plain)

-- ---- what has no escapes

lead_plain : (point : StepPoint) (step : StepKind) → IsPlain (lead_text point step)
lead_plain Start Create = refl
lead_plain Start Update = refl
lead_plain Start Delete = refl
lead_plain Start Read = refl
lead_plain Complete Create = refl
lead_plain Complete Update = refl
lead_plain Complete Delete = refl
lead_plain Complete Read = refl
lead_plain Errored Create = refl
lead_plain Errored Update = refl
lead_plain Errored Delete = refl
lead_plain Errored Read = refl

type_plain : (point : StepPoint) → IsPlain (point_type point)
type_plain Start = refl
type_plain Complete = refl
type_plain Errored = refl

words_plain : (seconds : Option ℕ) → IsPlain (seconds_words seconds)
words_plain None = refl
words_plain (Some seconds) = elapsed_plain seconds

note_plain : (id : Option (List ℕ)) → IsPlainId id → IsPlain (id_suffix id)
note_plain None plain = refl
note_plain (Some id) plain = both_plain (codes " [id=" ++ id) (codes "]") (both_plain (codes " [id=") id refl (in_form id plain)) refl

seconds_plain : (seconds : Option ℕ) → IsPlain (seconds_text seconds)
seconds_plain None = refl
seconds_plain (Some seconds) = both_plain (codes ",\"elapsed_seconds\":") (decimal seconds) refl (decimal_plain seconds)

id_plain : (id : Option (List ℕ)) → IsPlainId id → IsPlain (id_text id)
id_plain None plain = refl
id_plain (Some id) plain = both_plain (codes ",\"id_key\":\"id\",\"id_value\":\"") (id ++ codes "\"") refl (both_plain id (codes "\"") (in_form id plain) refl)

-- ---- the message

-- the object `hook`, and the text after it
hook_escaped : (change : ResourceChange) (step : StepKind) (seconds : Option ℕ) (id : Option (List ℕ)) (rest : List ℕ)
    → compact_text (hook_object change step seconds id) ++ rest
    ≡ codes "{\"resource\":" ++ (compact_text (resource_object change) ++ (codes ",\"action\":" ++ (quoted (action_word step) ++ ((id_text (option_map escape id) ++ seconds_text seconds) ++ (codes "}" ++ rest)))))
unfolding hook_object json_on_literals
hook_escaped change step None None rest = simp append_assoc
hook_escaped change step (Some seconds) None rest = simp append_assoc
hook_escaped change step None (Some id) rest = simp append_assoc
hook_escaped change step (Some seconds) (Some id) rest = simp append_assoc

hook_is : (change : ResourceChange) (step : StepKind) (seconds : Option ℕ) (id : Option (List ℕ)) (rest : List ℕ) → default.IsPlainId id
    → compact_text (hook_object change step seconds id) ++ rest
    ≡ codes "{\"resource\":" ++ (compact_text (resource_object change) ++ (codes ",\"action\":" ++ (quoted (action_word step) ++ ((id_text id ++ seconds_text seconds) ++ (codes "}" ++ rest)))))
hook_is change step seconds id rest plain =
    hook_escaped change step seconds id rest
    ∙ ap (λ i. codes "{\"resource\":" ++ (compact_text (resource_object change) ++ (codes ",\"action\":" ++ (quoted (action_word step) ++ ((i ++ seconds_text seconds) ++ (codes "}" ++ rest)))))) (same_id id plain)

in_a_row : (a f lead words note m timestamp z h resource c action q members e kind g : List ℕ)
    → (((a ++ f) ++ (lead ++ (words ++ (note ++ m)))) ++ timestamp) ++ ((z ++ (h ++ (resource ++ (c ++ (action ++ q))))) ++ (members ++ (e ++ (kind ++ g))))
    ≡ a ++ (f ++ (lead ++ (words ++ (note ++ (m ++ (timestamp ++ (z ++ (h ++ (resource ++ (c ++ (action ++ (q ++ (members ++ (e ++ (kind ++ g)))))))))))))))
in_a_row a f lead words note m timestamp z h resource c action q members e kind g = simp append_assoc

as_message : (a f lead words note q m timestamp z h b resource c action members e y kind x : List ℕ)
    → a ++ ((f ++ (lead ++ (words ++ (note ++ q)))) ++ (m ++ ((timestamp ++ z) ++ (h ++ (b ++ (resource ++ (c ++ ((q ++ (action ++ q)) ++ (members ++ (e ++ (y ++ ((q ++ (kind ++ q)) ++ x))))))))))))
    ≡ a ++ (f ++ (lead ++ (words ++ (note ++ (q ++ (m ++ (timestamp ++ (z ++ (h ++ (b ++ (resource ++ (c ++ (q ++ (action ++ (q ++ (members ++ (e ++ (y ++ (q ++ (kind ++ (q ++ x)))))))))))))))))))))
as_message a f lead words note q m timestamp z h b resource c action members e y kind x = simp append_assoc

assembled : (front lead words note timestamp action members resource kind : List ℕ)
    → (((codes "{\"@level\":\"info\",\"@message\":" ++ (34 ∷ front)) ++ (lead ++ (words ++ (note ++ codes "\",\"@module\":\"terraform.ui\",\"@timestamp\":")))) ++ timestamp) ++ ((codes ".000000Z\"" ++ (codes ",\"hook\":{" ++ ((codes "\"resource\":" ++ resource) ++ (codes ",\"action\":\"" ++ (action ++ codes "\""))))) ++ (members ++ (codes "},\"type\":\"" ++ (kind ++ codes "\"}"))))
    ≡ codes "{\"@level\":\"info\",\"@message\":" ++ ((34 ∷ (front ++ (lead ++ (words ++ (note ++ 34 ∷ []))))) ++ (codes ",\"@module\":\"terraform.ui\",\"@timestamp\":" ++ ((timestamp ++ codes ".000000Z\"") ++ (codes ",\"hook\":" ++ (codes "{\"resource\":" ++ (resource ++ (codes ",\"action\":" ++ ((34 ∷ (action ++ 34 ∷ [])) ++ (members ++ (codes "}" ++ (codes ",\"type\":" ++ ((34 ∷ (kind ++ 34 ∷ [])) ++ codes "}"))))))))))))
assembled front lead words note timestamp action members resource kind =
    in_a_row (codes "{\"@level\":\"info\",\"@message\":") (34 ∷ front) lead words note (codes "\",\"@module\":\"terraform.ui\",\"@timestamp\":") timestamp (codes ".000000Z\"") (codes ",\"hook\":{") (codes "\"resource\":" ++ resource) (codes ",\"action\":\"") action (codes "\"") members (codes "},\"type\":\"") kind (codes "\"}")
    ∙ sym (as_message (codes "{\"@level\":\"info\",\"@message\":") (34 ∷ front) lead words note (34 ∷ []) (codes ",\"@module\":\"terraform.ui\",\"@timestamp\":") timestamp (codes ".000000Z\"") (codes ",\"hook\":") (codes "{\"resource\":") resource (codes ",\"action\":") action members (codes "}") (codes ",\"type\":") kind (codes "}"))

abbrev message_with : (message_quoted timestamp hook : List ℕ) → List ℕ
message_with message_quoted timestamp hook = codes "{\"@level\":\"info\",\"@message\":" ++ (message_quoted ++ (codes ",\"@module\":\"terraform.ui\",\"@timestamp\":" ++ (timestamp ++ (codes ",\"hook\":" ++ hook))))

-- the texts before their escapes are those of the message
pieces_are : (change : ResourceChange) (step : StepKind) (timestamp : ℕ) (fields : HookFieldsView) → default.IsPlainId fields.id
    → ((hook_front change.address ++ (lead_text fields.point step ++ (seconds_words fields.seconds ++ (id_suffix fields.id ++ codes "\",\"@module\":\"terraform.ui\",\"@timestamp\":")))) ++ (unterminated_date (timestamp / 86400) ++ time_of_day (timestamp % 86400)))
    ++ (hook_middle change step ++ ((id_text fields.id ++ seconds_text fields.seconds) ++ (codes "},\"type\":\"" ++ (point_type fields.point ++ codes "\"}"))))
    ≡ hook_text timestamp change step fields
unfolding hook_front hook_middle
pieces_are change step timestamp fields plain =
    let front = escape change.address in
    let lead = lead_text fields.point step in
    let words = seconds_words fields.seconds in
    let note = id_suffix fields.id in
    let kind = point_type fields.point in
    let second = unterminated_date (timestamp / 86400) ++ time_of_day (timestamp % 86400) in
    let action = action_word step in
    let members = id_text fields.id ++ seconds_text fields.seconds in
    let resource = compact_text (resource_object change) in
    let body = hook_object change step fields.seconds fields.id in
    let text = (fields_message change step fields).text in
    let rest = codes ",\"type\":" ++ (quoted kind ++ codes "}") in
    let quoted_text = 34 ∷ (front ++ (lead ++ (words ++ (note ++ 34 ∷ [])))) in
    let texts : quoted_text ≡ quoted text = sym (message_quoted change.address lead words note (in_lead fields.point step) (in_words fields.seconds) (in_id_suffix fields.id plain)) in
    let kinds : 34 ∷ (kind ++ 34 ∷ []) ≡ quoted kind = ap (λ t. 34 ∷ (t ++ 34 ∷ [])) (sym (in_type fields.point)) in
    let hook = codes "{\"resource\":" ++ (resource ++ (codes ",\"action\":" ++ ((34 ∷ (action ++ 34 ∷ [])) ++ (members ++ (codes "}" ++ (codes ",\"type\":" ++ ((34 ∷ (kind ++ 34 ∷ [])) ++ codes "}"))))))) in
    let hooks : hook ≡ compact_text body ++ rest =
    ap (λ a. codes "{\"resource\":" ++ (resource ++ (codes ",\"action\":" ++ (a ++ (members ++ (codes "}" ++ (codes ",\"type\":" ++ ((34 ∷ (kind ++ 34 ∷ [])) ++ codes "}")))))))) (sym (in_action step))
    ∙ ap (λ k. codes "{\"resource\":" ++ (resource ++ (codes ",\"action\":" ++ (quoted action ++ (members ++ (codes "}" ++ (codes ",\"type\":" ++ (k ++ codes "}")))))))) kinds
    ∙ sym (hook_is change step fields.seconds fields.id rest plain) in
    assembled front lead words note second action members resource kind
    ∙ ap (λ s. message_with s (second ++ codes ".000000Z\"") hook) texts
    ∙ ap (λ t. message_with (quoted text) t hook) (fine_is timestamp)
    ∙ ap (λ h. message_with (quoted text) (quoted (precise_timestamp_text timestamp)) h) hooks
    ∙ sym (message_is text (precise_timestamp_text timestamp) kind body)

-- ---- the line

own_order : (fields : HookFieldsView) → fields.id_first ≡ true → seconds_and_id_text fields ≡ id_text fields.id ++ seconds_text fields.seconds
own_order fields order = ap (λ (first : Bool). if first then id_text fields.id ++ seconds_text fields.seconds else (seconds_text fields.seconds ++ id_text fields.id)) order

-- the shown fields of a change give the same texts as the change
middle_shown : (change : ResourceChange) (step : StepKind) → hook_middle (shown_step change step).change step ≡ hook_middle change step
unfolding hook_middle resource_object
middle_shown change step = refl

middle_begins : (change : ResourceChange) (step : StepKind) (rest : List ℕ) → Begins (hook_middle change step ++ rest)
unfolding hook_middle
middle_begins change step rest = inl (omega arith)

with_feed : (x b members e kind g : List ℕ) → x ++ (b ++ (members ++ (e ++ (kind ++ (g ++ 10 ∷ []))))) ≡ (x ++ (b ++ (members ++ (e ++ (kind ++ g))))) ++ 10 ∷ []
with_feed x b members e kind g = simp append_assoc

-- the cached texts, with escapes, give the line
pub line_is : (change : ResourceChange) (step : StepKind) (timestamp : ℕ) (fields : HookFieldsView) → IsPlainId fields.id → fields.id_first ≡ true
    → hook_line (hook_pieces (shown_step change step)) step timestamp fields ≡ line_of_text (hook_text timestamp change step fields)
line_is change step timestamp fields plain order =
    let f = hook_front change.address in
    let lead = lead_text fields.point step in
    let words = seconds_words fields.seconds in
    let note = id_suffix fields.id in
    let m = codes "\",\"@module\":\"terraform.ui\",\"@timestamp\":" in
    let d = unterminated_date (timestamp / 86400) in
    let t = time_of_day (timestamp % 86400) in
    let b = hook_middle change step in
    let members = id_text fields.id ++ seconds_text fields.seconds in
    let e = codes "},\"type\":\"" in
    let kind = point_type fields.point in
    let begun = (escaped f ++ (lead ++ (words ++ (note ++ m)))) ++ (d ++ t) in
    let tail_plain : IsPlain (words ++ (note ++ m)) = both_plain words (note ++ m) (words_plain fields.seconds) (both_plain note m (note_plain fields.id plain) refl) in
    let members_plain : IsPlain members = both_plain (id_text fields.id) (seconds_text fields.seconds) (id_plain fields.id plain) (seconds_plain fields.seconds) in
    let end_plain : IsPlain (e ++ (kind ++ codes "\"}")) = both_plain e (kind ++ codes "\"}") refl (both_plain kind (codes "\"}") (type_plain fields.point) refl) in
    ap₂ (λ b ms. begun ++ (escaped b ++ (ms ++ (e ++ (kind ++ (codes "\"}" ++ 10 ∷ [])))))) (middle_shown change step) (own_order fields order)
    ∙ with_feed begun (escaped b) members e kind (codes "\"}")
    ∙ ap (λ x. x ++ 10 ∷ [])
    (sym (two_of_seven f lead (words ++ (note ++ m)) d t b members (e ++ (kind ++ codes "\"}")) (lead_plain fields.point step) tail_plain (date_plain (timestamp / 86400)) (time_plain (timestamp % 86400) (omega arith)) members_plain end_plain (middle_begins change step (members ++ (e ++ (kind ++ codes "\"}")))))
    ∙ ap escaped (pieces_are change step timestamp fields (plain_id fields.id plain)))

-- ---- the fields of an event's message

abbrev line_with : (seconds : ℕ) → ResourceChange → StepKind → HookFieldsView → (text : List ℕ) → List ℕ
line_with seconds change step fields text =
    line_of_text (compact_text (message_object (codes "info") text (precise_timestamp_text seconds) (typed (codes "hook") (hook_object change step fields.seconds fields.id) (point_type fields.point))))

pub start_is : (seconds : ℕ) (change : ResourceChange) (step : StepKind) (id : Option (List ℕ)) (fields : HookFieldsView) → fields ≡ record { point = Start; seconds = None; id = id; id_first = true }
    → message_line seconds (with_body (start_message change step id) (hook_object change step None id)) ≡ line_of_text (hook_text seconds change step fields)
start_is seconds change step id fields is =
    ap (line_with seconds change step (record { point = Start; seconds = None; id = id; id_first = true })) (ap (λ m. m.text) (start_fields change step id)) ∙ ap (λ t. line_of_text (hook_text seconds change step t)) (sym is)

pub complete_is : (seconds : ℕ) (change : ResourceChange) (step : StepKind) (took : ℕ) (id : Option (List ℕ)) (fields : HookFieldsView) → fields ≡ record { point = Complete; seconds = Some took; id = id; id_first = true }
    → message_line seconds (with_body (complete_message change step took id) (hook_object change step (Some took) id)) ≡ line_of_text (hook_text seconds change step fields)
complete_is seconds change step took id fields is =
    ap (line_with seconds change step (record { point = Complete; seconds = Some took; id = id; id_first = true })) (ap (λ m. m.text) (complete_fields change step took id)) ∙ ap (λ t. line_of_text (hook_text seconds change step t)) (sym is)

pub errored_is : (seconds : ℕ) (change : ResourceChange) (step : StepKind) (took : ℕ) (fields : HookFieldsView) → fields ≡ record { point = Errored; seconds = Some took; id = None; id_first = true }
    → message_line seconds (with_body (errored_message change step took) (hook_object change step (Some took) None)) ≡ line_of_text (hook_text seconds change step fields)
errored_is seconds change step took fields is =
    ap (line_with seconds change step (record { point = Errored; seconds = Some took; id = None; id_first = true })) (ap (λ m. m.text) (errored_fields change step took)) ∙ ap (λ t. line_of_text (hook_text seconds change step t)) (sym is)

-- ---- templates

pieces_in_a_row : (a b c d e : List ℕ) → (((a ++ b) ++ c) ++ d) ++ e ≡ a ++ (b ++ (c ++ (d ++ e)))
pieces_in_a_row a b c d e = simp append_assoc

pub middle_is : (s₁ s₂ s₃ s₄ new action : List ℕ) (change : ResourceChange) (step : StepKind) → s₁ ≡ codes ".000000Z\",\"hook\":{" → s₂ ≡ s₁ ++ (codes "\"resource\":" ++ compact_text (resource_object change))
    → s₃ ≡ s₂ ++ codes ",\"action\":\"" → s₄ ≡ s₃ ++ action → action ≡ action_word step → new ≡ s₄ ++ codes "\"" → new ≡ hook_middle change step
unfolding hook_middle
middle_is s₁ s₂ s₃ s₄ new action change step first second third fourth actions fifth =
    let resource = codes "\"resource\":" ++ compact_text (resource_object change) in
    fifth ∙ ap (λ s. s ++ codes "\"") (fourth ∙ ap₂ (λ s a. s ++ a) (third ∙ ap (λ s. s ++ codes ",\"action\":\"") (second ∙ ap (λ s. s ++ resource) first)) actions)
    ∙ pieces_in_a_row (codes ".000000Z\",\"hook\":{") resource (codes ",\"action\":\"") (action_word step) (codes "\"")

pub pieces_of : (cached : CachedPieces) (change : ResourceChange) (step : StepKind) → cached.step ≡ shown_step change step → cached.pieces.front ≡ escaped (hook_front change.address) → cached.pieces.middle ≡ escaped (hook_middle change step)
    → cached.pieces.back ≡ codes "},\"type\":\"" → cached.pieces ≡ hook_pieces cached.step
pieces_of cached change step is fronts middles backs =
    pieces_same cached.pieces (escaped (hook_front change.address)) (escaped (hook_middle (shown_step change step).change step)) (codes "},\"type\":\"") fronts (middles ∙ ap escaped (sym (middle_shown change step))) backs
    ∙ sym (ap hook_pieces is)
