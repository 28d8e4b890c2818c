-- The fixed texts of a start or end line give the whole line.
use Rattle.std.proofs.Common.{◌≡◌, ℕ, ◌/◌, ◌%◌, List, [], ◌∷◌, ◌++◌, codes, Option, option_map, Some, None, Bool, true, false, refl, sym, ap, ap₂, ◌∙◌, append_assoc, append-nil, arith}
use Rattle.std.specs.Prelude.{if◌then◌else◌}
use Rattle.std.specs.List.{list_all}
use Rattle.std.proofs.lemmas.Bool.{and_parts}
use Rattle.std.proofs.lemmas.Bool.Decides.{nat_tests}
use Rattle.std.proofs.lemmas.Grind.{common_steps, flat_map-append}
use Rattle.json.specs.Print.{escape, escape_byte, quoted}
use Rattle.json.proofs.OnLiterals.{json_on_literals}
use Rattle.serde_json.specs.Data.{Data}
use Rattle.serde_json.specs.Written.{compact_text}
use Rattle.apply_model.specs.declared.plan.step_kind.StepKind.{StepKind}
use Rattle.apply_model.specs.declared.plan.step_kind.StepKind.TheVariants.{Create, Update, Delete, Read}
use Rattle.apply_model.specs.Plan.ResourceChange.{ResourceChange}
use Rattle.apply_text.specs.declared.cached_parts.step_point.StepPoint.{StepPoint}
use Rattle.apply_text.specs.declared.cached_parts.step_point.StepPoint.TheVariants.{Start, Complete, Errored}
use Rattle.apply_text.specs.CachedParts.{CachedPieces, shown_step, unterminated_date, unterminated, time_of_day}
use Rattle.apply_text.specs.Elapsed.{elapsed_of}
use Rattle.apply_text.specs.HookLines.{IsPlainId, HookFieldsView, hook_back, hook_front, hook_line, hook_middle, hook_pieces, id_text, is_plain, lead_text, point_type, seconds_text, seconds_words, seconds_and_id_text, fields_message}
use Rattle.apply_text.specs.Lines.{message_line, message_object, typed}
use Rattle.apply_text.specs.Message.{complete_message, errored_message, id_suffix, start_message}
use Rattle.apply_text.specs.UtcTimestamp.{timestamp_text}
use Rattle.apply_text.specs.Objects.{hook_object, resource_object}
use Rattle.apply_text.specs.Words.{action_word, noun_word}
use Rattle.apply_text.proofs.CachedTexts.{moment_is, pieces_same}
use Rattle.apply_text.proofs.Progress.{in_action, in_elapsed}

-- ---- ids that stand as they are

plain_byte : (byte : ℕ) → is_plain byte ≡ true → escape_byte byte ≡ byte ∷ []
unfolding escape_byte
plain_byte byte plain = grind (arith, nat_tests, common_steps)

pub plain_text : (text : List ℕ) → list_all is_plain text ≡ true → escape text ≡ text
plain_text [] plain = refl
plain_text (byte ∷ bytes) plain =
    let parts = and_parts _ _ plain in
    ap₂ (λ xs ys. xs ++ ys) (plain_byte byte parts.0) (plain_text bytes parts.1)

-- ---- the fields of an event's message

pub start_fields : (change : ResourceChange) (step : StepKind) (id : Option (List ℕ)) → start_message change step id ≡ fields_message change step (record { point = Start; seconds = None; id = id; id_first = false })
start_fields change step id = simp append_assoc

pub complete_fields : (change : ResourceChange) (step : StepKind) (seconds : ℕ) (id : Option (List ℕ)) → complete_message change step seconds id ≡ fields_message change step (record { point = Complete; seconds = Some seconds; id = id; id_first = false })
complete_fields change step seconds id = simp append_assoc

errored_text : (address noun elapsed : List ℕ) → address ++ codes ": " ++ (noun ++ codes " errored after " ++ elapsed) ≡ address ++ ((codes ": " ++ (noun ++ codes " errored after ")) ++ (elapsed ++ []))
errored_text address noun elapsed = simp (append_assoc, append-nil)

pub errored_fields : (change : ResourceChange) (step : StepKind) (seconds : ℕ) → errored_message change step seconds ≡ fields_message change step (record { point = Errored; seconds = Some seconds; id = None; id_first = false })
errored_fields change step seconds =
    ap (λ t. record { level = codes "info"; text = t; name = codes "hook"; body = hook_object change step (Some seconds) None; type_name = codes "apply_errored" })
    (errored_text change.address (noun_word step) (elapsed_of seconds))

-- ---- the message

joined : (xs ys : List ℕ) → escape (xs ++ ys) ≡ escape xs ++ escape ys
joined xs ys = flat_map-append escape_byte xs ys

pub in_lead : (point : StepPoint) (step : StepKind) → escape (lead_text point step) ≡ lead_text point step
unfolding json_on_literals
in_lead Start Create = refl
in_lead Start Update = refl
in_lead Start Delete = refl
in_lead Start Read = refl
in_lead Complete Create = refl
in_lead Complete Update = refl
in_lead Complete Delete = refl
in_lead Complete Read = refl
in_lead Errored Create = refl
in_lead Errored Update = refl
in_lead Errored Delete = refl
in_lead Errored Read = refl

pub in_type : (point : StepPoint) → escape (point_type point) ≡ point_type point
unfolding json_on_literals
in_type Start = refl
in_type Complete = refl
in_type Errored = refl

pub in_words : (seconds : Option ℕ) → escape (seconds_words seconds) ≡ seconds_words seconds
in_words None = refl
in_words (Some seconds) = in_elapsed seconds

pub in_id_suffix : (id : Option (List ℕ)) → IsPlainId id → escape (id_suffix id) ≡ id_suffix id
unfolding json_on_literals
in_id_suffix None plain = refl
in_id_suffix (Some id) plain = joined (codes " [id=" ++ id) (codes "]") ∙ ap (λ t. codes " [id=" ++ t ++ codes "]") plain

-- the text of the message
pub message_quoted : (address lead words note : List ℕ) → escape lead ≡ lead → escape words ≡ words → escape note ≡ note
    → quoted (address ++ (lead ++ (words ++ note))) ≡ 34 ∷ (escape address ++ (lead ++ (words ++ (note ++ 34 ∷ []))))
message_quoted address lead words note leads timed noted =
    ap (λ t. 34 ∷ (t ++ 34 ∷ []))
    (joined address (lead ++ (words ++ note)) ∙ ap (λ t. escape address ++ t) (joined lead (words ++ note) ∙ ap₂ (λ a b. a ++ b) leads (joined words note ∙ ap₂ (λ a b. a ++ b) timed noted)))
    ∙ ap (λ t. 34 ∷ t) (append_assoc (escape address) (lead ++ (words ++ note)) (34 ∷ []) ∙ ap (λ t. escape address ++ t) (append_assoc lead (words ++ note) (34 ∷ []) ∙ ap (λ t. lead ++ t) (append_assoc words note (34 ∷ []))))

pub message_is : (text timestamp type_name : List ℕ) (body : Data)
    → compact_text (message_object (codes "info") text timestamp (typed (codes "hook") body type_name))
    ≡ codes "{\"@level\":\"info\",\"@message\":" ++ (quoted text ++ (codes ",\"@module\":\"terraform.ui\",\"@timestamp\":" ++ (quoted timestamp ++ (codes ",\"hook\":" ++ (compact_text body ++ (codes ",\"type\":" ++ (quoted type_name ++ codes "}")))))))
unfolding message_object json_on_literals
message_is text timestamp type_name body = refl

-- the object `hook`, and the text after it
hook_escaped : (change : ResourceChange) (step : StepKind) (seconds : Option ℕ) (id : Option (List ℕ)) (rest : List ℕ)
    → compact_text (hook_object change step seconds id) ++ rest
    ≡ codes "{\"action\":" ++ (quoted (action_word step) ++ ((seconds_text seconds ++ id_text (option_map escape id)) ++ (codes ",\"resource\":" ++ (compact_text (resource_object change) ++ (codes "}" ++ rest)))))
unfolding hook_object json_on_literals
hook_escaped change step None None rest = simp append_assoc
hook_escaped change step (Some seconds) None rest = simp append_assoc
hook_escaped change step None (Some id) rest = simp append_assoc
hook_escaped change step (Some seconds) (Some id) rest = simp append_assoc

pub same_id : (id : Option (List ℕ)) → IsPlainId id → id_text (option_map escape id) ≡ id_text id
same_id None plain = refl
same_id (Some id) plain = ap (λ i. id_text (Some i)) plain

hook_is : (change : ResourceChange) (step : StepKind) (seconds : Option ℕ) (id : Option (List ℕ)) (rest : List ℕ) → IsPlainId id
    → compact_text (hook_object change step seconds id) ++ rest
    ≡ codes "{\"action\":" ++ (quoted (action_word step) ++ ((seconds_text seconds ++ id_text id) ++ (codes ",\"resource\":" ++ (compact_text (resource_object change) ++ (codes "}" ++ rest)))))
hook_is change step seconds id rest plain =
    hook_escaped change step seconds id rest
    ∙ ap (λ i. codes "{\"action\":" ++ (quoted (action_word step) ++ ((seconds_text seconds ++ i) ++ (codes ",\"resource\":" ++ (compact_text (resource_object change) ++ (codes "}" ++ rest)))))) (same_id id plain)

-- ---- the line

in_a_row : (a f lead words note m date time z action q members c r resource e kind g : List ℕ)
    → (((a ++ f) ++ (lead ++ (words ++ (note ++ m)))) ++ (date ++ time)) ++ ((z ++ (action ++ q)) ++ (members ++ ((c ++ ((r ++ resource) ++ e)) ++ (kind ++ g))))
    ≡ a ++ (f ++ (lead ++ (words ++ (note ++ (m ++ (date ++ (time ++ (z ++ (action ++ (q ++ (members ++ (c ++ (r ++ (resource ++ (e ++ (kind ++ g))))))))))))))))
in_a_row a f lead words note m date time z action q members c r resource e kind g = simp append_assoc

as_line : (a f lead words note q m date time z h b action members r resource e y kind x feed : List ℕ)
    → (a ++ ((f ++ (lead ++ (words ++ (note ++ q)))) ++ (m ++ ((date ++ (time ++ z)) ++ (h ++ (b ++ ((q ++ (action ++ q)) ++ (members ++ (r ++ (resource ++ (e ++ (y ++ ((q ++ (kind ++ q)) ++ x))))))))))))) ++ feed
    ≡ a ++ (f ++ (lead ++ (words ++ (note ++ (q ++ (m ++ (date ++ (time ++ (z ++ (h ++ (b ++ (q ++ (action ++ (q ++ (members ++ (r ++ (resource ++ (e ++ (y ++ (q ++ (kind ++ (q ++ (x ++ feed)))))))))))))))))))))))
as_line a f lead words note q m date time z h b action members r resource e y kind x feed = simp append_assoc

assembled : (front lead words note date time action members resource kind : List ℕ)
    → (((codes "{\"@level\":\"info\",\"@message\":" ++ (34 ∷ front)) ++ (lead ++ (words ++ (note ++ codes "\",\"@module\":\"terraform.ui\",\"@timestamp\":")))) ++ (date ++ time)) ++ ((codes "Z\",\"hook\":{\"action\":\"" ++ (action ++ codes "\"")) ++ (members ++ ((codes "," ++ ((codes "\"resource\":" ++ resource) ++ codes "},\"type\":\"")) ++ (kind ++ codes "\"}\n"))))
    ≡ (codes "{\"@level\":\"info\",\"@message\":" ++ ((34 ∷ (front ++ (lead ++ (words ++ (note ++ 34 ∷ []))))) ++ (codes ",\"@module\":\"terraform.ui\",\"@timestamp\":" ++ ((date ++ (time ++ codes "Z\"")) ++ (codes ",\"hook\":" ++ (codes "{\"action\":" ++ ((34 ∷ (action ++ 34 ∷ [])) ++ (members ++ (codes ",\"resource\":" ++ (resource ++ (codes "}" ++ (codes ",\"type\":" ++ ((34 ∷ (kind ++ 34 ∷ [])) ++ codes "}"))))))))))))) ++ 10 ∷ []
assembled front lead words note date time action members resource kind =
    in_a_row (codes "{\"@level\":\"info\",\"@message\":") (34 ∷ front) lead words note (codes "\",\"@module\":\"terraform.ui\",\"@timestamp\":") date time (codes "Z\",\"hook\":{\"action\":\"") action (codes "\"") members (codes ",") (codes "\"resource\":") resource (codes "},\"type\":\"") kind (codes "\"}\n")
    ∙ sym (as_line (codes "{\"@level\":\"info\",\"@message\":") (34 ∷ front) lead words note (34 ∷ []) (codes ",\"@module\":\"terraform.ui\",\"@timestamp\":") date time (codes "Z\"") (codes ",\"hook\":") (codes "{\"action\":") action members (codes ",\"resource\":") resource (codes "}") (codes ",\"type\":") kind (codes "}") (10 ∷ []))

-- a line of a hook's message, of its texts
abbrev line_with : (message_quoted timestamp hook : List ℕ) → List ℕ
line_with message_quoted timestamp hook = (codes "{\"@level\":\"info\",\"@message\":" ++ (message_quoted ++ (codes ",\"@module\":\"terraform.ui\",\"@timestamp\":" ++ (timestamp ++ (codes ",\"hook\":" ++ hook))))) ++ 10 ∷ []

own_order : (fields : HookFieldsView) → fields.id_first ≡ false → seconds_and_id_text fields ≡ seconds_text fields.seconds ++ id_text fields.id
own_order fields order = ap (λ (first : Bool). if first then id_text fields.id ++ seconds_text fields.seconds else (seconds_text fields.seconds ++ id_text fields.id)) order

pub line_is : (change : ResourceChange) (step : StepKind) (timestamp : ℕ) (fields : HookFieldsView) → IsPlainId fields.id → fields.id_first ≡ false
    → hook_line (hook_pieces (shown_step change step)) step timestamp fields ≡ message_line timestamp (fields_message change step fields)
unfolding hook_front hook_middle hook_back resource_object
line_is change step timestamp fields plain order =
    let front = escape change.address in
    let lead = lead_text fields.point step in
    let words = seconds_words fields.seconds in
    let note = id_suffix fields.id in
    let kind = point_type fields.point in
    let date = unterminated_date (timestamp / 86400) in
    let time = time_of_day (timestamp % 86400) in
    let action = action_word step in
    let members = seconds_text fields.seconds ++ id_text fields.id in
    let resource = compact_text (resource_object change) in
    let body = hook_object change step fields.seconds fields.id in
    let text = (fields_message change step fields).text in
    let rest = codes ",\"type\":" ++ (quoted kind ++ codes "}") in
    let quoted_text = 34 ∷ (front ++ (lead ++ (words ++ (note ++ 34 ∷ [])))) in
    let quoted_timestamp = date ++ (time ++ codes "Z\"") in
    let texts : quoted_text ≡ quoted text = sym (message_quoted change.address lead words note (in_lead fields.point step) (in_words fields.seconds) (in_id_suffix fields.id plain)) in
    let kinds : 34 ∷ (kind ++ 34 ∷ []) ≡ quoted kind = ap (λ t. 34 ∷ (t ++ 34 ∷ [])) (sym (in_type fields.point)) in
    let hook = codes "{\"action\":" ++ ((34 ∷ (action ++ 34 ∷ [])) ++ (members ++ (codes ",\"resource\":" ++ (resource ++ (codes "}" ++ (codes ",\"type\":" ++ ((34 ∷ (kind ++ 34 ∷ [])) ++ codes "}"))))))) in
    let hooks : hook ≡ compact_text body ++ rest =
    ap (λ a. codes "{\"action\":" ++ (a ++ (members ++ (codes ",\"resource\":" ++ (resource ++ (codes "}" ++ (codes ",\"type\":" ++ ((34 ∷ (kind ++ 34 ∷ [])) ++ codes "}")))))))) (sym (in_action step))
    ∙ ap (λ k. codes "{\"action\":" ++ (quoted action ++ (members ++ (codes ",\"resource\":" ++ (resource ++ (codes "}" ++ (codes ",\"type\":" ++ (k ++ codes "}")))))))) kinds
    ∙ sym (hook_is change step fields.seconds fields.id rest plain) in
    ap (λ m. (((codes "{\"@level\":\"info\",\"@message\":" ++ (34 ∷ front)) ++ (lead ++ (words ++ (note ++ codes "\",\"@module\":\"terraform.ui\",\"@timestamp\":")))) ++ (date ++ time)) ++ ((codes "Z\",\"hook\":{\"action\":\"" ++ (action ++ codes "\"")) ++ (m ++ ((codes "," ++ ((codes "\"resource\":" ++ resource) ++ codes "},\"type\":\"")) ++ (kind ++ codes "\"}\n"))))) (own_order fields order)
    ∙ assembled front lead words note date time action members resource kind
    ∙ ap (λ s. line_with s quoted_timestamp hook) texts
    ∙ ap (λ t. line_with (quoted text) t hook) (moment_is timestamp)
    ∙ ap (λ h. line_with (quoted text) (quoted (timestamp_text timestamp)) h) hooks
    ∙ sym (ap (λ t. t ++ 10 ∷ []) (message_is text (timestamp_text timestamp) kind body))

-- ---- templates

pub front_is : (begun new address : List ℕ) → begun ≡ codes "{\"@level\":\"info\",\"@message\":" → new ≡ begun ++ unterminated address → new ≡ hook_front address
unfolding hook_front
front_is begun new address first grown = grown ∙ ap (λ b. b ++ unterminated address) first

pub middle_is : (begun grown new action : List ℕ) (step : StepKind) → begun ≡ codes "Z\",\"hook\":{\"action\":\"" → grown ≡ begun ++ action → action ≡ action_word step → new ≡ grown ++ codes "\"" → new ≡ hook_middle step
unfolding hook_middle
middle_is begun grown new action step first second actions third =
    third ∙ ap (λ s. s ++ codes "\"") (second ∙ ap₂ (λ s a. s ++ a) first actions) ∙ append_assoc (codes "Z\",\"hook\":{\"action\":\"") (action_word step) (codes "\"")

pub back_is : (begun grown new : List ℕ) (change : ResourceChange) → begun ≡ codes "," → grown ≡ begun ++ (codes "\"resource\":" ++ compact_text (resource_object change)) → new ≡ grown ++ codes "},\"type\":\"" → new ≡ hook_back change
unfolding hook_back
back_is begun grown new change first second third =
    let resource = codes "\"resource\":" ++ compact_text (resource_object change) in
    third ∙ ap (λ s. s ++ codes "},\"type\":\"") (second ∙ ap (λ s. s ++ resource) first) ∙ append_assoc (codes ",") resource (codes "},\"type\":\"")

-- the shown fields of a change give the same texts as the change
back_shown : (change : ResourceChange) (step : StepKind) → hook_back change ≡ hook_back (shown_step change step).change
unfolding hook_back resource_object
back_shown change step = refl

pub pieces_of : (cached : CachedPieces) (change : ResourceChange) (step : StepKind) → cached.step ≡ shown_step change step → cached.pieces.front ≡ hook_front change.address → cached.pieces.middle ≡ hook_middle step → cached.pieces.back ≡ hook_back change
    → cached.pieces ≡ hook_pieces cached.step
pieces_of cached change step is fronts middles backs =
    pieces_same cached.pieces (hook_front change.address) (hook_middle step) (hook_back (shown_step change step).change) fronts middles (backs ∙ back_shown change step) ∙ sym (ap hook_pieces is)
