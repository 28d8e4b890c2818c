-- The fixed texts of a progress message give its text.
use Rattle.std.proofs.Common.{◌≡◌, ℕ, ◌/◌, ◌%◌, inl, List, [], ◌∷◌, ◌++◌, codes, decimal, Some, None, refl, sym, ap, ap₂, ◌∙◌, append_assoc, arith}
use Rattle.std.specs.Option.{option_map_or}
use Rattle.std.proofs.lemmas.Grind.{flat_map-append}
use Rattle.std.proofs.lemmas.List.{append_cancel_right}
use Rattle.json.specs.Print.{escape, escape_byte, quoted}
use Rattle.json.proofs.OnLiterals.{json_on_literals}
use Rattle.serde_json.specs.Written.{compact_text}
use Rattle.apply_model.specs.declared.plan.step_kind.StepKind.{StepKind}
use Rattle.apply_model.specs.Plan.ResourceChange.{ResourceChange}
use Rattle.apply_text.specs.Calendar.{date_of_day}
use Rattle.apply_text.specs.CachedParts.{CachedPieces, front_text, shown_step, unterminated_date, progress_line, time_of_day}
use Rattle.apply_text.specs.Elapsed.{elapsed_of}
use Rattle.apply_text.specs.Message.{progress_message}
use Rattle.apply_text.specs.UtcTimestamp.{date_text, timestamp_text, time_text}
use Rattle.apply_text.specs.Words.{action_word, still_word}
use Rattle.apply_text.proofs.CachedTexts.{moment_is, pieces_same}
use Rattle.apply_text.proofs.Progress.{in_action, in_elapsed, message_is, message_quoted, text_regrouped}
use Rattle.apply_text_terraform.specs.CachedParts.{form_pieces, middle_text, progress_text}
use Rattle.apply_text_terraform.specs.Escapes.{escaped}
use Rattle.apply_text_terraform.specs.Lines.{line_of_text}
use Rattle.apply_text_terraform.specs.UtcTimestamp.{precise_timestamp_text}
use Rattle.apply_text_terraform.specs.Objects.{hook_object, resource_object}
use Rattle.apply_text_terraform.proofs.Cuts.{Begins, two_of_seven}
use Rattle.apply_text_terraform.proofs.Plain.{date_plain, decimal_plain, elapsed_plain, time_plain}

-- ---- timestamps

joined : (xs ys : List ℕ) → escape (xs ++ ys) ≡ escape xs ++ escape ys
joined xs ys = flat_map-append escape_byte xs ys

-- a text in JSON that ends in such characters
ends_in_z : (text : List ℕ) → quoted (text ++ codes "Z") ≡ (34 ∷ escape text) ++ codes "Z\""
unfolding json_on_literals
ends_in_z text = ap (λ t. 34 ∷ (t ++ 34 ∷ [])) (joined text (codes "Z")) ∙ ap (λ t. 34 ∷ t) (append_assoc (escape text) (codes "Z") (34 ∷ []))

ends_in_decimals : (text : List ℕ) → quoted (text ++ codes ".000000Z") ≡ (34 ∷ escape text) ++ codes ".000000Z\""
unfolding json_on_literals
ends_in_decimals text = ap (λ t. 34 ∷ (t ++ 34 ∷ [])) (joined text (codes ".000000Z")) ∙ ap (λ t. 34 ∷ t) (append_assoc (escape text) (codes ".000000Z") (34 ∷ []))

pub fine_is : (timestamp : ℕ) → (unterminated_date (timestamp / 86400) ++ time_of_day (timestamp % 86400)) ++ codes ".000000Z\"" ≡ quoted (precise_timestamp_text timestamp)
unfolding timestamp_text precise_timestamp_text
fine_is timestamp =
    let text = option_map_or date_text (date_of_day (timestamp / 86400)) [] ++ codes "T" ++ time_text (timestamp % 86400) in
    let date = unterminated_date (timestamp / 86400) in
    let time = time_of_day (timestamp % 86400) in
    let begun : date ++ time ≡ 34 ∷ escape text = append_cancel_right (date ++ time) (34 ∷ escape text) (codes "Z\"") (append_assoc date time (codes "Z\"") ∙ moment_is timestamp ∙ ends_in_z text) in
    ap (λ t. t ++ codes ".000000Z\"") begun ∙ sym (ends_in_decimals text)

-- ---- the message

-- the object `hook`, and the text after it
hook_is : (change : ResourceChange) (step : StepKind) (seconds : ℕ) (rest : List ℕ)
    → compact_text (hook_object change step (Some seconds) None) ++ rest
    ≡ codes "{\"resource\":" ++ (compact_text (resource_object change) ++ (codes ",\"action\":" ++ (quoted (action_word step) ++ (codes ",\"elapsed_seconds\":" ++ (decimal seconds ++ (codes "}" ++ rest))))))
unfolding hook_object json_on_literals
hook_is change step seconds rest = simp append_assoc

-- the fixed texts, one after another
in_a_row : (a front elapsed m timestamp z h resource c action d seconds e : List ℕ)
    → (((a ++ front) ++ (elapsed ++ m)) ++ timestamp) ++ (z ++ ((h ++ (resource ++ (c ++ (action ++ d)))) ++ (seconds ++ e)))
    ≡ a ++ (front ++ (elapsed ++ (m ++ (timestamp ++ (z ++ (h ++ (resource ++ (c ++ (action ++ (d ++ (seconds ++ e)))))))))))
in_a_row a front elapsed m timestamp z h resource c action d seconds e = simp append_assoc

as_message : (a front elapsed q m timestamp z h r resource c action quote d seconds e : List ℕ)
    → a ++ ((front ++ (elapsed ++ q)) ++ (m ++ ((timestamp ++ z) ++ (h ++ ((r ++ resource) ++ (c ++ ((action ++ quote) ++ (d ++ (seconds ++ e)))))))))
    ≡ a ++ (front ++ (elapsed ++ (q ++ (m ++ (timestamp ++ (z ++ (h ++ (r ++ (resource ++ (c ++ (action ++ (quote ++ (d ++ (seconds ++ e))))))))))))))
as_message a front elapsed q m timestamp z h r resource c action quote d seconds e = simp append_assoc

assembled : (front elapsed timestamp action seconds resource : List ℕ)
    → (((codes "{\"@level\":\"info\",\"@message\":" ++ (34 ∷ front)) ++ (elapsed ++ codes " elapsed]\",\"@module\":\"terraform.ui\",\"@timestamp\":")) ++ timestamp) ++ (codes ".000000Z\"" ++ ((codes ",\"hook\":{" ++ ((codes "\"resource\":" ++ resource) ++ (codes ",\"action\":\"" ++ (action ++ codes "\",\"elapsed_seconds\":")))) ++ (seconds ++ codes "},\"type\":\"apply_progress\"}")))
    ≡ codes "{\"@level\":\"info\",\"@message\":" ++ ((34 ∷ (front ++ (elapsed ++ codes " elapsed]\""))) ++ (codes ",\"@module\":\"terraform.ui\",\"@timestamp\":" ++ ((timestamp ++ codes ".000000Z\"") ++ (codes ",\"hook\":" ++ (codes "{\"resource\":" ++ (resource ++ (codes ",\"action\":" ++ ((34 ∷ (action ++ 34 ∷ [])) ++ (codes ",\"elapsed_seconds\":" ++ (seconds ++ (codes "}" ++ codes ",\"type\":\"apply_progress\"}")))))))))))
assembled front elapsed timestamp action seconds resource =
    in_a_row (codes "{\"@level\":\"info\",\"@message\":") (34 ∷ front) elapsed (codes " elapsed]\",\"@module\":\"terraform.ui\",\"@timestamp\":") timestamp (codes ".000000Z\"") (codes ",\"hook\":{") (codes "\"resource\":" ++ resource) (codes ",\"action\":\"") action (codes "\",\"elapsed_seconds\":") seconds (codes "},\"type\":\"apply_progress\"}")
    ∙ sym (as_message (codes "{\"@level\":\"info\",\"@message\":") (34 ∷ front) elapsed (codes " elapsed]\"") (codes ",\"@module\":\"terraform.ui\",\"@timestamp\":") timestamp (codes ".000000Z\"") (codes ",\"hook\":") (codes "{\"resource\":") resource (codes ",\"action\":\"") action (34 ∷ []) (codes ",\"elapsed_seconds\":") seconds (codes "}" ++ codes ",\"type\":\"apply_progress\"}"))

pub pieces_are : (change : ResourceChange) (step : StepKind) (timestamp seconds : ℕ)
    → ((front_text change.address step ++ (elapsed_of seconds ++ codes " elapsed]\",\"@module\":\"terraform.ui\",\"@timestamp\":")) ++ (unterminated_date (timestamp / 86400) ++ time_of_day (timestamp % 86400))) ++ (middle_text change step ++ (decimal seconds ++ codes "},\"type\":\"apply_progress\"}"))
    ≡ progress_text timestamp change step seconds
unfolding front_text middle_text
pieces_are change step timestamp seconds =
    let front = change.address ++ (codes ": Still " ++ (still_word step ++ codes "... [")) in
    let elapsed = elapsed_of seconds in
    let text = (progress_message change step seconds).text in
    let body = hook_object change step (Some seconds) None in
    let resource = compact_text (resource_object change) in
    let preserved = codes "}" ++ codes ",\"type\":\"apply_progress\"}" in
    let is : text ≡ front ++ (elapsed ++ codes " elapsed]") = text_regrouped change.address (still_word step) elapsed in
    assembled (escape front) elapsed (unterminated_date (timestamp / 86400) ++ time_of_day (timestamp % 86400)) (action_word step) (decimal seconds) resource
    ∙ ap (λ time. codes "{\"@level\":\"info\",\"@message\":" ++ ((34 ∷ (escape front ++ (elapsed ++ codes " elapsed]\""))) ++ (codes ",\"@module\":\"terraform.ui\",\"@timestamp\":" ++ (time ++ (codes ",\"hook\":" ++ (codes "{\"resource\":" ++ (resource ++ (codes ",\"action\":" ++ ((34 ∷ (action_word step ++ 34 ∷ [])) ++ (codes ",\"elapsed_seconds\":" ++ (decimal seconds ++ preserved))))))))))) (fine_is timestamp)
    ∙ sym (message_is text (precise_timestamp_text timestamp) body
    ∙ ap (λ t. codes "{\"@level\":\"info\",\"@message\":" ++ t) (ap₂ (λ q b. q ++ (codes ",\"@module\":\"terraform.ui\",\"@timestamp\":" ++ (quoted (precise_timestamp_text timestamp) ++ (codes ",\"hook\":" ++ b)))) (message_quoted front elapsed text (in_elapsed seconds) is)
    (hook_is change step seconds (codes ",\"type\":\"apply_progress\"}") ∙ ap (λ a. codes "{\"resource\":" ++ (resource ++ (codes ",\"action\":" ++ (a ++ (codes ",\"elapsed_seconds\":" ++ (decimal seconds ++ preserved)))))) (in_action step))))

-- ---- the line

-- the shown fields of a change give the same texts as the change
middle_shown : (change : ResourceChange) (step : StepKind) → middle_text (shown_step change step).change step ≡ middle_text change step
unfolding middle_text resource_object
middle_shown change step = refl

middle_begins : (change : ResourceChange) (step : StepKind) (rest : List ℕ) → Begins (middle_text change step ++ rest)
unfolding middle_text
middle_begins change step rest = inl (omega arith)

with_feed : (f e m d t b s z : List ℕ) → ((f ++ (e ++ m)) ++ (d ++ t)) ++ (b ++ (s ++ (z ++ 10 ∷ []))) ≡ (((f ++ (e ++ m)) ++ (d ++ t)) ++ (b ++ (s ++ z))) ++ 10 ∷ []
with_feed f e m d t b s z = simp append_assoc

-- the cached texts, with escapes, give the line
pub line_is : (change : ResourceChange) (step : StepKind) (timestamp seconds : ℕ) → progress_line (form_pieces (shown_step change step)) timestamp seconds ≡ line_of_text (progress_text timestamp change step seconds)
line_is change step timestamp seconds =
    let f = front_text change.address step in
    let e = elapsed_of seconds in
    let m = codes " elapsed]\",\"@module\":\"terraform.ui\",\"@timestamp\":" in
    let d = unterminated_date (timestamp / 86400) in
    let t = time_of_day (timestamp % 86400) in
    let b = middle_text change step in
    let s = decimal seconds in
    let z = codes "},\"type\":\"apply_progress\"}" in
    ap (λ b. ((escaped f ++ (e ++ m)) ++ (d ++ t)) ++ (escaped b ++ (s ++ (z ++ 10 ∷ [])))) (middle_shown change step)
    ∙ with_feed (escaped f) e m d t (escaped b) s z
    ∙ ap (λ x. x ++ 10 ∷ [])
    (sym (two_of_seven f e m d t b s z (elapsed_plain seconds) refl (date_plain (timestamp / 86400)) (time_plain (timestamp % 86400) (omega arith)) (decimal_plain seconds) refl (middle_begins change step (s ++ z)))
    ∙ ap escaped (pieces_are change step timestamp seconds))

-- ---- templates

pub resource_is : (bytes first : List ℕ) (change : ResourceChange) → bytes ≡ first ++ (quoted (codes "resource") ++ 58 ∷ compact_text (resource_object change)) → bytes ≡ first ++ (codes "\"resource\":" ++ compact_text (resource_object change))
unfolding json_on_literals
resource_is bytes first change is = is

pub middle_is : (bytes resource action : List ℕ) (change : ResourceChange) (step : StepKind) → bytes ≡ codes ".000000Z\",\"hook\":{" ++ (resource ++ (codes ",\"action\":\"" ++ (action ++ codes "\",\"elapsed_seconds\":")))
    → resource ≡ codes "\"resource\":" ++ compact_text (resource_object change) → action ≡ action_word step → bytes ≡ middle_text change step
unfolding middle_text
middle_is bytes resource action change step is resources actions = is ∙ ap₂ (λ r a. codes ".000000Z\",\"hook\":{" ++ (r ++ (codes ",\"action\":\"" ++ (a ++ codes "\",\"elapsed_seconds\":")))) resources actions

pub pieces_of : (cached : CachedPieces) (change : ResourceChange) (step : StepKind) → cached.step ≡ shown_step change step → cached.pieces.front ≡ escaped (front_text change.address step) → cached.pieces.middle ≡ escaped (middle_text change step)
    → cached.pieces.back ≡ codes "},\"type\":\"apply_progress\"}\n" → cached.pieces ≡ form_pieces cached.step
pieces_of cached change step is fronts middles backs =
    pieces_same cached.pieces (escaped (front_text change.address step)) (escaped (middle_text (shown_step change step).change step)) (codes "},\"type\":\"apply_progress\"}\n") fronts (middles ∙ ap escaped (sym (middle_shown change step))) backs
    ∙ sym (ap form_pieces is)
