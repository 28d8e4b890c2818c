-- The fixed texts of a progress line give the whole line.
use Rattle.std.proofs.Common.{◌≡◌, ℕ, zero, suc, ◌/◌, ◌%◌, ◌<◌, List, [], ◌∷◌, ◌++◌, codes, decimal, Some, None, false, refl, sym, ap, ap₂, ◌∙◌, append_assoc, arith}
use Rattle.std.specs.Fmt.{digit_glyph, digits, digits_onto}
use Rattle.std.proofs.lemmas.Grind.{common_steps, flat_map-append}
use Rattle.json.specs.Print.{escape, escape_byte, quoted}
use Rattle.json.proofs.OnLiterals.{json_on_literals}
use Rattle.serde_json.specs.Data.{Data}
use Rattle.serde_json.specs.Written.{compact_text}
use Rattle.apply_model.specs.declared.plan.step_kind.StepKind.{StepKind}
use Rattle.apply_model.specs.declared.plan.step_kind.StepKind.TheVariants.{Create, Update, Delete, Read}
use Rattle.apply_model.specs.Plan.ResourceChange.{ResourceChange}
use Rattle.apply_text.specs.Elapsed.{elapsed_of}
use Rattle.apply_text.specs.CachedParts.{back_text, front_text, shown_step, line_pieces, middle_text, unterminated_date, progress_line, time_of_day}
use Rattle.apply_text.specs.Lines.{message_line, message_object, typed}
use Rattle.apply_text.specs.Message.{progress_message}
use Rattle.apply_text.specs.UtcTimestamp.{timestamp_text}
use Rattle.apply_text.specs.Objects.{hook_object, resource_object}
use Rattle.apply_text.specs.Words.{action_word, still_word}
use Rattle.apply_text.proofs.CachedTexts.{moment_is}

joined : (xs ys : List ℕ) → escape (xs ++ ys) ≡ escape xs ++ escape ys
joined xs ys = flat_map-append escape_byte xs ys

-- ---- numbers and words stand as they are

in_digit : (d : ℕ) → d < 10 → escape_byte (digit_glyph false d) ≡ digit_glyph false d ∷ []
unfolding escape_byte
in_digit d few = grind (arith, common_steps)

in_digits : (k n : ℕ) (digits : List ℕ) → escape digits ≡ digits → escape (digits_onto k 10 false n digits) ≡ digits_onto k 10 false n digits
in_digits zero n digits same = same
in_digits (suc k) n digits same = grind (arith, common_steps, in_digits k, in_digit)

in_decimal : (n : ℕ) → escape (decimal n) ≡ decimal n
unfolding digits
in_decimal n = in_digits 64 n [] refl

pub in_action : (step : StepKind) → quoted (action_word step) ≡ 34 ∷ (action_word step ++ 34 ∷ [])
unfolding json_on_literals
in_action Create = refl
in_action Update = refl
in_action Delete = refl
in_action Read = refl

-- ---- objects

-- the object `hook`, and the text after it
hook_is : (change : ResourceChange) (step : StepKind) (seconds : ℕ) (rest : List ℕ)
    → compact_text (hook_object change step (Some seconds) None) ++ rest
    ≡ codes "{\"action\":" ++ (quoted (action_word step) ++ (codes ",\"elapsed_seconds\":" ++ (decimal seconds ++ (codes ",\"resource\":" ++ (compact_text (resource_object change) ++ (codes "}" ++ rest))))))
unfolding hook_object json_on_literals
hook_is change step seconds rest = simp append_assoc

pub message_is : (text timestamp : List ℕ) (body : Data)
    → compact_text (message_object (codes "info") text timestamp (typed (codes "hook") body (codes "apply_progress")))
    ≡ codes "{\"@level\":\"info\",\"@message\":" ++ (quoted text ++ (codes ",\"@module\":\"terraform.ui\",\"@timestamp\":" ++ (quoted timestamp ++ (codes ",\"hook\":" ++ (compact_text body ++ codes ",\"type\":\"apply_progress\"}")))))
unfolding message_object json_on_literals
message_is text timestamp body = refl

pub in_elapsed : (seconds : ℕ) → escape (elapsed_of seconds) ≡ elapsed_of seconds
unfolding json_on_literals
in_elapsed seconds = grind (arith, common_steps, joined, in_decimal)

-- the text of the message
pub message_quoted : (front elapsed text : List ℕ) → escape elapsed ≡ elapsed → text ≡ front ++ (elapsed ++ codes " elapsed]") → quoted text ≡ 34 ∷ (escape front ++ (elapsed ++ codes " elapsed]\""))
unfolding json_on_literals
message_quoted front elapsed text plain is =
    ap quoted is
    ∙ ap (λ t. 34 ∷ (t ++ 34 ∷ [])) (joined front (elapsed ++ codes " elapsed]") ∙ ap (λ t. escape front ++ t) (joined elapsed (codes " elapsed]") ∙ ap (λ e. e ++ codes " elapsed]") plain))
    ∙ ap (λ t. 34 ∷ t) (append_assoc (escape front) (elapsed ++ codes " elapsed]") (34 ∷ []) ∙ ap (λ t. escape front ++ t) (append_assoc elapsed (codes " elapsed]") (34 ∷ [])))

pub text_regrouped : (address still elapsed : List ℕ) → address ++ codes ": " ++ (codes "Still " ++ still ++ codes "... [" ++ elapsed ++ codes " elapsed]") ≡ (address ++ (codes ": Still " ++ (still ++ codes "... ["))) ++ (elapsed ++ codes " elapsed]")
text_regrouped address still elapsed = simp append_assoc

-- the fixed texts, one after another
in_a_row : (a front elapsed m date time z action d seconds c resource e : List ℕ)
    → (((a ++ front) ++ (elapsed ++ m)) ++ (date ++ time)) ++ ((z ++ (action ++ d)) ++ (seconds ++ (c ++ (resource ++ e))))
    ≡ a ++ (front ++ (elapsed ++ (m ++ (date ++ (time ++ (z ++ (action ++ (d ++ (seconds ++ (c ++ (resource ++ e)))))))))))
in_a_row a front elapsed m date time z action d seconds c resource e = simp append_assoc

as_line : (a front elapsed q m date time z h action quote d seconds r resource e feed : List ℕ)
    → (a ++ ((front ++ (elapsed ++ q)) ++ (m ++ ((date ++ (time ++ z)) ++ (h ++ ((action ++ quote) ++ (d ++ (seconds ++ (r ++ (resource ++ e)))))))))) ++ feed
    ≡ a ++ (front ++ (elapsed ++ (q ++ (m ++ (date ++ (time ++ (z ++ (h ++ (action ++ (quote ++ (d ++ (seconds ++ (r ++ (resource ++ (e ++ feed)))))))))))))))
as_line a front elapsed q m date time z h action quote d seconds r resource e feed = simp append_assoc

assembled : (front elapsed date time action seconds resource : List ℕ)
    → (((codes "{\"@level\":\"info\",\"@message\":" ++ (34 ∷ front)) ++ (elapsed ++ codes " elapsed]\",\"@module\":\"terraform.ui\",\"@timestamp\":")) ++ (date ++ time)) ++ ((codes "Z\",\"hook\":{\"action\":\"" ++ (action ++ codes "\",\"elapsed_seconds\":")) ++ (seconds ++ (codes "," ++ ((codes "\"resource\":" ++ resource) ++ codes "},\"type\":\"apply_progress\"}\n"))))
    ≡ (codes "{\"@level\":\"info\",\"@message\":" ++ ((34 ∷ (front ++ (elapsed ++ codes " elapsed]\""))) ++ (codes ",\"@module\":\"terraform.ui\",\"@timestamp\":" ++ ((date ++ (time ++ codes "Z\"")) ++ (codes ",\"hook\":" ++ (codes "{\"action\":" ++ ((34 ∷ (action ++ 34 ∷ [])) ++ (codes ",\"elapsed_seconds\":" ++ (seconds ++ (codes ",\"resource\":" ++ (resource ++ (codes "}" ++ codes ",\"type\":\"apply_progress\"}")))))))))))) ++ 10 ∷ []
assembled front elapsed date time action seconds resource =
    in_a_row (codes "{\"@level\":\"info\",\"@message\":") (34 ∷ front) elapsed (codes " elapsed]\",\"@module\":\"terraform.ui\",\"@timestamp\":") date time (codes "Z\",\"hook\":{\"action\":\"") action (codes "\",\"elapsed_seconds\":") seconds (codes ",") (codes "\"resource\":" ++ resource) (codes "},\"type\":\"apply_progress\"}\n")
    ∙ sym (as_line (codes "{\"@level\":\"info\",\"@message\":") (34 ∷ front) elapsed (codes " elapsed]\"") (codes ",\"@module\":\"terraform.ui\",\"@timestamp\":") date time (codes "Z\"") (codes ",\"hook\":{\"action\":\"") action (34 ∷ []) (codes ",\"elapsed_seconds\":") seconds (codes ",\"resource\":") resource (codes "}" ++ codes ",\"type\":\"apply_progress\"}") (10 ∷ []))

pub pieces_are : (change : ResourceChange) (step : StepKind) (timestamp seconds : ℕ) → progress_line (line_pieces (shown_step change step)) timestamp seconds ≡ message_line timestamp (progress_message change step seconds)
unfolding front_text middle_text back_text resource_object
pieces_are change step timestamp seconds =
    let front = change.address ++ (codes ": Still " ++ (still_word step ++ codes "... [")) in
    let elapsed = elapsed_of seconds in
    let text = (progress_message change step seconds).text in
    let body = hook_object change step (Some seconds) None in
    let resource = compact_text (resource_object change) in
    let after = codes "}" ++ codes ",\"type\":\"apply_progress\"}" in
    let is : text ≡ front ++ (elapsed ++ codes " elapsed]") = text_regrouped change.address (still_word step) elapsed in
    let time = quoted (timestamp_text timestamp) in
    assembled (escape front) elapsed (unterminated_date (timestamp / 86400)) (time_of_day (timestamp % 86400)) (action_word step) (decimal seconds) resource
    ∙ ap (λ time. (codes "{\"@level\":\"info\",\"@message\":" ++ ((34 ∷ (escape front ++ (elapsed ++ codes " elapsed]\""))) ++ (codes ",\"@module\":\"terraform.ui\",\"@timestamp\":" ++ (time ++ (codes ",\"hook\":" ++ (codes "{\"action\":" ++ ((34 ∷ (action_word step ++ 34 ∷ [])) ++ (codes ",\"elapsed_seconds\":" ++ (decimal seconds ++ (codes ",\"resource\":" ++ (resource ++ after))))))))))) ++ 10 ∷ []) (moment_is timestamp)
    ∙ sym (ap (λ t. t ++ 10 ∷ []) (message_is text (timestamp_text timestamp) body
    ∙ ap (λ t. codes "{\"@level\":\"info\",\"@message\":" ++ t) (ap₂ (λ q b. q ++ (codes ",\"@module\":\"terraform.ui\",\"@timestamp\":" ++ (time ++ (codes ",\"hook\":" ++ b)))) (message_quoted front elapsed text (in_elapsed seconds) is)
    (hook_is change step seconds (codes ",\"type\":\"apply_progress\"}") ∙ ap (λ a. codes "{\"action\":" ++ (a ++ (codes ",\"elapsed_seconds\":" ++ (decimal seconds ++ (codes ",\"resource\":" ++ (resource ++ after)))))) (in_action step)))))
