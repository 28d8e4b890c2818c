-- A line that was added to others.
use Rattle.std.proofs.Common.{◌≡◌, ℕ, ◌+◌, List, [], ◌++◌, codes, Ok, Err, OnOk, IsOk, refl, ap, ◌∙◌, add-zero}
use Rattle.std.specs.Prelude.{Result}
use Rattle.std.proofs.lemmas.Result.{on_ok_weaker}
use Rattle.json.specs.Token.{Token}
use Rattle.json.specs.Print.{print}
use Rattle.serde_json.specs.Data.{Data}
use Rattle.serde_json.proofs.Texts.{print-outline}
use Rattle.apply_model.specs.Plan.SavedPlan.{SavedPlan}
use Rattle.apply_text.specs.Lines.{message_object, typed}
use Rattle.apply_text.specs.Message.{Message}
use Rattle.apply_text.specs.Sending.{data_tokens}
use Rattle.apply_text_terraform.specs.Lines.{line_of, line_of_text, message_line, version_members, version_text}
use Rattle.apply_text_terraform.specs.UtcTimestamp.{precise_timestamp_text}

pub known : {E : Type 0} {P : Type 0} (w : Result (Unit {0}) E) → IsOk w → OnOk w P → P
known (Ok u) ok h = h
known (Err e) ok h = absurd cc

-- the tokens of an object, after other lines, are the object's line
pub line_added : {E F : Type 0} (r : Result (Unit {0}) E) (w : Result (Unit {0}) F) (old before new wanted : List ℕ) (start tokens : List Token) (d : Data)
    → before ≡ old
    → start ≡ []
    → OnOk w (tokens ≡ start ++ data_tokens d)
    → OnOk r (IsOk w × (new ≡ before ++ line_of_text (print tokens)))
    → line_of d ≡ wanted
    → OnOk r (new ≡ old ++ wanted)
line_added r w old before new wanted start tokens d same none sent ended is =
    on_ok_weaker r (λ h.
    let all : tokens ≡ data_tokens d = known w h.0 sent ∙ ap (λ s. s ++ data_tokens d) none in
    h.1 ∙ ap (λ b. b ++ line_of_text (print tokens)) same ∙ ap (λ text. old ++ line_of_text text) (ap print all ∙ print-outline d) ∙ ap (λ line. old ++ line) is) ended

-- ---- the objects that are written are those of the defined lines

-- the object of a message
abbrev pub object_of : (timestamp : List ℕ) → Message → Data
object_of timestamp message = message_object message.level message.text timestamp (typed message.name message.body message.type_name)

pub version_is : (plan : SavedPlan) (start : ℕ) (version timestamp : List ℕ) → version ≡ plan.version → timestamp ≡ precise_timestamp_text (start + 0) → line_of (message_object (codes "info") (codes "Terraform " ++ version) timestamp (version_members version)) ≡ version_text plan start
version_is plan start version timestamp versions moments = rw (versions, moments, add-zero start) refl

pub message_is : (seconds : ℕ) (timestamp : List ℕ) (message : Message) → timestamp ≡ precise_timestamp_text seconds → line_of (object_of timestamp message) ≡ message_line seconds message
message_is seconds timestamp message moments = ap (λ m. line_of (object_of m message)) moments

-- the line of a message at the start
pub first_is : (start : ℕ) (timestamp : List ℕ) (message : Message) → timestamp ≡ precise_timestamp_text (start + 0) → line_of (object_of timestamp message) ≡ message_line start message
first_is start timestamp message moments = message_is start timestamp message (moments ∙ ap precise_timestamp_text (add-zero start))
