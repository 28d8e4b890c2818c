-- Cached texts, and the fixed texts of a line.
use Rattle.std.proofs.Common.{◌≡◌, ℕ, ◌+◌, ◌-◌, ◌/◌, ◌%◌, ◌<◌, List, [], ◌∷◌, ◌++◌, codes, length, take, Ok, OnOk, refl, sym, ap, ap₂, ◌∙◌, append_assoc, append-nil, length-append, arith, Result, subst}
use Rattle.std.specs.Prelude.{Bool, true, false, Result, Err, if◌then◌else◌, is_ok, slice_index, IfOk}
use Rattle.std.specs.Option.{option_map_or}
use Rattle.std.specs.Str.{IsUtf8}
use Rattle.std.proofs.lemmas.Str.{IsUtf8-append}
use Rattle.std.proofs.Math.Seq.{get_or-append_seam, take-append_seam}
use Rattle.std.proofs.lemmas.Grind.{common_steps, flat_map-append}
use Rattle.std.proofs.lemmas.Result.{on_ok_weaker}
use Rattle.json.specs.Token.{Token}
use Rattle.json.specs.Print.{escape, escape_byte, print, print_from, quoted}
use Rattle.json.proofs.OnLiterals.{json_on_literals}
use Rattle.serde_json.specs.Data.{Data}
use Rattle.serde_json.specs.Written.{compact_text}
use Rattle.serde_json.proofs.Texts.{print-outline}
use Rattle.apply_model.specs.declared.plan.step_kind.StepKind.{StepKind}
use Rattle.apply_model.specs.Plan.ResourceChange.{ResourceChange}
use Rattle.apply_text.specs.Calendar.{date_of_day}
use Rattle.apply_text.specs.CachedParts.{CachedPieces, LinePieces, back_text, front_text, shown_step, line_pieces, middle_text, unterminated_date, unterminated, time_of_day}
use Rattle.apply_text.specs.UtcTimestamp.{date_text, timestamp_text, time_text, two_digits}
use Rattle.apply_text.specs.Objects.{resource_object}
use Rattle.apply_text.specs.Sending.{member_tokens}
use Rattle.apply_text.specs.Words.{action_word, still_word}

-- appending one piece, then others
pub then_piece : {E : Type 0} (r : Result (Unit {0}) E) (old mid new first rest : List ℕ) → mid ≡ old ++ first → OnOk r (new ≡ mid ++ rest) → OnOk r (new ≡ old ++ (first ++ rest))
then_piece r old mid new first rest grown h = on_ok_weaker r (λ e. e ∙ ap (λ s. s ++ rest) grown ∙ append_assoc old first rest) h

-- ---- texts without their closing quote

size : (s text : List ℕ) (n : ℕ) → s ≡ text ++ 34 ∷ [] → n ≡ length s → n ≡ length text + 1
size s text n is len = len ∙ ap length is ∙ length-append text (34 ∷ [])

pub not_empty : (s text : List ℕ) (n : ℕ) → s ≡ text ++ 34 ∷ [] → n ≡ length s → 0 < n
not_empty s text n is len = omega (arith, size s text n is len)

pub cut : (s text : List ℕ) (n : ℕ) → s ≡ text ++ 34 ∷ [] → n ≡ length s → take (n - 1) s ≡ text
cut s text n is len =
    let at : n - 1 ≡ length text = omega (arith, size s text n is len) in
    ap (λ k. take k s) at ∙ ap (λ t. take (length text) t) is ∙ take-append_seam text (34 ∷ [])

pub at_quote : (s text : List ℕ) (n : ℕ) → s ≡ text ++ 34 ∷ [] → n ≡ length s → slice_index s (n - 1) ≡ 34
at_quote s text n is len =
    let at : n - 1 ≡ length text = omega (arith, size s text n is len) in
    ap (λ k. slice_index s k) at ∙ ap (λ t. slice_index t (length text)) is ∙ get_or-append_seam text 34 [] 0

-- ---- what a writer appended to a text

pub printed_text : (items before first : List ℕ) (start tokens : List Token) (text : List ℕ) → before ≡ first → start ≡ [] → tokens ≡ start ++ Token.string text ∷ [] → items ≡ before ++ print tokens
    → items ≡ (first ++ unterminated text) ++ 34 ∷ []
unfolding print_from
printed_text items before first start tokens text after begun grown is =
    is ∙ ap (λ b. b ++ print tokens) after ∙ ap (λ ts. first ++ print ts) (grown ∙ ap (λ s. s ++ Token.string text ∷ []) begun) ∙ ap (λ t. first ++ t) (append-nil (quoted text))
    ∙ sym (append_assoc first (unterminated text) (34 ∷ []))

pub printed_member : (items before first : List ℕ) (start tokens : List Token) (name : List ℕ) (d : Data) → before ≡ first → start ≡ [] → tokens ≡ start ++ member_tokens name d → items ≡ before ++ print tokens
    → items ≡ first ++ (quoted name ++ 58 ∷ compact_text d)
unfolding print_from
printed_member items before first start tokens name d after begun grown is =
    is ∙ ap (λ b. b ++ print tokens) after ∙ ap (λ ts. first ++ print ts) (grown ∙ ap (λ s. s ++ member_tokens name d) begun)
    ∙ ap (λ t. first ++ t) (append_assoc (quoted name) (58 ∷ []) _ ∙ ap (λ t. quoted name ++ 58 ∷ t) (print-outline d))

-- ---- the two ends of a line

pub front_is : (front opened slice text slice₂ word address new : List ℕ) (step : StepKind) → front ≡ codes "{\"@level\":\"info\",\"@message\":" → slice₂ ≡ opened → opened ≡ unterminated slice → slice ≡ text → text ≡ address ++ (codes ": Still " ++ (word ++ codes "... [")) → word ≡ still_word step → new ≡ front ++ slice₂ → new ≡ front_text address step
unfolding front_text
front_is front opened slice text slice₂ word address new step fronts slices opens texts are words grown =
    let same : slice₂ ≡ unterminated (address ++ (codes ": Still " ++ (still_word step ++ codes "... ["))) = slices ∙ opens ∙ ap unterminated (texts ∙ are ∙ ap (λ w. address ++ (codes ": Still " ++ (w ++ codes "... ["))) words) in
    grown ∙ ap (λ f. f ++ slice₂) fronts ∙ ap (λ s. codes "{\"@level\":\"info\",\"@message\":" ++ s) same

pub resource_is : (bytes first : List ℕ) (change : ResourceChange) → bytes ≡ first ++ (quoted (codes "resource") ++ 58 ∷ compact_text (resource_object change)) → bytes ≡ first ++ (codes "\"resource\":" ++ compact_text (resource_object change))
unfolding json_on_literals
resource_is bytes first change is = is

pub middle_is : (action new : List ℕ) (step : StepKind) → action ≡ action_word step → new ≡ codes "Z\",\"hook\":{\"action\":\"" ++ (action ++ codes "\",\"elapsed_seconds\":") → new ≡ middle_text step
unfolding middle_text
middle_is action new step is grown = grown ∙ ap (λ a. codes "Z\",\"hook\":{\"action\":\"" ++ (a ++ codes "\",\"elapsed_seconds\":")) is

pub back_is : (resource new : List ℕ) (change : ResourceChange) → resource ≡ codes "\"resource\":" ++ compact_text (resource_object change) → new ≡ codes "," ++ (resource ++ codes "},\"type\":\"apply_progress\"}\n") → new ≡ back_text change
unfolding back_text
back_is resource new change is grown = grown ∙ ap (λ r. codes "," ++ (r ++ codes "},\"type\":\"apply_progress\"}\n")) is

-- the shown fields of a change give the same texts as the change
back_shown : (change : ResourceChange) (step : StepKind) → back_text change ≡ back_text (shown_step change step).change
unfolding back_text resource_object
back_shown change step = refl

-- texts that were joined
pub pieces_same : (pieces : LinePieces) (front middle back : List ℕ) → pieces.front ≡ front → pieces.middle ≡ middle → pieces.back ≡ back → pieces ≡ record { front = front; middle = middle; back = back }
pieces_same pieces front middle back fronts middles backs =
    let of : List ℕ → List ℕ → List ℕ → LinePieces = λ f m b. record { front = f; middle = m; back = b } in
    ap₂ (λ f m. of f m pieces.back) fronts middles ∙ ap (λ b. of front middle b) backs

pub pieces_of : (cached : CachedPieces) (change : ResourceChange) (step : StepKind) → cached.step ≡ shown_step change step → cached.pieces.front ≡ front_text change.address step → cached.pieces.middle ≡ middle_text step → cached.pieces.back ≡ back_text change
    → cached.pieces ≡ line_pieces cached.step
pieces_of cached change step is fronts middles backs =
    pieces_same cached.pieces (front_text change.address step) (middle_text step) (back_text (shown_step change step).change) fronts middles (backs ∙ back_shown change step) ∙ sym (ap line_pieces is)

-- ---- timestamps

joined : (xs ys : List ℕ) → escape (xs ++ ys) ≡ escape xs ++ escape ys
joined xs ys = flat_map-append escape_byte xs ys

figure : (d : ℕ) → d < 10 → escape_byte (48 + d) ≡ (48 + d) ∷ []
unfolding escape_byte
figure d few = grind (arith, common_steps)

figures : (a b : ℕ) → a < 10 → b < 10 → escape_byte (48 + a) ++ (escape_byte (48 + b) ++ []) ≡ (48 + a) ∷ (48 + b) ∷ []
figures a b few₁ few₂ = rw (figure a few₁, figure b few₂) refl

in_two : (n : ℕ) → n < 100 → escape (two_digits n) ≡ two_digits n
in_two n few = figures (n / 10) (n % 10) (omega (arith, few)) (omega arith)

in_time : (second : ℕ) → second < 86400
    → escape (codes "T" ++ (two_digits (second / 3600) ++ (codes ":" ++ (two_digits (second / 60 % 60) ++ (codes ":" ++ (two_digits (second % 60) ++ codes "Z"))))))
    ≡ codes "T" ++ (two_digits (second / 3600) ++ (codes ":" ++ (two_digits (second / 60 % 60) ++ (codes ":" ++ (two_digits (second % 60) ++ codes "Z")))))
unfolding json_on_literals
in_time second few =
    let d₁ = two_digits (second / 3600) in
    let d₂ = two_digits (second / 60 % 60) in
    let d₃ = two_digits (second % 60) in
    ap (λ t. 84 ∷ t)
    (joined d₁ (codes ":" ++ (d₂ ++ (codes ":" ++ (d₃ ++ codes "Z")))) ∙ ap₂ (λ x y. x ++ y) (in_two (second / 3600) (omega (arith, few)))
    (ap (λ t. 58 ∷ t)
    (joined d₂ (codes ":" ++ (d₃ ++ codes "Z")) ∙ ap₂ (λ x y. x ++ y) (in_two (second / 60 % 60) (omega arith))
    (ap (λ t. 58 ∷ t)
    (joined d₃ (codes "Z") ∙ ap (λ x. x ++ codes "Z") (in_two (second % 60) (omega arith)))))))

pub moment_is : (seconds : ℕ) → unterminated_date (seconds / 86400) ++ (time_of_day (seconds % 86400) ++ codes "Z\"") ≡ quoted (timestamp_text seconds)
unfolding unterminated_date timestamp_text
moment_is seconds =
    let second = seconds % 86400 in
    let date = option_map_or date_text (date_of_day (seconds / 86400)) [] in
    let time = codes "T" ++ (two_digits (second / 3600) ++ (codes ":" ++ (two_digits (second / 60 % 60) ++ (codes ":" ++ (two_digits (second % 60) ++ codes "Z"))))) in
    sym (ap quoted (append_assoc (date ++ codes "T") (time_text second) (codes "Z") ∙ append_assoc date (codes "T") (time_text second ++ codes "Z"))
    ∙ ap (λ t. 34 ∷ (t ++ 34 ∷ [])) (joined date time ∙ ap (λ r. escape date ++ r) (in_time second (omega arith))) ∙ ap (λ t. 34 ∷ t) (append_assoc (escape date) time (34 ∷ [])))

-- `push_str` appends its bytes
pub appended : {E : Type 0} (r : Result (Unit {0}) E) (old new piece : List ℕ) → new ≡ (if is_ok r then old ++ piece else old) → OnOk r (new ≡ old ++ piece)
appended (Ok u) old new piece e = e
appended (Err u) old new piece e = tt

-- ---- lines

-- bytes that may have grown by a text
pub grown_utf8 : (grows : Bool) (bytes text : List ℕ) → IsUtf8 bytes → IsUtf8 text → IsUtf8 (if grows then bytes ++ text else bytes)
grown_utf8 true bytes text before more = IsUtf8-append bytes text before more
grown_utf8 false bytes text before more = before

-- ---- results

-- a property of every successful result holds for this result
pub made : {T E : Type 0} (P : T → Type 0) (r : Result T E) (x : T) → r ≡ Ok x → IfOk r P → P x
made P r x is holds = subst (λ s. IfOk s P) is holds
