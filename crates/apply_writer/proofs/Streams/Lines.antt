-- The lines of events, and of one event more.
use Rattle.std.proofs.Common.{◌≡◌, ℕ, ◌+◌, ◌≤◌, List, [], ◌∷◌, ◌++◌, length, length-append, map, take, take_all, flat_map, sym, refl, ap, ◌∙◌, subst, append_assoc, append-nil, arith, add-zero}
use Rattle.std.specs.Prelude.{max, fold}
use mathlib.Core.List.{IsPrefix}
use Rattle.std.specs.List.{enumerate_from}
use Rattle.std.proofs.lemmas.Grind.{flat_map-append}
use Rattle.std.proofs.lemmas.List.{map-append, take-append-le}
use Rattle.std.proofs.lemmas.List.Sums.{fold-append}
use Rattle.apply_events.specs.declared.event.Event.{Event}
use Rattle.apply_text.specs.Latest.{latest_of}
use Rattle.apply_writer.specs.Stream.Form.{StreamForm, lines_in}
use Rattle.apply_writer.proofs.Prefixes.{prefix_more, prefix_same}

-- ---- moments

-- what follows is not read
latest_before : (events more : List Event) (i : ℕ) → i ≤ length events → latest_of (events ++ more) i ≡ latest_of events i
latest_before events more i few = ap (λ es. fold max 0 (map (λ (event : Event). event.at) es)) (take-append-le i events more few)

-- of all events, and of one more
pub latest_more : (events : List Event) (event : Event) → latest_of (events ++ event ∷ []) (length (events ++ event ∷ [])) ≡ max (latest_of events (length events)) event.at
latest_more events event =
    let at : Event → ℕ = λ event. event.at in
    let all : take (length (events ++ event ∷ [])) (events ++ event ∷ []) ≡ events ++ event ∷ [] = take_all _ _ (omega arith) in
    let old : take (length events) events ≡ events = take_all _ _ (omega arith) in
    ap (λ es. fold max 0 (map at es)) all
    ∙ ap (λ moments. fold max 0 moments) (map-append at events (event ∷ []))
    ∙ fold-append max 0 (map at events) (event.at ∷ [])
    ∙ ap (λ es. max (fold max 0 (map at es)) event.at) (sym old)

-- ---- lines

abbrev text_in : StreamForm → (all : List Event) → ℕ × Event → List ℕ
text_in form all p = form.line (latest_of all (p.0 + 1)) p.1

abbrev texts_from : StreamForm → (all : List Event) (n : ℕ) → List Event → List ℕ
texts_from form all n events = flat_map (text_in form all) (enumerate_from n events)

-- what follows is not read
texts_before : (form : StreamForm) (all more : List Event) (n : ℕ) (events : List Event) → n + length events ≤ length all
    → texts_from form (all ++ more) n events ≡ texts_from form all n events
texts_before form all more n [] few = refl
texts_before form all more n (event ∷ events) few =
    let here : n + 1 ≤ length all = omega arith in
    let rest : n + 1 + length events ≤ length all = omega arith in
    ap (λ latest. form.line latest event ++ texts_from form (all ++ more) (n + 1) events) (latest_before all more (n + 1) here)
    ∙ ap (λ texts. form.line (latest_of all (n + 1)) event ++ texts) (texts_before form all more (n + 1) events rest)

enumerate_more : {X : Type 0} (n : ℕ) (xs ys : List X) → enumerate_from n (xs ++ ys) ≡ enumerate_from n xs ++ enumerate_from (n + length xs) ys
enumerate_more n [] ys = ap (λ m. enumerate_from m ys) (sym (add-zero n))
enumerate_more n (x ∷ xs) ys =
    let place : n + 1 + length xs ≡ n + length (x ∷ xs) = omega arith in
    ap (λ l. (n, x) ∷ l) (enumerate_more (n + 1) xs ys ∙ ap (λ m. enumerate_from (n + 1) xs ++ enumerate_from m ys) place)

texts_more : (form : StreamForm) (events : List Event) (event : Event)
    → texts_from form (events ++ event ∷ []) 0 (events ++ event ∷ []) ≡ texts_from form events 0 events ++ form.line (latest_of (events ++ event ∷ []) (length (events ++ event ∷ []))) event
texts_more form events event =
    let all = events ++ event ∷ [] in
    let text = text_in form all in
    let place : 0 + length events + 1 ≡ length all = omega (arith, length-append events (event ∷ [])) in
    let none : 0 + length events ≤ length events = omega arith in
    ap (λ ps. flat_map text ps) (enumerate_more 0 events (event ∷ []))
    ∙ flat_map-append text (enumerate_from 0 events) (enumerate_from (0 + length events) (event ∷ []))
    ∙ ap (λ texts. texts ++ flat_map text (enumerate_from (0 + length events) (event ∷ []))) (texts_before form events (event ∷ []) 0 events none)
    ∙ ap (λ texts. texts_from form events 0 events ++ texts) (append-nil (text (0 + length events, event)) ∙ ap (λ n. form.line (latest_of all n) event) place)

-- the lines of one event more
pub lines_more : (form : StreamForm) (events : List Event) (event : Event)
    → lines_in form (events ++ event ∷ []) ≡ lines_in form events ++ form.line (latest_of (events ++ event ∷ []) (length (events ++ event ∷ []))) event
lines_more form events event =
    ap (λ texts. form.head ++ texts) (texts_more form events event)
    ∙ sym (append_assoc form.head (texts_from form events 0 events) (form.line (latest_of (events ++ event ∷ []) (length (events ++ event ∷ []))) event))

-- and of none
pub lines_none : (form : StreamForm) → lines_in form [] ≡ form.head
lines_none form = append-nil form.head

-- with more events after them
pub lines_prefix : (form : StreamForm) (events more : List Event) → IsPrefix (lines_in form events) (lines_in form (events ++ more))
lines_prefix form events [] = subst (λ es. IsPrefix (lines_in form events) (lines_in form es)) (sym (append-nil events)) (prefix_same (lines_in form events))
lines_prefix form events (event ∷ more) =
    let first : IsPrefix (lines_in form events) (lines_in form (events ++ event ∷ [])) = (_, sym (lines_more form events event)) in
    let rest : IsPrefix (lines_in form (events ++ event ∷ [])) (lines_in form (events ++ event ∷ [] ++ more)) = lines_prefix form (events ++ event ∷ []) more in
    subst (λ es. IsPrefix (lines_in form events) (lines_in form es)) (append_assoc events (event ∷ []) more)
    (prefix_more (lines_in form events) (lines_in form (events ++ event ∷ [])) (lines_in form (events ++ event ∷ [] ++ more)) first rest)
