-- The lines before an apply, by their numbers.
use Rattle.std.proofs.Common.{◌≡◌, ◌<◌, ◌+◌, ◌++◌, ℕ, zero, suc, List, [], ◌∷◌, drop, get_or, length, map, refl, sym, ap, ◌∙◌, arith}
use Rattle.std.proofs.lemmas.List.{get_or-append-add, get_or-map, get_or_append_left, length-append, length-map, map-append}
use Rattle.apply_events.specs.declared.event.Event.{Event}
use Rattle.apply_command.specs.declared.head_line.HeadLine.{HeadLine}
use Rattle.apply_command.specs.declared.head_line.HeadLine.TheVariants as line
use Rattle.apply_command.specs.Head.{HeadInputs, event_text, head_lines, line_text}

-- what is next of a list, and what comes after it
pub next_is : {A : Type 0} (all rest : List A) (place : ℕ) (x d : A) → x ∷ rest ≡ drop place all → (x ≡ get_or all place d) × (rest ≡ drop (suc place) all)
next_is [] rest zero x d is = let n = ap length is in absurd (omega (arith, n))
next_is [] rest (suc place) x d is = let n = ap length is in absurd (omega (arith, n))
next_is (y ∷ all) rest zero x d is = (ap (λ l. get_or l 0 d) is, ap (drop 1) is)
next_is (y ∷ all) rest (suc place) x d is = next_is all rest place x d is

-- what is next of the texts of these items, and what comes after it
pub next_text : {X A : Type 0} (f : X → A) (before after : List X) (x : X) (all : List A) (place : ℕ) (d : A) → before ≡ x ∷ after → map f before ≡ drop place all
    → (f x ≡ get_or all place d) × (map f after ≡ drop (place + 1) all)
next_text f before after x all place d begins left =
    let next = next_is all (map f after) place (f x) d (ap (map f) (sym begins) ∙ left) in
    (next.0, next.1 ∙ ap (λ (n : ℕ). drop n all) (let one : suc place ≡ place + 1 = omega arith in one))

module _ (inputs : HeadInputs) (events : List Event) (plan : List HeadLine) where
  abbrev text : HeadLine → List ℕ
  text line = line_text inputs line

  abbrev behind : List HeadLine
  behind = map line.Planning events ++ plan

  planning_texts : (es : List Event) → map text (map line.Planning es) ≡ map (event_text inputs.start inputs.told) es
  planning_texts [] = refl
  planning_texts (e ∷ es) = ap (λ l. text (line.Planning e) ∷ l) (planning_texts es)

  size : (es : List Event) → length (map line.Planning es) ≡ length es
  size es = length-map es line.Planning

  -- how many there are
  pub count : length (head_lines events plan) ≡ 1 + length events + length plan
  count = let a = length-append (map line.Planning events) plan in let b = size events in omega (arith, a, b)

  -- the version comes first
  pub first_text : text line.Version ≡ get_or (map text (head_lines events plan)) 0 []
  first_text = refl

  -- then the planning
  pub event_text_at : (number place : ℕ) → place ≡ number + 1 → number < length events
      → get_or (map (event_text inputs.start inputs.told) events) number [] ≡ get_or (map text (head_lines events plan)) place []
  event_text_at number place is few =
      let texts = planning_texts events in
      let long = length-map events (event_text inputs.start inputs.told) in
      let suc_is : place ≡ suc number = omega (arith, is) in
      ap (λ l. get_or l number []) (sym texts)
      ∙ sym (get_or_append_left (map text (map line.Planning events)) (map text plan) [] number (let n = ap length texts in omega (arith, few, long, n)))
      ∙ ap (λ l. get_or l number []) (sym (map-append text (map line.Planning events) plan))
      ∙ ap (λ (n : ℕ). get_or (map text (head_lines events plan)) n []) (sym suc_is)

  -- then the plan
  pub plan_text_at : (number place : ℕ) (one : HeadLine) → place ≡ number + length events + 1 → number < length plan → one ≡ get_or plan number one
      → text one ≡ get_or (map text (head_lines events plan)) place []
  plan_text_at number place one is few here =
      let n = size events in
      let suc_is : place ≡ suc (length (map line.Planning events) + number) = omega (arith, is, n) in
      let last : length (map text (map line.Planning events)) ≡ length (map line.Planning events) = length-map (map line.Planning events) text in
      ap text here
      ∙ sym (get_or-map text plan number one [] few)
      ∙ sym (get_or-append-add (map text (map line.Planning events)) (map text plan) number [])
      ∙ ap (λ (k : ℕ). get_or (map text (map line.Planning events) ++ map text plan) (k + number) []) last
      ∙ ap (λ l. get_or l (length (map line.Planning events) + number) []) (sym (map-append text (map line.Planning events) plan))
      ∙ ap (λ (k : ℕ). get_or (map text (head_lines events plan)) k []) (sym suc_is)
