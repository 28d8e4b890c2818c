-- The duration of an end.
use Rattle.std.proofs.Common.{◌≡◌, ◌∙◌, ℕ, ◌∷◌, ◌++◌, [], Bool, List, Option, None, Some, true, false, ⊎_elim, ap, arith, codes, fold, get_or, map, refl, sym, zero, suc, subst}
use Rattle.std.specs.Prelude.{ℤ, int_lt, pos, negsuc, All, if◌then◌else◌, filter, option_map}
use Rattle.std.specs.Int.{int_gap, int_max}
use Rattle.std.specs.Option.{option_map_or, option_or}
use Rattle.std.specs.Str.{bytes_eq}
use Rattle.std.proofs.lemmas.Bool.{cases_Bool}
use Rattle.std.proofs.lemmas.Bool.Decides.{nat_tests}
use Rattle.std.proofs.lemmas.List.Sums.{fold-append}
use Rattle.serde_json.specs.Data.{Data}
use Rattle.apply_json.specs.Tree.{◌>>=◌, is_empty, member_of, non_empty_text_of, text_of, tree_of, unless_empty}
use Rattle.apply_json.proofs.Held.{is_name}
use Rattle.apply_json_tree.specs.Trimmed.{trimmed}
use Rattle.apply_json_tree.proofs.Trimmed.Lookups.{text_trimmed}
use Rattle.stream_message.specs.Members.{address_of, hook_text, time_of, type_of}
use Rattle.stream_timeline.specs.Intervals.{length_of}
use Rattle.stream_timeline.specs.Messages as drawn_messages
use Rattle.stream_timeline.specs.Messages.{Content, content_of, end_of, ends, message_at, tree_message, unusable}
use Rattle.stream_timeline.specs.Steps.{StepRead, at_place, begun_step, ended, first_of, is_open_with, places}
use Rattle.stream_timeline.specs.TimelineRead.{TimelineRead, counted_line, empty_timeline, is_blank_line, timeline_of, with_line, with_message_or_passed_over, with_passed_over}
use Rattle.stream_timeline.specs.declared.reading.time_range.TimeRange.{TimeRange}
use Rattle.stream_watch.specs.Hooks.{Hook, hook_of}
use Rattle.stream_watch.specs.Reading as watched_messages
use Rattle.stream_watch.specs.Reading.{if_typed}
use Rattle.stream_watch.specs.Shape.{message_selection}
use Rattle.stream_watch.specs.State.{beginning}
use Rattle.stream_watch.specs.StepRows.{NamedStep, named_step, stated_length, step_of}
use Rattle.stream_watch.specs.Steps.{Step, begin_of_first, is_step}
use Rattle.stream_watch.specs.Stream.{lines_told}
use Rattle.stream_watch.specs.Telling.{moment_of}
use Rattle.stream_watch.specs.Words.{length_since}
use Rattle.stream_watch.specs.declared.looks.Looks.{Looks}
use Rattle.stream_watch.specs.declared.message.shape.MessageShape.TheVariants as shape
use Rattle.laws_watch.specs.Durations.{IsEndOf, IsTimed, ended_place, is_end_type, told_length}
use Rattle.laws_watch.proofs.Blank.{no_tree}
use Rattle.laws_watch.proofs.FirstOnes.{find-chosen, stands_first}
use Rattle.laws_watch.proofs.KindBegins.{step_effect}
use Rattle.laws_watch.proofs.Lasting.{EndsAt, lasting-length, lasts-lines}
use Rattle.laws_watch.proofs.LineBegins.{lines_same, same_moment}
use Rattle.laws_watch.proofs.RowBegins.{IsKey}
use Rattle.laws_watch.proofs.WatchedBegins.{watched_begins}

-- ---- gaps

no_gap : (begin moment : ℤ) → int_lt moment begin ≡ true → int_gap begin begin ≡ int_gap begin moment
no_gap (pos a) (pos b) less = grind (arith, nat_tests)
no_gap (pos a) (negsuc b) less = omega arith
no_gap (negsuc a) (pos b) less = grind (arith, nat_tests)
no_gap (negsuc a) (negsuc b) less = grind (arith, nat_tests)

gap-max : (begin moment : ℤ) → int_gap begin (int_max begin moment) ≡ int_gap begin moment
gap-max begin moment =
    ⊎_elim (λ (less : int_lt moment begin ≡ true). rw less (no_gap begin moment less)) (λ (more : int_lt moment begin ≡ false). rw more refl)
    (cases_Bool (int_lt moment begin))

-- ---- what an end names

-- a step that a message names has an address
address-named : (hook : Data) (address : Option (List ℕ)) (named : Hook)
    → option_map (λ address. record { hook = hook; address = address }) (address >>= unless_empty) ≡ Some named → bytes_eq [] named.address ≡ false
address-named hook None named is = absurd (cc)
address-named hook (Some []) named is = absurd (cc)
address-named hook (Some (byte ∷ bytes)) named is =
    let same : named.address ≡ byte ∷ bytes = cc in
    ap (bytes_eq []) same

resource-named : (hook : Data) (resource : Option Data) (named : Hook)
    → (resource >>= λ resource. option_map (λ address. record { hook = hook; address = address }) (non_empty_text_of (codes "addr") resource)) ≡ Some named
    → bytes_eq [] named.address ≡ false
resource-named hook None named is = absurd (cc)
resource-named hook (Some resource) named is = address-named hook (text_of (codes "addr") resource) named is

hook-named : (hook : Option Data) (named : Hook)
    → (hook >>= λ hook. (member_of (codes "resource") hook
    >>= λ resource. option_map (λ address. record { hook = hook; address = address }) (non_empty_text_of (codes "addr") resource))) ≡ Some named
    → bytes_eq [] named.address ≡ false
hook-named None named is = absurd (cc)
hook-named (Some hook) named is = resource-named hook (member_of (codes "resource") hook) named is

action-named : (named : Hook) (action : Option (List ℕ)) (step : NamedStep) → option_map (named_step named) action ≡ Some step → step.address ≡ named.address
action-named named None step is = absurd (cc)
action-named named (Some action) step is = cc

step-named : (hook : Option Hook) (step : NamedStep) → ((named : Hook) → hook ≡ Some named → bytes_eq [] named.address ≡ false)
    → (hook >>= λ named. option_map (named_step named) (text_of (codes "action") named.hook)) ≡ Some step → bytes_eq [] step.address ≡ false
step-named None step names is = absurd (cc)
step-named (Some named) step names is = ap (bytes_eq []) (action-named named (text_of (codes "action") named.hook) step is) ∙ names named refl

has-address : (tree : Data) (step : NamedStep) → step_of tree ≡ Some step → bytes_eq [] step.address ≡ false
has-address tree step is = step-named (hook_of tree) step (λ named found. hook-named (member_of (codes "hook") tree) named found) is

-- the address and the action, unless the address is empty
abbrev names_of : (address action : List ℕ) → Option (List ℕ × List ℕ)
names_of address action = if is_empty address then None else Some (address, action)

both_stated : (x y : Option (List ℕ)) (address action : List ℕ)
    → option_map_or (λ address. option_map_or (λ action. names_of address action) y None) x None ≡ Some (address, action) → (x ≡ Some address) × (y ≡ Some action)
both_stated None y address action is = absurd (cc)
both_stated (Some []) None address action is = absurd (cc)
both_stated (Some []) (Some other) address action is = absurd (cc)
both_stated (Some (byte ∷ bytes)) None address action is = absurd (cc)
both_stated (Some (byte ∷ bytes)) (Some other) address action is =
    (ap Some (ap (λ names. option_map_or (λ (p : List ℕ × List ℕ). p.0) names []) is), ap Some (ap (λ names. option_map_or (λ (p : List ℕ × List ℕ). p.1) names []) is))

not_empty : (address action : List ℕ) → bytes_eq [] address ≡ false → names_of address action ≡ Some (address, action)
not_empty [] action named = absurd (cc)
not_empty (byte ∷ bytes) action named = refl

stated_names : (d : Data) (step : NamedStep) → step_of (trimmed message_selection shape.Message d) ≡ Some step
    → (address_of d ≡ Some step.address) × (hook_text (codes "action") d ≡ Some step.action)
stated_names d step is =
    both_stated (address_of d) (hook_text (codes "action") d) step.address step.action
    (sym (step_effect names_of None (λ action. refl) d) ∙ ap (λ (s : Option NamedStep). option_map_or (λ (s : NamedStep). names_of s.address s.action) s None) is
    ∙ not_empty step.address step.action (has-address (trimmed message_selection shape.Message d) step is))

-- ---- the message of an end

-- the whole tree of a message
pub record WholeTree (line : List ℕ) (tree : Data) : Type 0 where
  pub whole : Data
  pub is : tree_of line ≡ Some whole
  pub trimmed_is : tree ≡ trimmed message_selection shape.Message whole

whole-typed : (d tree : Data) (name : Option (List ℕ)) → option_map (trimmed message_selection shape.Message) (option_map (λ name. d) name) ≡ Some tree
    → tree ≡ trimmed message_selection shape.Message d
whole-typed d tree None is = absurd (cc)
whole-typed d tree (Some name) is = cc

whole_tree : (line : List ℕ) (tree : Data) → watched_messages.message_of false line ≡ Some tree → WholeTree line tree
whole_tree line tree is = by (tree_of line) refl
  where
    by : (found : Option Data) → tree_of line ≡ found → WholeTree line tree
    by None found =
        let none : watched_messages.message_of false line ≡ None = ap (λ o. option_map (trimmed message_selection shape.Message) (o >>= if_typed)) found in
        absurd (cc)
    by (Some d) found =
        let there : option_map (trimmed message_selection shape.Message) (if_typed d) ≡ Some tree =
        sym (ap (λ o. option_map (trimmed message_selection shape.Message) (o >>= if_typed)) found) ∙ is in
        record { whole = d; is = found; trimmed_is = whole-typed d tree (type_of d) there }

-- the content of an end
end_content : (name : List ℕ) (d : Data) → is_end_type name ≡ true → (failed : Bool) × (content_of name d ≡ end_of failed d)
end_content name d is =
    named (codes "apply_complete") (false, refl) (λ no_complete.
    named (codes "apply_errored") (true, refl) (λ no_errored.
    named (codes "ephemeral_op_complete") (false, refl) (λ no_ephemeral_complete.
    named (codes "ephemeral_op_errored") (true, refl) (λ no_ephemeral_errored.
    let none : is_end_type name ≡ false = rw (no_complete, no_errored, no_ephemeral_complete, no_ephemeral_errored) refl in
    absurd (cc)))))
  where
    named : (word : List ℕ) → (failed : Bool) × (content_of word d ≡ end_of failed d)
        → (bytes_eq name word ≡ false → (failed : Bool) × (content_of name d ≡ end_of failed d)) → (failed : Bool) × (content_of name d ≡ end_of failed d)
    named word here there = by (bytes_eq name word) refl
      where
        by : (b : Bool) → bytes_eq name word ≡ b → (failed : Bool) × (content_of name d ≡ end_of failed d)
        by true same = (here.0, ap (λ (n : List ℕ). content_of n d) (is_name name word same) ∙ here.1)
        by false apart = there apart

-- ---- the end in the picture

drawn_end : (line name : List ℕ) (d : Data) (address action : List ℕ) (failed : Bool) (moment : ℤ) (t : TimelineRead) (place : ℕ) → tree_of line ≡ Some d → type_of d ≡ Some name
    → time_of d ≡ Some moment → content_of name d ≡ ends address action failed → first_of (places (is_open_with address action) t.steps) ≡ Some place
    → (with_line line t).steps ≡ at_place place (ended moment failed) t.steps
drawn_end line name d address action failed moment t place tree typed timed content found =
    let message : drawn_messages.message_of line ≡ Some (message_at name d moment) =
    ap (λ o. o >>= tree_message) tree ∙ ap (λ o. o >>= λ name. (time_of d >>= λ time. Some (message_at name d time))) typed
    ∙ ap (λ o. o >>= λ time. Some (message_at name d time)) timed in
    let stated : drawn_messages.message_of line ≡ Some (record { time = moment; content = ends address action failed }) =
    message ∙ ap (λ content. Some (record { time = moment; content = content })) content in
    ⊎_elim (λ (blank : is_blank_line line ≡ true). absurd (cc (no_tree line blank, tree)))
    (λ (some : is_blank_line line ≡ false).
    rw some
    (ap (λ message. (with_message_or_passed_over message (counted_line line t)).steps) stated
    ∙ at_if _ (first_of (places (is_open_with address action) t.steps)) ∙ ap (λ o. option_map_or (λ n. at_place n (ended moment failed) t.steps) o t.steps) found))
    (cases_Bool (is_blank_line line))
  where
    at_if : (u : TimelineRead) (place : Option ℕ)
        → (option_map_or (λ place. record u { steps = at_place place (ended moment failed) u.steps }) place (with_passed_over u)).steps
        ≡ option_map_or (λ n. at_place n (ended moment failed) u.steps) place u.steps
    at_if u None = refl
    at_if u (Some place) = refl

-- ---- the begin, as `watch` knows it

first_mapped : {A B : Type 0} (f : A → B) (xs : List A) → option_map f (first_of xs) ≡ first_of (map f xs)
first_mapped f [] = refl
first_mapped f (x ∷ xs) = refl

known_begin : (address action : List ℕ) (steps : List Step) → begin_of_first (is_step address action false) steps ≡ first_of (watched_begins address action steps)
known_begin address action steps =
    ap (option_map (λ (step : Step). step.begin)) (find-chosen (is_step address action false) steps)
    ∙ first_mapped (λ (step : Step). step.begin) (filter (is_step address action false) steps)

-- the step that stands at an index
from_index : (begin end : ℤ) (steps : List StepRead) (place : ℕ) (element : StepRead) → ((absent : StepRead) → get_or steps place absent ≡ element)
    → element.begin ≡ begin → element.end ≡ Some end → EndsAt begin end steps place
from_index begin end [] place element is from until =
    let one : begun_step 0 [] [] (pos 0) ≡ element = is (begun_step 0 [] [] (pos 0)) in
    let two : begun_step 1 [] [] (pos 0) ≡ element = is (begun_step 1 [] [] (pos 0)) in
    let same : 0 ≡ 1 = ap (λ (s : StepRead). s.line) (one ∙ sym two) in
    absurd (omega (arith, same))
from_index begin end (step ∷ steps) zero element is from until =
    let same : step ≡ element = is step in
    (ap (λ (s : StepRead). s.begin) same ∙ from, ap (λ (s : StepRead). s.end) same ∙ until)
from_index begin end (step ∷ steps) (suc place) element is from until = from_index begin end steps place element is from until

pub told_is_drawn : (looks : Looks) (lines : List (List ℕ)) (line : List ℕ) (rest : List (List ℕ)) (step : NamedStep) (moment : ℤ) (place : ℕ) (time_range : TimeRange) (absent : StepRead)
    → All (IsTimed step.address step.action) lines → IsEndOf step moment line → bytes_eq (codes "refresh") step.action ≡ false → ended_place lines step ≡ Some place
    → told_length looks lines step moment ≡ Some (length_of time_range (get_or (timeline_of (lines ++ line ∷ rest)).steps place absent))
told_is_drawn looks lines line rest step moment place time_range absent timed end no_refresh found =
    let whole = whole_tree line end.tree end.message in
    let d = whole.whole in
    let tree = trimmed message_selection shape.Message d in
    let names : step_of tree ≡ Some step = ap step_of (sym whole.trimmed_is) ∙ end.names in
    let typed : type_of d ≡ Some end.name =
    sym (text_trimmed message_selection shape.Message shape.Scalar (codes "type") d refl) ∙ ap (text_of (codes "type")) (sym whole.trimmed_is) ∙ end.is_named in
    let time : time_of d ≡ Some moment = sym (same_moment d) ∙ ap moment_of (sym whole.trimmed_is) ∙ end.moment_is in
    let stated = stated_names d step names in
    let content = end_content end.name d end.is_end in
    let failed = content.0 in
    let ending : content_of end.name d ≡ ends step.address step.action failed =
    content.1 ∙ ap (λ address. option_map_or (λ address. option_map_or (λ action. ends address action failed) (hook_text (codes "action") d) unusable) address unusable) stated.0
    ∙ ap (λ action. option_map_or (λ action. ends step.address action failed) action unusable) stated.1 in
    let key : IsKey step.address step.action = record { named = has-address tree step names; no_refresh = no_refresh } in
    let same = lines_same step.address step.action key looks lines timed in
    let state = (lines_told looks false lines beginning).state in
    let stands = stands_first (is_open_with step.address step.action) (timeline_of lines).steps place found in
    let begin : begin_of_first (is_step step.address step.action false) state.steps ≡ Some stands.element.begin =
    known_begin step.address step.action state.steps ∙ ap first_of same ∙ ap (λ steps. first_of (map (λ (s : StepRead). s.begin) steps)) stands.first in
    let told : told_length looks lines step moment ≡ Some (int_gap stands.element.begin moment) =
    ap (λ b. option_or (length_since b moment) (stated_length step.hook)) begin in
    let drawn = timeline_of lines in
    let begun = stands.element.begin in
    let later : timeline_of (lines ++ line ∷ rest) ≡ fold (λ t line. with_line line t) (with_line line drawn) rest = fold-append (λ t line. with_line line t) empty_timeline lines (line ∷ rest) in
    let steps : (with_line line drawn).steps ≡ at_place place (ended moment failed) drawn.steps =
    drawn_end line end.name d step.address step.action failed moment drawn place whole.is typed time ending found in
    let stands_there : EndsAt begun (int_max begun moment) (at_place place (ended moment failed) drawn.steps) place =
    from_index begun (int_max begun moment) (at_place place (ended moment failed) drawn.steps) place (ended moment failed stands.element) (stands.changed (ended moment failed)) refl refl in
    let first : EndsAt begun (int_max begun moment) (with_line line drawn).steps place = subst (λ xs. EndsAt begun (int_max begun moment) xs place) (sym steps) stands_there in
    let last : EndsAt begun (int_max begun moment) (timeline_of (lines ++ line ∷ rest)).steps place =
    subst (λ (t : TimelineRead). EndsAt begun (int_max begun moment) t.steps place) (sym later) (lasts-lines begun (int_max begun moment) place rest (with_line line drawn) first) in
    told ∙ ap Some (sym (lasting-length begun (int_max begun moment) time_range (timeline_of (lines ++ line ∷ rest)).steps place absent last
    ∙ gap-max begun (int_max begun moment) ∙ gap-max begun moment))
