-- A whole stream.
use Rattle.std.proofs.Common.{◌≡◌, ℕ, ◌+◌, ◌≤◌, ℤ, List, [], ◌∷◌, codes, Bool, true, false, cond, ltb, length, get_or, drop, fold, Option, Some, None, Result, Ok, Err, suc, refl, sym, ap, ◌∙◌, subst, ⊎_elim, arith, All, count_by}
use Rattle.std.specs.Prelude.{◌&&◌, is_none, is_some}
use Rattle.std.specs.List.{AllByRecursion}
use Rattle.std.specs.Option.{option_map_or}
use Rattle.std.specs.Str.{bytes_eq}
use Rattle.std.proofs.lemmas.Bool.{cases_Bool}
use Rattle.std.proofs.lemmas.List.{drop-drop}
use Rattle.std.proofs.lemmas.List.Elements.{recursion_from_All}
use Rattle.std.proofs.lemmas.List.Sums.{get_or-le-sum_by}
use Rattle.std.proofs.lemmas.Slice.Eq.{bytes_eq-Decides}
use Rattle.serde_json.specs.Data.{Data}
use Rattle.apply_json.specs.Tree as json
use Rattle.stream_lines.specs.Limits.{max_bytes}
use Rattle.stream_check.specs.declared.messages.action.Action.{Action}
use Rattle.stream_check.specs.declared.messages.action.Action.TheVariants.{Create, Update, Delete}
use Rattle.stream_check.specs.declared.messages.totals.Totals.{Totals}
use Rattle.stream_check.specs.declared.rules.fault.Fault.{Fault}
use Rattle.stream_check.specs.declared.rules.fault.Fault.TheVariants.{NotJson, TooLong}
use Rattle.stream_check.specs.declared.rules.mode.Mode.{Mode}
use Rattle.stream_check.specs.declared.verdict.whole.Whole.{Whole}
use Rattle.stream_check.specs.Laws.{EachEnds, IsWhole, StateMessages, is_end, is_start, tells}
use Rattle.stream_check.specs.Lines as lines
use Rattle.stream_check.specs.Message as check
use Rattle.stream_check.specs.Results as results
use Rattle.stream_check.specs.Results.{or_refuse}
use Rattle.stream_check.specs.Tally.{completed_totals}
use Rattle.stream_check.specs.Words.{action_word}
use Rattle.stream_message.specs.Members.{hook_text, time_of}
use Rattle.stream_timeline.specs.Messages.{Message, message_of, content_of}
use Rattle.stream_timeline.specs.Steps.{StepRead}
use Rattle.stream_timeline.specs.TimelineRead.{TimelineRead, is_blank_line, empty_timeline, timeline_of, with_line}
use Rattle.laws_timeline.specs.Agreement as words
use Rattle.laws_timeline.specs.Agreement.{AllEnded, AreCounted, IsTimed, is_ephemeral}
use Rattle.laws_timeline.proofs.Counting.{Agrees, agrees_more, open_with}
use Rattle.laws_timeline.proofs.Counts.{one_if}
use Rattle.laws_timeline.proofs.Matching.{is_change}
use Rattle.laws_timeline.proofs.Types.{matched}

-- ---- a line

-- a line by its tree, its type and its time
record Line (text : List ℕ) (m : check.Message) : Type 0 where
  whole : Data
  name : List ℕ
  time : ℤ
  tree : json.tree_of text ≡ Some whole
  type : json.text_of (codes "type") whole ≡ Some name
  time_is : time_of whole ≡ Some time
  content : check.typed_message name whole ≡ Ok m
  lasting : is_ephemeral name ≡ true → option_map_or words.is_change (hook_text (codes "action") whole) false ≡ false
  some : is_blank_line text ≡ false

not_too_long : (b : Bool) (r : Result check.Message Fault) (m : check.Message) → cond b (Err TooLong) r ≡ Ok m → r ≡ Ok m
not_too_long true r m e = absurd cc
not_too_long false r m e = e

located_tree : (o : Option Data) (m : check.Message) → results.◌>>=◌ (or_refuse NotJson o) (lines.tree_message false) ≡ Ok m → (d : Data) × (o ≡ Some d) × (lines.tree_message false d ≡ Ok m)
located_tree None m e = absurd cc
located_tree (Some d) m e = (d, refl, e)

located_type : (d : Data) (m : check.Message) → lines.tree_message false d ≡ Ok m → (name : List ℕ) × (json.text_of (codes "type") d ≡ Some name) × (check.typed_message name d ≡ Ok m)
unfolding lines.tree_message
located_type d m e = each (json.text_of (codes "type") d) refl e where
  each : (o : Option (List ℕ)) → json.text_of (codes "type") d ≡ o → option_map_or (λ name. check.typed_message name d) o (lines.untyped_message false) ≡ Ok m
      → (name : List ℕ) × (json.text_of (codes "type") d ≡ Some name) × (check.typed_message name d ≡ Ok m)
  each None is f = absurd cc
  each (Some name) is f = (name, is, f)

not_blank : (b : Bool) (o : Option Message) → is_some (cond b None o) ≡ true → (b ≡ false) × (is_some o ≡ true)
not_blank true o e = absurd cc
not_blank false o e = (refl, e)

some_time : (name : List ℕ) (d : Data) (o : Option ℤ) → is_some (json.◌>>=◌ o (λ time. Some (let message : Message = record { time = time; content = content_of name d } in message))) ≡ true → (time : ℤ) × (o ≡ Some time)
some_time name d None e = absurd cc
some_time name d (Some time) e = (time, refl)

a_line : (text : List ℕ) (m : check.Message) → IsTimed text → lines.line_message false text ≡ Ok m → Line text m
unfolding lines.line_message
a_line text m timed e =
    let t = located_tree (json.tree_of text) m (not_too_long (ltb max_bytes (length text)) _ m e) in
    let n = located_type t.0 m t.2 in
    let there = not_blank (is_blank_line text) (message_of text) timed.message in
    let when = some_time n.0 t.0 (time_of t.0) (rw (t.1, n.1) at there.1) in
    record {
      whole = t.0;
      name = n.0;
      time = when.0;
      tree = t.1;
      type = n.1;
      time_is = when.1;
      content = n.2;
      lasting = rw (t.1, n.1) at timed.lasting;
      some = there.0;
    }

line_agrees : (ms : List check.Message) (text : List ℕ) (m : check.Message) (t : TimelineRead) → Line text m → ((a : List ℕ) (k : Action) → count_by (tells is_end a k) (m ∷ ms) ≤ count_by (tells is_start a k) (m ∷ ms))
    → Agrees ms t.steps → Agrees (m ∷ ms) (with_line text t).steps
line_agrees ms text m t l order h =
    let message : Message = record { time = l.time; content = content_of l.name l.whole } in
    let is : message_of text ≡ Some message = rw (l.tree, l.type, l.time_is) refl in
    rw (l.some, is) (agrees_more ms m l.time (content_of l.name l.whole) _ (matched l.name l.whole m l.lasting l.content) order h)

-- ---- all lines

after : {X : Type 0} (x : X) (xs ys : List X) (n : ℕ) → x ∷ xs ≡ drop n ys → xs ≡ drop (suc n) ys
after x xs ys n e = ap (λ zs. drop 1 zs) e ∙ (drop-drop 1 n ys ∙ (let same : n + 1 ≡ suc n = omega arith in ap (λ (k : ℕ). drop k ys) same))

messages_drop : (ms messages : List check.Message) (texts : List (List ℕ)) → StateMessages false ms messages texts → ms ≡ drop (length texts) messages
messages_drop ms messages [] h = sym h
messages_drop ms messages (text ∷ texts) h = after h.0 ms messages (length texts) (messages_drop (h.0 ∷ ms) messages texts h.2)

all_agree : (texts : List (List ℕ)) (ms messages : List check.Message) (t : TimelineRead) → StateMessages false ms messages texts → AllByRecursion IsTimed texts
    → ((n : ℕ) (a : List ℕ) (k : Action) → count_by (tells is_end a k) (drop n messages) ≤ count_by (tells is_start a k) (drop n messages))
    → Agrees ms t.steps → Agrees messages (fold (λ t line. with_line line t) t texts).steps
all_agree [] ms messages t say timed order h = subst (λ (xs : List check.Message). Agrees xs t.steps) (sym say) h
all_agree (text ∷ texts) ms messages t say timed order h =
    let m = say.0 in
    let here : m ∷ ms ≡ drop (length texts) messages = messages_drop (m ∷ ms) messages texts say.2 in
    all_agree texts (m ∷ ms) messages (with_line text t) say.2 timed.1 order
    (line_agrees ms text m t (a_line text m timed.0 say.1)
    (λ a k. subst (λ (xs : List check.Message). count_by (tells is_end a k) xs ≤ count_by (tells is_start a k) xs) (sym here) (order (length texts) a k)) h)

-- ---- what is left

none_open : (messages : List check.Message) (steps : List StepRead) (k : Action) → Agrees messages steps → is_change k ≡ true
    → ((a : List ℕ) → count_by (tells is_start a k) messages ≡ count_by (tells is_end a k) messages) → AllEnded (action_word k) steps
none_open messages steps k h change ends = λ i d l.
    let s = get_or steps i d in
    let all = h.unended s.address k change in
    let both = ends s.address in
    let least = get_or-le-sum_by (λ (x : StepRead). one_if (open_with s.address k x)) steps i d l in
    let itself : bytes_eq s.address s.address ≡ true = (bytes_eq-Decides s.address s.address).1 refl in
    ⊎_elim
    (λ (yes : (is_none s.end && bytes_eq s.action (action_word k)) ≡ true).
    let counted : one_if (open_with s.address k s) ≡ 1 = ap one_if (open_is (is_none s.end) (bytes_eq s.address s.address) (bytes_eq s.action (action_word k)) itself yes) in
    absurd (omega (arith, all, both, least, counted)))
    (λ (no : (is_none s.end && bytes_eq s.action (action_word k)) ≡ false). no)
    (cases_Bool (is_none s.end && bytes_eq s.action (action_word k)))
  where
    open_is : (a b c : Bool) → b ≡ true → (a && c) ≡ true → ((a && b) && c) ≡ true
    open_is true true c e f = f
    open_is true false c e f = absurd cc
    open_is false b c e f = absurd cc

at_start : Agrees [] []
at_start = record { unended = λ a k h. refl; completed = λ k h. refl }

counted : (totals : Totals) (messages : List check.Message) (steps : List StepRead) → totals ≡ completed_totals messages → EachEnds messages → Agrees messages steps → AreCounted totals steps
counted totals messages steps is ends h = record {
  created = h.completed Create refl ∙ ap (λ (x : Totals). x.added) (sym is);
  updated = h.completed Update refl ∙ ap (λ (x : Totals). x.changed) (sym is);
  deleted = h.completed Delete refl ∙ ap (λ (x : Totals). x.removed) (sym is);
  creates = none_open messages steps Create h refl (λ a. ends.at_last a Create (λ e. cc) (λ e. cc));
  updates = none_open messages steps Update h refl (λ a. ends.at_last a Update (λ e. cc) (λ e. cc));
  deletes = none_open messages steps Delete h refl (λ a. ends.at_last a Delete (λ e. cc) (λ e. cc));
}

pub picture_counts : ((mode : Mode) (texts : List (List ℕ)) (whole : Whole) → lines.verdict_of mode texts ≡ Ok whole → (messages : List check.Message) × IsWhole mode texts whole messages)
    → (mode : Mode) (texts : List (List ℕ)) (whole : Whole) → lines.verdict_of mode texts ≡ Ok whole → mode.find ≡ false → whole.is_plan ≡ false → All IsTimed texts
    → AreCounted whole.totals (timeline_of texts).steps
picture_counts law mode texts whole accepted find plan timed =
    let known = law mode texts whole accepted in
    let messages = known.0 in
    let say : StateMessages false [] messages texts = subst (λ (b : Bool). StateMessages b [] messages texts) find known.1.lines in
    counted whole.totals messages (timeline_of texts).steps (known.1.completed plan) known.1.steps
    (all_agree texts [] messages empty_timeline say (recursion_from_All IsTimed texts timed) known.1.steps.in_order at_start)
