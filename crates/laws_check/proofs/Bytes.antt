-- The bytes of a stream, its lines, and the verdict on them.
use Rattle.std.proofs.Common.{◌≡◌, ℕ, ◌+◌, ◌≤◌, ◌==◌, List, [], ◌∷◌, ◌++◌, length, map, Bool, true, false, cond, Option, Some, None, Result, Ok, Err, refl, sym, ap, ◌∙◌, subst, append_assoc, append-nil, ⊎_elim, slice_get, flat_map, arith, le-ltb}
use Rattle.std.specs.List.{AllByRecursion, enumerate_from}
use Rattle.std.specs.Option.{option_map_or}
use Rattle.std.proofs.lemmas.Bool.{cases_Bool}
use Rattle.std.proofs.lemmas.List.Sums.{sum_by-append, sum_by-cons}
use Rattle.serde_json.specs.Data.{Data}
use Rattle.serde_json.specs.Written.{compact_text}
use Rattle.apply_model.specs.declared.plan.step_kind.StepKind.{StepKind}
use Rattle.apply_plan.specs.Plan.ResourceChange.{ResourceChange}
use Rattle.apply_plan.specs.Plan.SavedPlan.{SavedPlan}
use Rattle.apply_plan.specs.Script.OutcomeMap.{OutcomeMap, outcome_of}
use Rattle.stream_check.specs.declared.rules.fault.Fault.{Fault}
use Rattle.stream_check.specs.declared.rules.fault.Fault.TheVariants.{NotJson, TooLong}
use Rattle.stream_check.specs.declared.verdict.finding.Finding.{Finding}
use Rattle.stream_check.specs.declared.verdict.whole.Whole.{Whole}
use Rattle.stream_lines.specs.Cut as cut
use Rattle.stream_lines.specs.Cut.{onto_first}
use Rattle.apply_json.specs.Tree.{tree_of}
use Rattle.stream_lines.specs.Limits.{max_bytes}
use Rattle.stream_check.specs.Lines.{at_line, end_of, line_message, tree_message, next, read_line, read_tree, verdict_after, verdict_of}
use Rattle.stream_check.specs.Message.{Message}
use Rattle.stream_check.specs.Results.{◌>>=◌, or_refuse}
use Rattle.apply_events.specs.declared.event.Event.{Event}
use Rattle.apply_events.specs.Totals.{totals_of}
use Rattle.apply_text.specs.declared.operation.Operation.{Operation}
use Rattle.apply_text.specs.Latest.{latest_of}
use Rattle.apply_text.specs.Laws.{line_feeds}
use Rattle.apply_text.specs.Lines.{event_text, line_of, stream_of, summary_text, version_text}
use Rattle.apply_text.specs.Message.{event_message}
use Rattle.apply_text.specs.Order.{as_written}
use Rattle.laws_check.specs.Applied.{HasShortLines}
use Rattle.laws_check.specs.Objects.{event_objects, object_of, objects_of, stream_objects}
use Rattle.laws_check.specs.Passing.{plain, verdict_on_objects, with_objects}
use Rattle.laws_check.specs.Sound.{CanBeRead, IsShort}
use Rattle.laws_check.proofs.ObjectsBack.{IsBack, stream_back}

-- ---- a stream is the lines of its objects

of_one : (d : Data) → flat_map line_of (d ∷ []) ≡ line_of d
of_one d = append-nil (line_of d)

of_both : (ds es : List Data) → flat_map line_of (ds ++ es) ≡ flat_map line_of ds ++ flat_map line_of es
of_both [] es = refl
of_both (d ∷ ds) es = ap (λ (l : List ℕ). line_of d ++ l) (of_both ds es) ∙ sym (append_assoc (line_of d) (flat_map line_of ds) (flat_map line_of es))

one_event : (script : OutcomeMap) (seconds : ℕ) (e : Event) (located : Option ResourceChange)
    → flat_map line_of (option_map_or (λ (change : ResourceChange). option_map_or (λ step. object_of seconds (event_message change step (outcome_of script e.change e.step) e.what) ∷ []) (slice_get change.steps e.step) []) located [])
    ≡ option_map_or (λ (change : ResourceChange). option_map_or (λ step. line_of (object_of seconds (event_message change step (outcome_of script e.change e.step) e.what))) (slice_get change.steps e.step) []) located []
one_event script seconds e None = refl
one_event script seconds e (Some change) = at (slice_get change.steps e.step)
  where
    at : (step : Option StepKind) → flat_map line_of (option_map_or (λ step. object_of seconds (event_message change step (outcome_of script e.change e.step) e.what) ∷ []) step [])
        ≡ option_map_or (λ step. line_of (object_of seconds (event_message change step (outcome_of script e.change e.step) e.what))) step []
    at None = refl
    at (Some step) = of_one (object_of seconds (event_message change step (outcome_of script e.change e.step) e.what))

all_events : (plan : SavedPlan) (script : OutcomeMap) (start : ℕ) (moments : ℕ → ℕ) (n : ℕ) (es : List Event)
    → flat_map line_of (flat_map (λ p. objects_of plan script (start + moments p.0) p.1) (enumerate_from n es)) ≡ flat_map (λ p. event_text plan script start (moments p.0) p.1) (enumerate_from n es)
all_events plan script start moments n [] = refl
all_events plan script start moments n (e ∷ es) =
    let more = flat_map (λ p. objects_of plan script (start + moments p.0) p.1) (enumerate_from (n + 1) es) in
    of_both (objects_of plan script (start + moments n) e) more
    ∙ ap (λ (l : List ℕ). l ++ flat_map line_of more) (one_event script (start + moments n) e (slice_get plan.changes e.change))
    ∙ ap (λ (l : List ℕ). event_text plan script start (moments n) e ++ l) (all_events plan script start moments (n + 1) es)

stream_is : (plan : SavedPlan) (script : OutcomeMap) (start : ℕ) (operation : Operation) (taken : List Event) → flat_map line_of (stream_objects plan script start operation taken) ≡ stream_of plan script start operation taken
stream_is plan script start operation taken =
    let es = as_written taken in
    let last = summary_text start (latest_of es (length es)) operation (totals_of plan taken) in
    let first = version_text plan start in
    let events = flat_map (λ p. event_text plan script start (latest_of es (p.0 + 1)) p.1) (enumerate_from 0 es) in
    ap (λ (l : List ℕ). first ++ l)
    (of_both (event_objects plan script start es) _
    ∙ ap (λ (l : List ℕ). l ++ (last ++ [])) (all_events plan script start (λ i. latest_of es (i + 1)) 0 es)
    ∙ ap (λ (l : List ℕ). events ++ l) (append-nil last))
    ∙ sym (append_assoc first events last)

-- ---- its lines

pub cut_off : (xs rest : List ℕ) → line_feeds xs ≡ 0 → cut.cut_lines (xs ++ 10 ∷ rest) ≡ xs ∷ cut.cut_lines rest
cut_off [] rest none = refl
cut_off (x ∷ xs) rest none =
    let count = sum_by-cons (λ byte. cond (byte == 10) 1 0) x xs in
    ⊎_elim
    (λ (yes : (x == 10) ≡ true). absurd (let one : cond {A = ℕ} (x == 10) 1 0 ≡ 1 = ap (λ (b : Bool). cond b 1 0) yes in omega arith))
    (λ (other : (x == 10) ≡ false).
    let here : cond {A = ℕ} (x == 10) 1 0 ≡ 0 = ap (λ (b : Bool). cond b 1 0) other in
    ap (λ (b : Bool). cond b ([] ∷ cut.cut_lines (xs ++ 10 ∷ rest)) (onto_first x (cut.cut_lines (xs ++ 10 ∷ rest)))) other
    ∙ ap (onto_first x) (cut_off xs rest (omega arith)))
    (cases_Bool (x == 10))

each_text : (ds : List Data) → AllByRecursion (λ (line : List ℕ). length line ≤ max_bytes) (map compact_text ds) → AllByRecursion IsShort ds
each_text [] h = tt
each_text (d ∷ ds) h = (h.0, each_text ds h.1)

module _ (one_feed : (d : Data) → line_feeds (line_of d) ≡ 1) where
  no_feed : (d : Data) → line_feeds (compact_text d) ≡ 0
  no_feed d =
      let all = sum_by-append (λ byte. cond (byte == 10) 1 0) (compact_text d) (10 ∷ []) in
      let last : line_feeds (10 ∷ []) ≡ 1 = refl in
      let one = one_feed d in
      omega arith

  lines_are : (ds : List Data) → cut.cut_lines (flat_map line_of ds) ≡ map compact_text ds
  lines_are [] = refl
  lines_are (d ∷ ds) =
      ap cut.cut_lines (append_assoc (compact_text d) (10 ∷ []) (flat_map line_of ds))
      ∙ cut_off (compact_text d) (flat_map line_of ds) (no_feed d)
      ∙ ap (λ (l : List (List ℕ)). compact_text d ∷ l) (lines_are ds)

  -- where the lines are short, the objects are
  pub short_objects : (plan : SavedPlan) (script : OutcomeMap) (start : ℕ) (operation : Operation) (taken : List Event) → HasShortLines (stream_of plan script start operation taken)
      → AllByRecursion IsShort (stream_objects plan script start operation taken)
  short_objects plan script start operation taken short =
      let objects = stream_objects plan script start operation taken in
      each_text objects (subst (AllByRecursion (λ (line : List ℕ). length line ≤ max_bytes)) (ap cut.cut_lines (sym (stream_is plan script start operation taken)) ∙ lines_are objects) short)

-- ---- the verdict

one_line : (d : Data) (earlier : List Message) → IsBack d → length (compact_text d) ≤ max_bytes → read_line false earlier (compact_text d) ≡ read_tree false earlier d
unfolding read_line line_message
one_line d earlier back short =
    ap (λ (r : Result Message Fault). r >>= next earlier)
    (ap (λ (b : Bool). cond b (Err TooLong) (or_refuse NotJson (tree_of (compact_text d)) >>= tree_message false)) (le-ltb max_bytes (length (compact_text d)) short)
    ∙ ap (λ (o : Option Data). or_refuse NotJson o >>= tree_message false) back)

module _ (plans : Bool) where
  -- what the lines of these objects lead to, after the lines that were read
  abbrev lead_to : List Data → Result (List Message) Finding → Result Whole Finding
  lead_to ds read = read >>= λ messages. verdict_after (plain plans) messages (map compact_text ds)

  one_accepted : (ds : List Data) (earlier : List Message) (line : ℕ) (whole : Whole) (r : Result (List Message) Fault) → ((later : List Message) → (with_objects false later ds >>= end_of (plain plans)) ≡ Ok whole → verdict_after (plain plans) later (map compact_text ds) ≡ Ok whole)
      → ((r >>= λ later. with_objects false later ds) >>= end_of (plain plans)) ≡ Ok whole → lead_to ds (at_line (plain plans) earlier line r) ≡ Ok whole
  one_accepted ds earlier line whole (Ok later) rest e = rest later e
  one_accepted ds earlier line whole (Err fault) rest e = absurd cc

  lines_accepted : (ds : List Data) (earlier : List Message) (whole : Whole) → AllByRecursion IsBack ds → AllByRecursion (λ (d : Data). length (compact_text d) ≤ max_bytes) ds
      → (with_objects false earlier ds >>= end_of (plain plans)) ≡ Ok whole → verdict_after (plain plans) earlier (map compact_text ds) ≡ Ok whole
  unfolding verdict_after
  lines_accepted [] earlier whole back short is = ap (at_line (plain plans) earlier (length earlier)) is
  lines_accepted (d ∷ ds) earlier whole back short is =
      ap (λ (r : Result (List Message) Fault). lead_to ds (at_line (plain plans) earlier (length earlier + 1) r)) (one_line d earlier back.0 short.0)
      ∙ one_accepted ds earlier (length earlier + 1) whole (read_tree false earlier d) (λ later. lines_accepted ds later whole back.1 short.1) is

  pub stream_accepted : (one_feed : (d : Data) → line_feeds (line_of d) ≡ 1) (plan : SavedPlan) (script : OutcomeMap) (start : ℕ) (operation : Operation) (es : List Event) (whole : Whole)
      → CanBeRead (stream_objects plan script start operation es) → verdict_on_objects (plain plans) (stream_objects plan script start operation es) ≡ Ok whole
      → verdict_of (plain plans) (cut.cut_lines (stream_of plan script start operation es)) ≡ Ok whole
  stream_accepted one_feed plan script start operation es whole read accepted =
      let objects = stream_objects plan script start operation es in
      ap (λ (bytes : List ℕ). verdict_of (plain plans) (cut.cut_lines bytes)) (sym (stream_is plan script start operation es))
      ∙ ap (verdict_of (plain plans)) (lines_are one_feed objects)
      ∙ lines_accepted objects [] whole (stream_back plan script start operation es read.sound) read.short accepted
