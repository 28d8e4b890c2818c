-- The lines of the planned changes in Terraform's form; other changes have none.
use Rattle.std.proofs.Common.{◌≡◌, ℕ, ◌+◌, ◌==◌, List, [], ◌∷◌, ◌++◌, codes, cond, filter, length, map, Bool, true, false, Option, Some, None, refl, ap, ◌∙◌, arith}
use Rattle.std.specs.Prelude.{flat_map, slice_get}
use Rattle.std.specs.List.{AllByRecursion, concat, enumerate_from}
use Rattle.std.specs.Option.{option_map_or}
use Rattle.std.proofs.lemmas.List.Sums.{sum_by-append}
use Rattle.apply_model.specs.declared.plan.step_kind.StepKind.{StepKind}
use Rattle.apply_model.specs.Plan.ResourceChange.{ResourceChange}
use Rattle.apply_model.specs.Plan.SavedPlan.{SavedPlan}
use Rattle.apply_text.specs.Laws.{line_feeds}
use Rattle.apply_text.specs.Lines.{message_object, typed}
use Rattle.apply_text.specs.Words.{action_word}
use Rattle.apply_model.specs.declared.details.change_details.ChangeDetails.{ChangeDetails}
use Rattle.apply_text_terraform.specs.Details.{planned_word}
use Rattle.apply_text_terraform.specs.Lines.{message_line, planned_text, version_members, version_text}
use Rattle.apply_text_terraform.specs.Message.{planned_message}
use Rattle.apply_text_terraform.specs.UtcTimestamp.{precise_timestamp_text}
use Rattle.apply_text_terraform.proofs.Absent.{feeds_in_line}
use Rattle.apply_writer.specs.Stream.Terraform.{terraform_head_chunks, planned_at}
use Rattle.laws_run.specs.PlannedChanges.{IsPlannedChangeLine, is_planned, is_planned_at, planned_in}

-- ---- lists

-- what gives nothing where a test fails may be left out
verbatim_pieces : {X : Type 0} (t : X → Bool) (f : X → List ℕ) → ((x : X) → t x ≡ false → f x ≡ []) → (xs : List X) → concat (map f xs) ≡ flat_map f (filter t xs)
verbatim_pieces t f nothing [] = refl
verbatim_pieces t f nothing (x ∷ xs) = of_test (t x) refl (verbatim_pieces t f nothing xs)
  where
    of_test : (b : Bool) → t x ≡ b → concat (map f xs) ≡ flat_map f (filter t xs) → f x ++ concat (map f xs) ≡ flat_map f (cond b (x ∷ filter t xs) (filter t xs))
    of_test true is rest = ap (λ (l : List ℕ). f x ++ l) rest
    of_test false is rest = ap (λ (l : List ℕ). l ++ concat (map f xs)) (nothing x is) ∙ rest

-- what holds of each element that passes a test holds of the filtered list
all_filtered : {X : Type 0} (t : X → Bool) (P : X → Type 0) → ((x : X) → t x ≡ true → P x) → (xs : List X) → AllByRecursion P (filter t xs)
all_filtered t P holds [] = tt
all_filtered t P holds (x ∷ xs) = of_test (t x) refl (all_filtered t P holds xs)
  where
    of_test : (b : Bool) → t x ≡ b → AllByRecursion P (filter t xs) → AllByRecursion P (cond b (x ∷ filter t xs) (filter t xs))
    of_test true is rest = (holds x is, rest)
    of_test false is rest = rest

feeds-append : (xs ys : List ℕ) → line_feeds (xs ++ ys) ≡ line_feeds xs + line_feeds ys
feeds-append xs ys = sum_by-append (λ byte. cond (byte == 10) 1 0) xs ys

-- ---- one change

has_word : (steps : List StepKind) (forgets : Bool) → is_planned steps forgets ≡ true → (word : List ℕ) × (planned_word steps forgets ≡ Some word)
has_word [] true is = (codes "remove", refl)
has_word [] false is = absurd cc
has_word (step ∷ []) forgets is = (action_word step, refl)
has_word (first ∷ second ∷ others) forgets is = (codes "replace", refl)

has_none : (steps : List StepKind) (forgets : Bool) → is_planned steps forgets ≡ false → planned_word steps forgets ≡ None
has_none [] true is = absurd cc
has_none [] false is = refl
has_none (step ∷ []) forgets is = absurd cc
has_none (first ∷ second ∷ others) forgets is = absurd cc

module _ (start : ℕ) (change : ResourceChange) where
  line_by : ChangeDetails → Option (List ℕ) → List ℕ
  line_by details word = option_map_or (λ word. message_line start (planned_message change word details)) word []

  has_line : (located : Option ChangeDetails) → option_map_or (λ (d : ChangeDetails). is_planned change.steps d.forgets) located false ≡ true
      → IsPlannedChangeLine start change (option_map_or (planned_text start change) located [])
  has_line None is = absurd cc
  has_line (Some details) is =
      let word = has_word change.steps details.forgets is in
      let message = planned_message change word.0 details in
      let line : planned_text start change details ≡ message_line start message =
      ap (λ (o : Option (List ℕ)). option_map_or (λ word. message_line start (planned_message change word details)) o []) word.1 in
      record {
        message = message;
        word = word.0;
        line_is = line;
        type_is = refl;
        text_is = refl;
        one_line_feed = ap line_feeds line ∙ feeds_in_line (message_object message.level message.text (precise_timestamp_text start) (typed message.name message.body message.type_name));
      }

  untold : (located : Option ChangeDetails) → option_map_or (λ (d : ChangeDetails). is_planned change.steps d.forgets) located false ≡ false
      → option_map_or (planned_text start change) located [] ≡ []
  untold None is = refl
  untold (Some details) is = ap (λ (o : Option (List ℕ)). option_map_or (λ word. message_line start (planned_message change word details)) o []) (has_none change.steps details.forgets is)

-- ---- all changes

pub pieces : (plan : SavedPlan) (details : List ChangeDetails) (start : ℕ)
    → concat (terraform_head_chunks plan details start) ≡ version_text plan start ++ flat_map (planned_at start details) (planned_in details plan)
pieces plan details start =
    ap (λ (l : List ℕ). version_text plan start ++ l)
    (verbatim_pieces (is_planned_at details) (planned_at start details) (λ p is. untold start p.1 (slice_get details p.0) is) (enumerate_from 0 plan.changes))

pub each_told : (plan : SavedPlan) (details : List ChangeDetails) (start : ℕ)
    → AllByRecursion (λ (p : ℕ × ResourceChange). IsPlannedChangeLine start p.1 (planned_at start details p)) (planned_in details plan)
each_told plan details start =
    all_filtered (is_planned_at details) (λ (p : ℕ × ResourceChange). IsPlannedChangeLine start p.1 (planned_at start details p)) (λ p is. has_line start p.1 (slice_get details p.0) is) (enumerate_from 0 plan.changes)

feeds_read_back : (start : ℕ) (details : List ChangeDetails) (ps : List (ℕ × ResourceChange)) → AllByRecursion (λ (p : ℕ × ResourceChange). IsPlannedChangeLine start p.1 (planned_at start details p)) ps
    → line_feeds (flat_map (planned_at start details) ps) ≡ length ps
feeds_read_back start details [] all = refl
feeds_read_back start details (p ∷ ps) all =
    let both = feeds-append (planned_at start details p) (flat_map (planned_at start details) ps) in
    let here = all.0.one_line_feed in
    let rest = feeds_read_back start details ps all.1 in
    omega arith

pub lines : (plan : SavedPlan) (details : List ChangeDetails) (start : ℕ) → line_feeds (concat (terraform_head_chunks plan details start)) ≡ 1 + length (planned_in details plan)
lines plan details start =
    let both = feeds-append (version_text plan start) (flat_map (planned_at start details) (planned_in details plan)) in
    let first : line_feeds (version_text plan start) ≡ 1 = feeds_in_line (message_object (codes "info") (codes "Terraform " ++ plan.version) (precise_timestamp_text start) (version_members plan.version)) in
    let rest = feeds_read_back start details (planned_in details plan) (each_told plan details start) in
    ap line_feeds (pieces plan details start) ∙ (let all : line_feeds (version_text plan start ++ flat_map (planned_at start details) (planned_in details plan)) ≡ 1 + length (planned_in details plan) = omega arith in all)
