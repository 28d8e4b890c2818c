-- The prefixes of halts, one more halt at a time.
use Rattle.std.proofs.Common.{◌≡◌, ◌++◌, ◌+◌, ◌<◌, ℕ, List, [], ◌∷◌, Bool, true, false, cond, ◌||◌, ◌&&◌, if◌then◌else◌, not, length, get_or, take, refl, sym, ap, ◌∙◌, append-nil}
use Rattle.std.specs.List.{filter, filter_map, list_any}
use Rattle.std.specs.Str.{bytes_eq}
use Rattle.std.proofs.lemmas.List.{take_more}
use Rattle.std.proofs.lemmas.List.Elements.{filter-append, filter_map-append}
use Rattle.std.proofs.lemmas.Slice.Eq.{bytes_eq-Decides}
use Rattle.clap.specs.Walk.{Text}
use Rattle.apply_model.specs.declared.plan.step_kind.StepKind.{StepKind}
use Rattle.apply_cli_args.specs.declared.halt.Halt.{Halt}
use Rattle.apply_cli_args.specs.declared.halt.Halt.TheVariants.{Before, Inside}
use Rattle.apply_cli.specs.Unmatched.{distinct, prefix_of, with_new}

-- ---- distinct texts

any_cond : (f : Text → Bool) (b : Bool) (x : Text) (xs : List Text) → list_any f (cond b (x ∷ xs) xs) ≡ ((b && f x) || list_any f xs)
any_cond f true x xs = refl
any_cond f false x xs = refl

either : (passes same rest : Bool) → (same ≡ true → passes ≡ true) → ((passes && same) || rest) ≡ (same || rest)
either true same rest h = refl
either false true rest h = let no = h refl in absurd cc
either false false rest h = refl

-- a text that passes the test is among those that pass if and only if it is among all
among_filtered : (p : Text → Bool) (text : Text) → p text ≡ true → (texts : List Text)
    → list_any (λ other. bytes_eq other text) (filter p texts) ≡ list_any (λ other. bytes_eq other text) texts
among_filtered p text passes [] = refl
among_filtered p text passes (x ∷ xs) =
    any_cond (λ other. bytes_eq other text) (p x) x (filter p xs)
    ∙ either (p x) (bytes_eq x text) (list_any (λ other. bytes_eq other text) (filter p xs)) (λ same. ap p ((bytes_eq-Decides x text).0 same) ∙ passes)
    ∙ ap (λ rest. bytes_eq x text || rest) (among_filtered p text passes xs)

-- one more text, by whether it is the first text, and whether it is among the others
one_more : (x text : Text) (rest : List Text) (same among among' : Bool) → (same ≡ false → among' ≡ among)
    → ◌≡◌ {A = List Text} (x ∷ (if among then rest else rest ++ cond (not same) (text ∷ []) [])) (if same || among' then x ∷ rest else (x ∷ rest) ++ text ∷ [])
one_more x text rest true true among' h = refl
one_more x text rest true false among' h = ap (λ xs. x ∷ xs) (append-nil rest)
one_more x text rest false true among' h = let is = h refl in rw is refl
one_more x text rest false false among' h = let is = h refl in rw is refl

filtered : (p : Text → Bool) (among : Bool) (xs : List Text) (text : Text) → filter p (if among then xs else xs ++ text ∷ []) ≡ (if among then filter p xs else filter p xs ++ cond (p text) (text ∷ []) [])
filtered p true xs text = refl
filtered p false xs text = filter-append p xs (text ∷ [])

pub distinct_more : (texts : List Text) (text : Text) → distinct (texts ++ text ∷ []) ≡ with_new (distinct texts) text
distinct_more [] text = refl
distinct_more (x ∷ xs) text =
    let others = distinct xs in
    let apart : Text → Bool = λ other. not (bytes_eq x other) in
    let among : List Text → Bool = λ texts. list_any (λ other. bytes_eq other text) texts in
    ap (λ texts. x ∷ filter apart texts) (distinct_more xs text)
    ∙ ap (λ texts. x ∷ texts) (filtered apart (among others) others text)
    ∙ one_more x text (filter apart others) (bytes_eq x text) (among others) (among (filter apart others))
    (λ differs. among_filtered apart text (ap not differs) others)

-- ---- the prefixes of one more halt

with_halt : (halts : List Halt) (i : ℕ) (halt : Halt) → i < length halts → halt ≡ get_or halts i halt
    → filter_map prefix_of (take (i + 1) halts) ≡ filter_map prefix_of (take i halts) ++ filter_map prefix_of (halt ∷ [])
with_halt halts i halt within is =
    ap (λ some. filter_map prefix_of some) (take_more halts i halt within)
    ∙ filter_map-append prefix_of (take i halts) (get_or halts i halt ∷ [])
    ∙ ap (λ (one : Halt). filter_map prefix_of (take i halts) ++ filter_map prefix_of (one ∷ [])) (sym is)

pub inside_more : (halts : List Halt) (i : ℕ) (halt : Halt) (prefix : Text) → i < length halts → halt ≡ get_or halts i halt → halt ≡ Inside prefix
    → distinct (filter_map prefix_of (take (i + 1) halts)) ≡ with_new (distinct (filter_map prefix_of (take i halts))) prefix
inside_more halts i halt prefix within is inside =
    let before = filter_map prefix_of (take i halts) in
    ap distinct (with_halt halts i halt within is ∙ ap (λ (one : Halt). before ++ filter_map prefix_of (one ∷ [])) inside)
    ∙ distinct_more before prefix

pub before_more : (halts : List Halt) (i : ℕ) (halt : Halt) (kind : StepKind) → i < length halts → halt ≡ get_or halts i halt → halt ≡ Before kind
    → distinct (filter_map prefix_of (take (i + 1) halts)) ≡ distinct (filter_map prefix_of (take i halts))
before_more halts i halt kind within is before =
    let earlier = filter_map prefix_of (take i halts) in
    ap distinct (with_halt halts i halt within is ∙ ap (λ (one : Halt). earlier ++ filter_map prefix_of (one ∷ [])) before ∙ append-nil earlier)
