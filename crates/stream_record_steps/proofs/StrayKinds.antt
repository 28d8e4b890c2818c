-- The kinds of strays in a map, after one stray more.
use Rattle.std.proofs.Common.{◌≡◌, ◌∙◌, ℕ, List, [], ◌∷◌, ◌++◌, Option, Some, Bool, true, false, cond, ⊎_elim, ap, refl, sym}
use Rattle.std.specs.Prelude.{◌&&◌, ◌||◌, unwrap_or}
use Rattle.std.specs.List.{list_any}
use Rattle.std.specs.Str.{bytes_eq}
use Rattle.std.proofs.lemmas.Bool.{cases_Bool, true≢false}
use Rattle.std.proofs.lemmas.List.Folds.{list_any-append}
use Rattle.std.proofs.lemmas.Slice.Eq.{bytes_eq-Decides}
use Rattle.apply_model.specs.declared.plan.step_kind.StepKind.{StepKind}
use Rattle.apply_model.specs.declared.plan.step_kind.StepKind.TheVariants.{Create, Update, Delete, Read}
use Rattle.apply_model.specs.Plan.StepKind.{is_kind}
use Rattle.stream_record_steps.specs.declared.kinds.Kinds.{Kinds}
use Rattle.stream_record_steps.specs.declared.strays.Stray.{Stray}
use Rattle.stream_record_steps.specs.StrayKinds.{has_kind, no_kinds, with_kind}
use Rattle.stream_record_steps.specs.Strays.{has_stray}

same_either_way : (a b : List ℕ) → bytes_eq a b ≡ bytes_eq b a
same_either_way a b = ⊎_elim
    (λ (yes : bytes_eq a b ≡ true). yes ∙ sym ((bytes_eq-Decides b a).1 (sym ((bytes_eq-Decides a b).0 yes))))
    (λ (differs : bytes_eq a b ≡ false). ⊎_elim
    (λ (yes : bytes_eq b a ≡ true). absurd (true≢false (sym ((bytes_eq-Decides a b).1 (sym ((bytes_eq-Decides b a).0 yes))) ∙ differs)))
    (λ (also : bytes_eq b a ≡ false). differs ∙ sym also) (cases_Bool (bytes_eq b a)))
    (cases_Bool (bytes_eq a b))

has_more : (kinds : Kinds) (more kind : StepKind) → has_kind (with_kind more kinds) kind ≡ (is_kind kind more || has_kind kinds kind)
has_more kinds more Create = refl
has_more kinds more Update = refl
has_more kinds more Delete = refl
has_more kinds more Read = refl

either_way : (a b : Bool) → (a || b) ≡ (b || (a && true || false))
either_way true true = refl
either_way true false = refl
either_way false true = refl
either_way false false = refl

neither : (a b : Bool) → b ≡ (b || (a && false || false))
neither true true = refl
neither true false = refl
neither false true = refl
neither false false = refl

-- at the address of the stray, and at any other
at_any : (b : Bool) (old here : Kinds) (more kind : StepKind) (had : Bool) → (b ≡ true → here ≡ old) → has_kind old kind ≡ had
    → has_kind (cond b (with_kind more here) old) kind ≡ (had || (is_kind kind more && b || false))
at_any true old here more kind had same was =
    has_more here more kind
    ∙ ap (λ (kinds : Kinds). is_kind kind more || has_kind kinds kind) (same refl)
    ∙ ap (λ (b : Bool). is_kind kind more || b) was
    ∙ either_way (is_kind kind more) had
at_any false old here more kind had same was = was ∙ neither (is_kind kind more) had

unwrapped : (b : Bool) (kinds : Kinds) (old : Option Kinds) → unwrap_or (cond b (Some kinds) old) no_kinds ≡ cond b kinds (unwrap_or old no_kinds)
unwrapped true kinds old = refl
unwrapped false kinds old = refl

-- what the map has at an address, before and after a change at the address of a stray
pub kinds_more : (strays after : List Stray) (stray : Stray) (address : List ℕ) (kind : StepKind) (before now : List ℕ → Option Kinds) (here : Kinds)
    → has_kind (unwrap_or (before address) no_kinds) kind ≡ has_stray strays kind address
    → here ≡ unwrap_or (before stray.address) no_kinds
    → now address ≡ cond (bytes_eq stray.address address) (Some (with_kind stray.kind here)) (before address)
    → after ≡ strays ++ stray ∷ []
    → has_kind (unwrap_or (now address) no_kinds) kind ≡ has_stray after kind address
kinds_more strays after stray address kind before now here was is changed pushed =
    ap (λ (o : Option Kinds). has_kind (unwrap_or o no_kinds) kind) changed
    ∙ ap (λ (kinds : Kinds). has_kind kinds kind) (unwrapped (bytes_eq stray.address address) (with_kind stray.kind here) (before address))
    ∙ at_any (bytes_eq stray.address address) (unwrap_or (before address) no_kinds) here stray.kind kind (has_stray strays kind address)
    (λ yes. is ∙ ap (λ (text : List ℕ). unwrap_or (before text) no_kinds) ((bytes_eq-Decides stray.address address).0 yes)) was
    ∙ ap (λ (b : Bool). has_stray strays kind address || (is_kind kind stray.kind && b || false)) (same_either_way stray.address address)
    ∙ sym (list_any-append (λ stray. is_kind kind stray.kind && bytes_eq address stray.address) strays (stray ∷ []))
    ∙ ap (λ (list : List Stray). has_stray list kind address) (sym pushed)
