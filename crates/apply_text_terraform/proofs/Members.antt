-- The tokens of members that may be left out.
use Rattle.std.proofs.Common.{◌≡◌, ℕ, List, [], ◌∷◌, ◌++◌, codes, Option, None, Some, refl, ap, ◌∙◌}
use Rattle.json.specs.Token.{begin_object, end_object, key}
use Rattle.json.specs.Tree.{members_tokens}
use Rattle.serde_json.specs.Data.{Members, no_members}
use Rattle.serde_json.specs.Written.{members_outline}
use Rattle.apply_model.specs.declared.details.importing.Importing.{Importing}
use Rattle.apply_model.specs.declared.details.previous_resource.PreviousResource.{PreviousResource}
use Rattle.apply_text_terraform.specs.Objects.{importing_member, previous_member, text_if}
use Rattle.apply_text_terraform.specs.Sending.{importing_tokens, previous_tokens, text_tokens}

pub text_first : (name : List ℕ) (text : Option (List ℕ)) (others : Members) → text_tokens name text ++ members_tokens (members_outline others) ≡ members_tokens (members_outline (text_if name text others))
text_first name None others = refl
text_first name (Some text) others = refl

pub previous_first : (previous : Option PreviousResource) (others : Members) → previous_tokens previous ++ members_tokens (members_outline others) ≡ members_tokens (members_outline (previous_member previous others))
previous_first None others = refl
previous_first (Some previous) others = refl

pub importing_first : (importing : Option Importing) (others : Members) → importing_tokens importing ++ members_tokens (members_outline others) ≡ members_tokens (members_outline (importing_member importing others))
importing_first None others = refl
importing_first (Some importing) others =
    ap (λ tokens. key (codes "importing") ∷ begin_object ∷ (tokens ++ members_tokens (members_outline others))) (text_first (codes "id") importing.id no_members)

-- the text after the action of a planned change
pub details_first : (reason : Option (List ℕ)) (importing : Option Importing) (config : Option (List ℕ))
    → text_tokens (codes "reason") reason ++ (importing_tokens importing ++ (text_tokens (codes "generated_config") config ++ end_object ∷ []))
    ≡ members_tokens (members_outline (text_if (codes "reason") reason (importing_member importing (text_if (codes "generated_config") config no_members))))
details_first reason importing config =
    let last = text_if (codes "generated_config") config no_members in
    ap (λ tokens. text_tokens (codes "reason") reason ++ tokens)
    (ap (λ tokens. importing_tokens importing ++ tokens) (text_first (codes "generated_config") config no_members) ∙ importing_first importing last)
    ∙ text_first (codes "reason") reason (importing_member importing last)
