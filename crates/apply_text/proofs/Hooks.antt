-- The tokens of a hook, whose members may be left out.
use Rattle.std.proofs.Common.{◌≡◌, ℕ, List, ◌++◌, Option, None, Some, refl, ap, ◌∙◌}
use Rattle.json.specs.Tree.{members_tokens}
use Rattle.serde_json.specs.Data.{Members}
use Rattle.serde_json.specs.Written.{members_outline}
use Rattle.apply_text.specs.Objects.{elapsed_member, id_members, output_member}
use Rattle.apply_text.specs.Sending.{elapsed_tokens, id_tokens, output_tokens}

pub elapsed_first : (elapsed : Option ℕ) (others : Members) → elapsed_tokens elapsed ++ members_tokens (members_outline others) ≡ members_tokens (members_outline (elapsed_member elapsed others))
elapsed_first None others = refl
elapsed_first (Some seconds) others = refl

pub id_first : (id : Option (List ℕ)) (others : Members) → id_tokens id ++ members_tokens (members_outline others) ≡ members_tokens (members_outline (id_members id others))
id_first None others = refl
id_first (Some id) others = refl

pub members_first : (elapsed : Option ℕ) (id : Option (List ℕ)) (others : Members) → elapsed_tokens elapsed ++ (id_tokens id ++ members_tokens (members_outline others)) ≡ members_tokens (members_outline (elapsed_member elapsed (id_members id others)))
members_first elapsed id others = ap (λ tokens. elapsed_tokens elapsed ++ tokens) (id_first id others) ∙ elapsed_first elapsed (id_members id others)

pub output_first : (output : Option (List ℕ)) (others : Members) → output_tokens output ++ members_tokens (members_outline others) ≡ members_tokens (members_outline (output_member output others))
output_first None others = refl
output_first (Some output) others = refl
