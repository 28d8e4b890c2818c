use Rattle.std.proofs.Common.{◌≡◌, ◌++◌, [], string_bytes, ap, ◌∙◌}
use Rattle.std.specs.String.{string_vec}
use Rattle.json.specs.Print.{print}
use Rattle.apply_json.proofs.Copied.{own_text_is}
use Rattle.apply_json.proofs.verbatim.read_verbatim.Goals as goal

pub returns-clause-ok : goal.returns-clause-ok
returns-clause-ok c =
    let done = c.in_ok-copy.ensures in
    let ts = c.args.reader.now in
    let rest = c.copy.new.reader in
    let copied = c.copy.new.out.tokens in
    let all : copied ++ rest ≡ ts = done.copied.0 ∙ ap (λ us. us ++ ts) c.new-out.ensures.tokens in
    let nothing : c.copy.new.out.before ≡ [] = done.copied.1 ∙ c.new-out.ensures.before ∙ c.new.ensures.items in
    let vec : string_vec c.unwrap.result ≡ c.into_inner.result = rw c.unwrap.ensures at c.from_utf8.ensures.ok in
    let text : string_bytes c.unwrap.result ≡ print copied = ap (λ v. v.items) vec ∙ c.into_inner.ensures.items ∙ ap (λ bs. bs ++ print copied) nothing in
    own_text_is c.args.depth ts rest copied done.tree.0 (string_bytes c.unwrap.result) done.tree.1 all text
