use Rattle.std.proofs.Common.{◌≡◌, [], sym, subst, ap, ◌∙◌, arith}
use Rattle.json.specs.Json.{value}
use Rattle.json.specs.Reads.{token_of}
use Rattle.json.proofs.Grammar.{value_is}
use Rattle.serde_json.specs.Read.{converted, of_json}
use Rattle.apply_json.specs.Tokens.{StartsValue, IsNoValue}
use Rattle.apply_json.specs.declared.read_fault.ReadFault.TheVariants.{NotJson}
use Rattle.apply_json.proofs.Copied.{moved}
use Rattle.apply_json.proofs.FirstToken.{first_token, shorter}
use Rattle.apply_json.proofs.verbatim.copy_beginning.Goals as goal

pub returns-in_err-token-clause-err : goal.returns-in_err-token-clause-err
returns-in_err-token-clause-err c =
    let empty : c.args.reader.now ≡ [] = grind arith in
    λ refused. ap (converted of_json) (ap (value c.args.depth) empty ∙ value_is c.args.depth [])

pub returns-in_err-value_start-clause-err : goal.returns-in_err-value_start-clause-err
returns-in_err-value_start-clause-err c =
    let first = first_token c.next.result c.in_ok-token.token NotJson c.args.reader.now c.next.new.self c.in_ok-token.ensures.value c.next.ensures.value in
    λ refused. subst (IsNoValue c.args.depth) (sym first) (c.in_err-value_start.ensures.err c.next.new.self)

pub returns-clause-ok : goal.returns-clause-ok
returns-clause-ok c =
    let first = first_token c.next.result c.in_ok-token.token NotJson c.args.reader.now c.next.new.self c.in_ok-token.ensures.value c.next.ensures.value in
    subst (λ us. StartsValue c.in_ok-value_start.value_start c.args.depth us c.next.new.self) (sym first) (c.in_ok-value_start.ensures.ok c.next.new.self).0

pub returns-clause-copied : goal.returns-clause-copied
returns-clause-copied c =
    let first = first_token c.next.result c.in_ok-token.token NotJson c.args.reader.now c.next.new.self c.in_ok-token.ensures.value c.next.ensures.value in
    (moved c.args.out.now.tokens c.token.new.self.tokens c.args.reader.now c.next.new.self (token_of c.in_ok-token.token) c.in_ok-token-2.ensures.ok first, c.token.ensures.room.0)

pub returns-clause-shorter : goal.returns-clause-shorter
returns-clause-shorter c =
    let first = first_token c.next.result c.in_ok-token.token NotJson c.args.reader.now c.next.new.self c.in_ok-token.ensures.value c.next.ensures.value in
    shorter c.args.reader.now c.next.new.self (token_of c.in_ok-token.token) first
