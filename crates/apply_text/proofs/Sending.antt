-- Tokens that are appended one after another.
use Rattle.std.proofs.Common.{◌≡◌, ℕ, List, [], ◌∷◌, ◌++◌, Ok, ap, ◌∙◌, subst, append_assoc}
use Rattle.std.specs.Prelude.{Result}
use Rattle.std.proofs.lemmas.Result.{on_ok_weaker}
use Rattle.json.specs.Token.{Token}
use Rattle.json.specs.Written.{Written, Writes}
use Rattle.serde_json.specs.Data.{string}
use Rattle.apply_text.specs.Sending.{Sends, head_tokens, member_tokens}

-- equal tokens may replace each other
pub sends_same : {E : Type 0} {r : Result (Unit {0}) E} {old new : Written} {tokens wanted : List Token} → tokens ≡ wanted → Sends r old new tokens → Sends r old new wanted
sends_same {r = r} {old = old} {new = new} same h = subst (λ ts. Sends r old new ts) same h

-- appending one token
pub one : {E : Type 0} {r : Result (Unit {0}) E} {old new : Written} {t : Token} → Writes r old new t → Sends r old new (t ∷ [])
one h = record { ok = h.ok; before = h.room.0 }

-- appending some tokens, then others
pub then : {E : Type 0} {r : Result (Unit {0}) E} {old mid new : Written} (first rest : List Token) → Sends {E = E} (Ok tt) old mid first → Sends r mid new rest → Sends r old new (first ++ rest)
then {r = r} {old = old} first rest sent h = record {
  ok = on_ok_weaker r (λ e. e ∙ ap (λ tokens. tokens ++ rest) sent.ok ∙ append_assoc old.tokens first rest) h.ok;
  before = h.before ∙ sent.before;
}

-- appending one token, then others
pub then_one : {E : Type 0} {r : Result (Unit {0}) E} {old mid new : Written} (t : Token) (rest : List Token) → Writes {E = E} (Ok tt) old mid t → Sends r mid new rest → Sends r old new (t ∷ rest)
then_one t rest sent h = then (t ∷ []) rest (one sent) h

-- appending tokens that equal the expected ones, then others
pub then_sends_same : {E : Type 0} {r : Result (Unit {0}) E} {old mid new : Written} (first wanted rest : List Token) → first ≡ wanted → Sends {E = E} (Ok tt) old mid first → Sends r mid new rest → Sends r old new (wanted ++ rest)
then_sends_same first wanted rest same sent h = then wanted rest (sends_same same sent) h

-- appending a member with the expected text, then others
pub then_text : {E : Type 0} {r : Result (Unit {0}) E} {old mid new : Written} (name text wanted : List ℕ) (rest : List Token) → text ≡ wanted → Sends {E = E} (Ok tt) old mid (member_tokens name (string text)) → Sends r mid new rest → Sends r old new (member_tokens name (string wanted) ++ rest)
then_text name text wanted rest same sent h = then_sends_same _ _ rest (ap (λ t. member_tokens name (string t)) same) sent h

-- equal levels and texts give equal tokens
pub same_head : (level text timestamp level₂ text₂ : List ℕ) → level ≡ level₂ → text ≡ text₂ → head_tokens level text timestamp ≡ head_tokens level₂ text₂ timestamp
same_head level text timestamp level₂ text₂ levels texts = ap (λ l. head_tokens l text timestamp) levels ∙ ap (λ t. head_tokens level₂ t timestamp) texts
