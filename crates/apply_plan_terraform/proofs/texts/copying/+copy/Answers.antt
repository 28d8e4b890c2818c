use Rattle.std.proofs.Common.{◌≡◌, ◌<◌, ◌-◌, ◌++◌, ◌∷◌, [], length, None, Some, refl, sym, ap, ◌∙◌, arith}
use Rattle.json.specs.Token.{Token}
use Rattle.json.specs.Json.{array, object, item, member, no_items, no_members, after_end_array, parse_map, items, members, value}
use Rattle.json.specs.Reads.{token_of}
use Rattle.json.specs.Tree.{json_tokens, items_tokens, members_tokens}
use Rattle.json.proofs.Grammar.{items_end, items_fail, items_more, members_end, members_fail, members_more, members_no_key, read_key-shorter}
use Rattle.apply_json.proofs.Turns.{key_named}
use Rattle.apply_plan_terraform.proofs.Copying.{array_is, array_too_deep, after, fused, if_ok, no_value, nothing_left, object_is, object_too_deep, one_token, unchanged}
use Rattle.apply_plan_terraform.proofs.texts.copying.+copy.Goals as goal

pub copy-returns-in_err-token-clause-err : goal.copy-returns-in_err-token-clause-err
copy-returns-in_err-token-clause-err t c =
    let empty : c.args.reader.now ≡ [] = grind arith in
    λ refused. nothing_left c.args.depth [] c.args.reader.now empty

pub copy_from-returns-then-depth-eq0-clause-err : goal.copy_from-returns-then-depth-eq0-clause-err
copy_from-returns-then-depth-eq0-clause-err t c = λ refused. array_too_deep c.args.depth c.args.reader.now c.args.token c.in-BeginArray.is c.if-depth-eq0.true

pub copy_from-returns-then-depth-eq0-2-clause-err : goal.copy_from-returns-then-depth-eq0-2-clause-err
copy_from-returns-then-depth-eq0-2-clause-err t c = λ refused. object_too_deep c.args.depth c.args.reader.now c.args.token c.in-BeginObject.is c.if-depth-eq0-2.true

pub copy_from-returns-in_ok-token-in-String-clause-ok : goal.copy_from-returns-in_ok-token-in-String-clause-ok
copy_from-returns-in_ok-token-in-String-clause-ok t c =
    let one = one_token c.args.depth c.args.reader.now c.args.token c.in-String.is in
    let grown : c.token.new.self.tokens ≡ c.args.out.now.tokens ++ token_of c.args.token ∷ [] = grind arith in
    (one.0, one.1, grown ∙ ap (λ ts. c.args.out.now.tokens ++ ts) (sym one.2))

pub copy_from-returns-in-EndObject-clause-err : goal.copy_from-returns-in-EndObject-clause-err
copy_from-returns-in-EndObject-clause-err t c = λ refused. no_value c.args.depth c.args.reader.now c.args.token c.in-EndObject.is

pub copy_from-returns-in_ok-begin_array-in-BeginArray-clause-ok : goal.copy_from-returns-in_ok-begin_array-in-BeginArray-clause-ok
copy_from-returns-in_ok-begin_array-in-BeginArray-clause-ok t c =
    let old = c.args.out.now.tokens in
    let grown : c.begin_array.new.self.tokens ≡ old ++ Token.begin_array ∷ [] = grind arith in
    if_ok c.copy_items.result
    (λ f. (
      array f.0,
      array_is c.args.depth c.args.reader.now c.args.token _ c.in-BeginArray.is (omega arith) f.1,
      f.2 ∙ sym (after old c.begin_array.new.self.tokens (Token.begin_array ∷ []) (items_tokens f.0) _ grown refl),
    ))
    c.copy_items.ensures.ok

pub copy_from-returns-in_ok-begin_array-in-BeginArray-clause-err : goal.copy_from-returns-in_ok-begin_array-in-BeginArray-clause-err
copy_from-returns-in_ok-begin_array-in-BeginArray-clause-err t c =
    λ refused. array_is c.args.depth c.args.reader.now c.args.token None c.in-BeginArray.is (omega arith) (c.copy_items.ensures.err refused)

pub copy_from-returns-in_ok-begin_object-in-BeginObject-clause-ok : goal.copy_from-returns-in_ok-begin_object-in-BeginObject-clause-ok
copy_from-returns-in_ok-begin_object-in-BeginObject-clause-ok t c =
    let old = c.args.out.now.tokens in
    let grown : c.begin_object.new.self.tokens ≡ old ++ Token.begin_object ∷ [] = grind arith in
    if_ok c.copy_members.result
    (λ f. (
      object f.0,
      object_is c.args.depth c.args.reader.now c.args.token _ c.in-BeginObject.is (omega arith) f.1,
      f.2 ∙ sym (after old c.begin_object.new.self.tokens (Token.begin_object ∷ []) (members_tokens f.0) _ grown refl),
    ))
    c.copy_members.ensures.ok

pub copy_from-returns-in_ok-begin_object-in-BeginObject-clause-err : goal.copy_from-returns-in_ok-begin_object-in-BeginObject-clause-err
copy_from-returns-in_ok-begin_object-in-BeginObject-clause-err t c =
    λ refused. object_is c.args.depth c.args.reader.now c.args.token None c.in-BeginObject.is (omega arith) (c.copy_members.ensures.err refused)

pub copy_items-items-init : goal.copy_items-items-init
copy_items-items-init t c = (length c.args.reader.now, omega arith, (λ js. js), unchanged _, (λ js. refl), refl, omega arith)

pub copy_items-items-preserved : goal.copy_items-items-preserved
copy_items-items-preserved t c =
    let p = value c.args.depth in
    let l = c.items in
    let n = l.invariant.0 in
    let front = l.invariant.2 in
    let going : (after_end_array l.reader ≡ None) × (c.take_end_array.new.self ≡ l.reader) = c.items-test.ensures in
    let done = c.in_ok-copy.ensures in
    let j = done.ok.0 in
    let r = c.copy.new.reader in
    let less : length r < length l.reader = rw (← going.1) done.shorter in
    let read : p l.reader ≡ Some (j, r) = rw (← going.1) done.ok.1 in
    let turn = l.invariant.3 ∙ ap (parse_map front) (items_more p n l.reader r j (omega (arith, l.invariant.1)) going.0 read) ∙ fused front (item j) _ in (
      n - 1,
      omega (arith, l.invariant.1),
      (λ js. front (item j js)),
      turn,
      (λ js. l.invariant.4 (item j js) ∙ after l.out.tokens c.copy.new.out.tokens (json_tokens j) (items_tokens js) _ done.ok.2 refl),
      done.before ∙ l.invariant.5,
      omega (arith, l.invariant.6),
    )

pub copy_items-returns-in_err-copy-clause-err : goal.copy_items-returns-in_err-copy-clause-err
copy_items-returns-in_err-copy-clause-err t c =
    let p = value c.args.depth in
    let l = c.items in
    let going : (after_end_array l.reader ≡ None) × (c.take_end_array.new.self ≡ l.reader) = c.items-test.ensures in
    λ refused.
    let none : p l.reader ≡ None = rw (← going.1) (c.copy.ensures.err (grind arith)) in
    l.invariant.3 ∙ ap (parse_map l.invariant.2) (items_fail p l.invariant.0 l.reader going.0 none)

pub copy_items-returns-clause-ok : goal.copy_items-returns-clause-ok
copy_items-returns-clause-ok t c =
    let p = value c.args.depth in
    let l = c.items in
    let r = c.take_end_array.new.self in
    let grown : c.end_array.new.self.tokens ≡ l.out.tokens ++ Token.end_array ∷ [] = grind arith in (
      l.invariant.2 no_items,
      l.invariant.3 ∙ ap (parse_map l.invariant.2) (items_end p l.invariant.0 l.reader r l.invariant.1 c.items-test.ensures),
      grown ∙ sym (l.invariant.4 no_items),
    )

pub copy_members-members-init : goal.copy_members-members-init
copy_members-members-init t c = (length c.args.reader.now, omega arith, (λ ms. ms), unchanged _, (λ ms. refl), refl, omega arith)

pub copy_members-returns-in_err-name-clause-err : goal.copy_members-returns-in_err-name-clause-err
copy_members-returns-in_err-name-clause-err t c =
    let l = c.members in
    λ refused. l.invariant.3 ∙ ap (parse_map l.invariant.2) (members_no_key (value c.args.depth) l.invariant.0 l.reader c.in_err-name.ensures.value)

pub copy_members-members-preserved : goal.copy_members-members-preserved
copy_members-members-preserved t c =
    let p = value c.args.depth in
    let l = c.members in
    let n = l.invariant.0 in
    let front = l.invariant.2 in
    let k = c.in-Some.name.now in
    let s = c.next_key.new.self in
    let named = key_named l.reader s c.in_ok-name.field-0 c.in-Some.name c.in_ok-name.ensures.value c.in-Some.is in
    let done = c.in_ok-copy.ensures in
    let j = done.ok.0 in
    let r = c.copy.new.reader in
    let less = read_key-shorter l.reader (Some k) s named in
    let lesser = done.shorter in
    let turn = l.invariant.3 ∙ ap (parse_map front) (members_more p n k l.reader s r j (omega (arith, l.invariant.1)) named done.ok.1) ∙ fused front (member k j) _ in
    let keyed : c.key.new.self.tokens ≡ l.out.tokens ++ Token.key k ∷ [] = grind arith in (
      n - 1,
      omega (arith, l.invariant.1),
      (λ ms. front (member k j ms)),
      turn,
      (λ ms. l.invariant.4 (member k j ms)
          ∙ after l.out.tokens c.key.new.self.tokens (Token.key k ∷ []) (json_tokens j ++ members_tokens ms) _ keyed refl
          ∙ after c.key.new.self.tokens c.copy.new.out.tokens (json_tokens j) (members_tokens ms) _ done.ok.2 refl),
      done.before ∙ c.key.ensures.room.0 ∙ l.invariant.5,
      omega (arith, l.invariant.6),
    )

pub copy_members-returns-in_err-copy-clause-err : goal.copy_members-returns-in_err-copy-clause-err
copy_members-returns-in_err-copy-clause-err t c =
    let p = value c.args.depth in
    let l = c.members in
    let k = c.in-Some.name.now in
    let s = c.next_key.new.self in
    let named = key_named l.reader s c.in_ok-name.field-0 c.in-Some.name c.in_ok-name.ensures.value c.in-Some.is in
    λ refused. l.invariant.3 ∙ ap (parse_map l.invariant.2) (members_fail p l.invariant.0 k l.reader s named (c.copy.ensures.err (grind arith)))

pub copy_members-returns-clause-ok : goal.copy_members-returns-clause-ok
copy_members-returns-clause-ok t c =
    let p = value c.args.depth in
    let l = c.members in
    let over : Rattle.json.specs.Json.read_key l.reader ≡ Some (None, c.next_key.new.self) = grind arith in
    let grown : c.end_object.new.self.tokens ≡ l.out.tokens ++ Token.end_object ∷ [] = grind arith in (
      l.invariant.2 no_members,
      l.invariant.3 ∙ ap (parse_map l.invariant.2) (members_end p l.invariant.0 l.reader c.next_key.new.self l.invariant.1 over),
      grown ∙ sym (l.invariant.4 no_members),
    )
