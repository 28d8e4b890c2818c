-- No line feed is in the text of a value, with its escapes or without.
use Rattle.std.proofs.Common.{◌≡◌, ℕ, ◌+◌, ◌==◌, List, [], ◌∷◌, ◌++◌, codes, cond, drop, Bool, true, false, refl, ap, ◌∙◌, arith}
use Rattle.std.specs.Prelude.{◌&&◌}
use Rattle.std.proofs.lemmas.List.Sums.{sum_by-append}
use Rattle.json.specs.Json.{Json, null, boolean, number, string, array, object, Items, no_items, item, Members, no_members, member}
use Rattle.json.specs.Print.{quoted}
use Rattle.json.specs.Tree.{HasNumbers, ItemsHaveNumbers, MembersHaveNumbers}
use Rattle.serde_json.specs.Data as tree
use Rattle.serde_json.specs.Written.{comma_if, compact_text}
use Rattle.apply_json.specs.Verbatim.{verbatim}
use Rattle.apply_text.specs.Laws.{line_feeds}
use Rattle.apply_text.proofs.Feeds.{in_line}
use Rattle.apply_text_terraform.specs.Escapes.{begins_with, escaped}
use Rattle.laws_check.proofs.JsonTexts.{items_text, json_text, members_text, own_is}
use Rattle.laws_check.proofs.PlainNumbers.{number_feeds}

both_feeds : (xs ys : List ℕ) → line_feeds (xs ++ ys) ≡ line_feeds xs + line_feeds ys
both_feeds xs ys = sum_by-append (λ byte. cond (byte == 10) 1 0) xs ys

none_in_both : (xs ys : List ℕ) → line_feeds xs ≡ 0 → line_feeds ys ≡ 0 → line_feeds (xs ++ ys) ≡ 0
none_in_both xs ys first second = omega (arith, both_feeds xs ys, first, second)

in_quoted : (s : List ℕ) → line_feeds (quoted s) ≡ 0
in_quoted s = let last : line_feeds (10 ∷ []) ≡ 1 = refl in omega (arith, in_line (tree.string s), both_feeds (quoted s) (10 ∷ []))

pub plain_feeds : (d : tree.Data) → line_feeds (compact_text d) ≡ 0
plain_feeds d = let last : line_feeds (10 ∷ []) ≡ 1 = refl in omega (arith, in_line d, both_feeds (compact_text d) (10 ∷ []))

in_comma : (later : Bool) → line_feeds (comma_if later) ≡ 0
in_comma true = refl
in_comma false = refl

mutual
  in_json : (j : Json) → HasNumbers j → line_feeds (json_text j) ≡ 0
  in_json null h = refl
  in_json (boolean true) h = refl
  in_json (boolean false) h = refl
  in_json (number s) h = number_feeds s h
  in_json (string s) h = in_quoted s
  in_json (array js) h = none_in_both (91 ∷ []) (items_text false js) refl (in_items false js h)
  in_json (object ms) h = none_in_both (123 ∷ []) (members_text false ms) refl (in_members false ms h)

  in_items : (later : Bool) (js : Items) → ItemsHaveNumbers js → line_feeds (items_text later js) ≡ 0
  in_items later no_items h = refl
  in_items later (item j js) h =
      none_in_both (comma_if later) (json_text j ++ items_text true js) (in_comma later) (none_in_both (json_text j) (items_text true js) (in_json j h.0) (in_items true js h.1))

  in_members : (later : Bool) (ms : Members) → MembersHaveNumbers ms → line_feeds (members_text later ms) ≡ 0
  in_members later no_members h = refl
  in_members later (member k j ms) h =
      none_in_both (comma_if later) (quoted k ++ 58 ∷ (json_text j ++ members_text true ms)) (in_comma later)
      (none_in_both (quoted k) (58 ∷ (json_text j ++ members_text true ms)) (in_quoted k)
      (none_in_both (58 ∷ []) (json_text j ++ members_text true ms) refl (none_in_both (json_text j) (members_text true ms) (in_json j h.0) (in_members true ms h.1))))

pub own_feeds : (j : Json) → HasNumbers j → line_feeds (verbatim j) ≡ 0
own_feeds j h = ap line_feeds (own_is j) ∙ in_json j h

-- ---- escapes

after_two : (text : List ℕ) → line_feeds text ≡ 0 → line_feeds (drop 2 text) ≡ 0
after_two [] none = refl
after_two (a ∷ []) none = refl
after_two (a ∷ b ∷ text) none = let rest : line_feeds text ≡ 0 = omega (arith, both_feeds (a ∷ b ∷ []) text, none) in rest

pub escaped_feeds : (text : List ℕ) → line_feeds text ≡ 0 → line_feeds (escaped text) ≡ 0
escaped_feeds [] none = refl
escaped_feeds (byte ∷ bytes) none =
    of_tests (byte == 60) (byte == 62) (byte == 38) ((byte == 226) && begins_with 128 168 (escaped bytes)) ((byte == 226) && begins_with 128 169 (escaped bytes))
    (omega (arith, both_feeds (byte ∷ []) bytes, none)) (escaped_feeds bytes (omega (arith, both_feeds (byte ∷ []) bytes, none)))
  where
    of_tests : (a b c d e : Bool) → line_feeds (byte ∷ []) ≡ 0 → line_feeds (escaped bytes) ≡ 0
        → line_feeds (cond a (codes "\\u003c" ++ escaped bytes) (cond b (codes "\\u003e" ++ escaped bytes) (cond c (codes "\\u0026" ++ escaped bytes) (cond d (codes "\\u2028" ++ drop 2 (escaped bytes)) (cond e (codes "\\u2029" ++ drop 2 (escaped bytes)) (byte ∷ escaped bytes)))))) ≡ 0
    of_tests true b c d e plain rest = rest
    of_tests false true c d e plain rest = rest
    of_tests false false true d e plain rest = rest
    of_tests false false false true e plain rest = after_two (escaped bytes) rest
    of_tests false false false false true plain rest = after_two (escaped bytes) rest
    of_tests false false false false false plain rest = none_in_both (byte ∷ []) (escaped bytes) plain rest
