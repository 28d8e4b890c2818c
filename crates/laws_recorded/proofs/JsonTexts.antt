-- What is read as JSON text is the text of a JSON value, which nests one level less than what it stands in.
use Rattle.std.proofs.Common.{◌≡◌, ℕ, suc, ◌≤◌, List, [], ◌∷◌, IsUtf8, append-nil, cond, Bool, true, false, Option, Some, None, refl, sym, ap, ◌∙◌, arith}
use Rattle.std.specs.Prelude.{IfSome, is_some, option_and_then, option_map}
use Rattle.json.specs.Token.{Token}
use Rattle.json.specs.Json as j
use Rattle.json.specs.Json.{Json, if_last, value}
use Rattle.json.specs.Lex.{tokens}
use Rattle.json.specs.Tree.{HasNumbers, MembersHaveNumbers, depth, json_tokens, members_depth}
use Rattle.json.proofs.Found.{one_reading}
use Rattle.json.proofs.Nesting.{value-depth}
use Rattle.json.proofs.Numbered.{ArePrintableOrBad-tokens, value-HasNumbers}
use Rattle.json.proofs.Printed.Tokens.{tokens-print}
use Rattle.json.proofs.Printed.Trees.{ArePrintable-json_tokens, value-json_tokens}
use Rattle.serde_json.specs.Data.{Data, number, string, array, object, Members, no_members, put}
use Rattle.serde_json.specs.Find.{as_object, as_str}
use Rattle.serde_json.specs.Read.{converted, max_depth, number_of, of_json}
use Rattle.apply_json.specs.Verbatim.{as_verbatim, mixed_items, mixed_members, mixed_tree, verbatim}
use Rattle.laws_record.specs.Writable.{IsJsonText}
use Rattle.laws_check.proofs.Given.{any_given, gone_on, mapped}
use Rattle.laws_check.proofs.Legible.{HaveClear, IsClear, text_clear, value_spelt}
use Rattle.laws_check.proofs.MemberLists.{AllMembers, put_one, weaker}
use Rattle.laws_check.proofs.OwnTexts.{printed_utf8}

-- the value was read, and nests at most so deep
pub record IsSoundJson (most : ℕ) (v : Json) : Type 0 where
  pub clear : IsClear v
  pub numbers : HasNumbers v
  pub shallow : depth v ≤ most

pub record AreSoundMembers (most : ℕ) (ms : j.Members) : Type 0 where
  pub clear : HaveClear ms
  pub numbers : MembersHaveNumbers ms
  pub shallow : members_depth ms ≤ most

-- the value of a whole text
pub text_sound : (text : List ℕ) → IsUtf8 text → IfSome (option_and_then (λ p. if_last p.0 p.1) (value max_depth (tokens text))) (IsSoundJson max_depth)
text_sound text utf8 = of_read (value max_depth (tokens text)) refl (text_clear text utf8)
  where
    of_read : (r : Option (Json × List Token)) → value max_depth (tokens text) ≡ r → IfSome (option_and_then (λ p. if_last p.0 p.1) r) IsClear
        → IfSome (option_and_then (λ p. if_last p.0 p.1) r) (IsSoundJson max_depth)
    of_read None is clear = tt
    of_read (Some (v, [])) is clear =
        record { clear = clear; numbers = value-HasNumbers max_depth (tokens text) [] v (ArePrintableOrBad-tokens text) is; shallow = value-depth max_depth (tokens text) [] v is }
    of_read (Some (v, t ∷ ts)) is clear = tt

-- ---- verbatim members

-- the string of it is a JSON text
abbrev pub HoldsJsonText : (most : ℕ) → Data → Type 0
HoldsJsonText most d = IfSome (as_str d) (IsJsonText most)

pub own_json : (most : ℕ) (v : Json) → IsSoundJson most v → IfSome (as_verbatim v) (HoldsJsonText most)
own_json most v sound = of_tree (of_json v) refl
  where
    of_tree : (o : Option Data) → of_json v ≡ o → IfSome (option_map (λ tree. string (verbatim v)) o) (HoldsJsonText most)
    of_tree None is = tt
    of_tree (Some tree) is = record {
      json = v;
      text_is = refl;
      utf8 = printed_utf8 (json_tokens v) (value_spelt v sound.clear);
      numbers = sound.numbers;
      shallow = sound.shallow;
      tree = tree;
      tree_is = is;
    }

always : {A : Type 0} (P : A → Type 0) (o : Option A) → ((x : A) → P x) → IfSome o P
always P None h = tt
always P (Some x) h = h x

module _ (raw_texts : List ℕ → Bool) (most : ℕ) where
  -- a member that is read as JSON text is one
  abbrev pub IsRawText : List ℕ → Data → Type 0
  IsRawText name d = raw_texts name ≡ true → HoldsJsonText most d

  raw_member : (name : List ℕ) (v : Json) → IsSoundJson most v → IfSome (cond (raw_texts name) (as_verbatim v) (mixed_tree raw_texts v)) (IsRawText name)
  raw_member name v sound = of_test (raw_texts name) refl
    where
      of_test : (b : Bool) → raw_texts name ≡ b → IfSome (cond b (as_verbatim v) (mixed_tree raw_texts v)) (IsRawText name)
      of_test true is = weaker (HoldsJsonText most) (IsRawText name) (as_verbatim v) (λ d h raw. h) (own_json most v sound)
      of_test false is = always (IsRawText name) (mixed_tree raw_texts v) (λ d raw. absurd cc)

  raw_members : (ms : j.Members) (located : Members) → AreSoundMembers most ms → AllMembers IsRawText located → IfSome (mixed_members raw_texts ms located) (AllMembers IsRawText)
  raw_members j.no_members located sound h = h
  raw_members (j.member k v ms) located sound h =
      gone_on (IsRawText k) (AllMembers IsRawText) (λ d. mixed_members raw_texts ms (put k d located)) (cond (raw_texts k) (as_verbatim v) (mixed_tree raw_texts v))
      (λ d one. raw_members ms (put k d located) (record { clear = sound.clear.2; numbers = sound.numbers.1; shallow = omega (arith, sound.shallow) }) (put_one IsRawText k d located one h))
      (raw_member k v (record { clear = sound.clear.1; numbers = sound.numbers.0; shallow = omega (arith, sound.shallow) }))

  abbrev pub HasRawTexts : Data → Type 0
  HasRawTexts d = IfSome (as_object d) (AllMembers IsRawText)

  pub raw_tree : (v : Json) → IsSoundJson (suc most) v → IfSome (mixed_tree raw_texts v) HasRawTexts
  raw_tree j.null sound = tt
  raw_tree (j.boolean b) sound = tt
  raw_tree (j.number s) sound = mapped (λ _. Unit {0}) HasRawTexts number (number_of s) (λ n u. tt) (any_given (number_of s))
  raw_tree (j.string s) sound = tt
  raw_tree (j.array js) sound = mapped (λ _. Unit {0}) HasRawTexts array (mixed_items raw_texts js) (λ n u. tt) (any_given (mixed_items raw_texts js))
  raw_tree (j.object ms) sound =
      mapped (AllMembers IsRawText) HasRawTexts object (mixed_members raw_texts ms no_members) (λ found h. h)
      (raw_members ms no_members (record { clear = sound.clear; numbers = sound.numbers; shallow = omega (arith, sound.shallow) }) tt)

-- ---- the text of a value is read back

module _ (most : ℕ) (text : List ℕ) (sound : IsJsonText most text) where
  pub read_back : (d : ℕ) → most ≤ d → value d (tokens text) ≡ Some (sound.json, [])
  read_back d within =
      ap (λ s. value d (tokens s)) sound.text_is
      ∙ ap (value d) (tokens-print (json_tokens sound.json) (ArePrintable-json_tokens sound.json sound.numbers) ∙ sym (append-nil (json_tokens sound.json)))
      ∙ value-json_tokens sound.json d [] (omega (arith, sound.shallow))

  -- it nests no deeper than a reader takes
  pub shallow_text : (d : ℕ) → is_some (converted of_json (value d (tokens text))) ≡ true → IsJsonText d text
  shallow_text d is_read = of_read (value d (tokens text)) refl is_read
    where
      of_read : (r : Option (Json × List Token)) → value d (tokens text) ≡ r → is_some (converted of_json r) ≡ true → IsJsonText d text
      of_read None is some = absurd cc
      of_read (Some p) is some =
          let same : Some p ≡ Some (sound.json, []) = one_reading d most (tokens text) p (sound.json, []) is (read_back most (omega arith)) in
          record {
            json = sound.json;
            text_is = sound.text_is;
            utf8 = sound.utf8;
            numbers = sound.numbers;
            shallow = value-depth d (tokens text) [] sound.json (is ∙ same);
            tree = sound.tree;
            tree_is = sound.tree_is;
          }
