-- The parts of an address in UTF-8 are UTF-8.
use Rattle.std.proofs.Common.{◌≡◌, ℕ, ◌-◌, ◌<◌, ◌^◌, ◌==◌, ◌⊎◌, inl, inr, List, [], ◌∷◌, ◌++◌, append_assoc, append-nil, codes, cond, length, length-append, take, IsUtf8, Bool, true, false, Option, Some, None, option_map, refl, sym, ap, ◌∙◌, subst, ⊎_elim, arith}
use Rattle.std.specs.Prelude.{◌||◌, IfSome, flat_map, is_some, negsuc, pos, unwrap_or, ℤ, FitsSigned}
use Rattle.std.specs.Char.{IsScalar, encode_utf8}
use Rattle.std.specs.Int.{w64}
use Rattle.std.specs.List.{AllByRecursion}
use Rattle.std.proofs.Math.Seq.{take-append_seam}
use Rattle.std.proofs.Math.Utf8.{low_scalar}
use Rattle.std.proofs.lemmas.Bool.{eqb-true, or_cases}
use Rattle.std.proofs.lemmas.Str.{IsUtf8-append, IsUtf8-encode, IsUtf8-nil}
use Rattle.apply_address.specs.Address.{Address, Named, written_module, written_modules, written_named, written_resource}
use Rattle.apply_address.specs.Keys.{IsKey, WrittenKey, no_key, number_key, meant_key, text_key, written_key}
use Rattle.apply_address.specs.Parts.{Parts}
use Rattle.apply_address.specs.Pieces.{IsPiece, Piece, character_of, escape, is_doubled, long, plain, unescaped_text, short, written_text}
use Rattle.apply_address.specs.Reading.{parts_in}
use Rattle.apply_address.proofs.LocatedAddresses.{address_located}
use Rattle.apply_plan_terraform.specs.Details.{previous_at, with_parts}
use Rattle.apply_text.specs.Objects.{key_data}
use Rattle.laws_check.specs.Sound.{IsSound}
use Rattle.laws_check.specs.ReadBackInForm.{HasPreviousTexts}
use Rattle.laws_check.proofs.Cuts.{before, after}
use Rattle.laws_check.proofs.PlanTexts.{front_utf8}

-- ---- a key

escaped_scalar : (letter : ℕ) → IsPiece (escape letter) → IsScalar (character_of (escape letter))
escaped_scalar letter is = of_tests (letter == 34 || letter == 92) (letter == 110) (letter == 114) (letter == 116) (λ e. either_low letter e) is
  where
    either_low : (byte : ℕ) → (byte == 34 || byte == 92) ≡ true → byte < 128
    either_low byte e =
        ⊎_elim (λ one. let same : byte ≡ 34 = eqb-true byte 34 one in omega arith) (λ other. let same : byte ≡ 92 = eqb-true byte 92 other in omega arith) (or_cases (byte == 34) (byte == 92) e)

    of_tests : (a b c d : Bool) → (a ≡ true → letter < 128) → is_some (cond a (Some letter) (cond b (Some 10) (cond c (Some 13) (cond d (Some 9) None)))) ≡ true
        → IsScalar (unwrap_or (cond a (Some letter) (cond b (Some 10) (cond c (Some 13) (cond d (Some 9) None)))) letter)
    of_tests true b c d low is = low_scalar letter (let less = low refl in omega arith)
    of_tests false true c d low is = low_scalar 10 (omega arith)
    of_tests false false true d low is = low_scalar 13 (omega arith)
    of_tests false false false true low is = low_scalar 9 (omega arith)
    of_tests false false false false low is = absurd cc

piece_scalar : (piece : Piece) → IsPiece piece → IsScalar (character_of piece)
piece_scalar (plain character) is = is.0
piece_scalar (escape letter) is = escaped_scalar letter is
piece_scalar (short digits) is = is.2
piece_scalar (long digits) is = is.2

stated_utf8 : (pieces : List Piece) → AllByRecursion IsPiece pieces → IsUtf8 (unescaped_text pieces)
stated_utf8 [] are = IsUtf8-nil
stated_utf8 (piece ∷ pieces) are = of_test (is_doubled (written_text (piece ∷ pieces))) (stated_utf8 pieces are.1)
  where
    of_test : (b : Bool) → IsUtf8 (unescaped_text pieces) → IsUtf8 (cond b (unescaped_text pieces) (encode_utf8 (character_of piece) ++ unescaped_text pieces))
    of_test true rest = rest
    of_test false rest = IsUtf8-append (encode_utf8 (character_of piece)) (unescaped_text pieces) (IsUtf8-encode (character_of piece) (piece_scalar piece are.0)) rest

number_sound : (z : ℤ) → FitsSigned w64 z → IsSound (key_data (meant_key (number_key z)))
number_sound (pos n) fits = let less : n < 2 ^ 63 = fits.sfits in omega arith
number_sound (negsuc n) fits = fits.sfits

key_sound : (key : WrittenKey) → IsKey key → IsSound (key_data (meant_key key))
key_sound no_key is = tt
key_sound (number_key z) is = number_sound z is
key_sound (text_key pieces) is = stated_utf8 pieces is

-- ---- the last part

-- a name with a key, or without
name_utf8 : (name : List ℕ) (key : WrittenKey) → IsUtf8 (name ++ written_key key) → IsUtf8 name
name_utf8 name no_key text = subst IsUtf8 (append-nil name) text
name_utf8 name (number_key z) text = before name 91 _ text (omega arith)
name_utf8 name (text_key pieces) text = before name 91 _ text (omega arith)

-- a type, a dot and a name
record AreTexts (kind_name : List ℕ) (named : Named) : Type 0 where
  kind : IsUtf8 kind_name
  name : IsUtf8 named.name

typed_utf8 : (kind_name : List ℕ) (named : Named) → IsUtf8 (kind_name ++ (46 ∷ written_named named)) → AreTexts kind_name named
typed_utf8 kind_name named text = record {
  kind = before kind_name 46 (written_named named) text (omega arith);
  name = name_utf8 named.name named.key (after kind_name 46 (written_named named) text (omega arith));
}

last_utf8 : (is_data : Bool) (kind_name : List ℕ) (named : Named) → IsUtf8 (cond is_data (codes "data.") [] ++ kind_name ++ codes "." ++ written_named named) → AreTexts kind_name named
last_utf8 true kind_name named text =
    typed_utf8 kind_name named (after (codes "data") 46 (kind_name ++ (46 ∷ written_named named)) (subst IsUtf8 (in_a_row (codes "data.") kind_name (codes ".") (written_named named)) text) (omega arith))
  where
    in_a_row : (a b c d : List ℕ) → a ++ b ++ c ++ d ≡ a ++ (b ++ (c ++ d))
    in_a_row a b c d = simp append_assoc
last_utf8 false kind_name named text = typed_utf8 kind_name named (subst IsUtf8 (append_assoc kind_name (codes ".") (written_named named)) text)

-- ---- the modules

-- what stands before the last part: nothing, or a text and a dot
ends_with_dot : (modules : List Named) → (flat_map written_module modules ≡ []) ⊎ ((front : List ℕ) × (flat_map written_module modules ≡ front ++ 46 ∷ []))
ends_with_dot [] = inl refl
ends_with_dot (named ∷ modules) =
    ⊎_elim
    (λ none. inr (codes "module." ++ written_named named, ap (λ t. written_module named ++ t) none ∙ append-nil (written_module named)))
    (λ some. inr (written_module named ++ some.0, ap (λ t. written_module named ++ t) some.1 ∙ sym (append_assoc (written_module named) some.0 (46 ∷ []))))
    (ends_with_dot modules)

-- the modules without their last dot, and the rest after them
record AreCut (modules resource : List ℕ) : Type 0 where
  front : IsUtf8 (take (length modules - 1) modules)
  back : IsUtf8 resource

cut_utf8 : (modules resource : List ℕ) → (modules ≡ []) ⊎ ((front : List ℕ) × (modules ≡ front ++ 46 ∷ [])) → IsUtf8 (modules ++ resource) → AreCut modules resource
cut_utf8 modules resource (inl none) text =
    subst (λ (m : List ℕ). AreCut m resource) (sym none) (record { front = IsUtf8-nil; back = subst (λ (m : List ℕ). IsUtf8 (m ++ resource)) none text })
cut_utf8 modules resource (inr some) text =
    let front = some.0 in
    let whole : IsUtf8 (front ++ 46 ∷ resource) = subst IsUtf8 (append_assoc front (46 ∷ []) resource) (subst (λ (m : List ℕ). IsUtf8 (m ++ resource)) some.1 text) in
    let long : length (front ++ 46 ∷ []) - 1 ≡ length front = omega (arith, length-append front (46 ∷ [])) in
    subst (λ (m : List ℕ). AreCut m resource) (sym some.1)
    (record {
      front = subst IsUtf8 (sym (ap (λ (n : ℕ). take n (front ++ 46 ∷ [])) long ∙ take-append_seam front (46 ∷ []))) (before front 46 resource whole (omega arith));
      back = after front 46 resource whole (omega arith);
    })

-- ---- the resource that an object was

previous_texts : (text : List ℕ) (parts : Parts) → IsUtf8 text → parts_in text ≡ Some parts → HasPreviousTexts (with_parts text parts)
previous_texts text parts utf8 is =
    let located = address_located text parts utf8 is in
    let address : Address = located.0 in
    let cut = cut_utf8 (written_modules address) (written_resource address) (ends_with_dot address.modules) (subst IsUtf8 located.2 utf8) in
    let last = last_utf8 address.is_data address.kind_name address.named cut.back in
    subst (λ (p : Parts). HasPreviousTexts (with_parts text p)) (sym located.3)
    (record {
      address = utf8;
      module_address = cut.front;
      resource = cut.back;
      provider = front_utf8 [] address.kind_name last.kind;
      kind_name = last.kind;
      name = last.name;
      key = key_sound address.named.key located.1.named.key;
    })

pub previous_has_texts : (text : List ℕ) → IsUtf8 text → IfSome (previous_at text) HasPreviousTexts
previous_has_texts text utf8 = of_parts (parts_in text) refl
  where
    of_parts : (o : Option Parts) → parts_in text ≡ o → IfSome (option_map (with_parts text) o) HasPreviousTexts
    of_parts None is = tt
    of_parts (Some parts) is = previous_texts text parts utf8 is
