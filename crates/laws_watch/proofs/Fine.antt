-- Characters that steer nothing, and what is cut from them.
use Rattle.std.proofs.Common.{◌≡◌, ◌≢◌, ◌∙◌, ℕ, ◌==◌, ◌∷◌, ◌++◌, [], List, true, false, ap, append_assoc, arith, drop, refl, sym, take}
use Rattle.std.specs.Prelude.{◌&&◌}
use Rattle.std.specs.Str.{NonePass, chars}
use Rattle.std.specs.Char.{is_ascii_alphabetic}
use Rattle.std.proofs.Math.Bool.{and-false}
use Rattle.std.proofs.lemmas.Bool.{and_parts}
use Rattle.std.proofs.lemmas.Bool.Decides.{nat_tests}
use Rattle.std.proofs.lemmas.List.{take-append-drop}
use Rattle.std.proofs.lemmas.Str.{chars-encodes, chars_from_encodes, encodes-append, encodes-chars, scalars-chars}
use lib.Utf8.{scalar, scalars, encodes, encode}
use Rattle.term_text.specs.Commands.{HoldsNoCommand, after_character}
use Rattle.term_text.specs.Fitted.{shown_characters}
use Rattle.term_text.specs.Shown.{is_hidden, shown_text}
use Rattle.term_text.specs.declared.command_start.CommandStart.TheVariants as command_start
use Rattle.term_text.proofs.Commands.{HoldsNoCommand-from, none_opens, none_opens-encode, none_opens-from}
use Rattle.term_text.proofs.Plain.{shown_text-IsUtf8, shown_text-no_command, shown_text-plain, shown_text-same}

-- characters of a text in which nothing is hidden, and which holds no command
pub record IsFine (cs : List ℕ) : Type 0 where
  pub are : scalars cs ≡ true
  pub no_hidden : NonePass is_hidden cs
  pub no_command : HoldsNoCommand (encodes cs)

-- ---- parts

scalars-append : (xs ys : List ℕ) → scalars (xs ++ ys) ≡ (scalars xs && scalars ys)
scalars-append [] ys = refl
scalars-append (x ∷ xs) ys = rw (scalars-append xs ys) (associated (scalar x) (scalars xs) (scalars ys))
  where
    associated : (a b c : _) → (a && (b && c)) ≡ ((a && b) && c)
    associated true b c = refl
    associated false b c = refl

NonePass-front : (xs ys : List ℕ) → NonePass is_hidden (xs ++ ys) → NonePass is_hidden xs
NonePass-front [] ys none = tt
NonePass-front (x ∷ xs) ys none = (none.0, NonePass-front xs ys none.1)

NonePass-back : (xs ys : List ℕ) → NonePass is_hidden (xs ++ ys) → NonePass is_hidden ys
NonePass-back [] ys none = none
NonePass-back (x ∷ xs) ys none = NonePass-back xs ys none.1

pub no_command-front : (xs ys : List ℕ) → HoldsNoCommand (xs ++ ys) → HoldsNoCommand xs
no_command-front xs ys none before name rest letters is =
    none before name (rest ++ ys) letters
    (ap (λ t. t ++ ys) is ∙ append_assoc before (35 ∷ 35 ∷ (name ++ (91 ∷ rest))) ys ∙ ap (λ t. before ++ 35 ∷ 35 ∷ t) (append_assoc name (91 ∷ rest) ys))

pub no_command-back : (xs ys : List ℕ) → HoldsNoCommand (xs ++ ys) → HoldsNoCommand ys
no_command-back xs ys none before name rest letters is =
    none (xs ++ before) name rest letters (ap (λ t. xs ++ t) is ∙ sym (append_assoc xs before (35 ∷ 35 ∷ (name ++ (91 ∷ rest)))))

pub IsFine-front : (xs ys : List ℕ) → IsFine (xs ++ ys) → IsFine xs
IsFine-front xs ys fine = record {
  are = (and_parts _ _ (sym (scalars-append xs ys) ∙ fine.are)).0;
  no_hidden = NonePass-front xs ys fine.no_hidden;
  no_command = no_command-front (encodes xs) (encodes ys) (rw (← encodes-append xs ys) fine.no_command);
}

pub IsFine-back : (xs ys : List ℕ) → IsFine (xs ++ ys) → IsFine ys
IsFine-back xs ys fine = record {
  are = (and_parts _ _ (sym (scalars-append xs ys) ∙ fine.are)).1;
  no_hidden = NonePass-back xs ys fine.no_hidden;
  no_command = no_command-back (encodes xs) (encodes ys) (rw (← encodes-append xs ys) fine.no_command);
}

pub IsFine-take : (n : ℕ) (cs : List ℕ) → IsFine cs → IsFine (take n cs)
IsFine-take n cs fine = IsFine-front (take n cs) (drop n cs) (rw (take-append-drop n cs) fine)

pub IsFine-drop : (n : ℕ) (cs : List ℕ) → IsFine cs → IsFine (drop n cs)
IsFine-drop n cs fine = IsFine-back (take n cs) (drop n cs) (rw (take-append-drop n cs) fine)

-- ---- escaped texts

pub shown_characters-fine : (text : List ℕ) → IsFine (shown_characters text)
shown_characters-fine text =
    let shown = shown_text text in
    let utf8 = shown_text-IsUtf8 text in
    let plain = shown_text-plain text in
    record {
      are = scalars-chars shown utf8;
      no_hidden = rw (chars_from_encodes plain.0 shown utf8 plain.1) at plain.2;
      no_command = rw (encodes-chars shown utf8) (shown_text-no_command text);
    }

-- fine characters are shown as they are
pub shown_characters-same : (cs : List ℕ) → IsFine cs → shown_characters (encodes cs) ≡ cs
shown_characters-same cs fine =
    ap chars (shown_text-same (encodes cs) (cs, (fine.are, refl)) (cs, refl, fine.no_hidden) fine.no_command) ∙ chars-encodes cs fine.are

-- ---- characters in front

-- a character that is not hidden, and is no `#`
pub record IsQuiet (character : ℕ) : Type 0 where
  pub is : scalar character ≡ true
  pub no_hidden : is_hidden character ≡ false
  pub other : character ≢ 35

abbrev pub AllQuiet : List ℕ → Type 0
AllQuiet [] = Unit {0}
AllQuiet (c ∷ cs) = IsQuiet c × AllQuiet cs

pub none_opens-quiet : (c : ℕ) (more : List ℕ) → c ≢ 35 → none_opens command_start.Nothing (encode c ++ more) ≡ none_opens command_start.Nothing more
none_opens-quiet c more other =
    let test : (c == 35) ≡ false = grind (arith, nat_tests) in
    let stays : after_character command_start.Nothing c ≡ command_start.Nothing = rw (test, and-false (is_ascii_alphabetic c)) refl in
    none_opens-encode command_start.Nothing c more ∙ ap (λ start. none_opens start more) stays

pub IsFine-cons : (c : ℕ) (cs : List ℕ) → IsQuiet c → IsFine cs → IsFine (c ∷ cs)
IsFine-cons c cs quiet fine = record {
  are = rw quiet.is fine.are;
  no_hidden = (quiet.no_hidden, fine.no_hidden);
  no_command = HoldsNoCommand-from command_start.Nothing (encode c ++ encodes cs)
      (none_opens-quiet c (encodes cs) quiet.other ∙ none_opens-from (encodes cs) fine.no_command);
}

pub IsFine-behind : (front cs : List ℕ) → AllQuiet front → IsFine cs → IsFine (front ++ cs)
IsFine-behind [] cs quiet fine = fine
IsFine-behind (c ∷ front) cs quiet fine = IsFine-cons c (front ++ cs) quiet.0 (IsFine-behind front cs quiet.1 fine)

pub IsFine-nil : IsFine []
IsFine-nil = record {
  are = refl;
  no_hidden = tt;
  no_command = HoldsNoCommand-from command_start.Nothing [] refl;
}

pub IsFine-quiet : (cs : List ℕ) → AllQuiet cs → IsFine cs
IsFine-quiet [] quiet = IsFine-nil
IsFine-quiet (c ∷ cs) quiet = IsFine-cons c cs quiet.0 (IsFine-quiet cs quiet.1)
