-- What stands open, by the messages.
use Rattle.std.proofs.Common.{◌≡◌, ℕ, ◌+◌, List, [], ◌∷◌, length, Bool, true, false, Option, Some, None, refl, sym, ap, ◌∙◌, ⊎_elim}
use Rattle.std.specs.Prelude.{◌||◌}
use Rattle.std.specs.List.{list_any}
use Rattle.std.specs.Option.{option_map_or}
use Rattle.std.specs.Str.{bytes_eq}
use Rattle.std.proofs.lemmas.Bool.{cases_Bool}
use Rattle.std.proofs.lemmas.Slice.Eq.{bytes_eq-Decides}
use Rattle.stream_check.specs.declared.rules.address_state.AddressState.{AddressState}
use Rattle.stream_check.specs.Message.{Message, version, step, provision, planned, plan_summary, summary, diagnostic, outputs, other, foreign, address_of}
use Rattle.stream_check.specs.Open.{any_open, is_open_at, is_unended, stands_open}
use Rattle.stream_check.specs.AddressState.{idle, is_idle, state_after, state_of}
use Rattle.stream_check.proofs.Continuing.{idle_only}

-- ---- nothing stands open at any address

none_about : (all : List Message) → ((a : List ℕ) → is_open_at all a ≡ false) → (o : Option (List ℕ)) → option_map_or (is_open_at all) o false ≡ false
none_about all none None = refl
none_about all none (Some a) = none a

none_of : (all ms : List Message) → ((a : List ℕ) → is_open_at all a ≡ false) → list_any (is_unended all) ms ≡ false
none_of all [] none = refl
none_of all (m ∷ ms) none = rw (none_about all none (address_of m), none_of all ms none) refl

pub not_any_open : (all : List Message) → ((a : List ℕ) → is_open_at all a ≡ false) → any_open all ≡ false
unfolding any_open
not_any_open all none = none_of all all none

-- ---- something stands open at some address

pub idle_is_closed : (r f : Bool) → stands_open r f idle ≡ false
idle_is_closed true true = refl
idle_is_closed true false = refl
idle_is_closed false true = refl
idle_is_closed false false = refl

-- what stands open is not idle
not_idle : (r f : Bool) (s : AddressState) → stands_open r f s ≡ true → is_idle s ≡ false
not_idle r f s e =
    ⊎_elim
    (λ (yes : is_idle s ≡ true). let bad : true ≡ false = sym e ∙ ap (stands_open r f) (idle_only s yes) ∙ idle_is_closed r f in absurd cc)
    (λ no. no)
    (cases_Bool (is_idle s))

abbrev is_about : List ℕ → Message → Bool
is_about a m = option_map_or (λ b. bytes_eq b a) (address_of m) false

-- a message about another address changes nothing
unmoved : (a : List ℕ) (line : ℕ) (m : Message) (s : AddressState) → is_about a m ≡ false → state_after a line m s ≡ s
unmoved a line version s e = refl
unmoved a line (step b k stage) s e = rw e refl
unmoved a line (provision b stage) s e = rw e refl
unmoved a line (planned intent address) s e = refl
unmoved a line (plan_summary totals) s e = refl
unmoved a line (summary totals) s e = refl
unmoved a line (diagnostic x None) s e = refl
unmoved a line (diagnostic x (Some b)) s e = rw e refl
unmoved a line outputs s e = refl
unmoved a line other s e = refl
unmoved a line foreign s e = refl

seen_about : (a : List ℕ) (all : List Message) (o : Option (List ℕ)) → option_map_or (λ b. bytes_eq b a) o false ≡ true → is_open_at all a ≡ true → option_map_or (is_open_at all) o false ≡ true
seen_about a all None e there = absurd cc
seen_about a all (Some b) e there = ap (is_open_at all) ((bytes_eq-Decides b a).0 e) ∙ there

or_right : (a b : Bool) → b ≡ true → (a || b) ≡ true
or_right true b e = refl
or_right false b e = e

some_of : (a : List ℕ) (all ms : List Message) → is_open_at all a ≡ true → is_idle (state_of a ms) ≡ false → list_any (is_unended all) ms ≡ true
unfolding state_of
some_of a all [] there e = absurd cc
some_of a all (m ∷ ms) there e =
    ⊎_elim
    (λ (yes : is_about a m ≡ true). rw (seen_about a all (address_of m) yes there) refl)
    (λ (no : is_about a m ≡ false).
    let before : is_idle (state_of a ms) ≡ false = ap is_idle (sym (unmoved a (length ms + 1) m (state_of a ms) no)) ∙ e in
    or_right (is_unended all m) (list_any (is_unended all) ms) (some_of a all ms there before))
    (cases_Bool (is_about a m))

pub is_any_open : (all : List Message) (a : List ℕ) → is_open_at all a ≡ true → any_open all ≡ true
unfolding any_open
is_any_open all a there = some_of a all all there (not_idle _ _ (state_of a all) there)

-- where nothing stands open, nothing does at any address
pub all_closed : (all : List Message) (a : List ℕ) → any_open all ≡ false → is_open_at all a ≡ false
all_closed all a none = ⊎_elim (λ (yes : is_open_at all a ≡ true). let there = is_any_open all a yes in absurd cc) (λ no. no) (cases_Bool (is_open_at all a))
