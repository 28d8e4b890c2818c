use Rattle.std.proofs.Common.{rules, ◌≡◌, ℕ, List, [], ◌∷◌, Bool, true, false, Option, Some, None, map, refl, sym, ap, subst, ◌∙◌, ⊎_elim, unwrap_or, String, Global}
use Rattle.std.specs.Prelude.{IsSome}
use Rattle.std.specs.BTreeMap.{get_by_text, is_at}
use Rattle.std.specs.Cmp.Lexicographic.{slice_cmp}
use Rattle.std.specs.List.{AllByRecursion}
use Rattle.std.specs.Map.{lookup}
use Rattle.std.specs.Map.Iter.{deref_pair}
use Rattle.std.specs.Ordering.{is_eq, nat_cmp}
use Rattle.std.specs.String.{string_bytes}
use Rattle.std.proofs.lemmas.Bool.{cases_Bool}
use Rattle.std.proofs.lemmas.List.Elements.{All-map, All-push, recursion_from_All}
use Rattle.std.proofs.lemmas.Map.Iter.{iter_end}
use Rattle.std.proofs.lemmas.Map.Text.{is_eq-slice_cmp}
use Rattle.std.proofs.lemmas.Slice.Eq.{bytes_eq-Decides}
use Rattle.stream_check.specs.declared.rules.address_state.AddressState.{AddressState}
use Rattle.stream_check.specs.Open.{stands_open}
use Rattle.stream_check.specs.AddressState.{idle}
use Rattle.stream_check.proofs.OpenSteps.{idle_is_closed}
use Rattle.stream_check.proofs.rules.open_steps.OpenSteps.has_open.Goals as goal

-- what holds of each key holds of each text that is found
found_too : (P : List ℕ → Type 0) (es : List (String Global × AddressState)) → AllByRecursion (λ (e : String Global × AddressState). P (string_bytes e.0)) es
    → (a : List ℕ) → IsSome (lookup (is_at (λ (k : String Global). slice_cmp nat_cmp a (string_bytes k))) es) → P a
found_too P [] all a there = absurd cc
found_too P (e ∷ es) all a there =
    ⊎_elim
    (λ (yes : is_eq (slice_cmp nat_cmp a (string_bytes e.0)) ≡ true).
    let same : a ≡ string_bytes e.0 = (bytes_eq-Decides a (string_bytes e.0)).0 (sym (is_eq-slice_cmp a (string_bytes e.0)) ∙ yes) in
    subst P (sym same) all.0)
    (λ (no : is_eq (slice_cmp nat_cmp a (string_bytes e.0)) ≡ false). found_too P es all.1 a (rw no at there))
    (cases_Bool (is_eq (slice_cmp nat_cmp a (string_bytes e.0))))

-- where nothing is found, nothing stands open
none_or_found : (r f : Bool) (a : List ℕ) (o : Option AddressState) → (IsSome o → stands_open r f (unwrap_or o idle) ≡ false) → stands_open r f (unwrap_or o idle) ≡ false
none_or_found r f a None found = idle_is_closed r f
none_or_found r f a (Some s) found = found refl

differ : true ≡ false → ⊥
differ same = cc

-- a key that was looked at, as its text
pub loop-address-preserved : goal.loop-address-preserved
loop-address-preserved c =
    let m = c.args.self.now.states in
    let P : List ℕ → Type 0 = λ (b : List ℕ). stands_open c.args.criteria.refreshes c.args.criteria.failures (unwrap_or (get_by_text m b) idle) ≡ false in
    let closed : P c.as_str.result.now = ap (stands_open c.args.criteria.refreshes c.args.criteria.failures) (sym c.at.ensures) ∙ sym c.stands_open.ensures ∙ c.if-stands_open.false in
    All-push (λ e. P (string_bytes e.0.now)) c.loop-address.yielded (c.in-Some.address, c.in-Some.field-0-1) c.loop-address.invariant (subst P c.as_str.ensures.value closed)

pub returns : goal.returns
returns c = record {
  some = λ found. absurd (differ (sym found));
  none = λ done a.
      let m = c.args.self.now.states in
      let P : List ℕ → Type 0 = λ (b : List ℕ). stands_open c.args.criteria.refreshes c.args.criteria.failures (unwrap_or (get_by_text m b) idle) ≡ false in
      let all : map deref_pair c.loop-address.yielded ≡ m.entries = search (rules, iter_end) in
      let each = All-map (λ (e : String Global × AddressState). P (string_bytes e.0)) deref_pair c.loop-address.yielded c.loop-address.invariant in
      let listed = recursion_from_All (λ (e : String Global × AddressState). P (string_bytes e.0)) m.entries (rw all at each) in
      none_or_found c.args.criteria.refreshes c.args.criteria.failures a (get_by_text m a) (λ there. found_too P m.entries listed a there);
}

-- an address at which something stands open is one of all
pub returns-then-stands_open : goal.returns-then-stands_open
returns-then-stands_open c = record {
  some = λ found. (
    c.as_str.result.now,
    ap (stands_open c.args.criteria.refreshes c.args.criteria.failures) (sym c.at.ensures) ∙ sym c.stands_open.ensures ∙ c.if-stands_open.true,
  );
  none = λ none. absurd (differ none);
}
