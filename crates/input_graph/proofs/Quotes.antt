-- The closing quote of a name, from one byte to the next.
use Rattle.std.proofs.Common.{◌≡◌, ◌≢◌, ℕ, suc, ◌+◌, ◌<◌, ◌&&◌, eqb, not, Bool, true, false, List, ◌∷◌, length, get_or, drop, Option, Some, None, option_map, refl, ap, sym, ◌∙◌, arith, add-one, drop-cons, ne_eqb}
use Rattle.input_graph.specs.Quoted.{quote_at}

-- where the closing quote is, when that many bytes were read
abbrev pub place_after : (read : ℕ) (is_escaped : Bool) → List ℕ → Option ℕ
place_after read is_escaped rest = option_map (λ n. read + n) (quote_at is_escaped rest)

later : (place : ℕ) (found : Option ℕ) → option_map (λ n. place + n) (option_map suc found) ≡ option_map (λ n. place + 1 + n) found
later place None = refl
later place (Some n) = let e : place + suc n ≡ place + 1 + n = omega arith in ap Some e

-- a byte that closes nothing
passed_by : (is_escaped : Bool) (byte : ℕ) (bytes : List ℕ) (place : ℕ) → (not is_escaped && eqb byte 34) ≡ false
    → place_after place is_escaped (byte ∷ bytes) ≡ place_after (place + 1) (not is_escaped && eqb byte 92) bytes
passed_by is_escaped byte bytes place differs = rw differs (later place (quote_at (not is_escaped && eqb byte 92) bytes))

passes : (is_escaped : Bool) (bytes : List ℕ) (place : ℕ) → place < length bytes → (not is_escaped && eqb (get_or bytes place 0) 34) ≡ false
    → place_after place is_escaped (drop place bytes)
    ≡ place_after (place + 1) (not is_escaped && eqb (get_or bytes place 0) 92) (drop (place + 1) bytes)
passes is_escaped bytes place within differs =
    ap (place_after place is_escaped) (drop-cons bytes place 0 within)
    ∙ passed_by is_escaped (get_or bytes place 0) (drop (suc place) bytes) place differs
    ∙ ap (λ (count : ℕ). place_after (place + 1) (not is_escaped && eqb (get_or bytes place 0) 92) (drop count bytes)) (sym (add-one place))

module _ (bytes : List ℕ) (place : ℕ) (within : place < length bytes) (found : Option ℕ) (old new : Bool)
    (so_far : found ≡ place_after place old (drop place bytes)) where
  -- a byte that is escaped
  pub passes_escaped : old ≡ true → new ≡ false → found ≡ place_after (place + 1) new (drop (place + 1) bytes)
  passes_escaped was is =
      so_far
      ∙ ap (λ (b : Bool). place_after place b (drop place bytes)) was
      ∙ passes true bytes place within refl
      ∙ ap (λ (b : Bool). place_after (place + 1) b (drop (place + 1) bytes)) (sym is)

  -- another byte that is no quote
  pub passes_plain : old ≡ false → get_or bytes place 0 ≢ 34 → new ≡ eqb (get_or bytes place 0) 92 → found ≡ place_after (place + 1) new (drop (place + 1) bytes)
  passes_plain was differs is =
      so_far
      ∙ ap (λ (b : Bool). place_after place b (drop place bytes)) was
      ∙ passes false bytes place within (ne_eqb (get_or bytes place 0) 34 differs)
      ∙ ap (λ (b : Bool). place_after (place + 1) b (drop (place + 1) bytes)) (sym is)
