use Rattle.std.proofs.Common.{◌≡◌, ◌∙◌, ◌≤◌, ◌<◌, ◌⊎◌, ◌||◌, inl, inr, ⊎_elim, Bool, true, false, List, [], ◌∷◌, codes, get_or, length, map, string_bytes, ap, sym, arith, refl, rules}
use Rattle.std.proofs.lemmas.Slice.Eq.{bytes_eq-Decides}
use Rattle.std.specs.Str.{bytes_eq}
use Rattle.clap.specs.Walk.{Text}
use Rattle.apply_cli.proofs.version.ask_for_version.Goals as goal

-- a list of one element
alone : {X : Type 0} (xs : List X) (x : X) → 1 ≤ length xs → length xs < 2 → x ≡ get_or xs 0 x → xs ≡ x ∷ []
alone [] x some few is = absurd (omega arith)
alone (y ∷ []) x some few is = ap (λ z. z ∷ []) (sym is)
alone (y ∷ z ∷ zs) x some few is = absurd (omega arith)

-- a text is one of two exactly where one of two comparisons says so
either : (w a b : Text) (x y : Bool) → bytes_eq w a ≡ x → bytes_eq w b ≡ y
    → (x || y ≡ true → (w ≡ a) ⊎ (w ≡ b)) × ((w ≡ a) ⊎ (w ≡ b) → x || y ≡ true)
either w a b true y first second = (λ yes. inl ((bytes_eq-Decides w a).0 first), λ one. refl)
either w a b false true first second = (λ yes. inr ((bytes_eq-Decides w b).0 second), λ one. refl)
either w a b false false first second =
    (λ yes. cc, λ one. ⊎_elim (λ e. sym first ∙ (bytes_eq-Decides w a).1 e) (λ e. sym second ∙ (bytes_eq-Decides w b).1 e) one)

pub returns-in-len1 : goal.returns-in-len1
returns-in-len1 c =
    let one = alone c.args.words.now c.word-item.result (search rules) (search rules) c.word-item.is in
    let stated : map string_bytes c.args.words.now ≡ c.as_str.result.now ∷ [] =
    ap (map string_bytes) one ∙ ap (λ t. t ∷ []) (sym c.as_str.ensures.value) in
    let w : Text = c.as_str.result.now in
    let test = either w (codes "--version") (codes "-V") (bytes_eq w (codes "--version")) (bytes_eq w (codes "-V")) refl refl in
    let word : (t : Text) → map string_bytes c.args.words.now ≡ t ∷ [] → w ≡ t =
    λ t is. ap (λ (ts : List Text). get_or ts 0 []) (sym stated ∙ is) in (
      λ yes. ⊎_elim (λ e. inl (stated ∙ ap (λ t. t ∷ []) e)) (λ e. inr (stated ∙ ap (λ t. t ∷ []) e)) (test.0 (sym c.is_version.ensures ∙ yes)),
      λ asked. c.is_version.ensures ∙ test.1 (⊎_elim (λ e. inl (word _ e)) (λ e. inr (word _ e)) asked),
    )
