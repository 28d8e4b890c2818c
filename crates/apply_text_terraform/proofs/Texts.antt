-- Texts that are put together in an empty buffer.
use Rattle.std.proofs.Common.{◌≡◌, ℕ, List, [], ◌∷◌, ◌++◌, codes, decimal, Ok, Err, OnOk, cond, sym, ap, ◌∙◌, append_assoc, append-nil}
use Rattle.std.specs.Prelude.{Result, if◌then◌else◌, is_ok}
use Rattle.std.proofs.lemmas.Bool.{ne_eqb}
use Rattle.json.specs.Print.{print, print_from, quoted}
use Rattle.json.specs.Token.{Token}
use Rattle.apply_events.specs.declared.counts.Counts.{Counts}
use Rattle.apply_text.specs.declared.operation.Operation.TheVariants.{Apply}
use Rattle.apply_text_terraform.specs.Message.{imported_text, summary_words}

-- what was put into a buffer that was empty is what was wanted
pub filled : {E : Type 0} (r : Result (Unit {0}) E) (old new piece wanted : List ℕ) → old ≡ [] → new ≡ (if is_ok r then old ++ piece else old) → piece ≡ wanted → OnOk r (new ≡ wanted)
filled (Ok u) old new piece wanted empty grown is = grown ∙ ap (λ s. s ++ piece) empty ∙ is
filled (Err e) old new piece wanted empty grown is = tt

-- that a change is planned
pub planned_text : (old new address change_address word : List ℕ) → old ≡ [] → new ≡ old ++ (address ++ (codes ": Plan to " ++ word)) → address ≡ change_address → new ≡ change_address ++ codes ": Plan to " ++ word
planned_text old new address change_address word empty grown is = grown ∙ rw (empty, is) (simp append_assoc)

-- the text of a diagnostic of no step
pub note_text : (old new label label₂ summary summary₂ : List ℕ) → old ≡ [] → new ≡ old ++ (label ++ (codes ": " ++ summary)) → label ≡ label₂ → summary ≡ summary₂ → new ≡ label₂ ++ codes ": " ++ summary₂
note_text old new label label₂ summary summary₂ empty grown labels summaries = grown ∙ rw (empty, labels, summaries) (simp append_assoc)

-- ---- the summary

-- the totals after the imports
abbrev totals_behind : (imports : List ℕ) → Counts → List ℕ
totals_behind imports counts =
    codes "Apply complete! Resources: " ++ imports ++ decimal counts.added ++ codes " added, "
    ++ decimal counts.changed ++ codes " changed, "
    ++ decimal counts.removed ++ codes " destroyed."

nothing_stated : (imported : ℕ) → imported ≡ 0 → [] ≡ imported_text imported
nothing_stated imported is = sym (ap imported_text is)

imports_stated : (imported : ℕ) → (imported ≡ 0 → ⊥) → decimal imported ++ codes " imported, " ≡ imported_text imported
imports_stated imported is = sym (ap (λ b. cond b [] (decimal imported ++ codes " imported, ")) (ne_eqb imported 0 is))

pub none_imported : (counts : Counts) (imported : ℕ) → imported ≡ 0
    → codes "Apply complete! Resources: " ++ (decimal counts.added ++ (codes " added, " ++ (decimal counts.changed ++ (codes " changed, " ++ (decimal counts.removed ++ codes " destroyed."))))) ≡ summary_words Apply counts imported
none_imported counts imported is =
    let same : codes "Apply complete! Resources: " ++ (decimal counts.added ++ (codes " added, " ++ (decimal counts.changed ++ (codes " changed, " ++ (decimal counts.removed ++ codes " destroyed."))))) ≡ totals_behind [] counts = simp append_assoc in
    same ∙ ap (λ imports. totals_behind imports counts) (nothing_stated imported is)

pub some_imported : (counts : Counts) (imported : ℕ) → (imported ≡ 0 → ⊥)
    → codes "Apply complete! Resources: " ++ (decimal imported ++ (codes " imported, " ++ (decimal counts.added ++ (codes " added, " ++ (decimal counts.changed ++ (codes " changed, " ++ (decimal counts.removed ++ codes " destroyed."))))))) ≡ summary_words Apply counts imported
some_imported counts imported is =
    let same : codes "Apply complete! Resources: " ++ (decimal imported ++ (codes " imported, " ++ (decimal counts.added ++ (codes " added, " ++ (decimal counts.changed ++ (codes " changed, " ++ (decimal counts.removed ++ codes " destroyed."))))))) ≡ totals_behind (decimal imported ++ codes " imported, ") counts = simp append_assoc in
    same ∙ ap (λ imports. totals_behind imports counts) (imports_stated imported is)

-- ---- what a writer of nothing else wrote

pub printed_text : (items before : List ℕ) (start tokens : List Token) (text : List ℕ) → before ≡ [] → start ≡ [] → tokens ≡ start ++ Token.string text ∷ [] → items ≡ before ++ print tokens → items ≡ quoted text
unfolding print_from
printed_text items before start tokens text none begun grown is =
    is ∙ ap (λ b. b ++ print tokens) none ∙ ap print grown ∙ ap (λ s. print (s ++ Token.string text ∷ [])) begun ∙ append-nil (quoted text)
