-- The text of a script, entry by entry.
use Rattle.std.proofs.Common.{◌≡◌, ◌∙◌, ◌+◌, ◌<◌, ◌≤◌, ℕ, [], ◌++◌, List, Bool, false, true, Some, None, Ok, Err, Option, Result, ap, append_assoc, arith, drop, length, refl, sym}
use Rattle.std.specs.Prelude.{codes, if◌then◌else◌, nat_lt, slice_get}
use Rattle.std.proofs.lemmas.Bool.Decides.{nat_tests}
use Rattle.std.proofs.lemmas.List.{drop_all}
use Rattle.apply_model.specs.declared.details.note.Note.{Note}
use Rattle.apply_model.specs.declared.script.script_step.ScriptStep.{ScriptStep}
use Rattle.apply_model.specs.Plan.ResourceChange.{ResourceChange}
use Rattle.apply_model.specs.Script.OutcomeMap.{OutcomeMap}
use Rattle.term_words.specs.MessageTexts.{AppendsText, HasText, is_whole_text, text_bytes}
use Rattle.term_words.specs.declared.message_text.MessageText.{MessageText}
use Rattle.term_words.proofs.Appended.{text_more, text_then}
use Rattle.stream_record.specs.declared.output.Output.{Output}
use Rattle.stream_record.specs.declared.script_fault.ScriptFault.{ScriptFault}
use Rattle.stream_record.specs.declared.script_fault.ScriptFault.TheVariants.{TooLarge}
use Rattle.stream_record.specs.Parts.{list_text, opening}
use Rattle.stream_record.specs.ScriptText.{entries_text, entry_before, entry_steps, entry_text, entry_texts, max_bytes, notes_text, outputs_text, script_text, script_within}
use Rattle.stream_record.proofs.Begun.{Begun, begun_as, begun_more, begun_within}
use Rattle.stream_record.proofs.Items.{drop_item}

nothing : (later : Bool) → list_text [] [] later [] ≡ []
nothing true = refl
nothing false = refl

module _ (changes : List ResourceChange) (script : OutcomeMap) (outputs : List Output) (notes : List Note) where
  -- what follows the entries
  abbrev pub tail : List ℕ
  tail = codes "]" ++ outputs_text outputs ++ notes_text notes ++ codes "}\n"

  abbrev pub whole : List ℕ
  whole = script_text changes script outputs notes

  -- what is left to be written from the entry of a change on
  abbrev pub left : (later : Bool) (number : ℕ) → List ℕ
  left later number = list_text [] [] later (entry_texts changes script number (drop number changes)) ++ tail

  -- ---- the beginning and the end

  pub front_is : codes "{\"changes\":[" ++ left false 0 ≡ whole
  front_is =
      let front = codes "{\"changes\":[" in
      let entries = entries_text changes script in
      let out = outputs_text outputs in
      let told = notes_text notes in
      sym (append_assoc front entries tail)
      ∙ sym (append_assoc (front ++ entries) (codes "]" ++ out ++ told) (codes "}\n"))
      ∙ ap (λ (t : List ℕ). t ++ codes "}\n")
      (sym (append_assoc (front ++ entries) (codes "]" ++ out) told)
      ∙ ap (λ (t : List ℕ). t ++ told) (sym (append_assoc (front ++ entries) (codes "]") out)))

  pub end_has : (later : Bool) (number : ℕ) (a b c d e : MessageText) → length changes ≤ number
      → Begun (left later number) whole a → AppendsText a b (codes "]") → AppendsText b c (outputs_text outputs)
      → AppendsText c d (notes_text notes) → AppendsText d e (codes "}\n") → HasText e whole
  end_has later number a b c d e ends before bracket written_outputs written_notes end is_whole =
      let none : list_text [] [] later (entry_texts changes script number (drop number changes)) ≡ [] =
      ap (λ (cs : List ResourceChange). list_text [] [] later (entry_texts changes script number cs)) (drop_all number changes ends)
      ∙ nothing later in
      let all : Begun tail whole a = begun_as _ _ whole a (sym (ap (λ (t : List ℕ). t ++ tail) none)) before in
      let more = text_then a d e _ _ (text_then a c d _ _ (text_then a b c _ _ bracket written_outputs) written_notes) end in
      text_more a e all.front tail all.has more is_whole ∙ all.is

  -- ---- an entry

  module _ (later : Bool) (number : ℕ) (change : ResourceChange) (is : Some change ≡ slice_get changes number) where
    abbrev after : List (List ℕ)
    after = entry_texts changes script (number + 1) (drop (number + 1) changes)

    pub entry_begun : (steps : List ScriptStep) (a b c : MessageText) → Some steps ≡ entry_steps script number
        → Begun (left later number) whole a → AppendsText a b (opening [] later) → AppendsText b c (entry_text changes change steps)
        → Begun (left true (number + 1)) whole c
    entry_begun steps a b c has before opened entry =
        let own = entry_text changes change steps in
        let rest = list_text [] [] true after in
        let is_more : left later number ≡ opening [] later ++ (own ++ (rest ++ tail)) =
        ap (λ (cs : List ResourceChange). list_text [] [] later (entry_texts changes script number cs) ++ tail) (drop_item changes number change is)
        ∙ ap (λ (o : Option (List ScriptStep)). list_text [] [] later (entry_before changes change o after) ++ tail) (sym has)
        ∙ append_assoc (opening [] later) (own ++ rest) tail
        ∙ ap (λ (t : List ℕ). opening [] later ++ t) (append_assoc own rest tail) in
        begun_more own (rest ++ tail) whole b c
        (begun_more (opening [] later) (own ++ (rest ++ tail)) whole a b (begun_as _ _ whole a (sym is_more) before) opened) entry

    pub none_begun : (a : MessageText) → None ≡ entry_steps script number → Begun (left later number) whole a
        → Begun (left later (number + 1)) whole a
    none_begun a none before =
        begun_as _ _ whole a
        (sym
        (ap (λ (cs : List ResourceChange). list_text [] [] later (entry_texts changes script number cs) ++ tail) (drop_item changes number change is)
        ∙ ap (λ (o : Option (List ScriptStep)). list_text [] [] later (entry_before changes change o after) ++ tail) (sym none)))
        before

  -- ---- the size

  pub script_large : max_bytes < length whole → script_within changes script outputs notes ≡ Err TooLarge
  script_large large =
      let b : nat_lt max_bytes (length whole) ≡ true = grind (arith, nat_tests) in
      ap (λ (is_large : Bool). let r : Result (List ℕ) ScriptFault = if is_large then Err TooLarge else Ok whole in r) b

  pub begun_large : (rest : List ℕ) (a : MessageText) (fault : ScriptFault) → Begun rest whole a
      → (fault ≡ TooLarge) × (is_whole_text a ≡ true) × (max_bytes < length (text_bytes a))
      → script_within changes script outputs notes ≡ Err fault
  begun_large rest a fault before large =
      let within = begun_within rest whole a before large.1 in
      let above : max_bytes < length whole = omega (arith, within, large.2) in
      script_large above ∙ ap (λ (f : ScriptFault). let r : Result (List ℕ) ScriptFault = Err f in r) (sym large.0)
