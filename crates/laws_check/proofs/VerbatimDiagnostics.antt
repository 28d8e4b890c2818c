-- Diagnostics that were read: their texts, and their verbatim texts.
use Rattle.std.proofs.Common.{ℕ, List, Option, Some, None}
use Rattle.std.specs.Prelude.{IfSome}
use Rattle.serde_json.specs.Data.{Data}
use Rattle.apply_model.specs.declared.script.diag.Diag.{Diag}
use Rattle.laws_check.specs.Forms.{IsOptionalVerbatim}
use Rattle.laws_check.specs.FormTexts.{HasVerbatimTexts, IsValueText}
use Rattle.laws_check.specs.Texts.{HasDiagTexts}

abbrev pub HasStatedDiagnostic : Diag → Type 0
HasStatedDiagnostic diag = HasDiagTexts diag × HasVerbatimTexts diag

-- a verbatim text, or none
abbrev pub MayKeep : Option (List ℕ) → Type 0
MayKeep text = IfSome text IsValueText

value_of : (o : Option (List ℕ)) → MayKeep o → (value : Option Data) × IsOptionalVerbatim o value
value_of None h = (None, tt)
value_of (Some text) h = (Some h.0, h.1)

pub has_verbatim : (summary detail : List ℕ) (range snippet : Option (List ℕ)) → MayKeep range → MayKeep snippet → HasVerbatimTexts (record { summary = summary; detail = detail; range = range; snippet = snippet })
has_verbatim summary detail range snippet one other =
    let r = value_of range one in
    let s = value_of snippet other in
    (r.0, s.0, record { range_is = r.1; snippet_is = s.1 })
