-- What nests at most so deep nests at most deeper.
use Rattle.std.proofs.Common.{ℕ, ◌≤◌, List, arith}
use Rattle.apply_model.specs.declared.details.note.Note.{Note}
use Rattle.apply_model.specs.declared.script.diag.Diag.{Diag}
use Rattle.laws_record.specs.Writable.{IsJsonText, IsObjectText, IsWritableDiag, IsWritableNote}
use Rattle.laws_recorded.proofs.EventTexts.{IsRecordedNote}
use Rattle.laws_check.proofs.MemberLists.{weaker}

module _ (few more : ℕ) (fits : few ≤ more) where
  pub deeper_text : (text : List ℕ) → IsJsonText few text → IsJsonText more text
  deeper_text text h = record { json = h.json; text_is = h.text_is; utf8 = h.utf8; numbers = h.numbers; shallow = omega (arith, h.shallow); tree = h.tree; tree_is = h.tree_is }

  deeper_object : (text : List ℕ) → IsObjectText few text → IsObjectText more text
  deeper_object text h = record { json_text = deeper_text text h.json_text; object = h.object }

  pub deeper_diag : (diag : Diag) → IsWritableDiag few diag → IsWritableDiag more diag
  deeper_diag diag h = record {
    summary = h.summary;
    detail = h.detail;
    range = weaker (IsObjectText few) (IsObjectText more) diag.range deeper_object h.range;
    snippet = weaker (IsObjectText few) (IsObjectText more) diag.snippet deeper_object h.snippet;
  }

-- a recorded diagnostic may be written where it is of no step
pub note_of_no_step : (note : Note) → IsRecordedNote note → IsWritableNote note
note_of_no_step note h = record { diag = deeper_diag 119 124 (omega arith) note.diag h.diag; address = h.address }
