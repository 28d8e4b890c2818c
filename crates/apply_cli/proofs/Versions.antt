-- The line of the version, part by part.
use Rattle.std.proofs.Common.{◌≡◌, ◌∙◌, ◌+◌, ◌<◌, ℕ, List, ◌++◌, Result, Ok, Err, OnErr, OnOk, ap, append_assoc, arith, sym, subst}
use Rattle.std.specs.Io.KnownBytes.{Keeps}
use Rattle.std.proofs.KnownBytes.{Appends-kept, Appends-trans}
use Rattle.apply_run.specs.Run.{SinkState}
use Rattle.apply_cli.specs.Version.{IsWritten, IsWrittenInPart}
use Rattle.apply_cli.proofs.Fronts.{prefix_same}

-- a part after what was written
pub written_behind : (before middle after : SinkState) (done part : List ℕ) → IsWritten before middle done → IsWritten middle after part → IsWritten before after (done ++ part)
written_behind before middle after done part first then =
    (Appends-trans before.bytes middle.bytes after.bytes done part first.0 then.0, then.1 ∙ first.1)

-- a prefix of a part after what was written, and of all that was to be written
pub cut_behind : (before middle after : SinkState) (done part : List ℕ) → IsWritten before middle done → IsWrittenInPart middle after part → IsWrittenInPart before after (done ++ part)
cut_behind before middle after done part first cut = record {
  part = done ++ cut.part;
  is_prefix = (cut.is_prefix.0, append_assoc done cut.part cut.is_prefix.0 ∙ ap (λ rest. done ++ rest) cut.is_prefix.1);
  appended = Appends-trans before.bytes middle.bytes after.bytes done cut.part first.0 cut.appended;
  failed = subst (λ n. n < after.failed) first.1 cut.failed;
}

pub cut_before : (before after : SinkState) (part rest : List ℕ) → IsWrittenInPart before after part → IsWrittenInPart before after (part ++ rest)
cut_before before after part rest cut = record {
  part = cut.part;
  is_prefix = (cut.is_prefix.0 ++ rest, sym (append_assoc cut.part cut.is_prefix.0 rest) ∙ ap (λ front. front ++ rest) cut.is_prefix.1);
  appended = cut.appended;
  failed = cut.failed;
}

-- all of it was written, and then flushed
pub flushed : {A E : Type 0} (r : Result A E) (before middle after : SinkState) (line : List ℕ) → IsWritten before middle line → Keeps middle.bytes after.bytes
    → OnOk r (after.failed ≡ middle.failed) → OnOk r (IsWritten before after line)
flushed (Ok x) before middle after line whole unchanged same = (Appends-kept before.bytes middle.bytes after.bytes line whole.0 unchanged, same ∙ whole.1)
flushed (Err e) before middle after line whole unchanged same = tt

-- or the flush failed
pub not_flushed : {A E : Type 0} (r : Result A E) (before middle after : SinkState) (line : List ℕ) → IsWritten before middle line → Keeps middle.bytes after.bytes
    → OnErr r (after.failed ≡ middle.failed + 1) → OnErr r (IsWrittenInPart before after line)
not_flushed (Ok x) before middle after line whole unchanged more = tt
not_flushed (Err e) before middle after line whole unchanged more = record {
  part = line;
  is_prefix = prefix_same line;
  appended = Appends-kept before.bytes middle.bytes after.bytes line whole.0 unchanged;
  failed = omega (arith, more, whole.1);
}

-- what is so is so of an error
pub on_err : {A E P : Type 0} (r : Result A E) → P → OnErr r P
on_err (Ok x) is = tt
on_err (Err e) is = is
