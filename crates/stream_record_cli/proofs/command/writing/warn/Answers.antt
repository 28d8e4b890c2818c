use Rattle.std.proofs.Common.{ℕ, List, Option, Result, Ok, Err, arith, length, subst, sym, take}
use Rattle.std.specs.Prelude.{OnErr, OnOk}
use Rattle.std.specs.Io.KnownBytes.{Appends}
use Rattle.std.proofs.lemmas.List.{take_all}
use Rattle.stream_record_cli.proofs.command.writing.warn.Goals as goal

-- all of it was written, or a beginning
begun : {A E : Type 0} (made : Result A E) (before after : Option (List ℕ)) (text : List ℕ) → OnOk made (Appends before after text)
    → OnErr made ((n : ℕ) × Appends before after (take n text)) → (n : ℕ) × Appends before after (take n text)
begun (Ok done) before after text all part = (length text, subst (Appends before after) (sym (take_all (length text) text (omega arith))) all)
begun (Err failed) before after text all part = part

pub returns-clause-part : goal.returns-clause-part
returns-clause-part g c =
    begun c.write_whole.result (g.E.Write.contents c.args.faults.now) (g.E.Write.contents c.write_whole.new.out) c.args.warnings.now c.write_whole.ensures.ok c.write_whole.ensures.part
