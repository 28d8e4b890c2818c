use Rattle.std.proofs.Common.{◌≡◌, ◌++◌, List, Result, Ok, Err, ℕ, codes, cond, string_bytes}
use Rattle.std.specs.Prelude.{OnOk, is_ok}
use Rattle.term_text.proofs.markup.push_markup_escaped.Goals as goal

on_ok : {E : Type 0} (r : Result Unit E) (old new more : List ℕ) → new ≡ cond (is_ok r) (old ++ more) old → OnOk r (new ≡ old ++ more)
on_ok (Ok done) old new more grown = grown
on_ok (Err e) old new more grown = tt

pub returns-in-60 : goal.returns-in-60
returns-in-60 c =
    rw c.in-60.is (on_ok c.push_str-in-60.result (string_bytes c.args.markup.now) (string_bytes c.push_str-in-60.new.self) (codes "&lt;") c.push_str-in-60.ensures.bytes)
