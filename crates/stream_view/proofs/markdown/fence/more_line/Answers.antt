use Rattle.std.proofs.Common.{◌≡◌, ◌<◌, [], ◌++◌, ℕ, List, Bool, false, ap, codes, arith, sym}
use Rattle.std.specs.Prelude.{◌==◌, encode_utf8, if◌then◌else◌}
use Rattle.std.proofs.lemmas.Bool.Decides.{nat_tests}
use Rattle.stream_view.specs.Markdown.{more_line}
use Rattle.term_words.specs.Words.{more_words}
use Rattle.term_words.proofs.Appended.{text_all, text_as, text_then}
use Rattle.stream_view.proofs.markdown.fence.more_line.Goals as goal

some : (count : ℕ) (words : List ℕ) → 0 < count → words ≡ (if count == 0 then [] else words)
some count words has =
    let test : (count == 0) ≡ false = grind (arith, nat_tests) in
    sym (ap (λ (none : Bool). if none then [] else words) test)

pub returns-then-count-gt0 : goal.returns-then-count-gt0
unfolding lib.Utf8.encode
returns-then-count-gt0 c =
    let line = c.new-line.result in
    let count = c.args.count in
    let s1 = text_then line c.text.new.self c.text-then-count-gt0.new.self _ _ c.text.ensures c.text-then-count-gt0.ensures in
    let s2 = text_then line c.text-then-count-gt0.new.self c.more_things.new.self _ _ s1 c.more_things.ensures in
    let s3 = text_then line c.more_things.new.self c.text-then-count-gt0-2.new.self _ _ s2 c.text-then-count-gt0-2.ensures in
    let words : List ℕ = encode_utf8 8230 ++ codes " " ++ more_words count (codes "line") ++ codes "\n" in
    text_all line c.text-then-count-gt0-2.new.self (more_line count) c.new-line.ensures
    (text_as line c.text-then-count-gt0-2.new.self words (more_line count) (some count words (omega (arith, c.if-count-gt0.true))) s3)
