use Rattle.std.proofs.Common.{◌≡◌, ◌∙◌, ap, codes, refl, sym, true, false, Option, Some, None, ℕ, List}
use Rattle.std.specs.Str.{bytes_eq}
use Rattle.clap.specs.Matches.{found_of}
use Rattle.clap.specs.Walk.{first_of, rows_of}
use Rattle.clap.proofs.WalkLemmas.{first_value-rows}
use Rattle.stream_tool.specs.Words.{unless_dash}
use Rattle.stream_tool.proofs.arguments.file_of.Goals as goal

dash_is_none : (o : Option (List ℕ)) (name : List ℕ) → Some name ≡ o → bytes_eq name (codes "-") ≡ true → None ≡ unless_dash o
dash_is_none o name found is = rw (← found, is) refl

other_stays : (o : Option (List ℕ)) (name : List ℕ) → Some name ≡ o → bytes_eq name (codes "-") ≡ false → Some name ≡ unless_dash o
other_stays o name found not = rw (← found, not) refl

pub returns-then-eq : goal.returns-then-eq
returns-then-eq c =
    dash_is_none (first_of (codes "file") (rows_of (found_of c.args.matches.now))) c.in-Some.file.now
    (c.in-Some.ensures ∙ first_value-rows (found_of c.args.matches.now) (codes "file")) (sym c.if-eq.ensures)

pub returns-in_ok-from_str-in-Some : goal.returns-in_ok-from_str-in-Some
returns-in_ok-from_str-in-Some c =
    ap Some c.in_ok-from_str-in-Some.ensures.ok
    ∙ other_stays (first_of (codes "file") (rows_of (found_of c.args.matches.now))) c.in-Some.file.now
    (c.in-Some.ensures ∙ first_value-rows (found_of c.args.matches.now) (codes "file")) (sym c.if-eq.ensures)

none_stays : (o : Option (List ℕ)) → None ≡ o → None ≡ unless_dash o
none_stays o none = rw (← none) refl

pub returns-in-None : goal.returns-in-None
returns-in-None c =
    none_stays (first_of (codes "file") (rows_of (found_of c.args.matches.now)))
    (c.in-None.ensures ∙ first_value-rows (found_of c.args.matches.now) (codes "file"))
