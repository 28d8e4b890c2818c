use Rattle.std.proofs.Common.{◌≡◌, ◌∙◌, ap, arith, codes, refl, sym, None, Some}
use Rattle.std.specs.Prelude.{max, min, option_map}
use Rattle.std.specs.Str.Parse.{ExplainsUnsignedError, HasUnsignedDigitsIfOk, ParsesUnsigned}
use Rattle.clap.specs.Matches.{found_of}
use Rattle.clap.specs.Walk.{one_of, rows_of}
use Rattle.clap.proofs.WalkLemmas.{one_text-rows}
use Rattle.apply_cli_args.proofs.Options.{option_is}
use Rattle.apply_cli_args.proofs.invocation.parallelism_of.Goals as goal

pub returns-in-Some-clause-stated : goal.returns-in-Some-clause-stated
returns-in-Some-clause-stated c =
    let matched = found_of c.args.matches.now in
    record {
      none = λ is. let bad : Some c.in-Some.lanes ≡ None = sym c.in-Some.is ∙ c.get_one.ensures.none (one_text-rows matched (codes "parallelism") ∙ is) in cc;
      some = option_is _ (λ text read. ParsesUnsigned 8 10 text read × ExplainsUnsignedError 10 text read × HasUnsignedDigitsIfOk text read)
          8 64 c.get_one.result (Some c.clamp.result) (one_of (codes "parallelism") (rows_of matched)) (λ text read gives. gives.0) (omega arith)
          (λ text is. c.get_one.ensures.value text (one_text-rows matched (codes "parallelism") ∙ is))
          (ap Some c.clamp.ensures ∙ ap (option_map (λ v. max 1 (min v 64))) (sym c.in-Some.is));
    }

pub returns-in-None-clause-stated : goal.returns-in-None-clause-stated
returns-in-None-clause-stated c =
    let matched = found_of c.args.matches.now in
    record {
      none = λ is. refl;
      some = option_is _ (λ text read. ParsesUnsigned 8 10 text read × ExplainsUnsignedError 10 text read × HasUnsignedDigitsIfOk text read)
          8 64 c.get_one.result None (one_of (codes "parallelism") (rows_of matched)) (λ text read gives. gives.0) (omega arith)
          (λ text is. c.get_one.ensures.value text (one_text-rows matched (codes "parallelism") ∙ is))
          (ap (option_map (λ v. max 1 (min v 64))) (sym c.in-None.is));
    }
