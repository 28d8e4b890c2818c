use Rattle.std.proofs.Common.{◌≡◌, ◌<◌, ◌+◌, ℕ, Bool, drop, length, take, true, nat_lt, if◌then◌else◌, arith, subst}
use Rattle.std.proofs.lemmas.Bool.{lt-ltb}
use Rattle.std.proofs.lemmas.List.{take-append-drop}
use Rattle.apply_cli.proofs.version.write_part.Goals as goal

one_more : (cut : Bool) (old new : ℕ) → cut ≡ true → new ≡ old + (if cut then 1 else 0) → old < new
one_more cut old new is failed = let one : new ≡ old + 1 = subst (λ b. new ≡ old + (if b then 1 else 0)) is failed in omega (arith, one)

pub returns-then-write_all-part-clause-err : goal.returns-then-write_all-part-clause-err
returns-then-write_all-part-clause-err g c =
    let n = c.write_all.result in
    let bytes = c.args.part.now in
    let cut : nat_lt n (length bytes) ≡ true = lt-ltb n (length bytes) c.if-write_all-part.true in
    record {
      part = take n bytes;
      is_prefix = (drop n bytes, take-append-drop n bytes);
      appended = c.write_all.ensures.appends;
      failed = one_more (nat_lt n (length bytes)) c.args.out.now.failures c.write_all.new.sink.failures cut c.write_all.ensures.failed;
    }
