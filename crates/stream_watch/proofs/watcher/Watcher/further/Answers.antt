use Rattle.std.proofs.Common.{refl}
use Rattle.stream_watch.proofs.Tellings.{looks_same}
use Rattle.stream_watch.proofs.watcher.Watcher.further.Goals as goal

pub returns : goal.returns
returns c = λ words has.
    let old = c.args.self.now in
    let told = c.further.ensures words has in
    record {
      looks = looks_same old (record old { printer = c.further.new.self }) _ refl told;
      find = refl;
      state = refl;
      bytes = told.printed;
    }
