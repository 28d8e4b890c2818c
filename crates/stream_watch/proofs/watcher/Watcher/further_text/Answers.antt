use Rattle.stream_watch.proofs.Told.{further_one}
use Rattle.stream_watch.proofs.watcher.Watcher.further_text.Goals as goal

pub returns : goal.returns
returns c = λ words has. further_one c.args.self.now _ c.args.mark words (c.further.ensures words has)
