use Rattle.volume_tests.proofs.Calm.{loads-calm}
use Rattle.volume_tests.proofs.blocks.read_in.Goals as goal

pub returns-clause-calm : goal.returns-clause-calm
returns-clause-calm c = loads-calm c.args.file c.from.result c.args.blocks.now.cache c.load.new.self.cache c.requires.calm c.in_ok-load.ensures.loaded.loads
