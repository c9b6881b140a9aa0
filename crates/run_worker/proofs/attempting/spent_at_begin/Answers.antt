use Rattle.std.proofs.Common.{◌∙◌}
use Rattle.run_worker.proofs.Beginning.{spent_told, unspent_told}
use Rattle.run_worker.proofs.attempting.spent_at_begin.Goals as goal

pub returns-clause-some : goal.returns-clause-some
returns-clause-some g c =
    let new = c.events-monitor.new.caller in
    spent_told g.J.NodeRun.found.config c.args.tx c.args.shared.now.node.now.steps c.args.shared.now.node.now.monitor new (c.events-monitor.ensures.grown.part ∙ c.requires.own) c.requires.node c.requires.valid.steps.below
    c.counted-worker.result c.events-monitor.result c.counted-worker.ensures c.events-monitor.ensures.count c.first_spent.result c.first_spent.ensures

pub returns-clause-none : goal.returns-clause-none
returns-clause-none g c =
    let new = c.events-monitor.new.caller in
    unspent_told g.J.NodeRun.found.config c.args.tx c.args.shared.now.node.now.steps c.args.shared.now.node.now.monitor new (c.events-monitor.ensures.grown.part ∙ c.requires.own) c.requires.node c.requires.valid.steps.below
    c.counted-worker.result c.events-monitor.result c.counted-worker.ensures c.events-monitor.ensures.count c.first_spent.result c.first_spent.ensures

pub returns-clause-grown : goal.returns-clause-grown
returns-clause-grown g c = (c.events-monitor.ensures.grown, c.events-monitor.ensures.learned)
