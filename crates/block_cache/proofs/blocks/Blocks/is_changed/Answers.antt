use Rattle.std.proofs.Common.{◌<◌, sym, subst, arith}
use Rattle.block_cache.specs.Blocks.{View}
use Rattle.keyed_file.specs.Volume.{blocks_of}
use Rattle.block_cache.proofs.FileRows.{label_small}
use Rattle.block_cache.proofs.blocks.Blocks.is_changed.Goals as goal

pub find-requires-clause-file : goal.find-requires-clause-file
find-requires-clause-file g c =
    let within : c.args.n.number < blocks_of c.self.inside.label.files c.args.n.file = subst (λ (v : View g.row.D.Denot). c.args.n.number < blocks_of v.label.files c.args.n.file) (sym c.self.view_is) c.requires in
    (label_small c.self.inside.label c.args.n.file c.self.invariant.1.label (omega (arith, within))).1

pub find-requires-clause-number : goal.find-requires-clause-number
find-requires-clause-number g c =
    let within : c.args.n.number < blocks_of c.self.inside.label.files c.args.n.file = subst (λ (v : View g.row.D.Denot). c.args.n.number < blocks_of v.label.files c.args.n.file) (sym c.self.view_is) c.requires in
    omega (arith, within, (label_small c.self.inside.label c.args.n.file c.self.invariant.1.label (omega (arith, within))).2)
