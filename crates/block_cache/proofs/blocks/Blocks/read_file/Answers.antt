use Rattle.std.proofs.Common.{rules, refl, sym, ap, subst, ◌∙◌}
use Rattle.block_cache.specs.Blocks.{View, Holds}
use Rattle.block_cache.proofs.Loads.{holds_same, valid_same}
use Rattle.block_cache.proofs.blocks.Blocks.read_file.Goals as goal

pub invariant_of-self : goal.invariant_of-self
invariant_of-self g c = (
  c.self.invariant.0,
  valid_same g.D.Disk.tells g.D.Disk.held _ c.read_file.new.device c.self.inside.cache c.self.invariant.1 (c.read_file.ensures.works.tells ∙ ap g.D.Disk.tells c.deref_mut.ensures.value)
      (c.read_file.ensures.same ∙ ap g.D.Disk.held c.deref_mut.ensures.value) c.self.invariant.1.frames (λ file number. refl),
)

pub returns-clause-holds : goal.returns-clause-holds
returns-clause-holds g c = λ landed next holds.
    holds_same g.D.Disk.held _ c.read_file.new.device c.self.inside.cache landed next c.self.invariant.1.label (c.read_file.ensures.same ∙ ap g.D.Disk.held c.deref_mut.ensures.value) (λ file number. refl)
    (subst (λ (v : View g.row.D.Denot). Holds g.D.Disk.held v landed next) (sym c.self.view_is) holds)

pub returns-clause-reads : goal.returns-clause-reads
returns-clause-reads g c = record {
  works = search rules;
  same = search rules;
  label = search rules;
  valid = valid_same g.D.Disk.tells g.D.Disk.held _ c.read_file.new.device c.self.inside.cache c.self.invariant.1 (c.read_file.ensures.works.tells ∙ ap g.D.Disk.tells c.deref_mut.ensures.value)
      (c.read_file.ensures.same ∙ ap g.D.Disk.held c.deref_mut.ensures.value) c.self.invariant.1.frames (λ file number. refl);
}
