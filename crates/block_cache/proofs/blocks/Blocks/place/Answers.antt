use Rattle.std.proofs.Common.{◌≡◌, ◌<◌, ℕ, true, None, Some, refl, sym, subst, arith}
use Rattle.std.specs.Prelude.{IsSome, IsTrue}
use Rattle.keyed_file.specs.Block.{KeyedBlock}
use Rattle.keyed_file.specs.BlockFormat.{is_at_home}
use Rattle.keyed_file.specs.Volume.{blocks_of}
use Rattle.block_cache.specs.Blocks.{Holds, View, home_of}
use Rattle.block_cache.specs.Cache.{Replaces, entry_at, victim_of}
use Rattle.block_cache.specs.Shows.{NamesSlot}
use Rattle.block_cache.proofs.FileRows.{label_small}
use Rattle.block_cache.proofs.Loads.{holds_placed, missing_frame, valid_read}
use Rattle.block_cache.proofs.blocks.Blocks.place.Goals as goal

below : {D : Type 0} (now view : View D) (file number : ℕ) → view ≡ now → number < blocks_of now.label.files file → number < blocks_of view.label.files file
below {D = D} now view file number same lt = subst (λ (v : View D). number < blocks_of v.label.files file) (sym same) lt

pub place-requires-clause-file : goal.place-requires-clause-file
place-requires-clause-file g c = (label_small c.self.inside.label c.args.n.file c.self.invariant.1.label (omega (arith, below c.args.self.now _ c.args.n.file c.args.n.number c.self.view_is c.requires.block))).1

pub place-requires-clause-number : goal.place-requires-clause-number
place-requires-clause-number g c =
    let lt = below c.args.self.now _ c.args.n.file c.args.n.number c.self.view_is c.requires.block in
    omega (arith, lt, (label_small c.self.inside.label c.args.n.file c.self.invariant.1.label (omega (arith, lt))).2)

pub place-requires-clause-room : goal.place-requires-clause-room
place-requires-clause-room g c = subst (λ (v : View g.row.D.Denot). IsSome (victim_of v.cache)) (sym c.self.view_is) c.requires.room

pub place-requires-clause-missing : goal.place-requires-clause-missing
place-requires-clause-missing g c = missing_frame c.self.inside.cache c.args.n.file c.args.n.number c.self.invariant.1.frames
    (subst (λ (v : View g.row.D.Denot). entry_at v.cache c.args.n.file c.args.n.number ≡ None) (sym c.self.view_is) c.requires.uncached)

pub invariant_of-self : goal.invariant_of-self
invariant_of-self g c = (
  c.self.invariant.0,
  valid_read g.D.Disk.tells g.D.Disk.held _ c.self.inside.device.value c.place.new.self c.self.invariant.1 refl refl c.place.ensures.valid c.args.n.file c.args.n.number c.place.ensures.entry.0 c.place.ensures.entry.1 c.place.ensures.entry.2.settled
      (record {
        within = below c.args.self.now _ c.args.n.file c.args.n.number c.self.view_is c.requires.block;
        home = subst (λ (b : KeyedBlock). is_at_home (Some (record { file = c.args.n.file; number = c.args.n.number; blocks = blocks_of c.self.inside.label.files c.args.n.file })) b ≡ true) (sym c.place.ensures.entry.2.block)
            (subst (λ (v : View g.row.D.Denot). is_at_home (Some (home_of v c.args.n.file c.args.n.number)) c.args.content ≡ true) (sym c.self.view_is) c.requires.home);
      })
      (λ told.
      let named = subst (λ (v : View g.row.D.Denot). IsTrue (g.D.Disk.tells v.device) → NamesSlot (home_of v c.args.n.file c.args.n.number) c.args.slot (g.D.Disk.held v.device)) (sym c.self.view_is) c.requires.named told in
      (named.0, named.1, named.2.0)),
)

pub returns-clause-valid : goal.returns-clause-valid
returns-clause-valid g c = (invariant_of-self g c).1

pub returns-clause-placed : goal.returns-clause-placed
returns-clause-placed g c = (
  c.place.ensures.entry.0,
  subst (λ (v : View g.row.D.Denot). Replaces v.cache c.place.new.self c.args.n.file c.args.n.number c.place.ensures.entry.0) c.self.view_is c.place.ensures.entry.1,
  c.place.ensures.entry.2,
)

pub returns-clause-holds : goal.returns-clause-holds
returns-clause-holds g c = λ landed next told holds.
    holds_placed g.D.Disk.held _ c.self.inside.device.value c.place.new.self landed next c.self.invariant.1.label refl c.args.n.file c.args.n.number c.args.slot c.args.content c.place.ensures.entry.0
    (below c.args.self.now _ c.args.n.file c.args.n.number c.self.view_is c.requires.block)
    (subst (λ (v : View g.row.D.Denot). entry_at v.cache c.args.n.file c.args.n.number ≡ None) (sym c.self.view_is) c.requires.uncached)
    (subst (λ (v : View g.row.D.Denot). NamesSlot (home_of v c.args.n.file c.args.n.number) c.args.slot (g.D.Disk.held v.device)) (sym c.self.view_is) (c.requires.named told))
    c.place.ensures.entry.2 c.place.ensures.entry.1
    (subst (λ (v : View g.row.D.Denot). Holds g.D.Disk.held v landed next) (sym c.self.view_is) holds)
