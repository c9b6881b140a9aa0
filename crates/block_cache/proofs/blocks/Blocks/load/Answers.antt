use Rattle.std.proofs.Common.{rules, ◌≡◌, ◌<◌, ◌≤◌, ◌+◌, ℕ, List, Option, None, length, refl, sym, ap, subst, ◌∙◌, arith}
use Rattle.std.specs.Prelude.{IsTrue, Some, slice_get, slice_index}
use Rattle.std.specs.Option.{option_and_then}
use Rattle.disk_model.specs.Held.{Held, IsThere}
use Rattle.tmf_model.specs.Config.{IsWithin}
use Rattle.keyed_file.specs.declared.block.TheConstants.{BLOCK_BYTES}
use Rattle.block_cache.specs.declared.frame.Frame.{Frame}
use Rattle.block_cache.specs.Blocks.{View, Holds, content_in, home_of}
use Rattle.block_cache.specs.Damage.{IsRead}
use Rattle.block_cache.specs.Shows.{SpellsContent}
use Rattle.block_cache.specs.Cache.{IsTaken, Loads, entry_at, place_of}
use Rattle.keyed_file.specs.Layout.{block_pair, bytes_at, data_length, selected_by, slot_at}
use Rattle.keyed_file.specs.Volume.{blocks_of}
use Rattle.block_cache.proofs.FileRows.{label_small}
use Rattle.block_cache.proofs.Loads.{same_entries, holds_same, holds_read, content_read, valid_same, valid_read, loads_same, loads_read}
use Rattle.block_cache.proofs.Places.{on_err, some_is}
use Rattle.block_cache.proofs.Shown.{shows-taken}
use Rattle.block_cache.proofs.blocks.Blocks.load.Goals as goal

within : {D : Type 0} (now view : View D) (file number : ℕ) → view ≡ now → number < blocks_of now.label.files file → number < blocks_of view.label.files file
within {D = D} now view file number same lt = subst (λ (v : View D). number < blocks_of v.label.files file) (sym same) lt

-- what was read, on the device of the view and with the blocks of its label
read_view : {D : Type 0} (held : D → Held) (first device : D) → first ≡ device → (file number blocks blocks' : ℕ) → blocks ≡ blocks' → (slot : ℕ) (bytes : List ℕ)
    → IsThere (held first) (1 + file) (λ f. (data_length blocks ≤ length f.bytes) × IsRead (record { file = file; number = number; blocks = blocks }) f.bytes slot BLOCK_BYTES bytes)
    → IsThere (held device) (1 + file) (λ f. (slot ≡ selected_by (slice_index f.bytes number)) × (data_length blocks' ≤ length f.bytes) × (bytes ≡ bytes_at (slot_at (block_pair file number) slot) BLOCK_BYTES f.bytes))
read_view held first device is file number blocks blocks' same slot bytes there = (there.0, ap (λ d. held d (1 + file)) (sym is) ∙ there.1, (there.2.1.named, subst (λ (b : ℕ). data_length b ≤ length there.0.bytes) same there.2.0, there.2.1.spelled (omega arith)))

pub find-requires-clause-file : goal.find-requires-clause-file
find-requires-clause-file g c = (label_small c.self.inside.label c.args.n.file c.self.invariant.1.label (omega (arith, (within c.args.self.now _ c.args.n.file c.args.n.number c.self.view_is c.requires.block)))).1

pub find-requires-clause-number : goal.find-requires-clause-number
find-requires-clause-number g c = (omega (arith, (within c.args.self.now _ c.args.n.file c.args.n.number c.self.view_is c.requires.block), (label_small c.self.inside.label c.args.n.file c.self.invariant.1.label (omega (arith, (within c.args.self.now _ c.args.n.file c.args.n.number c.self.view_is c.requires.block)))).2))

pub read_block-requires-clause-number : goal.read_block-requires-clause-number
read_block-requires-clause-number g c = subst (λ (blocks : ℕ). c.args.n.number < blocks) (sym (c.blocks_in.ensures ∙ ap (λ (l : List (ℕ × ℕ)). blocks_of l c.args.n.file) c.as_slice.ensures)) (within c.args.self.now _ c.args.n.file c.args.n.number c.self.view_is c.requires.block)

pub read_block-requires-clause-blocks : goal.read_block-requires-clause-blocks
read_block-requires-clause-blocks g c = subst (IsWithin 1 256) (sym (c.blocks_in.ensures ∙ ap (λ (l : List (ℕ × ℕ)). blocks_of l c.args.n.file) c.as_slice.ensures)) (record { above = omega (arith, (within c.args.self.now _ c.args.n.file c.args.n.number c.self.view_is c.requires.block)); below = (label_small c.self.inside.label c.args.n.file c.self.invariant.1.label (omega (arith, (within c.args.self.now _ c.args.n.file c.args.n.number c.self.view_is c.requires.block)))).2 })

pub replace-requires-clause-file : goal.replace-requires-clause-file
replace-requires-clause-file g c = (label_small c.self.inside.label c.args.n.file c.self.invariant.1.label (omega (arith, (within c.args.self.now _ c.args.n.file c.args.n.number c.self.view_is c.requires.block)))).1

pub replace-requires-clause-number : goal.replace-requires-clause-number
replace-requires-clause-number g c = (omega (arith, (within c.args.self.now _ c.args.n.file c.args.n.number c.self.view_is c.requires.block), (label_small c.self.inside.label c.args.n.file c.self.invariant.1.label (omega (arith, (within c.args.self.now _ c.args.n.file c.args.n.number c.self.view_is c.requires.block)))).2))

pub replace-requires-clause-blocks : goal.replace-requires-clause-blocks
replace-requires-clause-blocks g c = subst (IsWithin 1 256) (sym (c.blocks_in.ensures ∙ ap (λ (l : List (ℕ × ℕ)). blocks_of l c.args.n.file) c.as_slice.ensures)) (record { above = omega (arith, (within c.args.self.now _ c.args.n.file c.args.n.number c.self.view_is c.requires.block)); below = (label_small c.self.inside.label c.args.n.file c.self.invariant.1.label (omega (arith, (within c.args.self.now _ c.args.n.file c.args.n.number c.self.view_is c.requires.block)))).2 })

pub invariant_of-self : goal.invariant_of-self
invariant_of-self g c = (c.self.invariant.0, valid_same g.D.Disk.tells g.D.Disk.held _ c.self.inside.device.value c.touch.new.self c.self.invariant.1 refl refl c.touch.ensures.valid (same_entries c.self.inside.cache c.touch.new.self c.touch.ensures.table c.touch.ensures.frames))

pub returns-in-Some-clause-holds : goal.returns-in-Some-clause-holds
returns-in-Some-clause-holds g c = λ landed next told holds. holds_same g.D.Disk.held _ c.self.inside.device.value c.touch.new.self landed next c.self.invariant.1.label refl (same_entries c.self.inside.cache c.touch.new.self c.touch.ensures.table c.touch.ensures.frames) (subst (λ (v : View g.row.D.Denot). Holds g.D.Disk.held v landed next) (sym c.self.view_is) holds)

pub returns-in_err-slot-in-None-clause-holds : goal.returns-in_err-slot-in-None-clause-holds
returns-in_err-slot-in-None-clause-holds g c = λ landed next told holds. holds_same g.D.Disk.held _ c.read_block.new.device c.self.inside.cache landed next c.self.invariant.1.label (c.read_block.ensures.same ∙ ap g.D.Disk.held c.deref_mut.ensures.value) (λ file number. refl) (subst (λ (v : View g.row.D.Denot). Holds g.D.Disk.held v landed next) (sym c.self.view_is) holds)

pub invariant_of-self-in-None : goal.invariant_of-self-in-None
invariant_of-self-in-None g c = (c.read_block.ensures.room, valid_read g.D.Disk.tells g.D.Disk.held _ c.read_block.new.device c.replace.new.self c.self.invariant.1 (c.read_block.ensures.works.tells ∙ ap g.D.Disk.tells c.deref_mut.ensures.value) (c.read_block.ensures.same ∙ ap g.D.Disk.held c.deref_mut.ensures.value) c.replace.ensures.valid c.args.n.file c.args.n.number c.replace.ensures.entry.0 c.replace.ensures.entry.1 c.replace.ensures.entry.2.settled (record { within = (within c.args.self.now _ c.args.n.file c.args.n.number c.self.view_is c.requires.block); home = (subst (λ (b : ℕ). IsTaken (record { file = c.args.n.file; number = c.args.n.number; blocks = b }) c.in_ok-slot-in-None.slot c.as_slice-in-None.result.now c.replace.ensures.entry.0) (c.blocks_in.ensures ∙ ap (λ (l : List (ℕ × ℕ)). blocks_of l c.args.n.file) c.as_slice.ensures) c.replace.ensures.entry.2).at_home }) (λ told. let r = (read_view g.D.Disk.held c.deref_mut.result.now c.self.inside.device.value c.deref_mut.ensures.value c.args.n.file c.args.n.number c.blocks_in.result (blocks_of c.self.inside.label.files c.args.n.file) (c.blocks_in.ensures ∙ ap (λ (l : List (ℕ × ℕ)). blocks_of l c.args.n.file) c.as_slice.ensures) c.in_ok-slot-in-None.slot c.read_block.new.room.items (c.in_ok-slot-in-None.ensures.read (subst (λ (d : g.row.D.Denot). IsTrue (g.D.Disk.tells d)) (sym c.deref_mut.ensures.value) told))) in (r.0, r.1, r.2.1)))

pub returns-in_ok-slot-in-None-clause-holds : goal.returns-in_ok-slot-in-None-clause-holds
returns-in_ok-slot-in-None-clause-holds g c = λ landed next told holds. let r = (read_view g.D.Disk.held c.deref_mut.result.now c.self.inside.device.value c.deref_mut.ensures.value c.args.n.file c.args.n.number c.blocks_in.result (blocks_of c.self.inside.label.files c.args.n.file) (c.blocks_in.ensures ∙ ap (λ (l : List (ℕ × ℕ)). blocks_of l c.args.n.file) c.as_slice.ensures) c.in_ok-slot-in-None.slot c.read_block.new.room.items (c.in_ok-slot-in-None.ensures.read (subst (λ (d : g.row.D.Denot). IsTrue (g.D.Disk.tells d)) (ap (λ (v : View g.row.D.Denot). v.device) (sym c.self.view_is) ∙ sym c.deref_mut.ensures.value) told))) in holds_read g.D.Disk.held _ c.read_block.new.device c.replace.new.self landed next c.self.invariant.1.label (c.read_block.ensures.same ∙ ap g.D.Disk.held c.deref_mut.ensures.value) c.args.n.file c.args.n.number c.in_ok-slot-in-None.slot c.as_slice-in-None.result.now c.replace.ensures.entry.0 r.0 (within c.args.self.now _ c.args.n.file c.args.n.number c.self.view_is c.requires.block) r.1 (ap (option_and_then (slice_get c.self.inside.cache.frames)) (sym c.in-None.ensures.frame)) r.2.0 (c.as_slice-in-None.ensures.value ∙ r.2.2) (subst (λ (b : ℕ). IsTaken (record { file = c.args.n.file; number = c.args.n.number; blocks = b }) c.in_ok-slot-in-None.slot c.as_slice-in-None.result.now c.replace.ensures.entry.0) (c.blocks_in.ensures ∙ ap (λ (l : List (ℕ × ℕ)). blocks_of l c.args.n.file) c.as_slice.ensures) c.replace.ensures.entry.2) (subst (λ (v : View g.row.D.Denot). Holds g.D.Disk.held v landed next) (sym c.self.view_is) holds) c.replace.ensures.entry.1

pub returns-in_ok-slot-in-None-clause-content : goal.returns-in_ok-slot-in-None-clause-content
returns-in_ok-slot-in-None-clause-content g c = λ landed next told holds f found.
    let r = (read_view g.D.Disk.held c.deref_mut.result.now c.self.inside.device.value c.deref_mut.ensures.value c.args.n.file c.args.n.number c.blocks_in.result (blocks_of c.self.inside.label.files c.args.n.file) (c.blocks_in.ensures ∙ ap (λ (l : List (ℕ × ℕ)). blocks_of l c.args.n.file) c.as_slice.ensures) c.in_ok-slot-in-None.slot c.read_block.new.room.items (c.in_ok-slot-in-None.ensures.read (subst (λ (d : g.row.D.Denot). IsTrue (g.D.Disk.tells d)) (ap (λ (v : View g.row.D.Denot). v.device) (sym c.self.view_is) ∙ sym c.deref_mut.ensures.value) told))) in
    let is : c.replace.ensures.entry.0 ≡ f = some_is c.replace.ensures.entry.0 f (sym c.replace.ensures.entry.1.entry ∙ found) in
    let none : entry_at c.args.self.now.cache c.args.n.file c.args.n.number ≡ None = ap (λ (v : View g.row.D.Denot). entry_at v.cache c.args.n.file c.args.n.number) (sym c.self.view_is) ∙ (ap (option_and_then (slice_get c.self.inside.cache.frames)) (sym c.in-None.ensures.frame)) in
    ap (λ (x : Frame). x.block) (sym is) ∙ content_read g.D.Disk.held _ c.read_block.new.device c.replace.new.self landed next c.self.invariant.1.label (c.read_block.ensures.same ∙ ap g.D.Disk.held c.deref_mut.ensures.value) c.args.n.file c.args.n.number c.in_ok-slot-in-None.slot c.as_slice-in-None.result.now c.replace.ensures.entry.0 r.0 (within c.args.self.now _ c.args.n.file c.args.n.number c.self.view_is c.requires.block) r.1 (ap (option_and_then (slice_get c.self.inside.cache.frames)) (sym c.in-None.ensures.frame)) r.2.0 (c.as_slice-in-None.ensures.value ∙ r.2.2) (subst (λ (b : ℕ). IsTaken (record { file = c.args.n.file; number = c.args.n.number; blocks = b }) c.in_ok-slot-in-None.slot c.as_slice-in-None.result.now c.replace.ensures.entry.0) (c.blocks_in.ensures ∙ ap (λ (l : List (ℕ × ℕ)). blocks_of l c.args.n.file) c.as_slice.ensures) c.replace.ensures.entry.2) (subst (λ (v : View g.row.D.Denot). Holds g.D.Disk.held v landed next) (sym c.self.view_is) holds) ∙ ap (λ (o : Option Frame). content_in o (landed c.args.n.file c.args.n.number)) (sym none)

pub returns-in-Some-clause-loaded : goal.returns-in-Some-clause-loaded
returns-in-Some-clause-loaded g c = record {
  there = ((omega (arith, (within c.args.self.now _ c.args.n.file c.args.n.number c.self.view_is c.requires.block), (label_small c.self.inside.label c.args.n.file c.self.invariant.1.label (omega (arith, (within c.args.self.now _ c.args.n.file c.args.n.number c.self.view_is c.requires.block)))).2)), ((c.self.invariant.1.frames.held (place_of c.args.n.file c.args.n.number) c.in-Some.frame (sym c.in-Some.ensures.frame)).0, (same_entries c.self.inside.cache c.touch.new.self c.touch.ensures.table c.touch.ensures.frames) c.args.n.file c.args.n.number ∙ ap (option_and_then (slice_get c.self.inside.cache.frames)) (sym c.in-Some.ensures.frame) ∙ (c.self.invariant.1.frames.held (place_of c.args.n.file c.args.n.number) c.in-Some.frame (sym c.in-Some.ensures.frame)).1, tt));
  loads =
      let held = c.self.invariant.1.frames.held (place_of c.args.n.file c.args.n.number) c.in-Some.frame (sym c.in-Some.ensures.frame) in
      subst (λ (v : View g.row.D.Denot). Loads v.cache c.touch.new.self c.args.n.file c.args.n.number) c.self.view_is
      (loads_same c.self.inside.cache c.touch.new.self c.args.n.file c.args.n.number held.0 (same_entries c.self.inside.cache c.touch.new.self c.touch.ensures.table c.touch.ensures.frames)
      (ap (option_and_then (slice_get c.self.inside.cache.frames)) (sym c.in-Some.ensures.frame) ∙ held.1));
  serves = search rules;
}

pub returns-in_ok-slot-in-None-clause-loaded : goal.returns-in_ok-slot-in-None-clause-loaded
returns-in_ok-slot-in-None-clause-loaded g c = record {
  there = ((omega (arith, (within c.args.self.now _ c.args.n.file c.args.n.number c.self.view_is c.requires.block), (label_small c.self.inside.label c.args.n.file c.self.invariant.1.label (omega (arith, (within c.args.self.now _ c.args.n.file c.args.n.number c.self.view_is c.requires.block)))).2)), (c.replace.ensures.entry.0, c.replace.ensures.entry.1.entry, tt));
  loads =
      subst (λ (v : View g.row.D.Denot). Loads v.cache c.replace.new.self c.args.n.file c.args.n.number) c.self.view_is
      (loads_read c.self.inside.cache c.replace.new.self c.args.n.file c.args.n.number c.replace.ensures.entry.0 (ap (option_and_then (slice_get c.self.inside.cache.frames)) (sym c.in-None.ensures.frame))
      c.replace.ensures.entry.1 c.replace.ensures.entry.2.clean c.replace.ensures.entry.2.settled);
  serves = search rules;
}

pub returns-in-Some-clause-reads : goal.returns-in-Some-clause-reads
returns-in-Some-clause-reads g c = record {
  works = search rules;
  same = search rules;
  label = search rules;
  valid = valid_same g.D.Disk.tells g.D.Disk.held _ c.self.inside.device.value c.touch.new.self c.self.invariant.1 refl refl c.touch.ensures.valid (same_entries c.self.inside.cache c.touch.new.self c.touch.ensures.table c.touch.ensures.frames);
}

pub returns-in_ok-slot-in-None-clause-reads : goal.returns-in_ok-slot-in-None-clause-reads
returns-in_ok-slot-in-None-clause-reads g c = record {
  works = search rules;
  same = search rules;
  label = search rules;
  valid = valid_read g.D.Disk.tells g.D.Disk.held _ c.read_block.new.device c.replace.new.self c.self.invariant.1 (c.read_block.ensures.works.tells ∙ ap g.D.Disk.tells c.deref_mut.ensures.value) (c.read_block.ensures.same ∙ ap g.D.Disk.held c.deref_mut.ensures.value) c.replace.ensures.valid c.args.n.file c.args.n.number c.replace.ensures.entry.0 c.replace.ensures.entry.1 c.replace.ensures.entry.2.settled (record { within = (within c.args.self.now _ c.args.n.file c.args.n.number c.self.view_is c.requires.block); home = (subst (λ (b : ℕ). IsTaken (record { file = c.args.n.file; number = c.args.n.number; blocks = b }) c.in_ok-slot-in-None.slot c.as_slice-in-None.result.now c.replace.ensures.entry.0) (c.blocks_in.ensures ∙ ap (λ (l : List (ℕ × ℕ)). blocks_of l c.args.n.file) c.as_slice.ensures) c.replace.ensures.entry.2).at_home }) (λ told. let r = (read_view g.D.Disk.held c.deref_mut.result.now c.self.inside.device.value c.deref_mut.ensures.value c.args.n.file c.args.n.number c.blocks_in.result (blocks_of c.self.inside.label.files c.args.n.file) (c.blocks_in.ensures ∙ ap (λ (l : List (ℕ × ℕ)). blocks_of l c.args.n.file) c.as_slice.ensures) c.in_ok-slot-in-None.slot c.read_block.new.room.items (c.in_ok-slot-in-None.ensures.read (subst (λ (d : g.row.D.Denot). IsTrue (g.D.Disk.tells d)) (sym c.deref_mut.ensures.value) told))) in (r.0, r.1, r.2.1));
}

pub returns-in-Some-clause-shows : goal.returns-in-Some-clause-shows
returns-in-Some-clause-shows g c = λ told none f found.
    let held = c.self.invariant.1.frames.held (place_of c.args.n.file c.args.n.number) c.in-Some.frame (sym c.in-Some.ensures.frame) in
    let there : entry_at c.args.self.now.cache c.args.n.file c.args.n.number ≡ Some held.0 =
    ap (λ (v : View g.row.D.Denot). entry_at v.cache c.args.n.file c.args.n.number) (sym c.self.view_is) ∙ ap (option_and_then (slice_get c.self.inside.cache.frames)) (sym c.in-Some.ensures.frame) ∙ held.1 in
    absurd (cc (sym none ∙ there))

pub returns-in_ok-slot-in-None-clause-shows : goal.returns-in_ok-slot-in-None-clause-shows
returns-in_ok-slot-in-None-clause-shows g c = λ told none f found.
    let blocks : c.blocks_in.result ≡ blocks_of c.self.inside.label.files c.args.n.file = c.blocks_in.ensures ∙ ap (λ (l : List (ℕ × ℕ)). blocks_of l c.args.n.file) c.as_slice.ensures in
    let r = (read_view g.D.Disk.held c.deref_mut.result.now c.self.inside.device.value c.deref_mut.ensures.value c.args.n.file c.args.n.number c.blocks_in.result (blocks_of c.self.inside.label.files c.args.n.file) blocks c.in_ok-slot-in-None.slot c.read_block.new.room.items (c.in_ok-slot-in-None.ensures.read (subst (λ (d : g.row.D.Denot). IsTrue (g.D.Disk.tells d)) (ap (λ (v : View g.row.D.Denot). v.device) (sym c.self.view_is) ∙ sym c.deref_mut.ensures.value) told))) in
    let taken = subst (λ (b : ℕ). IsTaken (record { file = c.args.n.file; number = c.args.n.number; blocks = b }) c.in_ok-slot-in-None.slot c.as_slice-in-None.result.now c.replace.ensures.entry.0) blocks c.replace.ensures.entry.2 in
    let long : length c.as_slice-in-None.result.now ≡ BLOCK_BYTES = search rules in
    subst (λ (v : View g.row.D.Denot). SpellsContent (home_of v c.args.n.file c.args.n.number) f.block (g.D.Disk.held v.device)) c.self.view_is
    (subst (λ (x : Frame). SpellsContent (record { file = c.args.n.file; number = c.args.n.number; blocks = blocks_of c.self.inside.label.files c.args.n.file }) x.block (g.D.Disk.held c.self.inside.device.value)) (some_is c.replace.ensures.entry.0 f (sym c.replace.ensures.entry.1.entry ∙ found))
    (shows-taken (g.D.Disk.held c.self.inside.device.value) c.args.n.file c.args.n.number (blocks_of c.self.inside.label.files c.args.n.file) c.in_ok-slot-in-None.slot c.as_slice-in-None.result.now c.replace.ensures.entry.0
    long taken (r.0, r.1, (r.2.0, r.2.1, c.as_slice-in-None.ensures.value ∙ r.2.2))))

pub returns-in_err-slot-in-None-clause-missed : goal.returns-in_err-slot-in-None-clause-missed
returns-in_err-slot-in-None-clause-missed g c = on_err c.from_residual.result _
    (ap (λ (v : View g.row.D.Denot). entry_at v.cache c.args.n.file c.args.n.number) (sym c.self.view_is) ∙ ap (option_and_then (slice_get c.self.inside.cache.frames)) (sym c.in-None.ensures.frame))
