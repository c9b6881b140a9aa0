use Rattle.std.proofs.Common.{rules, arith, ◌≡◌, ◌<◌, ◌-◌, ℕ, List, None, Some, false, refl, sym, ap, subst, ◌∙◌}
use Rattle.std.specs.Prelude.{IsTrue}
use Rattle.disk_model.specs.Held.{Held}
use Rattle.keyed_file.specs.declared.label.Label.{Label}
use Rattle.keyed_file.specs.Block.{KeyedBlock}
use Rattle.keyed_file.specs.LabelFormat.{IsLabel}
use Rattle.keyed_file.specs.Volume.{Contents}
use Rattle.block_cache.specs.declared.frame.Frame.{Frame}
use Rattle.block_cache.specs.declared.pair.PairPhase.TheVariants.{Settled, Written, Offered}
use Rattle.block_cache.specs.Blocks.{Holds, with_content}
use Rattle.block_cache.specs.Cache.{CacheView, SetsEntry, entry_at}
use Rattle.block_cache.specs.Changes.{change_home}
use Rattle.block_cache.specs.Drawn.{WritesPair}
use Rattle.block_cache.specs.Rewrite.{IsCalm}
use Rattle.block_cache.specs.Shows.{SpellsContent}
use Rattle.block_cache.proofs.Calm.{CalmBut, sets-but, sets-calm}
use Rattle.block_cache.proofs.Changing.{replaces-but, replaces-uncached, writes-none, writes-then}
use Rattle.block_cache.proofs.FileRows.{label_small}
use Rattle.block_cache.proofs.Rests.{same-rests, then-rests}
use Rattle.block_cache.proofs.ShownSteps.{ShowsSo, every-shows, so-drawn, so-offered, so-settled, with-here}
use Rattle.block_cache.proofs.change.change_block.Goals as goal

pub place-requires-clause-room : goal.place-requires-clause-room
place-requires-clause-room g c = c.in-None.ensures.none c.requires.uncached

pub draw_body-requires : goal.draw_body-requires
draw_body-requires g c =
    let file : ℕ = c.args.change.n.file in
    let number : ℕ = c.args.change.n.number in
    let content : KeyedBlock = c.args.change.content in
    let f2 : Frame = c.place.ensures.placed.0 in
    let at2 : entry_at c.place.new.self.cache file number ≡ Some f2 = c.place.ensures.placed.1.entry in
    let but2 : CalmBut file number c.place.new.self.cache = replaces-but c.args.blocks.now.cache c.place.new.self.cache file number f2 c.requires.calm c.place.ensures.placed.1 in
    let label : IsLabel c.args.blocks.now.label = subst IsLabel c.place.ensures.label.same c.place.ensures.valid.label in
    let small : number < 256 = omega (arith, c.requires.change.within, (label_small c.args.blocks.now.label file label (omega (arith, c.requires.change.within))).2) in
    (small, (f2, at2, (c.place.ensures.placed.2.dirty, c.place.ensures.placed.2.settled)))

pub draw_select-requires : goal.draw_select-requires
draw_select-requires g c =
    let file : ℕ = c.args.change.n.file in
    let number : ℕ = c.args.change.n.number in
    let content : KeyedBlock = c.args.change.content in
    let f2 : Frame = c.place.ensures.placed.0 in
    let at2 : entry_at c.place.new.self.cache file number ≡ Some f2 = c.place.ensures.placed.1.entry in
    let but2 : CalmBut file number c.place.new.self.cache = replaces-but c.args.blocks.now.cache c.place.new.self.cache file number f2 c.requires.calm c.place.ensures.placed.1 in
    let label : IsLabel c.args.blocks.now.label = subst IsLabel c.place.ensures.label.same c.place.ensures.valid.label in
    let small : number < 256 = omega (arith, c.requires.change.within, (label_small c.args.blocks.now.label file label (omega (arith, c.requires.change.within))).2) in
    let f3 : Frame = record f2 { dirty = false; phase = Written } in
    let sets3 : SetsEntry c.place.new.self.cache c.draw_body.new.self.cache file number f3 = c.in_ok-draw_body.ensures.cache f2 at2 in
    let but3 : CalmBut file number c.draw_body.new.self.cache = sets-but file number c.place.new.self.cache c.draw_body.new.self.cache f3 but2 sets3 in
    (small, (f3, sets3.entry, refl))

pub returns-in_err-draw_body-clause-kept : goal.returns-in_err-draw_body-clause-kept
returns-in_err-draw_body-clause-kept g c = λ landed next told holds.
    let file : ℕ = c.args.change.n.file in
    let number : ℕ = c.args.change.n.number in
    let content : KeyedBlock = c.args.change.content in
    let f2 : Frame = c.place.ensures.placed.0 in
    let at2 : entry_at c.place.new.self.cache file number ≡ Some f2 = c.place.ensures.placed.1.entry in
    let but2 : CalmBut file number c.place.new.self.cache = replaces-but c.args.blocks.now.cache c.place.new.self.cache file number f2 c.requires.calm c.place.ensures.placed.1 in
    let told2 : IsTrue (g.D.Disk.tells c.place.new.self.device) = subst (λ (d : g.row.D.Denot). IsTrue (g.D.Disk.tells d)) (sym c.place.ensures.device) told in
    let holds2 : Holds g.D.Disk.held c.place.new.self landed next = c.place.ensures.holds landed next told holds in
    let phase2 : c.place.new.self.label_phase ≡ Settled = c.place.ensures.label.phase ∙ c.requires.settled in
    every-shows g.D.Disk.held c.draw_body.new.self c.args.blocks.now.label.files landed next landed file number content c.draw_body.ensures.frame.valid.label (c.draw_body.ensures.frame.label.phase ∙ phase2) (ap (λ (l : Label). l.files) (c.draw_body.ensures.frame.label.same ∙ c.place.ensures.label.same))
    (λ image leaves. c.every_image.ensures.volume c.draw_body.new.self landed next image c.draw_body.ensures.frame.valid.label c.draw_body.ensures.frame.valid.next_low (c.in_err-draw_body.ensures.err landed next told2 holds2) leaves)
    (λ image leaves. c.every_image.ensures.contents c.draw_body.new.self landed next image c.draw_body.ensures.frame.valid.label c.draw_body.ensures.frame.valid.next_low (c.in_err-draw_body.ensures.err landed next told2 holds2) leaves)
    (subst (λ (k : CacheView). ShowsSo k c.args.blocks.now.label.files landed next landed file number content) (sym c.in_err-draw_body.ensures.cache_err) (so-settled c.place.new.self.cache c.args.blocks.now.label.files landed next file number content f2 but2 at2 c.place.ensures.placed.2.settled))

pub returns-in_err-draw_select-clause-kept : goal.returns-in_err-draw_select-clause-kept
returns-in_err-draw_select-clause-kept g c = λ landed next told holds.
    let file : ℕ = c.args.change.n.file in
    let number : ℕ = c.args.change.n.number in
    let content : KeyedBlock = c.args.change.content in
    let f2 : Frame = c.place.ensures.placed.0 in
    let at2 : entry_at c.place.new.self.cache file number ≡ Some f2 = c.place.ensures.placed.1.entry in
    let but2 : CalmBut file number c.place.new.self.cache = replaces-but c.args.blocks.now.cache c.place.new.self.cache file number f2 c.requires.calm c.place.ensures.placed.1 in
    let told2 : IsTrue (g.D.Disk.tells c.place.new.self.device) = subst (λ (d : g.row.D.Denot). IsTrue (g.D.Disk.tells d)) (sym c.place.ensures.device) told in
    let holds2 : Holds g.D.Disk.held c.place.new.self landed next = c.place.ensures.holds landed next told holds in
    let phase2 : c.place.new.self.label_phase ≡ Settled = c.place.ensures.label.phase ∙ c.requires.settled in
    let f3 : Frame = record f2 { dirty = false; phase = Written } in
    let sets3 : SetsEntry c.place.new.self.cache c.draw_body.new.self.cache file number f3 = c.in_ok-draw_body.ensures.cache f2 at2 in
    let but3 : CalmBut file number c.draw_body.new.self.cache = sets-but file number c.place.new.self.cache c.draw_body.new.self.cache f3 but2 sets3 in
    let later : Contents = with_content next file number f2.block in
    let is_later : later file number ≡ content = with-here next file number f2.block ∙ c.place.ensures.placed.2.block in
    let told3 : IsTrue (g.D.Disk.tells c.draw_body.new.self.device) = subst IsTrue (sym c.draw_body.ensures.works.is_later.tells) told2 in
    let holds3 : Holds g.D.Disk.held c.draw_body.new.self landed later = c.in_ok-draw_body.ensures.drawn landed next told2 holds2 f2 at2 in
    let f4 : Frame = record f3 { phase = Offered } in
    let sets4 : SetsEntry c.draw_body.new.self.cache c.draw_select.new.self.cache file number f4 = c.in_err-draw_select.ensures.cache_err f3 sets3.entry in
    let but4 : CalmBut file number c.draw_select.new.self.cache = sets-but file number c.draw_body.new.self.cache c.draw_select.new.self.cache f4 but3 sets4 in
    every-shows g.D.Disk.held c.draw_select.new.self c.args.blocks.now.label.files landed later landed file number content c.draw_select.ensures.frame.valid.label (c.draw_select.ensures.frame.label.phase ∙ c.draw_body.ensures.frame.label.phase ∙ phase2) (ap (λ (l : Label). l.files) (c.draw_select.ensures.frame.label.same ∙ c.draw_body.ensures.frame.label.same ∙ c.place.ensures.label.same))
    (λ image leaves. c.every_image.ensures.volume c.draw_select.new.self landed later image c.draw_select.ensures.frame.valid.label c.draw_select.ensures.frame.valid.next_low (c.in_err-draw_select.ensures.err landed later told3 holds3) leaves)
    (λ image leaves. c.every_image.ensures.contents c.draw_select.new.self landed later image c.draw_select.ensures.frame.valid.label c.draw_select.ensures.frame.valid.next_low (c.in_err-draw_select.ensures.err landed later told3 holds3) leaves)
    (so-offered c.draw_select.new.self.cache c.args.blocks.now.label.files landed later file number content f4 but4 sets4.entry refl is_later)

pub returns-clause-kept : goal.returns-clause-kept
returns-clause-kept g c = λ landed next told holds.
    let file : ℕ = c.args.change.n.file in
    let number : ℕ = c.args.change.n.number in
    let content : KeyedBlock = c.args.change.content in
    let f2 : Frame = c.place.ensures.placed.0 in
    let at2 : entry_at c.place.new.self.cache file number ≡ Some f2 = c.place.ensures.placed.1.entry in
    let but2 : CalmBut file number c.place.new.self.cache = replaces-but c.args.blocks.now.cache c.place.new.self.cache file number f2 c.requires.calm c.place.ensures.placed.1 in
    let told2 : IsTrue (g.D.Disk.tells c.place.new.self.device) = subst (λ (d : g.row.D.Denot). IsTrue (g.D.Disk.tells d)) (sym c.place.ensures.device) told in
    let holds2 : Holds g.D.Disk.held c.place.new.self landed next = c.place.ensures.holds landed next told holds in
    let phase2 : c.place.new.self.label_phase ≡ Settled = c.place.ensures.label.phase ∙ c.requires.settled in
    let f3 : Frame = record f2 { dirty = false; phase = Written } in
    let sets3 : SetsEntry c.place.new.self.cache c.draw_body.new.self.cache file number f3 = c.in_ok-draw_body.ensures.cache f2 at2 in
    let but3 : CalmBut file number c.draw_body.new.self.cache = sets-but file number c.place.new.self.cache c.draw_body.new.self.cache f3 but2 sets3 in
    let later : Contents = with_content next file number f2.block in
    let is_later : later file number ≡ content = with-here next file number f2.block ∙ c.place.ensures.placed.2.block in
    let told3 : IsTrue (g.D.Disk.tells c.draw_body.new.self.device) = subst IsTrue (sym c.draw_body.ensures.works.is_later.tells) told2 in
    let holds3 : Holds g.D.Disk.held c.draw_body.new.self landed later = c.in_ok-draw_body.ensures.drawn landed next told2 holds2 f2 at2 in
    let f4 : Frame = record f3 { phase = Settled; slot = 1 - f3.slot } in
    let sets4 : SetsEntry c.draw_body.new.self.cache c.draw_select.new.self.cache file number f4 = c.in_ok-draw_select.ensures.cache f3 sets3.entry in
    let calm4 : IsCalm c.draw_select.new.self.cache = sets-calm file number c.draw_select.new.self.cache f4 (sets-but file number c.draw_body.new.self.cache c.draw_select.new.self.cache f4 but3 sets4) sets4.entry refl in
    let drawn : Contents = with_content landed file number content in
    let holds4 : Holds g.D.Disk.held c.draw_select.new.self drawn later =
    subst (λ (b : KeyedBlock). Holds g.D.Disk.held c.draw_select.new.self (with_content landed file number b) later) is_later (c.in_ok-draw_select.ensures.drawn landed later told3 holds3) in
    every-shows g.D.Disk.held c.draw_select.new.self c.args.blocks.now.label.files drawn later landed file number content c.draw_select.ensures.frame.valid.label (c.draw_select.ensures.frame.label.phase ∙ c.draw_body.ensures.frame.label.phase ∙ phase2) (ap (λ (l : Label). l.files) (c.draw_select.ensures.frame.label.same ∙ c.draw_body.ensures.frame.label.same ∙ c.place.ensures.label.same))
    (λ image leaves. c.every_image.ensures.volume c.draw_select.new.self drawn later image c.draw_select.ensures.frame.valid.label c.draw_select.ensures.frame.valid.next_low holds4 leaves)
    (λ image leaves. c.every_image.ensures.contents c.draw_select.new.self drawn later image c.draw_select.ensures.frame.valid.label c.draw_select.ensures.frame.valid.next_low holds4 leaves)
    (so-drawn c.draw_select.new.self.cache c.args.blocks.now.label.files landed later file number content calm4)

pub returns-clause-landed : goal.returns-clause-landed
returns-clause-landed g c = λ landed next told holds.
    let file : ℕ = c.args.change.n.file in
    let number : ℕ = c.args.change.n.number in
    let content : KeyedBlock = c.args.change.content in
    let f2 : Frame = c.place.ensures.placed.0 in
    let at2 : entry_at c.place.new.self.cache file number ≡ Some f2 = c.place.ensures.placed.1.entry in
    let but2 : CalmBut file number c.place.new.self.cache = replaces-but c.args.blocks.now.cache c.place.new.self.cache file number f2 c.requires.calm c.place.ensures.placed.1 in
    let told2 : IsTrue (g.D.Disk.tells c.place.new.self.device) = subst (λ (d : g.row.D.Denot). IsTrue (g.D.Disk.tells d)) (sym c.place.ensures.device) told in
    let holds2 : Holds g.D.Disk.held c.place.new.self landed next = c.place.ensures.holds landed next told holds in
    let f3 : Frame = record f2 { dirty = false; phase = Written } in
    let sets3 : SetsEntry c.place.new.self.cache c.draw_body.new.self.cache file number f3 = c.in_ok-draw_body.ensures.cache f2 at2 in
    let but3 : CalmBut file number c.draw_body.new.self.cache = sets-but file number c.place.new.self.cache c.draw_body.new.self.cache f3 but2 sets3 in
    let later : Contents = with_content next file number f2.block in
    let is_later : later file number ≡ content = with-here next file number f2.block ∙ c.place.ensures.placed.2.block in
    let told3 : IsTrue (g.D.Disk.tells c.draw_body.new.self.device) = subst IsTrue (sym c.draw_body.ensures.works.is_later.tells) told2 in
    let holds3 : Holds g.D.Disk.held c.draw_body.new.self landed later = c.in_ok-draw_body.ensures.drawn landed next told2 holds2 f2 at2 in
    let drawn : Contents = with_content landed file number content in
    let holds4 : Holds g.D.Disk.held c.draw_select.new.self drawn later =
    subst (λ (b : KeyedBlock). Holds g.D.Disk.held c.draw_select.new.self (with_content landed file number b) later) is_later (c.in_ok-draw_select.ensures.drawn landed later told3 holds3) in
    (later, holds4)

pub returns-clause-shows : goal.returns-clause-shows
returns-clause-shows g c = λ told.
    let file : ℕ = c.args.change.n.file in
    let number : ℕ = c.args.change.n.number in
    let content : KeyedBlock = c.args.change.content in
    let f2 : Frame = c.place.ensures.placed.0 in
    let at2 : entry_at c.place.new.self.cache file number ≡ Some f2 = c.place.ensures.placed.1.entry in
    let but2 : CalmBut file number c.place.new.self.cache = replaces-but c.args.blocks.now.cache c.place.new.self.cache file number f2 c.requires.calm c.place.ensures.placed.1 in
    let told2 : IsTrue (g.D.Disk.tells c.place.new.self.device) = subst (λ (d : g.row.D.Denot). IsTrue (g.D.Disk.tells d)) (sym c.place.ensures.device) told in
    let f3 : Frame = record f2 { dirty = false; phase = Written } in
    let sets3 : SetsEntry c.place.new.self.cache c.draw_body.new.self.cache file number f3 = c.in_ok-draw_body.ensures.cache f2 at2 in
    let but3 : CalmBut file number c.draw_body.new.self.cache = sets-but file number c.place.new.self.cache c.draw_body.new.self.cache f3 but2 sets3 in
    let told3 : IsTrue (g.D.Disk.tells c.draw_body.new.self.device) = subst IsTrue (sym c.draw_body.ensures.works.is_later.tells) told2 in
    let ends = c.in_ok-draw_select.ensures.reads told3 in
    let same : ends.content ≡ content = sym (ends.latest f3 sets3.entry refl) ∙ c.place.ensures.placed.2.block in
    subst (λ (l : Label). SpellsContent (change_home l.files c.args.change) content (g.D.Disk.held c.draw_select.new.self.device)) (c.draw_body.ensures.frame.label.same ∙ c.place.ensures.label.same)
    (subst (λ (b : KeyedBlock). SpellsContent (change_home c.draw_body.new.self.label.files c.args.change) b (g.D.Disk.held c.draw_select.new.self.device)) same ends.shows)

pub returns-clause-settles : goal.returns-clause-settles
returns-clause-settles g c =
    let file : ℕ = c.args.change.n.file in
    let number : ℕ = c.args.change.n.number in
    let content : KeyedBlock = c.args.change.content in
    let f2 : Frame = c.place.ensures.placed.0 in
    let at2 : entry_at c.place.new.self.cache file number ≡ Some f2 = c.place.ensures.placed.1.entry in
    let but2 : CalmBut file number c.place.new.self.cache = replaces-but c.args.blocks.now.cache c.place.new.self.cache file number f2 c.requires.calm c.place.ensures.placed.1 in
    let f3 : Frame = record f2 { dirty = false; phase = Written } in
    let sets3 : SetsEntry c.place.new.self.cache c.draw_body.new.self.cache file number f3 = c.in_ok-draw_body.ensures.cache f2 at2 in
    let but3 : CalmBut file number c.draw_body.new.self.cache = sets-but file number c.place.new.self.cache c.draw_body.new.self.cache f3 but2 sets3 in
    let f4 : Frame = record f3 { phase = Settled; slot = 1 - f3.slot } in
    let sets4 : SetsEntry c.draw_body.new.self.cache c.draw_select.new.self.cache file number f4 = c.in_ok-draw_select.ensures.cache f3 sets3.entry in
    let calm4 : IsCalm c.draw_select.new.self.cache = sets-calm file number c.draw_select.new.self.cache f4 (sets-but file number c.draw_body.new.self.cache c.draw_select.new.self.cache f4 but3 sets4) sets4.entry refl in
    record {
      calm = calm4;
      rests = λ told.
          let told2 : IsTrue (g.D.Disk.tells c.place.new.self.device) = subst (λ (d : g.row.D.Denot). IsTrue (g.D.Disk.tells d)) (sym c.place.ensures.device) told in
          let told3 : IsTrue (g.D.Disk.tells c.draw_body.new.self.device) = subst IsTrue (sym c.draw_body.ensures.works.is_later.tells) told2 in
          let held_0 : Held = g.D.Disk.held c.args.blocks.now.device in
          let held_2 : Held = g.D.Disk.held c.place.new.self.device in
          let held_3 : Held = g.D.Disk.held c.draw_body.new.self.device in
          let held_4 : Held = g.D.Disk.held c.draw_select.new.self.device in
          then-rests c.args.blocks.now.label c.draw_body.new.self.label held_0 held_3 held_4 (c.draw_body.ensures.frame.label.same ∙ c.place.ensures.label.same)
          (then-rests c.args.blocks.now.label c.place.new.self.label held_0 held_2 held_3 c.place.ensures.label.same
          (same-rests c.args.blocks.now.label held_0 held_2 (ap g.D.Disk.held c.place.ensures.device))
          (c.in_ok-draw_body.ensures.rests told2))
          (c.in_ok-draw_select.ensures.reads told3).rests;
    }

pub returns-in_err-draw_body-clause-frame : goal.returns-in_err-draw_body-clause-frame
returns-in_err-draw_body-clause-frame g c =
    let file : ℕ = c.args.change.n.file in
    let number : ℕ = c.args.change.n.number in
    let f2 : Frame = c.place.ensures.placed.0 in
    let at2 : entry_at c.place.new.self.cache file number ≡ Some f2 = c.place.ensures.placed.1.entry in
    let label : IsLabel c.args.blocks.now.label = subst IsLabel c.place.ensures.label.same c.place.ensures.valid.label in
    let files : List (ℕ × ℕ) = c.args.blocks.now.label.files in
    let held_0 : Held = g.D.Disk.held c.args.blocks.now.device in
    let held_2 : Held = g.D.Disk.held c.place.new.self.device in
    let held_3 : Held = g.D.Disk.held c.draw_body.new.self.device in
    record {
      label = search rules;
      valid = c.draw_body.ensures.frame.valid;
      others = λ told.
          let told2 : IsTrue (g.D.Disk.tells c.place.new.self.device) = subst (λ (d : g.row.D.Denot). IsTrue (g.D.Disk.tells d)) (sym c.place.ensures.device) told in
          let to2 : WritesPair files file number held_0 held_2 = writes-none files file number held_0 held_2 (ap g.D.Disk.held c.place.ensures.device) in
          let to3 : WritesPair files file number held_2 held_3 = subst (λ (l : Label). WritesPair l.files file number held_2 held_3) c.place.ensures.label.same (c.draw_body.ensures.frame.others told2) in
          writes-then files file number held_0 held_2 held_3 to2 to3;
      uncached = λ h n within apart none.
          let small : n < 256 = omega (arith, within, (label_small c.args.blocks.now.label h label (omega (arith, within))).2) in
          let none2 : entry_at c.place.new.self.cache h n ≡ None = replaces-uncached c.args.blocks.now.cache c.place.new.self.cache file number f2 c.place.ensures.placed.1 h n small apart none in
          ap (λ (k : CacheView). entry_at k h n) c.in_err-draw_body.ensures.cache_err ∙ none2;
    }

pub returns-in_err-draw_select-clause-frame : goal.returns-in_err-draw_select-clause-frame
returns-in_err-draw_select-clause-frame g c =
    let file : ℕ = c.args.change.n.file in
    let number : ℕ = c.args.change.n.number in
    let f2 : Frame = c.place.ensures.placed.0 in
    let at2 : entry_at c.place.new.self.cache file number ≡ Some f2 = c.place.ensures.placed.1.entry in
    let label : IsLabel c.args.blocks.now.label = subst IsLabel c.place.ensures.label.same c.place.ensures.valid.label in
    let files : List (ℕ × ℕ) = c.args.blocks.now.label.files in
    let held_0 : Held = g.D.Disk.held c.args.blocks.now.device in
    let held_2 : Held = g.D.Disk.held c.place.new.self.device in
    let held_3 : Held = g.D.Disk.held c.draw_body.new.self.device in
    record {
      label = search rules;
      valid = c.draw_select.ensures.frame.valid;
      others = λ told.
          let told2 : IsTrue (g.D.Disk.tells c.place.new.self.device) = subst (λ (d : g.row.D.Denot). IsTrue (g.D.Disk.tells d)) (sym c.place.ensures.device) told in
          let to2 : WritesPair files file number held_0 held_2 = writes-none files file number held_0 held_2 (ap g.D.Disk.held c.place.ensures.device) in
          let to3 : WritesPair files file number held_2 held_3 = subst (λ (l : Label). WritesPair l.files file number held_2 held_3) c.place.ensures.label.same (c.draw_body.ensures.frame.others told2) in
          let told3 : IsTrue (g.D.Disk.tells c.draw_body.new.self.device) = subst IsTrue (sym c.draw_body.ensures.works.is_later.tells) told2 in
          let held_4 : Held = g.D.Disk.held c.draw_select.new.self.device in
          let to4 : WritesPair files file number held_3 held_4 = subst (λ (l : Label). WritesPair l.files file number held_3 held_4) (c.draw_body.ensures.frame.label.same ∙ c.place.ensures.label.same) (c.draw_select.ensures.frame.others told3) in
          writes-then files file number held_0 held_3 held_4 (writes-then files file number held_0 held_2 held_3 to2 to3) to4;
      uncached = λ h n within apart none.
          let small : n < 256 = omega (arith, within, (label_small c.args.blocks.now.label h label (omega (arith, within))).2) in
          let none2 : entry_at c.place.new.self.cache h n ≡ None = replaces-uncached c.args.blocks.now.cache c.place.new.self.cache file number f2 c.place.ensures.placed.1 h n small apart none in
          let f3 : Frame = record f2 { dirty = false; phase = Written } in
          let sets3 : SetsEntry c.place.new.self.cache c.draw_body.new.self.cache file number f3 = c.in_ok-draw_body.ensures.cache f2 at2 in
          (c.in_err-draw_select.ensures.cache_err f3 sets3.entry).others h n small apart ∙ sets3.others h n small apart ∙ none2;
    }

pub returns-clause-frame : goal.returns-clause-frame
returns-clause-frame g c =
    let file : ℕ = c.args.change.n.file in
    let number : ℕ = c.args.change.n.number in
    let f2 : Frame = c.place.ensures.placed.0 in
    let at2 : entry_at c.place.new.self.cache file number ≡ Some f2 = c.place.ensures.placed.1.entry in
    let label : IsLabel c.args.blocks.now.label = subst IsLabel c.place.ensures.label.same c.place.ensures.valid.label in
    let files : List (ℕ × ℕ) = c.args.blocks.now.label.files in
    let held_0 : Held = g.D.Disk.held c.args.blocks.now.device in
    let held_2 : Held = g.D.Disk.held c.place.new.self.device in
    let held_3 : Held = g.D.Disk.held c.draw_body.new.self.device in
    record {
      label = search rules;
      valid = c.draw_select.ensures.frame.valid;
      others = λ told.
          let told2 : IsTrue (g.D.Disk.tells c.place.new.self.device) = subst (λ (d : g.row.D.Denot). IsTrue (g.D.Disk.tells d)) (sym c.place.ensures.device) told in
          let to2 : WritesPair files file number held_0 held_2 = writes-none files file number held_0 held_2 (ap g.D.Disk.held c.place.ensures.device) in
          let to3 : WritesPair files file number held_2 held_3 = subst (λ (l : Label). WritesPair l.files file number held_2 held_3) c.place.ensures.label.same (c.draw_body.ensures.frame.others told2) in
          let told3 : IsTrue (g.D.Disk.tells c.draw_body.new.self.device) = subst IsTrue (sym c.draw_body.ensures.works.is_later.tells) told2 in
          let held_4 : Held = g.D.Disk.held c.draw_select.new.self.device in
          let to4 : WritesPair files file number held_3 held_4 = subst (λ (l : Label). WritesPair l.files file number held_3 held_4) (c.draw_body.ensures.frame.label.same ∙ c.place.ensures.label.same) (c.draw_select.ensures.frame.others told3) in
          writes-then files file number held_0 held_3 held_4 (writes-then files file number held_0 held_2 held_3 to2 to3) to4;
      uncached = λ h n within apart none.
          let small : n < 256 = omega (arith, within, (label_small c.args.blocks.now.label h label (omega (arith, within))).2) in
          let none2 : entry_at c.place.new.self.cache h n ≡ None = replaces-uncached c.args.blocks.now.cache c.place.new.self.cache file number f2 c.place.ensures.placed.1 h n small apart none in
          let f3 : Frame = record f2 { dirty = false; phase = Written } in
          let sets3 : SetsEntry c.place.new.self.cache c.draw_body.new.self.cache file number f3 = c.in_ok-draw_body.ensures.cache f2 at2 in
          (c.in_ok-draw_select.ensures.cache f3 sets3.entry).others h n small apart ∙ sets3.others h n small apart ∙ none2;
    }
