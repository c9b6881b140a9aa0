use Rattle.std.proofs.Common.{length, ◌≡◌, ◌≢◌, ◌⊎◌, ◌<◌, ◌++◌, ℕ, List, [], ◌∷◌, Some, None, refl, sym, ap, subst, ◌∙◌, arith}
use Rattle.std.specs.Prelude.{IsTrue, slice_get}
use Rattle.disk_model.specs.Held.{Held}
use Rattle.keyed_file.specs.declared.label.Label.{Label}
use Rattle.keyed_file.specs.Volume.{blocks_of}
use Rattle.block_cache.specs.declared.contents.Change.{Change}
use Rattle.block_cache.specs.Cache.{entry_at}
use Rattle.block_cache.specs.Changes.{AreChanges, AreNamed, Each, IsChange, change_home}
use Rattle.block_cache.specs.Drawn.{WritesPair}
use Rattle.block_cache.specs.Rewrite.{AreMixed, EveryShows, IsContentOf}
use Rattle.block_cache.specs.Shows.{NamesSlot, SpellsContent}
use Rattle.block_cache.proofs.Changing.{AreFineSo, AreShownFrom, HasChangedBut, changed-all, changed-none, changed-one, changes-front, fine-all, fine-one, last-of-row, named-front, nil-is, none-left, off-one, shown-all, shown-none, shown-one, uncached-front, unlisted-one}
use Rattle.block_cache.proofs.Frames.{later-then}
use Rattle.block_cache.proofs.Rests.{then-rests}
use Rattle.block_cache.proofs.Rewritten.{if-err, self-same, shows-mixed, slice-front, slice-last, then-same}
use Rattle.block_cache.proofs.change.change_blocks.Goals as goal

pub loop-change-init : goal.loop-change-init
loop-change-init g c = record {
  items = λ n change is. is;
  changes = c.requires.row;
  named = c.requires.named;
  uncached = c.requires.uncached;
  landed = λ map was next told holds makes. changed-none g.D.Disk.held c.args.blocks.now c.args.row.items map was next makes holds;
  fine = λ told file number within was unlisted. was unlisted;
  shown = λ told. shown-none c.args.blocks.now.label.files c.args.row.items (g.D.Disk.held c.args.blocks.now.device);
  kept = λ told file number content within unlisted shown. shown;
  others = λ told q other each. refl;
  calm = c.requires.calm;
  settled = c.requires.settled;
  rests = λ told rests. rests;
  label = self-same c.args.blocks.now;
  valid = c.always.ensures;
  works = record { device = g.met.D.Disk.same_itself c.args.blocks.now.device; tells = refl; later = omega arith };
}

pub change_block-requires-clause-change : goal.change_block-requires-clause-change
change_block-requires-clause-change g c =
    let rest : List Change = c.pop.new.self.items in
    let change : Change = c.in-Some.change in
    let changes : AreChanges c.args.blocks.now.label.files (rest ++ change ∷ []) = subst (AreChanges c.args.blocks.now.label.files) c.in-Some.ensures.items c.loop-change.invariant.changes in
    subst (λ (l : Label). IsChange l.files change) (sym c.loop-change.invariant.label.same) (changes.each (length rest) change (slice-last rest change))

pub change_block-requires-clause-named : goal.change_block-requires-clause-named
change_block-requires-clause-named g c = λ told_then.
    let rest : List Change = c.pop.new.self.items in
    let change : Change = c.in-Some.change in
    let told : IsTrue (g.D.Disk.tells c.args.blocks.now.device) = subst IsTrue c.loop-change.invariant.works.tells told_then in
    let held : Held = g.D.Disk.held c.loop-change.blocks.device in
    let named : AreNamed c.args.blocks.now.label.files (rest ++ change ∷ []) held =
    subst (λ (items : List Change). AreNamed c.args.blocks.now.label.files items held) c.in-Some.ensures.items (c.loop-change.invariant.named told) in
    subst (λ (l : Label). NamesSlot (change_home l.files change) change.slot held) (sym c.loop-change.invariant.label.same) (named (length rest) change (slice-last rest change))

pub change_block-requires-clause-uncached : goal.change_block-requires-clause-uncached
change_block-requires-clause-uncached g c =
    let rest : List Change = c.pop.new.self.items in
    let change : Change = c.in-Some.change in
    subst (Each (λ (x : Change). entry_at c.loop-change.blocks.cache x.n.file x.n.number ≡ None)) c.in-Some.ensures.items c.loop-change.invariant.uncached (length rest) change (slice-last rest change)

pub loop-change-preserved : goal.loop-change-preserved
loop-change-preserved g c =
    let rest : List Change = c.pop.new.self.items in
    let change : Change = c.in-Some.change in
    let row : List Change = c.args.row.items in
    let files : List (ℕ × ℕ) = c.args.blocks.now.label.files in
    let held_0 : Held = g.D.Disk.held c.args.blocks.now.device in
    let held_1 : Held = g.D.Disk.held c.loop-change.blocks.device in
    let held_2 : Held = g.D.Disk.held c.change_block.new.blocks.device in
    let changes : AreChanges files (rest ++ change ∷ []) = subst (AreChanges files) c.in-Some.ensures.items c.loop-change.invariant.changes in
    let is : IsChange files change = changes.each (length rest) change (slice-last rest change) in
    let at : slice_get row (length rest) ≡ Some change = last-of-row c.loop-change.rest.items rest row change c.in-Some.ensures.items c.loop-change.invariant.items in
    let then_told : IsTrue (g.D.Disk.tells c.args.blocks.now.device) → IsTrue (g.D.Disk.tells c.loop-change.blocks.device) = λ told. subst IsTrue (sym c.loop-change.invariant.works.tells) told in
    let writes : IsTrue (g.D.Disk.tells c.args.blocks.now.device) → WritesPair files change.n.file change.n.number held_1 held_2 =
    λ told. subst (λ (l : Label). WritesPair l.files change.n.file change.n.number held_1 held_2) c.loop-change.invariant.label.same (c.change_block.ensures.frame.others (then_told told)) in
    let given : IsTrue (g.D.Disk.tells c.args.blocks.now.device) → SpellsContent (change_home files change) change.content held_2 =
    λ told. subst (λ (l : Label). SpellsContent (change_home l.files change) change.content held_2) c.loop-change.invariant.label.same (c.in_ok-change_block.ensures.shows (then_told told)) in
    record {
      items = λ n x there. c.loop-change.invariant.items n x (ap (λ l. slice_get l n) c.in-Some.ensures.items ∙ slice-front rest (change ∷ []) n x there);
      changes = changes-front files rest change changes;
      named = λ told. named-front files rest change held_1 held_2 changes (writes told) (subst (λ (items : List Change). AreNamed files items held_1) c.in-Some.ensures.items (c.loop-change.invariant.named told));
      uncached = uncached-front files rest change c.loop-change.blocks.cache c.change_block.new.blocks.cache changes
          (subst (λ (l : Label). (h n : ℕ) → n < blocks_of l.files h → (h ≢ change.n.file) ⊎ (n ≢ change.n.number) → entry_at c.loop-change.blocks.cache h n ≡ None → entry_at c.change_block.new.blocks.cache h n ≡ None) c.loop-change.invariant.label.same c.change_block.ensures.frame.uncached)
          (subst (Each (λ (x : Change). entry_at c.loop-change.blocks.cache x.n.file x.n.number ≡ None)) c.in-Some.ensures.items c.loop-change.invariant.uncached);
      landed = λ map was next told holds makes.
          let has : HasChangedBut g.D.Disk.held c.loop-change.blocks (rest ++ change ∷ []) map was =
          subst (λ (items : List Change). HasChangedBut g.D.Disk.held c.loop-change.blocks items map was) c.in-Some.ensures.items (c.loop-change.invariant.landed map was next told holds makes) in
          let gives : IsContentOf map change.n.file (blocks_of c.loop-change.blocks.label.files change.n.file) change.n.number change.content =
          subst (λ (l : Label). IsContentOf map change.n.file (blocks_of l.files change.n.file) change.n.number change.content) (sym c.loop-change.invariant.label.same) (makes.given (length rest) change at) in
          changed-one g.D.Disk.held c.loop-change.blocks c.change_block.new.blocks rest change map was c.change_block.ensures.frame.label.same has gives (c.in_ok-change_block.ensures.landed has.now has.later (then_told told) has.holds);
      shown = λ told.
          shown-one files row rest change held_1 held_2 c.requires.row at (subst (λ (items : List Change). AreShownFrom files row (length items) held_1) c.in-Some.ensures.items (c.loop-change.invariant.shown told)) (writes told) (given told);
      kept = λ told. unlisted-one files row (length rest) change held_0 held_1 held_2 at (c.loop-change.invariant.kept told) (writes told);
      fine = λ told.
          fine-one files row rest change held_0 held_1 held_2 (subst (λ (items : List Change). AreFineSo files row items held_0 held_1) c.in-Some.ensures.items (c.loop-change.invariant.fine told)) is.within (writes told) (given told);
      others = λ told. off-one files row (length rest) change held_0 held_1 held_2 (c.loop-change.invariant.others told) at (writes told);
      calm = c.in_ok-change_block.ensures.settles.calm;
      settled = c.change_block.ensures.frame.label.phase ∙ c.loop-change.invariant.settled;
      rests = λ told. then-rests c.args.blocks.now.label c.loop-change.blocks.label held_0 held_1 held_2 c.loop-change.invariant.label.same (c.loop-change.invariant.rests told) (c.in_ok-change_block.ensures.settles.rests (then_told told));
      label = then-same c.args.blocks.now c.loop-change.blocks c.change_block.new.blocks c.loop-change.invariant.label c.change_block.ensures.frame.label;
      valid = c.change_block.ensures.frame.valid;
      works = later-then g.D.Disk c.args.blocks.now.device c.loop-change.blocks.device c.change_block.new.blocks.device g.met.D.Disk.same_on c.loop-change.invariant.works c.change_block.ensures.works.is_later;
    }

pub returns-in_err-change_block-clause-kept : goal.returns-in_err-change_block-clause-kept
returns-in_err-change_block-clause-kept g c = λ map was next told holds makes.
    let rest : List Change = c.pop.new.self.items in
    let change : Change = c.in-Some.change in
    let at : slice_get c.args.row.items (length rest) ≡ Some change = last-of-row c.loop-change.rest.items rest c.args.row.items change c.in-Some.ensures.items c.loop-change.invariant.items in
    let has : HasChangedBut g.D.Disk.held c.loop-change.blocks c.loop-change.rest.items map was = c.loop-change.invariant.landed map was next told holds makes in
    let gives : IsContentOf map change.n.file (blocks_of c.loop-change.blocks.label.files change.n.file) change.n.number change.content =
    subst (λ (l : Label). IsContentOf map change.n.file (blocks_of l.files change.n.file) change.n.number change.content) (sym c.loop-change.invariant.label.same) (makes.given (length rest) change at) in
    if-err c.from_residual.result (subst (λ (l : Label). EveryShows g.D.Disk.held c.change_block.new.blocks (AreMixed l.files was map)) c.loop-change.invariant.label.same
    (shows-mixed g.D.Disk.held c.change_block.new.blocks c.loop-change.blocks.label.files was has.now map change.n.file change.n.number change.content has.mixed gives
    (c.change_block.ensures.kept has.now has.later (subst IsTrue (sym c.loop-change.invariant.works.tells) told) has.holds)))

pub returns-in_err-change_block-clause-frame : goal.returns-in_err-change_block-clause-frame
returns-in_err-change_block-clause-frame g c =
    let rest : List Change = c.pop.new.self.items in
    let change : Change = c.in-Some.change in
    let row : List Change = c.args.row.items in
    let files : List (ℕ × ℕ) = c.args.blocks.now.label.files in
    let held_0 : Held = g.D.Disk.held c.args.blocks.now.device in
    let held_1 : Held = g.D.Disk.held c.loop-change.blocks.device in
    let held_2 : Held = g.D.Disk.held c.change_block.new.blocks.device in
    let at : slice_get row (length rest) ≡ Some change = last-of-row c.loop-change.rest.items rest row change c.in-Some.ensures.items c.loop-change.invariant.items in
    record {
      label = then-same c.args.blocks.now c.loop-change.blocks c.change_block.new.blocks c.loop-change.invariant.label c.change_block.ensures.frame.label;
      valid = c.change_block.ensures.frame.valid;
      others = λ told. off-one files row (length rest) change held_0 held_1 held_2 (c.loop-change.invariant.others told) at
          (subst (λ (l : Label). WritesPair l.files change.n.file change.n.number held_1 held_2) c.loop-change.invariant.label.same (c.change_block.ensures.frame.others (subst IsTrue (sym c.loop-change.invariant.works.tells) told)));
    }

pub returns-clause-landed : goal.returns-clause-landed
returns-clause-landed g c = λ map was next told holds makes.
    let none : c.loop-change.rest.items ≡ [] = nil-is c.loop-change.rest.items (omega (arith, none-left c.loop-change.rest.len (λ some. c.in_default.ensures.variant.1 some), c.loop-change.rest.ok)) in
    changed-all g.D.Disk.held c.loop-change.blocks map was
    (subst (λ (items : List Change). HasChangedBut g.D.Disk.held c.loop-change.blocks items map was) none (c.loop-change.invariant.landed map was next told holds makes))

pub returns-clause-shows : goal.returns-clause-shows
returns-clause-shows g c = λ told.
    let short : length c.loop-change.rest.items ≡ 0 = omega (arith, none-left c.loop-change.rest.len (λ some. c.in_default.ensures.variant.1 some), c.loop-change.rest.ok) in
    let none : c.loop-change.rest.items ≡ [] = nil-is c.loop-change.rest.items short in
    let held_0 : Held = g.D.Disk.held c.args.blocks.now.device in
    let held_1 : Held = g.D.Disk.held c.loop-change.blocks.device in
    record {
      given = shown-all c.args.blocks.now.label.files c.args.row.items c.loop-change.rest.items held_1 short (c.loop-change.invariant.shown told);
      kept = c.loop-change.invariant.kept told;
      fine = fine-all c.args.blocks.now.label.files c.args.row.items held_0 held_1
          (subst (λ (items : List Change). AreFineSo c.args.blocks.now.label.files c.args.row.items items held_0 held_1) none (c.loop-change.invariant.fine told));
    }

pub returns-clause-settles : goal.returns-clause-settles
returns-clause-settles g c = record { calm = c.loop-change.invariant.calm; rests = c.loop-change.invariant.rests }

pub returns-clause-frame : goal.returns-clause-frame
returns-clause-frame g c = record { label = c.loop-change.invariant.label; valid = c.loop-change.invariant.valid; others = c.loop-change.invariant.others }
