use Rattle.std.proofs.Common.{◌≡◌, ℕ, List, IsTrue, [], ◌∷◌, sym, ap, subst}
use Rattle.disk_model.specs.Held.{Held}
use Rattle.keyed_file.specs.declared.label.Label.{Label}
use Rattle.block_cache.specs.declared.contents.Change.{Change}
use Rattle.block_cache.specs.Changes.{AreNamed, change_home}
use Rattle.block_cache.specs.Shows.{NamesSlot}
use Rattle.volume_tests.proofs.Named.{named-later}
use Rattle.volume_tests.proofs.ExampleVolume.{each_two}
use Rattle.volume_tests.proofs.blocks.change_two.Goals as goal

pub change_volume-requires-clause-named : goal.change_volume-requires-clause-named
change_volume-requires-clause-named g c = λ told_2.
    let first : Change = c.in-Ok-change_of.first in
    let next : Change = c.in-Ok-change_of-2.next in
    let files_0 : List (ℕ × ℕ) = c.args.blocks.now.label.files in
    let files_1 : List (ℕ × ℕ) = c.change_of.new.blocks.label.files in
    let files_2 : List (ℕ × ℕ) = c.change_of-2.new.blocks.label.files in
    let held_0 : Held = g.D.Disk.held c.args.blocks.now.device in
    let held_1 : Held = g.D.Disk.held c.change_of.new.blocks.device in
    let held_2 : Held = g.D.Disk.held c.change_of-2.new.blocks.device in
    let told_1 : IsTrue (g.D.Disk.tells c.change_of.new.blocks.device) = subst IsTrue c.change_of-2.ensures.reads.works.tells told_2 in
    let told_0 : IsTrue (g.D.Disk.tells c.args.blocks.now.device) = subst IsTrue c.change_of.ensures.reads.works.tells told_1 in
    let to_1 : files_1 ≡ files_0 = ap (λ (l : Label). l.files) c.change_of.ensures.reads.label.same in
    let to_2 : files_2 ≡ files_1 = ap (λ (l : Label). l.files) c.change_of-2.ensures.reads.label.same in
    let one : NamesSlot (change_home files_2 first) first.slot held_2 =
    named-later held_1 held_2 files_1 files_2 first c.change_of-2.ensures.reads.same to_2
    (named-later held_0 held_1 files_0 files_1 first c.change_of.ensures.reads.same to_1 (c.in-Ok-change_of.ensures.named told_0)) in
    let two : NamesSlot (change_home files_2 next) next.slot held_2 = named-later held_1 held_2 files_1 files_2 next c.change_of-2.ensures.reads.same to_2 (c.in-Ok-change_of-2.ensures.named told_1) in
    subst (λ (items : List Change). AreNamed files_2 items held_2) (sym c.in_ok-row.ensures.items) (each_two (λ (x : Change). NamesSlot (change_home files_2 x) x.slot held_2) first next one two)
