use Rattle.std.proofs.Common.{List, sym, subst}
use Rattle.disk_model.specs.Held.{Held}
use Rattle.keyed_file.specs.declared.label.Label.{Label}
use Rattle.keyed_file.specs.Volume.{label_of}
use Rattle.block_cache.specs.declared.contents.FileContents.{FileContents}
use Rattle.block_cache.specs.Created.{AreAllFiles, AreGiven, IsBeingMade, IsMade}
use Rattle.volume_restore.specs.Formatted.{AreEmptyFiles, empty_contents}
use Rattle.volume_restore.proofs.Fresh.{all_files, given_empty}
use Rattle.volume_restore.proofs.format.format_volume.Goals as goal

pub create_volume-requires-clause-all : goal.create_volume-requires-clause-all
create_volume-requires-clause-all g c =
    let label : Label = c.in-Ok.label in
    let given : List FileContents = c.in_ok-given.given.items in
    let empty : AreEmptyFiles label.files given = subst (λ fs. AreEmptyFiles fs given) c.as_slice.ensures c.in_ok-given.ensures.given in
    subst (AreAllFiles label.files) (sym c.as_slice-2.ensures.value) (all_files label given c.in-Ok.ensures.valid empty)

pub returns-in-Ok-create_volume-clause-made : goal.returns-in-Ok-create_volume-clause-made
returns-in-Ok-create_volume-clause-made g c = λ told.
    let label : Label = c.in-Ok.label in
    let given : List FileContents = c.in_ok-given.given.items in
    let held : Held = g.D.Disk.held c.create_volume.new.device in
    let empty : AreEmptyFiles label.files given = subst (λ fs. AreEmptyFiles fs given) c.as_slice.ensures c.in_ok-given.ensures.given in
    let gives : AreGiven empty_contents c.as_slice-2.result.now = subst (AreGiven empty_contents) (sym c.as_slice-2.ensures.value) (given_empty label given c.in-Ok.ensures.valid empty) in
    subst (λ (l : Label). IsMade l empty_contents held) c.in-Ok.ensures.value (c.in-Ok-create_volume.ensures.made empty_contents told gives)

pub returns-in-Ok-create_volume-clause-images : goal.returns-in-Ok-create_volume-clause-images
returns-in-Ok-create_volume-clause-images g c = λ image told leaves.
    let label : Label = c.in-Ok.label in
    let given : List FileContents = c.in_ok-given.given.items in
    let held : Held = g.D.Disk.held c.create_volume.new.device in
    let empty : AreEmptyFiles label.files given = subst (λ fs. AreEmptyFiles fs given) c.as_slice.ensures c.in_ok-given.ensures.given in
    let gives : AreGiven empty_contents c.as_slice-2.result.now = subst (AreGiven empty_contents) (sym c.as_slice-2.ensures.value) (given_empty label given c.in-Ok.ensures.valid empty) in
    let made : IsMade (label_of c.args.config.now c.args.volume 1) empty_contents held =
    subst (λ (l : Label). IsMade l empty_contents held) c.in-Ok.ensures.value (c.in-Ok-create_volume.ensures.made empty_contents told gives) in
    c.formatted_law.ensures.base c.args.config.now c.args.volume image
    (c.at_rest.ensures.image (label_of c.args.config.now c.args.volume 1) held image empty_contents made.spells made.rests leaves)

pub returns-in-Ok-create_volume-clause-every : goal.returns-in-Ok-create_volume-clause-every
returns-in-Ok-create_volume-clause-every g c = λ image told leaves.
    let label : Label = c.in-Ok.label in
    let given : List FileContents = c.in_ok-given.given.items in
    let empty : AreEmptyFiles label.files given = subst (λ fs. AreEmptyFiles fs given) c.as_slice.ensures c.in_ok-given.ensures.given in
    let gives : AreGiven empty_contents c.as_slice-2.result.now = subst (AreGiven empty_contents) (sym c.as_slice-2.ensures.value) (given_empty label given c.in-Ok.ensures.valid empty) in
    subst (λ (l : Label). IsBeingMade l empty_contents (g.D.Disk.held c.args.device.now) image) c.in-Ok.ensures.value (c.create_volume.ensures.every empty_contents image told gives leaves)

pub returns-clause-every : goal.returns-clause-every
returns-clause-every g c = λ image told leaves.
    let label : Label = c.in-Ok.label in
    let given : List FileContents = c.in_ok-given.given.items in
    let empty : AreEmptyFiles label.files given = subst (λ fs. AreEmptyFiles fs given) c.as_slice.ensures c.in_ok-given.ensures.given in
    let gives : AreGiven empty_contents c.as_slice-2.result.now = subst (AreGiven empty_contents) (sym c.as_slice-2.ensures.value) (given_empty label given c.in-Ok.ensures.valid empty) in
    subst (λ (l : Label). IsBeingMade l empty_contents (g.D.Disk.held c.args.device.now) image) c.in-Ok.ensures.value (c.create_volume.ensures.every empty_contents image told gives leaves)
