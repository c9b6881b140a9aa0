use Rattle.std.proofs.Common.{◌≡◌, ℕ, List, sym, ◌∙◌}
use Rattle.tmf_model.specs.Place.{block_of}
use Rattle.keyed_file.specs.Block.{value_at}
use Rattle.volume_restore.specs.Changed.{changed_values}
use Rattle.volume_restore.proofs.Making.{content_of, ok_of}
use Rattle.volume_restore.proofs.Parts.{part_home, room_of}
use Rattle.volume_restore.proofs.block.made_anew.Goals as goal
use Rattle.volume_restore.proofs.block.made_anew.Goals.{Else-is_err-2}

content : (c : Else-is_err-2) → (key : List ℕ) → block_of key c.args.home.blocks ≡ c.args.home.number → value_at c.make_changes.new.made key ≡ changed_values c.args.changes.now c.args.block.now key
content c =
    let kept = sym c.is_err.ensures.value ∙ c.if-is_err.false in
    let made = sym c.is_err-else-is_err.ensures.value ∙ c.if-is_err-2.false in
    content_of c.args.home c.args.changes.now c.args.block.now c.keep_records.new.made c.make_changes.new.made
    (ok_of c.make_changes.result made c.make_changes.ensures.part)
    (λ key none some. ok_of c.keep_records.result kept (c.keep_records.ensures.kept key none some))
    (λ key none. ok_of c.make_changes.result made (c.make_changes.ensures.stays key none))
    (λ key lives some. (ok_of c.make_changes.result made (c.make_changes.ensures.made key lives some)).0)

pub returns-clause-content : goal.returns-clause-content
returns-clause-content c = content c

pub returns-clause-home : goal.returns-clause-home
returns-clause-home c =
    part_home c.args.home (changed_values c.args.changes.now c.args.block.now) c.make_changes.new.made
    (ok_of c.make_changes.result (sym c.is_err-else-is_err.ensures.value ∙ c.if-is_err-2.false) c.make_changes.ensures.part)

pub returns-clause-room : goal.returns-clause-room
returns-clause-room c = room_of c.args.home (changed_values c.args.changes.now c.args.block.now) c.make_changes.new.made c.make_changes.ensures.valid (content c)
