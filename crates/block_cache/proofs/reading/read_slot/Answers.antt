use Rattle.std.proofs.Common.{◌≡◌, ◌+◌, ℕ, length, Option, Some, sym, ap, subst, ◌∙◌, arith}
use Rattle.std.specs.Prelude.{IsTrue}
use Rattle.disk_model.specs.Held.{File, Held}
use Rattle.keyed_file.specs.declared.block.TheConstants.{BLOCK_BYTES}
use Rattle.keyed_file.specs.Layout.{bytes_at, block_pair, slot_at, selected_by}
use Rattle.block_cache.specs.Shown.{byte_at}
use Rattle.block_cache.proofs.Readings.{counted_read, whole_read, filled}
use Rattle.block_cache.proofs.reading.read_slot.Goals as goal

pub returns-clause-read : goal.returns-clause-read
returns-clause-read g c = λ told f there.
    let told_now : IsTrue (g.D.Disk.tells c.read_selector.new.device) = subst IsTrue (sym c.read_selector.ensures.tells) told in
    let there_now : g.D.Disk.held c.read_selector.new.device (1 + c.args.home.file) ≡ Some f = ap (λ (h : Held). h (1 + c.args.home.file)) c.read_selector.ensures.same ∙ there in
    let at-read : g.D.Disk.held c.read_selector.new.device (c.from.result + 1) ≡ Some f = ap (g.D.Disk.held c.read_selector.new.device) (omega (arith, c.from.ensures)) ∙ there_now in
    let bytes = c.in_ok-count.ensures.bytes told_now in
    let long : length c.deref_mut.result.now ≡ BLOCK_BYTES = omega (arith, c.deref_mut.ensures.len, c.requires.room) in
    let place : c.slot_offset-at.result ≡ slot_at (block_pair c.args.home.file c.args.home.number) c.in_ok-slot.slot = c.slot_offset-at.ensures.at c.args.home.file in
    record {
      named = c.in_ok-slot.ensures.named told ∙ ap (λ (o : Option File). selected_by (byte_at o c.args.home.number)) there;
      counted = counted_read (g.D.Disk.held c.read_selector.new.device (c.from.result + 1)) f c.slot_offset-at.result BLOCK_BYTES c.in_ok-count.count c.deref_mut.result.now at-read long bytes.0
          ∙ ap (λ (a : ℕ). length (bytes_at a BLOCK_BYTES f.bytes)) place;
      spelled = λ whole. filled c.read.new.into c.args.room.now.items c.args.room.now.len (c.read.auto.into ∙ omega (arith, long, c.requires.room)) (omega arith)
          ∙ whole_read (g.D.Disk.held c.read_selector.new.device (c.from.result + 1)) f c.slot_offset-at.result BLOCK_BYTES c.in_ok-count.count c.deref_mut.result.now c.read.new.into at-read long bytes.0 bytes.1 whole
          ∙ ap (λ (a : ℕ). bytes_at a BLOCK_BYTES f.bytes) place;
    }
