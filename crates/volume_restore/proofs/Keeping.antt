-- Calls that read a volume's blocks, one after the other.
use Rattle.std.proofs.Common.{◌≡◌, ◌+◌, refl, sym, subst, ◌∙◌, arith}
use Rattle.disk_model.specs.declared.disk.Disk as disk
use Rattle.disk_model.specs.Held.{Held, IsThere}
use Rattle.keyed_file.specs.Volume.{Contents, blocks_of}
use Rattle.block_cache.specs.Blocks.{Holds, HoldsFile, HoldsLabel, IsBlocks, OnlyReads, View}

module _ {D : Type 0} (kind : disk.Ghosts D) where
  pub reads-itself : (a : View D) → ((x : D) → kind.is_same x x) → IsBlocks kind.tells kind.held a → OnlyReads kind a a
  reads-itself a same_itself valid = record {
    works = record { device = same_itself a.device; tells = refl; later = omega arith };
    same = refl;
    label = record { same = refl; slot = refl; phase = refl; low = refl };
    valid = valid;
  }

  pub reads-then : (a b c : View D) → ((x y z : D) → kind.is_same x y → kind.is_same y z → kind.is_same x z) → OnlyReads kind a b → OnlyReads kind b c → OnlyReads kind a c
  reads-then a b c same_on ab bc = record {
    works = record { device = same_on a.device b.device c.device ab.works.device bc.works.device; tells = bc.works.tells ∙ ab.works.tells; later = omega (arith, ab.works.later, bc.works.later) };
    same = bc.same ∙ ab.same;
    label = record { same = bc.label.same ∙ ab.label.same; slot = bc.label.slot ∙ ab.label.slot; phase = bc.label.phase ∙ ab.label.phase; low = bc.label.low ∙ ab.label.low };
    valid = bc.valid;
  }

  -- what the blocks hold they hold once they were read, where the cache is as it was
  pub reads-holds : (old new : View D) → OnlyReads kind old new → new.cache ≡ old.cache → (was next : Contents) → Holds kind.held old was next → Holds kind.held new was next
  reads-holds old new reads cache was next holds =
      let is : ◌≡◌ {A = View D} (record old { device = new.device }) new =
      λ i. record { device = new.device; label = sym reads.label.same i; label_slot = sym reads.label.slot i; label_phase = sym reads.label.phase i; next_low = sym reads.label.low i; cache = sym cache i } in
      let here : Holds kind.held (record old { device = new.device }) was next = record {
        label_file = subst (λ (h : Held). IsThere h 1 (HoldsLabel old.label old.label_slot old.label_phase old.next_low)) (sym reads.same) holds.label_file;
        files = λ file some. subst (λ (h : Held). IsThere h (1 + file) (HoldsFile old.cache was next file (blocks_of old.label.files file))) (sym reads.same) (holds.files file some);
        are_contents = holds.are_contents;
        are_next = holds.are_next;
      } in
      subst (λ (v : View D). Holds kind.held v was next) is here
