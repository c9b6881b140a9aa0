use Rattle.std.proofs.Common.{◌≡◌, ℕ, ◌+◌, ◌*◌, List, subst, arith}
use Rattle.std.specs.Prelude.{OnOk, OnErr}
use Rattle.trail_files.specs.Put.{Put, Left}
use Rattle.keyed_file.specs.LabelFormat.{dump_text}
use Rattle.keyed_file.specs.Layout.{label_pair, slot_at}
use Rattle.online_dump.proofs.Sealings.{file_kept}
use Rattle.online_dump.proofs.sealing.write_slot.Goals as goal

-- what is said of a number and a text is said of equal ones
along : (P : ℕ → List ℕ → Type 0) (a a' : ℕ) (x x' : List ℕ) → a ≡ a' → x ≡ x' → P a x → P a' x'
along P a a' x x' p q holds = subst (P a') q (subst (λ (a : ℕ). P a x) p holds)

pub returns-clause-ok : goal.returns-clause-ok
returns-clause-ok g c = λ told.
    along (λ at text. OnOk c.put.result (Put 1 (g.D.Disk.held c.args.device.now) (g.D.Disk.held c.put.new.device) at text))
    (256 + 256 * c.from.result) (slot_at label_pair c.args.slot) c.encode.new.into (dump_text c.args.label.now) (omega (arith, c.from.ensures)) c.encode.ensures (c.put.ensures.ok told)

pub returns-clause-err : goal.returns-clause-err
returns-clause-err g c = λ told.
    along (λ at text. OnErr c.put.result (Left 1 (g.D.Disk.held c.args.device.now) (g.D.Disk.held c.put.new.device) at text))
    (256 + 256 * c.from.result) (slot_at label_pair c.args.slot) c.encode.new.into (dump_text c.args.label.now) (omega (arith, c.from.ensures)) c.encode.ensures (c.put.ensures.err told)

pub returns-clause-there : goal.returns-clause-there
returns-clause-there g c = λ told.
    file_kept c.put.result (256 + 256 * c.from.result) c.encode.new.into (g.D.Disk.held c.args.device.now) (g.D.Disk.held c.put.new.device) (c.requires.there told) (omega (arith, c.from.ensures, c.requires.slot)) (c.put.ensures.ok told) (c.put.ensures.err told)
