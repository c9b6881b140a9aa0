use Rattle.std.proofs.Common.{◌≡◌, ℕ, ◌+◌, ◌*◌, List, length, sym, ap, subst, ◌∙◌, arith}
use Rattle.std.specs.Prelude.{OnOk, OnErr}
use Rattle.std.proofs.lemmas.List.{length-take-le}
use Rattle.trail_files.specs.Put.{Put, Left}
use Rattle.keyed_file.specs.LabelFormat.{label_text}
use Rattle.keyed_file.specs.Layout.{label_pair, slot_at}
use Rattle.block_cache.proofs.blocks.write_label.Goals as goal

-- what is said of a number and a text is said of equal ones
along : (P : ℕ → List ℕ → Type 0) (a a' : ℕ) (x x' : List ℕ) → a ≡ a' → x ≡ x' → P a x → P a' x'
along P a a' x x' p q holds = subst (P a') q (subst (λ (a : ℕ). P a x) p holds)

pub slice_bounds-bytes-end : goal.slice_bounds-bytes-end
slice_bounds-bytes-end g c = sym (length-take-le 256 c.deref_mut.result.now (omega (arith, c.deref_mut.ensures.len, c.deref_mut.ensures.value, c.requires.room)))

pub encode-requires-clause-bytes : goal.encode-requires-clause-bytes
encode-requires-clause-bytes g c = length-take-le 256 c.deref_mut.result.now (omega (arith, c.deref_mut.ensures.len, c.deref_mut.ensures.value, c.requires.room))

pub returns-clause-ok : goal.returns-clause-ok
returns-clause-ok g c = λ told.
    along (λ at text. OnOk c.put.result (Put 1 (g.D.Disk.held c.args.device.now) (g.D.Disk.held c.put.new.device) at text))
    (256 + c.from.result * 256) (slot_at label_pair c.args.slot) c.encode.new.into (label_text c.args.label.now) (omega (arith, c.from.ensures)) c.encode.ensures (c.put.ensures.ok told)

pub returns-clause-err : goal.returns-clause-err
returns-clause-err g c = λ told.
    along (λ at text. OnErr c.put.result (Left 1 (g.D.Disk.held c.args.device.now) (g.D.Disk.held c.put.new.device) at text))
    (256 + c.from.result * 256) (slot_at label_pair c.args.slot) c.encode.new.into (label_text c.args.label.now) (omega (arith, c.from.ensures)) c.encode.ensures (c.put.ensures.err told)

pub returns-clause-long : goal.returns-clause-long
returns-clause-long g c = ap length (sym c.encode.ensures) ∙ c.encode.auto.into ∙ length-take-le 256 c.deref_mut.result.now (omega (arith, c.deref_mut.ensures.len, c.deref_mut.ensures.value, c.requires.room))
