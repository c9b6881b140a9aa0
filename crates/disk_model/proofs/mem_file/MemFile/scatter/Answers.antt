use Rattle.std.proofs.Common.{rules, ◌≡◌, ◌<◌, ℕ, sym, subst, ap, ◌∙◌, length, slice_index}
use Rattle.std.specs.Prelude.{if◌then◌else◌}
use Rattle.disk_model.specs.Held.{LeavesFile}
use Rattle.disk_model.specs.Image.{IsImage}
use Rattle.disk_model.specs.MemDisk.{earlier_of, file_of, synced_byte}
use Rattle.disk_model.specs.Scattered.{IsScattered, is_told}
use Rattle.disk_model.proofs.Scattering.{image-scattered, leaves-scattered, put-back}
use Rattle.disk_model.proofs.mem_file.MemFile.scatter.Goals as goal

pub returns : goal.returns
returns c =
    let f = c.args.self.now in
    let x = c.args.draws.now.state in
    let mid = c.scatter_bytes.new.bytes in
    let y = c.scatter_bytes.new.draws.state in
    let told = subst (λ r. IsScattered (is_told f.base r) (synced_byte f.base) x c.deref_mut.result.now mid (length c.deref_mut.result.now) y) c.deref.ensures.value c.scatter_bytes.ensures in
    let is = subst (λ b. IsScattered (is_told f.base f.risk.items) (synced_byte f.base) x b mid (length b) y) c.deref_mut.ensures.value told in
    let held : f.bytes.len ≡ length f.bytes.items = search rules in
    let back = put-back f.bytes.len mid f.bytes.items (is.long ∙ sym held) in
    let last = c.cut_to.new.bytes.items in
    let same : (i : ℕ) → i < length last → slice_index last i ≡ slice_index mid i = λ i less. c.cut_to.ensures.same i less ∙ ap (λ xs. slice_index xs i) back in
    let long = c.cut_to.ensures.length ∙ ap (λ xs. if c.args.cut then f.base.length else length xs) back in record {
      image = subst (IsImage c.args.cut x (earlier_of f) (file_of f)) (sym c.settle.ensures.synced) (image-scattered c.args.cut x f mid last y is same long);
      leaves = subst (LeavesFile (file_of f)) (sym c.settle.ensures.synced) (leaves-scattered c.args.cut x f mid last y is same long);
      next = is.number;
      fresh = c.settle.ensures.fresh;
    }
