use Rattle.std.proofs.Common.{rules, subst, ap, ◌≡◌, ◌≢◌, ◌∙◌, ℕ}
use Rattle.std.specs.Prelude.{Some, None}
use Rattle.std.specs.Ordering.{nat_cmp}
use Rattle.std.specs.BTreeMap.{get}
use Rattle.disk_model.specs.Image.{number_after, risked_in}
use Rattle.disk_model.specs.MemDisk.{file_of}
use Rattle.disk_model.proofs.Picking.{IsPickedUpTo, all-picked, none-behind, none-first, picked-absent, picked-first, picked-there}
use Rattle.disk_model.proofs.mem_disk.scatter_files.Goals as goal
use Rattle.disk_model.proofs.mem_disk.scatter_files.Goals.{in-Some-get_mut, in_default-get_mut}

pub loop-next-init : goal.loop-next-init
loop-next-init c = picked-first c.args.cut c.args.draws.now.state c.args.files.now c.first_file-next.result (none-first c.args.files.now c.first_file-next.result c.first_file-next.ensures.none c.first_file-next.ensures.first)

pub loop-next-preserved : goal.loop-next-preserved
loop-next-preserved c =
    let k = c.in-Some.number in
    let old = c.args.files.now in
    let mid = c.loop-next.files in
    let new = c.match-get_mut.files in
    let x = c.args.draws.now.state in
    let y = c.loop-next.draws.state in
    let z = c.match-get_mut.draws.state in
    let next = c.file_behind-next.result in
    let is = subst (λ o. IsPickedUpTo c.args.cut x old mid o y) c.in-Some.is c.loop-next.invariant in
    let none = none-behind new k next c.file_behind-next.ensures.none c.file_behind-next.ensures.behind c.file_behind-next.ensures.next in
    elim c.match-get_mut.branch [
      | in-Some-get_mut w ↦
          let f = w.in-Some-get_mut.f.now in
          let was : get nat_cmp mid k ≡ Some f = search (rules, w.in-Some-get_mut.ensures) in
          let now : get nat_cmp new k ≡ Some w.scatter.new.self = search (rules, w.files-is, c.get_mut.follows) in
          let others : (n : ℕ) → n ≢ k → get nat_cmp new n ≡ get nat_cmp mid n = λ n other. search (rules, other, w.files-is, c.get_mut.follows) in
          let moved : z ≡ number_after y (risked_in (Some (file_of f))) = ap (λ d. d.state) w.draws-is ∙ w.scatter.ensures.next in
          picked-there c.args.cut x old mid new k y z next f w.scatter.new.self is others was now
          (record { image = w.scatter.ensures.image; leaves = w.scatter.ensures.leaves; fresh = w.scatter.ensures.fresh }) moved none
      | in_default-get_mut w ↦
          let same : (n : ℕ) → get nat_cmp new n ≡ get nat_cmp mid n = λ n. search (rules, w.files-is, c.get_mut.follows, w.in_default-get_mut.is) in
          let absent : get nat_cmp mid k ≡ None = search (rules, w.in_default-get_mut.is, w.in_default-get_mut.ensures) in
          picked-absent c.args.cut x old mid new k y z next is same absent (ap (λ d. d.state) w.draws-is) none
    ]

pub returns-clause-picked : goal.returns-clause-picked
returns-clause-picked c =
    all-picked c.args.cut c.args.draws.now.state c.args.files.now c.loop-next.files c.loop-next.draws.state
    (subst (λ o. IsPickedUpTo c.args.cut c.args.draws.now.state c.args.files.now c.loop-next.files o c.loop-next.draws.state) c.in_default.is c.loop-next.invariant)
