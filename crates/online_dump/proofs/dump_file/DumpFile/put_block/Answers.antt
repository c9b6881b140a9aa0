use Rattle.std.proofs.Common.{◌≡◌, ◌+◌, ◌++◌, ℕ, Some, refl, sym, ◌∙◌, subst}
use Rattle.std.specs.Prelude.{IsTrue}
use Rattle.disk_model.specs.Held.{IsThere}
use Rattle.online_dump.specs.Body.{IsBodySoFar}
use Rattle.online_dump.specs.Filling.{HoldsBody, next_body}
use Rattle.online_dump.specs.Found.{DumpView}
use Rattle.online_dump.proofs.dump_file.DumpFile.put_block.Goals as goal

pub returns-in-Ok-clause-body : goal.returns-in-Ok-clause-body
returns-in-Ok-clause-body g c = λ text.
    let inside = c.self.inside in
    let number = c.in-Some.number in
    let new = g.D.Disk.held c.append_block.new.device in
    let body : c.from.result ≡ next_body inside.found = c.from.ensures ∙ c.next_body.ensures.body in
    subst (λ (v : DumpView g.row.D.Denot). IsTrue (g.D.Disk.tells v.device) → HoldsBody g.D.Disk.held v text
    → (x : ℕ) × (Some (number + 1) ≡ Some x) × IsThere new (next_body inside.found) (IsBodySoFar x (text ++ c.args.block.now))) c.self.view_is
    (λ told was.
    let told_first : IsTrue (g.D.Disk.tells c.deref_mut.result.now) = subst (λ (d : g.row.D.Denot). IsTrue (g.D.Disk.tells d)) (sym c.deref_mut.ensures.value) told in
    let same : was.0 ≡ number = cc (c.in-Some.ensures.value, was.1) in
    let here = subst (λ (d : g.row.D.Denot). IsThere (g.D.Disk.held d) (next_body inside.found) (IsBodySoFar was.0 text)) (sym c.deref_mut.ensures.value) was.2 in
    let there = subst (λ (n : ℕ). IsThere (g.D.Disk.held c.deref_mut.result.now) (next_body inside.found) (IsBodySoFar n text)) same here in
    let at = subst (λ (b : ℕ). IsThere (g.D.Disk.held c.deref_mut.result.now) b (IsBodySoFar number text)) (sym body) there in
    (number + 1, refl, subst (λ (b : ℕ). IsThere new b (IsBodySoFar (number + 1) (text ++ c.args.block.now))) body (c.in-Ok.ensures.ok text told_first at)))
