use Rattle.std.proofs.Common.{◌≡◌, ℕ, sym, ◌∙◌, subst}
use Rattle.std.specs.Prelude.{IsTrue}
use Rattle.disk_model.specs.Held.{IsThere}
use Rattle.online_dump.specs.Body.{IsBodySoFar, IsWholeBody}
use Rattle.online_dump.specs.Filling.{HoldsBody, next_body}
use Rattle.online_dump.specs.Found.{DumpView}
use Rattle.online_dump.proofs.dump_file.DumpFile.finish_body.Goals as goal

pub returns-in-Ok-clause-body : goal.returns-in-Ok-clause-body
returns-in-Ok-clause-body g c = λ text.
    let inside = c.self.inside in
    let new = g.D.Disk.held c.finish_body.new.device in
    let body : c.from.result ≡ next_body inside.found = c.from.ensures ∙ c.next_body.ensures.body in
    subst (λ (v : DumpView g.row.D.Denot). IsTrue (g.D.Disk.tells v.device) → HoldsBody g.D.Disk.held v text → IsThere new (next_body v.found) (IsWholeBody text)) c.self.view_is
    (λ told was.
    let told_first : IsTrue (g.D.Disk.tells c.deref_mut.result.now) = subst (λ (d : g.row.D.Denot). IsTrue (g.D.Disk.tells d)) (sym c.deref_mut.ensures.value) told in
    let here = subst (λ (d : g.row.D.Denot). IsThere (g.D.Disk.held d) (next_body inside.found) (IsBodySoFar was.0 text)) (sym c.deref_mut.ensures.value) was.2 in
    let at = subst (λ (b : ℕ). IsThere (g.D.Disk.held c.deref_mut.result.now) b (IsBodySoFar was.0 text)) (sym body) here in
    subst (λ (b : ℕ). IsThere new b (IsWholeBody text)) body (c.in-Ok.ensures.ok was.0 text told_first at))
