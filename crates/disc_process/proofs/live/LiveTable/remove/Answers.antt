use Rattle.std.proofs.Common.{List, cond, ap, ◌∙◌, rules}
use Rattle.std.specs.Map.{lookup}
use Rattle.std.proofs.lemmas.Map.Made.{lookup-map_values, map_same_pairs}
use Rattle.tmf_model.specs.declared.transid.Transid.{Transid}
use Rattle.trail_files.specs.MonitorOrder.{is_same_transid}
use Rattle.disc_process.specs.declared.live.Live.{Live}
use Rattle.disc_process.specs.declared.live.Span.{Span}
use Rattle.disc_process.specs.Live.{lifted_live, live_of}
use Rattle.disc_process.specs.LiveTx.{lifted_tx, nothing_done}
use Rattle.disc_process.proofs.Bounds.{removed_live}
use Rattle.disc_process.proofs.live.LiveTable.remove.Goals as goal

pub returns : goal.returns
returns c = λ u.
    let gone : Span = c.gone_span-gone.result in
    let mapped = map_same_pairs _ (lifted_live gone) _ (λ k v b w f' t. search rules) c.remove.new.self.entries c.retain.new.self.entries c.retain.ensures.filtered in
    removed_live c.args.self.now.live c.remove.new.self c.retain.new.self c.args.t.now gone c.remove.ensures.updates (λ test. ap (λ (es : List (Transid × Live)). lookup test es) mapped ∙ lookup-map_values (lifted_live gone) test c.remove.new.self.entries) u
    ∙ ap (λ (x : Span). cond (is_same_transid c.args.t.now u) nothing_done (lifted_tx x (live_of c.args.self.now u))) c.gone_span-gone.ensures
