use Rattle.std.proofs.Common.{◌≡◌, ℕ, ◌-◌, ◌++◌, ◌∷◌, [], List, sym, subst, ap, ◌∙◌, arith, ⊎_elim}
use Rattle.std.specs.Prelude.{Some, option_map}
use Rattle.std.proofs.lemmas.Option.{slice_get_within}
use Rattle.tmf_model.specs.Commits.{numbered}
use Rattle.tmf_model.specs.declared.config.Volume.{Volume}
use Rattle.block_cache.proofs.Caches.{same_or_other}
use Rattle.volume_restore.proofs.Takings.{line-of, not-of, not-other, told-other, told-same}
use Rattle.run_opening.specs.Lasts.{IsNextFor, next_at}
use Rattle.run_opening.proofs.Nexts.{at_other, at_own, next_seen, next_unseen}
use Rattle.run_opening.proofs.lasts.Lasts.see.Goals as goal

pub returns-then-ne-clause-own : goal.returns-then-ne-clause-own
returns-then-ne-clause-own c = λ volume low line audit is on next.
    let volumes : List Volume = c.args.config.now.volumes in
    let off : option_map (λ v. v.trail) (numbered volumes c.args.item.now.disc) ≡ Some c.args.trail → ⊥ = λ told. told-other c.trail_of.result c.args.trail c.ne.result c.ne.ensures c.if-ne.true (c.trail_of.ensures ∙ told) in
    next_unseen volume low audit c.args.item.now _ (not-of volumes c.args.item.now.disc c.args.trail volume line off is on) next

pub set-requires : goal.set-requires
set-requires c =
    let volumes : List Volume = c.args.config.now.volumes in
    let told = sym c.trail_of.ensures ∙ told-same c.trail_of.result c.args.trail c.ne.result c.ne.ensures c.if-ne.false in
    let of = line-of volumes c.args.item.now.disc c.args.trail told in
    omega (arith, slice_get_within volumes (c.args.item.now.disc - 1) of.0 of.1.1, of.1.0, c.requires.volumes.few)

pub returns-clause-own : goal.returns-clause-own
returns-clause-own c = λ volume low line audit is on next.
    let item = c.args.item.now in
    let old : ℕ → ℕ = next_at c.args.self.now in
    let n : ℕ = c.position_behind.result in
    ⊎_elim
    (λ same.
    let at : next_at c.set.new.self volume ≡ n = ap (λ (f : ℕ → ℕ). f volume) c.set.ensures ∙ at_own item.disc n volume old same in
    subst (IsNextFor volume low (audit ++ item ∷ [])) (sym at) (next_seen volume low audit item n same c.position_behind.ensures.some c.position_behind.ensures.behind))
    (λ other.
    let at : next_at c.set.new.self volume ≡ old volume = ap (λ (f : ℕ → ℕ). f volume) c.set.ensures ∙ at_other item.disc n volume old other in
    subst (IsNextFor volume low (audit ++ item ∷ [])) (sym at) (next_unseen volume low audit item (old volume) other next))
    (same_or_other item.disc volume)

pub returns-clause-others : goal.returns-clause-others
returns-clause-others c = λ volume line is off.
    let volumes : List Volume = c.args.config.now.volumes in
    let item = c.args.item.now in
    let told = sym c.trail_of.ensures ∙ told-same c.trail_of.result c.args.trail c.ne.result c.ne.ensures c.if-ne.false in
    ap (λ (f : ℕ → ℕ). f volume) c.set.ensures ∙ at_other item.disc c.position_behind.result volume (next_at c.args.self.now) (not-other volumes item.disc c.args.trail volume line told is off)
