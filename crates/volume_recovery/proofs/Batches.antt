-- What the landing of a batch makes of a trail's content.
use Rattle.std.specs.Prelude.{◌⊎◌, IsTrue}
use Rattle.std.proofs.Common.{◌≡◌, ◌++◌, ℕ, List, [], true, refl, inl, inr, ⊎_elim, ap, sym, ◌∙◌, subst}
use Rattle.std.proofs.lemmas.List.{append-nil}
use Rattle.disk_model.specs.declared.disk.Disk as disk
use Rattle.disk_model.specs.Held.{Held}
use Rattle.trail_files.specs.declared.rules.Rules.{Rules}
use Rattle.trail_files.specs.Content.{Content, IsAtRest, IsUnlanded, offered_of, records_in, in_file, landed_in, with_batch, with_loaded, with_landed, with_offered}
use Rattle.trail_files.specs.Content.Pending.{Nothing}
use Rattle.trail_files.specs.Format.{Format}
use Rattle.trail_files.specs.Holds.{Holds, Keeps, MaySpell}
use Rattle.trail_files.specs.Text.{Spells}
use Rattle.trail_files.proofs.Holding.{landed_more}
use Rattle.trail_files.specs.Trail.{View}

module _ {D R : Type 0} (kind : disk.Ghosts D) (format : Rules → Format R) (batch : List R) (content : Content R) where
  -- the trail may take the batch, behind what it held
  pub record MayTake (trail : View D) : Type 0 where
    pub here : Content R
    pub holds : Holds kind format trail here
    pub pending : here.pending ≡ Nothing
    pub in_order : IsTrue (kind.tells trail.device) → (format trail.rules).in_order (landed_in here ++ batch) ≡ true
    pub placed : here.placed ≡ content.placed
    pub least : here.least ≡ content.least

  module _ (trail : View D) (here : Content R) (placed : here.placed ≡ content.placed) (least : here.least ≡ content.least) where
    pub batch_landed : Holds kind format trail (with_landed (with_loaded batch here)) → Holds kind format trail (with_batch trail.file batch content)
    batch_landed is = subst (Holds kind format trail) (λ i. let c : Content R = record { least = least i; file = sym is.file i; placed = placed i ++ in_file (sym is.file i) batch; pending = Nothing; settled = true } in c) is

    pub batch_offered : Holds kind format trail (with_offered (with_loaded batch here)) → (after : Content R) × IsUnlanded batch content after × Holds kind format trail after
    batch_offered is = (with_offered (with_loaded batch here), record { least = least; placed = placed; pending = inr (inr refl) }, is)

  -- after a roll the batch may stand behind what it might before
  pub rolled_order : (old new : View D) → Keeps kind old new → (IsTrue (kind.tells old.device) → (format old.rules).in_order (landed_in content ++ batch) ≡ true) → IsTrue (kind.tells new.device) → (format new.rules).in_order (landed_in content ++ batch) ≡ true
  rolled_order old new keeps ordered told = ap (λ r. (format r).in_order (landed_in content ++ batch)) keeps.rules ∙ ordered (sym keeps.device.tells ∙ told)

module _ {R : Type 0} (format : Format R) (content : Content R) (records batch : List R) (rest : IsAtRest content records) where
  -- the batch has landed behind the records
  pub batch_behind : (file : ℕ) → IsAtRest (with_batch file batch content) (records ++ batch)
  batch_behind file = record { landed = landed_more file content.placed batch ∙ ap (λ l. l ++ batch) rest.landed; pending = refl; settled = refl }

  -- an image spells the records, with the batch or without it
  pub unlanded_images : (after : Content R) → IsUnlanded batch content after → (image : Held) → MaySpell format after image → Spells format image records ⊎ Spells format image (records ++ batch)
  unlanded_images after is image spells = ⊎_elim (λ without. inl (subst (Spells format image) landed without.spells))
      (λ with. ⊎_elim (λ none. inl (subst (Spells format image) (ap (λ l. landed_in after ++ l) none ∙ append-nil (landed_in after) ∙ landed) with.spells)) (λ more. inr (subst (Spells format image) (λ i. landed i ++ more i) with.spells)) offered) spells
    where
      landed : landed_in after ≡ records
      landed = ap records_in is.placed ∙ rest.landed

      offered : (offered_of after.pending ≡ []) ⊎ (offered_of after.pending ≡ batch)
      offered = ⊎_elim (λ e. inl (ap offered_of e)) (λ more. ⊎_elim (λ e. inl (ap offered_of e)) (λ e. inr (ap offered_of e)) more) is.pending

  -- where either may end a trail, so may what an image spells
  pub unlanded_ends : (after : Content R) → IsUnlanded batch content after → format.may_end records ≡ true → format.may_end (records ++ batch) ≡ true → (format.may_end (landed_in after) ≡ true) × (format.may_end (landed_in after ++ offered_of after.pending) ≡ true)
  unlanded_ends after is ends ends' =
      let landed : landed_in after ≡ records = ap records_in is.placed ∙ rest.landed in (
        ap format.may_end landed ∙ ends,
        ⊎_elim (λ e. ap format.may_end (ap (λ p. landed_in after ++ offered_of p) e ∙ append-nil (landed_in after) ∙ landed) ∙ ends)
            (λ more. ⊎_elim (λ e. ap format.may_end (ap (λ p. landed_in after ++ offered_of p) e ∙ append-nil (landed_in after) ∙ landed) ∙ ends) (λ e. ap format.may_end (λ i. landed i ++ offered_of (e i)) ∙ ends') more) is.pending,
      )
