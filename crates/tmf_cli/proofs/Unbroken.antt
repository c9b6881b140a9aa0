-- Where a node is up, no volume that a run names is broken: so no attempt and no dump of a run meets damage.
use Rattle.std.specs.Prelude.{flat_map, if◌then◌else◌, ◌==◌, slice_get}
use Rattle.std.specs.Option.{option_and_then, option_map_or}
use Rattle.std.proofs.Common.{true, false, ◌≡◌, ◌++◌, ◌∷◌, [], zero, suc, ℕ, Bool, List, Option, Some, None, refl, sym, ap, subst, ◌∙◌, inl, inr, ⊎_elim, arith}
use Rattle.block_cache.specs.Volume.{HasBase}
use Rattle.disk_model.specs.Devices.{held_at}
use Rattle.disk_model.specs.Fuse.{device_of}
use Rattle.disk_model.specs.Held.{Held}
use Rattle.disk_model.specs.declared.fuse.Fuse.{Fuse}
use Rattle.node_machine.specs.Same.{Among}
use Rattle.run_outcomes.specs.Devices.{fuse_kind, told_in, told_of, volume_device}
use Rattle.run_outcomes.specs.Found.{ToldBase}
use Rattle.run_outcomes.specs.Run.{IsBroken, volumes_named, volumes_of_item}
use Rattle.run_outcomes.specs.Told.{Account, IsDamaged, item_of}
use Rattle.run_standing.specs.NodeUp.{IsNodeUp}
use Rattle.run_standing.specs.Telling.{telling}
use Rattle.tmf_model.specs.Commits.{attempted, numbered, script_transaction}
use Rattle.tmf_model.specs.RecordMap.{RecordMap}
use Rattle.tmf_model.specs.Transid.{is_between}
use Rattle.tmf_model.specs.declared.config.Config.{Config}
use Rattle.tmf_model.specs.declared.config.Volume.{Volume}
use Rattle.tmf_model.specs.Config.{IsNumber}
use Rattle.tmf_model.specs.declared.script.Item.{Item}
use Rattle.tmf_model.specs.declared.script.Item.TheVariants.{Transaction as TransactionItem, Control, Dump}
use Rattle.tmf_model.specs.declared.script.Phase.{Phase}
use Rattle.tmf_model.specs.declared.script.Transaction.{Transaction}
use Rattle.tmf_model.specs.declared.transid.Transid.{Transid}
use Rattle.trail_files.specs.StandsFor.{Base}
use Rattle.trail_files.specs.declared.damage.Damage.{Damage}
use Rattle.trail_files.specs.declared.monitor_record.MonitorRecord.{MonitorRecord}
use Rattle.tmf_cli.specs.Lost.{IsPresent}

-- THE VOLUMES OF AN ITEM ARE AMONG THOSE THAT THE RUN NAMES

at-among : {A : Type 0} (xs : List A) (i : ℕ) (x : A) → slice_get xs i ≡ Some x → Among xs x
at-among [] i x at = absurd (cc at)
at-among (y ∷ xs) zero x at = inl (cc at)
at-among (y ∷ xs) (suc i) x at = inr (at-among xs i x at)

numbered-among : {A : Type 0} (xs : List A) (n : ℕ) (x : A) → numbered xs n ≡ Some x → Among xs x
numbered-among xs zero x at = absurd (cc at)
numbered-among xs (suc i) x at = at-among xs i x at

and-then-some : {A B : Type 0} (f : A → Option B) (o : Option A) (b : B) → option_and_then f o ≡ Some b → (a : A) × (o ≡ Some a) × (f a ≡ Some b)
and-then-some f None b is = absurd (cc is)
and-then-some f (Some a) b is = (a, refl, is)

if-some : {A : Type 0} (test : Bool) (o : Option A) (x : A) → (if test then o else None) ≡ Some x → o ≡ Some x
if-some true o x is = is
if-some false o x is = absurd (cc is)

append-left : (xs ys : List ℕ) (v : ℕ) → Among xs v → Among (xs ++ ys) v
append-left [] ys v among = absurd among
append-left (x ∷ xs) ys v among = ⊎_elim (λ here. inl here) (λ rest. inr (append-left xs ys v rest)) among

append-right : (xs ys : List ℕ) (v : ℕ) → Among ys v → Among (xs ++ ys) v
append-right [] ys v among = among
append-right (x ∷ xs) ys v among = inr (append-right xs ys v among)

flat-in : {A : Type 0} (f : A → List ℕ) (xs : List A) (x : A) (v : ℕ) → Among xs x → Among (f x) v → Among (flat_map f xs) v
flat-in f [] x v among there = absurd among
flat-in f (y ∷ xs) x v among there =
    ⊎_elim (λ here. append-left (f y) (flat_map f xs) v (subst (λ z. Among (f z) v) (sym here) there))
    (λ rest. append-right (f y) (flat_map f xs) v (flat-in f xs x v rest there)) among

pub item-named : (config : Config) (phase : Phase) (t : Transid) (item : Item) (v : ℕ) → item_of phase t ≡ Some item → Among (volumes_of_item config item) v → Among (volumes_named config phase) v
item-named config phase t item v is there =
    let at = and-then-some (λ (items : List Item). numbered items t.ordinal) (numbered phase.workers t.worker) item is in
    flat-in (λ items. flat_map (volumes_of_item config) items) phase.workers at.0 v (numbered-among phase.workers t.worker at.0 at.1)
    (flat-in (volumes_of_item config) at.0 item v (numbered-among at.0 t.ordinal item at.2) there)

-- the transaction of an item of which an attempt is one
transaction-of : (attempt : ℕ) (item : Item) (transaction : Transaction) → attempted attempt item ≡ Some transaction → item ≡ TransactionItem transaction
transaction-of attempt (TransactionItem other) transaction is =
    let same : Some other ≡ Some transaction = if-some (is_between 1 other.attempts attempt) (Some other) transaction is in cc
transaction-of attempt (Control volume) transaction is = absurd (cc is)
transaction-of attempt (Dump volume) transaction is = absurd (cc is)

pub attempt-item : (phase : Phase) (epoch : ℕ) (t : Transid) (transaction : Transaction) → script_transaction phase epoch t ≡ Some transaction → item_of phase t ≡ Some (TransactionItem transaction)
attempt-item phase epoch t transaction is =
    let at = and-then-some (attempted t.attempt) (item_of phase t) transaction (if-some (t.epoch == epoch) (option_and_then (attempted t.attempt) (item_of phase t)) transaction is) in
    at.1 ∙ ap Some (transaction-of t.attempt at.0 transaction at.2)

-- NO NAMED VOLUME IS BROKEN

module _ {D : Type 0} (held : D → Held) (faults : D → ℕ) (config : Config) (phase : Phase) (epoch : ℕ) (opened : List (Fuse D)) (list : List MonitorRecord) (map : RecordMap)
    (up : IsNodeUp config (held_at held opened) list map epoch) (present : (volume : ℕ) → Among (volumes_named config phase) volume → IsPresent config (held_at held opened) volume) where
  abbrev bay : ℕ → Option (Fuse D)
  bay number = slice_get opened number

  told-there : (o : Option (Fuse D)) (before : Fuse D) → o ≡ Some before
      → option_and_then (told_of (fuse_kind (telling held faults))) o ≡ Some (option_map_or (λ fuse. held (device_of fuse)) o (λ n. None))
  told-there o before is =
      subst (λ x. option_and_then (told_of (fuse_kind (telling held faults))) x ≡ Some (option_map_or (λ fuse. held (device_of fuse)) x (λ n. None))) (sym is) refl

  -- a volume that is not lost told its base
  based : (volume : ℕ) (line : Volume) → IsNumber config.volumes volume line → (before : Fuse D) → slice_get opened (volume_device volume) ≡ Some before → (o : Option Base) → up.rests.stands.bases volume ≡ o
      → IsPresent config (held_at held opened) volume → (base : Base) × ToldBase config (told_in (fuse_kind (telling held faults)) bay) volume (Some base)
  based volume line number before was None is there =
      let none = subst (HasBase config volume (held_at held opened (volume_device volume))) is (up.rests.stands.volumes_spelled volume line number) in
      absurd (there.found (λ f at. (none f at).1))
  based volume line number before was (Some base) is there = (
    base,
    (
      held_at held opened (volume_device volume),
      told-there (slice_get opened (volume_device volume)) before was,
      (subst (HasBase config volume (held_at held opened (volume_device volume))) is (up.rests.stands.volumes_spelled volume line number), up.rests.volumes_rest volume line number),
    ),
  )

  unbroken : (volume : ℕ) → Among (volumes_named config phase) volume → (device : ℕ) → device ≡ volume_device volume → (damage : Damage) → IsBroken (fuse_kind (telling held faults)) config bay device damage → ⊥
  unbroken volume among device is damage broken =
      let same : volume ≡ broken.volume = omega (arith, is, broken.device_is) in
      let there : IsPresent config (held_at held opened) broken.volume = subst (IsPresent config (held_at held opened)) same (present volume among) in
      let at : slice_get opened (volume_device broken.volume) ≡ Some broken.before = subst (λ n. slice_get opened n ≡ Some broken.before) broken.device_is broken.was in
      let base = based broken.volume there.line there.number broken.before at (up.rests.stands.bases broken.volume) refl there in
      broken.baseless base.0 base.1

  pub undamaged : (account : Account) → account.broken ≡ IsBroken (fuse_kind (telling held faults)) config bay → (volumes : List ℕ) → ((v : ℕ) → Among volumes v → Among (volumes_named config phase) v)
      → (device : ℕ) (damage : Damage) → IsDamaged account volumes device damage → ⊥
  undamaged account is volumes named device damage damaged =
      unbroken damaged.0.0 (named damaged.0.0 damaged.0.1) device damaged.0.2 damage (subst (λ (b : ℕ → Damage → Type 0). b device damage) is damaged.1)
