-- What a run makes of a node, from what its call has answered.
use Rattle.std.specs.Prelude.{slice_get, ◌&&◌, not, Contains, Result, IfErr, IfOk, MatchResult, Ok, Err, Option, Some, None}
use Rattle.std.specs.List.{list_all}
use Rattle.std.proofs.Common.{zero, suc, Bool, true, false, ◌≡◌, ◌≢◌, ◌≤◌, ◌++◌, ◌∷◌, [], ℕ, List, length, refl, sym, ap, subst, ◌∙◌, inl, inr, ⊎_elim, arith}
use Rattle.std.proofs.lemmas.Bool.{cases_lt}
use Rattle.std.proofs.lemmas.List.{append-nil}
use Rattle.std.proofs.lemmas.Option.{none-some}
use Rattle.disk_model.specs.Devices.{AreImages, AreLater, DevicesTell, EachFuse, HoldSame, RoseAt, held_at}
use Rattle.disk_model.specs.Fuse.{KeepsCuts, device_of, fuse_faults}
use Rattle.disk_model.specs.Held.{Held}
use Rattle.disk_model.specs.declared.disk.Disk as disk
use Rattle.disk_model.specs.declared.fuse.Fuse.{Fuse}
use Rattle.disk_model.proofs.Devices.{held-then, rose-after, tell-then}
use Rattle.keyed_file.specs.Volume.{IsLost}
use Rattle.run_outcomes.specs.Devices.{AreReturned, IsUntouched, fuse_kind}
use Rattle.node_machine.specs.Same.{Among}
use Rattle.run_outcomes.specs.Run.{HasNotRun, HasRun, IsUnfit, volumes_named}
use Rattle.run_outcomes.specs.Outcomes.{AreOfWorkers, is_last}
use Rattle.run_outcomes.specs.Told.{IsRecordOf}
use Rattle.run_outcomes.specs.declared.outcome.Outcome.{Outcome}
use Rattle.run_outcomes.specs.declared.outcome.PhaseError.{PhaseError}
use Rattle.run_outcomes.specs.declared.outcome.PhaseError.TheVariants as phase_error
use Rattle.run_standing.specs.Fit.{UndamagedLaw}
use Rattle.run_standing.specs.Made.{HasMade}
use Rattle.run_standing.specs.NodeUp.{IsNodeUp}
use Rattle.run_standing.specs.Telling.{NotRunTellingLaw, TellingLaw}
use Rattle.single_law.specs.Dumps.{DumpsGoOn, DumpsLaw, IsSurelyDumped}
use Rattle.single_law.specs.Front.{FrontLaw, HaveEndedTo}
use Rattle.single_law.specs.Left.{records_left}
use Rattle.single_law.specs.Row.{AreInRow, RowLaw}
use Rattle.single_law.specs.Single.{HaveEnded, SingleLaw}
use Rattle.tmf_model.specs.declared.config.Config.{Config}
use Rattle.tmf_model.specs.declared.config.Volume.{Volume}
use Rattle.tmf_model.specs.declared.script.Action.TheVariants.{Run as RunAction}
use Rattle.tmf_model.specs.declared.script.Item.{Item}
use Rattle.tmf_model.specs.declared.script.Phase.{Phase}
use Rattle.tmf_model.specs.Config.{IsValidConfig}
use Rattle.tmf_model.specs.Script.{IsValidPhase}
use Rattle.tmf_lines.specs.declared.line.ActionKind.TheVariants as asked
use Rattle.tmf_lines.specs.declared.line.Line.{Line}
use Rattle.tmf_lines.specs.declared.line.Line.TheVariants.{NotUp}
use Rattle.trail_files.specs.StandsFor.{IsNumber}
use Rattle.trail_files.specs.declared.damage.Damage.{Damage}
use Rattle.trail_files.specs.declared.monitor_record.MonitorRecord.{MonitorRecord}
use Rattle.trail_files.specs.declared.monitor_record.MonitorRecord.TheVariants.{Start, Commit, Abort}
use Rattle.volume_recovery.specs.VolumeAnswers.{is_lost, lost_among}
use Rattle.volume_recovery.specs.VolumeFormat.{IsNodeDevice}
use Rattle.block_cache.specs.Created.{IsSurelyLost}
use Rattle.volume_recovery.specs.VolumeNode.{dump_device, volume_device}
use Rattle.tmf_cli.specs.declared.node.NodeState.{NodeState}
use Rattle.tmf_cli.specs.declared.node.Up.{Up}
use Rattle.tmf_cli.specs.BetweenActions.{HasBroken, HasDone, IfUp, IsReady, Knows, RestsUp, SameOthers, node_of}
use Rattle.tmf_cli.specs.Lost.{IsPresent, up_for, workers_name_lost}
use Rattle.tmf_cli.specs.OutputLaw.{AreExact, AreSettled, AreSettledTo, Candidate, IsRunLine, IsUnrunFor, MayStand, OneGoesOn, RunsWhole, down, with_records}
use Rattle.tmf_cli.specs.RunLines.{run_lines}
use Rattle.tmf_cli.specs.Single.{IsSingle, first_worker, items_of}
use Rattle.tmf_cli.specs.Threads.{RunsBay}
use Rattle.tmf_cli.proofs.Acts.{stands-same}
use Rattle.tmf_cli.proofs.Bays.{held-same, images-same}
use Rattle.tmf_cli.proofs.Countdowns.{rose-later, switched-falls, switched-holds, switched-tells}
use Rattle.tmf_cli.proofs.Losses.{lost-alike, lost-both, number-within, unless-some}
use Rattle.tmf_cli.proofs.Naming.{named-declared, named-unlost}
use Rattle.tmf_cli.proofs.Resting.{up-ready}

-- WHAT COMES BACK

-- what is so of each fuse in its place is so of each of as many
each-at : {D : Type 0} (P : Fuse D → Fuse D → Type 0) (xs ys : List (Fuse D)) → length xs ≡ length ys → ((n : ℕ) (a b : Fuse D) → slice_get xs n ≡ Some a → slice_get ys n ≡ Some b → P a b) → EachFuse P xs ys
each-at P [] [] count so n = tt
each-at P [] (y ∷ ys) count so n = absurd (omega (arith, count))
each-at P (x ∷ xs) [] count so n = absurd (omega (arith, count))
each-at P (x ∷ xs) (y ∷ ys) count so zero = so 0 x y refl refl
each-at P (x ∷ xs) (y ∷ ys) count so (suc n) = each-at P xs ys (omega (arith, count)) (λ m a b was is. so (suc m) a b was is) n

-- what is so of either end
pub match-both : {T E : Type 0} (r : Result T E) (P : T → Type 0) (Q : E → Type 0) → IfOk r P → IfErr r Q → MatchResult r P Q
match-both (Ok x) P Q ok err = ok
match-both (Err e) P Q ok err = err

-- a device that is none of the configuration's is touched by no run
untouched : (config : Config) (number : ℕ) → ¬ IsNodeDevice config number → IsUntouched config number
untouched config number out = record {
  trail = ⊎_elim (λ below. below) (λ within. absurd (out (inl within))) (cases_lt (length config.trails) number);
  volume = λ v line is same. let within = number-within config.volumes v line is in out (inr (inl (record { above = omega (arith, is.0, same); below = omega (arith, within, same) })));
  dump = λ v line is same. let within = number-within config.volumes v line is in out (inr (inr (record { above = omega (arith, is.0, same); below = omega (arith, within, same) })));
}

module _ {D : Type 0} (kind : disk.Ghosts D) (config : Config) (old new : List (Fuse D)) (returned : AreReturned (fuse_kind kind) config old new) where
  pub later-returned : AreLater kind old new
  later-returned = record {
    devices = each-at (λ a b. kind.is_same (device_of a) (device_of b)) old new (sym returned.count) (λ n a b was is. (returned.later n a b was is).device.device);
    tells = each-at (λ a b. kind.tells (device_of b) ≡ kind.tells (device_of a)) old new (sym returned.count) (λ n a b was is. (returned.later n a b was is).tells);
    later = each-at (λ a b. fuse_faults kind.faults a ≤ fuse_faults kind.faults b) old new (sym returned.count) (λ n a b was is. (returned.later n a b was is).later);
    cuts = each-at KeepsCuts old new (sym returned.count) (λ n a b was is. (returned.later n a b was is).device.cuts);
  }

  pub others-returned : SameOthers config old new
  others-returned = λ number out. returned.untouched number (untouched config number out)

-- OUTCOMES

-- no record is of no outcome
of-none : (item : MonitorRecord) → IsRecordOf [] item → ⊥
of-none (Start epoch) is = is
of-none (Commit tx) is = is.among
of-none (Abort tx) is = is.among

none-of : (xs : List MonitorRecord) → ((x : MonitorRecord) → Contains xs x → ⊥) → xs ≡ []
none-of [] never = refl
none-of (x ∷ xs) never = absurd (never x (0, omega arith, refl))

front-none : {T : Type 0} (xs ys : List T) → xs ++ ys ≡ [] → (xs ≡ []) × (ys ≡ [])
front-none [] ys none = (refl, none)
front-none (x ∷ xs) ys none = absurd (cc none)

true-both : (a b : Bool) → (a && b) ≡ true → (a ≡ true) × (b ≡ true)
true-both true b is = (refl, is)
true-both false b is = absurd (cc is)

not-true : (b : Bool) → not b ≡ true → b ≡ false
not-true false is = refl
not-true true is = absurd (cc is)

-- whether no outcome is the last of its worker
settled-all : (outcomes : List Outcome) → list_all (λ (outcome : Outcome). not (is_last outcome.told)) outcomes ≡ true → AreSettled outcomes
settled-all [] all outcome (n, lt, at) = absurd (omega (arith, lt))
settled-all (x ∷ xs) all outcome (zero, lt, at) = (let both = true-both (not (is_last x.told)) (list_all (λ (o : Outcome). not (is_last o.told)) xs) all in subst (λ (o : Outcome). is_last o.told ≡ false) at (not-true (is_last x.told) both.0))
settled-all (x ∷ xs) all outcome (suc n, lt, at) = (let both = true-both (not (is_last x.told)) (list_all (λ (o : Outcome). not (is_last o.told)) xs) all in settled-all xs both.1 outcome (n, omega (arith, lt), at))

unsettled : (outcomes : List Outcome) → list_all (λ (outcome : Outcome). not (is_last outcome.told)) outcomes ≡ false → AreSettled outcomes → ⊥
unsettled [] some settled = absurd (cc some)
unsettled (x ∷ xs) some settled =
    let first : is_last x.told ≡ false = settled x (0, omega arith, refl) in
    unsettled xs (sym (ap (λ (b : Bool). not b && list_all (λ (o : Outcome). not (is_last o.told)) xs) first) ∙ some) (λ outcome there. settled outcome (suc there.0, omega (arith, there.1), there.2))

-- WHAT A RUN MAKES OF A NODE THAT IS UP

module _ {D : Type 0} (kind : disk.Ghosts D) (config : Config) (phase : Phase) (old new : List (Fuse D)) (state : NodeState) (up : Up) (may : up_for config phase state ≡ Some up) (valid : IsValidConfig config) (is_phase : IsValidPhase config phase)
    (tell : DevicesTell kind.tells old) (result : Result (List Outcome) PhaseError) (bay : RunsBay kind config phase up.epoch result old new) (candidates : Option (List Candidate)) (knows : Knows kind.held config (node_of state candidates) old) where
  abbrev held : D → Held
  held = kind.held

  abbrev faults : D → ℕ
  faults = kind.faults

  abbrev opened : List (Fuse D)
  opened = bay.opened

  abbrev closed : List (Fuse D)
  closed = bay.closed

  same_opened : held_at held opened ≡ held_at held old
  same_opened = held-same held old opened (switched-holds old opened bay.on held)

  tell_opened : DevicesTell kind.tells opened
  tell_opened = tell-then kind.tells old opened (switched-tells old opened bay.on kind.tells) tell

  found : (state.up ≡ Some up) × (workers_name_lost config up.lost phase.workers ≡ false)
  found = unless-some (λ u. workers_name_lost config u.lost phase.workers) state.up up may

  rests : RestsUp held config old up candidates
  rests = subst (λ o. IfUp held config old o candidates) found.0 knows.up

  ready : IsReady config (held_at held old) up
  ready = up-ready held config old up candidates rests

  -- a node that is up is so with the countdown on
  node-up : (s : Candidate) → IsNodeUp config (held_at held old) s.list s.map up.epoch → IsNodeUp config (held_at held opened) s.list s.map up.epoch
  node-up s is = subst (λ h. IsNodeUp config h s.list s.map up.epoch) (sym same_opened) is

  -- each volume that the run names is there
  present : (volume : ℕ) → Among (volumes_named config phase) volume → IsPresent config (held_at held opened) volume
  present volume among =
      let one = named-declared config phase valid is_phase volume among in
      record {
        line = one.0;
        number = one.1;
        found = λ gone. named-unlost config (held_at held old) up.lost phase valid is_phase ready.lost found.1 volume among (subst (λ (h : ℕ → Held). IsLost (h (volume_device volume))) same_opened gone);
      }

  -- the images have lost what was lost before
  left-lost : (s : Candidate) (outcomes : List Outcome) → HasMade phase up.epoch held config s.list s.map outcomes opened closed → lost_among (held_at held old) (length config.volumes) ≡ s.lost
      → (images : ℕ → Held) → AreImages held closed images → lost_among images (length config.volumes) ≡ s.lost
  left-lost s outcomes made lost images left =
      lost-alike config images (held_at held old)
      (λ v line number.
      let both = made.lost images v line left number in
      lost-both (images (volume_device v)) (held_at held opened (volume_device v)) both.0 both.1 ∙ ap (λ (h : ℕ → Held). is_lost (h (volume_device v))) same_opened)
      ∙ lost

  module _ (row_law : RowLaw kind) (single_law : SingleLaw kind) (dumps_law : DumpsLaw kind) (front_law : FrontLaw kind) (outcomes : List Outcome) (is_ok : result ≡ Ok outcomes) where
    has : HasRun (fuse_kind kind) config phase up.epoch opened closed outcomes
    has = subst (λ (r : Result (List Outcome) PhaseError). MatchResult r (HasRun (fuse_kind kind) config phase up.epoch opened closed) (HasNotRun (fuse_kind kind) config phase up.epoch opened closed)) is_ok bay.told

    -- no device was unfit
    fit : (device : ℕ) (damage : Damage) → IsUnfit (fuse_kind kind) config phase up.epoch opened device damage → ⊥
    fit device damage unfit =
        subst (λ (r : Result (List Outcome) PhaseError). MatchResult r (λ os. ⊥) (λ why. (other : ℕ) (told : Damage) → why ≡ phase_error.Damaged other told → (other ≡ device) × (told ≡ damage))) is_ok
        (bay.exact device damage (λ n fuse le there. tell_opened n fuse there) unfit)

    -- what the run has made of a node that stood so; of a single run the outcomes are exact, unless its worker has left items out
    record Goes (s : Candidate) : Type 0 where
      pub made : HasMade phase up.epoch held config s.list s.map outcomes opened closed
      pub row : AreInRow (made.landed ++ made.offered)
      pub exact : IsSingle phase → AreSettled outcomes → AreExact config phase up.epoch outcomes s made.landed made.offered

    goes-anyway : (s : Candidate) → IsNodeUp config (held_at held old) s.list s.map up.epoch → (IsSingle phase → AreSettled outcomes → ⊥) → Goes s
    goes-anyway s on never =
        let made = row_law config phase up.epoch opened closed outcomes s.list s.map valid bay.opened_count bay.closed_count tell_opened (node-up s on) has in
        record { made = made.0; row = made.1; exact = λ single settled. absurd (never single settled) }

    -- without a worker there is no outcome
    no-outcomes : phase.workers ≡ [] → outcomes ≡ []
    no-outcomes none = subst (λ (workers : List (List Item)). AreOfWorkers up.epoch 1 workers outcomes) none has.attempts

    -- of a single run each outcome before one that ends its worker ends as its item does
    ended : (s : Candidate) → IsNodeUp config (held_at held old) s.list s.map up.epoch → IsSingle phase → (count : ℕ) → AreSettledTo count outcomes → HaveEndedTo config phase up.epoch (items_of phase) s.list s.map outcomes count
    ended s on single count settled = of phase.workers refl
      where
        of : (workers : List (List Item)) → phase.workers ≡ workers → HaveEndedTo config phase up.epoch (items_of phase) s.list s.map outcomes count
        of [] none = record { each = λ number outcome lt at. absurd (none-some outcome (sym (ap (λ (os : List Outcome). slice_get os number) (no-outcomes none)) ∙ at)) }
        of (items ∷ []) one = subst (λ (is : List Item). HaveEndedTo config phase up.epoch is s.list s.map outcomes count) (sym (ap first_worker one))
            (front_law config phase up.epoch items opened closed outcomes s.list s.map valid bay.opened_count bay.closed_count tell_opened (node-up s on) one has count settled)
        of (items ∷ other ∷ more) many = let few : length phase.workers ≤ 1 = single in let number = ap (λ (workers : List (List Item)). length workers) many in absurd (omega (arith, few, number))

    -- without a worker nothing is made
    goes-idle : (s : Candidate) → IsNodeUp config (held_at held old) s.list s.map up.epoch → phase.workers ≡ [] → Goes s
    goes-idle s on none =
        let made = row_law config phase up.epoch opened closed outcomes s.list s.map valid bay.opened_count bay.closed_count tell_opened (node-up s on) has in
        let no_outcomes : outcomes ≡ [] = no-outcomes none in
        let no_records : made.0.landed ++ made.0.offered ≡ [] = none-of (made.0.landed ++ made.0.offered) (λ item there. of-none item (subst (λ os. IsRecordOf os item) no_outcomes (made.0.records item there))) in
        record {
          made = made.0;
          row = made.1;
          exact = λ single settled. record {
            ended = record {
              count = ap (λ (os : List Outcome). length os) no_outcomes ∙ sym (ap (λ (workers : List (List Item)). length (first_worker workers)) none);
              each = λ number outcome at. absurd (none-some outcome (sym (ap (λ (os : List Outcome). slice_get os number) no_outcomes) ∙ at));
            };
            landed_are = (front-none made.0.landed made.0.offered no_records).0 ∙ sym (ap (λ (os : List Outcome). records_left os) no_outcomes);
            none_offered = (front-none made.0.landed made.0.offered no_records).1;
          };
        }

    -- of one worker that has left nothing out, each outcome ends as its item does
    goes-alone : (s : Candidate) (items : List Item) → IsNodeUp config (held_at held old) s.list s.map up.epoch → phase.workers ≡ items ∷ [] → AreSettled outcomes → Goes s
    goes-alone s items on one settled =
        let alone = single_law config phase up.epoch items opened closed outcomes s.list s.map valid bay.opened_count bay.closed_count tell_opened (node-up s on) one has settled in
        let same : items_of phase ≡ items = ap first_worker one in
        record {
          made = alone.made;
          row = subst AreInRow (sym (ap (λ (l : List MonitorRecord). l ++ alone.made.offered) alone.landed ∙ ap (λ (l : List MonitorRecord). records_left outcomes ++ l) alone.offered ∙ append-nil (records_left outcomes))) alone.row;
          exact = λ single settled. record { ended = subst (λ (is : List Item). HaveEnded config phase up.epoch is s.list s.map outcomes) (sym same) alone.ended; landed_are = alone.landed; none_offered = alone.offered };
        }

    goes : (s : Candidate) → IsNodeUp config (held_at held old) s.list s.map up.epoch → Goes s
    goes s on = of phase.workers refl (list_all (λ (outcome : Outcome). not (is_last outcome.told)) outcomes) refl
      where
        of : (workers : List (List Item)) → phase.workers ≡ workers → (b : Bool) → list_all (λ (outcome : Outcome). not (is_last outcome.told)) outcomes ≡ b → Goes s
        of [] none b is = goes-idle s on none
        of (items ∷ []) one true is = goes-alone s items on one (settled-all outcomes is)
        of (items ∷ []) one false is = goes-anyway s on (λ single settled. unsettled outcomes is settled)
        of (items ∷ other ∷ more) many b is = goes-anyway s on (λ single settled. let few : length phase.workers ≤ 1 = single in let count = ap (λ (workers : List (List Item)). length workers) many in omega (arith, few, count))

    goes-on : (known : Option (List Candidate)) → RestsUp held config old up known → (after : Option (List Candidate)) × OneGoesOn config phase up.epoch (held_at held opened) outcomes known after × MayStand held config new after
    goes-on None rests = (None, refl, tt)
    goes-on (Some standings) (ready, s, is, on, lost) =
        let one = goes s on in
        let made = one.made in
        subst (λ xs. (after : Option (List Candidate)) × OneGoesOn config phase up.epoch (held_at held opened) outcomes (Some xs) after × MayStand held config new after) (sym is) (
          Some (with_records phase up.epoch made.landed s ∷ with_records phase up.epoch (made.landed ++ made.offered) s ∷ []),
          (s, inl refl, node-up s on, record { landed = made.landed; offered = made.offered; records = made.records; committed = made.committed; row = one.row; ended = ended s on; exact = one.exact; candidates = refl }),
          (λ images left.
              let left_closed = images-same held closed new images (switched-holds closed new bay.off held) left in
              let lost_is = left-lost s outcomes made lost images left_closed in
              ⊎_elim (λ landed. inl (record { stands = landed; lost = lost_is })) (λ offered. inr (inl (record { stands = offered; lost = lost_is }))) (made.stands images left_closed)),
        )

    -- what it has made of the dumps of each volume
    dumps-on : (known : Option (List Candidate)) → RestsUp held config old up known → known ≢ None → (volume : ℕ) (line : Volume) → IsNumber config.volumes volume line → DumpsGoOn held config phase outcomes old new volume
    dumps-on None rests some volume line number = absurd (some refl)
    dumps-on (Some standings) (ready, s, is, on, lost) some volume line number =
        let gone = dumps_law config phase up.epoch opened closed outcomes s.list s.map valid bay.opened_count bay.closed_count tell_opened (node-up s on) has volume line number in
        let before : held_at held opened (dump_device volume) ≡ held_at held old (dump_device volume) = ap (λ (h : ℕ → Held). h (dump_device volume)) same_opened in
        let behind : held_at held new (dump_device volume) ≡ held_at held closed (dump_device volume) = ap (λ (h : ℕ → Held). h (dump_device volume)) (held-same held closed new (switched-holds closed new bay.off held)) in
        record {
          none = λ none lost. subst IsSurelyLost (sym behind) (gone.none none (subst IsSurelyLost (sym before) lost));
          kept = λ there. subst (IsSurelyDumped config volume) (sym behind) (gone.kept (subst (IsSurelyDumped config volume) (sym before) there));
          made = λ outcome start among is. subst (IsSurelyDumped config volume) (sym behind) (gone.made outcome start among is);
        }

    module _ (telling_law : TellingLaw kind) where
      abbrev left : (after : Option (List Candidate)) × OneGoesOn config phase up.epoch (held_at held opened) outcomes candidates after × MayStand held config new after
      left = goes-on candidates rests

      -- the run is whole
      runs : (lines : List Line) → lines ≡ run_lines config outcomes → RunsWhole held faults config phase (node_of state candidates) old lines (node_of (down state) left.0) new
      runs lines printed = record {
        up = up;
        was_up = may;
        opened = opened;
        closed = closed;
        on = bay.on;
        armed = bay.armed;
        off = bay.off;
        all = (bay.opened_count, bay.closed_count);
        outcomes = outcomes;
        ran = telling_law config phase up.epoch opened closed outcomes tell_opened has;
        present = present;
        fit = λ device damage unfit. fit device damage unfit;
        stands = left.1;
        dumps = λ some volume line number. dumps-on candidates rests some volume line number;
        printed = printed;
        state = refl;
      }

      pub threads-done : (lines : List Line) → lines ≡ run_lines config outcomes → HasDone held faults config (RunAction phase) (node_of state candidates) old lines (down state) new
      threads-done lines printed = record { candidates = left.0; does = inr (inl (runs lines printed)); knows = record { stands = left.2; up = tt } }

      -- and its lines were not made
      pub threads-unmade : HasBroken held faults config (RunAction phase) (node_of state candidates) old new
      threads-unmade = record {
        after = node_of (down state) left.0;
        due = run_lines config outcomes;
        breaks = inr (inr (runs (run_lines config outcomes) refl));
        stands = left.2;
      }

  module _ (error : PhaseError) (is_error : result ≡ Err error) where
    not_run : HasNotRun (fuse_kind kind) config phase up.epoch opened closed error
    not_run = subst (λ (r : Result (List Outcome) PhaseError). MatchResult r (HasRun (fuse_kind kind) config phase up.epoch opened closed) (HasNotRun (fuse_kind kind) config phase up.epoch opened closed)) is_error bay.told

    -- every device holds what it held
    held_all : HoldSame held old new
    held_all =
        let between : HoldSame held opened closed = each-at (λ a b. held (device_of b) ≡ held (device_of a)) opened closed (bay.opened_count ∙ sym bay.closed_count) (λ n a b was is. not_run.same n a b was is) in
        held-then held old opened new (switched-holds old opened bay.on held) (held-then held opened closed new between (switched-holds closed new bay.off held))

    -- of a device that has failed the count rose
    rose : (device : ℕ) → error ≡ phase_error.Failed device → RoseAt faults old new device
    rose device is =
        let count = not_run.failed device is in
        let within : RoseAt faults opened closed device = record { before = count.before; after = count.after; was = count.was; is = count.is; rose = count.rose } in
        rose-later faults old closed new device (switched-falls closed new bay.off faults) (rose-after faults old opened closed device (switched-falls old opened bay.on faults) bay.falls within)

    -- where it is known what the devices stand for, none is damaged
    unknown : UndamagedLaw kind → (device : ℕ) (damage : Damage) → error ≡ phase_error.Damaged device damage → (known : Option (List Candidate)) → RestsUp held config old up known → known ≡ None
    unknown law device damage is None rests = refl
    unknown law device damage is (Some standings) (ready, s, one, on, lost) =
        absurd (law config phase up.epoch opened s.list s.map device damage valid (node-up s on)
        (λ volume among gone. (present volume among).found gone)
        (not_run.damaged device damage (λ n fuse le there. tell_opened n fuse there) is))

    -- why no worker has begun
    unrun-for : UndamagedLaw kind → (line : Line) → IsRunLine config error line → IsUnrunFor faults candidates old new error
    unrun-for law line line_is = by error refl line_is
      where
        by : (e : PhaseError) → error ≡ e → IsRunLine config e line → IsUnrunFor faults candidates old new e
        by (phase_error.Failed device) is line_is = rose device is
        by (phase_error.Damaged device damage) is line_is = unknown law device damage is candidates rests
        by phase_error.NoMemory is line_is = absurd line_is

    pub unrun-threads : UndamagedLaw kind → NotRunTellingLaw kind → (line : Line) (lines : List Line) → IsRunLine config error line → lines ≡ line ∷ []
        → HasDone held faults config (RunAction phase) (node_of state candidates) old lines (down state) new
    unrun-threads law telling_law line lines line_is one = record {
      candidates = candidates;
      does = inr (inr (record {
        up = up;
        was_up = may;
        opened = opened;
        closed = closed;
        on = bay.on;
        armed = bay.armed;
        off = bay.off;
        error = error;
        not_run = telling_law config phase up.epoch opened closed error tell_opened not_run;
        why = unrun-for law line line_is;
        same = held_all;
        line = line;
        is_line = line_is;
        printed = one;
        left = refl;
      }));
      knows = record { stands = stands-same held config old new held_all candidates knows.stands; up = tt };
    }

    -- memory lacked
    pub unrun-memory : HasBroken held faults config (RunAction phase) (node_of state candidates) old new
    unrun-memory = record {
      after = node_of (down state) candidates;
      due = [];
      breaks = inr (inl ((λ down_is. let some : Some up ≡ None = sym may ∙ down_is in absurd (cc)), refl, refl, held_all));
      stands = stands-same held config old new held_all candidates knows.stands;
    }

-- A NODE THAT IS NOT UP

-- a run of it
pub unrun-done : {D : Type 0} (held : D → Held) (faults : D → ℕ) (config : Config) (phase : Phase) (devices : List (Fuse D)) (state : NodeState) (candidates : Option (List Candidate)) (lines : List Line)
    → up_for config phase state ≡ None → lines ≡ NotUp asked.Run ∷ [] → Knows held config (node_of state candidates) devices
    → HasDone held faults config (RunAction phase) (node_of state candidates) devices lines state devices
unrun-done held faults config phase devices state candidates lines down_is printed knows = record { candidates = candidates; does = inl (down_is, printed, refl, refl); knows = knows }

-- a script that ends for want of memory before a run
pub unrun-broken : {D T E : Type 0} (held : D → Held) (faults : D → ℕ) (config : Config) (phase : Phase) (devices : List (Fuse D)) (state : NodeState) (candidates : Option (List Candidate)) (r : Result T E)
    → up_for config phase state ≡ None → Knows held config (node_of state candidates) devices → IfErr r (λ e. HasBroken held faults config (RunAction phase) (node_of state candidates) devices devices)
unrun-broken held faults config phase devices state candidates (Ok x) down_is knows = tt
unrun-broken held faults config phase devices state candidates (Err e) down_is knows = record { after = node_of state candidates; due = []; breaks = inl (down_is, refl, refl, refl); stands = knows.stands }
