-- What a dump tells in each history that goes on from what its worker's seat has seen.
use Rattle.std.specs.Prelude.{◌⊎◌, ◌==◌, Option, Some, None, IsSome, IsTrue, if◌then◌else◌}
use Rattle.std.proofs.Common.{◌≡◌, ◌≤◌, ◌<◌, ◌+◌, inl, inr, ⊎_elim, ℕ, Bool, true, List, [], ◌∷◌, ◌++◌, length, append_assoc, refl, ap, sym, ◌∙◌, subst, arith}
use mathlib.Core.List.{IsPrefix}
use Rattle.chronicle.specs.Histories.{events_of}
use Rattle.chronicle.specs.Seats.{Sight}
use Rattle.block_cache.specs.Damage.{IsBadBlock}
use Rattle.disk_model.specs.declared.disk.Disk as disk
use Rattle.keyed_file.specs.declared.home.Home.{Home}
use Rattle.tmf_model.specs.Config.{IsDeclared, IsValidConfig}
use Rattle.tmf_model.specs.declared.config.Config.{Config}
use Rattle.tmf_model.specs.declared.script.Item.TheVariants.{Dump}
use Rattle.tmf_model.specs.declared.script.Phase.{Phase}
use Rattle.tmf_model.specs.declared.transid.Transid.{Transid}
use Rattle.trail_files.specs.StandsFor.{Base}
use Rattle.trail_files.specs.declared.damage.Damage.{Damage}
use Rattle.node_machine.specs.Acts.{acts_by}
use Rattle.node_machine.specs.Deeds.{HasDumped, HasFailedFor, Log, count_of}
use Rattle.node_machine.specs.Made.{blocks_of, volume_of}
use Rattle.node_machine.specs.Moves.{moves_by}
use Rattle.node_machine.specs.Opening.{Found, VolumeFound, disc_part, dump_part, found_volume, opening_parts, trail_part}
use Rattle.node_machine.specs.Parts.{Entry}
use Rattle.node_machine.specs.Same.{Among}
use Rattle.node_machine.specs.SameLaws.{among_left, among_right, same_self}
use Rattle.node_machine.specs.Trail.{trail_of}
use Rattle.node_machine.specs.declared.event.By.TheVariants.{Attempt}
use Rattle.node_machine.specs.declared.event.Cause.TheVariants as cause
use Rattle.node_machine.specs.declared.event.DiscEvent.TheVariants as did
use Rattle.node_machine.specs.declared.event.DumpEvent.TheVariants as dump_did
use Rattle.node_machine.specs.declared.event.Event.{Event}
use Rattle.node_machine.specs.declared.event.Event.TheVariants.{OfDisc, OfDump, OfTrail}
use Rattle.node_machine.specs.declared.event.TrailEvent.TheVariants as trail_did
use Rattle.disc_process.specs.Damage.{HadBadBlock}
use Rattle.online_dump.specs.Dumped.{HasFailedFor as HasDumpFailedFor, HasReadDamage, HasSeenSince}
use Rattle.online_dump.specs.Dumper.{base_in}
use Rattle.run_outcomes.specs.Between.{NextHasNoneLaw}
use Rattle.run_outcomes.specs.Concerned.{dump_parts}
use Rattle.run_outcomes.specs.Devices.{devices as most_devices, part_of_device, told_in}
use Rattle.run_outcomes.specs.Found.{ToldBase}
use Rattle.run_outcomes.specs.Joined.{JoinedLaw}
use Rattle.run_outcomes.specs.Moves.{IsCutShort, start_move}
use Rattle.run_outcomes.specs.Run.{IsBroken, account_of}
use Rattle.run_outcomes.specs.Told.{IsDumpTold, item_acts, item_of}
use Rattle.run_outcomes.specs.declared.outcome.Told.{Told}
use Rattle.run_outcomes.specs.declared.outcome.Told.TheVariants.{Damaged, Dumped, Dumping, Failed, Memory, Spent}
use Rattle.run_items.specs.Behind.{DumpJoinsLaw, DumpToldLaw, IsVolumeNamed, outcome_of}
use Rattle.run_items.specs.Dumped.{DumpMakes, FailsIn, IsCutShort as IsDumpCut}
use Rattle.run_items.specs.Item.{IsItem, IsSpentIn}
use Rattle.run_items.proofs.Entries.{among_event, count_more}
use Rattle.run_items.proofs.Items.{come_to, no_transaction, none_for, told_behind}
use Rattle.run_items.proofs.Lists.{among_on}
use Rattle.run_items.proofs.Parts.{part_of_dump, part_of_trail, part_of_volume, trail_within, volume_within}

-- a device that was given is one
given_one : {D : Type 0} (kind : disk.Ghosts D) (o : Option D) (home : Home) (damage : Damage) → HadBadBlock kind o home damage → (given : D) × (o ≡ Some given) × (IsTrue (kind.tells given) → IsBadBlock home (kind.held given) damage)
given_one kind None home damage had = absurd had
given_one kind (Some given) home damage had = (given, refl, had)

some_none : (o : Option (List Entry)) → IsSome o → o ≡ None → ⊥
some_none o some none = absurd (let wrong = subst (λ (x : Option (List Entry)). IsSome x) none some in cc (wrong))

module _ {D : Type 0} (kind : disk.Ghosts D) (config : Config) (phase : Phase) (epoch : ℕ) (devices : ℕ → Option D) (found : Found) (volume : ℕ) (t : Transid) (item : IsItem config phase found t (Dump volume))
    (named : IsVolumeNamed kind config devices found volume) where
  trail_is : part_of_device (trail_of found.config volume) ≡ trail_part (trail_of found.config volume)
  trail_is = part_of_trail (trail_of found.config volume) (trail_within found.config volume (subst IsValidConfig (sym item.config_is) item.valid) (subst (λ (k : Config). IsDeclared k.volumes volume) (sym item.config_is) item.valid_item))

  volume_is : part_of_device (4 + volume) ≡ disc_part volume
  volume_is = part_of_volume volume (volume_within config volume item.valid item.valid_item)

  dump_is : part_of_device (12 + volume) ≡ dump_part volume
  dump_is = part_of_dump volume (volume_within config volume item.valid item.valid_item)

  fails_for : (entries : Log) (device : ℕ) → FailsIn found.config volume t device entries → HasFailedFor entries (part_of_device device) (Attempt t)
  fails_for entries device how = ⊎_elim
      (λ (r : (device ≡ trail_of found.config volume) × Among entries (trail_part (trail_of found.config volume), OfTrail (trail_did.Failed (Attempt t)))).
      subst (λ (n : ℕ). HasFailedFor entries n (Attempt t)) (sym (ap part_of_device r.0 ∙ trail_is)) (inr (inl r.1)))
      (λ (y : ((device ≡ 4 + volume) × Among entries (disc_part volume, OfDisc (did.Failed (Attempt t)))) ⊎ ((device ≡ 12 + volume) × Among entries (dump_part volume, OfDump (dump_did.Failed (Attempt t))))).
      ⊎_elim
      (λ (d : (device ≡ 4 + volume) × Among entries (disc_part volume, OfDisc (did.Failed (Attempt t)))).
      subst (λ (n : ℕ). HasFailedFor entries n (Attempt t)) (sym (ap part_of_device d.0 ∙ volume_is)) (inl d.1))
      (λ (d : (device ≡ 12 + volume) × Among entries (dump_part volume, OfDump (dump_did.Failed (Attempt t)))).
      subst (λ (n : ℕ). HasFailedFor entries n (Attempt t)) (sym (ap part_of_device d.0 ∙ dump_is)) (inr (inr (inr d.1))))
      y)
      how

  -- such a device is one of the node's
  within : (entries : Log) (device : ℕ) → FailsIn found.config volume t device entries → device < most_devices
  within entries device how =
      let few = (volume_within config volume item.valid item.valid_item).below in
      let high = (trail_within found.config volume (subst IsValidConfig (sym item.config_is) item.valid) (subst (λ (k : Config). IsDeclared k.volumes volume) (sym item.config_is) item.valid_item)).below in
      ⊎_elim
      (λ (r : (device ≡ trail_of found.config volume) × Among entries (trail_part (trail_of found.config volume), OfTrail (trail_did.Failed (Attempt t)))). (let is = r.0 in omega (arith, high, is)))
      (λ (y : ((device ≡ 4 + volume) × Among entries (disc_part volume, OfDisc (did.Failed (Attempt t)))) ⊎ ((device ≡ 12 + volume) × Among entries (dump_part volume, OfDump (dump_did.Failed (Attempt t))))).
      ⊎_elim
      (λ (d : (device ≡ 4 + volume) × Among entries (disc_part volume, OfDisc (did.Failed (Attempt t)))). (let is = d.0 in omega (arith, few, is)))
      (λ (d : (device ≡ 12 + volume) × Among entries (dump_part volume, OfDump (dump_did.Failed (Attempt t)))). (let is = d.0 in omega (arith, few, is)))
      y)
      how

  -- what fails in some entries fails in more
  fails_on : (entries more : Log) (device : ℕ) → FailsIn found.config volume t device entries → FailsIn found.config volume t device (entries ++ more)
  fails_on entries more device how = ⊎_elim
      (λ (r : (device ≡ trail_of found.config volume) × Among entries (trail_part (trail_of found.config volume), OfTrail (trail_did.Failed (Attempt t)))).
      inl (r.0, among_left entries more (trail_part (trail_of found.config volume), OfTrail (trail_did.Failed (Attempt t))) r.1))
      (λ (y : ((device ≡ 4 + volume) × Among entries (disc_part volume, OfDisc (did.Failed (Attempt t)))) ⊎ ((device ≡ 12 + volume) × Among entries (dump_part volume, OfDump (dump_did.Failed (Attempt t))))).
      ⊎_elim
      (λ (d : (device ≡ 4 + volume) × Among entries (disc_part volume, OfDisc (did.Failed (Attempt t)))). inr (inl (d.0, among_left entries more (disc_part volume, OfDisc (did.Failed (Attempt t))) d.1)))
      (λ (d : (device ≡ 12 + volume) × Among entries (dump_part volume, OfDump (dump_did.Failed (Attempt t)))). inr (inr (d.0, among_left entries more (dump_part volume, OfDump (dump_did.Failed (Attempt t))) d.1)))
      y)
      how

  -- the volume told no base where it was found without values
  based_here : (entry : Option VolumeFound) → found_volume found volume ≡ entry → IsSome entry → (base : Base) → ToldBase config (told_in kind devices) volume (Some base) → base_in entry ≡ None → ⊥
  based_here None at some base told none = absurd (cc (some))
  based_here (Some entry) at some base told none = some_none entry.base (named.based entry base at told) none

  -- the damage is that of a broken block of the volume
  damaged : (device : ℕ) (damage : Damage) → HasReadDamage kind devices found volume device damage → ((v : ℕ) × Among (volume ∷ []) v × (device ≡ 4 + v)) × IsBroken kind config devices device damage
  damaged device damage is =
      let place : Home = record { file = is.file; number = is.block; blocks = blocks_of config is.file } in
      let configured = item.config_is in
      let bad : HadBadBlock kind (devices (4 + volume)) place damage =
      subst (λ (k : Config). HadBadBlock kind (devices (4 + volume)) (record { file = is.file; number = is.block; blocks = blocks_of k is.file }) damage) configured is.bad in
      let given = given_one kind (devices (4 + volume)) place damage bad in (
        (volume, inl refl, is.device_is),
        record {
          volume = volume;
          device_is = is.device_is;
          baseless = λ base told. based_here (found_volume found volume) refl named.there base told is.baseless;
          place = place;
          is_its = record {
            file = subst (λ (k : Config). volume_of k is.file ≡ volume) configured is.here;
            within = subst (λ (k : Config). is.block < blocks_of k is.file) configured is.within;
            blocks = refl;
          };
          before = given.0;
          was = ap devices is.device_is ∙ given.1;
          bad = λ tells. inl (given.2 tells);
        },
      )

  module _ (old new : Sight Event) (log : Log) (begins : IsPrefix new.seen log) where
    seen_on : (part : ℕ) (e : Event) → Among new.seen (part, e) → Among log (part, e)
    seen_on part e there = among_on new.seen log (part, e) begins there

    since_seen : (part : ℕ) (e : Event) → HasSeenSince part e old new → Among log (part, e)
    since_seen part e since =
        seen_on part e (among_event part new.seen e (subst (λ (l : List Event). Among l e) (sym since.events) (among_right (events_of part old.seen ++ since.more) (e ∷ since.rest) e (inl refl))))

    failed_in : (device : ℕ) → HasDumpFailedFor found.config volume t old new device → FailsIn found.config volume t device log
    failed_in device how = ⊎_elim
        (λ (x : (device ≡ trail_of found.config volume) × HasSeenSince (trail_part (trail_of found.config volume)) (OfTrail (trail_did.Failed (Attempt t))) old new).
        inl (x.0, since_seen (trail_part (trail_of found.config volume)) (OfTrail (trail_did.Failed (Attempt t))) x.1))
        (λ (y : ((device ≡ 4 + volume) × HasSeenSince (disc_part volume) (OfDisc (did.Failed (Attempt t))) old new) ⊎ ((device ≡ 12 + volume) × HasSeenSince (dump_part volume) (OfDump (dump_did.Failed (Attempt t))) old new)).
        ⊎_elim
        (λ (x : (device ≡ 4 + volume) × HasSeenSince (disc_part volume) (OfDisc (did.Failed (Attempt t))) old new). inr (inl (x.0, since_seen (disc_part volume) (OfDisc (did.Failed (Attempt t))) x.1)))
        (λ (x : (device ≡ 12 + volume) × HasSeenSince (dump_part volume) (OfDump (dump_did.Failed (Attempt t))) old new). inr (inr (x.0, since_seen (dump_part volume) (OfDump (dump_did.Failed (Attempt t))) x.1)))
        y)
        how

    cut_short : (number start device : ℕ) → IsDumpCut found.config volume t number start device new → moves_by t log ≡ start_move volume t number start ∷ [] → IsCutShort log t (start_move volume t number start) (part_of_device device)
    cut_short number start device cut made = record {
      made = made;
      front = cut.front;
      rest = cut.rest ++ begins.0;
      stands = sym begins.1 ∙ ap (λ (l : Log). l ++ begins.0) cut.stands ∙ append_assoc cut.front (start_move volume t number start ∷ cut.rest) begins.0;
      failed = fails_for (cut.rest ++ begins.0) device (fails_on cut.rest begins.0 device cut.failed);
    }

    dumped_on : (start : ℕ) → (is : HasDumped new.seen volume t start) → HasDumped log volume t start
    dumped_on start is = record {
      number = is.number;
      started = seen_on (disc_part volume) (OfDisc (did.Start is.number start t)) is.started;
      sealed = seen_on (dump_part volume) (OfDump (dump_did.Seal is.number start)) is.sealed;
      landed = seen_on (dump_part volume) (OfDump (dump_did.Sealed is.number true)) is.landed;
      rest = is.rest;
      raised = seen_on (disc_part volume) (OfDisc (did.Raise is.number is.rest)) is.raised;
    }

    spent_on : (part : ℕ) → IsSpentIn found.config (dump_parts volume) new part → Among (dump_parts volume) part × (config.steps ≤ count_of part log)
    spent_on part is = (is.which, (let more = count_more part new.seen log begins in let many = subst (λ (k : Config). k.steps ≤ count_of part new.seen) item.config_is is.spent in omega (arith, more, many)))

    told_so : (told : Told) (moves : Log) → DumpMakes kind devices found volume t old new told moves → moves_by t log ≡ moves → IsDumpTold (account_of kind config phase epoch devices found log) t volume told
    unfolding dumped_on
    told_so (Dumped named_as start) moves makes is = (makes.0, (dumped_on start makes.1.0, is ∙ makes.1.1))
    told_so (Dumping named_as) moves makes is = (makes.0, is ∙ makes.1)
    told_so (Spent part) moves makes is = (spent_on part makes.0, is ∙ makes.1)
    told_so (Failed device) moves makes is =
        let fails = failed_in device makes.0 in (
          (within log device fails, fails_for log device fails),
          ⊎_elim
              (λ (unmade : moves ≡ []). inl (is ∙ unmade))
              (λ (one : (number start : ℕ) × IsDumpCut found.config volume t number start device new × (moves ≡ start_move volume t number start ∷ [])). inr (one.0, one.1, cut_short one.0 one.1 device one.2 (is ∙ one.3)))
              makes.1,
        )
    told_so (Damaged device damage) moves makes is = (damaged device damage makes.0, inr (makes.1.0, makes.1.1, is ∙ makes.1.2))
    told_so Memory moves makes is = inr (makes.0, makes.1, is ∙ makes.2)
    told_so _ moves makes is = absurd makes

-- the acts of a dump are its turn alone
acts_turn : (volume : ℕ) (t : Transid) (told : Told) (x : ℕ × Event) → Among (item_acts volume t told) x → x.1 ≡ OfDisc (did.Turn t cause.Dumping)
acts_turn volume t (Dumping named_as) x among = ⊎_elim (λ (is : (disc_part volume, OfDisc (did.Turn t cause.Dumping)) ≡ x). ap (λ (y : ℕ × Event). y.1) (sym is)) (λ none. absurd none) among
acts_turn volume t _ x among = absurd among

pub dump_told : {D : Type 0} (kind : disk.Ghosts D) → DumpToldLaw kind
dump_told kind = λ config phase epoch devices found volume t old new told item named none done.
    told_behind kind config phase epoch devices found (opening_parts found) t told new.seat (item_acts volume t told) done.moves none
    (λ transaction is. no_transaction (item_of phase t) (Dump volume) t.attempt (t.epoch == epoch) transaction refl item.item_is is)
    (acts_turn volume t told)
    (λ log on unbegun. inr (inr (volume, item.item_is, told_so kind config phase epoch devices found volume t item named old.seat new.seat log on.begins told done.moves done.makes on.moved, on.only, unbegun)))

-- THE WORKER GOES ON

module _ {D : Type 0} (kind : disk.Ghosts D) (devices : ℕ → Option D) (found : Found) (volume : ℕ) (t : Transid) (old new : Sight Event) where
  none_by : (moves : Log) → moves ≡ [] → (moves_by t moves ≡ moves) × (length moves ≡ 0)
  none_by moves is = (ap (λ (l : Log). moves_by t l) is ∙ sym is, ap (λ (l : Log). length l) is)

  just_by : (moves : Log) (number start : ℕ) → moves ≡ start_move volume t number start ∷ [] → (moves_by t moves ≡ moves) × (length moves ≡ 1)
  just_by moves number start is =
      (ap (λ (l : Log). moves_by t l) is ∙ ap (λ (b : Bool). if b then start_move volume t number start ∷ [] else []) (same_self t) ∙ sym is, ap (λ (l : Log). length l) is)

  -- its acts and its moves are one at most together
  few_none : (told : Told) (moves : Log) → length (item_acts volume t told) ≤ 1 → moves ≡ [] → (moves_by t moves ≡ moves) × (length (item_acts volume t told) + length moves ≤ 1)
  few_none told moves few is = (let by = none_by moves is in (by.0, (let size = by.1 in omega (arith, size, few))))

  few_one : (told : Told) (moves : Log) (number start : ℕ) → item_acts volume t told ≡ [] → moves ≡ start_move volume t number start ∷ [] → (moves_by t moves ≡ moves) × (length (item_acts volume t told) + length moves ≤ 1)
  few_one told moves number start none is = (let by = just_by moves number start is in (by.0, (let size = by.1 in let zero_acts : length (item_acts volume t told) ≡ 0 = ap (λ (l : Log). length l) none in omega (arith, size, zero_acts))))

  pub moves_few : (told : Told) (moves : Log) → DumpMakes kind devices found volume t old new told moves → (moves_by t moves ≡ moves) × (length (item_acts volume t told) + length moves ≤ 1)
  moves_few (Dumped named_as start) moves makes = few_one (Dumped named_as start) moves makes.1.0.number start refl makes.1.1
  moves_few (Dumping named_as) moves makes = few_none (Dumping named_as) moves (omega arith) makes.1
  moves_few (Spent part) moves makes = few_none (Spent part) moves (omega arith) makes.1
  moves_few (Failed device) moves makes = ⊎_elim
      (λ (unmade : moves ≡ []). few_none (Failed device) moves (omega arith) unmade)
      (λ (one : (number start : ℕ) × IsDumpCut found.config volume t number start device new × (moves ≡ start_move volume t number start ∷ [])). few_one (Failed device) moves one.0 one.1 refl one.3)
      makes.1
  moves_few (Damaged device damage) moves makes = few_one (Damaged device damage) moves makes.1.0 makes.1.1 refl makes.1.2
  moves_few Memory moves makes = few_one Memory moves makes.0 makes.1 refl makes.2
  moves_few _ moves makes = absurd makes

acts_own : (volume : ℕ) (t : Transid) (told : Told) → acts_by t (item_acts volume t told) ≡ item_acts volume t told
acts_own volume t (Dumping named_as) = ap (λ (b : Bool). if b then (disc_part volume, OfDisc (did.Turn t cause.Dumping)) ∷ [] else []) (same_self t)
acts_own volume t _ = refl

pub dump_joins : NextHasNoneLaw → {D : Type 0} (kind : disk.Ghosts D) → JoinedLaw kind → DumpJoinsLaw kind
dump_joins law kind joined = λ config phase epoch devices found worker old new acts moves outcomes volume t told is next item named seen done.
    let account = account_of kind config phase epoch devices found in
    let none = none_for law found account worker old new acts moves outcomes t told is next seen in
    let few = moves_few kind devices found volume t old.seat new.seat told done.moves done.makes in
    let come = come_to law found account worker old new acts moves outcomes t told is next seen (item_acts volume t told) done.moves done.known few.1 (acts_own volume t told) few.0 done.apart
    (dump_told kind config phase epoch devices found volume t old new told item named none done) in
    joined config phase epoch devices found (opening_parts found) worker old new acts moves outcomes (outcome_of t told) (item_acts volume t told) done.moves is next come
