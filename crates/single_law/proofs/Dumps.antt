-- What a run makes of the dumps of a volume.
use Rattle.std.specs.Prelude.{◌≡◌, ◌⊎◌, ℕ, zero, suc, Bool, true, false, cond, List, [], ◌∷◌, Option, Some, None, filter, map, slice_get, slice_index, option_and_then}
use Rattle.std.specs.List.{AllByRecursion}
use Rattle.std.specs.Option.{option_map, option_map_or, option_or}
use Rattle.std.proofs.Common.{refl, ap, sym, ◌∙◌, subst, arith, ⊎_elim, inl, inr}
use Rattle.chronicle.specs.Histories.{IsHistory, states_after}
use Rattle.disk_model.specs.Devices.{held_at}
use Rattle.disk_model.specs.Fuse.{device_of}
use Rattle.disk_model.specs.Held.{File, Held, IsSound, Leaves, synced}
use Rattle.disk_model.specs.declared.disk.Disk as disk
use Rattle.disk_model.specs.declared.fuse.Fuse.{Fuse}
use Rattle.tmf_model.specs.Commits.{numbered}
use Rattle.tmf_model.specs.Config.{IsValidConfig}
use Rattle.tmf_model.specs.RecordMap.{RecordMap}
use Rattle.tmf_model.specs.declared.config.Config.{Config}
use Rattle.tmf_model.specs.declared.config.Volume.{Volume}
use Rattle.tmf_model.specs.declared.script.Item.{Item}
use Rattle.tmf_model.specs.declared.script.Item.TheVariants.{Dump as DumpItem}
use Rattle.tmf_model.specs.declared.script.Phase.{Phase}
use Rattle.tmf_model.specs.declared.transid.Transid.{Transid}
use Rattle.trail_files.specs.MonitorOrder.{is_same_transid}
use Rattle.trail_files.specs.StandsFor.{Base, IsNumber}
use Rattle.trail_files.specs.declared.monitor_record.MonitorRecord.{MonitorRecord}
use Rattle.block_cache.specs.Created.{IsSurelyLost}
use Rattle.block_cache.specs.Volume.{HasDump, HasNoLabel}
use Rattle.volume_recovery.proofs.VolumeLosing.{image-synced}
use Rattle.node_machine.specs.Deeds.{EventsLaw, Log, events_at}
use Rattle.node_machine.specs.Disc.{IsQuiet}
use Rattle.node_machine.specs.Dump.{DumpMay, landed_here, offered_label}
use Rattle.node_machine.specs.Law.{DiscWas, IsOnce}
use Rattle.node_machine.specs.Moves.{mover, moves_by}
use Rattle.node_machine.specs.Node.{IsAllowed, node, state_with}
use Rattle.node_machine.specs.Opening.{Found, disc_part, dump_part, opening_parts}
use Rattle.node_machine.specs.Parts.{DiscPart, DumpPart, DumpStart, PartState}
use Rattle.node_machine.specs.Parts.PartState.{Disc, Dump, Idle, Monitor, Trail, Worker}
use Rattle.node_machine.specs.Same.{Among}
use Rattle.node_machine.specs.SameLaws.{among_right, same_self}
use Rattle.node_machine.specs.Shows.{HasCopies, ShowsOwn}
use Rattle.node_machine.specs.declared.event.By.TheVariants.{Attempt}
use Rattle.node_machine.specs.declared.event.DiscEvent.TheVariants.{Low, Start as StartDump}
use Rattle.node_machine.specs.declared.event.DumpEvent.{DumpEvent}
use Rattle.node_machine.specs.declared.event.DumpEvent.TheVariants.{Copy, Failed as DumpFailed, Seal, Sealed}
use Rattle.node_machine.specs.declared.event.Event.{Event}
use Rattle.node_machine.specs.declared.event.Event.TheVariants.{OfDisc, OfDump, OfMonitor, OfTrail, OfWorker}
use Rattle.node_machine.proofs.Dumped.{dump_content}
use Rattle.node_machine.proofs.Kept.{kept}
use Rattle.node_machine.proofs.Opened.{fresh}
use Rattle.node_machine.proofs.Placed.{parts_placed}
use Rattle.run_outcomes.specs.Devices.{dump_device, fuse_kind, told_by}
use Rattle.run_outcomes.specs.Found.{IsFoundOver}
use Rattle.run_outcomes.specs.Moves.{HasMade, IsUnmade, low_move, start_move}
use Rattle.run_outcomes.specs.Run.{account_of}
use Rattle.run_outcomes.specs.Shows.{ShowsDevice, ShowsSealed}
use Rattle.run_outcomes.specs.Told.{Account, AreTold, IsControlTold, IsDumpTold, IsTold, MayHaveBegun, item_of}
use Rattle.run_outcomes.specs.declared.outcome.Outcome.{Outcome}
use Rattle.run_outcomes.specs.declared.outcome.Told.{Told}
use Rattle.run_outcomes.specs.declared.outcome.Told.TheVariants.{Controlled, Damaged, Dumped, Dumping, Failed, Memory, Skipped, Spent}
use Rattle.run_standing.proofs.Opening.{AllTold, one-of, stood, told-base, told-dump}
use Rattle.run_standing.proofs.Shown.{some_at}
use Rattle.run_standing.proofs.Stands.{all_tell}
use Rattle.run_standing.specs.NodeUp.{IsNodeUp}
use Rattle.single_law.proofs.Moments.{contained, had}
use Rattle.single_law.specs.Dumps.{DumpsLaw, DumpsNone, IsNoDumpOf, IsSurelyDumped}

-- ITEMS

all_at : {A : Type 0} (P : A → Type 0) (xs : List A) (n : ℕ) (x : A) → AllByRecursion P xs → slice_get xs n ≡ Some x → P x
all_at P [] n x all at = absurd (cc (at))
all_at P (y ∷ xs) zero x all at = (let same : y ≡ x = cc (at) in subst P same all.0)
all_at P (y ∷ xs) (suc n) x all at = all_at P xs n x all.1 at

numbered_all : {A : Type 0} (P : A → Type 0) (xs : List A) (number : ℕ) (x : A) → AllByRecursion P xs → numbered xs number ≡ Some x → P x
numbered_all P xs zero x all at = absurd (cc (at))
numbered_all P xs (suc n) x all at = all_at P xs n x all at

-- no item of the run is a dump of the volume
each_item : (phase : Phase) (volume : ℕ) (t : Transid) (item : Item) → DumpsNone phase volume → item_of phase t ≡ Some item → IsNoDumpOf volume item
each_item phase volume t item none is = by_case (numbered phase.workers t.worker) refl is where
  by_case : (o : Option (List Item)) → numbered phase.workers t.worker ≡ o → option_and_then (λ items. numbered items t.ordinal) o ≡ Some item → IsNoDumpOf volume item
  by_case None at is_ = absurd (cc (is_))
  by_case (Some items) at is_ =
      numbered_all (IsNoDumpOf volume) items t.ordinal item (numbered_all (λ xs. AllByRecursion (IsNoDumpOf volume) xs) phase.workers t.worker items none at) is_

-- MOVES

-- what the filter lets through is among what it leaves
kept_among : {A : Type 0} (f : A → Bool) (xs : List A) (x : A) → Among xs x → f x ≡ true → Among (filter f xs) x
kept_among f [] x has is = absurd has
kept_among f (y ∷ xs) x has is = by_case (f y) refl (λ more. kept_among f xs x more is) has where
  by_case : (b : Bool) → f y ≡ b → (Among xs x → Among (filter f xs) x) → (y ≡ x) ⊎ Among xs x → Among (cond b (y ∷ filter f xs) (filter f xs)) x
  by_case true passes rest (inl same) = inl same
  by_case true passes rest (inr more) = inr (rest more)
  by_case false stops rest (inl same) = absurd (let both : true ≡ false = sym is ∙ (ap f (sym same) ∙ stops) in cc (both))
  by_case false stops rest (inr more) = rest more

-- a dump's begin for an item is among its moves
begin_moves : (log : Log) (t : Transid) (volume number start : ℕ) → Among log (start_move volume t number start) → Among (moves_by t log) (start_move volume t number start)
begin_moves log t volume number start has =
    kept_among (λ (entry : ℕ × Event). option_map_or (is_same_transid t) (mover entry.1) false) log (start_move volume t number start) has (same_self t)

-- an event that stands once in a history is among its entries
once_among : (opening : List PartState) (log : Log) (part : ℕ) (e : Event) (says : List PartState → Type 0) → IsOnce opening log part e says → Among log (part, e)
once_among opening log part e says once = subst (λ (l : Log). Among l (part, e)) (sym once.2) (among_right once.0 ((part, e) ∷ once.1) (part, e) (inl refl))

-- where there is no move for an item, no dump has begun for it
none_unmade : (log : Log) (t : Transid) (volume number start : ℕ) → Among log (start_move volume t number start) → IsUnmade log t → ⊥
none_unmade log t volume number start has none = subst (λ (l : Log). Among l (start_move volume t number start)) none (begin_moves log t volume number start has)

-- nor where the one move is that of a low position
none_lowered : (log : Log) (t : Transid) (volume number start other low : ℕ) → Among log (start_move volume t number start) → HasMade log t (low_move other t low) → ⊥
none_lowered log t volume number start other low has made = ⊎_elim
    (λ (is : ◌≡◌ {A = ℕ × Event} (low_move other t low) (start_move volume t number start)).
    let event : OfDisc (Low low (Attempt t)) ≡ OfDisc (StartDump number start t) = ap (λ (x : ℕ × Event). x.1) is in
    let inner : Low low (Attempt t) ≡ StartDump number start t = cc (event) in
    cc (inner))
    (λ (none : ⊥). none)
    (subst (λ (l : Log). Among l (start_move volume t number start)) made (begin_moves log t volume number start has))

-- where the one move is that of a dump, it is of its volume
same_volume : (log : Log) (t : Transid) (volume number start other its_number its_start : ℕ) → Among log (start_move volume t number start) → HasMade log t (start_move other t its_number its_start) → other ≡ volume
same_volume log t volume number start other its_number its_start has made = ⊎_elim
    (λ (is : ◌≡◌ {A = ℕ × Event} (start_move other t its_number its_start) (start_move volume t number start)).
    let part : disc_part other ≡ disc_part volume = ap (λ (x : ℕ × Event). x.0) is in
    omega (arith, part))
    (λ (none : ⊥). absurd none)
    (subst (λ (l : Log). Among l (start_move volume t number start)) made (begin_moves log t volume number start has))

-- for a control point no dump has begun
none_controlled : (a : Account) (t : Transid) (volume number start other : ℕ) (how : Told) → Among a.log (start_move volume t number start) → IsControlTold a t other how → ⊥
none_controlled a t volume number start other (Controlled named low) has is = none_lowered a.log t volume number start other low has is.2
none_controlled a t volume number start other (Failed device) has is = ⊎_elim
    (λ (none : IsUnmade a.log t). none_unmade a.log t volume number start has none)
    (λ cut. none_lowered a.log t volume number start other cut.0 has cut.1.made)
    is.1
none_controlled a t volume number start other (Spent part) has is = none_unmade a.log t volume number start has is.1
none_controlled a t volume number start other Skipped has is = none_unmade a.log t volume number start has is
none_controlled a t volume number start other Memory has is = none_unmade a.log t volume number start has is
none_controlled a t volume number start other _ has is = is

-- for an item that is a dump no other move is made than that dump's begin
may_have_begun : (a : Account) (t : Transid) (volume : ℕ) (how : Told) → IsDumpTold a t volume how → MayHaveBegun a.log t volume
may_have_begun a t volume (Dumped named start) is = inr (is.1.0.number, start, is.1.1)
may_have_begun a t volume (Dumping named) is = inl is.1
may_have_begun a t volume (Failed device) is = ⊎_elim (λ (none : IsUnmade a.log t). inl none) (λ cut. inr (cut.0, cut.1, cut.2.made)) is.1
may_have_begun a t volume (Damaged device damage) is = is.1
may_have_begun a t volume (Spent part) is = inl is.1
may_have_begun a t volume Skipped is = inl is
may_have_begun a t volume Memory is = is
may_have_begun a t volume _ is = absurd is

-- LABELS

-- behind a dump that has ended whole a label of this run has landed
abbrev HasLabel : DumpPart → Type 0
HasLabel u = (number : ℕ) → Among u.events (Sealed number true) → landed_here u.events ≡ None → ⊥

or_some : (label : DumpStart) (o other : Option DumpStart) → o ≡ Some label → option_or o other ≡ None → ⊥
or_some label o other is none = (let both : Some label ≡ None = sym (ap (λ (x : Option DumpStart). option_or x other) is) ∙ none in cc (both))

-- so it stays with each event, and so it is in each history
label_next : (u : DumpPart) (e : DumpEvent) → DumpMay u e → HasLabel u → HasLabel (record u { events = e ∷ u.events })
label_next u (Sealed number true) may has = λ other there none. or_some may.0 (offered_label u.events) (landed_here u.events) may.1 none
label_next u (Sealed number false) may has = λ other there none. ⊎_elim
    (λ (is : Sealed number false ≡ Sealed other true). (let whole : false ≡ true = cc (is) in cc (whole)))
    (λ (before : Among u.events (Sealed other true)). has other before none)
    there
label_next u (Copy number file block position) may has = λ other there none.
    ⊎_elim (λ (is : Copy number file block position ≡ Sealed other true). cc (is)) (λ (before : Among u.events (Sealed other true)). has other before none) there
label_next u (Seal number start) may has = λ other there none.
    ⊎_elim (λ (is : Seal number start ≡ Sealed other true). cc (is)) (λ (before : Among u.events (Sealed other true)). has other before none) there
label_next u (DumpFailed by) may has = λ other there none.
    ⊎_elim (λ (is : DumpFailed by ≡ Sealed other true). cc (is)) (λ (before : Among u.events (Sealed other true)). has other before none) there

abbrev IsLabelled : ℕ → PartState → Type 0
IsLabelled q (Dump u) = HasLabel u
IsLabelled q _ = Unit {0}

labelled_kept : (q : ℕ) (s : PartState) (e : Event) → IsAllowed s e → IsLabelled q s → IsLabelled q (state_with s e)
labelled_kept q (Worker s) (OfWorker e) may is = tt
labelled_kept q (Disc s) (OfDisc e) may is = tt
labelled_kept q (Trail s) (OfTrail e) may is = tt
labelled_kept q (Monitor s) (OfMonitor e) may is = tt
labelled_kept q (Dump s) (OfDump e) may is = label_next s e may is
labelled_kept q _ _ may is = absurd may

labelled_opened : (found : Found) (q : ℕ) (s : PartState) → slice_get (opening_parts found) q ≡ Some s → IsLabelled q s
labelled_opened found q (Dump u) at = λ number has none. subst (λ (es : List DumpEvent). Among es (Sealed number true)) (fresh found q (Dump u) at) has
labelled_opened found q (Worker s) at = tt
labelled_opened found q (Disc s) at = tt
labelled_opened found q (Trail s) at = tt
labelled_opened found q (Monitor s) at = tt
labelled_opened found q Idle at = tt

-- an event of a dump device is one of its part
of_dump : (xs : List DumpEvent) (x : DumpEvent) → Among (map (λ e. OfDump e) xs) (OfDump x) → Among xs x
of_dump [] x has = absurd has
of_dump (y ∷ xs) x has = ⊎_elim (λ (is : OfDump y ≡ OfDump x). inl (cc (is))) (λ (rest : Among (map (λ e. OfDump e) xs) (OfDump x)). inr (of_dump xs x rest)) has

-- WHAT THE DUMP DEVICE HELD

-- an image with a dump has a label, and so has what was synced of it
no_dump_held : (config : Config) (volume : ℕ) (held : Held) (dump : Option Base) → ((n : ℕ) (file : File) → held n ≡ Some file → IsSound file) → HasDump config volume held dump → IsSurelyLost held → dump ≡ None
no_dump_held config volume held None sound has lost = refl
no_dump_held config volume held (Some base) sound has lost =
    let label = has.1.label_file in
    absurd ((lost (λ n. option_map synced (held n)) (image-synced held sound) (synced label.0) (ap (λ (o : Option File). option_map synced o) label.1)).1 label.2.gate)

-- where a dump is there, whatever a crash leaves, it was found
dump_held : (config : Config) (volume : ℕ) (held : Held) (dump : Option Base) → ((n : ℕ) (file : File) → held n ≡ Some file → IsSound file) → HasDump config volume held dump → IsSurelyDumped config volume held
    → (base : Base) × (dump ≡ Some base)
dump_held config volume held (Some base) sound has surely = (base, refl)
dump_held config volume held None sound has surely =
    let label = (surely (λ n. option_map synced (held n)) (image-synced held sound)).1.1.label_file in
    absurd (by_file (held 1) refl label.0 label.1 label.2.gate)
  where
    by_file : (o : Option File) → held 1 ≡ o → (file : File) → option_map synced o ≡ Some file → slice_index file.bytes 0 ≡ 1 → ⊥
    by_file None at file is gate = cc (is)
    by_file (Some old) at file is gate =
        let one : synced old ≡ file = cc (is) in
        (has old at).1 (ap (λ (f : File). slice_index f.bytes 0) one ∙ gate)

-- THE RUN

module _ {D : Type 0} (kind : disk.Ghosts D) (phase : Phase) (old new : List (Fuse D)) (outcomes : List Outcome) (list : List MonitorRecord) (map_ : RecordMap) (found : Found) (log : Log)
    (volume : ℕ) (line : Volume) (image : Held) where
  abbrev told : ℕ → Option Held
  told = told_by (fuse_kind kind) old

  abbrev held : ℕ → Held
  held = held_at kind.held old

  abbrev states : List PartState
  states = states_after node (opening_parts found) log

  -- what is so of a run with this configuration and epoch
  record IsRunOf (config : Config) (epoch : ℕ) : Type 0 where
    pub valid : IsValidConfig config
    pub up : IsNodeUp config held list map_ epoch
    pub over : IsFoundOver config told epoch found
    pub told_of : AreTold (account_of (fuse_kind kind) config phase epoch (λ number. slice_get old number) found log) outcomes
    pub number : IsNumber config.volumes volume line
    pub shown : ShowsDevice config told states image (dump_device volume)

  -- what the image has of the dumps of the volume
  record LeavesDumps (config : Config) : Type 0 where
    pub none : DumpsNone phase volume → IsSurelyLost (held (dump_device volume)) → HasNoLabel image
    pub kept : IsSurelyDumped config volume (held (dump_device volume)) → (dump : Base) × HasDump config volume image (Some dump)
    pub made : (outcome : Outcome) (start : ℕ) → Among outcomes outcome → outcome.told ≡ Dumped volume start → (dump : Base) × HasDump config volume image (Some dump)

  module _ (law : EventsLaw) (all_told : AllTold told held) (history : IsHistory node (opening_parts found) log)
      (sound : (n : ℕ) (file : File) → held (dump_device volume) n ≡ Some file → IsSound file) (run : IsRunOf found.config found.epoch) where
    abbrev account : Account
    account = account_of (fuse_kind kind) found.config phase found.epoch (λ n. slice_get old n) found log

    abbrev before : Option Base
    before = (stood found told held list map_ all_told run.valid run.up run.over).dumps volume

    spelled : HasDump found.config volume (held (dump_device volume)) before
    spelled = (stood found told held list map_ all_told run.valid run.up run.over).dumps_spelled volume line run.number

    -- what the parts show of the dump
    record IsShown (now : Option Base) : Type 0 where
      pub has : HasDump found.config volume image now
      pub disc : PartState
      pub at_disc : slice_get states (disc_part volume) ≡ Some disc
      pub dump : PartState
      pub at_dump : slice_get states (dump_part volume) ≡ Some dump
      pub shows : ShowsSealed disc dump before now

    copy : (now : Option Base) × IsShown now
    copy =
        let was = stood found told held list map_ all_told run.valid run.up run.over in
        let is = run.shown.dump volume line (was.bases volume) before run.number refl (told-base found told held list map_ all_told run.valid run.up run.over volume line run.number)
        (told-dump found told held list map_ all_told run.valid run.up run.over volume line run.number) in
        (is.0, record { has = is.1; disc = is.2.0; at_disc = is.2.1; dump = is.2.2.0; at_dump = is.2.2.1; shows = is.2.2.2 })

    -- NONE

    -- no dump of the volume has begun
    none_begun : DumpsNone phase volume → (number start : ℕ) (item : Transid) → Among log (start_move volume item number start) → ⊥
    none_begun none number start item has =
        let by = run.told_of.done (disc_part volume) (OfDisc (StartDump number start item)) item has (inr refl) in
        of_outcome by.0 (subst (λ (t : Transid). Among log (start_move volume t number start)) (sym by.2) has) (run.told_of.each by.0 by.1).told
      where
        of_outcome : (outcome : Outcome) → Among log (start_move volume outcome.tx number start) → IsTold account outcome → ⊥
        of_outcome outcome there (inl is) = none_unmade log outcome.tx volume number start there is.3
        of_outcome outcome there (inr (inl is)) = none_controlled account outcome.tx volume number start is.0 outcome.told there is.2
        of_outcome outcome there (inr (inr is)) = ⊎_elim
            (λ (unmade : IsUnmade log outcome.tx). none_unmade log outcome.tx volume number start there unmade)
            (λ begun. each_item phase volume outcome.tx (DumpItem is.0) none is.1 (same_volume log outcome.tx volume number start is.0 begun.0 begun.1 there begun.2))
            (may_have_begun account outcome.tx is.0 outcome.told is.2)

    -- so no label of this run is shown
    none_shown : DumpsNone phase volume → (s : DiscPart) (u : DumpPart) → slice_get states (disc_part volume) ≡ Some (Disc s) → slice_get states (dump_part volume) ≡ Some (Dump u) → (label : DumpStart) → ShowsOwn u label
        → (content : Base) → HasCopies u s label content → ⊥
    none_shown none s u at_s at_u label shows content copies =
        let placed : disc_part volume ≡ disc_part s.number = parts_placed found log history (disc_part volume) (Disc s) at_s in
        let number : volume ≡ s.number = omega (arith, placed) in
        let it = dump_content found log history s u label (ap (λ (n : ℕ). slice_get states (disc_part n)) (sym number) ∙ at_s) (ap (λ (n : ℕ). slice_get states (dump_part n)) (sym number) ∙ at_u) shows content copies in
        let begun = once_among (opening_parts found) log (disc_part s.number) (OfDisc (StartDump label.number label.start it.item)) (DiscWas s.number (λ was. IsQuiet was label.start)) it.quiet in
        none_begun none label.number label.start it.item (subst (λ (n : ℕ). Among log (start_move n it.item label.number label.start)) (sym number) begun)

    none_now : DumpsNone phase volume → before ≡ None → (now : Option Base) (s u : PartState) → slice_get states (disc_part volume) ≡ Some s → slice_get states (dump_part volume) ≡ Some u → ShowsSealed s u before now → now ≡ None
    none_now none was now (Disc s) (Dump u) at_s at_u (inl is) = is.1 ∙ was
    none_now none was now (Disc s) (Dump u) at_s at_u (inr is) = absurd (none_shown none s u at_s at_u is.0 is.1 is.2 is.4)
    none_now none was now Idle Idle at_s at_u is = is ∙ was
    none_now none was now (Disc s) _ at_s at_u is = absurd is
    none_now none was now Idle _ at_s at_u is = absurd is
    none_now none was now _ _ at_s at_u is = absurd is

    none_left : DumpsNone phase volume → IsSurelyLost (held (dump_device volume)) → HasNoLabel image
    none_left none lost =
        let was = no_dump_held found.config volume (held (dump_device volume)) before sound spelled lost in
        let it = copy.1 in
        subst (λ (now : Option Base). HasDump found.config volume image now) (none_now none was copy.0 it.disc it.dump it.at_disc it.at_dump it.shows) it.has

    -- KEPT

    kept_now : (base : Base) → before ≡ Some base → (now : Option Base) (s u : PartState) → ShowsSealed s u before now → (dump : Base) × (now ≡ Some dump)
    kept_now base was now (Disc s) (Dump u) (inl is) = (base, is.1 ∙ was)
    kept_now base was now (Disc s) (Dump u) (inr is) = (is.2, is.3)
    kept_now base was now Idle Idle is = (base, is ∙ was)
    kept_now base was now (Disc s) _ is = absurd is
    kept_now base was now Idle _ is = absurd is
    kept_now base was now _ _ is = absurd is

    there : (dump : Base) × (copy.0 ≡ Some dump) → (dump : Base) × HasDump found.config volume image (Some dump)
    there is = (is.0, subst (λ (now : Option Base). HasDump found.config volume image now) is.1 copy.1.has)

    kept_left : IsSurelyDumped found.config volume (held (dump_device volume)) → (dump : Base) × HasDump found.config volume image (Some dump)
    kept_left surely =
        let was = dump_held found.config volume (held (dump_device volume)) before sound spelled surely in
        there (kept_now was.0 was.1 copy.0 copy.1.disc copy.1.dump copy.1.shows)

    -- MADE

    -- a dump that is told of was sealed
    sealed : (outcome : Outcome) (start : ℕ) → Among outcomes outcome → outcome.told ≡ Dumped volume start → (number : ℕ) × Among log (dump_part volume, OfDump (Sealed number true))
    sealed outcome start among is = of_told (subst (λ (x : Told). IsTold account (record { tx = outcome.tx; told = x })) is (run.told_of.each outcome among).told) where
      of_told : IsTold account (record { tx = outcome.tx; told = Dumped volume start }) → (number : ℕ) × Among log (dump_part volume, OfDump (Sealed number true))
      of_told (inl is_) = absurd is_.2
      of_told (inr (inl is_)) = absurd is_.2
      of_told (inr (inr is_)) = (is_.2.1.0.number, subst (λ (n : ℕ). Among log (dump_part n, OfDump (Sealed is_.2.1.0.number true))) (sym is_.2.0) is_.2.1.0.landed)

    made_now : (number : ℕ) (now : Option Base) (s u : PartState) → slice_get states (dump_part volume) ≡ Some u → Among (events_at u) (OfDump (Sealed number true)) → ShowsSealed s u before now → (dump : Base) × (now ≡ Some dump)
    made_now number now (Disc s) (Dump u) at has (inl is) =
        absurd (kept node IsLabelled labelled_kept (opening_parts found) log history (labelled_opened found) (dump_part volume) (Dump u) at number (of_dump u.events (Sealed number true) has) is.0)
    made_now number now (Disc s) (Dump u) at has (inr is) = (is.2, is.3)
    made_now number now Idle Idle at has is = absurd has
    made_now number now (Disc s) _ at has is = absurd is
    made_now number now Idle _ at has is = absurd is
    made_now number now _ _ at has is = absurd is

    made_left : (outcome : Outcome) (start : ℕ) → Among outcomes outcome → outcome.told ≡ Dumped volume start → (dump : Base) × HasDump found.config volume image (Some dump)
    made_left outcome start among is =
        let seal = sealed outcome start among is in
        let event : Event = OfDump (Sealed seal.0 true) in
        there (made_now seal.0 copy.0 copy.1.disc copy.1.dump copy.1.at_dump (had law found log (dump_part volume) copy.1.dump event history copy.1.at_dump seal.1) copy.1.shows)

    all_left : LeavesDumps found.config
    all_left = record { none = none_left; kept = kept_left; made = made_left }

-- what is so of a run gives this, whatever its configuration and epoch
abbrev Gives : {D : Type 0} → disk.Ghosts D → Phase → (old new : List (Fuse D)) → List Outcome → List MonitorRecord → RecordMap → Found → Log → ℕ → Volume → Held → Config → ℕ → Type 0
Gives kind phase old new outcomes list map_ found log volume line image config epoch =
    IsRunOf kind phase old new outcomes list map_ found log volume line image config epoch → LeavesDumps kind phase old new outcomes list map_ found log volume line image config

-- what the device with a number holds is sound, and so is nothing where there is none
held_sound : {D : Type 0} (held : D → Held) → ((d : D) (n : ℕ) (file : File) → held d n ≡ Some file → IsSound file) → (o : Option (Fuse D)) (n : ℕ) (file : File)
    → option_map_or (λ fuse. held (device_of fuse)) o (λ m. None) n ≡ Some file → IsSound file
held_sound held sound None n file at = absurd (cc (at))
held_sound held sound (Some fuse) n file at = sound (device_of fuse) n file at

pub dumps_law : EventsLaw → {D : Type 0} (kind : disk.Ghosts D) → ((d : D) (n : ℕ) (file : File) → kind.held d n ≡ Some file → IsSound file) → DumpsLaw kind
dumps_law law kind sound = λ config phase epoch old new outcomes list map_ valid old_count new_count telling up ran volume line number.
    let found = ran.found in
    let log = ran.log in
    let over = ran.opens in
    let few = one-of config.volumes volume line number in
    let at = some_at new (dump_device volume) (omega (arith, few.1, valid.volumes.few, new_count)) in
    let left : (image : Held) → Leaves (held_at kind.held new (dump_device volume)) image → LeavesDumps kind phase old new outcomes list map_ found log volume line image config = λ image leaves.
    (let at_found : Gives kind phase old new outcomes list map_ found log volume line image found.config found.epoch =
    all_left kind phase old new outcomes list map_ found log volume line image law (all_tell kind old old_count telling) ran.history
    (held_sound kind.held sound (slice_get old (dump_device volume))) in
    subst (λ (c : Config). Gives kind phase old new outcomes list map_ found log volume line image c epoch) over.config_is
    (subst (λ (e : ℕ). Gives kind phase old new outcomes list map_ found log volume line image found.config e) over.epoch_is at_found)
    (record {
      valid = valid;
      up = up;
      over = over;
      told_of = ran.told;
      number = number;
      shown = ran.shown (dump_device volume) at.0 image at.1 (subst (λ (o : Option (Fuse _)). Leaves (option_map_or (λ fuse. kind.held (device_of fuse)) o (λ n. None)) image) at.1 leaves);
    })) in
    record {
      none = λ no_item lost image leaves. (left image leaves).none no_item lost;
      kept = λ surely image leaves. (left image leaves).kept surely;
      made = λ outcome start has is image leaves. (left image leaves).made outcome start (contained outcomes outcome has) is;
    }
