-- What a control point tells in each history that goes on from what its worker's seat has seen.
use Rattle.std.specs.Prelude.{◌⊎◌, ◌==◌, Option, if◌then◌else◌}
use Rattle.std.proofs.Common.{◌≡◌, ◌≤◌, ◌<◌, ◌+◌, inl, inr, ⊎_elim, ℕ, Bool, List, [], ◌∷◌, ◌++◌, length, append_assoc, append-nil, refl, ap, sym, ◌∙◌, subst, arith}
use mathlib.Core.List.{IsPrefix}
use Rattle.chronicle.specs.Histories.{events_of}
use Rattle.chronicle.specs.Seats.{Sight}
use Rattle.disk_model.specs.declared.disk.Disk as disk
use Rattle.tmf_model.specs.declared.config.Config.{Config}
use Rattle.tmf_model.specs.declared.script.Item.TheVariants.{Control}
use Rattle.tmf_model.specs.declared.script.Phase.{Phase}
use Rattle.tmf_model.specs.declared.transid.Transid.{Transid}
use Rattle.node_machine.specs.Deeds.{HasFailedFor, HasLowered, Log, count_of}
use Rattle.node_machine.specs.Moves.{moves_by}
use Rattle.node_machine.specs.Opening.{Found, disc_part, opening_parts, trail_part}
use Rattle.node_machine.specs.Same.{Among}
use Rattle.node_machine.specs.SameLaws.{among_left, among_right, same_self}
use Rattle.node_machine.specs.Trail.{trail_of}
use Rattle.node_machine.specs.declared.event.By.TheVariants.{Attempt}
use Rattle.node_machine.specs.declared.event.DiscEvent.TheVariants as did
use Rattle.node_machine.specs.declared.event.Event.{Event}
use Rattle.node_machine.specs.declared.event.Event.TheVariants.{OfDisc, OfTrail}
use Rattle.node_machine.specs.declared.event.TrailEvent.TheVariants as trail_did
use Rattle.control_point.specs.Control.{HasFailed, HasSeenSince}
use Rattle.control_point.specs.Given.{IsCutShort as IsControlCut}
use Rattle.run_outcomes.specs.Concerned.{control_parts}
use Rattle.run_outcomes.specs.Between.{NextHasNoneLaw}
use Rattle.run_outcomes.specs.Devices.{devices, part_of_device}
use Rattle.run_outcomes.specs.Dumps.{EndsItsDumps}
use Rattle.run_outcomes.specs.Joined.{JoinedLaw, KnowsMore}
use Rattle.run_outcomes.specs.Moves.{IsCutShort, low_move, start_move}
use Rattle.run_outcomes.specs.Reach.{KnowsActsAndMoves}
use Rattle.run_outcomes.specs.Run.{account_of}
use Rattle.run_outcomes.specs.Told.{IsControlTold, item_of}
use Rattle.run_outcomes.specs.Worker.{IsWorker}
use Rattle.run_outcomes.specs.declared.outcome.Told.{Told}
use Rattle.run_outcomes.specs.declared.outcome.Told.TheVariants.{Controlled, Failed, Memory, Spent}
use Rattle.run_items.specs.Behind.{ControlJoinsLaw, ControlToldLaw, outcome_of}
use Rattle.run_items.specs.Controlled.{ControlMakes}
use Rattle.run_items.specs.Item.{IsItem, IsSpentIn}
use Rattle.run_items.proofs.Entries.{among_event, count_more}
use Rattle.run_items.proofs.Items.{come_to, no_transaction, none_for, told_behind}
use Rattle.run_items.proofs.Lists.{among_on}
use Rattle.run_items.proofs.Parts.{part_of_trail, part_of_volume, trail_within, volume_within}

-- WHAT IS TOLD

module _ {D : Type 0} (kind : disk.Ghosts D) (config : Config) (phase : Phase) (epoch : ℕ) (handed_in : ℕ → Option D) (found : Found) (volume : ℕ) (t : Transid) (item : IsItem config phase found t (Control volume)) where
  trail_is : part_of_device (trail_of config volume) ≡ trail_part (trail_of config volume)
  trail_is = part_of_trail (trail_of config volume) (trail_within config volume item.valid item.valid_item)

  volume_is : part_of_device (4 + volume) ≡ disc_part volume
  volume_is = part_of_volume volume (volume_within config volume item.valid item.valid_item)

  module _ (old new : Sight Event) (log : Log) (begins : IsPrefix new.seen log) where
    since_seen : (part : ℕ) (e : Event) → HasSeenSince part e old new → Among log (part, e)
    since_seen part e since =
        among_on new.seen log (part, e) begins
        (among_event part new.seen e (subst (λ (l : List Event). Among l e) (sym since.events) (among_right (events_of part old.seen ++ since.more) (e ∷ since.rest) e (inl refl))))

    failed_for : (entries : Log) (device : ℕ) → ((device ≡ trail_of config volume) × Among entries (trail_part (trail_of config volume), OfTrail (trail_did.Failed (Attempt t))))
        ⊎ ((device ≡ 4 + volume) × Among entries (disc_part volume, OfDisc (did.Failed (Attempt t)))) → HasFailedFor entries (part_of_device device) (Attempt t)
    failed_for entries device how = ⊎_elim
        (λ (r : (device ≡ trail_of config volume) × Among entries (trail_part (trail_of config volume), OfTrail (trail_did.Failed (Attempt t)))).
        subst (λ (n : ℕ). HasFailedFor entries n (Attempt t)) (sym (ap part_of_device r.0 ∙ trail_is)) (inr (inl r.1)))
        (λ (d : (device ≡ 4 + volume) × Among entries (disc_part volume, OfDisc (did.Failed (Attempt t)))).
        subst (λ (n : ℕ). HasFailedFor entries n (Attempt t)) (sym (ap part_of_device d.0 ∙ volume_is)) (inl d.1))
        how

    device_failed : (device : ℕ) → HasFailed config volume (Attempt t) old new device → (device < devices) × HasFailedFor log (part_of_device device) (Attempt t)
    device_failed device how = ⊎_elim
        (λ (r : (device ≡ trail_of config volume) × HasSeenSince (trail_part (trail_of config volume)) (OfTrail (trail_did.Failed (Attempt t))) old new).
        let high = (trail_within config volume item.valid item.valid_item).below in
        let is = r.0 in
        (omega (arith, high, is), failed_for log device (inl (r.0, since_seen (trail_part (trail_of config volume)) (OfTrail (trail_did.Failed (Attempt t))) r.1))))
        (λ (d : (device ≡ 4 + volume) × HasSeenSince (disc_part volume) (OfDisc (did.Failed (Attempt t))) old new).
        let few = item.valid.volumes.few in
        let here = item.valid_item.below in
        let is = d.0 in
        (omega (arith, few, here, is), failed_for log device (inr (d.0, since_seen (disc_part volume) (OfDisc (did.Failed (Attempt t))) d.1))))
        how

    cut_short : (device : ℕ) → (cut : IsControlCut config volume t device old new) → moves_by t log ≡ low_move volume t cut.low ∷ [] → IsCutShort log t (low_move volume t cut.low) (part_of_device device)
    cut_short device cut made = record {
      made = made;
      front = cut.front;
      rest = cut.rest ++ begins.0;
      stands = sym begins.1 ∙ ap (λ (l : Log). l ++ begins.0) cut.stands ∙ append_assoc cut.front (low_move volume t cut.low ∷ cut.rest) begins.0;
      failed = failed_for (cut.rest ++ begins.0) device (⊎_elim
          (λ (r : (device ≡ trail_of config volume) × Among cut.rest (trail_part (trail_of config volume), OfTrail (trail_did.Failed (Attempt t)))).
          inl (r.0, among_left cut.rest begins.0 (trail_part (trail_of config volume), OfTrail (trail_did.Failed (Attempt t))) r.1))
          (λ (d : (device ≡ 4 + volume) × Among cut.rest (disc_part volume, OfDisc (did.Failed (Attempt t)))).
          inr (d.0, among_left cut.rest begins.0 (disc_part volume, OfDisc (did.Failed (Attempt t))) d.1))
          cut.failed);
    }

    lowered_on : (low : ℕ) → HasLowered new.seen volume t low → HasLowered log volume t low
    lowered_on low is = record {
      before = is.before;
      between = is.between;
      after = is.after ++ begins.0;
      stands = sym begins.1 ∙ ap (λ (l : Log). l ++ begins.0) is.stands ∙ append_assoc (is.before ++ low_move volume t low ∷ is.between) ((disc_part volume, OfDisc did.Lowered) ∷ is.after) begins.0;
      next = is.next;
    }

    spent_on : (part : ℕ) → IsSpentIn config (control_parts config volume) new part → Among (control_parts config volume) part × (config.steps ≤ count_of part log)
    spent_on part is = (is.which, (let more = count_more part new.seen log begins in let many = is.spent in omega (arith, more, many)))

    told_so : (told : Told) (moves : Log) → ControlMakes config volume t old new told moves → moves_by t log ≡ moves → IsControlTold (account_of kind config phase epoch handed_in found log) t volume told
    told_so (Controlled named low) moves makes is = (makes.0, lowered_on low makes.1, is ∙ makes.2)
    told_so (Spent part) moves makes is = (spent_on part makes.0, is ∙ makes.1)
    told_so (Failed device) moves makes is = (
      device_failed device makes.0,
      ⊎_elim
          (λ (unmade : moves ≡ []). inl (is ∙ unmade))
          (λ (one : (cut : IsControlCut config volume t device old new) × (moves ≡ low_move volume t cut.low ∷ [])). inr (one.0.low, cut_short device one.0 (is ∙ one.1)))
          makes.1,
    )
    told_so Memory moves makes is = is ∙ makes
    told_so _ moves makes is = absurd makes

pub control_told : {D : Type 0} (kind : disk.Ghosts D) → ControlToldLaw kind
control_told kind = λ config phase epoch handed_in found volume t old new told item none done.
    told_behind kind config phase epoch handed_in found (opening_parts found) t told new.seat [] done.moves none
    (λ transaction is. no_transaction (item_of phase t) (Control volume) t.attempt (t.epoch == epoch) transaction refl item.item_is is)
    (λ x among. absurd among)
    (λ log on unbegun. inr (inl (volume, item.item_is, told_so kind config phase epoch handed_in found volume t item old.seat new.seat log on.begins told done.moves (subst (λ (k : Config). ControlMakes k volume t old.seat new.seat told done.moves) item.config_is done.makes) on.moved, on.only, unbegun)))

-- THE WORKER GOES ON

one_by : (t : Transid) (volume low : ℕ) → moves_by t (low_move volume t low ∷ []) ≡ low_move volume t low ∷ []
one_by t volume low = ap (λ (b : Bool). if b then low_move volume t low ∷ [] else []) (same_self t)

-- none of these is the begin of a dump
abbrev HasNoStart : Log → Type 0
HasNoStart moves = (volume : ℕ) (u : Transid) (number start : ℕ) → Among moves (start_move volume u number start) → ⊥

low_no_start : (volume low : ℕ) (t : Transid) → HasNoStart (low_move volume t low ∷ [])
low_no_start volume low t = λ v u number start among. ⊎_elim
    (λ (same : low_move volume t low ≡ start_move v u number start). absurd (let one : OfDisc (did.Low low (Attempt t)) ≡ OfDisc (did.Start number start u) = ap (λ (x : ℕ × Event). x.1) same in cc (one)))
    (λ none. absurd none)
    among

module _ (config : Config) (volume : ℕ) (t : Transid) (old new : Sight Event) where
  none_by : (moves : Log) → moves ≡ [] → (moves_by t moves ≡ moves) × (length moves ≤ 1) × HasNoStart moves
  none_by moves is = (
    ap (λ (l : Log). moves_by t l) is ∙ sym is,
    (let size = ap (λ (l : Log). length l) is in omega (arith, size)),
    λ v u number start among. absurd (subst (λ (l : Log). Among l (start_move v u number start)) is among),
  )

  just_by : (moves : Log) (low : ℕ) → moves ≡ low_move volume t low ∷ [] → (moves_by t moves ≡ moves) × (length moves ≤ 1) × HasNoStart moves
  just_by moves low is = (
    ap (λ (l : Log). moves_by t l) is ∙ one_by t volume low ∙ sym is,
    (let size = ap (λ (l : Log). length l) is in omega (arith, size)),
    λ v u number start among. low_no_start volume low t v u number start (subst (λ (l : Log). Among l (start_move v u number start)) is among),
  )

  -- its moves are its own, one at most, and no begin of a dump
  pub moves_one : (told : Told) (moves : Log) → ControlMakes config volume t old new told moves → (moves_by t moves ≡ moves) × (length moves ≤ 1) × HasNoStart moves
  moves_one (Controlled named low) moves makes = just_by moves low makes.2
  moves_one (Spent part) moves makes = none_by moves makes.1
  moves_one (Failed device) moves makes = ⊎_elim
      (λ (unmade : moves ≡ []). none_by moves unmade)
      (λ (one : (cut : IsControlCut config volume t device old new) × (moves ≡ low_move volume t cut.low ∷ [])). just_by moves one.0.low one.1)
      makes.1
  moves_one Memory moves makes = none_by moves makes
  moves_one _ moves makes = absurd makes

  -- so it begins no dump, and tells of none
  control_apart : (told : Told) (moves : Log) → ControlMakes config volume t old new told moves → IsPrefix old.seen new.seen → HasNoStart moves → EndsItsDumps old.seen new.seen moves (outcome_of t told)
  control_apart told moves makes begins none = record {
    more = begins.0;
    seen = sym begins.1;
    begun = λ v u number start among. absurd (none v u number start among);
    ended = λ v u number start among. absurd (none v u number start among);
    turned = λ v is. absurd (subst (λ (x : Told). ControlMakes config volume t old new x moves) is makes);
  }

pub control_joins : NextHasNoneLaw → {D : Type 0} (kind : disk.Ghosts D) → JoinedLaw kind → ControlJoinsLaw kind
control_joins law kind joined = λ config phase epoch handed_in found worker old new acts moves outcomes volume t told is next item seen done.
    let account = account_of kind config phase epoch handed_in found in
    let none = none_for law found account worker old new acts moves outcomes t told is next seen in
    let one = moves_one found.config volume t old.seat new.seat told done.moves done.makes in
    let known : KnowsMore t.worker old new [] done.moves = λ a m knows. subst (λ (l : Log). KnowsActsAndMoves t.worker new l (m ++ done.moves)) (sym (append-nil a)) (done.moved a m knows) in
    let come = come_to law found account worker old new acts moves outcomes t told is next seen [] done.moves known (let few = one.1 in omega (arith, few)) refl one.0
    (control_apart found.config volume t old.seat new.seat told done.moves done.makes seen.0.begins one.2)
    (control_told kind config phase epoch handed_in found volume t old new told item none done) in
    subst (λ (l : Log). IsWorker (opening_parts found) found account worker new l (moves ++ done.moves) (outcomes ++ outcome_of t told ∷ [])) (append-nil acts)
    (joined config phase epoch handed_in found (opening_parts found) worker old new acts moves outcomes (outcome_of t told) [] done.moves is next come)
