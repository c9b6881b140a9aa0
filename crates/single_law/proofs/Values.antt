-- What an attempt that is alone at its discs has found there, step by step, and why one of its steps was turned away.
use Rattle.std.specs.Prelude.{◌≡◌, ℕ, Bool, true, false, if◌then◌else◌, List, [], ◌∷◌, ◌++◌, Option, Some, None, Err, slice_get}
use Rattle.std.specs.List.{cons_option}
use Rattle.std.proofs.Common.{refl, ap, sym, ◌∙◌, subst, append_assoc, append-nil}
use Rattle.chronicle.specs.Histories.{IsEnabled, IsHistory, IsTrueIn, states_after}
use Rattle.disk_model.specs.Held.{Held}
use Rattle.tmf_model.specs.Effect.{applied}
use Rattle.tmf_model.specs.RecordMap.{RecordMap}
use Rattle.tmf_model.specs.declared.script.Reason.{Reason}
use Rattle.tmf_model.specs.declared.script.Step.{Step}
use Rattle.tmf_model.specs.declared.transid.Transid.{Transid}
use Rattle.trail_files.specs.MonitorOrder.{is_same_transid}
use Rattle.trail_files.specs.StandsFor.{Base}
use Rattle.trail_files.specs.declared.monitor_record.MonitorRecord.{MonitorRecord}
use Rattle.trail_files.specs.declared.rules.Rules.{Rules}
use Rattle.node_machine.specs.Deeds.{EventsLaw, Log}
use Rattle.node_machine.specs.Disc.{OfValues, IsHere, IsNoOther, MayAct, MayTake, TellsChange}
use Rattle.node_machine.specs.Law.{AreServed, Deed, IsOpening, after_list, deeds_of}
use Rattle.node_machine.specs.Law.Deed.{Changed, Locked, Saw}
use Rattle.node_machine.specs.Live.{IsUncommitted, LiveLaw, after_deeds}
use Rattle.node_machine.specs.Made.{key_holder, map_of, values_after, volume_of}
use Rattle.node_machine.specs.Monitor.{recorded}
use Rattle.node_machine.specs.Node.{node}
use Rattle.node_machine.specs.Opening.{Found, disc_part, monitor_part, opening_parts}
use Rattle.node_machine.specs.Parts.{DiscPart, Entry, MonitorPart, PartState}
use Rattle.node_machine.specs.Parts.Fact.{Enlisted}
use Rattle.node_machine.specs.Parts.PartState.{Disc, Monitor}
use Rattle.node_machine.specs.SameLaws.{same_is}
use Rattle.node_machine.specs.declared.event.Cause.TheVariants.{Refused}
use Rattle.node_machine.specs.declared.event.DiscEvent.{DiscEvent}
use Rattle.node_machine.specs.declared.event.DiscEvent.TheVariants.{Close, Draw, Drawn, Failed, Lock, Low, Lowered, Raise, Read, Release, Start, Turn, Undo, Write}
use Rattle.node_machine.specs.declared.event.Event.{Event}
use Rattle.node_machine.specs.declared.event.Event.TheVariants.{OfDisc, OfDump, OfMonitor, OfTrail, OfWorker}
use Rattle.node_machine.proofs.Placed.{parts_placed}
use Rattle.single_law.proofs.Found.{has_values}
use Rattle.single_law.proofs.Moments.{front_log, next_enabled}
use Rattle.single_law.proofs.Served.{Agree, IsServedOne, after_deeds-agree, after_deeds-append, deed_in, deeds_append, deeds_step, served_first}

-- what is said of told values is said of those of the entries
pub of_told : (base : Option (List Entry)) (entries : List Entry) (events : List DiscEvent) (says : RecordMap → Type 0) → base ≡ Some entries → OfValues base events says → says (values_after (map_of entries) events)
of_told base entries events says is told = subst (λ (b : Option (List Entry)). OfValues b events says) is told

module _ (law : EventsLaw) (live_law : LiveLaw) (rules : ℕ → Rules) (images : ℕ → Held) (bases dumps : ℕ → Option Base) (list : List MonitorRecord) (map_ : RecordMap) (found : Found)
    (o : IsOpening rules images bases dumps list map_ found) (log : Log) (history : IsHistory node (opening_parts found) log) (t : Transid) (from : RecordMap) where
  abbrev now : Log → List PartState
  now front = states_after node (opening_parts found) front

  -- At this moment the attempt is not committed, nobody else holds a key of the disc, and the commits so far come to this map.
  pub record IsAloneAt (front : Log) (s : DiscPart) : Type 0 where
    pub m : MonitorPart
    pub at : slice_get (now front) monitor_part ≡ Some (Monitor m)
    pub uncommitted : IsUncommitted m t
    pub keys : (file : ℕ) (key : List ℕ) → IsNoOther (key_holder s.events file key) t
    pub comes_to : Agree (after_list front (recorded m.events) map_) from

  -- so it is whenever it acts at a disc
  abbrev pub IsAlwaysAlone : Type 0
  IsAlwaysAlone = (front rest : Log) (x : ℕ × Event) (s : DiscPart) → log ≡ front ++ x ∷ rest → slice_get (now front) (disc_part s.number) ≡ Some (Disc s) → MayAct s t
      → IsTrueIn node (now front) (Enlisted t s.number) → IsAloneAt front s

  module _ (alone : IsAlwaysAlone) where
    -- the disc, at the part that it is
    pub part_of : (front : Log) → IsHistory node (opening_parts found) front → (q : ℕ) (s : DiscPart) → slice_get (now front) q ≡ Some (Disc s) → slice_get (now front) (disc_part s.number) ≡ Some (Disc s)
    part_of front h q s at = ap (λ (n : ℕ). slice_get (now front) n) (sym (parts_placed found front h q (Disc s) at)) ∙ at

    -- a key of the disc has the value that the commits and its own changes come to
    pub present : (front rest : Log) (x : ℕ × Event) (s : DiscPart) (file : ℕ) (key : List ℕ) → log ≡ front ++ x ∷ rest → slice_get (now front) (disc_part s.number) ≡ Some (Disc s) → MayAct s t
        → IsTrueIn node (now front) (Enlisted t s.number) → IsHere s file → (entries : List Entry) × (s.base ≡ Some entries) × (values_after (map_of entries) s.events file key ≡ after_deeds (deeds_of t front) from file key)
    present front rest x s file key cut here acts listed is_here =
        let h = front_log law found log front (x ∷ rest) cut history in
        let a = alone front rest x s cut here acts listed in
        let v = has_values rules images bases dumps list map_ found o front h (disc_part s.number) s here in
        let on : volume_of found.config file ≡ s.number = ap (λ c. volume_of c file) (sym v.0) ∙ is_here in
        let value = (live_law rules found images bases dumps list map_ front o h s.number s a.m v.1.0 here a.at v.1.1 file key on).1 t (record { unreleased = acts.unreleased; nothing_undone = acts.nothing_undone })
        a.uncommitted (a.keys file key) in
        (v.1.0, v.1.1, value ∙ after_deeds-agree (deeds_of t front) (after_list front (recorded a.m.events) map_) from a.comes_to file key)

    pub taken : (front rest : Log) (x : ℕ × Event) (q : ℕ) (s : DiscPart) (file : ℕ) (key : List ℕ) → log ≡ front ++ x ∷ rest → slice_get (now front) q ≡ Some (Disc s) → MayTake s t file key
        → IsTrueIn node (now front) (Enlisted t s.number) → (entries : List Entry) × (s.base ≡ Some entries) × (values_after (map_of entries) s.events file key ≡ after_deeds (deeds_of t front) from file key)
    taken front rest x q s file key cut at takes listed =
        present front rest x s file key cut (part_of front (front_log law found log front (x ∷ rest) cut history) q s at) takes.acts listed takes.here

    -- each deed has found what is there
    pub served_at : (front rest : Log) (x : ℕ × Event) (deed : Deed) → log ≡ front ++ x ∷ rest → deed_in t x ≡ Some deed → IsEnabled node (now front) x → IsServedOne deed (after_deeds (deeds_of t front) from)
    served_at front rest (q, OfDisc (Write r op)) deed cut is (Disc s, at, may, asks) = by_case (is_same_transid t r.tx) refl is where
      by_case : (b : Bool) → is_same_transid t r.tx ≡ b → (if b then Some (Changed r op) else None) ≡ Some deed → IsServedOne deed (after_deeds (deeds_of t front) from)
      by_case false other is = absurd (cc (is))
      by_case true same is =
          let one : t ≡ r.tx = same_is t r.tx same in
          let takes : MayTake s t r.file r.key = subst (λ (u : Transid). MayTake s u r.file r.key) (sym one) may.takes in
          let v = taken front rest (q, OfDisc (Write r op)) q s r.file r.key cut at takes (subst (λ (u : Transid). IsTrueIn node (now front) (Enlisted u s.number)) (sym one) asks) in
          let tells = of_told s.base v.0 s.events (λ values. TellsChange s r op values) v.1 may.told in
          let it : Changed r op ≡ deed = cc (is) in
          subst (λ (d : Deed). IsServedOne d (after_deeds (deeds_of t front) from)) it (tells.before ∙ v.2, tells.after)
    served_at front rest (q, OfDisc (Read u file key value)) deed cut is (Disc s, at, may, asks) = by_case (is_same_transid t u) refl is where
      by_case : (b : Bool) → is_same_transid t u ≡ b → (if b then Some (Saw file key value) else None) ≡ Some deed → IsServedOne deed (after_deeds (deeds_of t front) from)
      by_case false other is = absurd (cc (is))
      by_case true same is =
          let one : t ≡ u = same_is t u same in
          let takes : MayTake s t file key = subst (λ (w : Transid). MayTake s w file key) (sym one) may.takes in
          let v = taken front rest (q, OfDisc (Read u file key value)) q s file key cut at takes (subst (λ (w : Transid). IsTrueIn node (now front) (Enlisted w s.number)) (sym one) asks) in
          let tells = of_told s.base v.0 s.events (λ values. value ≡ values file key) v.1 may.told in
          let it : Saw file key value ≡ deed = cc (is) in
          subst (λ (d : Deed). IsServedOne d (after_deeds (deeds_of t front) from)) it (tells ∙ v.2)
    served_at front rest (q, OfDisc (Lock u file)) deed cut is enabled = by_case (is_same_transid t u) is where
      by_case : (b : Bool) → (if b then Some (Locked file) else None) ≡ Some deed → IsServedOne deed (after_deeds (deeds_of t front) from)
      by_case false is = absurd (cc (is))
      by_case true is = (let it : Locked file ≡ deed = cc (is) in subst (λ (d : Deed). IsServedOne d (after_deeds (deeds_of t front) from)) it tt)
    served_at front rest (q, OfDisc (Turn u cause)) deed cut is enabled = absurd (cc (is))
    served_at front rest (q, OfDisc (Undo r)) deed cut is enabled = absurd (cc (is))
    served_at front rest (q, OfDisc (Close u)) deed cut is enabled = absurd (cc (is))
    served_at front rest (q, OfDisc (Release u)) deed cut is enabled = absurd (cc (is))
    served_at front rest (q, OfDisc (Draw file block position)) deed cut is enabled = absurd (cc (is))
    served_at front rest (q, OfDisc (Drawn file block)) deed cut is enabled = absurd (cc (is))
    served_at front rest (q, OfDisc (Low position by)) deed cut is enabled = absurd (cc (is))
    served_at front rest (q, OfDisc Lowered) deed cut is enabled = absurd (cc (is))
    served_at front rest (q, OfDisc (Start number start item)) deed cut is enabled = absurd (cc (is))
    served_at front rest (q, OfDisc (Raise number rest_)) deed cut is enabled = absurd (cc (is))
    served_at front rest (q, OfDisc (Failed by)) deed cut is enabled = absurd (cc (is))
    served_at front rest (q, OfWorker e) deed cut is enabled = absurd (cc (is))
    served_at front rest (q, OfTrail e) deed cut is enabled = absurd (cc (is))
    served_at front rest (q, OfMonitor e) deed cut is enabled = absurd (cc (is))
    served_at front rest (q, OfDump e) deed cut is enabled = absurd (cc (is))
    served_at front rest (q, OfDisc (Write r op)) deed cut is (_, at, may, asks) = absurd may
    served_at front rest (q, OfDisc (Read u file key value)) deed cut is (_, at, may, asks) = absurd may

    served_next : (front rest : Log) (x : ℕ × Event) → log ≡ front ++ x ∷ rest → (deed : Option Deed) → deed_in t x ≡ deed
        → AreServed (deeds_of t rest) (after_deeds (deeds_of t (front ++ x ∷ [])) from) → AreServed (deeds_of t (x ∷ rest)) (after_deeds (deeds_of t front) from)
    served_next front rest x cut None is more =
        let same : deeds_of t (front ++ x ∷ []) ≡ deeds_of t front = deeds_append t front (x ∷ []) ∙ ap (λ (l : List Deed). deeds_of t front ++ l) (deeds_step t x [] ∙ ap (λ (d : Option Deed). cons_option d []) is) ∙ append-nil (deeds_of t front) in
        let rest_is : deeds_of t rest ≡ deeds_of t (x ∷ rest) = sym (deeds_step t x rest ∙ ap (λ (d : Option Deed). cons_option d (deeds_of t rest)) is) in
        subst (λ (l : List Deed). AreServed l (after_deeds (deeds_of t front) from)) rest_is (subst (λ (l : List Deed). AreServed (deeds_of t rest) (after_deeds l from)) same more)
    served_next front rest x cut (Some deed) is more =
        let same : deeds_of t (front ++ x ∷ []) ≡ deeds_of t front ++ deed ∷ [] = deeds_append t front (x ∷ []) ∙ ap (λ (l : List Deed). deeds_of t front ++ l) (deeds_step t x [] ∙ ap (λ (d : Option Deed). cons_option d []) is) in
        let all_are : deed ∷ deeds_of t rest ≡ deeds_of t (x ∷ rest) = sym (deeds_step t x rest ∙ ap (λ (d : Option Deed). cons_option d (deeds_of t rest)) is) in
        let behind : AreServed (deeds_of t rest) (after_deeds (deed ∷ []) (after_deeds (deeds_of t front) from)) =
        subst (λ (m : RecordMap). AreServed (deeds_of t rest) m) (ap (λ (l : List Deed). after_deeds l from) same ∙ after_deeds-append (deeds_of t front) (deed ∷ []) from) more in
        subst (λ (l : List Deed). AreServed l (after_deeds (deeds_of t front) from)) all_are
        (served_first deed (deeds_of t rest) (after_deeds (deeds_of t front) from) (served_at front rest x deed cut is (next_enabled law found log front rest x cut history)) behind)

    -- so have all, one after the other
    pub served_behind : (front rest : Log) → log ≡ front ++ rest → AreServed (deeds_of t rest) (after_deeds (deeds_of t front) from)
    served_behind front [] cut = tt
    served_behind front (x ∷ rest) cut = served_next front rest x cut (deed_in t x) refl (served_behind (front ++ x ∷ []) rest (cut ∙ sym (append_assoc front (x ∷ []) rest)))

    -- a step that was refused has that reason there
    pub refused_at : (front rest : Log) (q : ℕ) (step : Step) (reason : Reason) → log ≡ front ++ (q, OfDisc (Turn t (Refused step reason))) ∷ rest → IsEnabled node (now front) (q, OfDisc (Turn t (Refused step reason)))
        → applied step.op (after_deeds (deeds_of t front) from step.file step.key) ≡ Err reason
    refused_at front rest q step reason cut (Disc s, at, may, asks) =
        let v = taken front rest (q, OfDisc (Turn t (Refused step reason))) q s step.file step.key cut at may.0 asks in
        ap (λ (u : Option (List ℕ)). applied step.op u) (sym v.2) ∙ of_told s.base v.0 s.events (λ values. applied step.op (values step.file step.key) ≡ Err reason) v.1 may.1
    refused_at front rest q step reason cut (_, at, may, asks) = absurd may
