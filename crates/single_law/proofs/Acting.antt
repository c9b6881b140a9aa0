-- The entries in which an attempt acts at a disc: it has enlisted the disc there, and has not released it.
use Rattle.std.specs.Prelude.{◌≡◌, ℕ, Bool, true, false, if◌then◌else◌, List, [], ◌∷◌, ◌++◌, Option, Some, None, slice_get}
use Rattle.std.specs.List.{cons_option, filter_map}
use Rattle.std.proofs.Common.{refl, ap, sym, ◌∙◌, subst, append_assoc}
use Rattle.chronicle.specs.Histories.{IsEnabled, IsHistory, IsTrueIn, states_after}
use Rattle.tmf_model.specs.declared.transid.Transid.{Transid}
use Rattle.trail_files.specs.MonitorOrder.{is_same_transid}
use Rattle.node_machine.specs.Deeds.{EventsLaw, HasEnlisted, HasReleased, Log}
use Rattle.node_machine.specs.Disc.{MayAct}
use Rattle.node_machine.specs.Law.{Deed, deeds_of}
use Rattle.node_machine.specs.Law.Deed.{Changed, Locked, Saw}
use Rattle.node_machine.specs.Node.{node}
use Rattle.node_machine.specs.Opening.{Found, disc_part, opening_parts}
use Rattle.node_machine.specs.Parts.{DiscPart}
use Rattle.node_machine.specs.Parts.Fact.{Enlisted}
use Rattle.node_machine.specs.Parts.PartState.{Disc}
use Rattle.node_machine.specs.Same.{Among}
use Rattle.node_machine.specs.SameLaws.{among_left, same_is}
use Rattle.node_machine.specs.declared.event.DiscEvent.TheVariants.{Close, Draw, Drawn, Failed, Lock, Low, Lowered, Raise, Read, Release, Start, Turn, Undo, Write}
use Rattle.node_machine.specs.declared.event.Event.{Event}
use Rattle.node_machine.specs.declared.event.Event.TheVariants.{OfDisc, OfDump, OfMonitor, OfTrail, OfWorker}
use Rattle.node_machine.proofs.Placed.{parts_placed}
use Rattle.single_law.proofs.Given.{given_by}
use Rattle.single_law.proofs.Moments.{among_cut, enlisted_stands, front_log, is_released, next_enabled}
use Rattle.single_law.proofs.Served.{deed_in, deeds_step}

module _ (found : Found) where
  -- At this moment it may act at the disc, which it has enlisted.
  pub record IsActing (front : Log) (t : Transid) : Type 0 where
    pub s : DiscPart
    pub at : slice_get (states_after node (opening_parts found) front) (disc_part s.number) ≡ Some (Disc s)
    pub acts : MayAct s t
    pub listed : IsTrueIn node (states_after node (opening_parts found) front) (Enlisted t s.number)

  pub acting : (front : Log) (q : ℕ) (s : DiscPart) (t u : Transid) → IsHistory node (opening_parts found) front → slice_get (states_after node (opening_parts found) front) q ≡ Some (Disc s) → is_same_transid t u ≡ true
      → MayAct s u → IsTrueIn node (states_after node (opening_parts found) front) (Enlisted u s.number) → IsActing front t
  acting front q s t u history at same acts listed =
      let one : t ≡ u = same_is t u same in
      record {
        s = s;
        at = ap (λ (n : ℕ). slice_get (states_after node (opening_parts found) front) n) (sym (parts_placed found front history q (Disc s) at)) ∙ at;
        acts = subst (λ (v : Transid). MayAct s v) (sym one) acts;
        listed = subst (λ (v : Transid). IsTrueIn node (states_after node (opening_parts found) front) (Enlisted v s.number)) (sym one) listed;
      }

  -- whoever carries out a step acts
  pub deed_acts : (front : Log) (x : ℕ × Event) (t : Transid) (deed : Deed) → IsHistory node (opening_parts found) front → deed_in t x ≡ Some deed → IsEnabled node (states_after node (opening_parts found) front) x → IsActing front t
  deed_acts front (q, OfDisc (Write r op)) t deed history is (Disc s, at, may, asks) = by_case (is_same_transid t r.tx) refl is where
    by_case : (b : Bool) → is_same_transid t r.tx ≡ b → (if b then Some (Changed r op) else None) ≡ Some deed → IsActing front t
    by_case false other is = absurd (cc (is))
    by_case true same is = acting front q s t r.tx history at same may.takes.acts asks
  deed_acts front (q, OfDisc (Read u file key value)) t deed history is (Disc s, at, may, asks) = by_case (is_same_transid t u) refl is where
    by_case : (b : Bool) → is_same_transid t u ≡ b → (if b then Some (Saw file key value) else None) ≡ Some deed → IsActing front t
    by_case false other is = absurd (cc (is))
    by_case true same is = acting front q s t u history at same may.takes.acts asks
  deed_acts front (q, OfDisc (Lock u file)) t deed history is (Disc s, at, may, asks) = by_case (is_same_transid t u) refl is where
    by_case : (b : Bool) → is_same_transid t u ≡ b → (if b then Some (Locked file) else None) ≡ Some deed → IsActing front t
    by_case false other is = absurd (cc (is))
    by_case true same is = acting front q s t u history at same may.acts asks
  deed_acts front (q, OfDisc (Turn u cause)) t deed history is enabled = absurd (cc (is))
  deed_acts front (q, OfDisc (Undo r)) t deed history is enabled = absurd (cc (is))
  deed_acts front (q, OfDisc (Close u)) t deed history is enabled = absurd (cc (is))
  deed_acts front (q, OfDisc (Release u)) t deed history is enabled = absurd (cc (is))
  deed_acts front (q, OfDisc (Draw file block position)) t deed history is enabled = absurd (cc (is))
  deed_acts front (q, OfDisc (Drawn file block)) t deed history is enabled = absurd (cc (is))
  deed_acts front (q, OfDisc (Low position by)) t deed history is enabled = absurd (cc (is))
  deed_acts front (q, OfDisc Lowered) t deed history is enabled = absurd (cc (is))
  deed_acts front (q, OfDisc (Start number start item)) t deed history is enabled = absurd (cc (is))
  deed_acts front (q, OfDisc (Raise number rest)) t deed history is enabled = absurd (cc (is))
  deed_acts front (q, OfDisc (Failed by)) t deed history is enabled = absurd (cc (is))
  deed_acts front (q, OfWorker e) t deed history is enabled = absurd (cc (is))
  deed_acts front (q, OfTrail e) t deed history is enabled = absurd (cc (is))
  deed_acts front (q, OfMonitor e) t deed history is enabled = absurd (cc (is))
  deed_acts front (q, OfDump e) t deed history is enabled = absurd (cc (is))
  deed_acts front (q, OfDisc (Write r op)) t deed history is (_, at, may, asks) = absurd may
  deed_acts front (q, OfDisc (Read u file key value)) t deed history is (_, at, may, asks) = absurd may
  deed_acts front (q, OfDisc (Lock u file)) t deed history is (_, at, may, asks) = absurd may

pub deeds_filtered : (t : Transid) (log : Log) → deeds_of t log ≡ filter_map (deed_in t) log
deeds_filtered t [] = refl
deeds_filtered t (x ∷ log) = deeds_step t x log ∙ ap (λ (l : List Deed). cons_option (deed_in t x) l) (deeds_filtered t log)

module _ (law : EventsLaw) (found : Found) (log : Log) (history : IsHistory node (opening_parts found) log) where
  -- whoever has carried out a step has enlisted a disc
  pub done_enlisted : (t : Transid) (deed : Deed) → Among (deeds_of t log) deed → (volume : ℕ) × HasEnlisted log t volume
  done_enlisted t deed has =
      let by = given_by (deed_in t) log deed (subst (λ (l : List Deed). Among l deed) (deeds_filtered t log) has) in
      let cut = among_cut log by.0 by.1 in
      let front_is = front_log law found log cut.0 (by.0 ∷ cut.1) cut.2 history in
      let is = deed_acts found cut.0 by.0 t deed front_is by.2 (next_enabled law found log cut.0 cut.1 by.0 cut.2 history) in
      (is.s.number, subst (λ (l : Log). HasEnlisted l t is.s.number) (sym cut.2) (among_left cut.0 (by.0 ∷ cut.1) _ (enlisted_stands law found cut.0 t is.s.number front_is is.listed)))

  -- behind a moment by which it has released at each disc that it enlists an attempt carries out no step
  module _ (t : Transid) (front : Log) (released : (volume : ℕ) → HasEnlisted log t volume → HasReleased front t volume) where
    none_next : (more rest : Log) (x : ℕ × Event) → log ≡ (front ++ more) ++ x ∷ rest → (deed : Option Deed) → deed_in t x ≡ deed → deeds_of t rest ≡ [] → deeds_of t (x ∷ rest) ≡ []
    none_next more rest x cut None is none = deeds_step t x rest ∙ ap (λ (d : Option Deed). cons_option d (deeds_of t rest)) is ∙ none
    none_next more rest x cut (Some deed) is none =
        let front_is = front_log law found log (front ++ more) (x ∷ rest) cut history in
        let acts = deed_acts found (front ++ more) x t deed front_is is (next_enabled law found log (front ++ more) rest x cut history) in
        let listed : HasEnlisted log t acts.s.number = subst (λ (l : Log). HasEnlisted l t acts.s.number) (sym cut) (among_left (front ++ more) (x ∷ rest) _ (enlisted_stands law found (front ++ more) t acts.s.number front_is acts.listed)) in
        let gone = is_released law found (front ++ more) acts.s.number acts.s t front_is acts.at (among_left front more _ (released acts.s.number listed)) in
        let both : true ≡ false = sym gone ∙ acts.acts.unreleased in
        absurd (cc (both))

    pub none_behind : (more rest : Log) → log ≡ (front ++ more) ++ rest → deeds_of t rest ≡ []
    none_behind more [] cut = refl
    none_behind more (x ∷ rest) cut = none_next more rest x cut (deed_in t x) refl
        (none_behind (more ++ x ∷ []) rest (cut ∙ (sym (append_assoc (front ++ more) (x ∷ []) rest) ∙ ap (λ (l : Log). l ++ rest) (append_assoc front more (x ∷ [])))))
