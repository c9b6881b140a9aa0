-- The seat of a dump device's part behind an event and behind a meeting.
use Rattle.std.specs.Prelude.{◌+◌, List, [], ◌∷◌, ◌++◌, Option, Some}
use mathlib.Core.List.{reverse-cons}
use Rattle.std.proofs.Common.{◌≡◌, reverse, refl, ap, sym, ◌∙◌, subst, append_assoc, append-nil}
use Rattle.std.specs.Option.{option_map}
use mathlib.Core.List.{IsPrefix}
use Rattle.chronicle.specs.Seats.{Sight, HasGrown, HasLearned, Knows, own_events, part_state}
use Rattle.node_machine.specs.declared.event.DumpEvent.{DumpEvent}
use Rattle.node_machine.specs.declared.event.Event.{Event}
use Rattle.node_machine.specs.declared.event.Event.TheVariants.{OfDump}
use Rattle.node_machine.specs.Node.{node, state_with}
use Rattle.node_machine.specs.Opening.{Found}
use Rattle.node_machine.specs.Parts.{DumpPart, Fact, PartState}
use Rattle.node_machine.specs.Parts.PartState.{Dump}
use Rattle.online_dump.specs.Seat.{DumpSight, HasHad, HasStepped, IsDumpAt, IsFoundDump, dump_after, dump_in, dump_with_event, of_dump, sight_of}

-- an event changes nothing of what was found
found_with : (found : Found) (s : DumpPart) (e : DumpEvent) → IsFoundDump found s → IsFoundDump found (dump_with_event s e)
found_with found s e is = record { entry = is.entry; is = is.is; config = is.config; rest = is.rest }

pub of_then : (es fs : List DumpEvent) → of_dump (es ++ fs) ≡ of_dump es ++ of_dump fs
of_then [] fs = refl
of_then (e ∷ es) fs = ap (λ (l : List Event). OfDump e ∷ l) (of_then es fs)

-- the part with one more event has told one more
told_more : (es : List DumpEvent) (e : DumpEvent) → of_dump (reverse (e ∷ es)) ≡ of_dump (reverse es) ++ OfDump e ∷ []
told_more es e = ap of_dump (reverse-cons e es) ∙ of_then (reverse es) (e ∷ [])

module _ (opening : List PartState) (found : Found) where
  pub stepped : (v w : Sight Event) (e : DumpEvent) → IsDumpAt opening found (sight_of opening v) → w.part ≡ v.part → IsPrefix v.seen w.seen → own_events w ≡ own_events v ++ OfDump e ∷ []
      → part_state node opening w ≡ option_map (λ s. state_with s (OfDump e)) (part_state node opening v)
      → ((f : Fact) → Knows node opening v f → Knows node opening w f) → HasStepped opening found (e ∷ []) (sight_of opening v) (sight_of opening w)
  stepped v w e is seat begins mine state knows =
      let p = dump_in (part_state node opening v) in
      let at : part_state node opening w ≡ Some (Dump (dump_with_event p e)) = state ∙ ap (λ (o : Option PartState). option_map (λ s. state_with s (OfDump e)) o) is.at in
      let part = ap dump_in at in
      record {
        is = record {
          opens = is.opens;
          seat = seat ∙ is.seat ∙ ap (λ (s : DumpPart). Some (28 + s.number)) (sym part);
          at = at ∙ ap (λ (s : DumpPart). Some (Dump s)) (sym part);
          was = subst (λ (s : DumpPart). IsFoundDump found s) (sym part) (found_with found p e is.was);
          told = mine ∙ ap (λ (l : List Event). l ++ OfDump e ∷ []) is.told ∙ sym (told_more p.events e) ∙ ap (λ (s : DumpPart). of_dump (reverse s.events)) (sym part);
        };
        had = record { part = part; mine = mine; begins = begins };
        knows = knows;
      }

  pub met : (v w : Sight Event) → IsDumpAt opening found (sight_of opening v) → HasGrown v w → HasLearned node opening v w → HasStepped opening found [] (sight_of opening v) (sight_of opening w)
  met v w is grown learned =
      let part = ap dump_in learned.state in
      record {
        is = record {
          opens = is.opens;
          seat = grown.part ∙ is.seat ∙ ap (λ (s : DumpPart). Some (28 + s.number)) (sym part);
          at = learned.state ∙ is.at ∙ ap (λ (s : DumpPart). Some (Dump s)) (sym part);
          was = subst (λ (s : DumpPart). IsFoundDump found s) (sym part) is.was;
          told = grown.mine ∙ is.told ∙ ap (λ (s : DumpPart). of_dump (reverse s.events)) (sym part);
        };
        had = record { part = part; mine = grown.mine ∙ sym (append-nil (own_events v)); begins = grown.begins };
        knows = learned.knows;
      }

after_then : (s : DumpPart) (es fs : List DumpEvent) → dump_after s (es ++ fs) ≡ dump_after (dump_after s es) fs
after_then s [] fs = refl
after_then s (e ∷ es) fs = after_then (dump_with_event s e) es fs

-- one row of events behind another
pub had_then : (es fs : List DumpEvent) (u v w : DumpSight) → HasHad es u v → HasHad fs v w → HasHad (es ++ fs) u w
had_then es fs u v w p q = record {
  part = q.part ∙ ap (λ (s : DumpPart). dump_after s fs) p.part ∙ sym (after_then u.part es fs);
  mine =
      q.mine
      ∙ ap (λ (l : List Event). l ++ of_dump fs) p.mine
      ∙ append_assoc (own_events u.sight) (of_dump es) (of_dump fs)
      ∙ ap (λ (l : List Event). own_events u.sight ++ l) (sym (of_then es fs));
  begins = (p.begins.0 ++ q.begins.0, sym (append_assoc u.sight.seen p.begins.0 q.begins.0) ∙ ap (λ l. l ++ q.begins.0) p.begins.1 ∙ q.begins.1);
}

pub had_none : (v : DumpSight) → HasHad [] v v
had_none v = record { part = refl; mine = sym (append-nil (own_events v.sight)); begins = ([], append-nil v.sight.seen) }
