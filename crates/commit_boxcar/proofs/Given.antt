-- A car of given requests, and the room behind it.
use Rattle.std.specs.Prelude.{ℕ, ◌<◌, ◌≤◌, ◌+◌, List, [], ◌∷◌, ◌++◌, length}
use Rattle.std.proofs.Common.{◌≡◌, zero, suc, get_or, take, inl, inr, refl, ap, sym, ◌∙◌, subst, arith, append_assoc, append-nil}
use Rattle.chronicle.specs.Seats.{Knows}
use Rattle.trail_files.specs.declared.monitor_record.MonitorRecord.{MonitorRecord}
use Rattle.node_machine.specs.declared.event.By.{By}
use Rattle.node_machine.specs.declared.event.MonitorEvent.{MonitorEvent}
use Rattle.node_machine.specs.declared.event.MonitorEvent.TheVariants.{Offer, Land, Failed}
use Rattle.node_machine.specs.Monitor.{recorded, offered_car, AreLater}
use Rattle.node_machine.specs.Node.{node}
use Rattle.node_machine.specs.Parts.{MonitorPart, PartState, Fact}
use Rattle.node_machine.specs.Same.{Among}
use Rattle.node_machine.specs.SameLaws.{among_append}
use Rattle.commit_boxcar.specs.Cars.{HasTakenOne}
use Rattle.commit_boxcar.specs.Given.{AreAsked, HasCarOf, IsCarRefused, IsNextCar, landing, written}
use Rattle.commit_boxcar.specs.Line.{AreTaken, IsNext, line_of}
use Rattle.commit_boxcar.specs.Monitor.{Monitor, line, offered_batch}
use Rattle.commit_boxcar.specs.Seat.{MonitorSight, HasHad}
use Rattle.commit_boxcar.proofs.Lines.{asked_more, later_right, line_taken, taken_push, taken_pass}
use Rattle.commit_boxcar.proofs.Seats.{had_then}

-- where each is later than all before it, each is taken
pub all_taken : (before line xs taken : List MonitorRecord) → AreLater before xs → AreTaken line xs taken → ((y : MonitorRecord) → Among line y → Among before y) → taken ≡ xs
all_taken before line [] taken later are sub = are
all_taken before line (x ∷ xs) taken later (inl a) sub =
    a.1.1
    ∙ ap (λ (l : List MonitorRecord). x ∷ l)
    (all_taken (x ∷ before) (line ++ x ∷ []) xs a.1.0 later.1 a.1.2 (λ y there. elim (among_append line (x ∷ []) y there) [ inl p ↦ inr (sub y p) | inr q ↦ elim q [ inl e ↦ inl e | inr none ↦ absurd none ] ]))
all_taken before line (x ∷ xs) taken later (inr b) sub = absurd (b.0 (λ y there. later.0 y (sub y there)))

pub taken_fewer : (line front taken : List MonitorRecord) → AreTaken line front taken → length taken ≤ length front
taken_fewer line [] taken are = (let none = ap (λ (l : List MonitorRecord). length l) are in omega (arith, none))
taken_fewer line (x ∷ front) taken (inl a) = (let rest = taken_fewer (line ++ x ∷ []) front a.1.0 a.1.2 in let is = ap (λ (l : List MonitorRecord). length l) a.1.1 in omega (arith, rest, is))
taken_fewer line (x ∷ front) taken (inr b) = (let rest = taken_fewer line front taken b.1 in omega (arith, rest))

pub take_short : {A : Type 0} (k : ℕ) (xs : List A) → length (take k xs) ≤ k
take_short zero xs = omega arith
take_short (suc k) [] = omega arith
take_short (suc k) (x ∷ xs) = (let rest = take_short k xs in omega (arith, rest))

pub among_or : {A : Type 0} (xs : List A) (k : ℕ) (d : A) → k < length xs → Among xs (get_or xs k d)
among_or [] k d less = absurd (omega (arith, less))
among_or (x ∷ xs) zero d less = inl refl
among_or (x ∷ xs) (suc k) d less = inr (among_or xs k d (omega (arith, less)))

-- the same events between seats that are the same
pub had_between : (es : List MonitorEvent) (a b c d : MonitorSight) → a ≡ b → d ≡ c → HasHad es a c → HasHad es b d
had_between es a b c d before after had = subst (λ (s : MonitorSight). HasHad es b s) (sym after) (subst (λ (s : MonitorSight). HasHad es s c) before had)

module _ {D : Type 0} where
  abbrev with_room : Monitor D → List MonitorRecord → Monitor D
  with_room v room = record v { room = room }

  -- one more request is taken behind the line, or passed over
  pub retaken : (v u w : Monitor D) (front : List MonitorRecord) (x : MonitorRecord) → v.room ≡ [] → u ≡ with_room v u.room → AreTaken (line v) front u.room → w.seat ≡ u.seat → HasTakenOne u w x
      → (w ≡ with_room v w.room) × AreTaken (line v) (front ++ x ∷ []) w.room
  retaken v u w front x none same are seat t =
      let done = recorded v.seat.part.events in
      let batch = offered_car v.seat.part.events in
      let behind : line u ≡ line v ++ u.room = ap (λ (m : Monitor D). line m) same ∙ line_taken done batch [] u.room ∙ ap (λ (l : List MonitorRecord). (done ++ (batch ++ l)) ++ u.room) (sym none) in
      let seats = seat ∙ ap (λ (m : Monitor D). m.seat) same in
      let trails = t.trail ∙ ap (λ (m : Monitor D). m.trail) same in
      let ends = t.end ∙ ap (λ (m : Monitor D). m.end) same in (
        λ i. record { seat = seats i; trail = trails i; room = w.room; end = ends i },
        elim t.taken [
          | inl next ↦ subst (λ (l : List MonitorRecord). AreTaken (line v) (front ++ x ∷ []) l) (sym next.1) (taken_push (line v) front u.room x are (subst (λ (l : List MonitorRecord). IsNext l x) behind next.0))
          | inr pass ↦
              subst (λ (l : List MonitorRecord). AreTaken (line v) (front ++ x ∷ []) l) (sym pass.1) (taken_pass (line v) front u.room x are (λ next. pass.0 (subst (λ (l : List MonitorRecord). IsNext l x) (sym behind) next)))
        ],
      )

  written_same : (w : Monitor D) → line_of w.seat.part [] ≡ written w
  written_same w = ap (λ (l : List MonitorRecord). recorded w.seat.part.events ++ l) (append-nil (offered_car w.seat.part.events))

  -- each request of the car is taken into the empty room
  pub just_these : (v : Monitor D) (requests room : List MonitorRecord) → AreLater (written v) requests → AreTaken (line_of v.seat.part []) requests room → room ≡ requests
  just_these v requests room later are = all_taken (written v) (line_of v.seat.part []) requests room later are (λ y there. subst (λ (l : List MonitorRecord). Among l y) (written_same v) there)

  -- behind a failed call the room is as it was
  pub room_back : (v w : Monitor D) (by : By) (room : List MonitorRecord) → AreLater [] (line v) → HasHad (Failed by ∷ []) v.seat w.seat → AreTaken (line_of w.seat.part []) v.room room → room ≡ v.room
  room_back v w by room later had are =
      let done = recorded v.seat.part.events in
      let batch = offered_car v.seat.part.events in
      let behind : AreLater (written v) v.room = later_right [] (written v) (written v) v.room (subst (λ (l : List MonitorRecord). AreLater [] l) (sym (append_assoc done batch v.room)) later) (λ y there. inr there) in
      all_taken (written v) (line_of w.seat.part []) v.room room behind are (λ y there.
      subst (λ (l : List MonitorRecord). Among l y) (ap (λ (p : MonitorPart). line_of p []) had.part ∙ written_same v) there)

  -- behind an offer the room has those that are later than all that is written
  pub room_behind : (v w : Monitor D) (requests room : List MonitorRecord) → offered_batch v ≡ [] → HasHad (Offer requests ∷ []) v.seat w.seat → AreTaken (line_of w.seat.part []) v.room room → AreTaken (written v ++ requests) v.room room
  room_behind v w requests room none had are =
      let done = recorded v.seat.part.events in
      subst (λ (l : List MonitorRecord). AreTaken l v.room room)
      (ap (λ (p : MonitorPart). line_of p []) had.part
      ∙ ap (λ (l : List MonitorRecord). done ++ l) (append-nil requests)
      ∙ sym (ap (λ (l : List MonitorRecord). (done ++ l) ++ requests) none ∙ ap (λ (l : List MonitorRecord). l ++ requests) (append-nil done))) are

  -- what was being written has landed, and as much is written as before
  pub landed_all : (v w : Monitor D) → HasHad (landing (offered_batch v)) v.seat w.seat → (written w ≡ written v) × (offered_batch w ≡ [])
  landed_all v w had = at (offered_batch v) refl had
    where
      at : (batch : List MonitorRecord) → offered_batch v ≡ batch → HasHad (landing batch) v.seat w.seat → (written w ≡ written v) × (offered_batch w ≡ [])
      at [] is h = (ap (λ (p : MonitorPart). recorded p.events ++ offered_car p.events) h.part, ap (λ (p : MonitorPart). offered_car p.events) h.part ∙ is)
      at (x ∷ xs) is h = (ap (λ (p : MonitorPart). recorded p.events ++ offered_car p.events) h.part ∙ append-nil (written v), ap (λ (p : MonitorPart). offered_car p.events) h.part)

  -- a car that may be next still may
  pub still_next : (opening : List PartState) (epoch : ℕ) (v w : Monitor D) (requests : List MonitorRecord) → HasHad (landing (offered_batch v)) v.seat w.seat → ((f : Fact) → Knows node opening v.seat.sight f → Knows node opening w.seat.sight f)
      → IsNextCar opening epoch v requests → IsNextCar opening epoch w requests
  still_next opening epoch v w requests had knows is = record {
    some = is.some;
    few = is.few;
    later = subst (λ (l : List MonitorRecord). AreLater l requests) (sym (landed_all v w had).0) is.later;
    asked = λ x there. asked_more (Knows node opening v.seat.sight) (Knows node opening w.seat.sight) epoch knows x (is.asked x there);
  }

  -- the car has landed
  pub car_landed : (v u wrote w : Monitor D) (requests : List MonitorRecord) (first : ℕ) → HasHad (landing (offered_batch v)) v.seat u.seat → u.room ≡ v.room → HasHad (Offer requests ∷ []) u.seat wrote.seat → AreTaken (written u ++ requests) u.room wrote.room
      → HasHad (Land ∷ []) wrote.seat w.seat → w.room ≡ wrote.room → first ≡ v.seat.part.places + length (written u) + 1 → HasCarOf requests v w first
  car_landed v u wrote w requests first landed room offer taken land same is =
      let all = (landed_all v u landed).0 in
      record {
        had = had_then (landing (offered_batch v)) (Offer requests ∷ Land ∷ []) v.seat u.seat w.seat landed (had_then (Offer requests ∷ []) (Land ∷ []) u.seat wrote.seat w.seat offer land);
        first_is = is ∙ ap (λ (l : List MonitorRecord). v.seat.part.places + length l + 1) all;
        room = subst (λ (l : List MonitorRecord). AreTaken (written v ++ requests) v.room l) (sym same)
            (subst (λ (r : List MonitorRecord). AreTaken (written v ++ requests) r wrote.room) room (subst (λ (l : List MonitorRecord). AreTaken (l ++ requests) u.room wrote.room) all taken));
      }

  -- what is being written has not landed
  pub refused_first : (by : By) (v w : Monitor D) (requests : List MonitorRecord) → HasHad (Failed by ∷ []) v.seat w.seat → w.room ≡ v.room → IsCarRefused by requests v w
  refused_first by v w requests had room = record { before = []; had = had; requests_are = inl (record { events = inl refl; room = room }) }

  -- the requests are not written
  pub refused_offer : (by : By) (v u w : Monitor D) (requests : List MonitorRecord) → HasHad (landing (offered_batch v)) v.seat u.seat → u.room ≡ v.room → HasHad (Failed by ∷ []) u.seat w.seat → w.room ≡ u.room → IsCarRefused by requests v w
  refused_offer by v u w requests landed room had same = record {
    before = landing (offered_batch v);
    had = had_then (landing (offered_batch v)) (Failed by ∷ []) v.seat u.seat w.seat landed had;
    requests_are = inl (record { events = inr refl; room = same ∙ room });
  }

  -- the requests are offered, and have not landed
  pub refused_land : (by : By) (v u wrote w : Monitor D) (requests : List MonitorRecord) → HasHad (landing (offered_batch v)) v.seat u.seat → u.room ≡ v.room → HasHad (Offer requests ∷ []) u.seat wrote.seat → AreTaken (written u ++ requests) u.room wrote.room
      → HasHad (Failed by ∷ []) wrote.seat w.seat → w.room ≡ wrote.room → IsCarRefused by requests v w
  refused_land by v u wrote w requests landed room offer taken had same =
      let all = (landed_all v u landed).0 in
      record {
        before = landing (offered_batch v) ++ Offer requests ∷ [];
        had = had_then (landing (offered_batch v) ++ Offer requests ∷ []) (Failed by ∷ []) v.seat wrote.seat w.seat (had_then (landing (offered_batch v)) (Offer requests ∷ []) v.seat u.seat wrote.seat landed offer) had;
        requests_are = inr (record {
          events = refl;
          room = subst (λ (l : List MonitorRecord). AreTaken (written v ++ requests) v.room l) (sym same)
              (subst (λ (r : List MonitorRecord). AreTaken (written v ++ requests) r wrote.room) room (subst (λ (l : List MonitorRecord). AreTaken (l ++ requests) u.room wrote.room) all taken));
        });
      }
