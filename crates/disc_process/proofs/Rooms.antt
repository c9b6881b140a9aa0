-- What is said of the draws that make room for a block.
use Rattle.std.specs.Prelude.{Result, Ok, Err, OnOk, IsErrAnd}
use Rattle.std.specs.Option.{option_map}
use Rattle.std.proofs.Common.{◌≡◌, ◌⊎◌, ⊎_elim, ℕ, Bool, true, false, List, [], ◌∷◌, ◌++◌, append-nil, append_assoc, Option, cond, inl, inr, refl, ap, sym, ◌∙◌, subst}
use Rattle.chronicle.specs.Seats.{Sight, own_events}
use Rattle.node_machine.specs.declared.event.By.{By}
use Rattle.node_machine.specs.declared.event.DiscEvent.TheVariants as did
use Rattle.node_machine.specs.declared.event.Event.{Event}
use Rattle.node_machine.specs.declared.event.Event.TheVariants.{OfDisc}
use Rattle.block_cache.specs.Blocks.{View}
use Rattle.block_cache.specs.Cache.{entry_at}
use Rattle.block_cache.specs.declared.frame.Frame.{Frame}
use Rattle.disc_process.specs.Blocks.{dirty_in, ended_in, half_in, position_in}
use Rattle.disc_process.specs.Draw.{AreDraws, AreForRoom, HasBegun, HasMadeRoom, HasRoom, HasSoughtRoom, drawings, endings}
use Rattle.disc_process.proofs.Drawn.{ended_drawings}

-- the events of one block's draw are draws
draws_of_one : (f n p : ℕ) (half dirty : Bool) → AreDraws (cond half (OfDisc (did.Drawn f n) ∷ []) [] ++ cond dirty (OfDisc (did.Draw f n p) ∷ OfDisc (did.Drawn f n) ∷ []) [])
draws_of_one f n p true true = refl
draws_of_one f n p true false = refl
draws_of_one f n p false true = refl
draws_of_one f n p false false = refl

pub room_draws : {D : Type 0} (blocks : View D) (f n : ℕ) (events : List Event) → AreForRoom blocks f n events → AreDraws events
room_draws blocks f n events (inl none) = subst AreDraws (sym none.0) refl
room_draws blocks f n events (inr h) =
    let entry = entry_at blocks.cache h.other_file h.other_number in
    subst AreDraws (sym h.of_one) (draws_of_one h.other_file h.other_number (position_in entry) (half_in entry) (dirty_in entry))

-- where nothing was drawn
pub no_room : {D : Type 0} (blocks : View D) (f n : ℕ) (v : Sight Event) → HasRoom blocks f n → HasMadeRoom blocks f n v v
no_room blocks f n v has = record { drawn = []; room = inl (refl, has); events = sym (append-nil (own_events v)) }

-- the disc has had no event more behind it
pub room_behind : {D : Type 0} (blocks : View D) (f n : ℕ) (u v w : Sight Event) → own_events w ≡ own_events v → HasMadeRoom blocks f n u v → HasMadeRoom blocks f n u w
room_behind blocks f n u v w same h = record { drawn = h.drawn; room = h.room; events = same ∙ h.events }

-- nor before it, and its blocks were as before
pub room_before : {D : Type 0} (old mid : View D) (f n : ℕ) (u v w : Sight Event) → mid ≡ old → own_events v ≡ own_events u → HasMadeRoom mid f n v w → HasMadeRoom old f n u w
room_before {D} old mid f n u v w blocks same h = record {
  drawn = h.drawn;
  room = subst (λ (b : View D). AreForRoom b f n h.drawn) blocks h.room;
  events = h.events ∙ ap (λ (l : List Event). l ++ h.drawn) same;
}

-- what is said of an answer is nothing where there is none
pub ok_none : {T E : Type 0} (P : Type 0) (Q : E → Type 0) (r : Result T E) → IsErrAnd r Q → OnOk r P
ok_none P Q (Ok x) is = absurd is
ok_none P Q (Err e) is = tt

-- WHERE DRAWS ARE BROKEN OFF

module _ (by : By) (whole : List Event) (v w : Sight Event) where
  -- so many of them were had, and no failure is told
  pub begun_still : (had rest : List Event) → had ++ rest ≡ whole → own_events w ≡ own_events v ++ had → HasBegun by whole v w
  begun_still had rest front own = record { had = had; front = (rest, front); events = inl own }

  -- or one is
  pub begun_failed : (had rest : List Event) → had ++ rest ≡ whole → own_events w ≡ (own_events v ++ had) ++ OfDisc (did.Failed by) ∷ [] → HasBegun by whole v w
  begun_failed had rest front own = record { had = had; front = (rest, front); events = inr own }

  -- none was had
  pub begun_none : own_events w ≡ own_events v → HasBegun by whole v w
  begun_none own = begun_still [] whole refl (own ∙ sym (append-nil (own_events v)))

  pub begun_none_failed : own_events w ≡ own_events v ++ OfDisc (did.Failed by) ∷ [] → HasBegun by whole v w
  begun_none_failed own = begun_failed [] whole refl (own ∙ ap (λ (l : List Event). l ++ OfDisc (did.Failed by) ∷ []) (sym (append-nil (own_events v))))

-- behind others, all of which were had
pub begun_behind : (by : By) (first whole : List Event) (u v w : Sight Event) → own_events v ≡ own_events u ++ first → HasBegun by whole v w → HasBegun by (first ++ whole) u w
begun_behind by first whole u v w own h = record {
  had = first ++ h.had;
  front = (h.front.0, append_assoc first h.had h.front.0 ∙ ap (λ (l : List Event). first ++ l) h.front.1);
  events = ⊎_elim
      (λ (e : own_events w ≡ own_events v ++ h.had). inl (e ∙ ap (λ (l : List Event). l ++ h.had) own ∙ append_assoc (own_events u) first h.had))
      (λ (e : own_events w ≡ (own_events v ++ h.had) ++ OfDisc (did.Failed by) ∷ []).
      inr (e ∙ ap (λ (l : List Event). (l ++ h.had) ++ OfDisc (did.Failed by) ∷ []) own ∙ ap (λ (l : List Event). l ++ OfDisc (did.Failed by) ∷ []) (append_assoc (own_events u) first h.had)))
      h.events;
}

module _ (by : By) (f n : ℕ) (o : Option Frame) where
  -- the first event of a draw was had, and a failure is told behind it
  pub begun_drawing : (u v w : Sight Event) → dirty_in o ≡ true → own_events v ≡ own_events u ++ OfDisc (did.Draw f n (position_in o)) ∷ [] → own_events w ≡ own_events v ++ OfDisc (did.Failed by) ∷ [] → HasBegun by (drawings f n o) u w
  begun_drawing u v w dirty first second =
      let one : Event = OfDisc (did.Draw f n (position_in o)) in
      let two : Event = OfDisc (did.Drawn f n) in
      subst (λ (b : Bool). HasBegun by (cond b (one ∷ two ∷ []) []) u w) (sym dirty)
      (begun_failed by (one ∷ two ∷ []) u w (one ∷ []) (two ∷ []) refl (second ∙ ap (λ (l : List Event). l ++ OfDisc (did.Failed by) ∷ []) first))

  -- no draw was half done
  pub begun_whole : (v w : Sight Event) → half_in o ≡ false → HasBegun by (drawings f n o) v w → HasBegun by (endings f n o ++ drawings f n o) v w
  begun_whole v w whole h = subst (λ (b : Bool). HasBegun by (cond b (OfDisc (did.Drawn f n) ∷ []) [] ++ drawings f n o) v w) (sym whole) h

  -- one was, and has ended
  pub begun_ended : (e : Option Frame) (u v w : Sight Event) → half_in o ≡ true → e ≡ option_map ended_in o → own_events v ≡ own_events u ++ OfDisc (did.Drawn f n) ∷ [] → HasBegun by (drawings f n e) v w
      → HasBegun by (endings f n o ++ drawings f n o) u w
  begun_ended e u v w half is own h =
      let one : Event = OfDisc (did.Drawn f n) in
      let same : drawings f n e ≡ drawings f n o = ap (drawings f n) is ∙ ended_drawings f n o in
      subst (λ (b : Bool). HasBegun by (cond b (one ∷ []) [] ++ drawings f n o) u w) (sym half)
      (begun_behind by (one ∷ []) (drawings f n o) u v w own (subst (λ (xs : List Event). HasBegun by xs v w) same h))

-- the seat had had no event before it
begun_before : (by : By) (whole : List Event) (u v w : Sight Event) → own_events v ≡ own_events u → HasBegun by whole v w → HasBegun by whole u w
begun_before by whole u v w own h = begun_behind by [] whole u v w (own ∙ sym (append-nil (own_events u))) h

module _ {D : Type 0} (by : By) (blocks : View D) (f n : ℕ) where
  -- room was made, and the disc has had no event more, or has told a failure
  pub sought_made : (u v w : Sight Event) → HasMadeRoom blocks f n u v → own_events w ≡ own_events v → HasSoughtRoom by blocks f n u w
  sought_made u v w made own = record {
    whole = made.drawn;
    room = made.room;
    begun = begun_still by made.drawn u w made.drawn [] (append-nil made.drawn) (own ∙ made.events);
  }

  pub sought_failed : (u v w : Sight Event) → HasMadeRoom blocks f n u v → own_events w ≡ own_events v ++ OfDisc (did.Failed by) ∷ [] → HasSoughtRoom by blocks f n u w
  sought_failed u v w made own = record {
    whole = made.drawn;
    room = made.room;
    begun = begun_failed by made.drawn u w made.drawn [] (append-nil made.drawn) (own ∙ ap (λ (l : List Event). l ++ OfDisc (did.Failed by) ∷ []) made.events);
  }

-- the disc had had no event before it, and its blocks were as before
pub sought_before : {D : Type 0} (by : By) (old mid : View D) (f n : ℕ) (u v w : Sight Event) → mid ≡ old → own_events v ≡ own_events u → HasSoughtRoom by mid f n v w → HasSoughtRoom by old f n u w
sought_before {D} by old mid f n u v w blocks own h = record {
  whole = h.whole;
  room = subst (λ (b : View D). AreForRoom b f n h.whole) blocks h.room;
  begun = begun_before by h.whole u v w own h.begun;
}
