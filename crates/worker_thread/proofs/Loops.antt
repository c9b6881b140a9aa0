-- How far a worker has come with its items.
use Rattle.std.specs.Prelude.{◌≤◌, ◌<◌, ◌+◌, ◌-◌}
use Rattle.std.proofs.Common.{Global, Vec, ◌≡◌, ℕ, zero, suc, Bool, false, List, [], ◌∷◌, ◌++◌, append-nil, append_assoc, length, length-append, Option, Some, get_or, slice_get, refl, ap, sym, ◌∙◌, subst, arith}
use Rattle.std.proofs.lemmas.Option.{get_or_from_slice_get}
use Rattle.std.specs.declared.sync.ledger.Share.{Share}
use Rattle.chronicle.specs.Seats.{Sight}
use Rattle.disk_model.specs.declared.disk.Disk as disk
use Rattle.tmf_model.specs.Commits.{numbered}
use Rattle.tmf_model.specs.declared.script.Item.{Item}
use Rattle.tmf_model.specs.declared.script.Phase.{Phase}
use Rattle.node_machine.specs.declared.event.Event.{Event}
use Rattle.node_machine.specs.Opening.{Found}
use Rattle.run_outcomes.specs.Knowing.{EnoughLaw, FirstLaw}
use Rattle.run_outcomes.specs.Outcomes.{AreOfItems, AreSkipped, first_attempt}
use Rattle.run_outcomes.specs.Reach.{reach_at}
use Rattle.run_outcomes.specs.Room.{IsRoomFor}
use Rattle.run_outcomes.specs.declared.outcome.Outcome.{Outcome}
use Rattle.worker_thread.specs.Room.{HasRoomFor}
use Rattle.worker_thread.specs.Work.{IsPhaseOf}
use Rattle.worker_thread.specs.Working.{HasDoneItem, HasWorked, IsNewWorker, IsWorking, MayDoItem, has_ended}
use Rattle.worker_thread.proofs.Items.{item_at, worker_valid, worker_within}
use Rattle.worker_thread.proofs.Lists.{rest_at}
use Rattle.worker_thread.proofs.Outcomes.{items_append, skipped_append}
use Rattle.worker_thread.proofs.Started.{started}

abbrev Rooms : Type 0
Rooms = List (Vec (ℕ × Option (List ℕ)) Global)

module _ {D L : Type 0} (kind : disk.Ghosts D) (found : Found) (phase : Phase) (devices : ℕ → Option D) (worker : ℕ) (items : List Item) where
  -- the worker has done so many first items, and has room for the others
  pub record IsSoFar (n : ℕ) (seat : Sight Event) (share : Share L) (outcomes : Vec Outcome Global) (reads : Rooms) (ended : Bool) : Type 0 where
    pub front : List Item
    pub rest : List Item
    pub items_are : items ≡ front ++ rest
    pub size : length front ≡ n
    pub of_items : AreOfItems found.epoch worker 1 front outcomes.items
    pub skipped : AreSkipped false outcomes.items
    pub working : IsWorking kind found phase devices worker (suc n) (reach_at seat share) outcomes.items
    pub room : HasRoomFor rest share outcomes reads
    pub ended_is : ended ≡ has_ended outcomes.items

  module _ (n : ℕ) (seat : Sight Event) (share : Share L) (outcomes : Vec Outcome Global) (reads : Rooms) (ended : Bool) (so_far : IsSoFar n seat share outcomes reads ended) (item : Item) (at : slice_get items n ≡ Some item) where
    more : (more : List Item) × (so_far.rest ≡ item ∷ more)
    more = rest_at so_far.front so_far.rest n item so_far.size (ap (λ (l : List Item). slice_get l n) (sym so_far.items_are) ∙ at)

    room : HasRoomFor (item ∷ more.0) share outcomes reads
    room = subst (λ (l : List Item). HasRoomFor l share outcomes reads) more.1 so_far.room

    -- so it may do the next one,
    pub may_do : numbered phase.workers worker ≡ Some items → (ordinal : ℕ) → ordinal ≡ suc n → MayDoItem kind found phase devices worker ordinal item seat share outcomes reads ended
    may_do items_are ordinal is = subst (λ (k : ℕ). MayDoItem kind found phase devices worker k item seat share outcomes reads ended) (sym is) (record {
      working = so_far.working;
      item_is = item_at phase (first_attempt found.epoch worker (suc n)) items item items_are at;
      rest = more.0;
      room = room;
      ended_is = so_far.ended_is;
    })

    -- and has done one more then
    pub one_more : (seat_new : Sight Event) (share_new : Share L) (outcomes_new : Vec Outcome Global) (reads_new : Rooms) (ended_new : Bool) (ordinal : ℕ) → ordinal ≡ suc n
        → HasDoneItem kind found phase devices worker ordinal item (reach_at seat_new share_new) outcomes.items outcomes_new.items
        → ((rest : List Item) → HasRoomFor (item ∷ rest) share outcomes reads → HasRoomFor rest share_new outcomes_new reads_new) → ended_new ≡ has_ended outcomes_new.items
        → IsSoFar (suc n) seat_new share_new outcomes_new reads_new ended_new
    one_more seat_new share_new outcomes_new reads_new ended_new ordinal is by left ended_is =
        let done = subst (λ (k : ℕ). HasDoneItem kind found phase devices worker k item (reach_at seat_new share_new) outcomes.items outcomes_new.items) is by in
        let size = so_far.size in
        let long = length-append so_far.front (item ∷ []) in
        let of_items : AreOfItems found.epoch worker 1 (so_far.front ++ item ∷ []) (outcomes.items ++ done.first) =
        items_append found.epoch worker 1 (suc n) so_far.front item outcomes.items done.first (omega (arith, size)) so_far.of_items done.are in
        record {
          front = so_far.front ++ item ∷ [];
          rest = more.0;
          items_are = so_far.items_are ∙ ap (λ (l : List Item). so_far.front ++ l) more.1 ∙ sym (append_assoc so_far.front (item ∷ []) more.0);
          size = omega (arith, size, long);
          of_items = subst (λ (l : List Outcome). AreOfItems found.epoch worker 1 (so_far.front ++ item ∷ []) l) (sym done.after_is) of_items;
          skipped = subst (λ (l : List Outcome). AreSkipped false l) (sym done.after_is) (skipped_append false outcomes.items done.first so_far.skipped done.skipped);
          working = done.working;
          room = left more.0 room;
          ended_is = ended_is;
        }

  -- behind the last one it has done all
  pub worked : (seat : Sight Event) (share : Share L) (outcomes : Vec Outcome Global) (reads : Rooms) (ended : Bool) → numbered phase.workers worker ≡ Some items → (n : ℕ) → length items ≤ n
      → IsSoFar n seat share outcomes reads ended → HasWorked kind found phase devices worker (reach_at seat share) outcomes.items
  worked seat share outcomes reads ended items_are n all so_far =
      let size = so_far.size in
      let long : length items ≡ length so_far.front + length so_far.rest = ap (λ (l : List Item). length l) so_far.items_are ∙ length-append so_far.front so_far.rest in
      let none = no_more so_far.rest (omega (arith, size, long, all)) in
      let whole : items ≡ so_far.front = so_far.items_are ∙ ap (λ (l : List Item). so_far.front ++ l) none ∙ append-nil so_far.front in
      let count : n ≡ length items = (let same = ap (λ (l : List Item). length l) whole in omega (arith, size, same)) in
      record {
        items = items;
        items_are = items_are;
        of_items = subst (λ (l : List Item). AreOfItems found.epoch worker 1 l outcomes.items) (sym whole) so_far.of_items;
        skipped = so_far.skipped;
        working = subst (λ (k : ℕ). IsWorking kind found phase devices worker (suc k) (reach_at seat share) outcomes.items) count so_far.working;
      }
    where
      no_more : (l : List Item) → length l ≤ 0 → l ≡ []
      no_more [] few = refl
      no_more (x ∷ l) few = absurd (omega (arith, few))

  -- a worker that begins has done none
  pub none_done : FirstLaw → EnoughLaw → IsPhaseOf found phase → numbered phase.workers worker ≡ Some items → (seat : Sight Event) (share : Share L) (outcomes : Vec Outcome Global) (reads : Rooms) (ended : Bool)
      → (new : IsNewWorker phase worker seat share outcomes reads ended) → new.items ≡ items → IsSoFar 0 seat share outcomes reads ended
  none_done first enough of_phase items_are seat share outcomes reads ended new same =
      let within = worker_within found phase of_phase worker items items_are in
      let many = enough found.config items (worker_valid found phase of_phase worker items items_are) in
      let tokens = new.tokens in
      let empty = ap (λ (l : List Outcome). length l) new.room.empty in
      let room = subst (λ (l : List Item). IsRoomFor l (record { outcomes = outcomes; reads = reads })) same new.room in
      let fits = room.enough in
      let base = started kind found phase devices first worker within.0 within.1 seat share new.seat_is new.tokens in
      record {
        front = [];
        rest = items;
        items_are = refl;
        size = refl;
        of_items = new.room.empty;
        skipped = subst (λ (l : List Outcome). AreSkipped false l) (sym new.room.empty) tt;
        working = subst (λ (l : List Outcome). IsWorking kind found phase devices worker 1 (reach_at seat share) l) (sym new.room.empty) base;
        room = record { parts = new.parts; tokens = omega (arith, many, tokens); outcomes_room = omega (arith, empty, fits); reads_room = room.reads };
        ended_is = new.ended_is ∙ sym (ap has_ended new.room.empty);
      }

-- the items that a worker finds by its number are its own
pub found_items : (workers : List (List Item)) (worker : ℕ) (items own : List Item) → numbered workers worker ≡ Some items → own ≡ get_or workers (worker - 1) own → own ≡ items
found_items workers zero items own is found = absurd (cc (is))
found_items workers (suc n) items own is found =
    let place : suc n - 1 ≡ n = omega arith in
    found ∙ ap (λ (k : ℕ). get_or workers k own) place ∙ get_or_from_slice_get workers n items own is

pub at_index : (xs : List Item) (n : ℕ) (x : Item) → n < length xs → x ≡ get_or xs n x → slice_get xs n ≡ Some x
at_index [] n x few is = absurd (omega (arith, few))
at_index (y ∷ xs) zero x few is = ap (λ (z : Item). Some z) (sym is)
at_index (y ∷ xs) (suc n) x few is = at_index xs n x (omega (arith, few)) is
