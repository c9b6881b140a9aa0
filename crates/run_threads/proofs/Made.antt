-- The hands of workers, when one more is made.
use Rattle.std.specs.Prelude.{◌≡◌, ℕ, zero, suc, ◌+◌, ◌-◌, ◌<◌, ◌≤◌, false, List, [], ◌∷◌, ◌++◌, length, map, drop, Some, slice_get, slice_index_or}
use Rattle.std.specs.List.{Contains, remove}
use Rattle.std.proofs.Common.{add-one, refl, sym, ap, subst, ◌∙◌, arith, append-nil, append_assoc}
use Rattle.std.proofs.lemmas.List.{length-map, map-append}
use Rattle.std.proofs.lemmas.List.Elements.{All-nil, All-push}
use Rattle.std.proofs.lemmas.Option.{slice_get_within}
use Rattle.chronicle.specs.Seats.{Sight, new_seat, new_seats}
use Rattle.tmf_model.specs.Commits.{numbered}
use Rattle.tmf_model.specs.declared.script.Phase.{Phase}
use Rattle.node_machine.specs.Opening.{each_from, worker_part}
use Rattle.node_machine.specs.declared.event.Event.{Event}
use Rattle.run_outcomes.specs.Devices.{workers}
use Rattle.run_outcomes.specs.Reach.{first_tokens}
use Rattle.run_outcomes.specs.Room.{AreRooms, IsRoomFor}
use Rattle.run_outcomes.specs.declared.room.Room.{Room}
use Rattle.worker_thread.specs.declared.hand.WorkerHand.{WorkerHand}
use Rattle.run_threads.specs.Hands.{AreMade, IsFresh, disc_hands, numbers_to}
use Rattle.run_threads.specs.declared.hand.Hand.{Hand}
use Rattle.run_threads.specs.declared.hand.Hand.TheVariants.{Disc, Worker}
use Rattle.run_threads.proofs.Lists.{contains_at, each_more, item_there, left_front}

-- SEATS

seat_at : (n : ℕ) → n < workers → slice_get (new_seats {E = Event} workers) n ≡ Some (new_seat n)
seat_at zero lt = refl
seat_at (suc zero) lt = refl
seat_at (suc (suc zero)) lt = refl
seat_at (suc (suc (suc zero))) lt = refl
seat_at (suc (suc (suc (suc zero)))) lt = refl
seat_at (suc (suc (suc (suc (suc zero))))) lt = refl
seat_at (suc (suc (suc (suc (suc (suc zero)))))) lt = refl
seat_at (suc (suc (suc (suc (suc (suc (suc zero))))))) lt = refl
seat_at (suc (suc (suc (suc (suc (suc (suc (suc zero)))))))) lt = refl
seat_at (suc (suc (suc (suc (suc (suc (suc (suc (suc zero))))))))) lt = refl
seat_at (suc (suc (suc (suc (suc (suc (suc (suc (suc (suc zero)))))))))) lt = refl
seat_at (suc (suc (suc (suc (suc (suc (suc (suc (suc (suc (suc zero))))))))))) lt = refl
seat_at (suc (suc (suc (suc (suc (suc (suc (suc (suc (suc (suc (suc zero)))))))))))) lt = refl
seat_at (suc (suc (suc (suc (suc (suc (suc (suc (suc (suc (suc (suc (suc zero))))))))))))) lt = refl
seat_at (suc (suc (suc (suc (suc (suc (suc (suc (suc (suc (suc (suc (suc (suc zero)))))))))))))) lt = refl
seat_at (suc (suc (suc (suc (suc (suc (suc (suc (suc (suc (suc (suc (suc (suc (suc zero))))))))))))))) lt = refl
seat_at (suc (suc (suc (suc (suc (suc (suc (suc (suc (suc (suc (suc (suc (suc (suc (suc n)))))))))))))))) lt = absurd (omega (arith, lt))

module _ {A : Type 0} where
  dropped_at : (xs : List A) (n k : ℕ) (x : A) → slice_get xs (n + k) ≡ Some x → slice_get (drop n xs) k ≡ Some x
  dropped_at xs zero k x at = subst (λ (j : ℕ). slice_get xs j ≡ Some x) (zero_plus k) at where
    zero_plus : (k : ℕ) → 0 + k ≡ k
    zero_plus k = omega arith
  dropped_at [] (suc n) k x at = absurd (cc (at))
  dropped_at (y ∷ xs) (suc n) k x at = dropped_at xs n k x (subst (λ (j : ℕ). slice_get (y ∷ xs) j ≡ Some x) (suc_plus n k) at) where
    suc_plus : (n k : ℕ) → suc n + k ≡ suc (n + k)
    suc_plus n k = omega arith

  drop_there : (xs : List A) (n : ℕ) → n < length xs → (y : A) × (rest : List A) × (drop n xs ≡ y ∷ rest)
  drop_there [] n lt = absurd (omega (arith, lt))
  drop_there (x ∷ xs) zero lt = (x, xs, refl)
  drop_there (x ∷ xs) (suc n) lt = drop_there xs n (omega (arith, lt))

  -- the first of those that are left is taken out
  pub take_first : (xs left : List A) (n : ℕ) (x : A) → n < length xs → left ≡ drop n xs → x ≡ slice_index_or left 0 x → (slice_get xs n ≡ Some x) × (remove left 0 ≡ drop (suc n) xs)
  take_first xs left n x lt is first =
      let there = drop_there xs n lt in
      let front = left_front xs n there.0 there.1 there.2 in
      let whole : left ≡ there.0 ∷ there.1 = is ∙ there.2 in
      let same : x ≡ there.0 = first ∙ ap (λ (l : List A). slice_index_or l 0 x) whole in
      (front.0 ∙ ap (λ (z : A). Some z) (sym same), ap (λ (l : List A). remove l 0) whole ∙ sym front.1)

pub next_seat : (left : List (Sight Event)) (n : ℕ) (seat : Sight Event) → n < workers → left ≡ drop n (new_seats workers) → seat ≡ slice_index_or left 0 seat → (seat ≡ new_seat n) × (remove left 0 ≡ drop (suc n) (new_seats workers))
next_seat left n seat lt is first =
    let taken = take_first (new_seats {E = Event} workers) left n seat lt is first in
    let both : Some seat ≡ Some (new_seat n) = sym taken.0 ∙ seat_at n lt in
    (cc (both), taken.1)

-- the seats of the workers behind the first ones are left
pub idle_seats : (left : List (Sight Event)) (n : ℕ) → left ≡ drop n (new_seats workers) → (worker : ℕ) → n < worker → worker ≤ workers → Contains left (new_seat (worker_part worker))
idle_seats left n is worker past few =
    let place : n + ((worker - 1) - n) ≡ worker - 1 = omega (arith, past) in
    let at : slice_get (new_seats {E = Event} workers) (n + ((worker - 1) - n)) ≡ Some (new_seat (worker - 1)) =
    ap (λ (k : ℕ). slice_get (new_seats {E = Event} workers) k) place ∙ seat_at (worker - 1) (omega (arith, past, few)) in
    subst (λ (l : List (Sight Event)). Contains l (new_seat (worker_part worker))) (sym is)
    (contains_at (drop n (new_seats workers)) ((worker - 1) - n) (new_seat (worker - 1)) (dropped_at (new_seats workers) n ((worker - 1) - n) (new_seat (worker - 1)) at))

-- DISCS

abbrev a_disc : {J : Type 0} → ℕ → Hand J
a_disc place = Disc place

pub one_more_disc : {J : Type 0} (hands after : List (Hand J)) (n place : ℕ) → hands ≡ disc_hands n → place ≡ n → after ≡ hands ++ Disc place ∷ [] → after ≡ disc_hands (n + 1)
one_more_disc {J} hands after n place is same pushed =
    let zero_plus : 0 + n ≡ n = omega arith in
    let places : each_from (λ k. k) 0 (n + 1) ≡ each_from (λ k. k) 0 n ++ n ∷ [] = ap (λ (k : ℕ). each_from (λ k. k) 0 k) (add-one n) ∙ each_more 0 n ∙ ap (λ (k : ℕ). each_from (λ k. k) 0 n ++ k ∷ []) zero_plus in
    let more : map (a_disc {J = J}) (each_from (λ k. k) 0 (n + 1)) ≡ map (a_disc {J = J}) (each_from (λ k. k) 0 n) ++ a_disc {J = J} n ∷ [] =
    ap (λ (l : List ℕ). map (a_disc {J = J}) l) places ∙ map-append (a_disc {J = J}) (each_from (λ k. k) 0 n) (n ∷ []) in
    pushed ∙ ap (λ (l : List (Hand J)). l ++ Disc place ∷ []) is ∙ ap (λ (k : ℕ). disc_hands {J = J} n ++ Disc k ∷ []) same ∙ sym more

pub many_discs : {J : Type 0} (hands : List (Hand J)) (discs : ℕ) → hands ≡ disc_hands discs → length hands ≡ discs
many_discs {J} hands discs is = ap (λ (l : List (Hand J)). length l) is ∙ length-map (each_from (λ k. k) 0 discs) (a_disc {J = J}) ∙ size 0 discs where
  size : (first count : ℕ) → length (each_from (λ k. k) first count) ≡ count
  size first zero = refl
  size first (suc count) = (let rest = size (first + 1) count in omega (arith, rest))

-- WORKERS

-- the room of the next worker
pub next_room : (phase : Phase) (rooms rest more : List Room) (n : ℕ) (room : Room) → AreRooms phase.workers rooms → rest ≡ drop n rooms → rest ≡ room ∷ more → (slice_get rooms n ≡ Some room) × (more ≡ drop (suc n) rooms)
next_room phase rooms rest more n room are is first = (let front = left_front rooms n room more (sym is ∙ first) in (front.0, sym front.1))

module _ {J : Type 0} (phase : Phase) where
  -- a worker with its own seat, its room, one part and its tokens is new
  pub is_fresh : (rooms : List Room) (hand : WorkerHand J) (n : ℕ) (room : Room) → AreRooms phase.workers rooms → slice_get rooms n ≡ Some room → hand.number ≡ n + 1 → hand.worker.seat ≡ new_seat n
      → (hand.worker.outcomes ≡ room.outcomes) × (hand.reads ≡ room.reads) → (hand.worker.share.parts ≡ 1) × (hand.worker.share.amount ≡ first_tokens) → hand.ended ≡ false → IsFresh phase hand
  is_fresh rooms hand n room are at number seat own share begins =
      let within = slice_get_within rooms n room at in
      let count = are.count in
      let items = item_there phase.workers n (omega (arith, within, count)) in
      let numbered_at : numbered phase.workers hand.number ≡ Some items.0 = ap (λ (k : ℕ). numbered phase.workers k) (number ∙ add-one n) ∙ items.1 in
      let part : n ≡ worker_part hand.number = omega (arith, number) in
      let same : room ≡ record { outcomes = hand.worker.outcomes; reads = hand.reads } = (λ i. record { outcomes = sym own.0 i; reads = sym own.1 i }) in
      record {
        new = record {
          items = items.0;
          items_are = numbered_at;
          seat_is = seat ∙ ap (λ (k : ℕ). new_seat k) part;
          parts = (let one = share.0 in omega (arith, one));
          tokens = share.1;
          room = subst (λ (r : Room). IsRoomFor items.0 r) same (are.each n items.0 room items.1 at);
          ended_is = begins;
        };
        part = share.0;
      }

  pub none_made : (hands : List (Hand J)) → AreMade phase 0 hands hands
  none_made hands = record { workers = []; after_is = sym (append-nil hands); numbers_are = refl; fresh = All-nil (IsFresh phase) }

  pub one_made : (n : ℕ) (before after next : List (Hand J)) (hand : WorkerHand J) → AreMade phase n before after → next ≡ after ++ Worker hand ∷ [] → hand.number ≡ n + 1 → IsFresh phase hand → AreMade phase (n + 1) before next
  one_made n before after next hand made pushed number fresh = record {
    workers = made.workers ++ hand ∷ [];
    after_is = pushed ∙ ap (λ (l : List (Hand J)). l ++ Worker hand ∷ []) made.after_is ∙ append_assoc before (map (λ hand. Worker hand) made.workers) (Worker hand ∷ [])
        ∙ ap (λ (l : List (Hand J)). before ++ l) (sym (map-append (λ hand. Worker hand) made.workers (hand ∷ [])));
    numbers_are =
        (let one : 1 + n ≡ hand.number = omega (arith, number) in
        let many : numbers_to (n + 1) ≡ numbers_to n ++ (1 + n) ∷ [] = ap (λ (k : ℕ). numbers_to k) (add-one n) ∙ each_more 1 n in
        map-append (λ hand. hand.number) made.workers (hand ∷ []) ∙ ap (λ (l : List ℕ). l ++ hand.number ∷ []) made.numbers_are ∙ sym (many ∙ ap (λ (k : ℕ). numbers_to n ++ k ∷ []) one));
    fresh = All-push (IsFresh phase) made.workers hand made.fresh fresh;
  }
