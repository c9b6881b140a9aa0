-- What a worker has for its items, item by item.
use Rattle.std.specs.Prelude.{◌≤◌, ◌+◌, ◌*◌, vec_capacity}
use Rattle.std.proofs.Common.{Global, Vec, ◌≡◌, inl, inr, ℕ, suc, List, [], ◌∷◌, ◌++◌, length, length-append, Option, slice_get, refl, ap, ◌∙◌, arith}
use Rattle.std.proofs.lemmas.List.Sums.{sum_by-cons}
use Rattle.std.specs.declared.sync.ledger.Share.{Share}
use Rattle.tmf_model.specs.declared.script.Item.{Item}
use Rattle.run_outcomes.specs.Knowing.{most_tokens}
use Rattle.run_outcomes.specs.Outcomes.{most_attempts}
use Rattle.run_outcomes.specs.Room.{AreRoomsForReads, IsRoomForReads}
use Rattle.run_outcomes.specs.declared.outcome.Outcome.{Outcome}
use Rattle.run_items.specs.Item.{HasGivenOneAtMost}
use Rattle.run_worker.specs.Going.{HasGivenSome}
use Rattle.worker_thread.specs.Room.{HasRoomFor}

abbrev Reads : Type 0
Reads = Vec (ℕ × Option (List ℕ)) Global

-- where an item is left there is room for its reads
pub some_room : (item : Item) (rest : List Item) (rooms : List Reads) → AreRoomsForReads (item ∷ rest) rooms → rooms ≡ [] → ⊥
some_room item rest rooms are none = (let count = are.count in let size = ap (λ (l : List Reads). length l) none in omega (arith, count, size))

pub first_room : (item : Item) (rest : List Item) (room : Reads) (rooms more : List Reads) → AreRoomsForReads (item ∷ rest) rooms → rooms ≡ room ∷ more → IsRoomForReads item room
first_room item rest room rooms more are is = are.each 0 item room refl (ap (λ (l : List Reads). slice_get l 0) is)

pub other_rooms : (item : Item) (rest : List Item) (room : Reads) (rooms more : List Reads) → AreRoomsForReads (item ∷ rest) rooms → rooms ≡ room ∷ more → AreRoomsForReads rest more
other_rooms item rest room rooms more are is = record {
  count = (let count = are.count in let size = ap (λ (l : List Reads). length l) is in omega (arith, count, size));
  each = λ n other reads there at. are.each (suc n) other reads there (ap (λ (l : List Reads). slice_get l (suc n)) is ∙ at);
}

module _ {L : Type 0} (item : Item) (rest : List Item) (share : Share L) (outcomes : Vec Outcome Global) (rooms : List Reads) (has : HasRoomFor (item ∷ rest) share outcomes rooms) where
  pub one_tokens : most_tokens * most_attempts item ≤ share.amount
  one_tokens = (let sum = sum_by-cons most_attempts item rest in let all = has.tokens in omega (arith, sum, all))

  pub one_outcomes : length outcomes.items + most_attempts item ≤ vec_capacity outcomes
  one_outcomes = (let sum = sum_by-cons most_attempts item rest in let all = has.outcomes_room in omega (arith, sum, all))

  -- behind the item there is what is left
  pub room_left : (share_new : Share L) (outcomes_new : Vec Outcome Global) (room : Reads) (rooms_new : List Reads) (first : List Outcome) → HasGivenSome (most_tokens * most_attempts item) share share_new
      → outcomes_new.items ≡ outcomes.items ++ first → length first ≤ most_attempts item → vec_capacity outcomes_new ≡ vec_capacity outcomes → rooms ≡ room ∷ rooms_new → HasRoomFor rest share_new outcomes_new rooms_new
  room_left share_new outcomes_new room rooms_new first given after_is few kept is =
      let sum = sum_by-cons most_attempts item rest in
      let some = has.parts in
      let same = given.parts in
      let tokens = has.tokens in
      let paid = given.amount in
      let size : length outcomes_new.items ≡ length outcomes.items + length first = ap (λ (l : List Outcome). length l) after_is ∙ length-append outcomes.items first in
      let room_is = has.outcomes_room in
      record {
        parts = omega (arith, some, same);
        tokens = omega (arith, sum, tokens, paid);
        outcomes_room = omega (arith, sum, room_is, size, few, kept);
        reads_room = other_rooms item rest room rooms rooms_new has.reads_room is;
      }

-- what has given one token at most has given no more than an item may
pub given_one : {L : Type 0} (old new : Share L) → HasGivenOneAtMost old new → HasGivenSome most_tokens old new
given_one old new (inl one) = record { parts = one.parts; amount = (let paid = one.amount in omega (arith, paid)) }
given_one old new (inr none) = record { parts = none.parts; amount = (let paid = none.amount in omega (arith, paid)) }

-- and what has given so many has given no more than a greater number
pub given_fewer : {L : Type 0} (old new : Share L) (few many : ℕ) → few ≤ many → HasGivenSome few old new → HasGivenSome many old new
given_fewer old new few many less given = record { parts = given.parts; amount = (let paid = given.amount in omega (arith, paid, less)) }
