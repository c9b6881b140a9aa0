-- What a worker knows of its acts, and of the moves for its items.
use Rattle.std.specs.Prelude.{◌≡◌, ℕ, ◌*◌, ◌≤◌, Bool, true, cond, List, [], ◌∷◌, ◌++◌, length, All}
use Rattle.std.specs.List.{sum_by}
use Rattle.std.proofs.Common.{refl, sym, ap, subst, ◌∙◌, arith, length-append}
use Rattle.std.proofs.lemmas.List.{append-nil, append_assoc}
use Rattle.std.proofs.lemmas.List.Elements.{All-head, All-tail, filter-append}
use Rattle.std.proofs.lemmas.List.Sums.{sum_by-cons}
use mathlib.Core.List.{IsPrefix}
use Rattle.node_machine.specs.Acts.{StandIn, acts_of, is_act_of}
use Rattle.run_outcomes.specs.Reach.{KnowsActsAndMoves, Reach}
use Rattle.node_machine.specs.Deeds.{Log}
use Rattle.node_machine.specs.Same.{Among}
use Rattle.node_machine.specs.declared.event.Event.{Event}
use Rattle.tmf_model.specs.Script.{IsValidItem}
use Rattle.tmf_model.specs.declared.config.Config.{Config}
use Rattle.tmf_model.specs.declared.script.Item.{Item}
use Rattle.tmf_model.specs.declared.script.Item.TheVariants.{Transaction as TransactionItem, Control, Dump}
use Rattle.run_outcomes.proofs.Standing.{stand_appended, stand_behind, stand_one}
use Rattle.run_outcomes.specs.Knowing.{EnoughLaw, FirstLaw, MovesKnownLaw, OnceLaw, StillLaw, ThenLaw}
use Rattle.node_machine.specs.Moves.{is_move_of, moves_of}
use Rattle.run_outcomes.specs.Outcomes.{most_attempts}

pub first_law : FirstLaw
first_law = λ worker part. record { own = refl; stand = tt; own_moves = refl; moves_stand = tt; counted = omega arith }

one_own : (worker : ℕ) (acts : Log) (act : ℕ × Event) → acts_of worker acts ≡ acts → is_act_of worker act.1 ≡ true → acts_of worker (acts ++ act ∷ []) ≡ acts ++ act ∷ []
one_own worker acts act own is =
    filter-append (λ (entry : ℕ × Event). is_act_of worker entry.1) acts (act ∷ []) ∙ ap (λ (l : Log). l ++ acts_of worker (act ∷ [])) own ∙ ap (λ (b : Bool). acts ++ cond b (act ∷ []) []) is

-- what stood in what the seat had seen stands there still
still_stand : (log : Log) (old new : Reach) → IsPrefix old.seat.seen new.seat.seen → StandIn log old.seat.seen → StandIn log new.seat.seen
still_stand log old new begins stand = subst (λ (l : Log). StandIn log l) begins.1 (stand_behind log old.seat.seen begins.0 stand)

-- one more stands behind it, among what was newly seen
one_stands : (log : Log) (old new : Reach) (entry : ℕ × Event) (more : Log) → new.seat.seen ≡ old.seat.seen ++ more → Among more entry → StandIn log old.seat.seen → StandIn (log ++ entry ∷ []) new.seat.seen
one_stands log old new entry more seen among stand = subst (λ (l : Log). StandIn (log ++ entry ∷ []) l) (sym seen) (stand_appended log old.seat.seen (entry ∷ []) more stand (stand_one entry more among))

pub once_law : OnceLaw
once_law = λ worker old new act has acts moves knows. record {
  own = one_own worker acts act knows.own has.own;
  stand = one_stands acts old new act has.more has.seen has.among knows.stand;
  own_moves = knows.own_moves;
  moves_stand = still_stand moves old new (has.more, sym has.seen) knows.moves_stand;
  counted = (let size = length-append acts (act ∷ []) in let before = knows.counted in let given = has.given in omega (arith, size, before, given));
}

still_knows : (worker : ℕ) (old new : Reach) (acts moves : Log) → IsPrefix old.seat.seen new.seat.seen → new.tokens ≡ old.tokens → KnowsActsAndMoves worker old acts moves → KnowsActsAndMoves worker new acts moves
still_knows worker old new acts moves begins same knows = record {
  own = knows.own;
  stand = still_stand acts old new begins knows.stand;
  own_moves = knows.own_moves;
  moves_stand = still_stand moves old new begins knows.moves_stand;
  counted = (let before = knows.counted in omega (arith, before, same));
}

pub still_law : StillLaw
still_law = λ worker old new begins same acts moves knows.
    subst (λ (l : Log). KnowsActsAndMoves worker new l moves) (sym (append-nil acts)) (still_knows worker old new acts moves begins same knows)

pub then_law : ThenLaw
then_law = λ worker first second third acts more one two known moves knows.
    subst (λ (l : Log). KnowsActsAndMoves worker third l moves) (append_assoc known acts more) (two (known ++ acts) moves (one known moves knows))

one_move : (worker : ℕ) (moves : Log) (move : ℕ × Event) → moves_of worker moves ≡ moves → is_move_of worker move.1 ≡ true → moves_of worker (moves ++ move ∷ []) ≡ moves ++ move ∷ []
one_move worker moves move own is =
    filter-append (λ (entry : ℕ × Event). is_move_of worker entry.1) moves (move ∷ []) ∙ ap (λ (l : Log). l ++ moves_of worker (move ∷ [])) own ∙ ap (λ (b : Bool). moves ++ cond b (move ∷ []) []) is

pub moves_known_law : MovesKnownLaw
moves_known_law = λ worker. record {
  once = λ old new move has acts moves knows. record {
    own = knows.own;
    stand = still_stand acts old new (has.more, sym has.seen) knows.stand;
    own_moves = one_move worker moves move knows.own_moves has.own;
    moves_stand = one_stands moves old new move has.more has.seen has.among knows.moves_stand;
    counted = (let size = length-append moves (move ∷ []) in let before = knows.counted in let given = has.given in omega (arith, size, before, given));
  };
  still = λ old new begins same acts moves knows.
      subst (λ (l : Log). KnowsActsAndMoves worker new acts l) (sym (append-nil moves)) (still_knows worker old new acts moves begins same knows);
  next = λ first second third moves more one two acts known knows.
      subst (λ (l : Log). KnowsActsAndMoves worker third acts l) (append_assoc known moves more) (two acts (known ++ moves) (one acts known knows));
}

few_here : (config : Config) (item : Item) → IsValidItem config item → most_attempts item ≤ 8
few_here config (TransactionItem transaction) valid = valid.attempts.below
few_here config (Control volume) valid = omega arith
few_here config (Dump volume) valid = omega arith

few_attempts : (config : Config) (items : List Item) → All (IsValidItem config) items → sum_by most_attempts items ≤ 8 * length items
few_attempts config [] valid = omega arith
few_attempts config (item ∷ items) valid =
    let one = sum_by-cons most_attempts item items in
    let here = few_here config item (All-head (IsValidItem config) item items valid) in
    let rest = few_attempts config items (All-tail (IsValidItem config) item items valid) in
    omega (arith, one, here, rest)

pub enough_law : EnoughLaw
enough_law = λ config items valid. (let many = few_attempts config items valid.each in let few = valid.few in omega (arith, many, few))
