-- A worker that begins is one in front of its first item.
use Rattle.std.specs.Prelude.{◌≤◌}
use Rattle.std.proofs.Common.{◌≡◌, inl, ℕ, [], Option, refl, sym, subst, arith}
use Rattle.std.specs.declared.sync.ledger.Share.{Share}
use Rattle.chronicle.specs.Seats.{Sight, new_seat}
use Rattle.disk_model.specs.declared.disk.Disk as disk
use Rattle.tmf_model.specs.declared.script.Phase.{Phase}
use Rattle.tmf_model.specs.declared.transid.Transid.{Transid}
use Rattle.node_machine.specs.declared.event.Event.{Event}
use Rattle.node_machine.specs.Opening.{Found, opening_parts, worker_part}
use Rattle.node_machine.specs.Parts.{WorkerPart}
use Rattle.node_machine.proofs.Opened.{opening_worker}
use Rattle.run_outcomes.specs.Between.{MayBeNext}
use Rattle.run_outcomes.specs.Knowing.{FirstLaw}
use Rattle.run_outcomes.specs.Reach.{Reach, first_tokens, reach_at}
use Rattle.run_outcomes.specs.Run.{account_of}
use Rattle.run_outcomes.specs.Worker.{IsWorker}
use Rattle.worker_thread.specs.Working.{IsWorking}

none_yet : (t : Transid) → MayBeNext [] t
none_yet t = record { earlier = λ u has. absurd (cc (has)); decided = λ u has. absurd (cc (has)); unfinished = refl; undecided = refl; alone = refl }

module _ {D : Type 0} (kind : disk.Ghosts D) (found : Found) (phase : Phase) (devices : ℕ → Option D) (law : FirstLaw) (worker : ℕ) (low : 1 ≤ worker) (high : worker ≤ 16) where
  abbrev at : Reach
  at = record { seat = new_seat (worker_part worker); tokens = first_tokens }

  abbrev state : WorkerPart
  state = record { number = worker; epoch = found.epoch; events = [] }

  is_worker : IsWorker (opening_parts found) found (account_of kind found.config phase found.epoch devices found) worker at [] [] []
  is_worker = record {
    part = refl;
    own = λ outcome among. absurd among;
    begun = λ t has own. absurd has;
    state = state;
    at_state = opening_worker found worker low high;
    next = λ t later. none_yet t;
    knows = law worker (worker_part worker);
    few = omega arith;
    theirs = λ part e t among its. absurd among;
    moved = λ part e t among its. absurd among;
    told = λ outcome among. absurd among;
    dumps = record { ended = λ volume t number start among. absurd among; apart = λ outcome volume among is. absurd among };
  }

  begins : IsWorking kind found phase devices worker 1 at []
  begins = record {
    acts = [];
    moves = [];
    is = is_worker;
    earlier = λ outcome among. absurd among;
    next = (
      record { epoch = found.epoch; worker = worker; ordinal = 0; attempt = 0 },
      inl (omega arith),
      record { part = refl; state = state; at = opening_worker found worker low high; number = refl; epoch_is = refl; next = λ t later. none_yet t },
    );
    let_go = λ none u volume same enlisted. absurd enlisted;
  }

  pub started : {L : Type 0} (seat : Sight Event) (share : Share L) → seat ≡ new_seat (worker_part worker) → share.amount ≡ first_tokens → IsWorking kind found phase devices worker 1 (reach_at seat share) []
  started seat share seat_is tokens =
      subst (λ (s : Sight Event). IsWorking kind found phase devices worker 1 (record { seat = s; tokens = share.amount }) []) (sym seat_is)
      (subst (λ (n : ℕ). IsWorking kind found phase devices worker 1 (record { seat = new_seat (worker_part worker); tokens = n }) []) (sym tokens) begins)
