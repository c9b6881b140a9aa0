-- A history of a small node: one attempt makes one change, which lands, and is committed.
use Rattle.std.specs.Prelude.{◌-◌, ◌≡◌, ◌≢◌, ℕ, zero, suc, ◌<◌, ◌≤◌, ◌==◌, Bool, true, false, cond, if◌then◌else◌, IsSome, List, [], ◌∷◌, take, Option, Some, None, slice_get}
use Rattle.std.proofs.Common.{refl, subst, arith, eqb-true, ⊎_elim, inl, inr}
use Rattle.chronicle.specs.Histories.{IsHistory, IsTrueIn, states_after}
use Rattle.std.specs.Prelude.{IsTrue}
use Rattle.std.specs.List.{IsDistinct}
use Rattle.std.proofs.lemmas.List.Elements.{All-from_recursion}
use Rattle.disk_model.specs.Held.{Held}
use Rattle.tmf_model.specs.Config.{IsDeclared, IsValidConfig, IsWithin, HasDistinctNames, monitor_name}
use Rattle.tmf_model.specs.Name.{is_file_name, is_volume_name}
use Rattle.tmf_model.specs.RecordMap.{RecordMap, empty_map, with_value}
use Rattle.tmf_model.specs.Commits.{numbered}
use Rattle.tmf_model.specs.declared.config.Config.{Config}
use Rattle.tmf_model.specs.declared.config.FileLine.{FileLine}
use Rattle.tmf_model.specs.declared.config.Volume.{Volume}
use Rattle.trail_files.specs.AuditRecord.{audit_format}
use Rattle.trail_files.specs.MonitorRecord.{monitor_format}
use Rattle.trail_files.specs.StandsFor.{Base, HasRoom, IsNumber}
use Rattle.trail_files.specs.Text.{Spells}
use Rattle.trail_files.specs.declared.rules.Rules.{Rules}
use Rattle.node_machine.specs.Law.{IsFoundTrail, IsFoundVolume, IsOpening, deeds_of}
use Rattle.node_machine.specs.Live.{after_deeds}
use Rattle.tmf_model.specs.declared.script.Op.TheVariants.{Del, Put, Read as ReadOp}
use Rattle.tmf_model.specs.declared.script.Reason.TheVariants.{Missing}
use Rattle.tmf_model.specs.declared.script.Step.{Step}
use Rattle.tmf_model.specs.declared.transid.Transid.{Transid}
use Rattle.trail_files.specs.declared.audit_record.AuditKind.TheVariants.{Change, Undo as UndoKind}
use Rattle.trail_files.specs.declared.audit_record.AuditRecord.{AuditRecord}
use Rattle.trail_files.specs.declared.monitor_record.MonitorRecord.{MonitorRecord}
use Rattle.trail_files.specs.declared.monitor_record.MonitorRecord.TheVariants.{Start as StartRecord, Commit, Abort}
use Rattle.node_machine.specs.declared.event.By.TheVariants.{Attempt, Disc as ByDisc}
use Rattle.node_machine.specs.declared.event.Cause.TheVariants.{Busy, BusyFile, Refused}
use Rattle.node_machine.specs.declared.event.DiscEvent.{DiscEvent}
use Rattle.node_machine.specs.declared.event.DiscEvent.TheVariants.{Write, Read, Lock, Turn, Undo, Close, Release, Draw, Drawn, Low, Lowered, Start as StartDump, Raise}
use Rattle.node_machine.specs.declared.event.DumpEvent.TheVariants.{Copy, Seal, Sealed}
use Rattle.node_machine.specs.declared.event.Event.{Event}
use Rattle.node_machine.specs.declared.event.Event.TheVariants.{OfWorker, OfDisc, OfTrail, OfMonitor, OfDump}
use Rattle.node_machine.specs.declared.event.MonitorEvent.TheVariants.{Offer as OfferCar, Land as LandCar}
use Rattle.node_machine.specs.declared.event.TrailEvent.TheVariants.{Offer, Land, Purge, Failed as TrailFailed}
use Rattle.node_machine.specs.declared.event.WorkerEvent.TheVariants.{Begin, Enlist, Finish, End, Quit}
use Rattle.node_machine.specs.Node.{node}
use Rattle.node_machine.specs.Opening.{Found, TrailFound, found_volume, opening_parts}
use Rattle.node_machine.specs.Parts.{DiscPart, Standing, PartState}
use Rattle.node_machine.specs.Parts.Fact.{Made, Durable, Floor}
use Rattle.node_machine.specs.Monitor.{IsRequest, IsBacked, IsFlushed}
use Rattle.node_machine.specs.Trail.{trail_of, records_of}
use Rattle.node_machine.specs.Same.{Among, is_same_block, is_same_key}
use Rattle.node_machine.specs.Made.{volume_of, blocks_of, home_block, has_released, drawn, holder}
use Rattle.node_machine.specs.Deeds.{IsOn, lock_step, steps_done, values_found}
use Rattle.node_machine.specs.Disc.{IsNoOther, MayTurn}
use Rattle.node_machine.specs.Dump.{copied}

abbrev pub example_trails : List (List ℕ)
example_trails = (65 ∷ []) ∷ []

abbrev pub example_volumes : List Volume
example_volumes = record { name = 36 ∷ 68 ∷ []; trail = 1 } ∷ []

abbrev pub example_files : List FileLine
example_files = record { name = 70 ∷ []; volume = 1; blocks = 1 } ∷ []

abbrev pub config : Config
config = record { trails = example_trails; volumes = example_volumes; files = example_files; cache = 64; car_count = 64; car_holds = 0; roll = 256; steps = 1000 }

-- new devices, where the volume has a sealed dump with this start, or none
abbrev pub found_with : Option ℕ → Found
found_with rest = record {
  config = config;
  epoch = 1;
  places = 1;
  trails = record { present = 1; old = Some [] } ∷ [];
  volumes = Some (record { low = 1; next = 1; rest = rest; base = Some [] }) ∷ [];
}

abbrev pub found : Found
found = found_with None

abbrev pub t : Transid
t = record { epoch = 1; worker = 1; ordinal = 1; attempt = 1 }

abbrev pub change : AuditRecord
change = record { kind = Change; disc = 1; file = 1; tx = t; position = 1; key = 107 ∷ []; before = None; after = Some (118 ∷ []) }

abbrev pub log : List (ℕ × Event)
log =
    (0, OfWorker (Begin t)) ∷ (0, OfWorker (Enlist t 1)) ∷ (16, OfDisc (Write change (Put (118 ∷ [])))) ∷ (0, OfWorker (Finish t)) ∷ (16, OfDisc (Close t))
    ∷ (24, OfTrail (Offer 1 (change ∷ []))) ∷ (24, OfTrail Land) ∷ (0, OfWorker (End t)) ∷ (28, OfMonitor (OfferCar (Commit t ∷ []))) ∷ (28, OfMonitor LandCar) ∷ (16, OfDisc (Release t)) ∷ []

-- the one record of the batch is one that its disc has made
asked : (T : ℕ → ℕ → List AuditRecord → Type 0) → T 1 1 (change ∷ []) → (disc : ℕ) → records_of disc (change ∷ []) ≢ [] → (position : ℕ) × T disc position (records_of disc (change ∷ []))
asked T is disc some = by_case (1 == disc) refl some where
  by_case : (b : Bool) → (1 == disc) ≡ b → cond b (change ∷ []) [] ≢ [] → (position : ℕ) × T disc position (cond b (change ∷ []) [])
  by_case true e some = (1, subst (λ (n : ℕ). T n 1 (change ∷ [])) (eqb-true 1 disc e) is)
  by_case false e some = absurd (some refl)

-- the one disc of the transaction
one_disc : (P : ℕ → Type 0) → P 1 → (disc : ℕ) → Among (1 ∷ []) disc → P disc
one_disc P is disc among = ⊎_elim (λ (e : 1 ≡ disc). subst P e is) (λ e. absurd e) among

one_record : (P : MonitorRecord → Type 0) → P (Commit t) → (x : MonitorRecord) → Among (Commit t ∷ []) x → P x
one_record P is x among = ⊎_elim (λ (e : Commit t ≡ x). subst P e is) (λ e. absurd e) among

-- the parts after so many events
abbrev pub after : Option ℕ → ℕ → List PartState
after rest count = states_after node (opening_parts (found_with rest)) (take count log)

pub example_with : (rest : Option ℕ) → IsHistory node (opening_parts (found_with rest)) log
example_with rest = (
  (_, refl, record { is_own = record { worker = refl; epoch = refl }; later = λ u e. absurd (cc (e)); decided = λ u e. absurd (cc (e)) }, tt),
  (
    (_, refl, record { is_open = record { is_own = record { worker = refl; epoch = refl }; begun = refl; undecided = refl }; unfinished = refl; is_new = refl }, tt),
    (
      (
        _,
        refl,
        record {
          takes = record { here = refl; acts = record { unclosed = refl; nothing_undone = refl; unreleased = refl }; free = inl refl };
          op_changes = tt;
          kind = refl;
          disc = refl;
          position = refl;
          told = record { before = refl; after = refl; room = inr ([], omega arith, λ other home takes. ⊎_elim (λ e. absurd (cc (e))) (λ e. absurd (cc (e))) takes) };
        },
        (0, _, refl, (record { worker = refl; epoch = refl }, inl refl)),
      ),
      (
        (_, refl, record { is_open = record { is_own = record { worker = refl; epoch = refl }; begun = refl; undecided = refl }; unfinished = refl }, tt),
        (
          (_, refl, record { unclosed = refl; nothing_undone = refl; unreleased = refl }, ((0, _, refl, (record { worker = refl; epoch = refl }, inl refl)), (0, _, refl, (record { worker = refl; epoch = refl }, refl)))),
          (
            (
              _,
              refl,
              record {
                idle = refl;
                some = omega arith;
                few = omega arith;
                own = λ r is. ⊎_elim (λ (e : change ≡ r). subst (λ (x : AuditRecord). trail_of config x.disc ≡ 1) e refl) (λ e. absurd e) is;
                behind = omega arith;
              },
              asked (λ d n rs. IsTrueIn node (after rest 5) (Made d n rs)) (16, _, refl, (refl, omega arith, omega arith, refl)),
            ),
            (
              (_, refl, (λ e. absurd (cc (e))), tt),
              (
                (_, refl, record { is_open = record { is_own = record { worker = refl; epoch = refl }; begun = refl; undecided = refl }; finished = refl }, tt),
                (
                  (
                    _,
                    refl,
                    record {
                      idle = refl;
                      some = omega arith;
                      few = omega arith;
                      requests = one_record (λ x. IsRequest 1 x) refl;
                      later = ((λ y e. absurd e), tt);
                    },
                    one_record (λ x. IsBacked (λ f. IsTrueIn node (after rest 8) f) x) (
                      1 ∷ [],
                      (0, _, refl, (record { worker = refl; epoch = refl }, refl, refl)),
                      one_disc (λ d. IsFlushed (λ f. IsTrueIn node (after rest 8) f) t d)
                          (1, (16, _, refl, (refl, refl, refl)), (24, _, refl, (refl, inr (record { item = change; is_landed = inl refl; of_disc = refl; reaches = omega arith })))),
                    ),
                  ),
                  (
                    (_, refl, (λ e. absurd (cc (e))), tt),
                    (
                      (_, refl, refl, inl (2, (28, _, refl, record { index = 0; place_is = refl; at = refl }))),
                      tt,
                    ),
                  ),
                ),
              ),
            ),
          ),
        ),
      ),
    ),
  ),
)

pub example : IsHistory node (opening_parts found) log
example = example_with None

-- THEN ITS BLOCK IS WRITTEN, THE LOW POSITION FOLLOWS, AND A DUMP IS MADE, AFTER WHICH THE TRAIL IS PURGED

abbrev pub more : List (ℕ × Event)
more =
    (16, OfDisc (Draw 1 0 1)) ∷ (16, OfDisc (Drawn 1 0)) ∷ (16, OfDisc (Low 2 (ByDisc 1))) ∷ (16, OfDisc Lowered) ∷ (16, OfDisc (StartDump 1 2 t))
    ∷ (29, OfDump (Copy 1 1 0 1)) ∷ (29, OfDump (Seal 1 2)) ∷ (29, OfDump (Sealed 1 true)) ∷ (16, OfDisc (Raise 1 (Some 2))) ∷ (24, OfTrail (Purge 2 2)) ∷ []

abbrev pub later_parts : ℕ → List PartState
later_parts count = states_after node (states_after node (opening_parts found) log) (take count more)

pub one_change : (P : AuditRecord → Type 0) → P change → (r : AuditRecord) → Among (change ∷ []) r → P r
one_change P is r among = ⊎_elim (λ (e : change ≡ r). subst P e is) (λ e. absurd e) among

-- what the disc has done when its block is on the volume
abbrev pub written_then : List DiscEvent
written_then = Drawn 1 0 ∷ Draw 1 0 1 ∷ Release t ∷ Close t ∷ Write change (Put (118 ∷ [])) ∷ []

abbrev pub one : Option ℕ
one = Some 1

-- nothing is being written
pub none_drawn : (file block : ℕ) → (if is_same_block file block 1 0 then None else (if is_same_block file block 1 0 then one else None)) ≡ None
none_drawn file block = by_case (is_same_block file block 1 0) where
  by_case : (b : Bool) → (if b then None else (if b then one else None)) ≡ None
  by_case true = refl
  by_case false = refl

-- the one block of the volume
one_block : (P : ℕ → ℕ → Type 0) → P 1 0 → (file block : ℕ) → volume_of config file ≡ 1 → block < blocks_of config file → P file block
one_block P is zero block on lt = absurd (cc (on))
one_block P is (suc zero) zero on lt = is
one_block P is (suc zero) (suc n) on lt = absurd (omega (arith, lt))
one_block P is (suc (suc n)) block on lt = absurd (cc (on))

pub copied_one : (P : ℕ → Type 0) → P 1 → (file block position : ℕ) → (if is_same_block file block 1 0 then one else None) ≡ Some position → P position
copied_one P is file block position at = by_case (is_same_block file block 1 0) at where
  by_case : (b : Bool) → (if b then one else None) ≡ Some position → P position
  by_case true at = (let e : 1 ≡ position = cc (at) in subst P e is)
  by_case false at = absurd (cc (at))

pub goes_on : IsHistory node (states_after node (opening_parts found) log) more
goes_on = (
  (
    _,
    refl,
    record {
      here = refl;
      idle = refl;
      last = change;
      is_made = inl refl;
      in_block = refl;
      at = refl;
      none_behind = λ r among in_it. one_change (λ x. x.position ≤ 1) (omega arith) r among;
      rises = omega arith;
    },
    (24, _, refl, (refl, inr (record { item = change; is_landed = inl refl; of_disc = refl; reaches = omega arith }))),
  ),
  (
    (_, refl, refl, tt),
    (
      (
        _,
        refl,
        record {
          greatest = record {
            quiet = record { reached = omega arith; released = λ r among lt. one_change (λ x. has_released (Release t ∷ []) x.tx ≡ true) refl r among; undone = λ r other among lt undone. absurd (cc (undone)) };
            greatest = λ other quiet. quiet.reached;
          };
          rises = omega arith;
          written = λ r among lt. one_change (λ x. x.position ≤ drawn 0 written_then x.file (home_block config x.file x.key)) (omega arith) r among;
          idle = none_drawn;
          still = refl;
        },
        (24, _, refl, (refl, inr (record { item = change; is_landed = inl refl; of_disc = refl; reaches = omega arith }))),
      ),
      (
        (_, refl, refl, tt),
        (
          (
            _,
            refl,
            record {
              next = refl;
              alone = refl;
              greatest = record {
                quiet = record { reached = omega arith; released = λ r among lt. one_change (λ x. has_released (Release t ∷ []) x.tx ≡ true) refl r among; undone = λ r other among lt undone. absurd (cc (undone)) };
                greatest = λ other quiet. quiet.reached;
              };
              low = omega arith;
            },
            tt,
          ),
          (
            (
              _,
              refl,
              record { ongoing = λ count among. among; block_is = record { here = refl; within = omega arith }; is_new = refl; certain = tt },
              (2, (16, _, refl, (refl, inl refl)), omega arith, (change ∷ [], (16, _, refl, (refl, omega arith, omega arith, refl)))),
            ),
            (
              (
                _,
                refl,
                record {
                  ongoing = λ count among. among;
                  idle = refl;
                  whole = λ file block is. one_block (λ f b. IsSome (copied (Copy 1 1 0 1 ∷ []) 1 f b)) refl file block is.here is.within;
                  rises = λ label e. absurd (cc (e));
                },
                ((16, _, refl, (refl, inl refl)), (24, _, refl, (refl, inr (record { item = change; is_landed = inl refl; of_disc = refl; reaches = omega arith }))), λ file block position at. copied_one (λ n. IsTrueIn node (later_parts 6) (Durable 1 n)) (24, _, refl, (refl, inr (record { item = change; is_landed = inl refl; of_disc = refl; reaches = omega arith }))) file block position at),
              ),
              (
                (_, refl, (record { number = 1; start = 2 }, refl, refl), (2, (16, _, refl, (refl, inl refl)))),
                (
                  (_, refl, record { dump = record { number = 1; start = 2 }; way = refl; is_it = refl; rests = refl }, (29, _, refl, (refl, ((1, inl refl), omega arith)))),
                  (
                    (
                      _,
                      refl,
                      record { front = omega arith; rises = omega arith },
                      λ x below. ⊎_elim
                          (λ e. absurd e)
                          (λ k. ⊎_elim
                          (λ l. ⊎_elim
                          (λ (e : record { file = 1; item = change } ≡ x). subst (λ (y : Standing). (bound : ℕ) × IsTrueIn node (later_parts 9) (Floor y.item.disc bound) × (y.item.position < bound)) e
                          (2, (16, _, refl, (refl, record { low = omega arith; lowering_ = tt; rest = omega arith; way = tt })), omega arith))
                          (λ e. absurd e) l)
                          (λ e. absurd e) k)
                          below.0,
                    ),
                    tt,
                  ),
                ),
              ),
            ),
          ),
        ),
      ),
    ),
  ),
)

-- OR IT IS BACKED OUT

abbrev pub taken_back : AuditRecord
taken_back = record { kind = UndoKind; disc = 1; file = 1; tx = t; position = 2; key = 107 ∷ []; before = Some (118 ∷ []); after = None }

abbrev pub other_log : List (ℕ × Event)
other_log =
    (0, OfWorker (Begin t)) ∷ (0, OfWorker (Enlist t 1)) ∷ (16, OfDisc (Write change (Put (118 ∷ [])))) ∷ (16, OfDisc (Read t 1 (107 ∷ []) (Some (118 ∷ [])))) ∷ (16, OfDisc (Lock t 1))
    ∷ (0, OfWorker (Quit t)) ∷ (16, OfDisc (Undo taken_back)) ∷ (16, OfDisc (Release t)) ∷ (28, OfMonitor (OfferCar (Abort t ∷ []))) ∷ (28, OfMonitor LandCar) ∷ []

one_abort : (P : MonitorRecord → Type 0) → P (Abort t) → (x : MonitorRecord) → Among (Abort t ∷ []) x → P x
one_abort P is x among = ⊎_elim (λ (e : Abort t ≡ x). subst P e is) (λ e. absurd e) among

-- each key is held by the one attempt or by none
its_own : (key : List ℕ) → IsNoOther (holder (Read t 1 (107 ∷ []) (Some (118 ∷ [])) ∷ Write change (Put (118 ∷ [])) ∷ []) 1 key) t
its_own key = by_case (is_same_key 1 key 1 (107 ∷ [])) where
  by_case : (b : Bool) → IsNoOther (if b then Some t else (if b then Some t else None)) t
  by_case true = inr refl
  by_case false = inl refl

pub backed_out : IsHistory node (opening_parts found) other_log
backed_out = (
  (_, refl, record { is_own = record { worker = refl; epoch = refl }; later = λ u e. absurd (cc (e)); decided = λ u e. absurd (cc (e)) }, tt),
  (
    (_, refl, record { is_open = record { is_own = record { worker = refl; epoch = refl }; begun = refl; undecided = refl }; unfinished = refl; is_new = refl }, tt),
    (
      (
        _,
        refl,
        record {
          takes = record { here = refl; acts = record { unclosed = refl; nothing_undone = refl; unreleased = refl }; free = inl refl };
          op_changes = tt;
          kind = refl;
          disc = refl;
          position = refl;
          told = record { before = refl; after = refl; room = inr ([], omega arith, λ other home takes. ⊎_elim (λ e. absurd (cc (e))) (λ e. absurd (cc (e))) takes) };
        },
        (0, _, refl, (record { worker = refl; epoch = refl }, inl refl)),
      ),
      (
        (
          _,
          refl,
          record {
            takes = record { here = refl; acts = record { unclosed = refl; nothing_undone = refl; unreleased = refl }; free = inr refl };
            told = refl;
          },
          (0, _, refl, (record { worker = refl; epoch = refl }, inl refl)),
        ),
        (
          (_, refl, record { here = refl; acts = record { unclosed = refl; nothing_undone = refl; unreleased = refl }; free = inl refl; keys_free = its_own }, (0, _, refl, (record { worker = refl; epoch = refl }, inl refl))),
          (
            (_, refl, record { is_own = record { worker = refl; epoch = refl }; begun = refl; undecided = refl }, tt),
            (
              (
                _,
                refl,
                record { change = change; others = []; newest = refl; file = refl; key = refl; after = refl; kind = refl; disc = refl; position = refl; told = refl },
                (1 ∷ [], (0, _, refl, (record { worker = refl; epoch = refl }, refl, refl))),
              ),
              (
                (_, refl, refl, inr ((1 ∷ [], (0, _, refl, (record { worker = refl; epoch = refl }, refl, refl))), refl)),
                (
                  (
                    _,
                    refl,
                    record {
                      idle = refl;
                      some = omega arith;
                      few = omega arith;
                      requests = one_abort (λ x. IsRequest 1 x) refl;
                      later = ((λ y e. absurd e), tt);
                    },
                    one_abort (λ x. IsBacked (λ f. IsTrueIn node (states_after node (opening_parts found) (take 8 other_log)) f) x) (1 ∷ [], (0, _, refl, (record { worker = refl; epoch = refl }, refl, refl))),
                  ),
                  (
                    (_, refl, (λ e. absurd (cc (e))), tt),
                    tt,
                  ),
                ),
              ),
            ),
          ),
        ),
      ),
    ),
  ),
)

-- OR ITS STEPS ARE TURNED AWAY

-- an attempt of another worker
abbrev pub other : Transid
other = record { epoch = 1; worker = 2; ordinal = 1; attempt = 1 }

abbrev same_key : Step
same_key = record { file = 1; key = 107 ∷ []; op = Del }

abbrev no_such_key : Step
no_such_key = record { file = 1; key = 120 ∷ []; op = Del }

abbrev pub turns : List (ℕ × Event)
turns =
    (1, OfWorker (Begin other)) ∷ (1, OfWorker (Enlist other 1)) ∷ (16, OfDisc (Turn other (Busy same_key t))) ∷ (16, OfDisc (Turn other (BusyFile 1 t)))
    ∷ (16, OfDisc (Turn t (Refused no_such_key Missing))) ∷ (24, OfTrail (TrailFailed (Attempt t))) ∷ []

-- a step on a key is turned away, the lock of the key's file is, one is refused, and a device fails
pub turned_away : IsHistory node (states_after node (opening_parts found) (take 3 log)) turns
turned_away = (
  (_, refl, record { is_own = record { worker = refl; epoch = refl }; later = λ u e. absurd (cc (e)); decided = λ u e. absurd (cc (e)) }, tt),
  (
    (_, refl, record { is_open = record { is_own = record { worker = refl; epoch = refl }; begun = refl; undecided = refl }; unfinished = refl; is_new = refl }, tt),
    (
      (_, refl, (refl, record { differs = refl }, refl, refl), tt),
      (
        (_, refl, (refl, record { differs = refl }, inr (107 ∷ [], refl)), tt),
        (
          (
            _,
            refl,
            (record { here = refl; acts = record { unclosed = refl; nothing_undone = refl; unreleased = refl }; free = inl refl }, refl),
            (0, _, refl, (record { worker = refl; epoch = refl }, inl refl)),
          ),
          ((_, refl, tt, tt), tt),
        ),
      ),
    ),
  ),
)

-- a step that locks a file is never turned away as one on a key
pub no_key_of_a_lock : (s : DiscPart) (u h : Transid) (file : ℕ) → MayTurn s u (Busy (lock_step file) h) → ⊥
no_key_of_a_lock s u h file may = (let both : true ≡ false = may.3 in absurd (cc (both)))

-- the turn of a lock is on its step
pub turn_of_lock : IsOn (lock_step 1) (BusyFile 1 t)
turn_of_lock = refl

-- WHAT THE ATTEMPT THAT IS BACKED OUT HAS CARRIED OUT: A PUT, A READ AND THE LOCK OF THEIR FILE, WHICH YIELDS NO VALUE

pub three_done : steps_done t other_log ≡ record { file = 1; key = 107 ∷ []; op = Put (118 ∷ []) } ∷ record { file = 1; key = 107 ∷ []; op = ReadOp } ∷ lock_step 1 ∷ []
three_done = refl

pub one_found : values_found t other_log ≡ Some (118 ∷ []) ∷ []
one_found = refl

-- the lock makes of no key anything else
pub lock_keeps : (values : RecordMap) (file : ℕ) (key : List ℕ) → after_deeds (deeds_of t other_log) values file key ≡ with_value 1 (107 ∷ []) (Some (118 ∷ [])) values file key
lock_keeps values file key = refl

-- AND SUCH A RUN OPENS ON NEW DEVICES

one_name : (a : List ℕ) → HasDistinctNames (a ∷ [])
unfolding IsDistinct
one_name a = (tt, tt)

valid : IsValidConfig config
valid = record {
  trails = record {
    few = omega arith;
    named = All-from_recursion (λ name. IsTrue (is_file_name name)) example_trails (refl, tt);
    distinct = one_name (65 ∷ []);
    no_monitor = All-from_recursion (λ name. name ≢ monitor_name) example_trails ((λ e. absurd (cc (e))), tt);
  };
  volumes = record {
    few = omega arith;
    named = All-from_recursion (λ volume. IsTrue (is_volume_name volume.name)) example_volumes (refl, tt);
    distinct = one_name (36 ∷ 68 ∷ []);
    declared = All-from_recursion (λ volume. IsDeclared example_trails volume.trail) example_volumes (record { above = omega arith; below = omega arith }, tt);
  };
  files = record {
    few = omega arith;
    named = All-from_recursion (λ file. IsTrue (is_file_name file.name)) example_files (refl, tt);
    distinct = one_name (70 ∷ []);
    declared = All-from_recursion (λ file. IsDeclared example_volumes file.volume) example_files (record { above = omega arith; below = omega arith }, tt);
    blocks = All-from_recursion (λ file. IsWithin 1 256 file.blocks) example_files (record { above = omega arith; below = omega arith }, tt);
  };
  cache = record { above = omega arith; below = omega arith };
  car_count = record { above = omega arith; below = omega arith };
  car_holds = omega arith;
  roll = record { above = omega arith; below = omega arith };
  steps = record { above = omega arith; below = omega arith };
}

abbrev pub bases : ℕ → Option Base
bases number = Some (record { records = empty_map; position = 1 })

abbrev pub dumps : ℕ → Option Base
dumps number = None

empty_room : (file : FileLine) (number : ℕ) → HasRoom file (empty_map number)
empty_room file number block [] distinct have = omega arith
empty_room file number block (key ∷ keys) distinct have = (let no = (have 0 key (omega arith)).1 in absurd (cc (no)))

-- where the monitor trail spells the start of the run, and the trail nothing
pub opens : (rules : ℕ → Rules) (images : ℕ → Held) → Spells monitor_format (images 0) (StartRecord 1 ∷ []) → Spells (audit_format (rules 1)) (images 1) [] → IsOpening rules images bases dumps (StartRecord 1 ∷ []) empty_map found
opens rules images monitor audit = record {
  stands = record {
    monitor_spelled = monitor;
    audit = λ trail. [];
    audit_spelled = spelled;
    epochs = λ trail some le k d lt. absurd (omega (arith, lt));
    room = λ number file is. empty_room file number;
    volumes = λ disc volume is. record {
      base_values = λ number file key is_file on. refl;
      dump_values = tt;
      base_kept = (omega arith, λ position le lt. absurd (omega (arith, le, lt)));
      dump_kept = tt;
    };
  };
  valid = valid;
  begun = ([], refl);
  own = λ number some most r among. absurd among;
  unused = λ number some most k d lt. absurd (omega (arith, lt));
  places = refl;
  trails = each_trail;
  volumes = each_volume;
  few_trails = omega arith;
  no_more = none_more;
} where
  spelled : (trail : ℕ) → 1 ≤ trail → trail ≤ 1 → Spells (audit_format (rules trail)) (images trail) []
  spelled trail some most = (let e : 1 ≡ trail = omega (arith, some, most) in subst (λ (n : ℕ). Spells (audit_format (rules n)) (images n) []) e audit)

  each_trail : (number : ℕ) → 1 ≤ number → number ≤ 1 → (x : TrailFound) × (numbered found.trails number ≡ Some x) × IsFoundTrail x []
  each_trail zero some most = absurd (omega (arith, some))
  each_trail (suc zero) some most = (_, refl, record { old = []; told = refl; items = refl; in_order = omega arith })
  each_trail (suc (suc n)) some most = absurd (omega (arith, most))

  each_volume : (number : ℕ) (volume : Volume) → IsNumber example_volumes number volume → IsFoundVolume config number [] (found_volume found number) (bases number) (dumps number)
  each_volume zero volume is = (let some = is.0 in absurd (omega (arith, some)))
  each_volume (suc zero) volume is = (([], refl, λ file key on. refl), refl, refl, refl, omega arith, refl)
  each_volume (suc (suc n)) volume is = (let e : suc (suc n) - 1 ≡ suc n = omega arith in let no : None ≡ Some volume = subst (λ (k : ℕ). slice_get example_volumes k ≡ Some volume) e is.1 in absurd (cc (no)))

  none_more : (number : ℕ) → 1 < number → found_volume found number ≡ None
  none_more zero lt = absurd (omega (arith, lt))
  none_more (suc zero) lt = absurd (omega (arith, lt))
  none_more (suc (suc n)) lt = refl
