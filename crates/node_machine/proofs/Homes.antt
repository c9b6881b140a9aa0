-- A node whose two files have different homes: each is changed and written at its own disc and block, and nowhere else.
use Rattle.std.specs.Prelude.{◌≡◌, ◌≢◌, ℕ, ◌==◌, ◌≤◌, Bool, true, false, cond, List, [], ◌∷◌, ◌++◌, take, drop, Some, None}
use Rattle.std.proofs.Common.{refl, sym, subst, arith, eqb-true, ⊎_elim, inl, inr}
use Rattle.chronicle.specs.Histories.{IsHistory, IsTrueIn, states_after}
use Rattle.chronicle.proofs.States.{history_front}
use Rattle.tmf_model.specs.declared.config.Config.{Config}
use Rattle.tmf_model.specs.declared.config.FileLine.{FileLine}
use Rattle.tmf_model.specs.declared.config.Volume.{Volume}
use Rattle.tmf_model.specs.declared.script.Op.TheVariants.{Put}
use Rattle.trail_files.specs.declared.audit_record.AuditKind.TheVariants.{Change}
use Rattle.trail_files.specs.declared.audit_record.AuditRecord.{AuditRecord}
use Rattle.node_machine.specs.declared.event.DiscEvent.TheVariants.{Write, Draw, Drawn}
use Rattle.node_machine.specs.declared.event.Event.{Event}
use Rattle.node_machine.specs.declared.event.Event.TheVariants.{OfWorker, OfDisc, OfTrail}
use Rattle.node_machine.specs.declared.event.TrailEvent.TheVariants.{Offer, Land}
use Rattle.node_machine.specs.declared.event.WorkerEvent.TheVariants.{Begin, Enlist}
use Rattle.node_machine.specs.Made.{is_in_block}
use Rattle.node_machine.specs.Node.{node}
use Rattle.node_machine.specs.Opening.{Found, opening_parts}
use Rattle.node_machine.specs.Parts.{PartState}
use Rattle.node_machine.specs.Parts.Fact.{Made}
use Rattle.node_machine.specs.Same.{Among}
use Rattle.node_machine.specs.Trail.{records_of, trail_of}
use Rattle.node_machine.proofs.Example.{change, example_trails, t}
use Rattle.node_machine.proofs.Refused.{IsRefusedAfter, in_state}

abbrev two_volumes : List Volume
two_volumes = record { name = 36 ∷ 68 ∷ []; trail = 1 } ∷ record { name = 36 ∷ 69 ∷ []; trail = 1 } ∷ []

-- the second file is on the second volume, in two blocks
abbrev two_files : List FileLine
two_files = record { name = 70 ∷ []; volume = 1; blocks = 1 } ∷ record { name = 71 ∷ []; volume = 2; blocks = 2 } ∷ []

abbrev homes : Config
homes = record { trails = example_trails; volumes = two_volumes; files = two_files; cache = 64; car_count = 64; car_holds = 0; roll = 256; steps = 1000 }

abbrev new_homes : Found
new_homes = record {
  config = homes;
  epoch = 1;
  places = 1;
  trails = record { present = 1; old = Some [] } ∷ [];
  volumes = Some (record { low = 1; next = 1; rest = None; base = Some [] }) ∷ Some (record { low = 1; next = 1; rest = None; base = Some [] }) ∷ [];
}

-- a change of the second file, in its block 1
abbrev second : AuditRecord
second = record { kind = Change; disc = 2; file = 2; tx = t; position = 1; key = 107 ∷ []; before = None; after = Some (118 ∷ []) }

abbrev both : List AuditRecord
both = change ∷ second ∷ []

abbrev at_home : List (ℕ × Event)
at_home =
    (0, OfWorker (Begin t)) ∷ (0, OfWorker (Enlist t 1)) ∷ (0, OfWorker (Enlist t 2)) ∷ (16, OfDisc (Write change (Put (118 ∷ [])))) ∷ (17, OfDisc (Write second (Put (118 ∷ []))))
    ∷ (24, OfTrail (Offer 1 both)) ∷ (24, OfTrail Land) ∷ (16, OfDisc (Draw 1 0 1)) ∷ (17, OfDisc (Draw 2 1 1)) ∷ (17, OfDisc (Drawn 2 1)) ∷ []

-- the parts after so many events
abbrev parts_at : ℕ → List PartState
parts_at count = states_after node (opening_parts new_homes) (take count at_home)

only : (x : AuditRecord) (P : AuditRecord → Type 0) → P x → (r : AuditRecord) → Among (x ∷ []) r → P r
only x P is r among = ⊎_elim (λ (e : x ≡ r). subst P e is) (λ e. absurd e) among

either : (P : AuditRecord → Type 0) → P change → P second → (r : AuditRecord) → Among both r → P r
either P one two r among = ⊎_elim (λ (e : change ≡ r). subst P e one) (λ more. only second P two r more) among

-- the records of the batch are those that their two discs have made
of_each : (T : ℕ → ℕ → List AuditRecord → Type 0) → T 1 1 (change ∷ []) → T 2 1 (second ∷ []) → (disc : ℕ) → records_of disc both ≢ [] → (position : ℕ) × T disc position (records_of disc both)
of_each T one two disc some = by_case (1 == disc) (2 == disc) refl refl some where
  by_case : (b c : Bool) → (1 == disc) ≡ b → (2 == disc) ≡ c → cond b (change ∷ cond c (second ∷ []) []) (cond c (second ∷ []) []) ≢ []
      → (position : ℕ) × T disc position (cond b (change ∷ cond c (second ∷ []) []) (cond c (second ∷ []) []))
  by_case true true e f is = (let first = eqb-true 1 disc e in let other = eqb-true 2 disc f in absurd (omega (arith, first, other)))
  by_case true false e f is = (1, subst (λ (n : ℕ). T n 1 (change ∷ [])) (eqb-true 1 disc e) one)
  by_case false true e f is = (1, subst (λ (n : ℕ). T n 1 (second ∷ [])) (eqb-true 2 disc f) two)
  by_case false false e f is = absurd (is refl)

pub stays_at_home : IsHistory node (opening_parts new_homes) at_home
stays_at_home = (
  (_, refl, record { is_own = record { worker = refl; epoch = refl }; later = λ u e. absurd (cc (e)); decided = λ u e. absurd (cc (e)) }, tt),
  (
    (_, refl, record { is_open = record { is_own = record { worker = refl; epoch = refl }; begun = refl; undecided = refl }; unfinished = refl; is_new = refl }, tt),
    (
      (_, refl, record { is_open = record { is_own = record { worker = refl; epoch = refl }; begun = refl; undecided = refl }; unfinished = refl; is_new = refl }, tt),
      (
        (
          _,
          refl,
          record {
            takes = record { here = refl; acts = record { unclosed = refl; nothing_undone = refl; unreleased = refl }; free = inl refl };
            op_changes = tt;
            kind = refl;
            disc = refl;
            position = refl;
            told = record { before = refl; after = refl; room = inr ([], omega arith, λ other home takes. ⊎_elim (λ e. absurd (cc (e))) (λ e. absurd (cc (e))) takes) };
          },
          (0, _, refl, (record { worker = refl; epoch = refl }, inl refl)),
        ),
        (
          (
            _,
            refl,
            record {
              takes = record { here = refl; acts = record { unclosed = refl; nothing_undone = refl; unreleased = refl }; free = inl refl };
              op_changes = tt;
              kind = refl;
              disc = refl;
              position = refl;
              told = record { before = refl; after = refl; room = inr ([], omega arith, λ other home takes. ⊎_elim (λ e. absurd (cc (e))) (λ e. absurd (cc (e))) takes) };
            },
            (0, _, refl, (record { worker = refl; epoch = refl }, inr (inl refl))),
          ),
          (
            (
              _,
              refl,
              record {
                idle = refl;
                some = omega arith;
                few = omega arith;
                own = λ r is. either (λ x. trail_of homes x.disc ≡ 1) refl refl r is;
                behind = omega arith;
              },
              of_each (λ d n rs. IsTrueIn node (parts_at 5) (Made d n rs)) (16, _, refl, (refl, omega arith, omega arith, refl)) (17, _, refl, (refl, omega arith, omega arith, refl)),
            ),
            (
              (_, refl, (λ e. absurd (cc (e))), tt),
              (
                (
                  _,
                  refl,
                  record {
                    here = refl;
                    idle = refl;
                    last = change;
                    is_made = inl refl;
                    in_block = refl;
                    at = refl;
                    none_behind = λ r among in_it. only change (λ x. x.position ≤ 1) (omega arith) r among;
                    rises = omega arith;
                  },
                  (24, _, refl, (refl, inr (record { item = change; is_landed = inl refl; of_disc = refl; reaches = omega arith }))),
                ),
                (
                  (
                    _,
                    refl,
                    record {
                      here = refl;
                      idle = refl;
                      last = second;
                      is_made = inl refl;
                      in_block = refl;
                      at = refl;
                      none_behind = λ r among in_it. only second (λ x. x.position ≤ 1) (omega arith) r among;
                      rises = omega arith;
                    },
                    (24, _, refl, (refl, inr (record { item = second; is_landed = inr (inl refl); of_disc = refl; reaches = omega arith }))),
                  ),
                  ((_, refl, refl, tt), tt),
                ),
              ),
            ),
          ),
        ),
      ),
    ),
  ),
)

-- a front of it
front_of : (count : ℕ) → take count at_home ++ drop count at_home ≡ at_home → IsHistory node (opening_parts new_homes) (take count at_home)
front_of count cut = history_front node (opening_parts new_homes) (take count at_home) (drop count at_home) (subst (λ (xs : List (ℕ × Event)). IsHistory node (opening_parts new_homes) xs) (sym cut) stays_at_home)

-- as the second one, at the disc of the first file
abbrev misplaced : AuditRecord
misplaced = record { kind = Change; disc = 1; file = 2; tx = t; position = 1; key = 107 ∷ []; before = None; after = Some (118 ∷ []) }

-- a file is changed at a disc that is not its own
pub changed_elsewhere : IsRefusedAfter new_homes (take 3 at_home) (16, OfDisc (Write misplaced (Put (118 ∷ []))))
changed_elsewhere = record {
  lawful = front_of 3 refl;
  refused = in_state (parts_at 3) (16, OfDisc (Write misplaced (Put (118 ∷ [])))) refl (λ may asked. (let here : 2 ≡ 1 = may.takes.here in absurd (omega (arith, here))));
}

-- a block is written behind a record of another block of its file
pub drawn_elsewhere : IsRefusedAfter new_homes (take 7 at_home) (17, OfDisc (Draw 2 0 1))
drawn_elsewhere = record {
  lawful = front_of 7 refl;
  refused = in_state (parts_at 7) (17, OfDisc (Draw 2 0 1)) refl (λ may asked. only second (λ r. is_in_block homes 2 0 r ≡ true → ⊥) (λ e. absurd (cc (e))) may.last may.is_made may.in_block);
}
