-- A disc may hand its pending records in, and all its records are durable once they have landed.
use Rattle.std.proofs.Common.{◌≡◌, Option, ◌≢◌, inl, inr, ℕ, ◌+◌, ◌-◌, ◌≤◌, Bool, true, false, List, [], ◌∷◌, ◌++◌, length, nat_le, cond, refl, ap, sym, ◌∙◌, subst, arith, length-append}
use Rattle.disk_model.specs.declared.disk.Disk as disk
use Rattle.chronicle.specs.Seats.{Sight, Knows}
use Rattle.chronicle.proofs.Facts.{known_of_part}
use Rattle.tmf_model.specs.declared.config.Config.{Config}
use Rattle.trail_files.specs.declared.audit_record.AuditRecord.{AuditRecord}
use Rattle.trail_files.specs.declared.rules.Rules.{Rules}
use Rattle.node_machine.specs.declared.event.Event.{Event}
use Rattle.node_machine.specs.Made.{made, up_to}
use Rattle.node_machine.specs.Node.{node}
use Rattle.node_machine.specs.Opening.{Found}
use Rattle.node_machine.specs.Parts.{DiscPart, Fact, PartState}
use Rattle.node_machine.specs.Parts.Fact.{Durable, Made}
use Rattle.node_machine.specs.Parts.PartState.{Disc}
use Rattle.node_machine.specs.Same.{Among}
use Rattle.node_machine.specs.Trail.{trail_of}
use Rattle.record_locks.specs.Names.{Entry as LockEntry}
use Rattle.block_cache.specs.Blocks.{View}
use Rattle.audit_writer.specs.Handing.{MayHand, disc_of, last_of}
use Rattle.audit_writer.specs.Writer.{AreFrom}
use Rattle.disc_process.specs.declared.live.LiveTable.{LiveTable}
use Rattle.disc_process.specs.declared.moves.Moves.{Moves}
use Rattle.disc_process.specs.Disc.{IsDisc, next_in, the_disc}

-- the records behind the front go on behind it
rest_from : (p d : ℕ) (xs ys : List AuditRecord) → AreFrom p d (xs ++ ys) → AreFrom (p + length xs) d ys
rest_from p d [] ys h = subst (λ (q : ℕ). AreFrom q d ys) (omega arith) h
rest_from p d (x ∷ xs) ys h = (let is : p + 1 + length xs ≡ p + length (x ∷ xs) = omega arith in subst (λ (q : ℕ). AreFrom q d ys) is (rest_from (p + 1) d xs ys h.2))

last_from : (p d : ℕ) (r : AuditRecord) (rs : List AuditRecord) → AreFrom p d (r ∷ rs) → last_of (r ∷ rs) ≡ p + length rs
last_from p d r [] h = (let at = h.1 in omega (arith, at))
last_from p d r (s ∷ rs) h = (let rest = last_from (p + 1) d s rs h.2 in omega (arith, rest))

disc_from : (p d : ℕ) (rs : List AuditRecord) → rs ≢ [] → AreFrom p d rs → disc_of rs ≡ d
disc_from p d [] some h = absurd (some refl)
disc_from p d (r ∷ rs) some h = h.0

keep_head : (b : Bool) (r : AuditRecord) (xs ys : List AuditRecord) → b ≡ true → xs ≡ ys → cond b (r ∷ xs) xs ≡ r ∷ ys
keep_head true r xs ys e same = ap (λ zs. r ∷ zs) same
keep_head false r xs ys e same = absurd (cc (e))

le_of : (a b : ℕ) → a ≤ b → nat_le a b ≡ true
le_of a b le = grind (arith)

pub all_up_to : (p : ℕ) (xs : List AuditRecord) → ((r : AuditRecord) → Among xs r → r.position ≤ p) → up_to p xs ≡ xs
all_up_to p [] h = refl
all_up_to p (x ∷ xs) h = keep_head (nat_le x.position p) x (up_to p xs) xs (le_of x.position p (h x (inl refl))) (all_up_to p xs (λ r there. h r (inr there)))

module _ {D : Type 0} {kind : disk.Ghosts D} {found : Found} {rules : ℕ → Rules} {faults_of : ℕ → ℕ} {devices : ℕ → Option D} {config : Config} {volume : ℕ} {blocks : View D} {locks : List LockEntry} {live : LiveTable} {pending : List AuditRecord} {next : ℕ} {moves : Moves}
    (opening : List PartState) (v : Sight Event) (i : IsDisc kind opening found rules faults_of devices config volume blocks locks live pending next moves v) where
  abbrev s : DiscPart
  s = the_disc opening v

  abbrev front : List AuditRecord
  front = i.keeps.holds_pending.0

  -- the records of this run begin at the position that was found
  from_first : AreFrom i.is_found.entry.next volume (front ++ pending)
  from_first =
      let first : s.first ≡ i.is_found.entry.next = i.seat.first ∙ ap next_in i.is_found.is in
      subst (λ (x : ℕ × ℕ). AreFrom x.0 x.1 (front ++ pending)) (λ j. (first j, i.seat.number j)) (subst (AreFrom s.first s.number) i.keeps.holds_pending.1 i.keeps.audit)

  count : next ≡ i.is_found.entry.next + (length front + length pending)
  count =
      let first : s.first ≡ i.is_found.entry.next = i.seat.first ∙ ap next_in i.is_found.is in
      let all = ap length i.keeps.holds_pending.1 ∙ length-append front pending in
      let at = i.keeps.position in
      omega (arith, first, all, at)

  some_first : 1 ≤ i.is_found.entry.next
  some_first = (let first : s.first ≡ i.is_found.entry.next = i.seat.first ∙ ap next_in i.is_found.is in let some = i.keeps.draws.first in omega (arith, first, some))

  pub may_hand : pending ≢ [] → MayHand opening found (rules (trail_of config volume)) (trail_of config volume) v (disc_of pending) pending
  may_hand some =
      let disc : disc_of pending ≡ volume = disc_from _ volume pending some (rest_from _ volume front pending from_first) in
      subst (λ (d : ℕ). MayHand opening found (rules (trail_of config volume)) (trail_of config volume) v d pending) (sym disc)
      (record {
        volume = i.is_found.entry;
        volume_is = i.is_found.is;
        own = ap (λ (c : Config). trail_of c volume) i.is_found.config_is;
        number = (let few = i.volume_few in omega (arith, few));
        begins = some_first;
        front = front;
        positions = from_first;
        last = next - 1;
        made = known_of_part node opening v (Disc s) (Made volume (next - 1) (front ++ pending)) i.seat.at (
          i.seat.number,
          (let at = i.keeps.position in omega (arith, at)),
          (let at = i.keeps.position in let first = i.keeps.draws.first in omega (arith, at, first)),
          all_up_to (next - 1) (made s.events) (λ r there. (let lt = i.keeps.below r there in let at = i.keeps.position in omega (arith, lt, at))) ∙ i.keeps.holds_pending.1,
        );
        before = next - 1 - length pending;
        reaches = (let all = count in let some_ = some_first in omega (arith, all, some_));
        durable = i.durable;
        valid = i.records;
        small = (let all = count in let few = i.keeps.few in omega (arith, all, few));
      })

  -- once they have landed, all is durable
  pub all_durable : (w : Sight Event) → ((f : Fact) → Knows node opening v f → Knows node opening w f) → (pending ≢ [] → Knows node opening w (Durable (disc_of pending) (last_of pending)))
      → Knows node opening w (Durable volume (next - 1))
  all_durable w more landed = of pending refl
    where
      of : (rs : List AuditRecord) → pending ≡ rs → Knows node opening w (Durable volume (next - 1))
      of [] e =
          let none = ap length e in
          subst (λ (p : ℕ). Knows node opening w (Durable volume p)) (omega (arith, none)) (more _ i.durable)
      of (r ∷ rs) e =
          let some : pending ≢ [] = λ none. cc (sym e ∙ none) in
          let rest : AreFrom (i.is_found.entry.next + length front) volume (r ∷ rs) = subst (AreFrom (i.is_found.entry.next + length front) volume) e (rest_from _ volume front pending from_first) in
          let last : last_of pending ≡ next - 1 = (let at = ap last_of e ∙ last_from _ volume r rs rest in let all = count in let many = ap length e in omega (arith, at, all, many)) in
          let disc : disc_of pending ≡ volume = ap disc_of e ∙ rest.0 in
          subst (λ (x : ℕ × ℕ). Knows node opening w (Durable x.0 x.1)) (λ j. (disc j, last j)) (landed some)
