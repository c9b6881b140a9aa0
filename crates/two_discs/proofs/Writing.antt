-- A disc that has made changes of one transaction alone may make one more, and hand in what it has made.
use Rattle.std.specs.Prelude.{ℕ, Bool, nat_le, ◌+◌, ◌-◌, ◌<◌, ◌≤◌, ◌^◌, if◌then◌else◌, List, [], ◌∷◌, ◌++◌, length, filter, max, Option, Some, None, Ok}
use Rattle.std.specs.Option.{option_or}
use Rattle.std.proofs.Common.{◌≡◌, ◌≢◌, ◌⊎◌, true, false, inl, inr, refl, ap, sym, ◌∙◌, subst, arith, length-append, append-nil}
use Rattle.std.proofs.lemmas.Bool.{le-leb}
use Rattle.chronicle.specs.Seats.{Sight, HasLearned, Knows, new_seat, part_state}
use Rattle.chronicle.proofs.Facts.{known_of_part}
use Rattle.tmf_model.specs.declared.transid.Transid.{Transid}
use Rattle.trail_files.specs.AuditRecord.{audit_format}
use Rattle.trail_files.specs.Format.{AllValid}
use Rattle.trail_files.specs.AuditFormat.{is_audit_record}
use Rattle.trail_files.specs.declared.audit_record.AuditRecord.{AuditRecord}
use Rattle.trail_files.specs.declared.rules.Rules.{Rules}
use Rattle.node_machine.specs.declared.event.DiscEvent.{DiscEvent}
use Rattle.node_machine.specs.declared.event.DiscEvent.TheVariants.{Write}
use Rattle.node_machine.specs.declared.event.Event.{Event}
use Rattle.node_machine.specs.Disc.{OfValues, IsNoOther, MayAct, MayWrite, IsChange, TellsChange}
use Rattle.tmf_model.specs.declared.script.Op.TheVariants.{Put}
use Rattle.node_machine.specs.Made.{file_holder, has_closed, has_released, has_undone, holder, key_holder, made, up_to, volume_of}
use Rattle.node_machine.specs.Node.{node}
use Rattle.node_machine.specs.Opening.{Found, found_volume, opening_parts}
use Rattle.node_machine.specs.Parts.{DiscPart, Fact, PartState, WorkerPart}
use Rattle.node_machine.specs.Parts.Fact.{Durable, Enlisted, Made}
use Rattle.node_machine.specs.Parts.PartState.{Disc, Trail, Worker}
use Rattle.node_machine.specs.Seats.{CanBegin}
use Rattle.node_machine.specs.Same.{is_same_key}
use Rattle.node_machine.specs.Trail.{trail_of}
use Rattle.atomic_table.specs.Seated.{TableId}
use Rattle.audit_writer.specs.Handing.{MayHand, disc_of, last_of}
use Rattle.audit_writer.specs.Parcels.{AreMadeBehind, Holding, MayPush, holding, start_of}
use Rattle.two_discs.specs.TwoDiscs.{AreChanges, AreValid, IsNextChange, IsOneOfTwo, IsWriting, attempt_of, fresh_volume, two_config, two_found, two_part, two_rules}
use Rattle.audit_writer.specs.Writer.{AreFrom}
use Rattle.audit_writer.proofs.Hand.{from_right}

-- CHANGES OF ONE TRANSACTION

unclosed : (d : ℕ) (es : List DiscEvent) (t : Transid) → AreChanges d es → has_closed es t ≡ false
unclosed d [] t h = refl
unclosed d (Write r op ∷ es) t h = unclosed d es t h.1
unclosed d (_ ∷ es) t h = absurd h

not_undone : (d : ℕ) (es : List DiscEvent) (t : Transid) → AreChanges d es → has_undone es t ≡ false
not_undone d [] t h = refl
not_undone d (Write r op ∷ es) t h = not_undone d es t h.1
not_undone d (_ ∷ es) t h = absurd h

unreleased : (d : ℕ) (es : List DiscEvent) (t : Transid) → AreChanges d es → has_released es t ≡ false
unreleased d [] t h = refl
unreleased d (Write r op ∷ es) t h = unreleased d es t h.1
unreleased d (_ ∷ es) t h = absurd h

no_file_holder : (d : ℕ) (es : List DiscEvent) (file : ℕ) → AreChanges d es → file_holder es file ≡ None
no_file_holder d [] file h = refl
no_file_holder d (Write r op ∷ es) file h = no_file_holder d es file h.1
no_file_holder d (_ ∷ es) file h = absurd h

either : (b : Bool) (t x : Transid) (o : Option Transid) → x ≡ t → IsNoOther o t → IsNoOther (if b then Some x else o) t
either true t x o same h = inr (ap (λ (y : Transid). Some y) same)
either false t x o same h = h

free_key : (d : ℕ) (es : List DiscEvent) (file : ℕ) (key : List ℕ) → AreChanges d es → IsNoOther (key_holder es file key) (attempt_of d)
free_key d [] file key h = inl refl
free_key d (Write r op ∷ es) file key h = either (is_same_key file key r.file r.key) (attempt_of d) r.tx (key_holder es file key) h.0 (free_key d es file key h.1)
free_key d (_ ∷ es) file key h = absurd h

free : (d : ℕ) (es : List DiscEvent) (file : ℕ) (key : List ℕ) → AreChanges d es → IsNoOther (holder es file key) (attempt_of d)
free d es file key h = subst (λ (o : Option Transid). IsNoOther (option_or o (key_holder es file key)) (attempt_of d)) (sym (no_file_holder d es file h)) (free_key d es file key h)

-- POSITIONS

from_more : (n d : ℕ) (xs : List AuditRecord) (r : AuditRecord) → AreFrom n d xs → r.disc ≡ d → r.position ≡ n + length xs → AreFrom n d (xs ++ r ∷ [])
from_more n d [] r from disc at = (disc, (omega (arith, at)), tt)
from_more n d (x ∷ xs) r from disc at = (from.0, from.1, from_more (n + 1) d xs r from.2 disc (omega (arith, at)))

all_up_to : (n d : ℕ) (xs : List AuditRecord) (last : ℕ) → AreFrom n d xs → n + length xs ≤ last + 1 → up_to last xs ≡ xs
all_up_to n d [] last from le = refl
all_up_to n d (x ∷ xs) last from le =
    let at = from.1 in
    let low : nat_le x.position last ≡ true = le-leb x.position last (omega (arith, at, le)) in
    ap (λ b. if b then x ∷ up_to last xs else up_to last xs) low ∙ ap (λ (l : List AuditRecord). x ∷ l) (all_up_to (n + 1) d xs last from.2 (omega (arith, le)))

valid_more : (xs : List AuditRecord) (r : AuditRecord) → AreValid xs → is_audit_record two_rules r ≡ true → AreValid (xs ++ r ∷ [])
valid_more [] r h one = (one, tt)
valid_more (x ∷ xs) r h one = (h.0, valid_more xs r h.1 one)

valid_right : (xs ys : List AuditRecord) → AreValid (xs ++ ys) → AllValid (audit_format two_rules) ys
valid_right [] [] h = tt
valid_right [] (y ∷ ys) h = (h.0, valid_right [] ys h.1)
valid_right (x ∷ xs) ys h = valid_right xs ys h.1

disc_is : (n d : ℕ) (xs : List AuditRecord) → xs ≢ [] → AreFrom n d xs → disc_of xs ≡ d
disc_is n d [] some from = absurd (some refl)
disc_is n d (x ∷ xs) some from = from.0

start_is : (n d : ℕ) (xs : List AuditRecord) → xs ≢ [] → AreFrom n d xs → start_of xs ≡ n
start_is n d [] some from = absurd (some refl)
start_is n d (x ∷ xs) some from = from.1

pub last_is : (n d : ℕ) (xs : List AuditRecord) → xs ≢ [] → AreFrom n d xs → last_of xs + 1 ≡ n + length xs
last_is n d [] some from = absurd (some refl)
last_is n d (x ∷ []) some from = (let at = from.1 in omega (arith, at))
last_is n d (x ∷ y ∷ xs) some from = (let rest = last_is (n + 1) d (y ∷ xs) (λ e. absurd (cc (e))) from.2 in omega (arith, rest))

max-zero : (n : ℕ) → max n 0 ≡ n
max-zero n = omega arith

-- THE OPENING

abbrev fresh_disc : ℕ → DiscPart
fresh_disc d = record { config = two_config; number = d; base = None; first = 1; low = 1; rest = None; events = [] }

fresh_at : (d : ℕ) → IsOneOfTwo d → part_state node (opening_parts two_found) (new_seat (15 + d)) ≡ Some (Disc (fresh_disc d))
fresh_at d (inl e) = subst (λ (n : ℕ). part_state node (opening_parts two_found) (new_seat (15 + n)) ≡ Some (Disc (fresh_disc n))) (sym e) refl
fresh_at d (inr e) = subst (λ (n : ℕ). part_state node (opening_parts two_found) (new_seat (15 + n)) ≡ Some (Disc (fresh_disc n))) (sym e) refl

abbrev fresh_worker : ℕ → WorkerPart
fresh_worker d = record { number = d; epoch = 1; events = [] }

worker_at : (d : ℕ) → IsOneOfTwo d → part_state node (opening_parts two_found) (new_seat (d - 1)) ≡ Some (Worker (fresh_worker d))
worker_at d (inl e) = subst (λ (n : ℕ). part_state node (opening_parts two_found) (new_seat (n - 1)) ≡ Some (Worker (fresh_worker n))) (sym e) refl
worker_at d (inr e) = subst (λ (n : ℕ). part_state node (opening_parts two_found) (new_seat (n - 1)) ≡ Some (Worker (fresh_worker n))) (sym e) refl

durable_none : (d p : ℕ) → IsOneOfTwo d → Knows node (opening_parts two_found) (new_seat p) (Durable d 0)
durable_none d p (inl e) = subst (λ (n : ℕ). Knows node (opening_parts two_found) (new_seat p) (Durable n 0)) (sym e) (24, Trail two_part, refl, (refl, inl (omega arith)))
durable_none d p (inr e) = subst (λ (n : ℕ). Knows node (opening_parts two_found) (new_seat p) (Durable n 0)) (sym e) (24, Trail two_part, refl, (refl, inl (omega arith)))

module _ (opening : List PartState) where
  open_at : (d : ℕ) (v : Sight Event) → opening ≡ opening_parts two_found → IsOneOfTwo d → v ≡ new_seat (15 + d) → part_state node opening v ≡ Some (Disc (fresh_disc d))
  open_at d v opens one is = ap (λ o. part_state node o v) opens ∙ ap (λ w. part_state node (opening_parts two_found) w) is ∙ fresh_at d one

  open_durable : (d : ℕ) (v : Sight Event) → opening ≡ opening_parts two_found → IsOneOfTwo d → v ≡ new_seat (15 + d) → Knows node opening v (Durable d 0)
  open_durable d v opens one is = subst (λ o. Knows node o v (Durable d 0)) (sym opens) (subst (λ w. Knows node (opening_parts two_found) w (Durable d 0)) (sym is) (durable_none d (15 + d) one))

  -- the worker with the disc's number may begin its first attempt
  pub can_begin : (d : ℕ) (v : Sight Event) (tx : Transid) → opening ≡ opening_parts two_found → IsOneOfTwo d → v ≡ new_seat (d - 1) → tx ≡ attempt_of d → CanBegin opening v tx
  can_begin d v tx opens one is same = record {
    part = fresh_worker d;
    at = ap (λ o. part_state node o v) opens ∙ ap (λ w. part_state node (opening_parts two_found) w) is ∙ worker_at d one;
    may = record { is_own = record { worker = ap (λ t. t.worker) same; epoch = ap (λ t. t.epoch) same }; later = λ u h. absurd (cc (h)); decided = λ u h. absurd (cc (h)) };
    unfinished = refl;
    undecided = refl;
    alone = refl;
  }

  -- the disc has made nothing yet
  pub writing_none : (d : ℕ) (v w : Sight Event) → opening ≡ opening_parts two_found → IsOneOfTwo d → v ≡ new_seat (15 + d) → HasLearned node opening v w → Knows node opening w (Enlisted (attempt_of d) d) → IsWriting opening d [] w
  writing_none d v w opens one is learned knows = record {
    part = fresh_disc d;
    at = learned.state ∙ open_at d v opens one is;
    config = refl;
    number = refl;
    first = refl;
    base = refl;
    changes = tt;
    made_are = refl;
    from = tt;
    valid = tt;
    enlisted = knows;
    durable = learned.knows (Durable d 0) (open_durable d v opens one is);
  }

  here : (d : ℕ) → IsOneOfTwo d → volume_of two_config d ≡ d
  here d (inl e) = subst (λ (n : ℕ). volume_of two_config n ≡ n) (sym e) refl
  here d (inr e) = subst (λ (n : ℕ). volume_of two_config n ≡ n) (sym e) refl

  -- over values that have this one at each key, the change puts it where it stands
  puts_same : (s : DiscPart) (value : List ℕ) (r : AuditRecord) → r.before ≡ Some value → r.after ≡ Some value → OfValues None s.events (TellsChange s r (Put value))
  puts_same s value r before after = ((λ file key. Some value), record { before = before; after = ap (λ (o : Option (List ℕ)). Ok o) (sym after); room = inl (inl refl) })

  -- the disc may make one more change
  pub may_write : (d n : ℕ) (value : List ℕ) (records : List AuditRecord) (v : Sight Event) (r : AuditRecord) → IsOneOfTwo d → (h : IsWriting opening d records v) → n ≡ length records → IsNextChange d (n + 1) value r
      → MayWrite h.part r (Put value)
  may_write d n value records v r one h many new = record {
    takes = record {
      here = ap (λ c. volume_of c r.file) h.config ∙ ap (λ f. volume_of two_config f) new.file ∙ here d one ∙ sym h.number;
      acts = record { unclosed = unclosed d h.part.events r.tx h.changes; nothing_undone = not_undone d h.part.events r.tx h.changes; unreleased = unreleased d h.part.events r.tx h.changes };
      free = subst (λ t. IsNoOther (holder h.part.events r.file r.key) t) (sym new.tx) (free d h.part.events r.file r.key h.changes);
    };
    op_changes = tt;
    kind = new.kind;
    disc = new.disc_is ∙ sym h.number;
    position = (let at = new.position_is in let first = h.first in let made_are = ap (λ (l : List AuditRecord). length l) h.made_are in omega (arith, at, first, made_are, many));
    told = subst (λ b. OfValues b h.part.events (TellsChange h.part r (Put value))) (sym h.base) (puts_same h.part value r new.before new.after);
  }

  -- the disc has made one more change
  pub writing_more : (d n : ℕ) (value : List ℕ) (records : List AuditRecord) (v w : Sight Event) (r : AuditRecord) → (h : IsWriting opening d records v) → n ≡ length records → IsNextChange d (n + 1) value r
      → part_state node opening w ≡ Some (Disc (record h.part { events = Write r (Put value) ∷ h.part.events })) → ((f : Fact) → Knows node opening v f → Knows node opening w f) → IsWriting opening d (records ++ r ∷ []) w
  writing_more d n value records v w r h many new at knows = record {
    part = record h.part { events = Write r (Put value) ∷ h.part.events };
    at = at;
    config = h.config;
    number = h.number;
    first = h.first;
    base = h.base;
    changes = (new.tx, h.changes);
    made_are = ap (λ (l : List AuditRecord). l ++ r ∷ []) h.made_are;
    from = from_more 1 d records r h.from new.disc_is (let at = new.position_is in omega (arith, at, many));
    valid = valid_more records r h.valid new.valid;
    enlisted = knows (Enlisted (attempt_of d) d) h.enlisted;
    durable = knows (Durable d 0) h.durable;
  }

  -- what the disc's seat has learned changes nothing of what it has made
  pub writing_learned : (d : ℕ) (records : List AuditRecord) (v w : Sight Event) → HasLearned node opening v w → IsWriting opening d records v → IsWriting opening d records w
  writing_learned d records v w learned h = record {
    part = h.part;
    at = learned.state ∙ h.at;
    config = h.config;
    number = h.number;
    first = h.first;
    base = h.base;
    changes = h.changes;
    made_are = h.made_are;
    from = h.from;
    valid = h.valid;
    enlisted = learned.knows (Enlisted (attempt_of d) d) h.enlisted;
    durable = learned.knows (Durable d 0) h.durable;
  }

  volume_is : (d : ℕ) → IsOneOfTwo d → found_volume two_found d ≡ Some fresh_volume
  volume_is d (inl e) = subst (λ (n : ℕ). found_volume two_found n ≡ Some fresh_volume) (sym e) refl
  volume_is d (inr e) = subst (λ (n : ℕ). found_volume two_found n ≡ Some fresh_volume) (sym e) refl

  trail_is : (d : ℕ) → IsOneOfTwo d → trail_of two_config d ≡ 1
  trail_is d (inl e) = subst (λ (n : ℕ). trail_of two_config n ≡ 1) (sym e) refl
  trail_is d (inr e) = subst (λ (n : ℕ). trail_of two_config n ≡ 1) (sym e) refl

  few : (d : ℕ) → IsOneOfTwo d → d ≤ 8
  few d (inl e) = omega (arith, e)
  few d (inr e) = omega (arith, e)

  -- the seat knows that the disc has made them all
  made_all : (d : ℕ) (records : List AuditRecord) (v : Sight Event) → IsWriting opening d records v → Knows node opening v (Made d (length records) records)
  made_all d records v h =
      let first = h.first in
      let many = ap (λ (l : List AuditRecord). length l) h.made_are in
      known_of_part node opening v (Disc h.part) (Made d (length records) records) h.at
      (h.number, omega (arith, first), omega (arith, first, many), ap (λ (l : List AuditRecord). up_to (length records) l) h.made_are ∙ all_up_to 1 d records (length records) h.from (omega arith))

  made_behind : (d : ℕ) (front records : List AuditRecord) (v : Sight Event) → IsOneOfTwo d → length front + length records ≤ 4294967295 → IsWriting opening d (front ++ records) v → AreMadeBehind opening two_found two_rules 1 v d records
  made_behind d front records v one small h = record {
    volume = fresh_volume;
    volume_is = volume_is d one;
    own = trail_is d one;
    number = few d one;
    begins = omega arith;
    front = front;
    positions = h.from;
    last = length (front ++ records);
    made = made_all d (front ++ records) v h;
    valid = valid_right front records h.valid;
    small = omega (arith, small);
  }

  -- the disc may push the last of what it has made
  pub may_push : (d : ℕ) (found : Found) (rules : Rules) (queue : TableId) (pass : Holding) (front records : List AuditRecord) (v : Sight Event)
      → found ≡ two_found → rules ≡ two_rules → pass ≡ holding queue d (length front) → IsOneOfTwo d → records ≢ [] → length records ≤ 4096 → length front + length records ≤ 4294967295 → IsWriting opening d (front ++ records) v
      → MayPush opening found rules 1 v pass 0 records
  may_push d found rules queue pass front records v is_found are_rules is_pass one some short small h =
      let from = from_right 1 d front records h.from in
      let disc = disc_is (1 + length front) d records some from in
      let start = start_is (1 + length front) d records some from in
      let to = ap (λ (p : Holding). p.pushed) is_pass in
      record {
        some = some;
        few = short;
        disc = disc ∙ sym (ap (λ (p : Holding). p.disc) is_pass);
        made = subst (λ (n : ℕ). AreMadeBehind opening found rules 1 v n records) (sym disc) (subst (λ (f : Found). AreMadeBehind opening f rules 1 v d records) (sym is_found)
            (subst (λ (r : Rules). AreMadeBehind opening two_found r 1 v d records) (sym are_rules) (made_behind d front records v one small h)));
        durable = subst (λ (n : ℕ). Knows node opening v (Durable n 0)) (sym disc) h.durable;
        follows = (let top = max-zero pass.pushed in omega (arith, start, top, to));
      }

  -- and hand it in, where all in front of it is durable
  pub may_hand : (d : ℕ) (found : Found) (rules : Rules) (front records : List AuditRecord) (v : Sight Event)
      → found ≡ two_found → rules ≡ two_rules → IsOneOfTwo d → records ≢ [] → length front + length records ≤ 4294967295 → IsWriting opening d (front ++ records) v → Knows node opening v (Durable d (length front))
      → MayHand opening found rules 1 v (disc_of records) records
  may_hand d found rules front records v is_found are_rules one some small h durable =
      let disc = disc_is (1 + length front) d records some (from_right 1 d front records h.from) in
      subst (λ (n : ℕ). MayHand opening found rules 1 v n records) (sym disc) (subst (λ (f : Found). MayHand opening f rules 1 v d records) (sym is_found) (subst (λ (r : Rules). MayHand opening two_found r 1 v d records) (sym are_rules) (record {
        volume = fresh_volume;
        volume_is = volume_is d one;
        own = trail_is d one;
        number = few d one;
        begins = omega arith;
        front = front;
        positions = h.from;
        last = length (front ++ records);
        made = made_all d (front ++ records) v h;
        before = length front;
        reaches = omega arith;
        durable = durable;
        valid = valid_right front records h.valid;
        small = omega (arith, small);
      })))

  -- the last change stands behind those in front of it
  pub last_position : (d : ℕ) (front : List AuditRecord) (r : AuditRecord) (v : Sight Event) → IsWriting opening d (front ++ r ∷ []) v → r.position ≡ length front + 1
  last_position d front r v h = (let at = (from_right 1 d front (r ∷ []) h.from).1 in omega (arith, at))
