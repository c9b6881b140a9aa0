-- Records that are handed in stand behind what waits.
use Rattle.std.specs.Prelude.{ℕ, ◌==◌, ◌≤◌, ◌+◌, cond, Bool, List, [], ◌∷◌, ◌++◌, length, Option, Some, None, IfSome}
use Rattle.std.proofs.Common.{◌≡◌, ◌≢◌, true, ⊎_elim, refl, ap, sym, ◌∙◌, subst, arith, append_assoc, append-nil, length-append, eq-eqb, ne_eqb}
use Rattle.std.proofs.lemmas.Bool.{cases_eq}
use Rattle.std.specs.List.{AllByRecursion}
use Rattle.std.specs.Option.{option_or, option_map_or}
use Rattle.disk_model.specs.declared.disk.Disk as disk
use Rattle.trail_files.specs.declared.audit_record.AuditRecord.{AuditRecord}
use Rattle.trail_files.specs.AuditRecord.{audit_format}
use Rattle.trail_files.specs.AuditOrder.{audit_follows, is_audit_order, last_position, position_on}
use Rattle.trail_files.specs.Content.{landed_in}
use Rattle.trail_files.specs.Format.{AllValid}
use Rattle.trail_files.specs.RecordOrders.{each_follows-push, last_told-push}
use Rattle.trail_files.specs.Trail.{View}
use Rattle.node_machine.specs.Parts.{TrailPart, Fact}
use Rattle.node_machine.specs.Parts.Fact.{Made}
use Rattle.node_machine.specs.Trail.{landed, records_of, trail_of, first_of}
use Rattle.node_machine.specs.Same.{Among}
use Rattle.node_machine.specs.SameLaws.{among_append}
use Rattle.audit_writer.specs.Writer.{Stands, Belong, AreFrom, disc_made}
use Rattle.audit_writer.proofs.Batches.{records_of-append}
use Rattle.audit_writer.proofs.Belongs.{asks_on}

all_both : {A : Type 0} (P : A → Type 0) (xs ys : List A) → AllByRecursion P xs → AllByRecursion P ys → AllByRecursion P (xs ++ ys)
all_both P [] ys h k = k
all_both P (x ∷ xs) ys h k = (h.0, all_both P xs ys h.1 k)

one_mine : (r : AuditRecord) (d : ℕ) → r.disc ≡ d → records_of d (r ∷ []) ≡ r ∷ []
one_mine r d e = rw (eq-eqb r.disc d e) refl

one_other : (r : AuditRecord) (d : ℕ) → r.disc ≢ d → records_of d (r ∷ []) ≡ []
one_other r d n = rw (ne_eqb r.disc d n) refl

-- one more record, of the disc or of another
push_mine : (part : TrailPart) (queue : List AuditRecord) (r : AuditRecord) (d : ℕ) → r.disc ≡ d → disc_made part (queue ++ r ∷ []) d ≡ disc_made part queue d ++ r ∷ []
push_mine part queue r d e =
    let before = landed part.events in
    ap (records_of d) (sym (append_assoc before queue (r ∷ []))) ∙ records_of-append d (before ++ queue) (r ∷ []) ∙ ap (λ (l : List AuditRecord). disc_made part queue d ++ l) (one_mine r d e)

push_other : (part : TrailPart) (queue : List AuditRecord) (r : AuditRecord) (d : ℕ) → r.disc ≢ d → disc_made part (queue ++ r ∷ []) d ≡ disc_made part queue d
push_other part queue r d n =
    let before = landed part.events in
    ap (records_of d) (sym (append_assoc before queue (r ∷ [])))
    ∙ records_of-append d (before ++ queue) (r ∷ [])
    ∙ ap (λ (l : List AuditRecord). disc_made part queue d ++ l) (one_other r d n)
    ∙ append-nil (disc_made part queue d)

from_push : (n d : ℕ) (xs : List AuditRecord) (r : AuditRecord) → AreFrom n d xs → r.disc ≡ d → r.position ≡ n + length xs → AreFrom n d (xs ++ r ∷ [])
from_push n d [] r from of at = (of, omega (arith, at), tt)
from_push n d (x ∷ xs) r from of at = (from.0, from.1, from_push (n + 1) d xs r from.2 of (omega (arith, at)))

follows : (before : List AuditRecord) (r : AuditRecord) (n : ℕ) → r.position ≡ n → IfSome (last_position r.disc before) (λ last. last + 1 ≡ n) → audit_follows before r ≡ true
follows before r n e h = of (last_position r.disc before) h
  where
    of : (o : Option ℕ) → IfSome o (λ last. last + 1 ≡ n) → option_map_or (λ last. r.position == last + 1) o true ≡ true
    of None h = refl
    of (Some last) h = eq-eqb r.position (last + 1) (e ∙ sym h)

-- records of one disc
pub among_from : (n d : ℕ) (xs : List AuditRecord) (r : AuditRecord) → AreFrom n d xs → Among xs r → r.disc ≡ d
among_from n d [] r from there = absurd there
among_from n d (x ∷ xs) r from there = ⊎_elim (λ (same : x ≡ r). ap (λ (y : AuditRecord). y.disc) (sym same) ∙ from.0) (λ (more : Among xs r). among_from (n + 1) d xs r from.2 more) there

module _ {D : Type 0} (kind : disk.Ghosts D) (premise : Type 0) (part : TrailPart) (trail : View D) where
  -- all but what is known
  abbrev Fits : List AuditRecord → Type 0
  Fits queue = Belong kind premise (λ _. Unit {0}) part trail queue

  pushed : (queue : List AuditRecord) (r : AuditRecord) (d : ℕ) → Fits queue → r.disc ≡ d → trail_of part.config d ≡ part.number → 1 ≤ first_of part.firsts d
      → r.position ≡ first_of part.firsts d + length (disc_made part queue d) → (audit_format trail.rules).valid r ≡ true → Fits (queue ++ r ∷ [])
  pushed queue r d is of own begins at valid =
      record {
        writable = is.writable;
        phase = is.phase;
        more = is.more;
        file = is.file;
        front = (is.front.0 ++ r ∷ [], sym (append_assoc _ is.front.0 (r ∷ [])) ∙ ap (λ (l : List AuditRecord). l ++ r ∷ []) is.front.1);
        valid = all_both _ queue (r ∷ []) is.valid (valid, tt);
        own = λ x there. ⊎_elim (λ (old : Among queue x). is.own x old)
            (λ (new : Among (r ∷ []) x). ⊎_elim (λ (same : r ≡ x). ap (λ (y : AuditRecord). trail_of part.config y.disc) (sym same) ∙ ap (trail_of part.config) of ∙ own) (λ (none : ⊥). absurd none) new)
            (among_append queue (r ∷ []) x there);
        positions = λ e. ⊎_elim
            (λ (same : r.disc ≡ e).
            let disc : d ≡ e = sym of ∙ same in
            let due : r.position ≡ first_of part.firsts e + length (disc_made part queue e) = at ∙ ap (λ (k : ℕ). first_of part.firsts k + length (disc_made part queue k)) disc in
            subst (λ (l : List AuditRecord). AreFrom (first_of part.firsts e) e l) (sym (push_mine part queue r e same)) (from_push (first_of part.firsts e) e (disc_made part queue e) r (is.positions e) same due))
            (λ (other : r.disc ≢ e). subst (λ (l : List AuditRecord). AreFrom (first_of part.firsts e) e l) (sym (push_other part queue r e other)) (is.positions e))
            (cases_eq r.disc e);
        made = λ e xs ys there some. (0, tt);
        told = is.told;
        purged = is.purged;
        stands = λ p. stands_more (is.stands p);
      }
    where
      stands_more : Stands kind trail part queue → Stands kind trail part (queue ++ r ∷ [])
      stands_more s =
          let xs = landed_in s.content ++ queue in
          let whole : landed_in s.content ++ (queue ++ r ∷ []) ≡ xs ++ r ∷ [] = sym (append_assoc (landed_in s.content) queue (r ∷ [])) in
          let due : IfSome (last_position r.disc xs) (λ last. last + 1 ≡ first_of part.firsts d + length (disc_made part queue d)) =
          subst (λ (k : ℕ). IfSome (last_position k xs) (λ last. last + 1 ≡ first_of part.firsts d + length (disc_made part queue d))) (sym of) (s.next d begins) in
          record {
            tells = s.tells;
            content = s.content;
            holds = s.holds;
            old = s.old;
            told = s.told;
            from = s.from;
            gone = s.gone;
            front = s.front;
            placed = s.placed;
            pending = s.pending;
            order = ap is_audit_order whole ∙ each_follows-push audit_follows xs r s.order (follows xs r (first_of part.firsts d + length (disc_made part queue d)) at due);
            next = λ e there. subst (λ (l : List AuditRecord). IfSome (last_position e l) (λ last. last + 1 ≡ first_of part.firsts e + length (disc_made part (queue ++ r ∷ []) e))) (sym whole)
                (subst (λ (o : Option ℕ). IfSome o (λ last. last + 1 ≡ first_of part.firsts e + length (disc_made part (queue ++ r ∷ []) e))) (sym (last_told-push (position_on e) xs r))
                (⊎_elim
                (λ (same : r.disc ≡ e).
                let more = length-append (disc_made part queue e) (r ∷ []) in
                let long = ap length (push_mine part queue r e same) in
                let many = ap (λ (k : ℕ). first_of part.firsts k + length (disc_made part queue k)) (sym of ∙ same) in
                subst (λ (b : Bool). IfSome (option_or (cond b (Some r.position) None) (last_position e xs)) (λ last. last + 1 ≡ first_of part.firsts e + length (disc_made part (queue ++ r ∷ []) e))) (sym (eq-eqb r.disc e same)) (omega (arith, at, more, long, many)))
                (λ (other : r.disc ≢ e).
                subst (λ (b : Bool). IfSome (option_or (cond b (Some r.position) None) (last_position e xs)) (λ last. last + 1 ≡ first_of part.firsts e + length (disc_made part (queue ++ r ∷ []) e))) (sym (ne_eqb r.disc e other))
                (subst (λ (l : List AuditRecord). IfSome (last_position e xs) (λ last. last + 1 ≡ first_of part.firsts e + length l)) (sym (push_other part queue r e other)) (s.next e there)))
                (cases_eq r.disc e)));
          }

  -- a disc's next records are handed in
  pushed_all : (queue new : List AuditRecord) (d : ℕ) → Fits queue → trail_of part.config d ≡ part.number → 1 ≤ first_of part.firsts d → AreFrom (first_of part.firsts d + length (disc_made part queue d)) d new
      → AllValid (audit_format trail.rules) new → Fits (queue ++ new)
  pushed_all queue [] d is own begins from valid = subst Fits (sym (append-nil queue)) is
  pushed_all queue (r ∷ rs) d is own begins from valid =
      let one = pushed queue r d is from.0 own begins from.1 valid.0 in
      let long = ap length (push_mine part queue r d from.0) ∙ length-append (disc_made part queue d) (r ∷ []) in
      let next : first_of part.firsts d + length (disc_made part queue d) + 1 ≡ first_of part.firsts d + length (disc_made part (queue ++ r ∷ []) d) = omega (arith, long) in
      subst Fits (append_assoc queue (r ∷ []) rs) (pushed_all (queue ++ r ∷ []) rs d one own begins (subst (λ (k : ℕ). AreFrom k d rs) next from.2) valid.1)

  pub mine_all : (queue new : List AuditRecord) (d n : ℕ) → AreFrom n d new → disc_made part (queue ++ new) d ≡ disc_made part queue d ++ new
  mine_all queue [] d n from = ap (λ (l : List AuditRecord). disc_made part l d) (append-nil queue) ∙ sym (append-nil (disc_made part queue d))
  mine_all queue (r ∷ rs) d n from =
      ap (λ (l : List AuditRecord). disc_made part l d) (sym (append_assoc queue (r ∷ []) rs))
      ∙ mine_all (queue ++ r ∷ []) rs d (n + 1) from.2
      ∙ ap (λ (l : List AuditRecord). l ++ rs) (push_mine part queue r d from.0)
      ∙ append_assoc (disc_made part queue d) (r ∷ []) rs

  pub others_all : (queue new : List AuditRecord) (d e n : ℕ) → AreFrom n d new → d ≢ e → disc_made part (queue ++ new) e ≡ disc_made part queue e
  others_all queue [] d e n from ne = ap (λ (l : List AuditRecord). disc_made part l e) (append-nil queue)
  others_all queue (r ∷ rs) d e n from ne =
      ap (λ (l : List AuditRecord). disc_made part l e) (sym (append_assoc queue (r ∷ []) rs))
      ∙ others_all (queue ++ r ∷ []) rs d e (n + 1) from.2 ne
      ∙ push_other part queue r e (λ same. ne (sym from.0 ∙ same))

  -- with what is known
  pub takes : (known after : Fact → Type 0) (queue new : List AuditRecord) (d : ℕ) → ((f : Fact) → known f → after f) → Belong kind premise known part trail queue → trail_of part.config d ≡ part.number → 1 ≤ first_of part.firsts d
      → AreFrom (first_of part.firsts d + length (disc_made part queue d)) d new → AllValid (audit_format trail.rules) new
      → ((xs ys : List AuditRecord) → disc_made part queue d ++ new ≡ xs ++ ys → xs ≢ [] → (n : ℕ) × after (Made d n xs)) → Belong kind premise after part trail (queue ++ new)
  takes known after queue new d more is own begins from valid made =
      let fits = pushed_all queue new d (record { writable = is.writable; phase = is.phase; more = is.more; file = is.file; front = is.front; valid = is.valid; own = is.own; positions = is.positions; made = λ e xs ys there some. (0, tt); told = is.told; purged = λ below last there. (let was = is.purged below last there in (was.0, asks_on known (λ _. Unit {0}) part.old part.events part.events below (λ f h. tt) (λ were x h. h) was.1)); stands = is.stands }) own begins from valid in
      record {
        writable = fits.writable;
        phase = fits.phase;
        more = fits.more;
        file = fits.file;
        front = fits.front;
        valid = fits.valid;
        own = fits.own;
        positions = fits.positions;
        made = λ e xs ys there some. ⊎_elim
            (λ (same : d ≡ e). (let m = made xs ys (sym (mine_all queue new d _ from) ∙ ap (disc_made part (queue ++ new)) same ∙ there) some in (m.0, subst (λ (k : ℕ). after (Made k m.0 xs)) same m.1)))
            (λ (other : d ≢ e). (let m = is.made e xs ys (sym (others_all queue new d e _ from other) ∙ there) some in (m.0, more (Made e m.0 xs) m.1)))
            (cases_eq d e);
        told = is.told;
        purged = λ below last there. (let was = is.purged below last there in (was.0, asks_on known after part.old part.events part.events below more (λ were x h. h) was.1));
        stands = fits.stands;
      }
