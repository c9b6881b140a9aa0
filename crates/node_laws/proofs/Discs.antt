-- What a disc may do, it may do seen as that of any layout.
use Rattle.std.specs.Prelude.{◌≡◌, ◌≢◌, ◌⊎◌, ℕ, ◌+◌, ◌<◌, ◌≤◌, ◌==◌, Bool, true, false, List, [], ◌∷◌, length, Option, Some, None, Ok, IsSome, if◌then◌else◌}
use Rattle.std.specs.Option.{option_or}
use Rattle.std.proofs.Common.{refl, ap, sym, ◌∙◌, subst, arith, eqb-true, eq-eqb, ⊎_elim, inl, inr}
use Rattle.std.proofs.lemmas.Bool.{and_parts}
use Rattle.std.proofs.lemmas.Slice.Eq.{bytes_eq-Decides}
use Rattle.tmf_model.specs.Effect.{applied}
use Rattle.tmf_model.specs.declared.script.Op.{Op}
use Rattle.tmf_model.specs.declared.script.Op.TheVariants.{Put, Add, Del, Read as ReadOp, Lock as LockOp}
use Rattle.tmf_model.specs.declared.transid.Transid.{Transid}
use Rattle.trail_files.specs.MonitorOrder.{is_same_transid}
use Rattle.trail_files.specs.declared.audit_record.AuditKind.{AuditKind}
use Rattle.trail_files.specs.declared.audit_record.AuditKind.TheVariants.{Change as ChangeKind}
use Rattle.trail_files.specs.declared.audit_record.AuditRecord.{AuditRecord}
use Rattle.any_node.specs.Value.{AuditRecord as AnyRecord}
use Rattle.any_node.specs.Node.{IsFreeFor, HasRoom, given, allows_disc}
use Rattle.any_node.specs.Node.{IsQuiet as AnyQuiet, IsGreatestQuiet as AnyGreatest, MayRaise as AnyRaise}
use Rattle.node_machine.specs.declared.event.Cause.TheVariants.{Busy, BusyFile, Full, Refused, Dumping}
use Rattle.node_machine.specs.declared.event.DiscEvent.{DiscEvent}
use Rattle.node_machine.specs.declared.event.DiscEvent.TheVariants.{Write, Read, Lock, Turn, Undo, Close as CloseEvent, Release, Draw, Drawn, Low, Lowered, Start, Raise, Failed}
use Rattle.node_machine.specs.Parts.{DumpStart, DiscPart}
use Rattle.node_machine.specs.Parts.{Entry as FileEntry}
use Rattle.node_machine.specs.Made.{made, next_position, position_before, values_after, file_holder, key_holder, holder, volume_of, home_block, is_in_block, drawing, drawn, lowering, starts, under_way, rest_start, has_released, has_undone}
use Rattle.node_machine.specs.Disc.{IsNoOther, MayWrite, TellsChange, HasRoomFor, HasRoomAt, HasNoRoomFor, IsChange, MayRest, IsQuiet, IsGreatestQuiet, DiscMay}
use Rattle.node_machine.specs.Same.{Among}
use Rattle.node_machine.specs.SameLaws.{same_self, same_is}
use Rattle.node_machine.specs.Opening.{Found}
use Rattle.node_laws.specs.Layouts.{layout, FileKey, FileBlock, Content, Change, is_same_content, gives}
use Rattle.node_laws.specs.Views.{rec_of, recs_of, recs_made, change_of, base_of, way_of, pairs_of, any_disc, any_disc_event}
use Rattle.node_laws.proofs.Fine.{IsFine, by_key}
use Rattle.node_laws.proofs.Records.{made_recs, length-recs_made, left_recs, of_told_values}
use Rattle.node_laws.proofs.Rooms.{roomy, full}

same_content : (c : Content) → is_same_content c c ≡ true
same_content None = refl
same_content (Some b) = (bytes_eq-Decides b b).1 refl

gives_it : (b : Bool) (x : Content) → b ≡ true → (if b then Some x else None) ≡ Some x
gives_it true x e = refl
gives_it false x e = absurd (cc (e))

abbrev given_by : Option (Option Change) → Content → Option Content
given_by None v = None
given_by (Some o) v = gives o v

-- who holds a key
holder_file : (o k : Option Transid) (t : Transid) → IsNoOther (option_or o k) t → IsNoOther o t
holder_file None k t h = inl refl
holder_file (Some x) k t h = h

found_holder : (o k : Option Transid) → option_or o k ≡ elim o [ None ↦ k | Some h ↦ Some h ]
found_holder None k = refl
found_holder (Some h) k = refl

not_same : (h t : Transid) → is_same_transid h t ≡ false → h ≢ t
not_same h t e same = (let both : true ≡ false = sym (same_self t) ∙ (ap (λ (x : Transid). is_same_transid x t) (sym same) ∙ e) in absurd (cc (both)))

the_holder : (o : Option Transid) (h t : Transid) → IsNoOther o t → o ≡ Some h → h ≡ t
the_holder o h t n e =
    ⊎_elim
    (λ (x : o ≡ None). (let both : None ≡ Some h = sym x ∙ e in absurd (cc (both))))
    (λ (x : o ≡ Some t). (let both : Some h ≡ Some t = sym e ∙ x in cc (both)))
    n

holds_key : (o k : Option Transid) (h : Transid) → option_or o k ≡ Some h → (o ≡ Some h) ⊎ (k ≡ Some h)
holds_key None k h e = inr e
holds_key (Some x) k h e = inl e

-- a change that finds nothing is a put
put_of : (op : Op) (after : Content) → IsChange op → applied op None ≡ Ok after → (value : List ℕ) × (op ≡ Put value)
put_of (Put value) after c e = (value, refl)
put_of (Add n) after c e = absurd (cc (e))
put_of Del after c e = absurd (cc (e))
put_of ReadOp after c e = absurd c
put_of LockOp after c e = absurd c

-- the dump under way is the one that is raised
raise_way : (way : Option DumpStart) (dump : DumpStart) (rest new : Option ℕ) (number : ℕ) → way ≡ Some dump → dump.number ≡ number → MayRest rest new dump.start → AnyRaise (way_of way) rest number new
raise_way None dump rest new number e n h = absurd (cc (e))
raise_way (Some d) dump rest new number e n h = (let same : dump ≡ d = sym (cc (e)) in (ap (λ (x : DumpStart). x.number) (sym same) ∙ n, rests rest new dump.start d.start (ap (λ (x : DumpStart). x.start) same) h)) where
  rests : (rest new : Option ℕ) (a b : ℕ) → a ≡ b → MayRest rest new a → MayRest rest new b
  rests (Some old) (Some r) a b e h = h
  rests (Some old) None a b e h = h
  rests None (Some r) a b e h = h ∙ e
  rests None None a b e h = h

among_pairs : (dumps : List DumpStart) (number start : ℕ) → Among (pairs_of dumps) (number, start) → Among dumps (record { number = number; start = start })
among_pairs [] number start h = h
among_pairs (d ∷ dumps) number start h =
    ⊎_elim
    (λ (e : (d.number, d.start) ≡ (number, start)). inl (λ i. record { number = (e i).0; start = (e i).1 }))
    (λ (r : Among (pairs_of dumps) (number, start)). inr (among_pairs dumps number start r))
    h

is_there : (o : Option ℕ) → IsSome o → o ≢ None
is_there None h e = absurd (cc (h))
is_there (Some n) h e = absurd (cc (e))

way_there : (o : Option DumpStart) → IsSome o → way_of o ≢ None
way_there None h e = absurd (cc (h))
way_there (Some d) h e = absurd (cc (e))

module _ (found : Found) where
  pub among_recs : (rs : List AuditRecord) (x : AnyRecord (layout found)) → Among (recs_of found rs) x → (r : AuditRecord) × Among rs r × (rec_of found r ≡ x)
  among_recs [] x h = absurd h
  among_recs (r ∷ rs) x h =
      ⊎_elim
      (λ (e : rec_of found r ≡ x). (r, inl refl, e))
      (λ (k : Among (recs_of found rs) x). (let m = among_recs rs x k in (m.0, inr m.1, m.2)))
      h

  pub recs_among : (rs : List AuditRecord) (r : AuditRecord) → Among rs r → Among (recs_of found rs) (rec_of found r)
  recs_among [] r h = h
  recs_among (x ∷ rs) r h = ⊎_elim (λ (e : x ≡ r). inl (ap (rec_of found) e)) (λ (k : Among rs r). inr (recs_among rs r k)) h

  -- the record of one that was made
  pub made_of : (events : List DiscEvent) (x : AnyRecord (layout found)) → Among (recs_made found events) x → (r : AuditRecord) × Among (made events) r × (rec_of found r ≡ x)
  made_of events x h = among_recs (made events) x (subst (λ (xs : List (AnyRecord (layout found))). Among xs x) (made_recs found events) h)

  pub of_made : (events : List DiscEvent) (r : AuditRecord) → Among (made events) r → Among (recs_made found events) (rec_of found r)
  of_made events r h = subst (λ (xs : List (AnyRecord (layout found))). Among xs (rec_of found r)) (sym (made_recs found events)) (recs_among (made events) r h)

  module _ (s : DiscPart) (same : s.config ≡ found.config) (entries : List FileEntry) (told : s.base ≡ Some entries) (fine : IsFine s.first s.events) where
    next_same : next_position s ≡ s.first + length (recs_made found s.events)
    next_same = ap (λ n. s.first + n) (sym (length-recs_made found s.events))

    free_for : (t : Transid) (file : ℕ) (key : List ℕ) → IsNoOther (holder s.events file key) t → IsFreeFor {N = layout found} (any_disc found s) t (file, key)
    free_for t file key h = (by_key (file_holder s.events file) (key_holder s.events file key) t (fine.exclusive file key) h, holder_file (file_holder s.events file) (key_holder s.events file key) t h)

    on_disc : (file : ℕ) → volume_of s.config file ≡ s.number → volume_of found.config file ≡ s.number
    on_disc file e = ap (λ c. volume_of c file) (sym same) ∙ e

    given_is : (r : AuditRecord) → r.kind ≡ ChangeKind → given {N = layout found} (rec_of found r) r.before ≡ Some r.after
    given_is r kind =
        by_cases (change_of r.kind r.before r.after)
        ∙ ap (λ (k : AuditKind). given_by (change_of k r.before r.after) r.before) kind
        ∙ gives_it (is_same_content r.before r.before) r.after (same_content r.before)
      where
        by_cases : (o : Option (Option Change)) → (elim o [ None ↦ None | Some c ↦ gives c r.before ]) ≡ given_by o r.before
        by_cases None = refl
        by_cases (Some c) = refl

    room_of : (r : AuditRecord) (op : Op) → IsChange op → TellsChange s r op (values_after (base_of s.base) s.events) → HasRoom {N = layout found} (any_disc found s) (r.file, r.key) (Some (r.before, r.after))
    room_of r op c tells = by_before r.before refl where
      at_none : r.before ≡ None → HasRoomFor s (values_after (base_of s.base) s.events) r.file r.key
      at_none e =
          let p = put_of op r.after c (ap (λ (b : Content). applied op b) (sym e) ∙ tells.after) in
          subst (λ (o : Op). HasRoomAt s (values_after (base_of s.base) s.events) r.file r.key o) p.1 tells.room

      by_before : (b : Content) → r.before ≡ b → HasRoom {N = layout found} (any_disc found s) (r.file, r.key) (Some (b, r.after))
      by_before None e = inr (roomy found s same r.file r.key (at_none e))
      by_before (Some v) e = inl refl

    op_room : (r : AuditRecord) (op : Op) → MayWrite s r op → (o : Option Change) → change_of r.kind r.before r.after ≡ Some o → (true ≡ true) × HasRoom {N = layout found} (any_disc found s) (r.file, r.key) o
    op_room r op may o e =
        let is : Some (Some (r.before, r.after)) ≡ Some o = sym (ap (λ (k : AuditKind). change_of k r.before r.after) may.kind) ∙ e in
        let one : Some (r.before, r.after) ≡ o = cc (is) in
        (refl, subst (λ (x : Option Change). HasRoom {N = layout found} (any_disc found s) (r.file, r.key) x) one (room_of r op may.op_changes (of_told_values s.base entries s.events (TellsChange s r op) told may.told)))

    quiet_of : (position : ℕ) → IsQuiet s position → AnyQuiet {N = layout found} (any_disc found s) position
    quiet_of position q = (
      subst (λ (n : ℕ). position ≤ n) next_same q.reached,
      λ x h below. (let r = made_of s.events x h in
          let tx : r.0.tx ≡ x.tx = ap (λ (y : AnyRecord (layout found)). y.tx) r.2 in
          let at : r.0.position ≡ x.position = ap (λ (y : AnyRecord (layout found)). y.position) r.2 in
          let under : r.0.position < position = omega (arith, below, at) in (
            ap (λ (u : Transid). has_released s.events u) (sym tx) ∙ q.released r.0 r.1 under,
            λ undone y g one. (let o = made_of s.events y g in
                let otx : o.0.tx ≡ r.0.tx = ap (λ (z : AnyRecord (layout found)). z.tx) o.2 ∙ one ∙ sym tx in
                let oat : o.0.position ≡ y.position = ap (λ (z : AnyRecord (layout found)). z.position) o.2 in
                let lt = q.undone r.0 o.0 r.1 under (ap (λ (u : Transid). has_undone s.events u) tx ∙ undone) o.1 (ap (λ (u : Transid). is_same_transid o.0.tx u) (sym otx) ∙ same_self o.0.tx) in
                omega (arith, lt, oat)),
          )),
    )

    of_quiet : (position : ℕ) → AnyQuiet {N = layout found} (any_disc found s) position → IsQuiet s position
    of_quiet position q = record {
      reached = subst (λ (n : ℕ). position ≤ n) (sym next_same) q.0;
      released = λ r h below. (q.1 (rec_of found r) (of_made s.events r h) below).0;
      undone = λ r other h below un g one. (q.1 (rec_of found r) (of_made s.events r h) below).1 un (rec_of found other) (of_made s.events other g) (same_is other.tx r.tx one);
    }

    greatest : (position : ℕ) → IsGreatestQuiet s position → AnyGreatest {N = layout found} (any_disc found s) position
    greatest position g = (quiet_of position g.quiet, λ n h. g.greatest n (of_quiet n h))

    in_block : (file block : ℕ) (r : AuditRecord) → is_in_block s.config file block r ≡ true → ◌≡◌ {A = FileBlock} (r.file, home_block found.config r.file r.key) (file, block)
    in_block file block r e =
        let parts = and_parts (file == r.file) (block == home_block s.config r.file r.key) e in
        let f = eqb-true file r.file parts.0 in
        let b : block ≡ home_block found.config r.file r.key = eqb-true block (home_block s.config r.file r.key) parts.1 ∙ ap (λ c. home_block c r.file r.key) same in
        λ i. (sym f i, sym b i)

    block_in : (file block : ℕ) (r : AuditRecord) → ◌≡◌ {A = FileBlock} (r.file, home_block found.config r.file r.key) (file, block) → is_in_block s.config file block r ≡ true
    block_in file block r e =
        let f : file ≡ r.file = sym (ap (λ (b : FileBlock). b.0) e) in
        let b : block ≡ home_block s.config r.file r.key = sym (ap (λ (b : FileBlock). b.1) e) ∙ ap (λ c. home_block c r.file r.key) (sym same) in
        rw (eq-eqb file r.file f) (eq-eqb block (home_block s.config r.file r.key) b)

    pub disc_allows : (e : DiscEvent) → DiscMay s e → allows_disc (layout found) (any_disc found s) (any_disc_event found e)
    disc_allows (Write r op) may =
        let tells = of_told_values s.base entries s.events (TellsChange s r op) told may.told in (
          (may.takes.acts.unclosed, may.takes.acts.nothing_undone, may.takes.acts.unreleased),
          free_for r.tx r.file r.key may.takes.free,
          refl,
          tells.before,
          given_is r may.kind,
          on_disc r.file may.takes.here,
          may.disc,
          may.position ∙ next_same,
          op_room r op may,
        )
    disc_allows (Read t file key value) may = (
      (may.takes.acts.unclosed, may.takes.acts.nothing_undone, may.takes.acts.unreleased),
      free_for t file key may.takes.free,
      of_told_values s.base entries s.events (λ values. value ≡ values file key) told may.told,
      on_disc file may.takes.here,
    )
    disc_allows (Lock t file) may = (
      (may.acts.unclosed, may.acts.nothing_undone, may.acts.unreleased),
      λ h holds. ⊎_elim
          (λ (x : file_holder s.events file ≡ Some h). the_holder (file_holder s.events file) h t may.free x)
          (λ (x : (k : FileKey) × (k.0 ≡ file) × (key_holder s.events k.0 k.1 ≡ Some h)).
          the_holder (key_holder s.events file x.0.1) h t
          (by_key (file_holder s.events file) (key_holder s.events file x.0.1) t (fine.exclusive file x.0.1) (may.keys_free x.0.1))
          (ap (λ (f : ℕ). key_holder s.events f x.0.1) (sym x.1) ∙ x.2))
          holds,
    )
    disc_allows (Turn t (Busy step h)) may = (sym (found_holder (file_holder s.events step.file) (key_holder s.events step.file step.key)) ∙ may.2, not_same h t may.1.differs)
    disc_allows (Turn t (BusyFile file h)) may = (
      ⊎_elim
          (λ (x : file_holder s.events file ≡ Some h). inl x)
          (λ (x : (key : List ℕ) × (holder s.events file key ≡ Some h)).
          ⊎_elim
          (λ (y : file_holder s.events file ≡ Some h). inl y)
          (λ (y : key_holder s.events file x.0 ≡ Some h). inr ((file, x.0), refl, y))
          (holds_key (file_holder s.events file) (key_holder s.events file x.0) h x.1))
          may.2,
      not_same h t may.1.differs,
    )
    disc_allows (Turn t (Full step)) may = (
      (may.0.acts.unclosed, may.0.acts.nothing_undone, may.0.acts.unreleased),
      free_for t step.file step.key may.0.free,
      full found s same step.file step.key (of_told_values s.base entries s.events (λ values. HasNoRoomFor s values step.file step.key) told may.2),
    )
    disc_allows (Turn t (Refused step reason)) may = ((may.0.acts.unclosed, may.0.acts.nothing_undone, may.0.acts.unreleased), free_for t step.file step.key may.0.free, refl)
    disc_allows (Turn t Dumping) may = way_there (under_way s.events) may
    disc_allows (Undo r) may = (rec_of found may.change, recs_of found may.others, left_recs found s.events r.tx ∙ ap (recs_of found) may.newest)
    disc_allows (CloseEvent t) may = (may.unclosed, may.nothing_undone, may.unreleased)
    disc_allows (Release t) may = may
    disc_allows (Draw file block position) may = (
      may.idle,
      may.rises,
      (rec_of found may.last, of_made s.events may.last may.is_made, in_block file block may.last may.in_block, may.at),
      λ x h e. (let r = made_of s.events x h in
          let at : r.0.position ≡ x.position = ap (λ (y : AnyRecord (layout found)). y.position) r.2 in
          let here : ◌≡◌ {A = FileBlock} (r.0.file, home_block found.config r.0.file r.0.key) (file, block) = ap (λ (y : AnyRecord (layout found)). (y.key.0, home_block found.config y.key.0 y.key.1)) r.2 ∙ e in
          let le = may.none_behind r.0 r.1 (block_in file block r.0 here) in
          omega (arith, le, at)),
    )
    disc_allows (Drawn file block) may = is_there (drawing s.events file block) may
    disc_allows (Low position by) may = (
      may.still,
      may.rises,
      greatest position may.greatest,
      λ b. (
        may.idle b.0 b.1,
        λ x h e behind below. (let r = made_of s.events x h in
            let at : r.0.position ≡ x.position = ap (λ (y : AnyRecord (layout found)). y.position) r.2 in
            let here : ◌≡◌ {A = FileBlock} (r.0.file, home_block s.config r.0.file r.0.key) b =
            ap (λ c. (r.0.file, home_block c r.0.file r.0.key)) same ∙ (ap (λ (y : AnyRecord (layout found)). (y.key.0, home_block found.config y.key.0 y.key.1)) r.2 ∙ e) in
            let le = may.written r.0 r.1 (omega (arith, below, at)) in
            let it : r.0.position ≤ drawn (position_before s) s.events b.0 b.1 = subst (λ (c : FileBlock). r.0.position ≤ drawn (position_before s) s.events c.0 c.1) here le in
            omega (arith, it, behind, at)),
      ),
    )
    disc_allows Lowered may = is_there (lowering s.events) may
    disc_allows (Start number start item) may = (
      ap way_of may.alone,
      may.low,
      greatest start may.greatest,
      λ n h. (let le = fine.begun (record { number = number; start = n }) (among_pairs (starts s.events) number n h) in absurd (omega (arith, le, may.next))),
    )
    disc_allows (Raise number rest) may = raise_way (under_way s.events) may.dump (rest_start s.rest s.events) rest number may.way may.is_it may.rests
    disc_allows (Failed by) may = tt
