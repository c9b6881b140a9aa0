-- Each put of an attempt that is alone at its discs has found room there, and one that was turned away for want of room had none.
use Rattle.std.specs.Prelude.{◌≡◌, ℕ, zero, suc, ◌≤◌, Bool, true, false, if◌then◌else◌, List, [], ◌∷◌, ◌++◌, length, map, take, bytes_eq, Option, Some, None, IsSome, slice_get}
use Rattle.std.specs.List.{AllByRecursion, IsDistinct, cons_option}
use Rattle.std.proofs.Common.{refl, ap, sym, ◌∙◌, subst, arith, append_assoc, append-nil, ⊎_elim, inl, inr}
use Rattle.std.proofs.lemmas.Slice.Eq.{bytes_eq-Decides}
use Rattle.chronicle.specs.Histories.{IsEnabled, IsHistory, IsTrueIn, states_after}
use Rattle.disk_model.specs.Held.{Held}
use Rattle.tmf_model.specs.RecordMap.{RecordMap}
use Rattle.tmf_model.specs.declared.config.Config.{Config}
use Rattle.tmf_model.specs.declared.script.Op.{Op}
use Rattle.tmf_model.specs.declared.script.Op.TheVariants.{Add, Del, Lock as LockOp, Put, Read as ReadOp}
use Rattle.tmf_model.specs.declared.script.Step.{Step}
use Rattle.tmf_model.specs.declared.transid.Transid.{Transid}
use Rattle.trail_files.specs.MonitorOrder.{is_same_transid}
use Rattle.trail_files.specs.StandsFor.{Base}
use Rattle.trail_files.specs.declared.audit_record.AuditRecord.{AuditRecord}
use Rattle.trail_files.specs.declared.monitor_record.MonitorRecord.{MonitorRecord}
use Rattle.trail_files.specs.declared.rules.Rules.{Rules}
use Rattle.node_machine.specs.Deeds.{EventsLaw, Log, step_of, steps_done}
use Rattle.node_machine.specs.Disc.{HasNoRoomFor, HasRoomAt, HasRoomFor, IsChange, IsHere, IsNoOther, IsPut, MayAct, TellsChange}
use Rattle.node_machine.specs.Law.{Deed, IsOpening, deeds_of}
use Rattle.node_machine.specs.Law.Deed.{Changed, Locked, Saw}
use Rattle.node_machine.specs.Live.{LiveLaw, after_deeds}
use Rattle.node_machine.specs.Made.{has_released, home_block, is_changing, key_holder, map_of, values_after, volume_of}
use Rattle.node_machine.specs.Node.{node}
use Rattle.node_machine.specs.Opening.{Found, disc_part, opening_parts}
use Rattle.node_machine.specs.Parts.{DiscPart, Entry, PartState}
use Rattle.node_machine.specs.Parts.Fact.{Enlisted}
use Rattle.node_machine.specs.Parts.PartState.{Disc}
use Rattle.node_machine.specs.Same.{Among}
use Rattle.node_machine.specs.SameLaws.{same_is, same_self}
use Rattle.node_machine.specs.declared.event.Cause.TheVariants.{Full}
use Rattle.node_machine.specs.declared.event.DiscEvent.TheVariants.{Close, Draw, Drawn, Failed, Lock, Low, Lowered, Raise, Read, Release, Start, Turn, Undo, Write}
use Rattle.node_machine.specs.declared.event.Event.{Event}
use Rattle.node_machine.specs.declared.event.Event.TheVariants.{OfDisc, OfDump, OfMonitor, OfTrail, OfWorker}
use Rattle.node_machine.proofs.Placed.{parts_placed}
use Rattle.single_law.proofs.Acting.{deeds_filtered}
use Rattle.single_law.proofs.Changes.{are_changes, it_is}
use Rattle.single_law.proofs.Found.{has_values}
use Rattle.single_law.proofs.Given.{among_given, given_by}
use Rattle.single_law.proofs.Moments.{among_cut, among_disc, among_map, front_log, had, next_enabled, stands}
use Rattle.single_law.proofs.Served.{Agree, deed_in, deeds_append, deeds_step}
use Rattle.single_law.proofs.Values.{IsAlwaysAlone, of_told, part_of, present}
use Rattle.single_law.specs.Ended.{FindsNoRoom, IsChangedBy}

-- FEW KEYS

-- a list without one of its items
record IsWithout {A : Type 0} (xs : List A) (x : A) : Type 0 where
  rest : List A
  count : length xs ≡ suc (length rest)
  others : (y : A) → Among xs y → (y ≡ x → ⊥) → Among rest y

without : {A : Type 0} (xs : List A) (x : A) → Among xs x → IsWithout xs x
without [] x has = absurd has
without {A} (y ∷ xs) x has = ⊎_elim
    (λ (is : y ≡ x). record { rest = xs; count = refl; others = λ z there differs. ⊎_elim (λ (same : y ≡ z). absurd (differs (sym same ∙ is))) (λ (more : Among xs z). more) there })
    (λ (more : Among xs x).
    let w = without xs x more in
    record { rest = y ∷ w.rest; count = ap suc w.count; others = λ z there differs. ⊎_elim (λ (same : y ≡ z). inl same) (λ (further : Among xs z). inr (w.others z further differs)) there })
    has

all_at : {A : Type 0} (P : A → Type 0) (xs : List A) (x : A) → AllByRecursion P xs → Among xs x → P x
all_at P [] x all has = absurd has
all_at P (y ∷ xs) x all has = ⊎_elim (λ (is : y ≡ x). subst P is all.0) (λ (more : Among xs x). all_at P xs x all.1 more) has

-- distinct keys that stand in a list are no more than it is long
few_distinct : (xs ys : List (List ℕ)) → IsDistinct bytes_eq xs → ((x : List ℕ) → Among xs x → Among ys x) → length xs ≤ length ys
unfolding IsDistinct
few_distinct [] ys distinct there = omega arith
few_distinct (x ∷ xs) ys distinct there =
    let w = without ys x (there x (inl refl)) in
    let rest = few_distinct xs w.rest distinct.1 (λ y has. w.others y (there y (inr has)) (λ same.
    (let both : true ≡ false = sym ((bytes_eq-Decides x y).1 (sym same)) ∙ all_at (λ z. bytes_eq x z ≡ false) xs y distinct.0 has in cc (both)))) in
    let count = w.count in
    omega (arith, rest, count)

-- DEEDS AND ENTRIES

-- an entry is a change of the attempt
abbrev IsWrite : Transid → ℕ × Event → AuditRecord → Op → Type 0
IsWrite t x r op = (◌≡◌ {A = ℕ × Event} x (x.0, OfDisc (Write r op))) × (t ≡ r.tx)

write_entry : (t : Transid) (x : ℕ × Event) (r : AuditRecord) (op : Op) → deed_in t x ≡ Some (Changed r op) → IsWrite t x r op
write_entry t (q, OfDisc (Write c cop)) r op is = by_case (is_same_transid t c.tx) refl is where
  by_case : (b : Bool) → is_same_transid t c.tx ≡ b → (if b then Some (Changed c cop) else None) ≡ Some (Changed r op) → IsWrite t (q, OfDisc (Write c cop)) r op
  by_case true same is =
      let one : Changed c cop ≡ Changed r op = cc (is) in
      let rec_ : c ≡ r = cc (one) in
      let how : cop ≡ op = cc (one) in
      ((λ i. (q, OfDisc (Write (rec_ i) (how i)))), same_is t c.tx same ∙ ap (λ (u : AuditRecord). u.tx) rec_)
  by_case false other is = absurd (cc (is))
write_entry t (q, OfDisc (Read u file key value)) r op is = by_case (is_same_transid t u) is where
  by_case : (b : Bool) → (if b then Some (Saw file key value) else None) ≡ Some (Changed r op) → IsWrite t (q, OfDisc (Read u file key value)) r op
  by_case true is = (let one : Saw file key value ≡ Changed r op = cc (is) in absurd (cc (one)))
  by_case false is = absurd (cc (is))
write_entry t (q, OfDisc (Lock u file)) r op is = by_case (is_same_transid t u) is where
  by_case : (b : Bool) → (if b then Some (Locked file) else None) ≡ Some (Changed r op) → IsWrite t (q, OfDisc (Lock u file)) r op
  by_case true is = (let one : Locked file ≡ Changed r op = cc (is) in absurd (cc (one)))
  by_case false is = absurd (cc (is))
write_entry t (q, OfDisc (Turn u cause)) r op is = absurd (cc (is))
write_entry t (q, OfDisc (Undo c)) r op is = absurd (cc (is))
write_entry t (q, OfDisc (Close u)) r op is = absurd (cc (is))
write_entry t (q, OfDisc (Release u)) r op is = absurd (cc (is))
write_entry t (q, OfDisc (Draw file block position)) r op is = absurd (cc (is))
write_entry t (q, OfDisc (Drawn file block)) r op is = absurd (cc (is))
write_entry t (q, OfDisc (Low position by)) r op is = absurd (cc (is))
write_entry t (q, OfDisc Lowered) r op is = absurd (cc (is))
write_entry t (q, OfDisc (Start number start item)) r op is = absurd (cc (is))
write_entry t (q, OfDisc (Raise number rest)) r op is = absurd (cc (is))
write_entry t (q, OfDisc (Failed by)) r op is = absurd (cc (is))
write_entry t (q, OfWorker e) r op is = absurd (cc (is))
write_entry t (q, OfTrail e) r op is = absurd (cc (is))
write_entry t (q, OfMonitor e) r op is = absurd (cc (is))
write_entry t (q, OfDump e) r op is = absurd (cc (is))

-- a step that changes its key is that of a change
changing_deed : (deeds : List Deed) (step : Step) → Among (map step_of deeds) step → IsChange step.op → (r : AuditRecord) × (op : Op) × Among deeds (Changed r op) × (step_of (Changed r op) ≡ step)
changing_deed [] step has changes = absurd has
changing_deed (Changed r op ∷ deeds) step has changes = ⊎_elim
    (λ (is : step_of (Changed r op) ≡ step). (r, op, inl refl, is))
    (λ (more : Among (map step_of deeds) step). (let rest = changing_deed deeds step more changes in (rest.0, rest.1, inr rest.2, rest.3)))
    has
changing_deed (Saw file key value ∷ deeds) step has changes = ⊎_elim
    (λ (is : step_of (Saw file key value) ≡ step). absurd (subst (λ (x : Step). IsChange x.op) (sym is) changes))
    (λ (more : Among (map step_of deeds) step). (let rest = changing_deed deeds step more changes in (rest.0, rest.1, inr rest.2, rest.3)))
    has
changing_deed (Locked file ∷ deeds) step has changes = ⊎_elim
    (λ (is : step_of (Locked file) ≡ step). absurd (subst (λ (x : Step). IsChange x.op) (sym is) changes))
    (λ (more : Among (map step_of deeds) step). (let rest = changing_deed deeds step more changes in (rest.0, rest.1, inr rest.2, rest.3)))
    has

put_room : (s : DiscPart) (values : RecordMap) (file : ℕ) (key : List ℕ) (op : Op) → IsPut op → HasRoomAt s values file key op → HasRoomFor s values file key
put_room s values file key (Put value) puts room = room
put_room s values file key (Add amount) puts room = absurd puts
put_room s values file key Del puts room = absurd puts
put_room s values file key ReadOp puts room = absurd puts
put_room s values file key LockOp puts room = absurd puts

-- the room at maps with the same values is the same
pub no_room-agree : (config : Config) (steps : List Step) (one other : RecordMap) (step : Step) → Agree one other → FindsNoRoom config steps one step → FindsNoRoom config steps other step
no_room-agree config steps one other step same full = record {
  puts = full.puts;
  absent = sym (same step.file step.key) ∙ full.absent;
  unchanged = full.unchanged;
  keys = full.keys;
  many = full.many;
  distinct = full.distinct;
  each = λ key has.
      (let takes = full.each key has in
      record { home = takes.home; taken = ⊎_elim (λ some. inl (subst (λ (v : Option (List ℕ)). IsSome v) (same step.file key) some)) (λ changed. inr changed) takes.taken });
}

module _ (law : EventsLaw) (live_law : LiveLaw) (rules : ℕ → Rules) (images : ℕ → Held) (bases dumps : ℕ → Option Base) (list : List MonitorRecord) (map_ : RecordMap) (found : Found)
    (o : IsOpening rules images bases dumps list map_ found) (log : Log) (history : IsHistory node (opening_parts found) log) (t : Transid) (from : RecordMap)
    (alone : IsAlwaysAlone law live_law rules images bases dumps list map_ found o log history t from) where
  abbrev now : Log → List PartState
  now front = states_after node (opening_parts found) front

  -- A MOMENT AT WHICH IT ACTS

  module _ (front rest : Log) (x : ℕ × Event) (s : DiscPart) (cut : log ≡ front ++ x ∷ rest) (here : slice_get (now front) (disc_part s.number) ≡ Some (Disc s)) (acts : MayAct s t)
      (listed : IsTrueIn node (now front) (Enlisted t s.number)) where
    front_is : IsHistory node (opening_parts found) front
    front_is = front_log law found log front (x ∷ rest) cut history

    config_is : s.config ≡ found.config
    config_is = (has_values rules images bases dumps list map_ found o front front_is (disc_part s.number) s here).0

    abbrev map_now : RecordMap
    map_now = after_deeds (deeds_of t front) from

    abbrev steps_now : List Step
    steps_now = steps_done t front

    -- a key that is held by a change was changed by one of its steps
    changed_by : (file : ℕ) (key : List ℕ) → is_changing s.events file key ≡ true → IsChangedBy steps_now file key
    changed_by file key is =
        let by = (are_changes found front front_is (disc_part s.number) s here).made_by file key is in
        let free : IsNoOther (key_holder s.events file key) t = (alone front rest x s cut here acts listed).keys file key in
        let it : by.h ≡ t = it_is by.h t (subst (λ (h : Option Transid). IsNoOther h t) by.held free) in
        let entry : ℕ × Event = (disc_part s.number, OfDisc (Write by.r by.op)) in
        let there : Among front entry = stands law found front (disc_part s.number) (Disc s) (OfDisc (Write by.r by.op)) front_is here (among_map (λ e. OfDisc e) s.events (Write by.r by.op) by.has) in
        let own : is_same_transid t by.r.tx ≡ true = subst (λ (u : Transid). is_same_transid t u ≡ true) (sym (by.tx ∙ it)) (same_self t) in
        let deed : Among (deeds_of t front) (Changed by.r by.op) = subst (λ (l : List Deed). Among l (Changed by.r by.op)) (sym (deeds_filtered t front))
        (among_given (deed_in t) front entry (Changed by.r by.op) there (ap (λ (b : Bool). if b then Some (Changed by.r by.op) else None) own)) in
        record { step = step_of (Changed by.r by.op); has = among_map step_of (deeds_of t front) (Changed by.r by.op) deed; changes = by.changes; file_is = by.file_is; key_is = by.key_is }

    -- and the other way round, on a file of the disc
    changing : (file : ℕ) (key : List ℕ) → IsHere s file → IsChangedBy steps_now file key → is_changing s.events file key ≡ true
    changing file key is_here by =
        let deed = changing_deed (deeds_of t front) by.step by.has by.changes in
        let r = deed.0 in
        let op = deed.1 in
        let entry = given_by (deed_in t) front (Changed r op) (subst (λ (l : List Deed). Among l (Changed r op)) (deeds_filtered t front) deed.2) in
        let is = write_entry t entry.0 r op entry.2 in
        let there : Among front (entry.0.0, OfDisc (Write r op)) = subst (λ (y : ℕ × Event). Among front y) is.0 entry.1 in
        let r_file : r.file ≡ file = ap (λ (y : Step). y.file) deed.3 ∙ by.file_is in
        let r_key : r.key ≡ key = ap (λ (y : Step). y.key) deed.3 ∙ by.key_is in
        let part = part_is entry.0.0 r op there (ap (λ (n : ℕ). volume_of s.config n) r_file ∙ is_here) in
        let mine : Among s.events (Write r op) = among_disc s.events (Write r op) (had law found front (disc_part s.number) (Disc s) (OfDisc (Write r op)) front_is here (subst (λ (n : ℕ). Among front (n, OfDisc (Write r op))) part there)) in
        let making = (are_changes found front front_is (disc_part s.number) s here).making r op mine (subst (λ (u : Transid). has_released s.events u ≡ false) is.1 acts.unreleased) in
        (λ i. is_changing s.events (sym r_file i) (sym r_key i)) ∙ making.0
      where
        -- a change stands at the disc of its file
        part_is : (q : ℕ) (r : AuditRecord) (op : Op) → Among front (q, OfDisc (Write r op)) → volume_of s.config r.file ≡ s.number → q ≡ disc_part s.number
        part_is q r op there on =
            let c = among_cut front (q, OfDisc (Write r op)) there in
            let b_is = front_log law found front c.0 ((q, OfDisc (Write r op)) ∷ c.1) c.2 front_is in
            at_moment c.0 b_is (next_enabled law found front c.0 c.1 (q, OfDisc (Write r op)) c.2 front_is)
          where
            at_moment : (b : Log) → IsHistory node (opening_parts found) b → IsEnabled node (now b) (q, OfDisc (Write r op)) → q ≡ disc_part s.number
            at_moment b b_is (Disc u, at, may, asks) =
                let c_is = (has_values rules images bases dumps list map_ found o b b_is q u at).0 in
                let same : u.number ≡ s.number = sym may.takes.here ∙ (ap (λ c. volume_of c r.file) (c_is ∙ sym config_is) ∙ on) in
                parts_placed found b b_is q (Disc u) at ∙ ap (λ (n : ℕ). disc_part n) same
            at_moment b b_is (_, at, may, asks) = absurd may

    -- the values of the disc's files are those of the map
    value_is : (entries : List Entry) → s.base ≡ Some entries → (file : ℕ) (key : List ℕ) → IsHere s file → values_after (map_of entries) s.events file key ≡ map_now file key
    value_is entries told file key is_here =
        let v = present law live_law rules images bases dumps list map_ found o log history t from alone front rest x s file key cut here acts listed is_here in
        let both : Some v.0 ≡ Some entries = sym v.1 ∙ told in
        let one : v.0 ≡ entries = cc (both) in
        ap (λ (e : List Entry). values_after (map_of e) s.events file key) (sym one) ∙ v.2

    home_is : (file : ℕ) (key : List ℕ) → home_block s.config file key ≡ home_block found.config file key
    home_is file key = ap (λ c. home_block c file key) config_is

    -- where there is room at the disc, the step finds room
    has_room : (entries : List Entry) → s.base ≡ Some entries → (step : Step) → IsHere s step.file → HasRoomFor s (values_after (map_of entries) s.events) step.file step.key → FindsNoRoom found.config steps_now map_now step → ⊥
    has_room entries told step is_here (inl takes) full = ⊎_elim
        (λ some. (let none : IsSome {T = List ℕ} None = subst (λ (v : Option (List ℕ)). IsSome v) (value_is entries told step.file step.key is_here ∙ full.absent) some in cc (none)))
        (λ changed. full.unchanged (changed_by step.file step.key changed))
        takes
    has_room entries told step is_here (inr few) full =
        let short : length full.keys ≤ length few.0 = few_distinct full.keys few.0 full.distinct (λ key has.
        (let takes = full.each key has in
        few.2 key (home_is step.file key ∙ (takes.home ∙ sym (home_is step.file step.key)))
        (⊎_elim (λ some. inl (subst (λ (v : Option (List ℕ)). IsSome v) (sym (value_is entries told step.file key is_here)) some)) (λ changed. inr (changing step.file key is_here changed)) takes.taken))) in
        let less = few.1 in
        let many = full.many in
        omega (arith, short, less, many)

    -- and where there is none, it finds none
    no_room : (entries : List Entry) → s.base ≡ Some entries → (step : Step) → IsHere s step.file → IsPut step.op → HasNoRoomFor s (values_after (map_of entries) s.events) step.file step.key → FindsNoRoom found.config steps_now map_now step
    no_room entries told step is_here puts full = record {
      puts = puts;
      absent = sym (value_is entries told step.file step.key is_here) ∙ full.absent;
      unchanged = λ changed. (let both : true ≡ false = sym (changing step.file step.key is_here changed) ∙ full.unchanged in cc (both));
      keys = full.keys;
      many = full.many;
      distinct = full.distinct;
      each = λ key has.
          (let takes = full.each key has in
          record {
            home = sym (home_is step.file key) ∙ (takes.0 ∙ home_is step.file step.key);
            taken = ⊎_elim (λ some. inl (subst (λ (v : Option (List ℕ)). IsSome v) (value_is entries told step.file key is_here) some)) (λ changed. inr (changed_by step.file key changed)) takes.1;
          });
    }

  -- EACH STEP

  -- the deed has found room behind these ones
  abbrev pub HasRoomAfter : List Deed → Deed → Type 0
  HasRoomAfter deeds (Changed r op) = FindsNoRoom found.config (map step_of deeds) (after_deeds deeds from) (step_of (Changed r op)) → ⊥
  HasRoomAfter deeds (Saw file key value) = Unit {0}
  HasRoomAfter deeds (Locked file) = Unit {0}

  room_at : (front rest : Log) (x : ℕ × Event) (deed : Deed) → log ≡ front ++ x ∷ rest → deed_in t x ≡ Some deed → IsEnabled node (now front) x → HasRoomAfter (deeds_of t front) deed
  room_at front rest x (Saw file key value) cut is enabled = tt
  room_at front rest x (Locked file) cut is enabled = tt
  room_at front rest x (Changed r op) cut is enabled =
      let e = write_entry t x r op is in
      of_write x.0 (cut ∙ ap (λ (y : ℕ × Event). front ++ y ∷ rest) e.0) e.1 (subst (λ (y : ℕ × Event). IsEnabled node (now front) y) e.0 enabled)
    where
      of_write : (q : ℕ) → log ≡ front ++ (q, OfDisc (Write r op)) ∷ rest → t ≡ r.tx → IsEnabled node (now front) (q, OfDisc (Write r op)) → FindsNoRoom found.config (steps_done t front) (after_deeds (deeds_of t front) from) (step_of (Changed r op)) → ⊥
      of_write q whole one (Disc s, at, may, asks) full =
          let h = front_log law found log front ((q, OfDisc (Write r op)) ∷ rest) whole history in
          let here = part_of law live_law rules images bases dumps list map_ found o log history t from alone front h q s at in
          let acts : MayAct s t = subst (λ (u : Transid). MayAct s u) (sym one) may.takes.acts in
          let listed : IsTrueIn node (now front) (Enlisted t s.number) = subst (λ (u : Transid). IsTrueIn node (now front) (Enlisted u s.number)) (sym one) asks in
          let v = has_values rules images bases dumps list map_ found o front h q s at in
          let tells = of_told s.base v.1.0 s.events (λ values. TellsChange s r op values) v.1.1 may.told in
          has_room front rest (q, OfDisc (Write r op)) s whole here acts listed v.1.0 v.1.1 (step_of (Changed r op)) may.takes.here
          (put_room s (values_after (map_of v.1.0) s.events) r.file r.key op full.puts tells.room) full
      of_write q whole one (_, at, may, asks) full = absurd may

  -- each of these deeds has found room behind those before it
  abbrev pub HaveRoom : List Deed → List Deed → Type 0
  HaveRoom before [] = Unit {0}
  HaveRoom before (deed ∷ deeds) = HasRoomAfter before deed × HaveRoom (before ++ deed ∷ []) deeds

  room_next : (front rest : Log) (x : ℕ × Event) → log ≡ front ++ x ∷ rest → (deed : Option Deed) → deed_in t x ≡ deed → HaveRoom (deeds_of t (front ++ x ∷ [])) (deeds_of t rest) → HaveRoom (deeds_of t front) (deeds_of t (x ∷ rest))
  room_next front rest x cut None is more =
      let same : deeds_of t (front ++ x ∷ []) ≡ deeds_of t front = deeds_append t front (x ∷ []) ∙ ap (λ (l : List Deed). deeds_of t front ++ l) (deeds_step t x [] ∙ ap (λ (d : Option Deed). cons_option d []) is) ∙ append-nil (deeds_of t front) in
      let rest_is : deeds_of t rest ≡ deeds_of t (x ∷ rest) = sym (deeds_step t x rest ∙ ap (λ (d : Option Deed). cons_option d (deeds_of t rest)) is) in
      subst (λ (l : List Deed). HaveRoom (deeds_of t front) l) rest_is (subst (λ (l : List Deed). HaveRoom l (deeds_of t rest)) same more)
  room_next front rest x cut (Some deed) is more =
      let same : deeds_of t (front ++ x ∷ []) ≡ deeds_of t front ++ deed ∷ [] = deeds_append t front (x ∷ []) ∙ ap (λ (l : List Deed). deeds_of t front ++ l) (deeds_step t x [] ∙ ap (λ (d : Option Deed). cons_option d []) is) in
      let all_are : deed ∷ deeds_of t rest ≡ deeds_of t (x ∷ rest) = sym (deeds_step t x rest ∙ ap (λ (d : Option Deed). cons_option d (deeds_of t rest)) is) in
      subst (λ (l : List Deed). HaveRoom (deeds_of t front) l) all_are
      (room_at front rest x deed cut is (next_enabled law found log front rest x cut history), subst (λ (l : List Deed). HaveRoom l (deeds_of t rest)) same more)

  pub room_behind : (front rest : Log) → log ≡ front ++ rest → HaveRoom (deeds_of t front) (deeds_of t rest)
  room_behind front [] cut = tt
  room_behind front (x ∷ rest) cut = room_next front rest x cut (deed_in t x) refl (room_behind (front ++ x ∷ []) rest (cut ∙ sym (append_assoc front (x ∷ []) rest)))

  pub room_nth : (before deeds : List Deed) (n : ℕ) (deed : Deed) → HaveRoom before deeds → slice_get deeds n ≡ Some deed → HasRoomAfter (before ++ take n deeds) deed
  room_nth before [] n deed have at = absurd (cc (at))
  room_nth before (d ∷ deeds) zero deed have at =
      let same : d ≡ deed = cc (at) in
      subst (λ (l : List Deed). HasRoomAfter l deed) (sym (append-nil before)) (subst (λ (u : Deed). HasRoomAfter before u) same have.0)
  room_nth before (d ∷ deeds) (suc n) deed have at =
      subst (λ (l : List Deed). HasRoomAfter l deed) (append_assoc before (d ∷ []) (take n deeds)) (room_nth (before ++ d ∷ []) deeds n deed have.1 at)

  -- a step that found no room has none
  pub full_at : (front rest : Log) (q : ℕ) (step : Step) → log ≡ front ++ (q, OfDisc (Turn t (Full step))) ∷ rest → IsEnabled node (now front) (q, OfDisc (Turn t (Full step)))
      → FindsNoRoom found.config (steps_done t front) (after_deeds (deeds_of t front) from) step
  full_at front rest q step cut (Disc s, at, may, asks) =
      let h = front_log law found log front ((q, OfDisc (Turn t (Full step))) ∷ rest) cut history in
      let here = part_of law live_law rules images bases dumps list map_ found o log history t from alone front h q s at in
      let v = has_values rules images bases dumps list map_ found o front h q s at in
      no_room front rest (q, OfDisc (Turn t (Full step))) s cut here may.0.acts asks v.1.0 v.1.1 step may.0.here may.1
      (of_told s.base v.1.0 s.events (λ values. HasNoRoomFor s values step.file step.key) v.1.1 may.2)
  full_at front rest q step cut (_, at, may, asks) = absurd may
