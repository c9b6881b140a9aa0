-- What stands at the keys of a disc, behind each event; and so no block of a volume that told its values is too full for a step, nor for what a change took away.
use Rattle.std.proofs.Common.{◌≡◌, ◌≢◌, ◌⊎◌, inl, inr, ⊎_elim, ℕ, ◌+◌, ◌<◌, ◌≤◌, ◌==◌, ◌&&◌, ◌||◌, Bool, true, false, List, [], ◌∷◌, ◌++◌, length, drop, Option, Some, None, Result, Ok, cond, bytes_eq, length-append, nat_lt, refl, ap, sym, ◌∙◌, subst, arith}
use Rattle.std.specs.List.{IsDistinct, list_any}
use Rattle.std.specs.Map.{keys_of, lookup}
use Rattle.std.specs.Option.{IsSome, is_some, option_or}
use Rattle.std.proofs.lemmas.Bool.{cases_eq, ltb-false, ltb-true}
use Rattle.std.proofs.lemmas.Cmp.{nat_eq_equiv}
use Rattle.std.proofs.lemmas.Map.Entries.{length-keys_of}
use Rattle.std.proofs.lemmas.Map.Made.{is_some-lookup, length-le_from_is_member}
use Rattle.disk_model.specs.Held.{Held}
use Rattle.keyed_file.specs.Block.{IsBlock, KeyedBlock, has_key, new_keys, taken_keys, value_at}
use Rattle.keyed_file.specs.Volume.{blocks_of as label_blocks}
use Rattle.tmf_model.specs.Effect.{applied}
use Rattle.tmf_model.specs.RecordMap.{RecordMap, with_value}
use Rattle.tmf_model.specs.declared.script.Op.{Op}
use Rattle.tmf_model.specs.declared.script.Op.TheVariants.{Put, Add, Del, Read, Lock}
use Rattle.tmf_model.specs.declared.script.Step.{Step}
use Rattle.tmf_model.specs.declared.transid.Transid.{Transid}
use Rattle.trail_files.specs.MonitorOrder.{is_same_transid}
use Rattle.trail_files.specs.declared.audit_record.AuditRecord.{AuditRecord}
use Rattle.node_machine.specs.Disc.{HasRoomAt, HasRoomFor, OfValues, IsChange, IsNoOther, TakesRoom, TellsChange}
use Rattle.node_machine.specs.Made.{blocks_of, changes_left, file_holder, freed, has_released, holder, home_block, is_changing, kept_from, key_holder, map_of, values_after, volume_of}
use Rattle.node_machine.specs.Parts.{DiscPart, Entry}
use Rattle.node_machine.specs.Same.{Among, is_same_key}
use Rattle.node_machine.specs.SameLaws.{same_is, same_self}
use Rattle.node_machine.specs.declared.event.DiscEvent.{DiscEvent}
use Rattle.node_machine.specs.declared.event.DiscEvent.TheVariants as did
use Rattle.block_cache.specs.Blocks.{View}
use Rattle.disc_process.specs.Blocks.{IsHome, cached}
use Rattle.disc_process.specs.declared.found.Found.{Found}
use Rattle.disc_process.specs.declared.found.Found.TheVariants as found
use Rattle.disc_process.specs.declared.live.Change.{Change}
use Rattle.disc_process.specs.Disc.{AreHomes, FindsIn, HoldsOpening, HoldsValues, IsHolding, ToldBy, hold_event}
use Rattle.disc_process.specs.Keys.{HasRoomIn, HoldsKeys, HoldsMap, IsHeldFor, LeadTo, MapTold}
use Rattle.disc_process.specs.Release.{with_event}
use Rattle.disc_process.specs.Undo.{IsNewest, home_of_change, takes_back}
use Rattle.disc_process.proofs.Caches.{home_small}
use Rattle.disc_process.proofs.Founds.{CrowdedStep, crowded}
use Rattle.disc_process.proofs.Keeping.{Leaves, LeavesLocks, hold_keys, hold_writing, leaves_hold}
use Rattle.disc_process.proofs.Locking.{HoldsAlone, same_parts}
use Rattle.disc_process.proofs.Telling.{among_any, and_first, any_among, any_false, both_true, bytes_equiv, bytes_same, distinct_keys, or_cases, value_here}

-- THE SAME KEY

same_key_self : (f : ℕ) (k : List ℕ) → is_same_key f k f k ≡ true
same_key_self f k = both_true (f == f) (bytes_eq k k) (nat_eq_equiv.refl f) (bytes_equiv.refl k)

-- the value at a key that was set, and at any other
set_here : (f g : ℕ) (k q : List ℕ) (v : Option (List ℕ)) (m : RecordMap) → is_same_key g q f k ≡ true → with_value f k v m g q ≡ v
set_here f g k q v m e = ap (λ b. cond b v (m g q)) e

set_else : (f g : ℕ) (k q : List ℕ) (v : Option (List ℕ)) (m : RecordMap) → is_same_key g q f k ≡ false → with_value f k v m g q ≡ m g q
set_else f g k q v m e = ap (λ b. cond b v (m g q)) e

-- WHAT LEADS TO A VALUE

-- where none of the changes is of the key, any value
leads_none : (f : ℕ) (k : List ℕ) (rs : List AuditRecord) (v : Option (List ℕ)) → ((r : AuditRecord) → Among rs r → is_same_key f k r.file r.key ≡ false) → LeadTo f k rs v
leads_none f k [] v none = tt
leads_none f k (r ∷ rs) v none = ((λ e. absurd (cc (e, none r (inl refl)))), λ e. leads_none f k rs v (λ x h. none x (inr h)))

leads_same : (f : ℕ) (k : List ℕ) (rs qs : List AuditRecord) (v w : Option (List ℕ)) → qs ≡ rs → w ≡ v → LeadTo f k rs v → LeadTo f k qs w
leads_same f k rs qs v w a b h = subst (λ (x : List AuditRecord × Option (List ℕ)). LeadTo f k x.0 x.1) (λ j. (sym a j, sym b j)) h

-- A PART THAT IS THE SAME

pub keys_same : (s t : DiscPart) → t ≡ s → HoldsKeys s → HoldsKeys t
keys_same s t same h = subst HoldsKeys (sym same) h

map_by : (s t : DiscPart) (base : Option (List Entry)) → ((values : RecordMap) → HoldsMap s (values_after values s.events) → HoldsMap t (values_after values t.events)) → MapTold s base → MapTold t base
map_by s t None more h = tt
map_by s t (Some entries) more h = more (map_of entries) h

-- AN EVENT THAT CHANGES NO VALUE AND FREES NOTHING

-- what such an event leaves: who holds a key still does
pub record LeavesKeys (s : DiscPart) (e : DiscEvent) : Type 0 where
  pub released : (t : Transid) → has_released (e ∷ s.events) t ≡ has_released s.events t
  pub left : (t : Transid) → changes_left (e ∷ s.events) t ≡ changes_left s.events t
  pub values : (base : RecordMap) → values_after base (e ∷ s.events) ≡ values_after base s.events
  pub keys : (f : ℕ) (k : List ℕ) (t : Transid) → key_holder s.events f k ≡ Some t → key_holder (e ∷ s.events) f k ≡ Some t
  pub changing : (f : ℕ) (k : List ℕ) → is_changing (e ∷ s.events) f k ≡ is_changing s.events f k

takes_before : (s : DiscPart) (e : DiscEvent) → LeavesKeys s e → (m : RecordMap) (f : ℕ) (k : List ℕ) → TakesRoom m (e ∷ s.events) f k → TakesRoom m s.events f k
takes_before s e leaves m f k (inl some) = inl some
takes_before s e leaves m f k (inr changing) = inr (sym (leaves.changing f k) ∙ changing)

pub keys_left : (s : DiscPart) (e : DiscEvent) → LeavesKeys s e → HoldsKeys s → HoldsKeys (with_event s e)
keys_left s e leaves h = record {
  left = λ t r unreleased there.
      (let was = h.left t r (sym (leaves.released t) ∙ unreleased) (subst (λ (rs : List AuditRecord). Among rs r) (leaves.left t) there) in
      record { holder = leaves.keys r.file r.key t was.holder; changing = leaves.changing r.file r.key ∙ was.changing; some = was.some });
  map_told = map_by s (with_event s e) s.base (λ base m. record {
    leads = λ t f k unreleased. leads_same f k (changes_left s.events t) (changes_left (e ∷ s.events) t) (values_after base s.events f k) (values_after base (e ∷ s.events) f k) (leaves.left t) (ap (λ (x : RecordMap). x f k) (leaves.values base)) (m.leads t f k (sym (leaves.released t) ∙ unreleased));
    room = λ f n here.
        (let was = m.room f n here in
        (was.0, was.1, λ k home takes. was.2 k home (takes_before s e leaves (values_after base s.events) f k (subst (λ (x : RecordMap). TakesRoom x (e ∷ s.events) f k) (leaves.values base) takes))));
  }) h.map_told;
}

-- who holds a key that is free for a transaction is that one
held_by : (s : DiscPart) (f : ℕ) (k : List ℕ) (t u : Transid) → HoldsAlone s.events → IsNoOther (holder s.events f k) t → key_holder s.events f k ≡ Some u → u ≡ t
held_by s f k t u alone free is = by (file_holder s.events f) refl
  where
    of : holder s.events f k ≡ Some u → IsNoOther (holder s.events f k) t → u ≡ t
    of at (inl none) = (let both : None ≡ Some u = sym none ∙ at in absurd (cc (both)))
    of at (inr some) = (let both : Some u ≡ Some t = sym at ∙ some in cc (both))

    by : (o : Option Transid) → file_holder s.events f ≡ o → u ≡ t
    by None e = of (ap (λ (x : Option Transid). option_or x (key_holder s.events f k)) e ∙ is) free
    by (Some h) e =
        let same : u ≡ h = alone f k h u e is in
        of (ap (λ (x : Option Transid). option_or x (key_holder s.events f k)) e ∙ ap (λ (x : Transid). Some x) (sym same)) free

-- an event by which a transaction holds a key that was free for it
pub keys_taken : (s : DiscPart) (f : ℕ) (k : List ℕ) (t : Transid) → HoldsAlone s.events → IsNoOther (holder s.events f k) t → (g : ℕ) (q : List ℕ) (u : Transid) → key_holder s.events g q ≡ Some u
    → cond (is_same_key g q f k) (Some t) (key_holder s.events g q) ≡ Some u
keys_taken s f k t alone free g q u is = of (is_same_key g q f k) refl
  where
    of : (b : Bool) → is_same_key g q f k ≡ b → cond b (Some t) (key_holder s.events g q) ≡ Some u
    of true e =
        let p = same_parts g f q k e in
        let there : key_holder s.events f k ≡ Some u = ap (λ (x : ℕ × List ℕ). key_holder s.events x.0 x.1) (λ j. (sym p.0 j, sym p.1 j)) ∙ is in
        ap (λ (x : Transid). Some x) (sym (held_by s f k t u alone free there))
    of false e = is

-- A CHANGE

module _ (s : DiscPart) (r : AuditRecord) (op : Op) (alone : HoldsAlone s.events) (h : HoldsKeys s) (free : IsNoOther (holder s.events r.file r.key) r.tx) where
  held_still : (t : Transid) (x : AuditRecord) → IsHeldFor s.events t x → IsHeldFor (did.Write r op ∷ s.events) t x
  held_still t x was = record {
    holder = keys_taken s r.file r.key r.tx alone free x.file x.key t was.holder;
    changing = either (is_same_key x.file x.key r.file r.key);
    some = was.some;
  }
    where
      either : (b : Bool) → cond b true (is_changing s.events x.file x.key) ≡ true
      either true = refl
      either false = was.changing

  held_new : (t : Transid) → is_same_transid r.tx t ≡ true → (is_some r.before || is_some r.after) ≡ true → IsHeldFor (did.Write r op ∷ s.events) t r
  held_new t same some = record {
    holder = ap (λ b. cond b (Some r.tx) (key_holder s.events r.file r.key)) (same_key_self r.file r.key) ∙ ap (λ (x : Transid). Some x) (same_is r.tx t same);
    changing = ap (λ b. cond b true (is_changing s.events r.file r.key)) (same_key_self r.file r.key);
    some = some;
  }

  left_written : (is_some r.before || is_some r.after) ≡ true → (t : Transid) (x : AuditRecord) → has_released s.events t ≡ false → (b : Bool) → is_same_transid r.tx t ≡ b
      → Among (cond b (r ∷ changes_left s.events t) (changes_left s.events t)) x → IsHeldFor (did.Write r op ∷ s.events) t x
  left_written some t x unreleased true e (inl is) = subst (λ (y : AuditRecord). IsHeldFor (did.Write r op ∷ s.events) t y) is (held_new t e some)
  left_written some t x unreleased true e (inr there) = held_still t x (h.left t x unreleased there)
  left_written some t x unreleased false e there = held_still t x (h.left t x unreleased there)

  -- of another transaction no change of the key is left
  apart_left : (t : Transid) → has_released s.events t ≡ false → is_same_transid r.tx t ≡ false → (f : ℕ) (k : List ℕ) → is_same_key f k r.file r.key ≡ true → (x : AuditRecord) → Among (changes_left s.events t) x → is_same_key f k x.file x.key ≡ false
  apart_left t unreleased other f k here x there = of (is_same_key f k x.file x.key) refl
    where
      of : (b : Bool) → is_same_key f k x.file x.key ≡ b → b ≡ false
      of false e = refl
      of true e =
          let p = same_parts f r.file k r.key here in
          let q = same_parts f x.file k x.key e in
          let at : key_holder s.events r.file r.key ≡ Some t = ap (λ (y : ℕ × List ℕ). key_holder s.events y.0 y.1) (λ j. ((sym p.0 ∙ q.0) j, (sym p.1 ∙ q.1) j)) ∙ (h.left t x unreleased there).holder in
          let same : t ≡ r.tx = held_by s r.file r.key r.tx t alone free at in
          let both : is_same_transid r.tx t ≡ true = ap (λ (y : Transid). is_same_transid r.tx y) same ∙ same_self r.tx in
          absurd (cc (both, other))

  module _ (values : RecordMap) (m : HoldsMap s values) (tells : TellsChange s r op values) (changes : IsChange op) where
    leads_written : (t : Transid) (f : ℕ) (k : List ℕ) → has_released s.events t ≡ false → (b : Bool) → is_same_transid r.tx t ≡ b
        → LeadTo f k (cond b (r ∷ changes_left s.events t) (changes_left s.events t)) (with_value r.file r.key r.after values f k)
    leads_written t f k unreleased true e = (
      (λ here.
          (let p = same_parts f r.file k r.key here in
          let was : r.before ≡ values f k = tells.before ∙ ap (λ (x : ℕ × List ℕ). values x.0 x.1) (λ j. (sym p.0 j, sym p.1 j)) in
          (sym (set_here r.file f r.key k r.after values here), subst (λ (v : Option (List ℕ)). LeadTo f k (changes_left s.events t) v) (sym was) (m.leads t f k unreleased)))),
      λ else_. subst (λ (v : Option (List ℕ)). LeadTo f k (changes_left s.events t) v) (sym (set_else r.file f r.key k r.after values else_)) (m.leads t f k unreleased),
    )
    leads_written t f k unreleased false e = of (is_same_key f k r.file r.key) refl
      where
        of : (b : Bool) → is_same_key f k r.file r.key ≡ b → LeadTo f k (changes_left s.events t) (with_value r.file r.key r.after values f k)
        of true here = leads_none f k (changes_left s.events t) (with_value r.file r.key r.after values f k) (apart_left t unreleased e f k here)
        of false else_ = subst (λ (v : Option (List ℕ)). LeadTo f k (changes_left s.events t) v) (sym (set_else r.file f r.key k r.after values else_)) (m.leads t f k unreleased)

    some_before : (before : Option (List ℕ)) → applied op before ≡ Ok r.after → (o : Op) → op ≡ o → IsChange o → HasRoomAt s values r.file r.key o → before ≡ values r.file r.key → HasRoomFor s values r.file r.key
    some_before before gives (Put v) is c room at = room
    some_before None gives (Add n) is c room at = (let bad = sym (ap (λ (o : Op). applied o None) is) ∙ gives in absurd (cc (bad)))
    some_before (Some b) gives (Add n) is c room at = inl (inl (ap is_some (sym at)))
    some_before None gives Del is c room at = (let bad = sym (ap (λ (o : Op). applied o None) is) ∙ gives in absurd (cc (bad)))
    some_before (Some b) gives Del is c room at = inl (inl (ap is_some (sym at)))
    some_before before gives Read is c room at = absurd c
    some_before before gives Lock is c room at = absurd c

    takes_else : (f : ℕ) (k : List ℕ) → is_same_key f k r.file r.key ≡ false → TakesRoom (with_value r.file r.key r.after values) (did.Write r op ∷ s.events) f k → TakesRoom values s.events f k
    takes_else f k e (inl some) = inl (ap is_some (sym (set_else r.file f r.key k r.after values e)) ∙ some)
    takes_else f k e (inr changing) = inr (sym (ap (λ b. cond b true (is_changing s.events f k)) e) ∙ changing)

    room_written : (f n : ℕ) → volume_of s.config f ≡ s.number → HasRoomIn (with_event s (did.Write r op)) (with_value r.file r.key r.after values) f n
    room_written f n here = of (some_before r.before tells.after op refl changes tells.room tells.before)
      where
        was : HasRoomIn s values f n
        was = m.room f n here

        as_before : TakesRoom values s.events r.file r.key → (k : List ℕ) → home_block s.config f k ≡ n → TakesRoom (with_value r.file r.key r.after values) (did.Write r op ∷ s.events) f k → (b : Bool) → is_same_key f k r.file r.key ≡ b → Among was.0 k
        as_before takes k home now true e =
            let p = same_parts f r.file k r.key e in
            was.2 k home (subst (λ (x : ℕ × List ℕ). TakesRoom values s.events x.0 x.1) (λ j. (sym p.0 j, sym p.1 j)) takes)
        as_before takes k home now false e = was.2 k home (takes_else f k e now)

        apart : (f ≢ r.file) ⊎ (n ≢ home_block s.config r.file r.key) → (k : List ℕ) → home_block s.config f k ≡ n → TakesRoom (with_value r.file r.key r.after values) (did.Write r op ∷ s.events) f k → (b : Bool) → is_same_key f k r.file r.key ≡ b → Among was.0 k
        apart away k home now false e = was.2 k home (takes_else f k e now)
        apart (inl file) k home now true e = absurd (file (same_parts f r.file k r.key e).0)
        apart (inr number) k home now true e =
            let p = same_parts f r.file k r.key e in
            absurd (number (sym home ∙ ap (λ (x : ℕ × List ℕ). home_block s.config x.0 x.1) (λ j. (p.0 j, p.1 j))))

        one_more : (c : (keys : List (List ℕ)) × (length keys < 62) × ((other : List ℕ) → home_block s.config r.file other ≡ home_block s.config r.file r.key → TakesRoom values s.events r.file other → Among keys other))
            → f ≡ r.file → n ≡ home_block s.config r.file r.key → (k : List ℕ) → home_block s.config f k ≡ n → TakesRoom (with_value r.file r.key r.after values) (did.Write r op ∷ s.events) f k → (b : Bool) → is_same_key f k r.file r.key ≡ b → Among (r.key ∷ c.0) k
        one_more c file number k home now true e = inl (sym (same_parts f r.file k r.key e).1)
        one_more c file number k home now false e =
            inr (c.2 k (ap (λ (x : ℕ). home_block s.config x k) (sym file) ∙ home ∙ number) (subst (λ (x : ℕ). TakesRoom values s.events x k) file (takes_else f k e now)))

        with_room : (c : (keys : List (List ℕ)) × (length keys < 62) × ((other : List ℕ) → home_block s.config r.file other ≡ home_block s.config r.file r.key → TakesRoom values s.events r.file other → Among keys other))
            → (f ≡ r.file) ⊎ (f ≢ r.file) → (n ≡ home_block s.config r.file r.key) ⊎ (n ≢ home_block s.config r.file r.key) → HasRoomIn (with_event s (did.Write r op)) (with_value r.file r.key r.after values) f n
        with_room c (inl file) (inl number) = (r.key ∷ c.0, (let few = c.1 in omega (arith, few)), λ k home now. one_more c file number k home now (is_same_key f k r.file r.key) refl)
        with_room c (inr file) number = (was.0, was.1, λ k home now. apart (inl file) k home now (is_same_key f k r.file r.key) refl)
        with_room c (inl file) (inr number) = (was.0, was.1, λ k home now. apart (inr number) k home now (is_same_key f k r.file r.key) refl)

        of : HasRoomFor s values r.file r.key → HasRoomIn (with_event s (did.Write r op)) (with_value r.file r.key r.after values) f n
        of (inl takes) = (was.0, was.1, λ k home now. as_before takes k home now (is_same_key f k r.file r.key) refl)
        of (inr c) = with_room c (cases_eq f r.file) (cases_eq n (home_block s.config r.file r.key))

    map_written : HoldsMap (with_event s (did.Write r op)) (with_value r.file r.key r.after values)
    map_written = record { leads = λ t f k unreleased. leads_written t f k unreleased (is_same_transid r.tx t) refl; room = room_written }

  map_of_write : (base : Option (List Entry)) → MapTold s base → OfValues base s.events (TellsChange s r op) → IsChange op → MapTold (with_event s (did.Write r op)) base
  map_of_write None m tells changes = tt
  map_of_write (Some entries) m tells changes = map_written (values_after (map_of entries) s.events) m tells changes

  pub keys_written : (is_some r.before || is_some r.after) ≡ true → OfValues s.base s.events (TellsChange s r op) → IsChange op → HoldsKeys (with_event s (did.Write r op))
  keys_written some tells changes = record {
    left = λ t x unreleased there. left_written some t x unreleased (is_same_transid r.tx t) refl there;
    map_told = map_of_write s.base h.map_told tells changes;
  }

-- AN UNDO

among_rest : (rs : List AuditRecord) (x : AuditRecord) → Among (drop 1 rs) x → Among rs x
among_rest [] x h = absurd h
among_rest (r ∷ rs) x h = inr h

module _ (s : DiscPart) (r item : AuditRecord) (others : List AuditRecord) (h : HoldsKeys s) (unreleased : has_released s.events r.tx ≡ false) (is_left : changes_left s.events r.tx ≡ item ∷ others)
    (file : r.file ≡ item.file) (key : r.key ≡ item.key) (after : r.after ≡ item.before) where
  -- the key is held for the transaction, by a change
  here_held : IsHeldFor s.events r.tx item
  here_held = h.left r.tx item unreleased (subst (λ (rs : List AuditRecord). Among rs item) (sym is_left) (inl refl))

  left_undone : (t : Transid) (x : AuditRecord) → (b : Bool) → Among (cond b (drop 1 (changes_left s.events t)) (changes_left s.events t)) x → Among (changes_left s.events t) x
  left_undone t x true there = among_rest (changes_left s.events t) x there
  left_undone t x false there = there

  apart_undone : (t : Transid) → has_released s.events t ≡ false → is_same_transid r.tx t ≡ false → (f : ℕ) (k : List ℕ) → is_same_key f k r.file r.key ≡ true → (x : AuditRecord) → Among (changes_left s.events t) x → is_same_key f k x.file x.key ≡ false
  apart_undone t free other f k here x there = of (is_same_key f k x.file x.key) refl
    where
      of : (b : Bool) → is_same_key f k x.file x.key ≡ b → b ≡ false
      of false e = refl
      of true e =
          let p = same_parts f r.file k r.key here in
          let q = same_parts f x.file k x.key e in
          let at : key_holder s.events item.file item.key ≡ Some t = ap (λ (y : ℕ × List ℕ). key_holder s.events y.0 y.1) (λ j. ((sym file ∙ sym p.0 ∙ q.0) j, (sym key ∙ sym p.1 ∙ q.1) j)) ∙ (h.left t x free there).holder in
          let one : Some r.tx ≡ Some t = sym here_held.holder ∙ at in
          let same : r.tx ≡ t = cc (one) in
          let both : is_same_transid r.tx t ≡ true = ap (λ (y : Transid). is_same_transid r.tx y) (sym same) ∙ same_self r.tx in
          absurd (cc (both, other))

  module _ (values : RecordMap) (m : HoldsMap s values) where
    leads_undone : (t : Transid) (f : ℕ) (k : List ℕ) → has_released s.events t ≡ false → (b : Bool) → is_same_transid r.tx t ≡ b
        → LeadTo f k (cond b (drop 1 (changes_left s.events t)) (changes_left s.events t)) (with_value r.file r.key r.after values f k)
    leads_undone t f k free true e =
        let left_t : changes_left s.events t ≡ item ∷ others = ap (changes_left s.events) (sym (same_is r.tx t e)) ∙ is_left in
        let was : LeadTo f k (item ∷ others) (values f k) = subst (λ (rs : List AuditRecord). LeadTo f k rs (values f k)) left_t (m.leads t f k free) in
        let rest : LeadTo f k others (with_value r.file r.key r.after values f k) = of was (is_same_key f k r.file r.key) refl in
        subst (λ (rs : List AuditRecord). LeadTo f k (drop 1 rs) (with_value r.file r.key r.after values f k)) (sym left_t) rest
      where
        at_item : (b : Bool) → is_same_key f k r.file r.key ≡ b → is_same_key f k item.file item.key ≡ b
        at_item b e = ap (λ (x : ℕ × List ℕ). is_same_key f k x.0 x.1) (λ j. (sym file j, sym key j)) ∙ e

        of : LeadTo f k (item ∷ others) (values f k) → (b : Bool) → is_same_key f k r.file r.key ≡ b → LeadTo f k others (with_value r.file r.key r.after values f k)
        of was true e = subst (λ (v : Option (List ℕ)). LeadTo f k others v) (sym after ∙ sym (set_here r.file f r.key k r.after values e)) (was.0 (at_item true e)).1
        of was false e = subst (λ (v : Option (List ℕ)). LeadTo f k others v) (sym (set_else r.file f r.key k r.after values e)) (was.1 (at_item false e))
    leads_undone t f k free false e = of (is_same_key f k r.file r.key) refl
      where
        of : (b : Bool) → is_same_key f k r.file r.key ≡ b → LeadTo f k (changes_left s.events t) (with_value r.file r.key r.after values f k)
        of true here = leads_none f k (changes_left s.events t) (with_value r.file r.key r.after values f k) (apart_undone t free e f k here)
        of false else_ = subst (λ (v : Option (List ℕ)). LeadTo f k (changes_left s.events t) v) (sym (set_else r.file f r.key k r.after values else_)) (m.leads t f k free)

    takes_undone : (f : ℕ) (k : List ℕ) → (b : Bool) → is_same_key f k r.file r.key ≡ b → TakesRoom (with_value r.file r.key r.after values) s.events f k → TakesRoom values s.events f k
    takes_undone f k true e now =
        let p = same_parts f r.file k r.key e in
        inr (ap (λ (y : ℕ × List ℕ). is_changing s.events y.0 y.1) (λ j. ((p.0 ∙ file) j, (p.1 ∙ key) j)) ∙ here_held.changing)
    takes_undone f k false e (inl some) = inl (ap is_some (sym (set_else r.file f r.key k r.after values e)) ∙ some)
    takes_undone f k false e (inr changing) = inr changing

    map_undone : HoldsMap (with_event s (did.Undo r)) (with_value r.file r.key r.after values)
    map_undone = record {
      leads = λ t f k free. leads_undone t f k free (is_same_transid r.tx t) refl;
      room = λ f n here. (let was = m.room f n here in (was.0, was.1, λ k home now. was.2 k home (takes_undone f k (is_same_key f k r.file r.key) refl now)));
    }

  map_of_undo : (base : Option (List Entry)) → MapTold s base → MapTold (with_event s (did.Undo r)) base
  map_of_undo None m = tt
  map_of_undo (Some entries) m = map_undone (values_after (map_of entries) s.events) m

  pub keys_undone : HoldsKeys (with_event s (did.Undo r))
  keys_undone = record {
    left = λ t x free there. (let was = h.left t x free (left_undone t x (is_same_transid r.tx t) there) in record { holder = was.holder; changing = was.changing; some = was.some });
    map_told = map_of_undo s.base h.map_told;
  }

-- A RELEASE

not_released : (b c : Bool) → cond b true c ≡ false → (b ≡ false) × (c ≡ false)
not_released true c e = absurd (cc (e))
not_released false c e = (refl, e)

kept_true : (t : Transid) (o : Option Transid) (b : Bool) → kept_from t o b ≡ true → b ≡ true
kept_true t None b e = e
kept_true t (Some u) b e = of (is_same_transid t u) e
  where
    of : (c : Bool) → cond c false b ≡ true → b ≡ true
    of true e = absurd (cc (e))
    of false e = e

pub keys_released : (s : DiscPart) (t : Transid) → HoldsKeys s → HoldsKeys (with_event s (did.Release t))
keys_released s t h = record {
  left = λ u x unreleased there.
      (let parts = not_released (is_same_transid t u) (has_released s.events u) unreleased in
      let was = h.left u x parts.1 there in
      record {
        holder = ap (freed t) was.holder ∙ ap (λ b. cond b None (Some u)) parts.0;
        changing = ap (λ (o : Option Transid). kept_from t o (is_changing s.events x.file x.key)) was.holder ∙ ap (λ b. cond b false (is_changing s.events x.file x.key)) parts.0 ∙ was.changing;
        some = was.some;
      });
  map_told = map_by s (with_event s (did.Release t)) s.base (λ base m. record {
    leads = λ u f k unreleased. m.leads u f k (not_released (is_same_transid t u) (has_released s.events u) unreleased).1;
    room = λ f n here. (let was = m.room f n here in (was.0, was.1, λ k home now. was.2 k home (takes_still (values_after base s.events) f k now)));
  }) h.map_told;
}
  where
    takes_still : (m : RecordMap) (f : ℕ) (k : List ℕ) → TakesRoom m (did.Release t ∷ s.events) f k → TakesRoom m s.events f k
    takes_still m f k (inl some) = inl some
    takes_still m f k (inr changing) = inr (kept_true t (key_holder s.events f k) (is_changing s.events f k) changing)

-- THE OPENING

opened_map : {D : Type 0} (tells : D → Bool) (held : D → Held) (s : DiscPart) (blocks : View D) (base : RecordMap)
    → AreHomes s → ((f : ℕ) → volume_of s.config f ≡ s.number → label_blocks blocks.label.files f ≡ blocks_of s.config f)
    → HoldsOpening tells held s blocks base → HoldsMap (record s { events = [] }) base
opened_map tells held s blocks base homes files h = record { leads = λ t f k unreleased. tt; room = λ f n here. of f n here (nat_lt n (blocks_of s.config f)) refl }
  where
    of : (f n : ℕ) → volume_of s.config f ≡ s.number → (b : Bool) → nat_lt n (blocks_of s.config f) ≡ b → HasRoomIn (record s { events = [] }) base f n
    of f n here false e = (
      [],
      omega arith,
      λ k home now.
          (let ge = ltb-false n (blocks_of s.config f) e in
          let small = home_small s homes f k here in
          absurd (omega (arith, ge, small, home))),
    )
    of f n here true e =
        let block : KeyedBlock = h.landed f n in
        let lt : n < blocks_of s.config f = ltb-true n (blocks_of s.config f) e in
        let within : n < label_blocks blocks.label.files f = subst (λ (m : ℕ). n < m) (sym (files f here)) lt in
        let valid : IsBlock block = (h.holds.are_contents f n within).valid in
        let few = valid.few in
        let long = length-keys_of block.records in
        (keys_of block.records, omega (arith, few, long), λ k home now. among_any (keys_of block.records) k (has block k home now))
      where
        has : (block : KeyedBlock) (k : List ℕ) → home_block s.config f k ≡ n → TakesRoom base [] f k → list_any (bytes_eq k) (keys_of (h.landed f n).records) ≡ true
        has block k home (inl some) =
            let is : value_at (h.landed f n) k ≡ base f k = ap (λ (m : ℕ). value_at (h.landed f m) k) (sym home) ∙ h.landed_is f k here in
            sym (is_some-lookup (bytes_eq k) (h.landed f n).records) ∙ ap is_some is ∙ some
        has block k home (inr changing) = absurd (cc (changing))

pub keys_opened : {D : Type 0} (tells : D → Bool) (held : D → Held) (s : DiscPart) (blocks : View D) → s.events ≡ [] → AreHomes s
    → ((f : ℕ) → volume_of s.config f ≡ s.number → label_blocks blocks.label.files f ≡ blocks_of s.config f) → ToldBy s.base (HoldsOpening tells held s blocks) → HoldsKeys s
keys_opened tells held s blocks none homes files values =
    subst (λ (es : List DiscEvent). HoldsKeys (record s { events = es })) (sym none) (record {
      left = λ t r unreleased there. absurd there;
      map_told = of s.base values;
    })
  where
    of : (base : Option (List Entry)) → ToldBy base (HoldsOpening tells held s blocks) → MapTold (record s { events = [] }) base
    of None values = tt
    of (Some entries) values = opened_map tells held s blocks (map_of entries) homes files values

-- NO BLOCK IS TOO FULL

more_than : (k : List ℕ) (ks : List (List ℕ)) → IsDistinct bytes_eq ks → list_any (bytes_eq k) ks ≡ false → IsDistinct bytes_eq (k ∷ ks)
unfolding IsDistinct
more_than k ks distinct none = (any_false k ks none, distinct)

-- A block with 62 records has, with a key that has none but is held by a change, 63 keys that take room.
not_crowded : (s : DiscPart) (file number : ℕ) (block : KeyedBlock) (values : RecordMap) → IsBlock block → IsHome (blocks_of s.config file) number block
    → ((k : List ℕ) → home_block s.config file k ≡ number → value_at block k ≡ values file k) → HasRoomIn s values file number
    → (key : List ℕ) → home_block s.config file key ≡ number → is_changing s.events file key ≡ true → has_key block key ≡ false → 62 ≤ length block.records → ⊥
not_crowded s file number block values valid home here room key at changing absent many =
    let distinct : IsDistinct bytes_eq (key ∷ keys_of block.records) = more_than key (keys_of block.records) (distinct_keys block valid) (sym (is_some-lookup (bytes_eq key) block.records) ∙ absent) in
    let le = length-le_from_is_member bytes_equiv (key ∷ keys_of block.records) room.0 distinct all in
    let long = length-keys_of block.records in
    let few = room.1 in
    omega (arith, le, long, few, many)
  where
    all : (q : List ℕ) → list_any (bytes_eq q) (key ∷ keys_of block.records) ≡ true → list_any (bytes_eq q) room.0 ≡ true
    all q there =
        ⊎_elim
        (λ (same : bytes_eq q key ≡ true). any_among room.0 q (subst (λ (x : List ℕ). Among room.0 x) (sym (bytes_same q key same)) (room.2 key at (inr changing))))
        (λ (rest : list_any (bytes_eq q) (keys_of block.records) ≡ true).
        (let present : has_key block q ≡ true = is_some-lookup (bytes_eq q) block.records ∙ rest in
        let lives : home_block s.config file q ≡ number = home q present in
        any_among room.0 q (room.2 q lives (inl (ap is_some (sym (here q lives)) ∙ present)))))
        (or_cases (bytes_eq q key) (list_any (bytes_eq q) (keys_of block.records)) there)

-- so no step finds its block so, where the volume told its values
pub step_crowded : {D : Type 0} (tells : D → Bool) (held : D → Held) (s : DiscPart) (blocks : View D) (step : Step) (number : ℕ) (block : KeyedBlock) (what : Found) → what ≡ found.Crowded
    → volume_of s.config step.file ≡ s.number → cached blocks step.file number ≡ Some block → FindsIn s step number what block → home_block s.config step.file step.key ≡ number
    → HoldsKeys s → ToldBy s.base (HoldsValues tells held s blocks) → s.base ≡ None
step_crowded tells held s blocks step number block what is here in_cache finds home h told = of s.base h.map_told told
  where
    is_full : CrowdedStep block finds.kept step
    is_full = crowded block finds.kept step (finds.is ∙ is)

    changing : (b c : Bool) → list_any (bytes_eq step.key) finds.kept ≡ b → nat_lt (length (taken_keys block finds.kept)) 62 ≡ c → (b || c) ≡ true → is_changing s.events step.file step.key ≡ true
    changing true c kept few either = and_first (is_changing s.events step.file step.key) (home_block s.config step.file step.key == number) (sym ((finds.are is_full.put).exact step.key) ∙ kept)
    changing false true kept few either =
        let lt = ltb-true (length (taken_keys block finds.kept)) 62 few in
        let both = length-append (keys_of block.records) (new_keys block.records finds.kept) in
        let long = length-keys_of block.records in
        let many = is_full.many in
        absurd (omega (arith, lt, both, long, many))
    changing false false kept few either = absurd (cc (either))

    of : (base : Option (List Entry)) → MapTold s base → ToldBy base (HoldsValues tells held s blocks) → base ≡ None
    of None m told = refl
    of (Some entries) m told =
        absurd (not_crowded s step.file number block (values_after (map_of entries) s.events) finds.valid finds.home (value_here tells held s blocks step.file number block here in_cache (map_of entries) told) (m.room step.file number here) step.key home
        (changing (list_any (bytes_eq step.key) finds.kept) (nat_lt (length (taken_keys block finds.kept)) 62) refl refl is_full.room) is_full.absent is_full.many)

-- nor is any block so when a change is to be taken back in it
pub back_crowded : {D : Type 0} (tells : D → Bool) (held : D → Held) (s : DiscPart) (blocks : View D) (t : Transid) (change : Change) (block : KeyedBlock) → IsNewest s t change → cached blocks change.file (home_of_change s change) ≡ Some block
    → IsBlock block → IsHome (blocks_of s.config change.file) (home_of_change s change) block → takes_back block change.before (value_at block change.key) ≡ false
    → HoldsKeys s → ToldBy s.base (HoldsValues tells held s blocks) → s.base ≡ None
back_crowded tells held s blocks t change block newest in_cache valid home full h told = of s.base h.map_told told
  where
    item : AuditRecord
    item = newest.item

    item_held : IsHeldFor s.events t item
    item_held = h.left t item newest.unreleased (subst (λ (rs : List AuditRecord). Among rs item) (sym newest.left) (inl refl))

    same : is_same_key change.file change.key item.file item.key ≡ true
    same = ap (λ (c : Change). is_same_key change.file change.key c.file c.key) newest.is ∙ same_key_self change.file change.key

    changing : is_changing s.events change.file change.key ≡ true
    changing = ap (λ (c : Change). is_changing s.events c.file c.key) (sym newest.is) ∙ item_held.changing

    parts : (a b c : Bool) → (a || (b && c)) ≡ false → b ≡ true → (a ≡ false) × (c ≡ false)
    parts true b c e is = absurd (cc (e))
    parts false true c e is = (refl, e)
    parts false false c e is = absurd (cc (is))

    first_none : (a b : Bool) → (a || b) ≡ false → a ≡ false
    first_none true b e = absurd (cc (e))
    first_none false b e = refl

    first_some : (a b : Bool) → (a || b) ≡ true → b ≡ false → a ≡ true
    first_some true b e f = refl
    first_some false b e f = absurd (cc (e, f))

    of : (base : Option (List Entry)) → MapTold s base → ToldBy base (HoldsValues tells held s blocks) → base ≡ None
    of None m told = refl
    of (Some entries) m told =
        let values : RecordMap = values_after (map_of entries) s.events in
        let here = value_here tells held s blocks change.file (home_of_change s change) block newest.here in_cache (map_of entries) told in
        let leads : LeadTo change.file change.key (item ∷ newest.others) (values change.file change.key) = subst (λ (rs : List AuditRecord). LeadTo change.file change.key rs (values change.file change.key)) newest.left (m.leads t change.file change.key newest.unreleased) in
        let stands : value_at block change.key ≡ item.after = here change.key refl ∙ sym (leads.0 same).0 in
        let absent : has_key block change.key ≡ false = first_none (has_key block change.key) (is_some change.before && nat_lt (length block.records) 62) full in
        let behind : is_some item.after ≡ false = ap is_some (sym stands) ∙ absent in
        let before : is_some change.before ≡ true = ap (λ (c : Change). is_some c.before) (sym newest.is) ∙ first_some (is_some item.before) (is_some item.after) item_held.some behind in
        let many : nat_lt (length block.records) 62 ≡ false = (parts (has_key block change.key) (is_some change.before) (nat_lt (length block.records) 62) full before).1 in
        absurd (not_crowded s change.file (home_of_change s change) block values valid home here (m.room change.file (home_of_change s change) newest.here) change.key refl changing absent (ltb-false (length block.records) 62 many))

-- EVENTS

pub leaves_keys : (s : DiscPart) (e : DiscEvent) → Leaves e → LeavesLocks e → LeavesKeys s e
leaves_keys s e leaves locks = record {
  released = leaves.released s.events;
  left = leaves.left s.events;
  values = λ base. leaves.values base s.events;
  keys = λ f k t is. locks.keys s.events f k ∙ is;
  changing = locks.writing s.events;
}

pub leaves_draw : (s : DiscPart) (f n p : ℕ) → LeavesKeys s (did.Draw f n p)
leaves_draw s f n p = record { released = λ t. refl; left = λ t. refl; values = λ base. refl; keys = λ g k t is. is; changing = λ g k. refl }

pub leaves_drawn : (s : DiscPart) (f n : ℕ) → LeavesKeys s (did.Drawn f n)
leaves_drawn s f n = record { released = λ t. refl; left = λ t. refl; values = λ base. refl; keys = λ g k t is. is; changing = λ g k. refl }

-- a lock of a whole file is on no key of it
pub leaves_lock : (s : DiscPart) (t : Transid) (f : ℕ) → LeavesKeys s (did.Lock t f)
leaves_lock s t f = record { released = λ u. refl; left = λ u. refl; values = λ base. refl; keys = λ g k u is. is; changing = λ g k. refl }

pub leaves_close : (s : DiscPart) (u : Transid) → LeavesKeys s (did.Close u)
leaves_close s u = record { released = λ t. refl; left = λ t. refl; values = λ base. refl; keys = λ g k t is. is; changing = λ g k. refl }

-- a step that holds its key and changes nothing
pub keys_held : (s : DiscPart) (t : Transid) (step : Step) (what : Found) → IsHolding what → HoldsAlone s.events → IsNoOther (holder s.events step.file step.key) t → HoldsKeys s → HoldsKeys (with_event s (hold_event t step what))
keys_held s t step what holding alone free h =
    let leaves = leaves_hold t step what in
    keys_left s (hold_event t step what) (record {
      released = leaves.released s.events;
      left = leaves.left s.events;
      values = λ base. leaves.values base s.events;
      keys = λ g q u is. hold_keys t step what holding s.events g q ∙ keys_taken s step.file step.key t alone free g q u is;
      changing = hold_writing t step what s.events;
    }) h
