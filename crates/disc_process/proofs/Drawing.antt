-- Blocks are drawn: what the device holds of a block stays that of the records up to a position.
use Rattle.std.proofs.Common.{◌≡◌, ℕ, ◌<◌, ◌≤◌, ◌==◌, ◌&&◌, inl, inr, Bool, true, false, List, [], ◌∷◌, ◌++◌, Option, Some, None, nat_le, filter, cond, refl, ap, sym, ◌∙◌, subst, arith, bytes_eq, eqb-true}
use Rattle.std.specs.Option.{unwrap_or}
use Rattle.std.proofs.lemmas.Cmp.{nat_eq_equiv}
use Rattle.std.proofs.lemmas.List.Elements.{filter-append}
use Rattle.disk_model.specs.Held.{Held}
use Rattle.keyed_file.specs.Block.{KeyedBlock, value_at}
use Rattle.tmf_model.specs.RecordMap.{RecordMap}
use Rattle.trail_files.specs.Recovered.{records_on, after_last_of}
use Rattle.trail_files.specs.declared.audit_record.AuditRecord.{AuditRecord}
use Rattle.node_machine.specs.declared.event.DiscEvent.{DiscEvent}
use Rattle.node_machine.specs.declared.event.DiscEvent.TheVariants as did
use Rattle.node_machine.specs.Made.{made, up_to, next_position, or_newer, position_before, drawn, drawing, home_block, is_in_block, volume_of, values_after, values_at}
use Rattle.node_machine.specs.Parts.{DiscPart}
use Rattle.node_machine.specs.Same.{Among, is_same_block}
use Rattle.node_machine.specs.SameLaws.{among_left}
use Rattle.block_cache.specs.Blocks.{View}
use Rattle.keyed_file.specs.Volume.{Contents}
use Rattle.block_cache.specs.Blocks.{Holds}
use Rattle.block_cache.specs.Blocks.{with_content}
use Rattle.disc_process.specs.Blocks.{cached, content}
use Rattle.disc_process.specs.Disc.{DrawsBehind, HoldsValues, drawn_to}
use Rattle.disc_process.specs.Disc.{AreHomes}
use Rattle.disc_process.proofs.Caches.{home_few}
use Rattle.disc_process.proofs.Telling.{bytes_same}
use Rattle.std.specs.Prelude.{IsTrue}

-- THE VALUES AT THE LAST RECORD

last_append : (xs ys : List AuditRecord) (base : Option (List ℕ)) → after_last_of (xs ++ ys) base ≡ after_last_of ys (after_last_of xs base)
last_append [] ys base = refl
last_append (x ∷ xs) ys base = last_append xs ys x.after

le_true : (a b : ℕ) → a ≤ b → nat_le a b ≡ true
le_true a b le = grind (arith)

last_cond : (b : Bool) (r : AuditRecord) (x : Option (List ℕ)) → after_last_of (cond b (r ∷ []) []) x ≡ cond b r.after x
last_cond true r x = refl
last_cond false r x = refl

-- one more record counts where it is of the key
one_more : (le same : AuditRecord → Bool) (r : AuditRecord) (x : Option (List ℕ)) → (same r ≡ true → le r ≡ true)
    → after_last_of (filter same (filter le (r ∷ []))) x ≡ cond (same r) r.after x
one_more le same r x h = of (le r) (same r) refl refl
  where
    of : (a b : Bool) → le r ≡ a → same r ≡ b → after_last_of (filter same (filter le (r ∷ []))) x ≡ cond (same r) r.after x
    of true b e e2 = ap (λ c. after_last_of (filter same (cond c (r ∷ []) [])) x) e ∙ last_cond (same r) r x
    of false true e e2 = absurd (cc (h e2, e))
    of false false e e2 = ap (λ c. after_last_of (filter same (cond c (r ∷ []) [])) x) e ∙ sym (ap (λ c. cond c r.after x) e2)

at_more : (xs : List AuditRecord) (r : AuditRecord) (p f : ℕ) (k : List ℕ) (x : Option (List ℕ)) → (((f == r.file) && bytes_eq k r.key) ≡ true → r.position ≤ p)
    → after_last_of (records_on f k (up_to p (xs ++ r ∷ []))) x ≡ cond ((f == r.file) && bytes_eq k r.key) r.after (after_last_of (records_on f k (up_to p xs)) x)
at_more xs r p f k x below =
    let le : AuditRecord → Bool = λ y. nat_le y.position p in
    let same : AuditRecord → Bool = λ y. (f == y.file) && bytes_eq k y.key in
    ap (λ l. after_last_of (filter same l) x) (filter-append le xs (r ∷ []))
    ∙ ap (λ l. after_last_of l x) (filter-append same (filter le xs) (filter le (r ∷ [])))
    ∙ last_append (filter same (filter le xs)) (filter same (filter le (r ∷ []))) x
    ∙ one_more le same r (after_last_of (filter same (filter le xs)) x) (λ e. le_true r.position p (below e))

pub among_last : (xs : List AuditRecord) (r : AuditRecord) → Among (xs ++ r ∷ []) r
among_last [] r = inl refl
among_last (x ∷ xs) r = inr (among_last xs r)

module _ (base : RecordMap) (p f : ℕ) (k : List ℕ) where
  -- no record of the key lies behind the position
  abbrev NoneBehind : List DiscEvent → Type 0
  NoneBehind events = (r : AuditRecord) → Among (made events) r → ((f == r.file) && bytes_eq k r.key) ≡ true → r.position ≤ p

  pub values_at_end : (events : List DiscEvent) → NoneBehind events → values_at base events p f k ≡ values_after base events f k
  values_at_end [] h = refl
  values_at_end (did.Write r op ∷ events) h =
      at_more (made events) r p f k (base f k) (h r (among_last (made events) r))
      ∙ ap (λ v. cond ((f == r.file) && bytes_eq k r.key) r.after v) (values_at_end events (λ y is. h y (among_left (made events) (r ∷ []) y is)))
  values_at_end (did.Undo r ∷ events) h =
      at_more (made events) r p f k (base f k) (h r (among_last (made events) r))
      ∙ ap (λ v. cond ((f == r.file) && bytes_eq k r.key) r.after v) (values_at_end events (λ y is. h y (among_left (made events) (r ∷ []) y is)))
  values_at_end (did.Read t g q v ∷ events) h = values_at_end events h
  values_at_end (did.Lock t g ∷ events) h = values_at_end events h
  values_at_end (did.Turn t c ∷ events) h = values_at_end events h
  values_at_end (did.Close t ∷ events) h = values_at_end events h
  values_at_end (did.Release t ∷ events) h = values_at_end events h
  values_at_end (did.Draw g n q ∷ events) h = values_at_end events h
  values_at_end (did.Drawn g n ∷ events) h = values_at_end events h
  values_at_end (did.Low q by ∷ events) h = values_at_end events h
  values_at_end (did.Lowered ∷ events) h = values_at_end events h
  values_at_end (did.Start n q x ∷ events) h = values_at_end events h
  values_at_end (did.Raise n q ∷ events) h = values_at_end events h
  values_at_end (did.Failed by ∷ events) h = values_at_end events h

-- THE TWO WRITES OF A DRAW

both : (a b : Bool) → (a && b) ≡ true → (a ≡ true) × (b ≡ true)
both true b e = (refl, e)
both false b e = absurd (cc (e))

pub same_block : (f n g m : ℕ) → is_same_block f n g m ≡ true → (f ≡ g) × (n ≡ m)
same_block f n g m e = (let b = both (f == g) (n == m) e in (eqb-true f g b.0, eqb-true n m b.1))

pub self_block : (f n : ℕ) → is_same_block f n f n ≡ true
self_block f n = ap (λ x. x && (n == n)) (nat_eq_equiv.refl f) ∙ nat_eq_equiv.refl n

module _ {D : Type 0} (tells : D → Bool) (held : D → Held) (s : DiscPart) (old new : View D) (file number : ℕ) (block : KeyedBlock)
    (in_cache : cached old file number ≡ Some block) (same_cache : (f n : ℕ) → n < 256 → cached new f n ≡ cached old f n) (told : IsTrue (tells old.device) → IsTrue (tells new.device)) (homes : AreHomes s) where
  content_same : (landed : Contents) (f n : ℕ) → n < 256 → content new landed f n ≡ content old landed f n
  content_same landed f n few = ap (λ o. unwrap_or o (landed f n)) (same_cache f n few)

  -- the body of a block was written: its content is under way
  pub values_draw : (position : ℕ) (base : RecordMap) (h : HoldsValues tells held s old base) → Holds held new h.landed (with_content h.next file number block)
      → ((r : AuditRecord) → Among (made s.events) r → is_in_block s.config file number r ≡ true → r.position ≤ position)
      → HoldsValues tells held (record s { events = did.Draw file number position ∷ s.events }) new base
  values_draw position base h holds none_behind = record {
    landed = h.landed;
    next = with_content h.next file number block;
    told = told h.told;
    holds = holds;
    same = λ f k here. ap (λ (b : KeyedBlock). value_at b k) (content_same h.landed f (home_block s.config f k) (home_few s homes f k here)) ∙ h.same f k here;
    landed_is = λ f k here. h.landed_is f k here;
    next_is = λ f k p here under. now f k p here (is_same_block f (home_block s.config f k) file number) refl under;
  }
    where
      none : (f : ℕ) (k : List ℕ) → is_same_block f (home_block s.config f k) file number ≡ true → (r : AuditRecord) → Among (made s.events) r → ((f == r.file) && bytes_eq k r.key) ≡ true → r.position ≤ position
      none f k e r is same =
          let b = same_block f (home_block s.config f k) file number e in
          let key = both (f == r.file) (bytes_eq k r.key) same in
          let file_is : f ≡ r.file = eqb-true f r.file key.0 in
          let key_is : k ≡ r.key = bytes_same k r.key key.1 in
          let home : is_same_block f (home_block s.config f k) r.file (home_block s.config r.file r.key) ≡ true =
          subst (λ (x : ℕ × List ℕ). is_same_block f (home_block s.config f k) x.0 (home_block s.config x.0 x.1) ≡ true) (λ j. (file_is j, key_is j)) (self_block f (home_block s.config f k)) in
          none_behind r is (subst (λ (x : ℕ × ℕ). is_same_block x.0 x.1 r.file (home_block s.config r.file r.key) ≡ true) (λ j. (b.0 j, b.1 j)) home)

      now : (f : ℕ) (k : List ℕ) (p : ℕ) → volume_of s.config f ≡ s.number → (b : Bool) → is_same_block f (home_block s.config f k) file number ≡ b
          → cond (is_same_block f (home_block s.config f k) file number) (Some position) (drawing s.events f (home_block s.config f k)) ≡ Some p
          → value_at (cond (is_same_block f (home_block s.config f k) file number) block (h.next f (home_block s.config f k))) k ≡ values_at base s.events p f k
      now f k p here true e under =
          let b = same_block f (home_block s.config f k) file number e in
          let is_block : content old h.landed f (home_block s.config f k) ≡ block =
          ap (λ (x : ℕ × ℕ). content old h.landed x.0 x.1) (λ j. (b.0 j, b.1 j)) ∙ ap (λ o. unwrap_or o (h.landed file number)) in_cache in
          let some : Some position ≡ Some p = sym (ap (λ c. cond c (Some position) (drawing s.events f (home_block s.config f k))) e) ∙ under in
          let at : position ≡ p = cc (some) in
          ap (λ c. value_at (cond c block (h.next f (home_block s.config f k))) k) e
          ∙ ap (λ (x : KeyedBlock). value_at x k) (sym is_block)
          ∙ h.same f k here
          ∙ sym (values_at_end base position f k s.events (none f k e))
          ∙ ap (λ q. values_at base s.events q f k) at
      now f k p here false e under = ap (λ c. value_at (cond c block (h.next f (home_block s.config f k))) k) e ∙ h.next_is f k p here (sym (ap (λ c. cond c (Some position) (drawing s.events f (home_block s.config f k))) e) ∙ under)

  -- its selector was written: what was under way has landed
  pub values_drawn : (position : ℕ) (base : RecordMap) (h : HoldsValues tells held s old base) → Holds held new (with_content h.landed file number (h.next file number)) h.next
      → drawing s.events file number ≡ Some position
      → HoldsValues tells held (record s { events = did.Drawn file number ∷ s.events }) new base
  values_drawn position base h holds under = record {
    landed = with_content h.landed file number (h.next file number);
    next = h.next;
    told = told h.told;
    holds = holds;
    same = λ f k here. ap (λ (b : KeyedBlock). value_at b k) (kept f (home_block s.config f k) (home_few s homes f k here) (is_same_block f (home_block s.config f k) file number) refl) ∙ h.same f k here;
    landed_is = λ f k here. now f k here (is_same_block f (home_block s.config f k) file number) refl;
    next_is = λ f k p here is. h.next_is f k p here (still f (home_block s.config f k) p (is_same_block f (home_block s.config f k) file number) refl is);
  }
    where
      after : Contents
      after = with_content h.landed file number (h.next file number)

      kept : (f n : ℕ) → n < 256 → (b : Bool) → is_same_block f n file number ≡ b → content new after f n ≡ content old h.landed f n
      kept f n few true e =
          let b = same_block f n file number e in
          let was : cached old f n ≡ Some block = ap (λ (x : ℕ × ℕ). cached old x.0 x.1) (λ j. (b.0 j, b.1 j)) ∙ in_cache in
          ap (λ o. unwrap_or o (after f n)) (same_cache f n few ∙ was) ∙ sym (ap (λ o. unwrap_or o (h.landed f n)) was)
      kept f n few false e = ap (λ c. unwrap_or (cached new f n) (cond c (h.next file number) (h.landed f n))) e ∙ content_same h.landed f n few

      now : (f : ℕ) (k : List ℕ) → volume_of s.config f ≡ s.number → (b : Bool) → is_same_block f (home_block s.config f k) file number ≡ b
          → value_at (after f (home_block s.config f k)) k ≡ values_at base s.events (drawn_to (record s { events = did.Drawn file number ∷ s.events }) f (home_block s.config f k)) f k
      now f k here true e =
          let n : ℕ = home_block s.config f k in
          let b = same_block f n file number e in
          let way : drawing s.events f n ≡ Some position = ap (λ (x : ℕ × ℕ). drawing s.events x.0 x.1) (λ j. (b.0 j, b.1 j)) ∙ under in
          let to : drawn_to (record s { events = did.Drawn file number ∷ s.events }) f n ≡ position =
          ap (λ c. cond c (or_newer (drawn (position_before s) s.events file number) (drawing s.events file number)) (drawn (position_before s) s.events f n)) e
          ∙ ap (or_newer (drawn (position_before s) s.events file number)) under in
          ap (λ c. value_at (cond c (h.next file number) (h.landed f n)) k) e
          ∙ ap (λ (x : ℕ × ℕ). value_at (h.next x.0 x.1) k) (λ j. (sym b.0 j, sym b.1 j))
          ∙ h.next_is f k position here way
          ∙ ap (λ q. values_at base s.events q f k) (sym to)
      now f k here false e =
          let n : ℕ = home_block s.config f k in
          let to : drawn_to (record s { events = did.Drawn file number ∷ s.events }) f n ≡ drawn_to s f n =
          ap (λ c. cond c (or_newer (drawn (position_before s) s.events file number) (drawing s.events file number)) (drawn (position_before s) s.events f n)) e in
          ap (λ c. value_at (cond c (h.next file number) (h.landed f n)) k) e ∙ h.landed_is f k here ∙ ap (λ q. values_at base s.events q f k) (sym to)

      still : (f n p : ℕ) (b : Bool) → is_same_block f n file number ≡ b → cond (is_same_block f n file number) None (drawing s.events f n) ≡ Some p → drawing s.events f n ≡ Some p
      still f n p true e is = (let none : None ≡ Some p = sym (ap (λ c. cond c None (drawing s.events f n)) e) ∙ is in absurd (cc (none)))
      still f n p false e is = sym (ap (λ c. cond c None (drawing s.events f n)) e) ∙ is

-- no draw is ahead of the records
pub behind_draw : (s : DiscPart) (file number position : ℕ) → position < next_position s → DrawsBehind s → DrawsBehind (record s { events = did.Draw file number position ∷ s.events })
behind_draw s file number position below h = record {
  first = h.first;
  drawn_at = h.drawn_at;
  drawing_at = λ f n p is. of f n p (is_same_block f n file number) refl is;
}
  where
    of : (f n p : ℕ) (b : Bool) → is_same_block f n file number ≡ b → cond (is_same_block f n file number) (Some position) (drawing s.events f n) ≡ Some p → p < next_position s
    of f n p true e is =
        let some : Some position ≡ Some p = sym (ap (λ c. cond c (Some position) (drawing s.events f n)) e) ∙ is in
        let at : position ≡ p = cc (some) in
        subst (λ (q : ℕ). q < next_position s) at below
    of f n p false e is = h.drawing_at f n p (sym (ap (λ c. cond c (Some position) (drawing s.events f n)) e) ∙ is)

pub behind_drawn : (s : DiscPart) (file number : ℕ) → DrawsBehind s → DrawsBehind (record s { events = did.Drawn file number ∷ s.events })
behind_drawn s file number h = record {
  first = h.first;
  drawn_at = λ f n. of f n (is_same_block f n file number) refl;
  drawing_at = λ f n p is. still f n p (is_same_block f n file number) refl is;
}
  where
    was : ℕ → ℕ → ℕ
    was f n = drawn (position_before s) s.events f n

    way : (o : Option ℕ) → drawing s.events file number ≡ o → or_newer (was file number) o < next_position s
    way (Some q) e = h.drawing_at file number q e
    way None e = h.drawn_at file number

    of : (f n : ℕ) (b : Bool) → is_same_block f n file number ≡ b → cond (is_same_block f n file number) (or_newer (was file number) (drawing s.events file number)) (was f n) < next_position s
    of f n true e = subst (λ (c : Bool). cond c (or_newer (was file number) (drawing s.events file number)) (was f n) < next_position s) (sym e) (way (drawing s.events file number) refl)
    of f n false e = subst (λ (c : Bool). cond c (or_newer (was file number) (drawing s.events file number)) (was f n) < next_position s) (sym e) (h.drawn_at f n)

    still : (f n p : ℕ) (b : Bool) → is_same_block f n file number ≡ b → cond (is_same_block f n file number) None (drawing s.events f n) ≡ Some p → p < next_position s
    still f n p true e is = (let none : None ≡ Some p = sym (ap (λ c. cond c None (drawing s.events f n)) e) ∙ is in absurd (cc (none)))
    still f n p false e is = h.drawing_at f n p (sym (ap (λ c. cond c None (drawing s.events f n)) e) ∙ is)
