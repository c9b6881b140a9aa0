-- A cached block knows how far it has been drawn.
use Rattle.std.proofs.Common.{◌≡◌, ◌≢◌, ◌⊎◌, ◌+◌, List, length, ℕ, ◌<◌, ◌≤◌, inl, inr, ⊎_elim, Bool, true, false, [], ◌∷◌, ◌++◌, Option, Some, None, cond, is_some, refl, ap, sym, ◌∙◌, subst, arith}
use Rattle.tmf_model.specs.declared.script.Op.{Op}
use Rattle.trail_files.specs.declared.audit_record.AuditRecord.{AuditRecord}
use Rattle.node_machine.specs.declared.event.DiscEvent.TheVariants as did
use Rattle.node_machine.specs.Disc.{IsHere, MayDraw}
use Rattle.node_machine.specs.Made.{made, next_position, or_newer, position_before, drawn, drawing, home_block, is_in_block}
use Rattle.node_machine.specs.Parts.{DiscPart}
use Rattle.node_machine.specs.Same.{Among}
use Rattle.node_machine.specs.SameLaws.{among_append, among_left}
use Rattle.disc_process.specs.Disc.{DrawsBehind}
use Rattle.block_cache.specs.Blocks.{View}
use Rattle.block_cache.specs.declared.frame.Frame.{Frame}
use Rattle.block_cache.specs.Cache.{entry_at}
use Rattle.disc_process.specs.Blocks.{HasMarked, SameDraws, dirty_in, half_in, position_in, set_in}
use Rattle.disc_process.specs.Draws.{AreDrawn, DrawsOf, IsAhead, MadeBelow, drawing_to}
use Rattle.node_machine.specs.declared.event.DiscEvent.{DiscEvent}
use Rattle.node_machine.specs.Same.{is_same_block}
use Rattle.std.specs.Option.{option_map}
use Rattle.std.proofs.lemmas.List.{length_push}
use Rattle.std.proofs.lemmas.Bool.{cases_eq}
use Rattle.disc_process.proofs.Drawing.{among_last, same_block, self_block}
use Rattle.disc_process.proofs.Lives.{none_of}

-- a dirty block that is not half drawn may be drawn
pub may_draw : (s : DiscPart) (f n position : ℕ) → IsHere s f → DrawsOf s f n position true false → MayDraw s f n position
may_draw s f n position here is = (let a = is.dirty_is refl in record {
  here = here;
  idle = none_of (drawing s.events f n) is.half_is;
  last = a.last;
  is_made = a.is_made;
  in_block = a.in_block;
  at = a.at;
  none_behind = a.none_behind;
  rises = a.drawn_at;
})

one_of : (r y : AuditRecord) → Among (r ∷ []) y → r ≡ y
one_of r y (inl e) = e
one_of r y (inr h) = absurd h

-- after one more record of it a block is dirty
pub draws_written : (s : DiscPart) (f n q : ℕ) (dirty half : Bool) (r : AuditRecord) (op : Op) → DrawsOf s f n q dirty half → is_in_block s.config f n r ≡ true
    → r.position ≡ next_position s → DrawsBehind s → MadeBelow s → DrawsOf (record s { events = did.Write r op ∷ s.events }) f n r.position true half
draws_written s f n q dirty half r op is here at behind below = record {
  half_is = is.half_is;
  dirty_is = λ e. record {
    last = r;
    is_made = among_last (made s.events) r;
    in_block = here;
    at = refl;
    none_behind = λ y there same.
        ⊎_elim
        (λ (old : Among (made s.events) y). (let lt = below y old in omega (arith, lt, at)))
        (λ (new : Among (r ∷ []) y). (let one = ap (λ (x : AuditRecord). x.position) (one_of r y new) in omega (arith, one)))
        (among_append (made s.events) (r ∷ []) y there);
    drawn_at = (let lt = behind.drawn_at f n in omega (arith, lt, at));
    drawing_at = λ p e. (let lt = behind.drawing_at f n p e in omega (arith, lt, at));
  };
  clean_is = λ e. absurd (cc (e));
}

-- a record of another block changes nothing of it
pub draws_other : (s : DiscPart) (f n q : ℕ) (dirty half : Bool) (r : AuditRecord) (op : Op) → DrawsOf s f n q dirty half → is_in_block s.config f n r ≡ false
    → DrawsOf (record s { events = did.Write r op ∷ s.events }) f n q dirty half
draws_other s f n q dirty half r op is elsewhere = record {
  half_is = is.half_is;
  dirty_is = λ e. (let a = is.dirty_is e in record {
    last = a.last;
    is_made = among_left (made s.events) (r ∷ []) a.last a.is_made;
    in_block = a.in_block;
    at = a.at;
    none_behind = λ y there same. old y q there same (λ was. a.none_behind y was same);
    drawn_at = a.drawn_at;
    drawing_at = a.drawing_at;
  });
  clean_is = λ e y there same. old y (drawing_to s f n) there same (λ was. is.clean_is e y was same);
}
  where
    old : (y : AuditRecord) (p : ℕ) → Among (made s.events ++ r ∷ []) y → is_in_block s.config f n y ≡ true → (Among (made s.events) y → y.position ≤ p) → y.position ≤ p
    old y p there same then_ =
        ⊎_elim
        (λ (was : Among (made s.events) y). then_ was)
        (λ (new : Among (r ∷ []) y). (let no = ap (λ (x : AuditRecord). is_in_block s.config f n x) (one_of r y new) in absurd (cc (no, same, elsewhere))))
        (among_append (made s.events) (r ∷ []) y there)

-- its body is written: it is clean, and half drawn
pub draws_begun : (s : DiscPart) (f n q : ℕ) → DrawsOf s f n q true false → DrawsOf (record s { events = did.Draw f n q ∷ s.events }) f n q false true
draws_begun s f n q is = record {
  half_is = ap (λ c. is_some (cond c (Some q) (drawing s.events f n))) (self_block f n);
  dirty_is = λ e. absurd (cc (e));
  clean_is = λ e y there same. (let a = is.dirty_is refl in
      subst (λ (p : ℕ). y.position ≤ p) (sym (ap (λ c. or_newer (drawn (position_before s) s.events f n) (cond c (Some q) (drawing s.events f n))) (self_block f n))) (a.none_behind y there same));
}

-- its selector is written: it is not half drawn, and dirty where it was
pub draws_ended : (s : DiscPart) (f n q : ℕ) (dirty : Bool) → DrawsOf s f n q dirty true → DrawsOf (record s { events = did.Drawn f n ∷ s.events }) f n q dirty false
draws_ended s f n q dirty is = record {
  half_is = ap is_some none;
  dirty_is = λ e. (let a = is.dirty_is e in record {
    last = a.last;
    is_made = a.is_made;
    in_block = a.in_block;
    at = a.at;
    none_behind = a.none_behind;
    drawn_at = subst (λ (p : ℕ). p < q) (sym now) (below a (drawing s.events f n) refl);
    drawing_at = λ p e. (let no : None ≡ Some p = sym none ∙ e in absurd (cc (no)));
  });
  clean_is = λ e y there same. subst (λ (p : ℕ). y.position ≤ p) (sym to) (is.clean_is e y there same);
}
  where
    next : DiscPart
    next = record s { events = did.Drawn f n ∷ s.events }

    none : drawing next.events f n ≡ None
    none = ap (λ c. cond c None (drawing s.events f n)) (self_block f n)

    now : drawn (position_before s) next.events f n ≡ drawing_to s f n
    now = ap (λ c. cond c (drawing_to s f n) (drawn (position_before s) s.events f n)) (self_block f n)

    to : drawing_to next f n ≡ drawing_to s f n
    to = ap (or_newer (drawn (position_before s) next.events f n)) none ∙ now

    below : IsAhead s f n q → (o : Option ℕ) → drawing s.events f n ≡ o → or_newer (drawn (position_before s) s.events f n) o < q
    below a (Some x) e = a.drawing_at x e
    below a None e = a.drawn_at

-- an entry that is as far drawn as before
pub draws_same : (s : DiscPart) (f n q p : ℕ) (d h e g : Bool) → DrawsOf s f n q d h → e ≡ d → g ≡ h → (d ≡ true → p ≡ q) → DrawsOf s f n p e g
draws_same s f n q p d h e g is de he at = record {
  half_is = is.half_is ∙ sym he;
  dirty_is = λ t. subst (λ (x : ℕ). IsAhead s f n x) (sym (at (sym de ∙ t))) (is.dirty_is (sym de ∙ t));
  clean_is = λ t. is.clean_is (sym de ∙ t);
}

-- events that change nothing of the block
pub draws_moved : (s : DiscPart) (events : List DiscEvent) → made events ≡ made s.events → (f n q : ℕ) (d h : Bool) → drawn (position_before s) events f n ≡ drawn (position_before s) s.events f n → drawing events f n ≡ drawing s.events f n
    → DrawsOf s f n q d h → DrawsOf (record s { events = events }) f n q d h
draws_moved s events made_is f n q d h drawn_is drawing_is is = record {
  half_is = ap is_some drawing_is ∙ is.half_is;
  dirty_is = λ t. (let a = is.dirty_is t in record {
    last = a.last;
    is_made = subst (λ (xs : List AuditRecord). Among xs a.last) (sym made_is) a.is_made;
    in_block = a.in_block;
    at = a.at;
    none_behind = λ y there same. a.none_behind y (subst (λ (xs : List AuditRecord). Among xs y) made_is there) same;
    drawn_at = subst (λ (p : ℕ). p < q) (sym drawn_is) a.drawn_at;
    drawing_at = λ p e. a.drawing_at p (sym drawing_is ∙ e);
  });
  clean_is = λ t y there same. subst (λ (p : ℕ). y.position ≤ p) (sym to) (is.clean_is t y (subst (λ (xs : List AuditRecord). Among xs y) made_is there) same);
}
  where
    to : drawing_to (record s { events = events }) f n ≡ drawing_to s f n
    to = ap (λ (x : Option ℕ × ℕ). or_newer x.1 x.0) (λ j. (drawing_is j, drawn_is j))

pub below_moved : (s : DiscPart) (events : List DiscEvent) → made events ≡ made s.events → MadeBelow s → MadeBelow (record s { events = events })
below_moved s events made_is below y there =
    let lt = below y (subst (λ (xs : List AuditRecord). Among xs y) made_is there) in
    subst (λ (xs : List AuditRecord). y.position < s.first + length xs) (sym made_is) lt

pub below_written : (s : DiscPart) (r : AuditRecord) (op : Op) → r.position ≡ next_position s → MadeBelow s → MadeBelow (record s { events = did.Write r op ∷ s.events })
below_written s r op at below y there =
    let more = length_push (made s.events) r in
    ⊎_elim
    (λ (old : Among (made s.events) y). (let lt = below y old in omega (arith, lt, more)))
    (λ (new : Among (r ∷ []) y). (let one = ap (λ (x : AuditRecord). x.position) (one_of r y new) in omega (arith, one, at, more)))
    (among_append (made s.events) (r ∷ []) y there)

-- another block, or the same one
pub apart_of : (f n g m : ℕ) → is_same_block f n g m ≡ false → (f ≢ g) ⊎ (n ≢ m)
apart_of f n g m apart =
    ⊎_elim
    (λ (e : f ≡ g).
    ⊎_elim
    (λ (d : n ≡ m). (let is : is_same_block f n g m ≡ true = subst (λ (x : ℕ × ℕ). is_same_block f n x.0 x.1 ≡ true) (λ j. (e j, d j)) (self_block f n) in absurd (cc (is, apart))))
    (λ (d : n ≢ m). inr d)
    (cases_eq n m))
    (λ (d : f ≢ g). inl d)
    (cases_eq f g)

abbrev pub OfEntry : DiscPart → ℕ → ℕ → Option Frame → Type 0
OfEntry s f n o = DrawsOf s f n (position_in o) (dirty_in o) (half_in o)

module _ {D : Type 0} (s : DiscPart) (old new : View D) (was : AreDrawn s old) where
  -- nothing has happened but that blocks without a draw came and went
  pub drawn_same : ((f n : ℕ) → n < 256 → SameDraws (entry_at old.cache f n) (entry_at new.cache f n)) → AreDrawn s new
  drawn_same same f n few = (let d = same f n few in draws_same s f n _ _ _ _ _ _ (was f n few) d.dirty d.half d.position)

  -- one block was changed
  pub drawn_written : (r : AuditRecord) (op : Op) (number : ℕ) → number < 256 → home_block s.config r.file r.key ≡ number → HasMarked old new r.file number (set_in r.key r.after r.position)
      → (c : Frame) → entry_at old.cache r.file number ≡ Some c → r.position ≡ next_position s → DrawsBehind s → MadeBelow s
      → AreDrawn (record s { events = did.Write r op ∷ s.events }) new
  drawn_written r op number small home set c there at behind below f n few = of (is_in_block s.config f n r) refl
    where
      next : DiscPart
      next = record s { events = did.Write r op ∷ s.events }

      here : is_in_block s.config r.file number r ≡ true → OfEntry next r.file number (entry_at new.cache r.file number)
      here inside =
          let now : entry_at new.cache r.file number ≡ Some (set_in r.key r.after r.position c) = set.entry ∙ ap (option_map (set_in r.key r.after r.position)) there in
          subst (λ (o : Option Frame). OfEntry next r.file number o) (sym now)
          (draws_written s r.file number c.block.position c.dirty (half_in (Some c)) r op (subst (λ (o : Option Frame). OfEntry s r.file number o) there (was r.file number small)) inside at behind below)

      of : (b : Bool) → is_in_block s.config f n r ≡ b → OfEntry next f n (entry_at new.cache f n)
      of true e =
          let b = same_block f n r.file (home_block s.config r.file r.key) e in
          let m : n ≡ number = b.1 ∙ home in
          subst (λ (x : ℕ × ℕ). OfEntry next x.0 x.1 (entry_at new.cache x.0 x.1)) (λ j. (sym b.0 j, sym m j))
          (here (subst (λ (x : ℕ × ℕ). is_in_block s.config x.0 x.1 r ≡ true) (λ j. (b.0 j, m j)) e))
      of false e =
          let apart = apart_of f n r.file number (subst (λ (m : ℕ). is_same_block f n r.file m ≡ false) home e) in
          subst (λ (o : Option Frame). OfEntry next f n o) (sym (set.others f n few apart))
          (draws_other s f n _ _ _ r op (was f n few) e)
