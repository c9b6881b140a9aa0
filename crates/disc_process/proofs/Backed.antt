-- What is said of undos in a row, and of a release behind them.
use Rattle.std.proofs.Common.{◌≡◌, ℕ, ◌+◌, ◌<◌, ◌≤◌, Bool, true, false, List, [], ◌∷◌, ◌++◌, drop, length, map, reverse, append_assoc, append-nil, Result, Ok, Err, cond, refl, ap, sym, ◌∙◌, subst, arith}
use Rattle.std.specs.Prelude.{⊤}
use Rattle.std.specs.List.{list_all}
use Rattle.std.proofs.lemmas.Bool.{and_from, and_parts}
use Rattle.std.proofs.lemmas.List.{append_cancel_left, reverse-append}
use Rattle.std.proofs.lemmas.List.Folds.{list_all-append}
use mathlib.Core.List.{reverse-cons}
use Rattle.chronicle.specs.Seats.{HasGrown, HasLearned, own_events}
use Rattle.disk_model.specs.declared.disk.Disk as disk
use Rattle.tmf_model.specs.declared.transid.Transid.{Transid}
use Rattle.trail_files.specs.MonitorOrder.{is_same_transid}
use Rattle.node_machine.specs.SameLaws.{same_self}
use Rattle.node_machine.specs.declared.event.DiscEvent.{DiscEvent}
use Rattle.node_machine.specs.declared.event.DiscEvent.TheVariants as did
use Rattle.node_machine.specs.declared.event.Event.{Event}
use Rattle.node_machine.specs.declared.event.Event.TheVariants.{OfDisc}
use Rattle.node_machine.specs.Made.{changes_left}
use Rattle.node_machine.specs.Node.{node}
use Rattle.node_machine.specs.Parts.{DiscPart, PartState}
use Rattle.keyed_file.specs.Block.{value_at}
use Rattle.block_cache.specs.Blocks.{View}
use Rattle.disc_process.specs.declared.live.Change.{Change}
use Rattle.disc_process.specs.declared.undo_refused.UndoRefused.{UndoRefused}
use Rattle.disc_process.specs.Coming.{is_live}
use Rattle.disc_process.specs.Disc.{DiscView}
use Rattle.disc_process.specs.Draw.{is_draw}
use Rattle.disc_process.specs.Later.{IsLaterDisc}
use Rattle.disc_process.specs.Release.{HasFreed, releasings}
use Rattle.disc_process.specs.Undo.{AreUndone, HasReleased, HasUndoneNext, HasUndoneSome, IsNewest, IsReleaseAnswer, IsUndoAnswer, is_undoing, undo_of, undos_in}
use Rattle.disc_process.proofs.Drawn.{prefix_same, prefix_then}
use Rattle.disc_process.proofs.Later.{grown_then}

-- EVENTS

draw_undoing : (t : Transid) (e : Event) → is_draw e ≡ true → is_undoing t e ≡ true
draw_undoing t (OfDisc (did.Draw f n p)) h = refl
draw_undoing t (OfDisc (did.Drawn f n)) h = refl
draw_undoing t (OfDisc (did.Undo r)) h = absurd (cc (h))
draw_undoing t _ h = h

draws_undoing : (t : Transid) (es : List Event) → list_all is_draw es ≡ true → list_all (is_undoing t) es ≡ true
draws_undoing t [] h = refl
draws_undoing t (e ∷ es) h = (let p = and_parts (is_draw e) (list_all is_draw es) h in and_from (is_undoing t e) (list_all (is_undoing t) es) (draw_undoing t e p.0) (draws_undoing t es p.1))

no_undo : (e : Event) (es : List Event) → is_draw e ≡ true → undos_in (e ∷ es) ≡ undos_in es
no_undo (OfDisc (did.Undo r)) es h = absurd (cc (h))
no_undo _ es h = refl

no_undos : (es : List Event) → list_all is_draw es ≡ true → undos_in es ≡ 0
no_undos [] h = refl
no_undos (e ∷ es) h = (let p = and_parts (is_draw e) (list_all is_draw es) h in no_undo e es p.0 ∙ no_undos es p.1)

one_more : (e : Event) (xs ys : List Event) → undos_in (xs ++ ys) ≡ undos_in xs + undos_in ys → undos_in (e ∷ xs ++ ys) ≡ undos_in (e ∷ xs) + undos_in ys
one_more (OfDisc (did.Undo r)) xs ys h = omega (arith, h)
one_more _ xs ys h = h

from_zero : (n : ℕ) → n ≡ 0 + n
from_zero n = omega arith

undos_append : (xs ys : List Event) → undos_in (xs ++ ys) ≡ undos_in xs + undos_in ys
undos_append [] ys = from_zero (undos_in ys)
undos_append (e ∷ xs) ys = one_more e xs ys (undos_append xs ys)

-- LATER DISCS

-- a later disc of a later one
pub disc_then : {D : Type 0} (opening : List PartState) (a b c : DiscView D) → IsLaterDisc opening a b → IsLaterDisc opening b c → IsLaterDisc opening a c
disc_then opening a b c first second = record {
  more = first.more ++ second.more;
  part = second.part
      ∙ ap (λ (s : DiscPart). record s { events = reverse second.more ++ s.events }) first.part
      ∙ ap (λ (l : List DiscEvent). record a.part { events = l }) (sym (append_assoc (reverse second.more) (reverse first.more) a.part.events) ∙ ap (λ (l : List DiscEvent). l ++ a.part.events) (sym (reverse-append first.more second.more)));
  events = second.events
      ∙ ap (λ (l : List Event). l ++ map OfDisc second.more) first.events
      ∙ append_assoc (own_events a.seat) (map OfDisc first.more) (map OfDisc second.more)
      ∙ ap (λ (l : List Event). own_events a.seat ++ l) (sym (mapped first.more second.more));
  place = second.place ∙ first.place;
  begins = prefix_then a.seat.seen b.seat.seen c.seat.seen first.begins second.begins;
  knows = λ f k. second.knows f (first.knows f k);
}
  where
    mapped : (xs ys : List DiscEvent) → map OfDisc (xs ++ ys) ≡ map OfDisc xs ++ map OfDisc ys
    mapped [] ys = refl
    mapped (x ∷ xs) ys = ap (λ (l : List Event). OfDisc x ∷ l) (mapped xs ys)

-- a disc is later than itself
pub disc_same : {D : Type 0} (opening : List PartState) (v : DiscView D) → IsLaterDisc opening v v
disc_same opening v = record { more = []; part = refl; events = sym (append-nil (own_events v.seat)); place = refl; begins = prefix_same v.seat.seen v.seat.seen refl; knows = λ f k. k }

-- a disc whose seat has met another
pub met_disc : {D : Type 0} (opening : List PartState) (old new : DiscView D) → new.part ≡ old.part → HasGrown old.seat new.seat → HasLearned node opening old.seat new.seat → IsLaterDisc opening old new
met_disc opening old new part grown still_knows = record {
  more = [];
  part = part;
  events = grown.mine ∙ sym (append-nil (own_events old.seat));
  place = grown.part;
  begins = grown.begins;
  knows = still_knows.knows;
}

-- an undo or a draw lets no transaction come or go
live_undoing : (t u : Transid) (d : DiscEvent) (es : List DiscEvent) → is_undoing t (OfDisc d) ≡ true → is_live (d ∷ es) u ≡ is_live es u
live_undoing t u (did.Undo r) es h = refl
live_undoing t u (did.Draw f n p) es h = refl
live_undoing t u (did.Drawn f n) es h = refl
live_undoing t u _ es h = absurd (cc (h))

live_later : (t u : Transid) (ds es : List DiscEvent) → list_all (is_undoing t) (map OfDisc ds) ≡ true → is_live (reverse ds ++ es) u ≡ is_live es u
live_later t u [] es h = refl
live_later t u (d ∷ ds) es h =
    let p = and_parts (is_undoing t (OfDisc d)) (list_all (is_undoing t) (map OfDisc ds)) h in
    ap (λ (l : List DiscEvent). is_live l u) (ap (λ (l : List DiscEvent). l ++ es) (reverse-cons d ds) ∙ append_assoc (reverse ds) (d ∷ []) es)
    ∙ live_later t u ds (d ∷ es) p.1
    ∙ live_undoing t u d es p.0

-- UNDOS IN A ROW

pub none_undone : {D : Type 0} (opening : List PartState) (v : DiscView D) (t : Transid) → HasUndoneSome opening v v t
none_undone opening v t = record {
  more = [];
  are = refl;
  events = sym (append-nil (own_events v.seat));
  count = from_zero (length (changes_left v.part.events t));
  still = λ e. refl;
  blocks = λ e. refl;
  met = v;
  only_seen = record { part = refl; blocks = refl; grown = record { part = refl; begins = prefix_same v.seat.seen v.seat.seen refl; mine = refl } };
  changes = [];
  undos = refl;
}

-- one behind them
one_behind : {D : Type 0} (opening : List PartState) (t : Transid) (changes : List Change) (old mid new : DiscView D) (change : Change)
    → AreUndone opening t changes old mid → HasUndoneNext opening t change mid new → AreUndone opening t (changes ++ change ∷ []) old new
one_behind {D} opening t [] old mid new change same h = (new, subst (λ (v : DiscView D). HasUndoneNext opening t change v new) same h, refl)
one_behind opening t (first ∷ changes) old mid new change (next, undone, rest) h = (next, undone, one_behind opening t changes next mid new change rest h)

-- one more
more_undone : {D : Type 0} (opening : List PartState) (old mid new : DiscView D) (t : Transid) (change : Change) → HasUndoneSome opening old mid t → HasUndoneNext opening t change mid new → HasUndoneSome opening old new t
more_undone opening old mid new t change some next =
    let newest = next.newest in
    let h = next.undone in
    let e : Event = OfDisc (did.Undo (undo_of mid.part t change (value_at h.block change.key))) in
    let last : List Event = h.drawn ++ e ∷ [] in
    let last_are : list_all (is_undoing t) last ≡ true =
    list_all-append (is_undoing t) h.drawn (e ∷ []) ∙ and_from (list_all (is_undoing t) h.drawn) (list_all (is_undoing t) (e ∷ [])) (draws_undoing t h.drawn h.draws) (and_from (is_same_transid t t) true (same_self t) refl) in
    let one : undos_in last ≡ 1 = undos_append h.drawn (e ∷ []) ∙ ap (λ n. n + 1) (no_undos h.drawn h.draws) in
    let all : undos_in (some.more ++ last) ≡ undos_in some.more + undos_in last = undos_append some.more last in
    let before : length (changes_left mid.part.events t) ≡ length (newest.item ∷ newest.others) = ap length newest.left in
    let after : length (changes_left new.part.events t) ≡ length newest.others = ap length (h.left ∙ ap (drop 1) newest.left) in
    let count = some.count in
    record {
      more = some.more ++ last;
      are = list_all-append (is_undoing t) some.more last ∙ and_from (list_all (is_undoing t) some.more) (list_all (is_undoing t) last) some.are last_are;
      events = h.events
          ∙ ap (λ (l : List Event). (l ++ h.drawn) ++ e ∷ []) some.events
          ∙ append_assoc (own_events old.seat ++ some.more) h.drawn (e ∷ [])
          ∙ append_assoc (own_events old.seat) some.more last;
      count = omega (arith, count, before, after, all, one);
      still = λ zero. (let no : undos_in (some.more ++ last) ≡ 0 = zero in let one_is_none : ◌≡◌ {A = ℕ} 1 0 = omega (arith, no, all, one) in absurd (cc (one_is_none)));
      blocks = λ zero. (let no : undos_in (some.more ++ last) ≡ 0 = zero in let one_is_none : ◌≡◌ {A = ℕ} 1 0 = omega (arith, no, all, one) in absurd (cc (one_is_none)));
      met = some.met;
      only_seen = some.only_seen;
      changes = some.changes ++ change ∷ [];
      undos = one_behind opening t some.changes some.met mid new change some.undos next;
    }

-- fewer are left
pub fewer_left : {D : Type 0} (kind : disk.Ghosts D) (mid new : DiscView D) (t : Transid) (change : Change) (b : Bool) → IsNewest mid.part t change → IsUndoAnswer kind mid new t (Ok b)
    → length (changes_left new.part.events t) < length (changes_left mid.part.events t)
fewer_left kind mid new t change true newest (c, n, h) =
    let before : length (changes_left mid.part.events t) ≡ length (n.item ∷ n.others) = ap length n.left in
    let after : length (changes_left new.part.events t) ≡ length n.others = ap length (h.left ∙ ap (drop 1) n.left) in
    omega (arith, before, after)
fewer_left kind mid new t change false newest h = (let no = h.none in let some = newest.left in absurd (cc (no, some)))

-- the answer of one more undo, where a change was left
pub next_undone : {D : Type 0} (kind : disk.Ghosts D) (opening : List PartState) (old mid new : DiscView D) (t : Transid) (change : Change) (b : Bool)
    → HasUndoneSome opening old mid t → IsNewest mid.part t change → IsLaterDisc opening mid new → IsUndoAnswer kind mid new t (Ok b) → HasUndoneSome opening old new t
next_undone kind opening old mid new t change true some newest later (c, n, h) = more_undone opening old mid new t c some (record { newest = n; undone = h; same_disc = later })
next_undone kind opening old mid new t change false some newest later h = (let no = h.none in let left = newest.left in absurd (cc (no, left)))

-- the transaction is as live as before
some_live : {D : Type 0} (opening : List PartState) (old new : DiscView D) (t : Transid) → IsLaterDisc opening old new → HasUndoneSome opening old new t → is_live new.part.events t ≡ is_live old.part.events t
some_live opening old new t later some =
    let same : map OfDisc later.more ≡ some.more = append_cancel_left (own_events old.seat) (map OfDisc later.more) some.more (sym later.events ∙ some.events) in
    ap (λ (s : DiscPart). is_live s.events t) later.part
    ∙ live_later t t later.more old.part.events (ap (list_all (is_undoing t)) same ∙ some.are)

-- a release behind them
pub released_behind : {D : Type 0} (opening : List PartState) (old mid new : DiscView D) (t : Transid) → IsLaterDisc opening old mid → HasUndoneSome opening old mid t → changes_left mid.part.events t ≡ [] → HasFreed mid new t → HasReleased opening old new t
released_behind opening old mid new t later some none freed =
    let count = some.count in
    let left : length (changes_left mid.part.events t) ≡ 0 = ap length none in
    record {
      more = some.more;
      are = some.are;
      all = omega (arith, count, left);
      still = some.still;
      blocks = λ zero. freed.blocks ∙ some.blocks zero;
      events = freed.events
          ∙ ap (λ (l : List Event). l ++ releasings mid.part.events t) some.events
          ∙ ap (λ (b : Bool). (own_events old.seat ++ some.more) ++ cond b (OfDisc (did.Release t) ∷ []) []) (some_live opening old mid t later some);
      last = mid;
      undone = some;
      freed = freed;
    }

-- BEHIND A MEETING

module _ {D : Type 0} (kind : disk.Ghosts D) (opening : List PartState) (old mid new : DiscView D) (t : Transid) (part : mid.part ≡ old.part) (blocks : mid.blocks ≡ old.blocks)
    (grown : HasGrown old.seat mid.seat) (still_knows : HasLearned node opening old.seat mid.seat) where
  some_met : (v : DiscView D) → HasUndoneSome opening mid v t → HasUndoneSome opening old v t
  some_met v h = record {
    more = h.more;
    are = h.are;
    events = h.events ∙ ap (λ (l : List Event). l ++ h.more) grown.mine;
    count = subst (λ (s : DiscPart). length (changes_left s.events t) ≡ undos_in h.more + length (changes_left v.part.events t)) part h.count;
    still = h.still;
    blocks = λ zero. h.blocks zero ∙ blocks;
    met = h.met;
    only_seen = record { part = h.only_seen.part ∙ part; blocks = h.only_seen.blocks ∙ blocks; grown = grown_then old.seat mid.seat h.met.seat grown h.only_seen.grown };
    changes = h.changes;
    undos = h.undos;
  }

  pub release_met : (r : Result ⊤ UndoRefused) → IsReleaseAnswer kind opening mid new t r → IsReleaseAnswer kind opening old new t r
  release_met (Ok done) h = record {
    more = h.more;
    are = h.are;
    all = h.all ∙ ap (λ (s : DiscPart). length (changes_left s.events t)) part;
    still = h.still;
    blocks = λ zero. h.blocks zero ∙ blocks;
    events = h.events ∙ ap (λ (x : List Event × DiscPart). (x.0 ++ h.more) ++ releasings x.1.events t) (λ j. (grown.mine j, part j));
    last = h.last;
    undone = some_met h.last h.undone;
    freed = h.freed;
  }
  release_met (Err e) h = record {
    mid = h.mid;
    undone = some_met h.mid h.undone;
    same_disc = disc_then opening old mid h.mid (met_disc opening old mid part grown still_knows) h.same_disc;
    later = subst (λ (v : View D). kind.faults v.device ≤ kind.faults h.mid.blocks.device) blocks h.later;
    next = h.next;
  }
