-- What the fields keep of a part that has had no event.
use Rattle.std.proofs.Common.{◌≡◌, ℕ, zero, suc, ◌+◌, ◌<◌, ◌≤◌, ◌==◌, Bool, true, false, List, [], ◌∷◌, Option, Some, None, cond, slice_get, nat_eq, eq-eqb, eqb-true, refl, ap, sym, ◌∙◌, subst, arith, unwrap_or}
use Rattle.std.specs.Map.{lookup}
use Rattle.std.specs.Option.{option_map_or}
use Rattle.std.proofs.lemmas.Option.{get_or_from_slice_get, slice_get_within}
use Rattle.disk_model.specs.Held.{Held}
use Rattle.tmf_model.specs.Config.{IsValidConfig, IsWithin}
use Rattle.tmf_model.specs.declared.config.Config.{Config}
use Rattle.tmf_model.specs.declared.config.FileLine.{FileLine}
use Rattle.tmf_model.specs.declared.transid.Transid.{Transid}
use Rattle.keyed_file.specs.Volume.{blocks_of as label_blocks, files_on, label_of}
use Rattle.keyed_file.specs.declared.label.Label.{Label}
use Rattle.node_machine.specs.declared.event.DiscEvent.{DiscEvent}
use Rattle.node_machine.specs.Made.{blocks_of, volume_of}
use Rattle.node_machine.specs.Parts.{DiscPart}
use Rattle.block_cache.specs.declared.frame.Frame.{Frame}
use Rattle.block_cache.specs.Blocks.{View}
use Rattle.block_cache.specs.Cache.{entry_at}
use Rattle.disc_process.specs.declared.live.LiveTable.{LiveTable}
use Rattle.disc_process.specs.Blocks.{dirty_in, half_in, position_in}
use Rattle.disc_process.specs.Disc.{HoldsOpening, HoldsValues, Keeps, ToldBy, position_limit}
use Rattle.disc_process.specs.Draws.{DrawsOf}
use Rattle.disc_process.specs.Live.{live_of}
use Rattle.disc_process.specs.LiveTx.{LiveTx, nothing_done}
use Rattle.disc_process.proofs.Telling.{told_by}

-- THE FILES OF A LABEL

less_apart : (a b : ℕ) → a < b → (a == b) ≡ false
less_apart a b lt = grind (arith)

more_apart : (a b : ℕ) → b < a → (a == b) ≡ false
more_apart a b lt = grind (arith)

row_kept : (v first f : ℕ) (x : FileLine) (rest : List (ℕ × ℕ)) → (f == first) ≡ false → label_blocks (cond (x.volume == v) ((first, x.blocks) ∷ rest) rest) f ≡ label_blocks rest f
row_kept v first f x rest apart = of (x.volume == v)
  where
    of : (b : Bool) → label_blocks (cond b ((first, x.blocks) ∷ rest) rest) f ≡ label_blocks rest f
    of true = ap (λ c. unwrap_or (cond c (Some x.blocks) (lookup (nat_eq f) rest)) 0) apart
    of false = refl

none_before : (v first : ℕ) (lines : List FileLine) (f : ℕ) → f < first → label_blocks (files_on v first lines) f ≡ 0
none_before v first [] f lt = refl
none_before v first (x ∷ xs) f lt = row_kept v first f x (files_on v (first + 1) xs) (less_apart f first lt) ∙ none_before v (first + 1) xs f (omega (arith, lt))

abbrev shown : ℕ → Option FileLine → ℕ
shown v None = 0
shown v (Some line) = cond (line.volume == v) line.blocks 0

on_label : (v first k : ℕ) (lines : List FileLine) → label_blocks (files_on v first lines) (first + k) ≡ shown v (slice_get lines k)
on_label v first zero [] = refl
on_label v first (suc k) [] = refl
on_label v first zero (x ∷ xs) = of (x.volume == v)
  where
    rest : List (ℕ × ℕ)
    rest = files_on v (first + 1) xs

    same : ((first + 0) == first) ≡ true
    same = eq-eqb (first + 0) first (omega arith)

    of : (b : Bool) → label_blocks (cond b ((first, x.blocks) ∷ rest) rest) (first + 0) ≡ cond b x.blocks 0
    of true = ap (λ c. unwrap_or (cond c (Some x.blocks) (lookup (nat_eq (first + 0)) rest)) 0) same
    of false = none_before v (first + 1) xs (first + 0) (omega arith)
on_label v first (suc k) (x ∷ xs) =
    row_kept v first (first + suc k) x (files_on v (first + 1) xs) (more_apart (first + suc k) first (omega arith))
    ∙ ap (label_blocks (files_on v (first + 1) xs)) (omega arith)
    ∙ on_label v (first + 1) k xs

cond_same : (b : Bool) (n : ℕ) → cond b n n ≡ n
cond_same true n = refl
cond_same false n = refl

line_shown : (v : ℕ) (o : Option FileLine) → shown v o ≡ cond (option_map_or (λ line. line.volume) o 0 == v) (option_map_or (λ line. line.blocks) o 0) 0
line_shown v None = sym (cond_same (0 == v) 0)
line_shown v (Some line) = refl

-- how many blocks a file has on the volume's label
label_is : (config : Config) (v f : ℕ) → label_blocks (files_on v 1 config.files) f ≡ cond (volume_of config f == v) (blocks_of config f) 0
label_is config v zero = none_before v 1 config.files 0 (omega arith) ∙ sym (cond_same (0 == v) 0)
label_is config v (suc k) = ap (label_blocks (files_on v 1 config.files)) (omega arith) ∙ on_label v 1 k config.files ∙ line_shown v (slice_get config.files k)

pub label_here : (config : Config) (v f : ℕ) → volume_of config f ≡ v → label_blocks (files_on v 1 config.files) f ≡ blocks_of config f
label_here config v f here = label_is config v f ∙ ap (λ b. cond b (blocks_of config f) 0) (eq-eqb (volume_of config f) v here)

pub label_only : (config : Config) (v f : ℕ) → 0 < label_blocks (files_on v 1 config.files) f → volume_of config f ≡ v
label_only config v f some = of (volume_of config f == v) refl
  where
    of : (b : Bool) → (volume_of config f == v) ≡ b → volume_of config f ≡ v
    of true e = eqb-true (volume_of config f) v e
    of false e = (let none = label_is config v f ∙ ap (λ b. cond b (blocks_of config f) 0) e in absurd (omega (arith, some, none)))

-- a file of the volume has 1 to 256 blocks
pub homes_of : (config : Config) (v f : ℕ) → IsValidConfig config → 1 ≤ v → volume_of config f ≡ v → IsWithin 1 256 (blocks_of config f)
homes_of config v zero valid some here = absurd (omega (arith, some, here))
homes_of config v (suc k) valid some here = of (slice_get config.files k) refl here
  where
    of : (o : Option FileLine) → slice_get config.files k ≡ o → option_map_or (λ line. line.volume) o 0 ≡ v → IsWithin 1 256 (blocks_of config (suc k))
    of None at is = absurd (omega (arith, some, is))
    of (Some line) at is =
        let all = valid.files.blocks k line (slice_get_within config.files k line at) in
        let within : IsWithin 1 256 line.blocks = subst (λ (l : FileLine). IsWithin 1 256 l.blocks) (get_or_from_slice_get config.files k line line at) all in
        subst (λ (o : Option FileLine). IsWithin 1 256 (option_map_or (λ l. l.blocks) o 0)) (sym at) within

-- THE OPENING

clean_none : (s : DiscPart) (f n : ℕ) → DrawsOf (record s { events = [] }) f n 0 false false
clean_none s f n = record { half_is = refl; dirty_is = λ e. absurd (cc (e)); clean_is = λ e r there same. absurd there }

opened_keeps : {D : Type 0} (tells : D → Bool) (held : D → Held) (s : DiscPart) (blocks : View D) (live : LiveTable) (next : ℕ)
    → next ≡ s.first → 1 ≤ next → next ≤ position_limit → ((t : Transid) → live_of live t ≡ nothing_done)
    → ToldBy s.base (HoldsOpening tells held s blocks) → ((f n : ℕ) → entry_at blocks.cache f n ≡ None)
    → IsValidConfig s.config → 1 ≤ s.number → blocks.label ≡ label_of s.config s.number blocks.label.low
    → Keeps tells held blocks [] live [] next (record s { events = [] })
opened_keeps tells held s blocks live next first some few none values empty valid number label = record {
  position = (omega (arith, first));
  few = (omega (arith, few));
  holds_locks = record { keys = λ f k. refl; writing = λ f k. refl; files = λ f. refl };
  holds_live = λ t unreleased. record {
    left = sym (ap (λ (l : LiveTx). l.left) (none t));
    last = sym (ap (λ (l : LiveTx). l.last) (none t));
    closed = sym (ap (λ (l : LiveTx). l.closed) (none t));
    undone = sym (ap (λ (l : LiveTx). l.undone) (none t));
  };
  coming = record {
    come = λ t unreleased. ap (λ (l : LiveTx). l.come) (none t);
    gone = λ t released. none t;
    here = λ t r there. absurd there;
  };
  holds_pending = ([], refl);
  values = told_by s.base (HoldsOpening tells held s blocks) (HoldsValues tells held (record s { events = [] }) blocks)
      (λ base h. record { landed = h.landed; next = h.next; told = h.told; holds = h.holds; same = λ f k here. h.same f k here; landed_is = λ f k here. h.landed_is f k here; next_is = λ f k p here under. absurd (cc (under)) }) values;
  draws = record { first = (omega (arith, first, some)); drawn_at = λ f n. (omega (arith, first, some)); drawing_at = λ f n p under. absurd (cc (under)) };
  are_drawn = λ f n small. subst (λ (o : Option Frame). DrawsOf (record s { events = [] }) f n (position_in o) (dirty_in o) (half_in o)) (sym (empty f n)) (clean_none s f n);
  below = λ r there. absurd there;
  audit = tt;
  homes = λ f here. homes_of s.config s.number f valid number here;
  files = λ f here. ap (λ (l : Label). label_blocks l.files f) label ∙ label_here s.config s.number f here;
  only = λ f more. label_only s.config s.number f (subst (λ (l : Label). 0 < label_blocks l.files f) label more);
}

pub opening_keeps : {D : Type 0} (tells : D → Bool) (held : D → Held) (s : DiscPart) (blocks : View D) (live : LiveTable) (next : ℕ)
    → s.events ≡ [] → next ≡ s.first → 1 ≤ next → next ≤ position_limit → ((t : Transid) → live_of live t ≡ nothing_done)
    → ToldBy s.base (HoldsOpening tells held s blocks) → ((f n : ℕ) → entry_at blocks.cache f n ≡ None)
    → IsValidConfig s.config → 1 ≤ s.number → blocks.label ≡ label_of s.config s.number blocks.label.low
    → Keeps tells held blocks [] live [] next s
opening_keeps tells held s blocks live next still first some few none values empty valid number label =
    subst (λ (es : List DiscEvent). Keeps tells held blocks [] live [] next (record s { events = es })) (sym still)
    (opened_keeps tells held s blocks live next first some few none values empty valid number label)
