-- Where each part stands: a disc of this number at the part of this number, and so on; so a fact of a disc, a trail or the monitor is one
-- of the one part that makes it.
use Rattle.std.specs.Prelude.{ℕ, zero, suc, ◌+◌, List, [], ◌∷◌, Option, Some, None, slice_get}
use Rattle.std.proofs.Common.{◌≡◌, refl, ap, sym, ◌∙◌, subst, arith}
use Rattle.chronicle.specs.Histories.{states_after, IsHistory, IsTrueIn}
use Rattle.trail_files.specs.declared.audit_record.AuditRecord.{AuditRecord}
use Rattle.node_machine.specs.declared.event.Event.{Event}
use Rattle.node_machine.specs.declared.event.Event.TheVariants.{OfWorker, OfDisc, OfTrail, OfMonitor, OfDump}
use Rattle.node_machine.specs.Parts.{DiscPart, PartState}
use Rattle.node_machine.specs.Parts.PartState.{Worker, Disc, Trail, Monitor, Dump, Idle}
use Rattle.node_machine.specs.Parts.Fact.{Made}
use Rattle.node_machine.specs.Opening.{Found, VolumeFound, TrailFound, found_volume, firsts_on, opening_parts, disc_with, dump_with, trail_with, disc_at, trail_at, dump_at, worker_part, disc_part, trail_part, monitor_part, dump_part}
use Rattle.tmf_model.specs.Commits.{numbered}
use Rattle.tmf_model.specs.declared.config.Config.{Config}
use Rattle.node_machine.specs.Disc.{DiscMakes}
use Rattle.node_machine.specs.Node.{node, IsAllowed, state_with}
use Rattle.node_machine.proofs.Kept.{kept}

-- the part of its kind and number
abbrev pub IsPlaced : ℕ → PartState → Type 0
IsPlaced q (Worker s) = q ≡ worker_part s.number
IsPlaced q (Disc s) = q ≡ disc_part s.number
IsPlaced q (Trail s) = q ≡ trail_part s.number
IsPlaced q (Monitor s) = q ≡ monitor_part
IsPlaced q (Dump s) = q ≡ dump_part s.number
IsPlaced q Idle = Unit {0}

keeps : (q : ℕ) (s : PartState) (e : Event) → IsAllowed s e → IsPlaced q s → IsPlaced q (state_with s e)
keeps q (Worker s) (OfWorker e) may is = is
keeps q (Disc s) (OfDisc e) may is = is
keeps q (Trail s) (OfTrail e) may is = is
keeps q (Monitor s) (OfMonitor e) may is = is
keeps q (Dump s) (OfDump e) may is = is
keeps q _ _ may is = absurd may

placed_in : (opening : List PartState) (log : List (ℕ × Event)) → IsHistory node opening log → ((q : ℕ) (s : PartState) → slice_get opening q ≡ Some s → IsPlaced q s) → (q : ℕ) (s : PartState) → slice_get (states_after node opening log) q ≡ Some s → IsPlaced q s
placed_in opening log h each = kept node IsPlaced keeps opening log h each

-- the disc that has made these records
pub made_there : (ss : List PartState) → ((q : ℕ) (s : PartState) → slice_get ss q ≡ Some s → IsPlaced q s) → (d n : ℕ) (records : List AuditRecord) → IsTrueIn node ss (Made d n records)
    → (s : DiscPart) × (slice_get ss (disc_part d) ≡ Some (Disc s)) × DiscMakes s (Made d n records)
made_there ss each d n records (q, Disc s, at, makes) =
    (s, ap (λ (p : ℕ). slice_get ss p) (sym (each q (Disc s) at ∙ ap (λ (m : ℕ). disc_part m) makes.0)) ∙ at, makes)
made_there ss each d n records (q, Worker s, at, makes) = absurd makes
made_there ss each d n records (q, Trail s, at, makes) = absurd makes
made_there ss each d n records (q, Monitor s, at, makes) = absurd makes
made_there ss each d n records (q, Dump s, at, makes) = absurd makes
made_there ss each d n records (q, Idle, at, makes) = absurd makes

-- the parts from this number on are placed
abbrev ArePlaced : ℕ → List PartState → Type 0
ArePlaced q [] = Unit {0}
ArePlaced q (s ∷ ss) = IsPlaced q s × ArePlaced (suc q) ss

each_placed : (first : ℕ) (ss : List PartState) → ArePlaced first ss → (q : ℕ) (s : PartState) → slice_get ss q ≡ Some s → IsPlaced (first + q) s
each_placed first [] all q s at = absurd (cc (at))
each_placed first (x ∷ ss) all zero s at = (let same : x ≡ s = cc (at) in subst (λ (n : ℕ). IsPlaced n s) (omega arith) (subst (λ (u : PartState). IsPlaced first u) same all.0))
each_placed first (x ∷ ss) all (suc q) s at = subst (λ (n : ℕ). IsPlaced n s) (omega arith) (each_placed (suc first) ss all.1 q s at)

disc_placed : (config : Config) (n : ℕ) (v : Option VolumeFound) → IsPlaced (disc_part n) (disc_with config n v)
disc_placed config n None = tt
disc_placed config n (Some v) = refl

dump_placed : (config : Config) (n : ℕ) (v : Option VolumeFound) → IsPlaced (dump_part n) (dump_with config n v)
dump_placed config n None = tt
dump_placed config n (Some v) = refl

trail_placed : (config : Config) (n : ℕ) (firsts : List (ℕ × ℕ)) (t : Option TrailFound) → IsPlaced (trail_part n) (trail_with config n firsts t)
trail_placed config n firsts None = tt
trail_placed config n firsts (Some t) = refl

-- each part of an opening is placed
pub opening_placed : (found : Found) (q : ℕ) (s : PartState) → slice_get (opening_parts found) q ≡ Some s → IsPlaced q s
opening_placed found q s at =
    let d : (n : ℕ) → IsPlaced (disc_part n) (disc_at found n) = λ n. disc_placed found.config n (found_volume found n) in
    let t : (n : ℕ) → IsPlaced (trail_part n) (trail_at found n) = λ n. trail_placed found.config n (firsts_on found n 1 found.volumes) (numbered found.trails n) in
    let u : (n : ℕ) → IsPlaced (dump_part n) (dump_at found n) = λ n. dump_placed found.config n (found_volume found n) in
    subst (λ (n : ℕ). IsPlaced n s) (omega arith) (each_placed 0 (opening_parts found)
    (refl, (refl, (refl, (refl, (refl, (refl, (refl, (refl, (refl, (refl, (refl, (refl, (refl, (refl, (refl, (refl, (d 1, (d 2, (d 3, (d 4, (d 5, (d 6, (d 7, (d 8, (t 1, (t 2, (t 3, (t 4, (refl, (u 1, (u 2, (u 3, (u 4, (u 5, (u 6, (u 7, (u 8, tt))))))))))))))))))))))))))))))))))))) q s at)

-- and each part after a history from one
pub parts_placed : (found : Found) (log : List (ℕ × Event)) → IsHistory node (opening_parts found) log → (q : ℕ) (s : PartState) → slice_get (states_after node (opening_parts found) log) q ≡ Some s → IsPlaced q s
parts_placed found log h = placed_in (opening_parts found) log h (opening_placed found)
