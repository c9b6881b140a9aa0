-- What the fields keep of their part, when a block is read into the cache.
use Rattle.std.proofs.Common.{◌≡◌, ℕ, Bool, List, Result, Ok, Err, refl, ap, sym, subst}
use Rattle.std.specs.Prelude.{IsTrue}
use Rattle.std.specs.Option.{option_map}
use Rattle.std.specs.Result.{MatchResult, OnOk, OnErr}
use Rattle.std.specs.Prelude.{IfErr}
use Rattle.disk_model.specs.declared.disk.Disk as disk
use Rattle.keyed_file.specs.declared.label.Label.{Label}
use Rattle.block_cache.specs.declared.fault.BlockFault.{BlockFault}
use Rattle.block_cache.specs.Damage.{TellsBlock}
use Rattle.disk_model.specs.Held.{Held}
use Rattle.keyed_file.specs.Volume.{Contents, blocks_of as label_blocks}
use Rattle.trail_files.specs.declared.audit_record.AuditRecord.{AuditRecord}
use Rattle.node_machine.specs.Parts.{DiscPart}
use Rattle.record_locks.specs.Names.{Entry as LockEntry}
use Rattle.block_cache.specs.declared.frame.Frame.{Frame}
use Rattle.block_cache.specs.Blocks.{Holds, IfCached, IsLoaded, View, content_in, home_of}
use Rattle.block_cache.specs.Cache.{CacheView, entry_at}
use Rattle.disc_process.specs.declared.live.LiveTable.{LiveTable}
use Rattle.disc_process.specs.Blocks.{SameDraws}
use Rattle.disc_process.specs.Disc.{Keeps}
use Rattle.disc_process.proofs.Caches.{loaded_content, loaded_draws}
use Rattle.disc_process.proofs.Drawn.{failed_keeps}
use Rattle.disc_process.proofs.Keeping.{keeps_same}

pub same_keeps : {D : Type 0} (tells : D → Bool) (held : D → Held) (s : DiscPart) (old new : View D) (locks : List LockEntry) (live : LiveTable) (pending : List AuditRecord) (next : ℕ)
    → (IsTrue (tells old.device) → IsTrue (tells new.device)) → Keeps tells held old locks live pending next s → new.cache ≡ old.cache → new.label ≡ old.label
    → ((landed after : Contents) → IsTrue (tells old.device) → Holds held old landed after → Holds held new landed after)
    → Keeps tells held new locks live pending next s
same_keeps tells held s old new locks live pending next told kept cache label holds =
    failed_keeps tells held s old new locks live pending next told kept
    (λ f n few. subst (λ (x : CacheView). SameDraws (entry_at old.cache f n) (entry_at x f n)) (sym cache) (record { dirty = refl; half = refl; position = λ d. refl }))
    (λ f n few. ap (λ (x : CacheView). option_map (λ (y : Frame). y.block) (entry_at x f n)) cache) label holds

pub loaded_keeps : {D A E : Type 0} (tells : D → Bool) (held : D → Held) (s : DiscPart) (old new : View D) (locks : List LockEntry) (live : LiveTable) (pending : List AuditRecord) (next : ℕ)
    → (f n : ℕ) (r : Result A E) → (IsTrue (tells old.device) → IsTrue (tells new.device)) → Keeps tells held old locks live pending next s → new.label ≡ old.label
    → ((landed after : Contents) → IsTrue (tells old.device) → Holds held old landed after → Holds held new landed after)
    → OnOk r (IsLoaded old.cache new.cache f n) → OnErr r (new.cache ≡ old.cache)
    → ((landed after : Contents) → IsTrue (tells old.device) → Holds held old landed after → OnOk r (IfCached new.cache f n (λ x. x.block ≡ content_in (entry_at old.cache f n) (landed f n))))
    → Keeps tells held new locks live pending next s
loaded_keeps tells held s old new locks live pending next f n (Err e) told kept label holds loaded cache content = same_keeps tells held s old new locks live pending next told kept cache label holds
loaded_keeps tells held s old new locks live pending next f n (Ok x) told kept label holds loaded cache content =
    keeps_same tells held s old new locks live pending next told
    (λ landed after is h. (holds landed after is h, loaded_content old new f n loaded held landed after h (content landed after is h)))
    label (loaded_draws old new f n loaded) kept
