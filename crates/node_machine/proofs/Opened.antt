-- The part of each number at the opening.
use Rattle.std.specs.Prelude.{ℕ, zero, suc, ◌≤◌, List, [], ◌∷◌, Option, Some, None, slice_get}
use Rattle.std.proofs.Common.{◌≡◌, refl, subst, length, arith}
use Rattle.tmf_model.specs.Commits.{numbered}
use Rattle.node_machine.specs.Parts.{PartState}
use Rattle.node_machine.specs.Parts.PartState.{Worker, Disc, Trail, Monitor, Dump, Idle}
use Rattle.node_machine.specs.Opening.{Found, TrailFound, VolumeFound, firsts_on, found_volume, opening_parts, disc_with, dump_with, trail_with, worker_at, disc_at, trail_at, monitor_at, dump_at, worker_part, disc_part, trail_part, monitor_part, dump_part}

pub opening_count : (found : Found) → length (opening_parts found) ≡ 37
opening_count found = refl

pub opening_monitor : (found : Found) → slice_get (opening_parts found) monitor_part ≡ Some (monitor_at found)
opening_monitor found = refl

pub opening_worker : (found : Found) (n : ℕ) → 1 ≤ n → n ≤ 16 → slice_get (opening_parts found) (worker_part n) ≡ Some (worker_at found n)
opening_worker found zero low high = absurd (omega (arith, low))
opening_worker found (suc zero) low high = refl
opening_worker found (suc (suc zero)) low high = refl
opening_worker found (suc (suc (suc zero))) low high = refl
opening_worker found (suc (suc (suc (suc zero)))) low high = refl
opening_worker found (suc (suc (suc (suc (suc zero))))) low high = refl
opening_worker found (suc (suc (suc (suc (suc (suc zero)))))) low high = refl
opening_worker found (suc (suc (suc (suc (suc (suc (suc zero))))))) low high = refl
opening_worker found (suc (suc (suc (suc (suc (suc (suc (suc zero)))))))) low high = refl
opening_worker found (suc (suc (suc (suc (suc (suc (suc (suc (suc zero))))))))) low high = refl
opening_worker found (suc (suc (suc (suc (suc (suc (suc (suc (suc (suc zero)))))))))) low high = refl
opening_worker found (suc (suc (suc (suc (suc (suc (suc (suc (suc (suc (suc zero))))))))))) low high = refl
opening_worker found (suc (suc (suc (suc (suc (suc (suc (suc (suc (suc (suc (suc zero)))))))))))) low high = refl
opening_worker found (suc (suc (suc (suc (suc (suc (suc (suc (suc (suc (suc (suc (suc zero))))))))))))) low high = refl
opening_worker found (suc (suc (suc (suc (suc (suc (suc (suc (suc (suc (suc (suc (suc (suc zero)))))))))))))) low high = refl
opening_worker found (suc (suc (suc (suc (suc (suc (suc (suc (suc (suc (suc (suc (suc (suc (suc zero))))))))))))))) low high = refl
opening_worker found (suc (suc (suc (suc (suc (suc (suc (suc (suc (suc (suc (suc (suc (suc (suc (suc zero)))))))))))))))) low high = refl
opening_worker found (suc (suc (suc (suc (suc (suc (suc (suc (suc (suc (suc (suc (suc (suc (suc (suc (suc n))))))))))))))))) low high = absurd (omega (arith, high))

pub opening_disc : (found : Found) (n : ℕ) → 1 ≤ n → n ≤ 8 → slice_get (opening_parts found) (disc_part n) ≡ Some (disc_at found n)
opening_disc found zero low high = absurd (omega (arith, low))
opening_disc found (suc zero) low high = refl
opening_disc found (suc (suc zero)) low high = refl
opening_disc found (suc (suc (suc zero))) low high = refl
opening_disc found (suc (suc (suc (suc zero)))) low high = refl
opening_disc found (suc (suc (suc (suc (suc zero))))) low high = refl
opening_disc found (suc (suc (suc (suc (suc (suc zero)))))) low high = refl
opening_disc found (suc (suc (suc (suc (suc (suc (suc zero))))))) low high = refl
opening_disc found (suc (suc (suc (suc (suc (suc (suc (suc zero)))))))) low high = refl
opening_disc found (suc (suc (suc (suc (suc (suc (suc (suc (suc n))))))))) low high = absurd (omega (arith, high))

pub opening_trail : (found : Found) (n : ℕ) → 1 ≤ n → n ≤ 4 → slice_get (opening_parts found) (trail_part n) ≡ Some (trail_at found n)
opening_trail found zero low high = absurd (omega (arith, low))
opening_trail found (suc zero) low high = refl
opening_trail found (suc (suc zero)) low high = refl
opening_trail found (suc (suc (suc zero))) low high = refl
opening_trail found (suc (suc (suc (suc zero)))) low high = refl
opening_trail found (suc (suc (suc (suc (suc n))))) low high = absurd (omega (arith, high))

pub opening_dump : (found : Found) (n : ℕ) → 1 ≤ n → n ≤ 8 → slice_get (opening_parts found) (dump_part n) ≡ Some (dump_at found n)
opening_dump found zero low high = absurd (omega (arith, low))
opening_dump found (suc zero) low high = refl
opening_dump found (suc (suc zero)) low high = refl
opening_dump found (suc (suc (suc zero))) low high = refl
opening_dump found (suc (suc (suc (suc zero)))) low high = refl
opening_dump found (suc (suc (suc (suc (suc zero))))) low high = refl
opening_dump found (suc (suc (suc (suc (suc (suc zero)))))) low high = refl
opening_dump found (suc (suc (suc (suc (suc (suc (suc zero))))))) low high = refl
opening_dump found (suc (suc (suc (suc (suc (suc (suc (suc zero)))))))) low high = refl
opening_dump found (suc (suc (suc (suc (suc (suc (suc (suc (suc n))))))))) low high = absurd (omega (arith, high))

-- NOTHING HAS HAPPENED AT AN OPENING

abbrev pub IsFresh : PartState → Type 0
IsFresh (Worker s) = s.events ≡ []
IsFresh (Disc s) = s.events ≡ []
IsFresh (Trail s) = s.events ≡ []
IsFresh (Monitor s) = s.events ≡ []
IsFresh (Dump s) = s.events ≡ []
IsFresh Idle = Unit {0}

abbrev AreFresh : List PartState → Type 0
AreFresh [] = Unit {0}
AreFresh (s ∷ ss) = IsFresh s × AreFresh ss

fresh_at : (ss : List PartState) → AreFresh ss → (q : ℕ) (s : PartState) → slice_get ss q ≡ Some s → IsFresh s
fresh_at [] all q s at = absurd (cc (at))
fresh_at (x ∷ ss) all zero s at = (let same : x ≡ s = cc (at) in subst IsFresh same all.0)
fresh_at (x ∷ ss) all (suc q) s at = fresh_at ss all.1 q s at

pub fresh : (found : Found) (q : ℕ) (s : PartState) → slice_get (opening_parts found) q ≡ Some s → IsFresh s
fresh found q s at = fresh_at (opening_parts found)
    (refl, (refl, (refl, (refl, (refl, (refl, (refl, (refl, (refl, (refl, (refl, (refl, (refl, (refl, (refl, (refl, (d 1, (d 2, (d 3, (d 4, (d 5, (d 6, (d 7, (d 8, (t 1, (t 2, (t 3, (t 4, (refl, (u 1, (u 2, (u 3, (u 4, (u 5, (u 6, (u 7, (u 8, tt))))))))))))))))))))))))))))))))))))) q s at
  where
    by_disc : (n : ℕ) (v : Option VolumeFound) → IsFresh (disc_with found.config n v)
    by_disc n None = tt
    by_disc n (Some v) = refl

    by_dump : (n : ℕ) (v : Option VolumeFound) → IsFresh (dump_with found.config n v)
    by_dump n None = tt
    by_dump n (Some v) = refl

    d : (n : ℕ) → IsFresh (disc_at found n)
    d n = by_disc n (found_volume found n)

    u : (n : ℕ) → IsFresh (dump_at found n)
    u n = by_dump n (found_volume found n)

    t : (n : ℕ) → IsFresh (trail_at found n)
    t n = by_trail (numbered found.trails n) where
      by_trail : (v : Option TrailFound) → IsFresh (trail_with found.config n (firsts_on found n 1 found.volumes) v)
      by_trail None = tt
      by_trail (Some v) = refl
