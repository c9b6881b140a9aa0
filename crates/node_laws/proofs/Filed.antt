-- The records behind what stands in a trail's files.
use Rattle.std.specs.Prelude.{◌≡◌, ℕ, nat_le, Bool, true, false, cond, List, [], ◌∷◌, map, filter}
use Rattle.std.proofs.Common.{ap, ⊎_elim, inl, inr, refl}
use Rattle.trail_files.specs.declared.audit_record.AuditRecord.{AuditRecord}
use Rattle.node_machine.specs.Parts.{Standing}
use Rattle.node_machine.specs.Shows.{records_from}
use Rattle.node_machine.specs.Trail.{landed, offered, stand_in, landed_standing, offered_standing}
use Rattle.node_machine.specs.Same.{Among}
use Rattle.node_machine.specs.SameLaws.{among_left, among_right, among_append}
use Rattle.node_machine.specs.declared.event.TrailEvent.{TrailEvent}
use Rattle.node_machine.specs.declared.event.TrailEvent.TheVariants.{Offer, Land, Purge, Failed as TrailFailed}

pub offered_item : (events : List TrailEvent) (x : Standing) → Among (offered_standing events) x → Among (offered events) x.item
offered_item [] x h = h
offered_item (Offer file records ∷ events) x h = in_batch records h where
  in_batch : (rs : List AuditRecord) → Among (stand_in file rs) x → Among rs x.item
  in_batch [] h = h
  in_batch (r ∷ rs) h = ⊎_elim (λ (e : record { file = file; item = r } ≡ x). inl (ap (λ (z : Standing). z.item) e)) (λ (k : Among (stand_in file rs) x). inr (in_batch rs k)) h
offered_item (Land ∷ events) x h = h
offered_item (Purge below last ∷ events) x h = offered_item events x h
offered_item (TrailFailed by ∷ events) x h = offered_item events x h

pub landed_item : (events : List TrailEvent) (x : Standing) → Among (landed_standing events) x → Among (landed events) x.item
landed_item [] x h = h
landed_item (Offer file records ∷ events) x h = landed_item events x h
landed_item (Land ∷ events) x h =
    ⊎_elim
    (λ (l : Among (landed_standing events) x). among_left (landed events) (offered events) x.item (landed_item events x l))
    (λ (r : Among (offered_standing events) x). among_right (landed events) (offered events) x.item (offered_item events x r))
    (among_append (landed_standing events) (offered_standing events) x h)
landed_item (Purge below last ∷ events) x h = landed_item events x h
landed_item (TrailFailed by ∷ events) x h = landed_item events x h

pub from_item : (n : ℕ) (xs : List Standing) (r : AuditRecord) → Among (records_from n xs) r → (x : Standing) × Among xs x × (x.item ≡ r)
from_item n [] r h = absurd h
from_item n (x ∷ xs) r h = by_case (nat_le n x.file) (from_item n xs r) h where
  by_case : (b : Bool) → (Among (records_from n xs) r → (y : Standing) × Among xs y × (y.item ≡ r)) → Among (map (λ y. y.item) (cond b (x ∷ filter (λ y. nat_le n y.file) xs) (filter (λ y. nat_le n y.file) xs))) r → (y : Standing) × Among (x ∷ xs) y × (y.item ≡ r)
  by_case true more h = ⊎_elim (λ (e : x.item ≡ r). (x, inl refl, e)) (λ (k : Among (records_from n xs) r). (let m = more k in (m.0, inr m.1, m.2))) h
  by_case false more h = (let m = more h in (m.0, inr m.1, m.2))

pub old_item : (xs : List Standing) (x : Standing) → Among xs x → Among (map (λ y. y.item) xs) x.item
old_item [] x h = h
old_item (y ∷ xs) x h = ⊎_elim (λ (e : y ≡ x). inl (ap (λ (z : Standing). z.item) e)) (λ (k : Among xs x). inr (old_item xs x k)) h
