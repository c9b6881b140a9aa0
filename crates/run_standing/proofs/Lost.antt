-- The same volumes are lost before a history and in each image that it allows.
use Rattle.std.specs.Prelude.{Option, Some, None}
use Rattle.std.proofs.Common.{◌≡◌, ◌≤◌, ℕ, List, sym, ap, ◌∙◌, arith}
use Rattle.chronicle.specs.Histories.{states_after}
use Rattle.disk_model.specs.Held.{Held}
use Rattle.tmf_model.specs.declared.config.Config.{Config}
use Rattle.trail_files.specs.StandsFor.{Base}
use Rattle.trail_files.specs.declared.audit_record.AuditRecord.{AuditRecord}
use Rattle.keyed_file.specs.Volume.{IsLost}
use Rattle.block_cache.specs.Volume.{HasBase}
use Rattle.node_machine.specs.Deeds.{Log}
use Rattle.node_machine.specs.Law.{IsFoundVolume}
use Rattle.node_machine.specs.Node.{node}
use Rattle.node_machine.specs.Opening.{Found, VolumeFound, disc_at, disc_part, disc_with, found_volume, opening_parts}
use Rattle.node_machine.specs.Parts.{PartState}
use Rattle.node_machine.specs.Parts.PartState.{Disc, Idle}
use Rattle.node_machine.specs.Shows.{PartIs}
use Rattle.node_machine.proofs.Opened.{opening_disc}
use Rattle.run_outcomes.specs.Shows.{ShowsBase}
use Rattle.run_outcomes.proofs.PartKinds.{kind_of, same_kind}

-- both are there, or neither is
abbrev AreAlike : Option Base → Option Base → Type 0
AreAlike None None = Unit {0}
AreAlike (Some a) (Some b) = Unit {0}
AreAlike None (Some b) = ⊥
AreAlike (Some a) None = ⊥

-- a part of the kind that was found of a volume shows a base exactly where one was found
alike : (config : Config) (number : ℕ) (audit : List AuditRecord) (v : Option VolumeFound) (old now dump : Option Base) (s : PartState)
    → IsFoundVolume config number audit v old dump → kind_of s ≡ kind_of (disc_with config number v) → ShowsBase s now → AreAlike old now
alike config number audit None None None dump s is kind shows = tt
alike config number audit None None (Some b) dump (Disc s) is kind shows = absurd (omega (arith, kind))
alike config number audit None None (Some b) dump Idle is kind shows = absurd (cc (shows))
alike config number audit None None (Some b) dump _ is kind shows = absurd shows
alike config number audit None (Some a) now dump s is kind shows = absurd (cc (is))
alike config number audit (Some v) None now dump s is kind shows = absurd is
alike config number audit (Some v) (Some a) (Some b) dump s is kind shows = tt
alike config number audit (Some v) (Some a) None dump Idle is kind shows = absurd (omega (arith, kind))
alike config number audit (Some v) (Some a) None dump _ is kind shows = absurd shows

-- an image without a label is lost, and one with a label is not
lost : (config : Config) (number : ℕ) (image : Held) → HasBase config number image None → IsLost image
lost config number image has file there = (has file there).1

kept : (config : Config) (number : ℕ) (image : Held) (base : Base) → HasBase config number image (Some base) → IsLost image → ⊥
kept config number image base has is = (let label = has.1.label_file in is label.0 label.1 label.2.gate)

-- each is lost where the other is
abbrev pub AreLostAlike : Held → Held → Type 0
AreLostAlike now old = (IsLost now → IsLost old) × (IsLost old → IsLost now)

lost_alike : (config : Config) (number : ℕ) (held image : Held) (old now : Option Base) → AreAlike old now → HasBase config number held old → HasBase config number image now → AreLostAlike image held
lost_alike config number held image None None same was is = (λ h. lost config number held was, λ h. lost config number image is)
lost_alike config number held image (Some a) (Some b) same was is = (λ h. absurd (kept config number image b is h), λ h. absurd (kept config number held a was h))
lost_alike config number held image None (Some b) same was is = absurd same
lost_alike config number held image (Some a) None same was is = absurd same

-- Where a history's disc allows what an image of its volume says, the volume is lost there exactly where it was.
pub still_lost : (found : Found) (log : Log) (number : ℕ) (audit : List AuditRecord) (held image : Held) (old now dump : Option Base) → 1 ≤ number → number ≤ 8
    → IsFoundVolume found.config number audit (found_volume found number) old dump → HasBase found.config number held old → HasBase found.config number image now
    → PartIs (states_after node (opening_parts found) log) (disc_part number) (λ s. ShowsBase s now) → AreLostAlike image held
still_lost found log number audit held image old now dump some few is was has part =
    let opened = same_kind (opening_parts found) log (disc_part number) part.0 part.1 in
    let same : opened.0 ≡ disc_at found number = (let both : Some opened.0 ≡ Some (disc_at found number) = sym opened.1 ∙ opening_disc found number some few in cc (both)) in
    lost_alike found.config number held image old now
    (alike found.config number audit (found_volume found number) old now dump part.0 is (opened.2 ∙ ap kind_of same) part.2) was has
