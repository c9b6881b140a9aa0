-- No two devices of a valid configuration have one printed name.
use Rattle.std.specs.Prelude.{bytes_eq, get_or, if◌then◌else◌, map, nat_le, unwrap_or, ◌&&◌}
use Rattle.std.specs.List.{AllByRecursion, list_all}
use Rattle.std.proofs.Common.{zero, suc, true, false, ◌≡◌, ◌≢◌, ◌⊎◌, ◌==◌, ◌≤◌, ◌<◌, ◌+◌, ◌-◌, ◌∷◌, [], ℕ, Bool, List, length, refl, sym, ap, ◌∙◌, inl, inr, ⊎_elim, arith, eqb-true}
use Rattle.std.proofs.lemmas.Bool.{and_parts}
use Rattle.std.proofs.lemmas.Bool.Decides.{leb_tells}
use Rattle.std.proofs.lemmas.List.{length-map}
use Rattle.std.proofs.lemmas.List.Elements.{recursion_from_All}
use Rattle.std.proofs.lemmas.Map.Keys.{apart_from_distinct}
use Rattle.std.proofs.lemmas.Option.{slice_get-map, unwrap_or-slice_get}
use Rattle.std.proofs.lemmas.Slice.Eq.{bytes_eq-Decides}
use Rattle.tmf_model.specs.Config.{HasDistinctNames, IsValidConfig, monitor_name}
use Rattle.tmf_model.specs.Name.{is_file_name, is_name_byte, is_plain_name, is_upper_case, is_volume_name}
use Rattle.tmf_model.specs.declared.config.Config.{Config}
use Rattle.tmf_model.specs.declared.config.Volume.{Volume}
use Rattle.tmf_lines.specs.Report.{device_name, node_device_name, trail_name, volume_name}
use Rattle.tmf_lines.specs.declared.line.DeviceName.{DeviceName}
use Rattle.volume_recovery.specs.VolumeFormat.{IsNodeDevice}
use Rattle.tmf_cli.specs.Counts.{plain_name}

at-most : (a b : ℕ) → a ≤ b → nat_le a b ≡ true
at-most a b less = ⊎_elim (λ yes. yes.0) (λ no. absurd (omega (arith, less, no.1))) (leb_tells a b)

above : (a b : ℕ) → b < a → nat_le a b ≡ false
above a b more = ⊎_elim (λ yes. absurd (omega (arith, more, yes.1))) (λ no. no.0) (leb_tells a b)

-- NAMES

-- distinct names that are the same stand at one place
same-place : (names : List (List ℕ)) (i j : ℕ) (d : List ℕ) → HasDistinctNames names → i < length names → j < length names → get_or names i d ≡ get_or names j d → i ≡ j
same-place names i j d distinct few less same =
    ⊎_elim
    (λ first. ⊎_elim (λ second. omega (arith, first.1, second.1)) (λ other. absurd (never i j other.1 less same)) (leb_tells j i))
    (λ other. absurd (never j i other.1 few (sym same))) (leb_tells i j)
  where
    never : (a b : ℕ) → a < b → b < length names → get_or names a d ≡ get_or names b d → ⊥
    never a b before within one =
        let apart : true ≡ false = sym ((bytes_eq-Decides (get_or names a d) (get_or names b d)).1 one) ∙ apart_from_distinct bytes_eq names a b d distinct before within in
        cc apart

each-at : (P : List ℕ → Type 0) (names : List (List ℕ)) (i : ℕ) (d : List ℕ) → AllByRecursion P names → i < length names → P (get_or names i d)
each-at P [] i d all few = absurd (omega (arith, few))
each-at P (x ∷ names) zero d all few = all.0
each-at P (x ∷ names) (suc i) d all few = each-at P names i d all.1 (omega (arith, few))

-- a trail's name is none of a volume
never-volume : (name : List ℕ) → is_file_name name ≡ true → is_volume_name name ≡ true → ⊥
never-volume [] file volume = cc file
never-volume (first ∷ rest) file volume =
    let upper = (and_parts (is_upper_case first) (nat_le (length (first ∷ rest)) 8 && list_all is_name_byte rest) file).0 in
    let least = (and_parts (nat_le 65 first) (nat_le first 90) upper).0 in
    let dollar = eqb-true first 36 (and_parts (first == 36) (is_plain_name 7 rest) volume).0 in
    ⊎_elim (λ yes. omega (arith, yes.1, dollar)) (λ no. let apart : true ≡ false = sym least ∙ no.0 in cc apart) (leb_tells 65 first)

each-map : (P : List ℕ → Type 0) (lines : List Volume) → AllByRecursion (λ line. P line.name) lines → AllByRecursion P (map (λ (line : Volume). line.name) lines)
each-map P [] all = tt
each-map P (line ∷ lines) all = (all.0, each-map P lines all.1)

module _ (config : Config) (valid : IsValidConfig config) where
  abbrev names : List (List ℕ)
  names = map (λ (line : Volume). line.name) config.volumes

  trail-is : (n : ℕ) → trail_name config (suc n) ≡ get_or config.trails n monitor_name
  trail-is n = unwrap_or-slice_get config.trails n monitor_name

  volume-is : (v : ℕ) → volume_name config v ≡ get_or names (v - 1) monitor_name
  volume-is v = ap (λ o. unwrap_or o monitor_name) (sym (slice_get-map (λ (line : Volume). line.name) config.volumes (v - 1))) ∙ unwrap_or-slice_get names (v - 1) monitor_name

  -- the name of a trail, the monitor's among them, has the form of such a name
  trail-form : (n : ℕ) → n ≤ length config.trails → is_file_name (trail_name config n) ≡ true
  trail-form zero few = refl
  trail-form (suc n) few =
      ap is_file_name (trail-is n) ∙ each-at (λ name. is_file_name name ≡ true) config.trails n monitor_name (recursion_from_All (λ name. is_file_name name ≡ true) config.trails valid.trails.named) (omega (arith, few))

  volume-form : (v : ℕ) → 1 ≤ v → v ≤ length config.volumes → is_volume_name (volume_name config v) ≡ true
  volume-form v some few =
      let many = length-map config.volumes (λ (line : Volume). line.name) in
      ap is_volume_name (volume-is v)
      ∙ each-at (λ name. is_volume_name name ≡ true) names (v - 1) monitor_name
      (each-map (λ name. is_volume_name name ≡ true) config.volumes (recursion_from_All (λ (line : Volume). is_volume_name line.name ≡ true) config.volumes valid.volumes.named)) (omega (arith, some, few, many))

  one-trail : (n m : ℕ) → n ≤ length config.trails → m ≤ length config.trails → trail_name config n ≡ trail_name config m → n ≡ m
  one-trail zero zero few less same = refl
  one-trail zero (suc m) few less same = absurd (never-monitor m (omega (arith, less)) (sym (trail-is m) ∙ sym same))
    where
      never-monitor : (k : ℕ) → k < length config.trails → get_or config.trails k monitor_name ≡ monitor_name → ⊥
      never-monitor k within = each-at (λ name. name ≢ monitor_name) config.trails k monitor_name (recursion_from_All (λ name. name ≢ monitor_name) config.trails valid.trails.no_monitor) within
  one-trail (suc n) zero few less same = absurd (never-monitor n (omega (arith, few)) (sym (trail-is n) ∙ same))
    where
      never-monitor : (k : ℕ) → k < length config.trails → get_or config.trails k monitor_name ≡ monitor_name → ⊥
      never-monitor k within = each-at (λ name. name ≢ monitor_name) config.trails k monitor_name (recursion_from_All (λ name. name ≢ monitor_name) config.trails valid.trails.no_monitor) within
  one-trail (suc n) (suc m) few less same =
      ap suc (same-place config.trails n m monitor_name valid.trails.distinct (omega (arith, few)) (omega (arith, less)) (sym (trail-is n) ∙ same ∙ trail-is m))

  one-volume : (v w : ℕ) → 1 ≤ v → v ≤ length config.volumes → 1 ≤ w → w ≤ length config.volumes → volume_name config v ≡ volume_name config w → v ≡ w
  one-volume v w some few also less same =
      let many = length-map config.volumes (λ (line : Volume). line.name) in
      let place = same-place names (v - 1) (w - 1) monitor_name valid.volumes.distinct (omega (arith, some, few, many)) (omega (arith, also, less, many)) (sym (volume-is v) ∙ same ∙ volume-is w) in
      omega (arith, place, some, also)

  -- how a device of the configuration is printed
  abbrev IsPrinted : ℕ → DeviceName → Type 0
  IsPrinted device name =
      ((device ≤ length config.trails) × (name ≡ plain_name (trail_name config device)))
      ⊎ (((v : ℕ) × (device ≡ 4 + v) × (1 ≤ v) × (v ≤ length config.volumes) × (name ≡ plain_name (volume_name config v)))
      ⊎ ((v : ℕ) × (device ≡ 12 + v) × (1 ≤ v) × (v ≤ length config.volumes) × (name ≡ record { dumps = true; name = volume_name config v })))

  abbrev either_name : ℕ → Bool → DeviceName
  either_name device b = if b then plain_name (device_name config device) else record { dumps = true; name = volume_name config (device - 12) }

  abbrev own_name : ℕ → Bool → List ℕ
  own_name device b = if b then trail_name config device else volume_name config (device - 4)

  printed : (device : ℕ) → IsNodeDevice config device → IsPrinted device (node_device_name config device)
  printed device (inl trail) =
      let low : device ≤ 4 = omega (arith, trail, valid.trails.few) in
      inl (trail, ap (either_name device) (at-most device 12 (omega (arith, low))) ∙ ap (λ b. plain_name (own_name device b)) (at-most device 4 low))
  printed device (inr (inl volume)) =
      let behind : 4 < device = omega (arith, volume.above) in
      let most : device ≤ 12 = omega (arith, volume.below, valid.volumes.few) in
      inr (inl (
        device - 4,
        omega (arith, behind),
        omega (arith, behind),
        omega (arith, volume.below),
        ap (either_name device) (at-most device 12 most) ∙ ap (λ b. plain_name (own_name device b)) (above device 4 behind),
      ))
  printed device (inr (inr dumps)) =
      let behind : 12 < device = omega (arith, dumps.above) in
      inr (inr (device - 12, omega (arith, behind), omega (arith, behind), omega (arith, dumps.below), ap (either_name device) (above device 12 behind)))

  -- a trail's device and a volume's are not printed as one, nor any as that of dumps
  trail-or-volume : (n v : ℕ) → n ≤ length config.trails → 1 ≤ v → v ≤ length config.volumes → trail_name config n ≡ volume_name config v → ⊥
  trail-or-volume n v few some less same = never-volume (trail_name config n) (trail-form n few) (ap is_volume_name same ∙ volume-form v some less)

  name-same : (x y : DeviceName) → x ≡ y → x.name ≡ y.name
  name-same x y same = ap (λ (z : DeviceName). z.name) same

  apart-kinds : (x y : DeviceName) → x ≡ y → x.dumps ≡ y.dumps
  apart-kinds x y same = ap (λ (z : DeviceName). z.dumps) same

  pub names-apart : (a b : ℕ) → IsNodeDevice config a → IsNodeDevice config b → node_device_name config a ≡ node_device_name config b → a ≡ b
  names-apart a b one other same = by (printed a one) (printed b other)
    where
      by : IsPrinted a (node_device_name config a) → IsPrinted b (node_device_name config b) → a ≡ b
      by (inl (few, is)) (inl (less, also)) = one-trail a b few less (name-same _ _ (sym is ∙ same ∙ also))
      by (inl (few, is)) (inr (inl (v, at, some, less, also))) = absurd (trail-or-volume a v few some less (name-same _ _ (sym is ∙ same ∙ also)))
      by (inl (few, is)) (inr (inr (v, at, some, less, also))) = let no : false ≡ true = apart-kinds _ _ (sym is ∙ same ∙ also) in absurd (cc no)
      by (inr (inl (v, at, some, few, is))) (inl (less, also)) = absurd (trail-or-volume b v less some few (name-same _ _ (sym also ∙ sym same ∙ is)))
      by (inr (inl (v, at, some, few, is))) (inr (inl (w, here, more, less, also))) = let one = one-volume v w some few more less (name-same _ _ (sym is ∙ same ∙ also)) in omega (arith, at, here, one)
      by (inr (inl (v, at, some, few, is))) (inr (inr (w, here, more, less, also))) = let no : false ≡ true = apart-kinds _ _ (sym is ∙ same ∙ also) in absurd (cc no)
      by (inr (inr (v, at, some, few, is))) (inl (less, also)) = let no : true ≡ false = apart-kinds _ _ (sym is ∙ same ∙ also) in absurd (cc no)
      by (inr (inr (v, at, some, few, is))) (inr (inl (w, here, more, less, also))) = let no : true ≡ false = apart-kinds _ _ (sym is ∙ same ∙ also) in absurd (cc no)
      by (inr (inr (v, at, some, few, is))) (inr (inr (w, here, more, less, also))) = let one = one-volume v w some few more less (name-same _ _ (sym is ∙ same ∙ also)) in omega (arith, at, here, one)
