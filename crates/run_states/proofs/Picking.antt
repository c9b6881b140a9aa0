-- Each opening has a name that carries what is kept.
use Rattle.std.specs.Prelude.{◌≡◌, ℕ, List, length, Option, option_and_then, option_map}
use Rattle.std.specs.Option.{option_map_or}
use Rattle.std.proofs.Common.{refl, sym, ap, ◌∙◌, arith}
use Rattle.disk_model.specs.declared.disk.Disk as disk
use Rattle.run_opening.specs.Kept.{device_kept}
use Rattle.run_opening.specs.Opening.{AreOpened}
use Rattle.run_opening.specs.declared.kept.Kept.{Kept}
use Rattle.run_opening.specs.declared.opening.Opened.{Opened}
use Rattle.run_outcomes.specs.Devices.{told_by, told_in, told_of}
use Rattle.tmf_model.specs.declared.config.Config.{Config}
use Rattle.run_states.specs.Begun.{PickLaw, device_in}
use Rattle.run_states.proofs.Keeping.{reread_kept, told_again}
use Rattle.run_states.proofs.Lists.{item_there}

module _ {D : Type 0} (kind : disk.Ghosts D) (same_itself : (device : D) → kind.is_same device device) where
  -- the monitor trail that is kept tells what its device told
  told_first : (config : Config) (epoch : ℕ) (named : List ℕ) (old : List D) (opened : Opened D) → length old ≡ 21 → AreOpened kind config epoch named old opened → told_in kind (device_in opened.kept.items) 0 ≡ told_by kind old 0
  told_first config epoch named old opened count are =
      let k = item_there opened.kept.items 0 (omega (arith, are.count)) in
      let was = item_there old 0 (omega (arith, count)) in
      let again = reread_kept kind same_itself config epoch named 0 was.0 k.0 (are.each 0 was.0 k.0 was.1 k.1).0 in
      ap (λ (o : Option (Kept D)). option_and_then (told_of kind) (option_map device_kept o)) k.1 ∙ told_again kind same_itself was.0 (device_kept k.0) again ∙ sym (ap (option_and_then (told_of kind)) was.1)

  pub pick_law : PickLaw kind
  pick_law = λ config epoch named old opened before count are only. record {
    opens = refl;
    found_is = refl;
    devices_are = λ n. refl;
    faults_are = λ n device at. ap (λ (o : Option D). option_map_or kind.faults o 0) at;
    rules_are = λ trail. refl;
    list = λ other told. only other (told.0, sym (told_first config epoch named old opened count are) ∙ told.1, told.2);
    rests = λ n premise. premise;
    premises = λ n rests. rests;
  }
