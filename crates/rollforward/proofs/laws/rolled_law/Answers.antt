use Rattle.std.proofs.Common.{length}
use Rattle.rollforward.proofs.LostVolumes.{based-there, lost-without}
use Rattle.rollforward.proofs.RestingRolls.{says-same}
use Rattle.rollforward.proofs.RolledNodes.{rolled-node, whole-stands}
use Rattle.volume_recovery.specs.VolumeNode.{volume_device}
use Rattle.rollforward.proofs.laws.rolled_law.Goals as goal

pub returns-clause-stands : goal.returns-clause-stands
returns-clause-stands g c = λ config held images left list map volume valid declared node says may.
    let texts = c.texts_law.ensures in
    rolled-node config held images left list map volume valid declared node says may.others (texts.one_list (images 0)) (λ trail. texts.one_audit config trail (images trail)) texts.labels texts.blocks may

pub returns-clause-whole : goal.returns-clause-whole
returns-clause-whole g c = λ config held images left list map volume base node valid declared says rolls others has.
    let texts = c.texts_law.ensures in
    whole-stands config held images left list map volume valid declared node says others (texts.one_list (images 0)) (λ trail. texts.one_audit config trail (images trail)) texts.labels texts.blocks base rolls has

pub returns-clause-found : goal.returns-clause-found
returns-clause-found g c = λ config images left volume base others has. lost-without volume (length config.volumes) images left others (based-there config volume (left (volume_device volume)) base has)

pub returns-clause-same : goal.returns-clause-same
returns-clause-same g c = λ config volume held images list map valid declared rests leaves.
    let texts = c.texts_law.ensures in
    says-same config volume held images list map valid declared c.resting_node_law.ensures.volume c.resting_node_law.ensures.dump c.every_image-2.ensures.resting c.every_image.ensures.resting
    (texts.one_list (held 0)) (λ trail. texts.one_audit config trail (held trail)) rests leaves
