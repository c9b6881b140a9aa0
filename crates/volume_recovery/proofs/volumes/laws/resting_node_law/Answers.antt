use Rattle.volume_recovery.proofs.RestingNode.{dump_images, images-lost, images-stand, volume_images}
use Rattle.volume_recovery.proofs.volumes.laws.resting_node_law.Goals as goal

pub returns-clause-volume : goal.returns-clause-volume
returns-clause-volume g c = volume_images c.resting_law.ensures.volume c.at_rest.ensures.image

pub returns-clause-dump : goal.returns-clause-dump
returns-clause-dump g c = dump_images c.resting_law.ensures.dump

pub returns-clause-stands : goal.returns-clause-stands
returns-clause-stands g c = λ config held images list map valid rests leaves.
    images-stand config held images list map valid (volume_images c.resting_law.ensures.volume c.at_rest.ensures.image) (dump_images c.resting_law.ensures.dump) c.every_image.ensures.resting c.every_image-2.ensures.resting rests leaves

pub returns-clause-lost : goal.returns-clause-lost
returns-clause-lost g c = λ config held images list map valid rests leaves.
    images-lost config held images list map valid (volume_images c.resting_law.ensures.volume c.at_rest.ensures.image) (dump_images c.resting_law.ensures.dump) c.every_image.ensures.resting c.every_image-2.ensures.resting rests leaves
