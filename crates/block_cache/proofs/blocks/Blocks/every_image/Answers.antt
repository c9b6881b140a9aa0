use Rattle.std.specs.Prelude.{◌==◌}
use Rattle.keyed_file.specs.Layout.{selected_by}
use Rattle.block_cache.specs.Shown.{byte_at}
use Rattle.block_cache.proofs.Showing.{volume_shown, contents_shown, may_show}
use Rattle.block_cache.proofs.blocks.Blocks.every_image.Goals as goal

pub returns-clause-volume : goal.returns-clause-volume
returns-clause-volume g c = λ view landed next image label low holds leaves. volume_shown g.D.Disk.held view landed next image label low holds leaves

pub returns-clause-contents : goal.returns-clause-contents
returns-clause-contents g c = λ view landed next image label low holds leaves. contents_shown g.D.Disk.held view landed next image label low holds leaves

pub returns-clause-low : goal.returns-clause-low
returns-clause-low g c = λ view image. may_show view.label_phase (selected_by (byte_at (image 1) 1) == view.label_slot) view.label.low view.next_low
