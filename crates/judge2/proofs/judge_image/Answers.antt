-- `judge_image` asks the header's lines, and below them what an image with a right header is.
use Rattle.judge2.proofs.Image.{found_refused, found_right, formed, refused_on}
use Rattle.judge2.proofs.judge_image.Goals as goal

pub returns-in_err-cartridge : goal.returns-in_err-cartridge
returns-in_err-cartridge c = refused_on _ _ _ c.from_residual.ensures.1 (found_refused _ c.in_err-cartridge.ensures.0)

pub judge_formed-requires : goal.judge_formed-requires
judge_formed-requires c = let read = c.in_ok-cartridge.ensures in formed _ _ read.0 read.1

pub returns : goal.returns
returns c = (found_right _ c.in_ok-cartridge.ensures.0 _ c.judge_formed.ensures.0, c.judge_formed.ensures.1)
