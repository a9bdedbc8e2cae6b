use Rattle.std.proofs.Common.{◌≡◌, take}
use Rattle.std.specs.Prelude.{fold}
use Rattle.text_hash.specs.Digest.{first_state, absorb_block}
use Rattle.text_hash.proofs.digest.State.from_blocks.Given as goal

abbrev pub invariant-loop-block : goal.invariant-loop-block
invariant-loop-block l = l.state ≡ fold absorb_block first_state (take l.block-index l.blocks)
