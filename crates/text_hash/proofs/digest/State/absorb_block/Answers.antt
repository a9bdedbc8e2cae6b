use Rattle.text_hash.specs.Digest.{absorb_block}
use Rattle.text_hash.proofs.digest.State.absorb_block.Goals as goal

pub returns : goal.returns
unfolding absorb_block
returns c = rw (c.absorb_word-4.ensures, c.absorb_word-3.ensures, c.absorb_word-2.ensures, c.absorb_word.ensures, c.from_le_bytes-4.ensures, c.from_le_bytes-3.ensures, c.from_le_bytes-2.ensures, c.from_le_bytes.ensures, c.as_chunks.ensures.front, c.told-block)
