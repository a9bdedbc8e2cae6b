use Rattle.text_hash.specs.Digest.{digest}
use Rattle.text_hash.proofs.digest.digest.Goals as goal

pub returns : goal.returns
unfolding digest
returns c = rw (c.finish.ensures, c.write_u64-8.ensures, c.write_u64-7.ensures, c.write_u64-6.ensures, c.write_u64-5.ensures, c.write_u64-4.ensures, c.write_u64-3.ensures, c.write_u64-2.ensures, c.write_u64.ensures, c.write.ensures, c.write_usize.ensures, c.new-hasher.ensures, c.from_blocks-state.ensures, c.as_chunks.ensures.front, c.as_chunks.ensures.back)
