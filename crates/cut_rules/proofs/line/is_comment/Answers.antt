use Rattle.std.proofs.Common.{◌∙◌, sym}
use Rattle.cut_rules.proofs.LineLaws.{comment_end, comment_here, comment_more}
use Rattle.cut_rules.proofs.line.is_comment.Goals as goal

pub returns-then-not-is_blank : goal.returns-then-not-is_blank
returns-then-not-is_blank c = sym (c.loop-byte.invariant ∙ comment_here c.args.bytes.now c.loop-byte.byte-index c.loop-byte-test.true (sym c.is_blank.ensures ∙ c.if-not-is_blank.true))

pub loop-byte-preserved : goal.loop-byte-preserved
loop-byte-preserved c = c.loop-byte.invariant ∙ comment_more c.args.bytes.now c.loop-byte.byte-index c.loop-byte-test.true (sym c.is_blank.ensures ∙ c.if-not-is_blank.false)

pub returns : goal.returns
returns c = sym (c.loop-byte.invariant ∙ comment_end c.args.bytes.now c.loop-byte.byte-index c.loop-byte-test.false)
