use Rattle.ob_grammar.proofs.RightEnds.{right_more, all_right, first_wrong, any_token}
use Rattle.ob_parse.proofs.ends.first_wrong_end.Goals as goal

pub ends-preserved : goal.ends-preserved
ends-preserved c = right_more c.args.bytes.now c.args.tokens.now c.args.ends.now c.ends.name-index (0, 0) c.ends-test.true c.ends.invariant c.if-not-names_match.ensures

pub returns-then-not-names_match : goal.returns-then-not-names_match
returns-then-not-names_match c =
    let in_range = c.requires.in_range c.ends.name-index (0, 0) c.ends-test.true in
    first_wrong c.args.bytes.now c.args.tokens.now c.args.ends.now c.ends.name-index (0, 0) any_token c.ends-test.true c.ends.invariant in_range.1 c.if-not-names_match.ensures

pub returns : goal.returns
returns c = all_right c.args.bytes.now c.args.tokens.now c.args.ends.now c.ends.name-index c.ends-test.false c.ends.invariant
