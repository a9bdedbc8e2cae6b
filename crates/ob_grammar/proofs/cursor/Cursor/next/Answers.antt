use Rattle.std.proofs.Common.{rules, ◌≤◌, length, sym, arith}
use Rattle.ob_grammar.proofs.Remaining.{past_end, past_numbers, next_ahead}
use Rattle.ob_grammar.proofs.cursor.Cursor.next.Goals as goal

pub returns-in_err-token-clause-read : goal.returns-in_err-token-clause-read
returns-in_err-token-clause-read c =
    let past : length c.args.tokens.now ≤ c.args.self.at = search (rules, arith) in
    rw (past_end c.args.tokens.now c.args.self past) (search rules)

pub returns-in_err-at-clause-read : goal.returns-in_err-at-clause-read
returns-in_err-at-clause-read c = rw (past_numbers c.args.tokens.now c.args.self (search (rules, arith))) (search rules)

pub returns-clause-read : goal.returns-clause-read
returns-clause-read c =
    rw c.leaf_at.ensures (sym (next_ahead c.args.tokens.now c.args.self c.in_ok-token.token.now c.in_ok-at.at
    c.in_ok-token.ensures.lookup.3.0 c.in_ok-token.ensures.lookup.1 (search rules) (omega arith)))
