use Rattle.std.proofs.Common.{ap, sym, subst, length, List, arith}
use Rattle.ob_scan.proofs.Places.{spelled_in_text}
use Rattle.ob_scan.specs.declared.token.Token.{Token}
use Rattle.ob_tree.specs.Declaring.{module_events}
use Rattle.ob_tree.specs.Derives.{Derives}
use Rattle.ob_tree.specs.TreeEvents.{Events}
use Rattle.ob_grammar.specs.ParsesAs.{Fails}
use Rattle.ob_grammar.specs.Parsed.{IsOneTree, kinds_of, read_as_module}
use Rattle.ob_grammar.proofs.OneTree.{tree_is_unique, why_none, endings_are_known, tokens_placed, few_tokens}
use Rattle.ob_parse.proofs.parser.parse.Goals as goal

pub parse_before_end_check-requires : goal.parse_before_end_check-requires
parse_before_end_check-requires c =
    let in_text = spelled_in_text c.args.bytes.now c.args.tokens.now c.requires.1 in
    omega (arith, in_text.few, c.requires.0, ap length c.as_slice-tokens.ensures)

pub returns-in-Err-clause-fault : goal.returns-in-Err-clause-fault
returns-in-Err-clause-fault c =
    let in_text = spelled_in_text c.args.bytes.now c.args.tokens.now c.requires.1 in
    let stopped : Fails {Y = Events} c.args.tokens.now c.in-Err.stop (read_as_module c.args.tokens.now) = subst (λ (ts : List Token). Fails {Y = Events} ts c.in-Err.stop (read_as_module ts)) c.as_slice-tokens.ensures c.in-Err.ensures in
    rw (c.stop_fault.ensures, c.as_slice-tokens.ensures) (why_none c.args.bytes.now c.args.tokens.now c.in-Err.stop (omega (arith, in_text.few, c.requires.0)) stopped)

pub first_wrong_end-requires-clause-in_range : goal.first_wrong_end-requires-clause-in_range
first_wrong_end-requires-clause-in_range c =
    rw (c.as_slice.ensures.value, c.in_ok-ends.ensures, c.deref.ensures) (endings_are_known c.as_slice-tokens.result.now (module_events c.in-Ok.tree.value) c.in-Ok.ensures)

pub first_wrong_end-requires-clause-in_text : goal.first_wrong_end-requires-clause-in_text
first_wrong_end-requires-clause-in_text c = rw c.as_slice-tokens.ensures (tokens_placed c.args.bytes.now c.args.tokens.now (spelled_in_text c.args.bytes.now c.args.tokens.now c.requires.1))

pub returns-in-None-clause-tree : goal.returns-in-None-clause-tree
returns-in-None-clause-tree c = rw c.into_inner.ensures (record {
  tree = subst (λ (ts : List Token). IsOneTree ts c.in-Ok.tree.value) c.as_slice-tokens.ensures (tree_is_unique c.as_slice-tokens.result.now c.in-Ok.tree.value c.in-Ok.ensures);
  ended = rw (sym c.deref.ensures, sym c.in_ok-ends.ensures, sym c.as_slice.ensures.value, sym c.as_slice-tokens.ensures) c.in-None.ensures;
})

pub returns-in-None-clause-few : goal.returns-in-None-clause-few
returns-in-None-clause-few c =
    let text = spelled_in_text c.args.bytes.now c.args.tokens.now c.requires.1 in
    let tree = tree_is_unique c.as_slice-tokens.result.now c.in-Ok.tree.value c.in-Ok.ensures in
    rw c.into_inner.ensures (few_tokens c.args.bytes.now c.args.tokens.now c.in-Ok.tree.value text c.requires.0 (subst (λ (ts : List Token). Derives (kinds_of ts) c.in-Ok.tree.value) c.as_slice-tokens.ensures tree.derived))

pub returns-in-Some-clause-fault : goal.returns-in-Some-clause-fault
returns-in-Some-clause-fault c = record {
  of = c.in-Ok.tree.value;
  tree = subst (λ (ts : List Token). IsOneTree ts c.in-Ok.tree.value) c.as_slice-tokens.ensures (tree_is_unique c.as_slice-tokens.result.now c.in-Ok.tree.value c.in-Ok.ensures);
  first = rw (sym c.deref.ensures, sym c.in_ok-ends.ensures, sym c.as_slice.ensures.value, sym c.as_slice-tokens.ensures) c.in-Some.ensures;
}
