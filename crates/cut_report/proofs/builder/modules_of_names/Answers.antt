use Rattle.std.proofs.Common.{lit<, [], length, map, sym, ◌∙◌}
use Rattle.std.proofs.lemmas.List.{get_or_default, map_push}
use Rattle.std.proofs.lemmas.Iterator.Consumers.{YieldsList-at, YieldsList-turn, YieldsList-end, YieldsList-so_far}
use Rattle.std.proofs.lemmas.Iterator.Splits.{YieldsList-from_str_split}
use Rattle.cut_report.specs.Lines.{words_of}
use Rattle.cut_report.proofs.ChainNames.{chain_fails, chain_more}
use Rattle.cut_report.proofs.builder.modules_of_names.Goals as goal

pub returns-in_default : goal.returns-in_default
returns-in_default c =
    let turn = YieldsList-turn (YieldsList-at c.into_iter-name-iterator.ensures.into_iter_gives
    (YieldsList-from_str_split 32 c.args.names.now (lit< tt) c.split-name-items.ensures.text c.split-name-items.ensures.has_more c.split-name-items.ensures.pattern))
    c.loop-name.yielded _ c.loop-name.yielded_by _ _ c.in-Some.name c.in-Some.is c.next.ensures.steps in
    let so_far = YieldsList-so_far (YieldsList-at c.into_iter-name-iterator.ensures.into_iter_gives
    (YieldsList-from_str_split 32 c.args.names.now (lit< tt) c.split-name-items.ensures.text c.split-name-items.ensures.has_more c.split-name-items.ensures.pattern))
    c.loop-name.yielded _ c.loop-name.yielded_by in
    let words = words_of c.args.names.now in
    let at = get_or_default words (length c.loop-name.yielded) [] c.in-Some.name.now turn.0 ∙ sym turn.1 in
    chain_fails c.args.net.now words (length c.loop-name.yielded) c.in-Some.name.now c.loop-name.chain.items turn.0 at (rw (← so_far) c.loop-name.invariant) (sym c.index_of.ensures ∙ c.in_default.is)

pub loop-name-preserved : goal.loop-name-preserved
loop-name-preserved c =
    rw (map_push (λ x. x.now) c.loop-name.yielded c.in-Some.name, c.in_ok-push.ensures.items)
    (chain_more c.args.net.now (map (λ x. x.now) c.loop-name.yielded) c.in-Some.name.now c.loop-name.chain.items c.in-Some-index_of.module c.loop-name.invariant (sym c.index_of.ensures ∙ c.in-Some-index_of.is))

pub returns : goal.returns
returns c =
    let done = YieldsList-end (YieldsList-at c.into_iter-name-iterator.ensures.into_iter_gives
    (YieldsList-from_str_split 32 c.args.names.now (lit< tt) c.split-name-items.ensures.text c.split-name-items.ensures.has_more c.split-name-items.ensures.pattern))
    c.loop-name.yielded _ c.loop-name.yielded_by _ _ c.in-None.is c.next.ensures.steps in
    rw (← done.0) c.loop-name.invariant
