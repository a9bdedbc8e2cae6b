-- The tables after one more entry of a symbol.
use Rattle.std.proofs.Common.{sym, ◌∙◌}
use Rattle.index_store.specs.Stores.{tables_of}
use Rattle.index_store.proofs.StoreLemmas.{bare_mentioned, bare_whole, covered_whole, mentioned_within, whole_mentioned}
use Rattle.index_store.proofs.builder.StoreBuilder.add_symbol_entry.Goals as goal

pub push-requires : goal.push-requires
push-requires c = record { within = mentioned_within (tables_of c.args.self.now) c.args.symbol.now _ _ c.in_ok-number.number c.args.mention c.requires.whole c.in_ok-number.ensures }

pub returns-in_ok-push-2-clause-whole : goal.returns-in_ok-push-2-clause-whole
returns-in_ok-push-2-clause-whole c =
    rw (c.in_ok-push.ensures.texts, c.in_ok-push.ensures.rows, c.in_ok-push-2.ensures.texts, c.in_ok-push-2.ensures.rows)
    (covered_whole (tables_of c.args.self.now) c.args.symbol.now _ _ c.in_ok-number.number c.args.mention c.requires.whole c.in_ok-number.ensures _)

pub returns-in_ok-push-2-clause-retained : goal.returns-in_ok-push-2-clause-retained
returns-in_ok-push-2-clause-retained c paths found f k at is =
    rw (c.in_ok-push.ensures.texts, c.in_ok-push.ensures.rows, c.in_ok-push-2.ensures.texts, c.in_ok-push-2.ensures.rows)
    (whole_mentioned (tables_of c.args.self.now) c.args.symbol.now _ _ c.in_ok-number.number c.args.mention c.requires.whole c.in_ok-number.ensures paths found f k at is (sym c.is_empty.ensures ∙ c.if-not-is_empty.true))

pub returns-else-not-is_empty-clause-whole : goal.returns-else-not-is_empty-clause-whole
returns-else-not-is_empty-clause-whole c =
    rw (c.in_ok-push.ensures.texts, c.in_ok-push.ensures.rows)
    (bare_whole (tables_of c.args.self.now) c.args.symbol.now _ _ c.in_ok-number.number c.args.mention c.requires.whole c.in_ok-number.ensures)

pub returns-else-not-is_empty-clause-retained : goal.returns-else-not-is_empty-clause-retained
returns-else-not-is_empty-clause-retained c paths found f k at is =
    rw (c.in_ok-push.ensures.texts, c.in_ok-push.ensures.rows)
    (bare_mentioned (tables_of c.args.self.now) c.args.symbol.now _ _ c.in_ok-number.number c.args.mention c.requires.whole c.in_ok-number.ensures paths found f k at is (sym c.is_empty.ensures ∙ c.if-not-is_empty.false))
