-- The entries of the symbol are its locations.
use Rattle.std.proofs.Common.{◌<◌, length, sym, subst, arith, refl}
use Rattle.std.specs.Prelude.{All}
use Rattle.index_store.specs.declared.row.SymbolEntry.{SymbolEntry}
use Rattle.index_store.specs.Stores.{tables_in}
use Rattle.index_store.specs.Tables.{texts_in}
use Rattle.index_store.proofs.TableLemmas.{number_there, under_none, under_number}
use Rattle.index_store.proofs.store.Store.unchecked_locations.Goals as goal

pub rows-requires : goal.rows-requires
rows-requires c =
    let l = (number_there (texts_in c.self.inside.by_symbol) c.args.symbol.now c.in-Some.number (sym c.in-Some.ensures)).0 in
    let e = c.self.invariant.whole.of_symbols in
    record { within = omega (arith, l, e) }

pub requested_locations-requires : goal.requested_locations-requires
requested_locations-requires c =
    let t = tables_in c.self.inside.by_path c.self.inside.by_symbol in
    let i = c.self.invariant in
    let rows = subst (All (λ (x : SymbolEntry). x.path < length t.paths)) (under_number t.symbols t.mentions c.args.symbol.now c.in-Some.number i.whole.of_symbols (sym c.in-Some.ensures)) (i.invariants.paths_valid c.args.symbol.now) in
    record { in_range = rw c.rows.ensures rows }

pub returns-in-None : goal.returns-in-None
returns-in-None c =
    let t = tables_in c.self.inside.by_path c.self.inside.by_symbol in
    rw (c.new.ensures.items, ← c.self.view_is, under_none t.symbols t.mentions c.args.symbol.now (sym c.in-None.ensures)) refl

pub returns-in-Some : goal.returns-in-Some
returns-in-Some c =
    let t = tables_in c.self.inside.by_path c.self.inside.by_symbol in
    rw (← c.self.view_is, under_number t.symbols t.mentions c.args.symbol.now c.in-Some.number c.self.invariant.whole.of_symbols (sym c.in-Some.ensures), ← c.is_local.ensures, ← c.rows.ensures) c.requested_locations.ensures
