-- The path is that of a document, and the locations are those that the definition states.
use Rattle.std.proofs.Common.{sym, subst, ◌∙◌}
use Rattle.index_store.specs.Stores.{IsStoreOf}
use Rattle.index_store.specs.Tables.{texts_in}
use Rattle.index_store.proofs.AskedLemmas.{places_are}
use Rattle.index_store.proofs.TableLemmas.{text_among, text_lacking}
use Rattle.index_store.proofs.store.Store.locations.Goals as goal

pub returns-in-None : goal.returns-in-None
returns-in-None c = record {
  exact = λ index store has.
      let retained = subst (IsStoreOf index) (sym c.self.view_is) store in
      text_lacking (texts_in c.self.inside.by_path) c.args.path.now (sym c.in-None.ensures) ((retained.named c.args.path.now).1 has);
}

pub returns-in_ok-unchecked_locations-in-Some : goal.returns-in_ok-unchecked_locations-in-Some
returns-in_ok-unchecked_locations-in-Some c = record {
  exact = λ index store.
      let retained = subst (IsStoreOf index) (sym c.self.view_is) store in (
        (retained.named c.args.path.now).0 (text_among (texts_in c.self.inside.by_path) c.args.path.now _ (sym c.in-Some.ensures)),
        c.in_ok-unchecked_locations-in-Some.ensures ∙ places_are c.args.defines index c.args.self.now c.args.path.now c.args.symbol.now store,
      );
}
