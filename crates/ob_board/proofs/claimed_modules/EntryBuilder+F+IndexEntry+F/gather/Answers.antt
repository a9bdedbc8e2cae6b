use Rattle.std.proofs.Common.{◌∙◌, map, ap, sym}
use Rattle.std.specs.Prelude.{count_by, is_none}
use Rattle.ob_board.specs.Entries.{entry_model}
use Rattle.ob_board.proofs.Gathering.{gathered_entries, gathered_externals, none_missing}
use Rattle.ob_board.proofs.claimed_modules.EntryBuilder+F+IndexEntry+F.gather.Goals as goal

pub assemble_index-requires : goal.assemble_index-requires
assemble_index-requires g c =
    let w = c.self.inside in
    let all = rw c.in-Some.is at c.in_ok-entries.ensures.all in
    let p = g.F.NamedIndex.package_name in
    gathered_externals g.F.NamedIndex.files p c.in-Some.entries.items
    (gathered_entries g.F.NamedIndex.files p w.sources.now w.modules.now g.F.NamedIndex.graph w.graph.now c.self.invariant.0 c.self.invariant.1 c.self.invariant.5 c.in-Some.entries.items _ all c.gather.ensures.size c.gather.ensures.own)

pub returns-in_ok-assemble_index-in-Some-clause-exact : goal.returns-in_ok-assemble_index-in-Some-clause-exact
returns-in_ok-assemble_index-in-Some-clause-exact g c =
    let w = c.self.inside in
    let all = rw c.in-Some.is at c.in_ok-entries.ensures.all in
    let p = g.F.NamedIndex.package_name in
    record {
      entries = map entry_model c.in-Some.entries.items;
      are_entries = gathered_entries g.F.NamedIndex.files p w.sources.now w.modules.now g.F.NamedIndex.graph w.graph.now c.self.invariant.0 c.self.invariant.1 c.self.invariant.5 c.in-Some.entries.items _ all c.gather.ensures.size c.gather.ensures.own;
      built = c.in_ok-assemble_index-in-Some.ensures;
    }

pub returns-in_ok-assemble_index-in-Some-clause-whole : goal.returns-in_ok-assemble_index-in-Some-clause-whole
returns-in_ok-assemble_index-in-Some-clause-whole g c =
    let all = rw c.in-Some.is at c.in_ok-entries.ensures.all in
    ap (count_by is_none) (sym (all ∙ c.gather.ensures.entries)) ∙ none_missing entry_model c.in-Some.entries.items
