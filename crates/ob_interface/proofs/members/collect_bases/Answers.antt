use Rattle.std.proofs.Common.{sym, ◌∙◌, ap, refl}
use Rattle.std.specs.List.{filter_map}
use Rattle.std.specs.Option.{option_map}
use Rattle.module_table.specs.declared.rows.Record.{Record}
use Rattle.ob_interface.specs.Interfaces.{base, base_by, module_level_by}
use Rattle.ob_interface.specs.Texts.{base_in}
use Rattle.ob_interface.proofs.Growing.{all_told, grown_none, grown_twice, more_told, none_told}
use Rattle.ob_interface.proofs.members.collect_bases.Goals as goal
use Rattle.ob_interface.proofs.members.collect_bases.Goals.{in-Some+in_ok-row-in-Some+in_ok-push-in-Some, in-None}

pub loop-i-preserved : goal.loop-i-preserved
loop-i-preserved c =
    let bytes = c.args.source.now.bytes.now in
    let ts = c.args.source.now.tokens.now in
    let h = λ (r : Record). base_by bytes ts r (module_level_by c.args.decl_groups.now r.owner) in
    let found = c.module_level_base.ensures bytes ts in
    elim c.match-module_level_base.branch [
      | in-Some+in_ok-row-in-Some+in_ok-push-in-Some w ↦ rw (w.text-is, w.rows-is) (record {
        grown = grown_twice c.loop-i.invariant.grown w.in_ok-row-in-Some.ensures.grown;
        decode = rw w.in_ok-push-in-Some.ensures.items (more_told base_in h _ _ _ c.args.records.now c.loop-i.i _ _ _ c.loop-i.invariant.decode w.in_ok-row-in-Some.ensures.grown w.in_ok-row-in-Some.ensures.decoded c.loop-i-test.true
            (sym found ∙ ap (option_map (base bytes ts _)) w.in-Some.is));
      })
      | in-None w ↦ rw (w.text-is, w.rows-is) (record {
        grown = c.loop-i.invariant.grown;
        decode = none_told base_in h _ _ c.args.records.now c.loop-i.i _ c.loop-i.invariant.decode c.loop-i-test.true (sym found ∙ ap (option_map (base bytes ts _)) w.in-None.is);
      })
    ]

pub loop-i-init : goal.loop-i-init
loop-i-init c = record { grown = grown_none _; decode = λ more. rw c.new-rows.ensures.items refl }

pub returns-clause-grown : goal.returns-clause-grown
returns-clause-grown c = c.loop-i.invariant.grown

pub returns-clause-decode : goal.returns-clause-decode
returns-clause-decode c =
    let bytes = c.args.source.now.bytes.now in
    let ts = c.args.source.now.tokens.now in
    all_told base_in _ _ (filter_map (λ (r : Record). base_by bytes ts r (module_level_by c.args.decl_groups.now r.owner))) c.args.records.now c.loop-i.i c.loop-i.invariant.decode c.loop-i-test.false
