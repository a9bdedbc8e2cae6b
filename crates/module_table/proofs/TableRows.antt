-- The entries after a whole module.
use Rattle.std.proofs.Common.{◌≡◌, refl}
use Rattle.module_table.specs.declared.builder.Context.{Context}
use Rattle.module_table.specs.declared.builder.TableBuilder.{TableBuilder}
use Rattle.module_table.specs.Parts.{Fragment, joined, no_rows}
use Rattle.module_table.specs.TableStages.{Stage, builder_rows, stage_of, after, start}

rows_behind : (p : Fragment) (c : Context) (s t : Stage) → s ≡ start → t ≡ after p c s → t.rows ≡ p.rows c 0
unfolding after joined no_rows
rows_behind p c s t e f = rw (f, e) refl

pub rows_after : (p : Fragment) (c : Context) (s : Stage) (d : TableBuilder) → s ≡ start → stage_of d ≡ after p c s → builder_rows d ≡ p.rows c 0
unfolding stage_of
rows_after p c s d e f = rows_behind p c s (stage_of d) e f
