use Rattle.cut_net.proofs.Answered.{net_text}
use Rattle.cut_net.proofs.reading.lists_by_builder.Goals as goal

pub returns-clause-text : goal.returns-clause-text
returns-clause-text c = net_text c.args.bytes.now c.fill_builder.new.builder _ c.in_ok-fill_builder.ensures.built c.in_ok-sorted_names_and_imports.ensures.is_net
