use Rattle.cut_net.proofs.laws.source_side_with_pins.Goals as goal
use Rattle.cut_net.proofs.Pinned.{near_is, near_of, printed_is, printed_of}

pub returns-clause-near : goal.returns-clause-near
returns-clause-near c net a b m pins none = (near_of net a b pins none m, near_is net a b pins none m)

pub returns-clause-printed : goal.returns-clause-printed
returns-clause-printed c net a b x pins none = (printed_of net a b pins none x, printed_is net a b pins none x)

pub returns-clause-flow : goal.returns-clause-flow
returns-clause-flow c net a b flow value is = record { within = λ i present free. is.within i present; kept = is.kept; at_start = is.at_start }
