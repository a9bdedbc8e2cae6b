use Rattle.cut_net.proofs.laws.agrees_without_pins.Goals as goal
use Rattle.cut_net.proofs.Pinned.{no_pins, same_cut, same_cheapest, same_near, same_printed, same_flow}

pub returns-clause-pins : goal.returns-clause-pins
returns-clause-pins c = no_pins

pub returns-clause-cut : goal.returns-clause-cut
returns-clause-cut c net a b x e = same_cut net a b e x

pub returns-clause-cheapest : goal.returns-clause-cheapest
returns-clause-cheapest c net a b x e = same_cheapest net a b e x

pub returns-clause-near : goal.returns-clause-near
returns-clause-near c net a b m e apart = same_near net a b e apart m

pub returns-clause-printed : goal.returns-clause-printed
returns-clause-printed c net a b x e apart = same_printed net a b e apart x

pub returns-clause-flow : goal.returns-clause-flow
returns-clause-flow c net a b flow value e = same_flow net a b e flow value
