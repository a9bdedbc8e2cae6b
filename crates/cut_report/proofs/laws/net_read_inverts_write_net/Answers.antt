use Rattle.cut_report.proofs.NetTexts.{text_is}
use Rattle.cut_report.proofs.laws.net_read_inverts_write_net.Goals as goal

pub returns-clause-text : goal.returns-clause-text
returns-clause-text c = text_is

pub returns-clause-read : goal.returns-clause-read
returns-clause-read c = λ net is none. (text_is net is none, is.fits, is.acyclic)
