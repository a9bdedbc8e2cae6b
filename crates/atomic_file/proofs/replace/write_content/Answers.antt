-- The result of the call is the value of each match arm.
use Rattle.atomic_file.proofs.replace.write_content.Goals as goal

pub returns-in-Ok-clause-returned : goal.returns-in-Ok-clause-returned
returns-in-Ok-clause-returned g c = c.in-Ok.ensures

pub returns-in-Err-Other-clause-fault : goal.returns-in-Err-Other-clause-fault
returns-in-Err-Other-clause-fault g c = (_, _, rw c.in-Err-Other.field-0-is at c.in-Err-Other.ensures)
