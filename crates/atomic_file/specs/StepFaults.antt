-- A property of the errors of a step.
use Rattle.atomic_file.specs.declared.replace.StepFault.{StepFault}
use Rattle.atomic_file.specs.declared.replace.StepFault.TheVariants.{Target, Partial, Content}

-- if the error is `Content`, the error of the writer in it has the property `HasFault`
abbrev pub IsStepFaultOf : {E : Type 0} → (E → Type 0) → StepFault E → Type 0
IsStepFaultOf HasFault Target = Unit {0}
IsStepFaultOf HasFault Partial = Unit {0}
IsStepFaultOf HasFault (Content fault) = HasFault fault
