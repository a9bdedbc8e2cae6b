-- Properties that hold unless an allocation failed.
use Rattle.cut_report.specs.declared.fault.ReportFault.{ReportFault}
use Rattle.cut_report.specs.declared.fault.ReportFault.TheVariants.{BadLine, UnknownName, Order, NoEnd, Device, Memory}
use Rattle.cut_report.specs.Faults.{UnlessMemory}

pub UnlessMemory-from : (fault : ReportFault) {P : Type 0} → P → UnlessMemory fault P
UnlessMemory-from (BadLine line) h = h
UnlessMemory-from (UnknownName line) h = h
UnlessMemory-from (Order line) h = h
UnlessMemory-from NoEnd h = h
UnlessMemory-from Device h = h
UnlessMemory-from Memory h = tt
