-- Why nothing more can be printed.
use Rattle.std.specs.Prelude.{Option}
use Rattle.dmr_files.specs.declared.printing.PrintFault.{PrintFault}
use Rattle.dmr_files.specs.declared.printing.Printer.{Printer}

-- why a printer has failed, where it has
abbrev pub print_fault_of : {W : Type 0} → Printer W → Option PrintFault
print_fault_of printer = printer.fault
