-- Why the program gives up if the threads did.
use Rattle.tb_drive.specs.declared.drive_fault.DriveFault.{DriveFault}
use Rattle.tb_drive.specs.declared.drive_fault.DriveFault.TheVariants as drive
use Rattle.tb_program_text.specs.declared.program_fault.ProgramFault.{ProgramFault}
use Rattle.tb_program_text.specs.declared.program_fault.ProgramFault.TheVariants as program

abbrev pub program_fault_of : DriveFault → ProgramFault
program_fault_of drive.NoMemory = program.NoMemory
program_fault_of drive.NoThread = program.NoThread
