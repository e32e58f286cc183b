-- The exit status of each outcome, and the line that is printed of it.
use Rattle.std.specs.Prelude.{ℕ, Bool, true, false, List, [], Result, Ok, Err, codes}
use Rattle.tb_program_text.specs.declared.program_fault.ProgramFault.{ProgramFault}
use Rattle.tb_program_text.specs.declared.program_fault.ProgramFault.TheVariants.{Read, Write, NoMemory, NoThread}
use Rattle.tb_program_text.specs.declared.ending.Ending.{Ending}
use Rattle.tb_program_text.specs.declared.ending.Ending.TheVariants.{Done, FaultyScript, NotAllSucceeded, NotAllCommitted, Help, Version, Usage, Failed}

abbrev pub ending_of : Result Bool ProgramFault → Ending
ending_of (Ok true) = Done
ending_of (Ok false) = FaultyScript
ending_of (Err fault) = Failed fault

-- if memory ran out in a run, it doesn't end as if all were well
abbrev pub ending_of_run : Ending → Bool → Ending
ending_of_run Done true = NotAllCommitted
ending_of_run NotAllSucceeded true = NotAllCommitted
ending_of_run ending lacks_memory = ending

abbrev pub status_of : Ending → ℕ
status_of Done = 0
status_of FaultyScript = 1
status_of NotAllSucceeded = 1
status_of NotAllCommitted = 2
status_of Help = 0
status_of Version = 0
status_of Usage = 1
status_of (Failed fault) = 2

abbrev pub fault_text : ProgramFault → List ℕ
fault_text Read = codes "fault read failed\n"
fault_text Write = []
fault_text NoMemory = codes "fault no memory\n"
fault_text NoThread = codes "fault no thread\n"

abbrev pub text_of : Ending → List ℕ
text_of Done = []
text_of FaultyScript = []
text_of NotAllSucceeded = []
text_of NotAllCommitted = []
text_of Help = codes
    "usage: tbpipe list|run [--names] [--strict] [--journal FILE] < SCRIPT\n       tbpipe replay FILE\n\nCommits the packets of a script to a ledger, and prints the result of each. The ledger is in memory, or in a file.\n\n  list            in one thread\n  run             in a pipeline with a thread for each submitter\n  replay          prints the clock and the accounts of the ledger in a file\n  --journal FILE  commits to the ledger in a file, and continues it; the file is made if it isn't there\n  --names         prints the name of each failure's code after it, as 1:22:credit_account_not_found\n  --strict        ends with status 1 unless all is committed and no event failed, and says what isn't\n  --help          prints this\n  --version       prints the version, and in which logic it is proved\n\nScripts and output: docs/FORMATS.md; files: docs/DURABLE.md; tools/name-codes names the codes of a saved output. The exit\nstatus is 0, or 1 for a faulty script, other arguments or other settings than the file's, or 2 if the program failed.\n"
text_of Version = codes "tbpipe 0.1.0\nlogic dac8208d650f15bf\n"
text_of Usage = codes "usage: tbpipe list|run\n"
text_of (Failed fault) = fault_text fault

-- what is said on standard error
abbrev pub remark_of : Ending → List ℕ
remark_of Done = []
remark_of FaultyScript = []
remark_of NotAllSucceeded = []
remark_of NotAllCommitted = codes
    "memory ran out: no packet whose line says stopped or refused is committed, and pulses may be left out"
remark_of Help = []
remark_of Version = []
remark_of Usage = codes
    "give list or run, options after it, and the script on standard input, as in `tbpipe list < SCRIPT`, or replay and a file; --help says more"
remark_of (Failed Read) = codes "standard input can't be read to its end"
remark_of (Failed Write) = codes
    "standard output can't be written, so a part of the output is missing: is the disk full, or the pipe closed?"
remark_of (Failed NoMemory) = codes "there isn't enough memory for this script"
remark_of (Failed NoThread) = codes "a thread couldn't be started"
