-- The number and the name of each refusal.
use Rattle.std.specs.Prelude.{ℕ, List, codes}
use Rattle.tb_work.specs.declared.refusal.Refusal.{Refusal}
use Rattle.tb_work.specs.declared.refusal.Refusal.TheVariants.{InvalidOperation, InvalidDataSize, TooMuchData, InFlight, Full, NoMemory, Shutdown, Stopped, BadLimit, BadCapacity, BadSubmitters, MomentTooLarge, NoThread}

abbrev pub number_of : Refusal → ℕ
number_of InvalidOperation = 1
number_of InvalidDataSize = 2
number_of TooMuchData = 3
number_of InFlight = 4
number_of Full = 5
number_of NoMemory = 6
number_of Shutdown = 7
number_of Stopped = 8
number_of BadLimit = 9
number_of BadCapacity = 10
number_of BadSubmitters = 11
number_of MomentTooLarge = 12
number_of NoThread = 13

abbrev pub name_of : Refusal → List ℕ
name_of InvalidOperation = codes "InvalidOperation"
name_of InvalidDataSize = codes "InvalidDataSize"
name_of TooMuchData = codes "TooMuchData"
name_of InFlight = codes "InFlight"
name_of Full = codes "Full"
name_of NoMemory = codes "NoMemory"
name_of Shutdown = codes "Shutdown"
name_of Stopped = codes "Stopped"
name_of BadLimit = codes "BadLimit"
name_of BadCapacity = codes "BadCapacity"
name_of BadSubmitters = codes "BadSubmitters"
name_of MomentTooLarge = codes "MomentTooLarge"
name_of NoThread = codes "NoThread"
