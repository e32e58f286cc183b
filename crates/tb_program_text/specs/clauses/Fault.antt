-- What is printed of a fault.
use Rattle.std.specs.Prelude.{ℕ, List, codes}
use Rattle.tb_program_text.specs.declared.fault.Fault.{Fault}
use Rattle.tb_program_text.specs.declared.fault.Fault.TheVariants.{LineTooLong, BadByte, UnknownWord, OutOfPlace, WrongNumberOfWords, BadField, BadNumber, BadHex}

abbrev pub fault_text : Fault → List ℕ
fault_text LineTooLong = codes "line too long"
fault_text BadByte = codes "bad byte"
fault_text UnknownWord = codes "unknown word"
fault_text OutOfPlace = codes "out of place"
fault_text WrongNumberOfWords = codes "wrong number of words"
fault_text BadField = codes "bad field"
fault_text BadNumber = codes "bad number"
fault_text BadHex = codes "bad hex"
