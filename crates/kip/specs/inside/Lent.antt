-- What a handle becomes whose engine was lent.
use Rattle.std.specs.Prelude.{Option, Some, true, refl}
use Rattle.std.specs.Borrow.{Lends, LendsIf, MutBor, Fml}
use Rattle.tb_embed.specs.clauses.Recorded.{RecordedState}
use Rattle.tb_embed.specs.contracts.recorded.RecordedEngine.{the_row as engine_row}
use Rattle.kip.specs.declared.engine_pointer.EnginePointer.{EnginePointer}
use Rattle.kip.specs.declared.handle.Kip.{Kip}
use Rattle.kip.specs.contracts.engine_pointer.EnginePointer.{the_row as pointer_row}
use Rattle.kip.specs.contracts.handle.Kip.{the_row as kip_row}

-- the same place, with another engine
abbrev pub with_engine : EnginePointer → RecordedState → EnginePointer
with_engine pointer engine = record { at = pointer.at; alloc = pointer.alloc; engine = Some engine }

-- the pointer ends with the last engine that was written
abbrev pub LendsEngine : MutBor EnginePointer → MutBor RecordedState → Fml
LendsEngine pointer engine = Lends pointer_row engine_row pointer engine (with_engine pointer.now)

-- an open handle with another engine
abbrev pub open_with : Kip → RecordedState → Kip
open_with kip engine = record { pointer = with_engine kip.pointer engine; is_open = true; agrees = refl }

-- an open handle ends as the last engine that was written, and a closed one as it was
abbrev pub LendsItsEngine : MutBor Kip → Option (MutBor RecordedState) → Fml
LendsItsEngine kip engine = LendsIf kip_row engine_row kip engine (open_with kip.now) kip.now
