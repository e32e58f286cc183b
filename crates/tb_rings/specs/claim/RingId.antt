-- The identity of a ring.
use Rattle.std.specs.declared.alloc.Global.{Global}
use denote.RawPtr.{Ptr}
use Rattle.rtrb.specs.Shared.{Names}

-- which ring it is: two ends with one identity are ends of one ring
pub record RingId : Type 0 where
  pub words : Ptr
  pub slots : Ptr
  pub names : Names
  pub heap : Global
