-- What a contract sees of the two ends of a ring.
use Rattle.std.specs.Prelude.{◌≡◌, ℕ, List}
use Rattle.rtrb.specs.Ring.{sent, received, known_items, known_free, producer_capacity}
pub use Rattle.tb_rings.specs.claim.RingId.{RingId}
use Rattle.tb_rings.specs.declared.Outlet.{Outlet}
use Rattle.tb_rings.specs.declared.Inlet.{Inlet}

module _ {T : Type 0} where
  -- all that was given so far, oldest first
  abbrev pub given : Outlet T → List T
  given outlet = sent outlet.producer

  -- all that was taken so far, oldest first
  abbrev pub taken : Inlet T → List T
  taken inlet = received inlet.consumer

  -- how many slots its ring has
  abbrev pub slots : Outlet T → ℕ
  slots outlet = producer_capacity outlet.producer

  -- how many of them the outlet knows to be free
  abbrev pub free : Outlet T → ℕ
  free outlet = known_free outlet.producer

  -- what the inlet has seen in the ring: the next takes give these
  abbrev pub lies : Inlet T → List T
  lies inlet = known_items inlet.consumer

  abbrev pub outlet_ring : Outlet T → RingId
  outlet_ring outlet =
      record {
        words = outlet.producer.end.words;
        slots = outlet.producer.end.slots;
        names = outlet.producer.end.names;
        heap = outlet.producer.end.heap;
      }

  abbrev pub inlet_ring : Inlet T → RingId
  inlet_ring inlet =
      record {
        words = inlet.consumer.end.words;
        slots = inlet.consumer.end.slots;
        names = inlet.consumer.end.names;
        heap = inlet.consumer.end.heap;
      }

  -- both are ends of one ring
  abbrev pub IsRing : Outlet T → Inlet T → Type 0
  IsRing outlet inlet = inlet_ring inlet ≡ outlet_ring outlet

  -- the same end of the same ring, at two moments
  abbrev pub SameOutlet : Outlet T → Outlet T → Type 0
  SameOutlet old new = outlet_ring new ≡ outlet_ring old

  abbrev pub SameInlet : Inlet T → Inlet T → Type 0
  SameInlet old new = inlet_ring new ≡ inlet_ring old
