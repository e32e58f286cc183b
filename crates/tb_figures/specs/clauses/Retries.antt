-- What is to be tried again, by its moments.
use Rattle.std.specs.Prelude.{◌<◌, ◌≤◌, ℕ, List, [], ◌∷◌, length, slice_index_or, nat_le, nat_lt, Option, Some, None, if◌then◌else◌, Vec, vec_len, vec_capacity}
use Rattle.std.specs.declared.alloc.Global.{Global}
use Rattle.tb_figures.specs.declared.retries.Waiting.{Waiting}

module _ {T : Type 0} where
  abbrev pub waiting_one : ℕ → T → Waiting T
  waiting_one moment item = record { moment = moment; item = item }

  -- each has this moment or a later one
  abbrev pub AreFrom : ℕ → List (Waiting T) → Type 0
  AreFrom moment [] = Unit {0}
  AreFrom moment (one ∷ others) = (moment ≤ one.moment) × AreFrom moment others

  -- none is earlier than one before it
  abbrev pub AreOrdered : List (Waiting T) → Type 0
  AreOrdered [] = Unit {0}
  AreOrdered (one ∷ others) = AreFrom one.moment others × AreOrdered others

  -- with one more, after those of its moment
  abbrev pub inserted : Waiting T → List (Waiting T) → List (Waiting T)
  inserted new [] = new ∷ []
  inserted new (one ∷ others) = if nat_lt new.moment one.moment then new ∷ one ∷ others else one ∷ inserted new others

  -- the item of the earliest moment, if that has come
  abbrev pub due : ℕ → List (Waiting T) → Option T
  due now [] = None
  due now (one ∷ others) = if nat_le one.moment now then Some one.item else None

  -- what is left without it
  abbrev pub without_due : ℕ → List (Waiting T) → List (Waiting T)
  without_due now [] = []
  without_due now (one ∷ others) = if nat_le one.moment now then others else one ∷ others

  abbrev pub next_moment : List (Waiting T) → Option ℕ
  next_moment [] = None
  next_moment (one ∷ others) = Some one.moment

  -- those before the index have this moment or an earlier one
  abbrev pub AreUpTo : List (Waiting T) → ℕ → ℕ → Type 0
  AreUpTo waiting moment index =
      (k : ℕ) (d : Waiting T) → k < index → (slice_index_or waiting k d).moment ≤ moment

  -- the same, and the one at the index has a later moment
  pub record IsIndexFor (waiting : List (Waiting T)) (moment index : ℕ) : Type 0 where
    pub within : index ≤ length waiting
    pub before : AreUpTo waiting moment index
    pub after : (d : Waiting T) → index < length waiting → moment < (slice_index_or waiting index d).moment

  -- they are ordered, and all that may wait have a place
  pub record AreWaiting (waiting : Vec (Waiting T) Global) (bound : ℕ) : Type 0 where
    pub ordered : AreOrdered waiting.items
    pub few : vec_len waiting ≤ bound
    pub room : bound ≤ vec_capacity waiting

pub record RetriesState (T : Type 0) : Type 0 where
  pub waiting : List (Waiting T)
  pub bound : ℕ
