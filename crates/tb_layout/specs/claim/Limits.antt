-- The clock's bound and unit.
use Rattle.std.specs.Prelude.{ℕ, ◌^◌, ◌-◌}

-- in nanoseconds
abbrev pub clock_max : ℕ
clock_max = 2 ^ 63 - 1

abbrev pub nanoseconds_per_second : ℕ
nanoseconds_per_second = 10 ^ 9
