-- Why a step round a thread is refused.
use Rattle.std.specs.Prelude.{◌≡◌, ◌≢◌, ℕ}
use Rattle.bd_seat.specs.declared.seat_error.SeatError.{SeatError}
use Rattle.bd_seat.specs.declared.seat_error.SeatError.TheVariants.{OutOfMemory, StampsSpent}

-- why it is, where this is the last stamp then: that is the greatest number, or it isn't and there was no memory
abbrev pub IsCause : SeatError → ℕ → Type 0
IsCause OutOfMemory last = last ≢ 340282366920938463463374607431768211455
IsCause StampsSpent last = last ≡ 340282366920938463463374607431768211455
