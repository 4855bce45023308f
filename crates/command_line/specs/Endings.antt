-- The status that a program ends with.
use Rattle.std.specs.Prelude.{ℕ, Result, Ok, Err}
use Rattle.command_line.specs.declared.ending.Ended.{Ended}
use Rattle.command_line.specs.declared.ending.Ended.TheVariants as ended

-- The status after a stream that ended so, if it was this one before: 1 once a stream could not be
-- read. An error, if no further stream can be written: 1, or 141 if nobody reads the output any
-- more.
abbrev pub status_after : Ended → ℕ → Result ℕ ℕ
status_after ended.Whole n = Ok n
status_after ended.Unread n = Ok 1
status_after ended.Unwritten n = Err 1
status_after ended.Closed n = Err 141

-- the status if no stream follows
abbrev pub last_status : Ended → ℕ
last_status ended.Whole = 0
last_status ended.Unread = 1
last_status ended.Unwritten = 1
last_status ended.Closed = 141
