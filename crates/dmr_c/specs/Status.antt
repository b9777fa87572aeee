-- What a call answers, as C has it in `dmrgate.h`: this project's own numbers.
use Rattle.std.specs.Prelude.{ℕ}

-- the call did what it is for
abbrev pub done : ℕ
done = 0

-- there is no station in the handle
abbrev pub no_station : ℕ
no_station = 1

-- so many frames were exchanged, or so many datagrams offered, that one more has no number
abbrev pub at_limit : ℕ
at_limit = 2

-- memory was refused
abbrev pub no_memory : ℕ
no_memory = 3

-- a setting is out of its range
abbrev pub bad_setting : ℕ
bad_setting = 4

-- a slot is neither 1 nor 2
abbrev pub bad_slot : ℕ
bad_slot = 5

-- a datagram is too long for its length to be told
abbrev pub no_room : ℕ
no_room = 6

-- all that was received is taken
abbrev pub none_received : ℕ
none_received = 7
