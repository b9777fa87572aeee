-- The bits of the service options octet that have names. ETSI TS 102 361-2, clause 7.2.1.
use Rattle.std.specs.Prelude.{ℕ}

abbrev pub emergency : ℕ
emergency = 0x80

abbrev pub privacy : ℕ
privacy = 0x40

abbrev pub broadcast : ℕ
broadcast = 0x08

abbrev pub open_voice_call_mode : ℕ
open_voice_call_mode = 0x04
