-- What the parts say of a slot that is heard.
use Rattle.std.specs.Prelude.{ℕ, ◌==◌, ◌&&◌, not, Bool, true, false, Option, Some, None}
use Rattle.dmr_burst.specs.declared.emb.Emb.{Emb}
use Rattle.dmr_hearing.specs.declared.heard.DataBurst.{DataBurst}
use Rattle.dmr_hearing.specs.declared.heard.Heard.{Heard}

-- No data burst of the own colour code is heard.
abbrev pub is_no_data_burst : Option DataBurst → Bool
is_no_data_burst None = true
is_no_data_burst (Some data_burst) = false

-- There is an EMB, with this colour code.
abbrev pub is_own : ℕ → Option Emb → Bool
is_own colour None = false
is_own colour (Some emb) = emb.colour == colour

-- The PI bit; unset where there is no EMB.
abbrev pub pi_of : Option Emb → Bool
pi_of None = false
pi_of (Some emb) = emb.pi

-- There is an EMB, with this colour code and this LCSS.
abbrev pub has_lcss : ℕ → ℕ → Option Emb → Bool
has_lcss colour lcss None = false
has_lcss colour lcss (Some emb) = (emb.colour == colour) && (emb.lcss == lcss)

-- Absent: neither data nor voice, and no EMB of the own colour code.
abbrev pub is_absent : ℕ → Heard → Bool
is_absent colour heard = is_no_data_burst heard.data_burst && (not heard.voice && not (is_own colour heard.emb))
