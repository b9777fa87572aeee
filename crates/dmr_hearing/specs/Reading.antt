-- What reading the information of a data burst answers.
use Rattle.std.specs.Prelude.{◌≡◌, ℕ, Bool, List, Option, Some, IfSome}
use Rattle.dmr_hearing.specs.Hearing.{Reads}
use Rattle.dmr_hearing.specs.declared.data_types.Payload.{Payload}
use Rattle.dmr_hearing.specs.declared.heard.DataBurst.{DataBurst}
use Rattle.dmr_link.specs.declared.full_lc.FullLc.{FullLc}

-- Received information is read by what it holds, as a data burst of a data type.
pub record IsReading (payload : Payload) (kind : ℕ) (received : List Bool) (result : Option DataBurst) : Type 0 where
  -- a data burst is read so
  pub within : IfSome result (λ data_burst. (data_burst.kind ≡ kind)
      × Reads payload received data_burst.information data_burst.link_control)
  -- what can be read so is the data burst
  pub only : (information : List Bool) (lc : Option FullLc) → Reads payload received information lc
      → result ≡ Some (record { kind = kind; information = information; link_control = lc })
