-- What is said fits, and can be sent.
use Rattle.std.proofs.Common.{◌≡◌, ℕ, ◌<◌, List, [], ◌∷◌, length, All, Option, Some, None, IfSome, arith, refl}
use Rattle.std.proofs.Common.{slice_get, drop, Bool, true, false}
use Rattle.std.specs.List.{sum}
use Rattle.std.specs.Option.{option_and_then}
use Rattle.dmr_making.proofs.TrySlots.{fit_at}
use Rattle.dmr_making.specs.Fit.{IsFitCall, IsFitStart}
use Rattle.dmr_making.specs.Playing.{packet_in, packet_said, transmit_of}
use Rattle.dmr_planning.specs.Counting.{slot_count, start_count}
use Rattle.dmr_planning.specs.Tries.{try_fault}
use Rattle.dmr_script.specs.Fits.{FitsCall, FitsNumbered, FitsPacket, FitsStatement, FitsTransmission}
use Rattle.dmr_script.specs.Shapes.{IsStart, there_within}
use Rattle.dmr_script.specs.declared.call.Call.{Call}
use Rattle.dmr_script.specs.declared.packet.Again.TheVariants as again
use Rattle.dmr_script.specs.declared.packet.PacketTry.{PacketTry}
use Rattle.dmr_script.specs.declared.shape.CallStart.{CallStart}
use Rattle.dmr_script.specs.declared.shape.CallStart.TheVariants as start
use Rattle.dmr_script.specs.declared.statement.NumberedStatement.{NumberedStatement}
use Rattle.dmr_script.specs.declared.statement.Statement.{Statement}
use Rattle.dmr_script.specs.declared.statement.Statement.TheVariants as statement
use Rattle.dmr_script.specs.declared.statement.Transmission.{Transmission}
use Rattle.dmr_script.specs.declared.statement.Transmission.TheVariants as said
use Rattle.dmr_script.specs.declared.statement.Transmit.{Transmit}

-- the packet that a transmission says fits
said_fits : (t : Transmission) → FitsTransmission t → IfSome (packet_said t) FitsPacket
said_fits (said.Call c) f = tt
said_fits (said.Packet p) f = f
said_fits (said.Again a) f = tt
said_fits (said.ShortData s) f = tt
said_fits (said.Status s) f = tt
said_fits (said.Answer a) f = tt
said_fits (said.Control csbk) f = tt
said_fits (said.Burst lone) f = tt

-- the packet that a statement says
statement_fits : (s : Statement) → FitsStatement s
    → IfSome (option_and_then (λ (t : Transmit). packet_said t.transmission) (transmit_of s)) FitsPacket
statement_fits (statement.Colour colour) f = tt
statement_fits (statement.Slot slot) f = tt
statement_fits (statement.Silence n) f = tt
statement_fits (statement.At frame) f = tt
statement_fits (statement.Frames n) f = tt
statement_fits (statement.Transmit t) f = said_fits t.transmission f.transmission
statement_fits (statement.Send s) f = tt

-- the last confirmed packet of a slot
pub packet_fits : (statements : List NumberedStatement) (at : Option ℕ) → All FitsNumbered statements
    → IfSome (packet_in statements at) FitsPacket
packet_fits statements None all = tt
packet_fits statements (Some at) all = by (slice_get statements at) refl
  where
    by : (o : Option NumberedStatement) → slice_get statements at ≡ o
        → IfSome (option_and_then (λ (t : Transmit). packet_said t.transmission)
        (option_and_then (λ (s : NumberedStatement). transmit_of s.statement) o)) FitsPacket
    by None e = tt
    by (Some s) e = statement_fits s.statement (fit_at FitsNumbered statements at s all e)

-- the start of a call
start_fits : (s : CallStart) (places : List Bool) → IsStart s places → IsFitStart s
start_fits (start.Headers h) places f = tt
start_fits (start.Late tail) places f = f.0

pub call_fits : (c : Call) → FitsCall c → IsFitCall c
call_fits c f = record {
  link_control = f.link_control.flco;
  carried = f.carried;
  start = start_fits c.shape.start c.shape.places.items f.shape.start;
}

-- a late call has places
late_places : (tail places : List Bool) → there_within 5 false (drop 1 places) ≡ true → 0 < length places
late_places tail [] e = absurd (cc)
late_places tail (p ∷ places) e = omega arith

some_in_call : (s : CallStart) (places : List Bool) (terminators : ℕ) → IsStart s places
    → 0 < sum (start_count s places ∷ length places ∷ terminators ∷ [])
some_in_call (start.Headers h) places terminators f = omega arith
some_in_call (start.Late tail) places terminators f =
    let some = late_places tail.items places f.1 in omega (arith, some)

-- each transmission that is sent has slots
pub some_slots : (t : Transmission) (last : Option PacketTry) → FitsTransmission t → try_fault t last ≡ None
    → 0 < slot_count t last
some_slots (said.Call c) last f e = some_in_call c.shape.start c.shape.places.items c.shape.terminators f.shape.start
some_slots (said.Packet p) last f e = omega arith
some_slots (said.Again a) None f e = absurd (cc)
some_slots (said.Again (again.Full None)) (Some p) f e = omega arith
some_slots (said.Again (again.Full (Some shape))) (Some p) f e = omega arith
some_slots (said.Again (again.Partial partial)) (Some p) f e = omega arith
some_slots (said.ShortData s) last f e = omega arith
some_slots (said.Status s) last f e = omega arith
some_slots (said.Answer a) last f e = omega arith
some_slots (said.Control csbk) last f e = omega arith
some_slots (said.Burst lone) last f e = omega arith
