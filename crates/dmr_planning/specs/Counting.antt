-- How many slots a transmission has.
use Rattle.std.specs.Prelude.{ℕ, List, [], ◌∷◌, Bool, length, sum, Option, Some, None}
use Rattle.dmr_making.specs.Calls.{silences_behind}
use Rattle.dmr_script.specs.declared.call.Call.{Call}
use Rattle.dmr_script.specs.declared.packet.Again.{Again}
use Rattle.dmr_script.specs.declared.packet.Again.TheVariants as again
use Rattle.dmr_script.specs.declared.packet.PacketTry.{PacketTry}
use Rattle.dmr_script.specs.declared.shape.CallStart.{CallStart}
use Rattle.dmr_script.specs.declared.shape.CallStart.TheVariants as start
use Rattle.dmr_script.specs.declared.shape.PacketShape.{PacketShape}
use Rattle.dmr_script.specs.declared.statement.Transmission.{Transmission}
use Rattle.dmr_script.specs.declared.statement.Transmission.TheVariants as said

-- how many slots of a call stand in front of its first A
abbrev pub start_count : CallStart → List Bool → ℕ
start_count (start.Headers h) places = sum (1 ∷ length h.more.items ∷ silences_behind places h ∷ [])
start_count (start.Late tail) places = sum (length tail.items ∷ [])

abbrev pub before_voice : Call → ℕ
before_voice c = start_count c.shape.start c.shape.places.items

-- how many slots a call has
abbrev pub call_count : Call → ℕ
call_count c = sum (before_voice c ∷ length c.shape.places.items ∷ c.shape.terminators ∷ [])

-- how many slots a packet of this shape has
abbrev pub shape_count : PacketShape → ℕ
shape_count s = sum (s.preambles ∷ 1 ∷ length s.blocks.items ∷ [])

-- how many slots a further try of a packet has
abbrev pub again_count : PacketTry → Again → ℕ
again_count p (again.Full None) = sum (1 ∷ length p.shape.blocks.items ∷ [])
again_count p (again.Full (Some shape)) = shape_count shape
again_count p (again.Partial partial) = shape_count partial.shape

-- How many slots a transmission has, where this is the packet that it may try again.
abbrev pub slot_count : Transmission → Option PacketTry → ℕ
slot_count (said.Call c) last = call_count c
slot_count (said.Packet p) last = shape_count p.shape
slot_count (said.Again a) None = 0
slot_count (said.Again a) (Some p) = again_count p a
slot_count (said.ShortData s) last = shape_count s.shape
slot_count (said.Status s) last = shape_count s.shape
slot_count (said.Answer a) last = shape_count a.shape
slot_count (said.Control csbk) last = 1
slot_count (said.Burst lone) last = 1
