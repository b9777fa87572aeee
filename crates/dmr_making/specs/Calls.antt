-- A call of a script as a transmission, and what each of its slots sends.
use Rattle.std.specs.Prelude.{◌≡◌, ℕ, zero, suc, ◌-◌, ◌%◌, Bool, true, List, [], ◌∷◌, ◌++◌, map, drop, length, replicate, flat_map}
use Rattle.std.specs.Prelude.{zip}
use Rattle.std.specs.Prelude.{slice_index_or, Option, Some, None, if◌then◌else◌}
use Rattle.dmr_hearing.specs.Fields.{IsCarrier}
use Rattle.dmr_burst.specs.DataTypes.{pi_header, voice_lc_header, terminator_with_lc}
use Rattle.dmr_hearing.specs.Slots.{SentSlot, Silent, Data}
use Rattle.dmr_link.specs.declared.full_lc.FullLc.{FullLc}
use Rattle.dmr_link.specs.declared.sealing.LcUse.TheVariants.{Header as ForHeader, Terminator}
use Rattle.dmr_making.specs.Information.{IsLcInformation, IsPiInformation}
use Rattle.dmr_script.specs.declared.call.Call.{Call}
use Rattle.dmr_script.specs.declared.call.Carried.{Carried}
use Rattle.dmr_script.specs.declared.call.Carried.TheVariants.{Own, Nothing, LinkControl}
use Rattle.dmr_script.specs.declared.shape.CallStart.{CallStart}
use Rattle.dmr_script.specs.declared.shape.CallStart.TheVariants as start
use Rattle.dmr_script.specs.declared.shape.Headers.{Headers}
use Rattle.dmr_script.specs.declared.shape.HeaderKind.{HeaderKind}
use Rattle.dmr_script.specs.declared.shape.HeaderKind.TheVariants as header
use Rattle.dmr_voice.specs.CallMeaning.{Present, Superframe, Ending, Terminated, Silenced, Lead, HeaderAgain, PiHeader, cells}
use Rattle.dmr_voice.specs.CallMeaning.{Transmission, VoiceCall, HeadersAlone, LateCall, place_cell}
use Rattle.dmr_voice.specs.declared.place.Place.{Place}
use Rattle.dmr_voice.specs.declared.place.Place.TheVariants.{A, B, C, D, E, F}
use Rattle.dmr_voice.specs.declared.said.Role.TheVariants.{Other}

-- 1. Superframes.

-- what a superframe carries in a call of this link control
abbrev pub carried_lc : FullLc → Carried → Option FullLc
carried_lc own Own = Some own
carried_lc own Nothing = None
carried_lc own (LinkControl lc) = Some lc

-- What the superframe with this number carries, counted from 0: what the script names, in turn, and the call's own link control
-- where it names nothing.
abbrev pub carried_by : FullLc → List Carried → ℕ → Option FullLc
carried_by own [] number = Some own
carried_by own (first ∷ more) number = carried_lc own (slice_index_or (first ∷ more) (number % length (first ∷ more)) first)

-- the four embedded fields of what a superframe carries: zeros where that is nothing
abbrev pub AreFieldsOf : Option FullLc → List ℕ → Type 0
AreFieldsOf None fields = fields ≡ replicate 4 0
AreFieldsOf (Some lc) fields = IsCarrier lc fields

-- the embedded field of each place of a superframe: B to E have the four in turn, and A and F zeros
abbrev pub six_fields : List ℕ → List ℕ
six_fields fields =
    0 ∷ slice_index_or fields 0 0 ∷ slice_index_or fields 1 0 ∷ slice_index_or fields 2 0 ∷ slice_index_or fields 3 0 ∷ 0 ∷ []

-- the places of a superframe with these fields, each there or absent
abbrev pub places_with : Bool → List ℕ → List Bool → List (Option Present)
places_with pi fields presence = map (λ p. if p.1 then Some (record { pi = pi; embedded = p.0 }) else None) (zip fields presence)

-- The superframe with this number: which of its places are there, and what it carries.
abbrev pub superframe_of : Call → (ℕ → List ℕ) → ℕ → List Bool → Superframe
superframe_of call fields number presence = record {
  carries = carried_by call.link_control call.carried.items number;
  places = places_with call.pi (six_fields (fields number)) presence;
}

-- The superframes from this number on: six places each, and the last of them at most six.
abbrev pub superframes_from : Call → (ℕ → List ℕ) → ℕ → List Bool → List Superframe
superframes_from call fields number [] = []
superframes_from call fields number (a ∷ b ∷ c ∷ d ∷ e ∷ f ∷ more) =
    superframe_of call fields number (a ∷ b ∷ c ∷ d ∷ e ∷ f ∷ []) ∷ superframes_from call fields (suc number) more
superframes_from call fields number part = superframe_of call fields number part ∷ []

-- 2. The transmission.

-- The information of a call's data bursts, and the embedded fields of its superframes by their numbers.
pub record CallForms : Type 0 where
  pub header : List Bool
  pub pi_header : List Bool
  pub terminator : List Bool
  pub fields : ℕ → List ℕ
  pub own_fields : List ℕ

-- They are those of this call.
pub record AreFormsOf (call : Call) (forms : CallForms) : Type 0 where
  pub header : IsLcInformation ForHeader call.link_control forms.header
  pub pi_header : IsPiInformation call.key forms.pi_header
  pub terminator : IsLcInformation Terminator call.link_control forms.terminator
  pub fields : (number : ℕ) → AreFieldsOf (carried_by call.link_control call.carried.items number) (forms.fields number)
  pub own_fields : IsCarrier call.link_control forms.own_fields

-- a header behind the first
abbrev pub lead_of : CallForms → HeaderKind → Lead
lead_of forms header.Voice = HeaderAgain
lead_of forms header.Privacy = PiHeader forms.pi_header

-- by so many terminators a call ends, or by silence where there are none
abbrev pub call_ending : CallForms → ℕ → Ending
call_ending forms zero = Silenced
call_ending forms (suc more) = Terminated forms.terminator more

-- The transmission that a call with its headers is: headers alone where no place follows them.
abbrev pub headed_call : Call → CallForms → Headers → List Bool → Transmission
headed_call call forms h [] = HeadersAlone call.link_control forms.header (map (lead_of forms) h.more.items)
    (call_ending forms call.shape.terminators)
headed_call call forms h (place ∷ places) = VoiceCall call.link_control forms.header (map (lead_of forms) h.more.items) h.silences
    (superframes_from call forms.fields 0 (place ∷ places)) (call_ending forms call.shape.terminators)

-- The transmission that the rest of a call is, behind these places of which it is said whether a burst is there.
abbrev pub late_call : Call → CallForms → List Bool → Transmission
late_call call forms tail = LateCall call.link_control tail (superframes_from call forms.fields 0 call.shape.places.items)
    (call_ending forms call.shape.terminators)

-- The transmission that a call with this in front of its first A is.
abbrev pub started_call : Call → CallForms → CallStart → Transmission
started_call call forms (start.Headers h) = headed_call call forms h call.shape.places.items
started_call call forms (start.Late tail) = late_call call forms tail.items

-- The transmission that a call is.
abbrev pub call_of : Call → CallForms → Transmission
call_of call forms = started_call call forms call.shape.start

-- 3. What its slots send.

-- what the slots of a transmission send
abbrev pub slots_sent : ℕ → Transmission → List SentSlot
slots_sent colour t = map (λ c. c.sent) (cells colour t)

-- what a place of a superframe sends, there or absent
abbrev pub place_slot : ℕ → Option FullLc → Place → Option Present → SentSlot
place_slot colour carries place y = (place_cell colour place carries None Other y).sent

-- what the places of a superframe send
abbrev pub superframe_slots : ℕ → Superframe → List SentSlot
superframe_slots colour s = map (λ p. place_slot colour s.carries p.0 p.1) (zip (A ∷ B ∷ C ∷ D ∷ E ∷ F ∷ []) s.places)

-- What stands in front of the first A of a call that comes in late: the last places of a superframe that carries the link control
-- of the call. A transmission says of them that a burst is there, and no more.
abbrev pub tail_slots : ℕ → Call → CallForms → List Bool → List SentSlot
tail_slots colour call forms tail = drop (6 - length tail) (superframe_slots colour cut)
  where
    -- the superframe whose end it is
    cut : Superframe
    cut = record {
      carries = Some call.link_control;
      places = places_with call.pi (six_fields forms.own_fields) (replicate (6 - length tail) true ++ tail);
    }

-- what each slot of the rest of a call sends, with these places in front of its first A
abbrev pub late_slots : ℕ → Call → CallForms → List Bool → List SentSlot
late_slots colour call forms tail = tail_slots colour call forms tail ++ slots_sent colour (late_call call forms [])

-- what each slot of a call with this in front of its first A sends
abbrev pub slots_with : ℕ → Call → CallForms → CallStart → List SentSlot
slots_with colour call forms (start.Headers h) = slots_sent colour (headed_call call forms h call.shape.places.items)
slots_with colour call forms (start.Late tail) = late_slots colour call forms tail.items

-- What each slot of a call sends.
abbrev pub call_slots : ℕ → Call → CallForms → List SentSlot
call_slots colour call forms = slots_with colour call forms call.shape.start

-- 4. The same, part by part.

-- a header of a call
abbrev pub header_slot : Call → CallForms → HeaderKind → SentSlot
header_slot call forms header.Voice = Data voice_lc_header forms.header (Some call.link_control)
header_slot call forms header.Privacy = Data pi_header forms.pi_header None

-- the places of a call from its first A on, and its terminators
abbrev pub voice_slots : ℕ → Call → CallForms → List SentSlot
voice_slots colour call forms =
    flat_map (superframe_slots colour) (superframes_from call forms.fields 0 call.shape.places.items)
    ++ replicate call.shape.terminators (Data terminator_with_lc forms.terminator (Some call.link_control))

-- how many silences stand between headers and voice
abbrev pub silences_behind : List Bool → Headers → ℕ
silences_behind [] h = 0
silences_behind (place ∷ places) h = h.silences

-- a call with its headers
abbrev pub headed_slots : ℕ → Call → CallForms → Headers → List SentSlot
headed_slots colour call forms h =
    header_slot call forms header.Voice ∷ (map (header_slot call forms) h.more.items
    ++ (replicate (silences_behind call.shape.places.items h) Silent ++ voice_slots colour call forms))
