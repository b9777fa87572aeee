-- The four files of a run, as their devices tell of them.
use Rattle.std.specs.Prelude.{◌≡◌, List, Option, ℕ}
use Rattle.std.specs.Io.KnownBytes.{Appends}
use Rattle.dmr_record.specs.Spelling.{IsFront}
use Rattle.dmr_repeater.specs.declared.fault.Stream.{Stream}
use Rattle.dmr_repeater.specs.declared.fault.Stream.TheVariants.{Downlink, Received}

-- The octets that an input has left, or that an output holds, where its device tells them.
abbrev pub KnownOctets : Type 0
KnownOctets = Option (List ℕ)

-- The four files at one time: what the inputs have left, and what the outputs hold.
pub record Files : Type 0 where
  pub uplink : KnownOctets
  pub outgoing : KnownOctets
  pub downlink : KnownOctets
  pub received : KnownOctets

-- The four files, of the octets that each input has left and that each output holds.
abbrev pub files : KnownOctets → KnownOctets → KnownOctets → KnownOctets → Files
files uplink outgoing downlink received =
    record { uplink = uplink; outgoing = outgoing; downlink = downlink; received = received }

-- A front of these octets was written.
abbrev pub FrontOf : KnownOctets → KnownOctets → List ℕ → Type 0
FrontOf held_old held_new whole = (front : List ℕ) × IsFront front whole × Appends held_old held_new front

-- A write of one of the outputs failed where these octets were to go to the downlink and then those to the received file: a front
-- of these was written and none of those, or all of these and a front of those.
abbrev pub WritesUpTo : Stream → (held_old held_new received_old received_new : KnownOctets) → List ℕ → List ℕ → Type 0
WritesUpTo Downlink held_old held_new received_old received_new these those =
    FrontOf held_old held_new these × (received_new ≡ received_old)
WritesUpTo Received held_old held_new received_old received_new these those =
    Appends held_old held_new these × FrontOf received_old received_new those
WritesUpTo input held_old held_new received_old received_new these those = ⊥
