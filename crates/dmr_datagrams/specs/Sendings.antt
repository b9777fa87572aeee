-- Which records an outgoing list has that is made of a capture, and in which frames.
use Rattle.std.specs.Prelude.{◌≡◌, ◌⊎◌, ℕ, ◌+◌, ◌-◌, ◌/◌, ◌^◌, ◌≤◌, ◌==◌, ◌||◌, max, if◌then◌else◌, Bool, List, [], ◌∷◌, ◌++◌}
use Rattle.std.specs.Prelude.{Option, None, Some}
use Rattle.std.specs.Prelude.{slice_index}
use Rattle.dmr_capture.specs.Links.{ipv4_carried}
use Rattle.dmr_capture.specs.State.{CapturedPacket}
use Rattle.dmr_capture.specs.declared.link.Link.{Link}
use Rattle.dmr_record.specs.Head.{record_limit}
use Rattle.dmr_record.specs.Outgoing.{Sending}
use Rattle.dmr_datagrams.specs.declared.progress.ImportSettings.{ImportSettings}
use Rattle.dmr_datagrams.specs.declared.progress.ListedSoFar.{ListedSoFar}

-- whether the destination of an IPv4 packet, which stands at 16, begins with 12 or 225
abbrev pub is_to_radios : List ℕ → Bool
is_to_radios datagram = (slice_index datagram 16 == 12) || (slice_index datagram 16 == 225)

abbrev pub to_radios_found : Option (List ℕ) → Option (List ℕ)
to_radios_found None = None
to_radios_found (Some datagram) = if is_to_radios datagram then Some datagram else None

-- the IPv4 packet that a packet of this link carries, where it is for radios
abbrev pub to_radios : Link → List ℕ → Option (List ℕ)
to_radios link octets = to_radios_found (ipv4_carried link octets)

-- the frame that a packet asks for: so many of 60 milliseconds behind the first one, rounded down
abbrev pub asked_frame : ℕ → ℕ → ℕ → ℕ
asked_frame first_frame first time = first_frame + (time - first) / 60000000

-- the frame that it gets, which is no earlier than the last
abbrev pub frame_of : ℕ → ℕ → ℕ → ℕ → ℕ
frame_of first_frame first last time = max (asked_frame first_frame first time) last

-- when the first packet came, where this one may be the first
abbrev pub first_of : Option ℕ → ℕ → ℕ
first_of None time = time
first_of (Some first) time = first

-- the frame of the record of a packet, in a list that has got this far
abbrev pub next_frame : ImportSettings → ListedSoFar → ℕ → ℕ
next_frame settings p time = frame_of settings.first_frame (first_of p.first time) p.last time

abbrev pub sendings_of_found : ImportSettings → ListedSoFar → ℕ → Option (List ℕ) → List Sending
sendings_of_found settings p time None = []
sendings_of_found settings p time (Some datagram) = record {
  frame = next_frame settings p time;
  slot = settings.slot;
  confirmed = settings.confirmed;
  full = settings.full;
  datagram = datagram;
} ∷ []

-- the record of a packet, or none
abbrev pub sendings_of : ImportSettings → ListedSoFar → CapturedPacket → List Sending
sendings_of settings p packet = sendings_of_found settings p packet.time (to_radios packet.link packet.octets)

abbrev pub progress_of_found : ImportSettings → ListedSoFar → ℕ → Option (List ℕ) → ListedSoFar
progress_of_found settings p time None = p
progress_of_found settings p time (Some datagram) =
    record { first = Some (first_of p.first time); last = next_frame settings p time; records = p.records + 1 }

-- where the list has got to behind a packet
abbrev pub progress_of : ImportSettings → ListedSoFar → CapturedPacket → ListedSoFar
progress_of settings p packet = progress_of_found settings p packet.time (to_radios packet.link packet.octets)

-- in front of a list
abbrev pub no_progress : ListedSoFar
no_progress = record { first = None; last = 0; records = 0 }

-- the records of packets, in their order, in a list that has got this far
abbrev pub sendings_from : ImportSettings → ListedSoFar → List CapturedPacket → List Sending
sendings_from settings p [] = []
sendings_from settings p (packet ∷ packets) =
    sendings_of settings p packet ++ sendings_from settings (progress_of settings p packet) packets

-- where it has got to behind them
abbrev pub progress_behind : ImportSettings → ListedSoFar → List CapturedPacket → ListedSoFar
progress_behind settings p [] = p
progress_behind settings p (packet ∷ packets) = progress_behind settings (progress_of settings p packet) packets

-- the records of the packets of a capture
abbrev pub imported : ImportSettings → List CapturedPacket → List Sending
imported settings packets = sendings_from settings no_progress packets

-- A packet is for radios, and there is no room for its record in the list, or for its frame in a record.
pub record IsPastList (settings : ImportSettings) (p : ListedSoFar) (packet : CapturedPacket) : Type 0 where
  pub datagram : List ℕ
  pub taken : to_radios packet.link packet.octets ≡ Some datagram
  pub past : (record_limit ≤ p.records)
      ⊎ (2 ^ 32 ≤ asked_frame settings.first_frame (first_of p.first packet.time) packet.time)
