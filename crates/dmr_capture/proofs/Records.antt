-- Records of a pcap.
use Rattle.std.proofs.Common.{◌≡◌, ◌≢◌, ℕ, ◌+◌, List, [], ◌∷◌, ◌++◌, length, refl, ap, subst, arith}
use Rattle.std.proofs.lemmas.List.{length-append}
use Rattle.dmr_capture.specs.CutFaults.{cut_packet_fault}
use Rattle.dmr_capture.specs.Reading.{ShowsRecordFault}
use Rattle.dmr_capture.specs.Records.{IsPartOfRecord, IsRecord, IsRecordHead, record_time}
use Rattle.dmr_capture.specs.State.{CaptureState}
use Rattle.dmr_capture.specs.declared.link.Link.{Link}
use Rattle.dmr_capture.specs.declared.pcap.Fraction.{Fraction}
use Rattle.dmr_capture.specs.declared.transfer.Cut.{Cut}
use Rattle.dmr_capture.specs.declared.transfer.Cut.TheVariants.{End, Device}

-- less than a record shows that it is cut, or could not be read
pub cut_record : (state : CaptureState) (cut : Cut) (part : List ℕ) → part ≢ [] → IsPartOfRecord state part
    → ShowsRecordFault state (cut_packet_fault cut state.octet) part
cut_record state End part some less = (refl, some, less)
cut_record state Device part some less = (refl, less)

-- a record, by its head and its packet
is_record_behind : (link : Link) (fraction : Fraction) (old : CaptureState) (head packet taken : List ℕ) (captured time last : ℕ)
    → IsRecordHead old.order head captured → captured ≡ length packet → time ≡ record_time fraction old.order head
    → last ≡ old.octet + (16 + captured) → taken ≡ packet
    → IsRecord link fraction old (head ++ packet) (record old { octet = last })
    (record { octet = old.octet; link = link; time = time; octets = taken } ∷ [])
is_record_behind link fraction old head packet taken captured time last says whole timed behind same = record {
  head = head;
  packet = packet;
  parts = refl;
  says = rw whole at says;
  behind = let all : last ≡ old.octet + length (head ++ packet) = omega (arith, length-append head packet, says.whole) in
      ap (λ octet. record old { octet = octet }) all;
  held = rw (timed, same) refl;
}

-- the same, of a state that is another
pub is_record : (link : Link) (fraction : Fraction) (state old : CaptureState) (head packet taken : List ℕ)
    (captured time last : ℕ) → state ≡ old
    → IsRecordHead state.order head captured → captured ≡ length packet → time ≡ record_time fraction state.order head
    → last ≡ state.octet + (16 + captured) → taken ≡ packet
    → IsRecord link fraction old (head ++ packet) (record state { octet = last })
    (record { octet = state.octet; link = link; time = time; octets = taken } ∷ [])
is_record link fraction state old head packet taken captured time last is says whole timed behind same =
    subst (λ s. IsRecord link fraction s (head ++ packet) (record state { octet = last })
    (record { octet = state.octet; link = link; time = time; octets = taken } ∷ [])) is
    (is_record_behind link fraction state head packet taken captured time last says whole timed behind same)
