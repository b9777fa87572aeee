-- What a run that stopped early wrote is a front of what a whole run writes.
use Rattle.std.proofs.Common.{◌≡◌, ℕ, true, false, List, ◌++◌, length, Some, None, IsSome, sym, ◌∙◌, ap, append_assoc}
use Rattle.std.specs.Io.KnownBytes.{Appends}
use Rattle.std.specs.List.{flat_map}
use Rattle.std.proofs.lemmas.List.Concat.{flat_map-append}
use Rattle.dmr_record.specs.Downlink.{sent_octets, downlink_file}
use Rattle.dmr_record.specs.Head.{downlink_magic, received_magic, head_octets}
use Rattle.dmr_record.specs.Received.{receipt_octets, received_file}
use Rattle.dmr_record.specs.Spelling.{IsFront}
use Rattle.dmr_station.proofs.FrontResult.{IsFrontOf, front_of_the_downlink, sent_front}
use Rattle.dmr_station.specs.DownlinkRules.{slots_of, handed_frames}
use Rattle.dmr_repeater.specs.Headline.{AreFrontsOfOneResult}
use Rattle.dmr_repeater.specs.Files.{FrontOf, KnownOctets}

-- what the items of a front of a list have is a front of what those of the list have
items_front : {X Y : Type 0} (of : X → List Y) (part whole : List X) → IsFrontOf part whole
    → IsFrontOf (flat_map of part) (flat_map of whole)
items_front of part whole u = (flat_map of u.0, ap (flat_map of) u.1 ∙ flat_map-append of part u.0)

-- so behind its head, a file of a front is a front of the file
file_front : {X : Type 0} (head : List ℕ) (of : X → List ℕ) (part whole : List X) → IsFrontOf part whole
    → IsFront (head ++ flat_map of part) (head ++ flat_map of whole)
file_front head of part whole u =
    let octets = items_front of part whole u in
    (octets.0, ap (λ l. head ++ l) octets.1 ∙ sym (append_assoc head (flat_map of part) octets.0))

-- where it is known what a sink held, what it holds with a front of a front of a file is a front of what it holds with the file
rest_appended : (old part whole : KnownOctets) (early file : List ℕ) → IsSome old → FrontOf old part early
    → IsFront early file → Appends old whole file → (rest : List ℕ) × Appends part whole rest
rest_appended None part whole early file known u v w = let bad : false ≡ true = known in cc
rest_appended (Some held) None whole early file known u v w = absurd u.2
rest_appended (Some held) (Some now) None early file known u v w = absurd w
rest_appended (Some held) (Some now) (Some all) early file known u v w = (
  u.1.0 ++ v.0,
  w ∙ ap (λ l. held ++ l) (v.1 ∙ ap (λ l. l ++ v.0) u.1.1 ∙ append_assoc u.0 u.1.0 v.0)
      ∙ sym (append_assoc held u.0 (u.1.0 ++ v.0)) ∙ ap (λ l. l ++ (u.1.0 ++ v.0)) (sym u.2),
)

-- where a run stops, what it wrote of what is meant is a front of what a whole run writes
pub fronts_of_one_result : AreFrontsOfOneResult
fronts_of_one_result s first second frames sendings count repeated counts old part whole u v =
    let fronts = front_of_the_downlink s first second frames sendings count (length (handed_frames frames)) u.sending v.sending
    u.receipts v.receipts u.counts counts u.downlink v.downlink in
    let slots = items_front (λ frame. frame) u.sending v.sending fronts.0 in
    let sent = sent_front (slots_of u.sending) (slots_of v.sending) u.sent v.sent slots u.encoded v.encoded in
    let records : IsFront (downlink_file u.sent) (downlink_file v.sent) =
    file_front (head_octets downlink_magic) sent_octets u.sent v.sent sent in
    let receipts : IsFront (received_file u.receipts) (received_file v.receipts) =
    file_front (head_octets received_magic) receipt_octets u.receipts v.receipts fronts.1 in
    record {
      downlink = λ known. rest_appended old.downlink part.downlink whole.downlink (downlink_file u.sent) (downlink_file v.sent)
          known u.written records v.written;
      received = λ known. rest_appended old.received part.received whole.received (received_file u.receipts)
          (received_file v.receipts) known u.records receipts v.records;
    }
