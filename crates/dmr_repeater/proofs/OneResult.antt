-- What is meant is written in one way, and so is what the rules make of any frames.
use Rattle.std.proofs.Common.{◌≡◌, ℕ, true, false, List, length, Some, None, IsSome, sym, ◌∙◌, ap, subst}
use Rattle.std.specs.Io.KnownBytes.{Appends}
use Rattle.dmr_record.specs.Downlink.{downlink_file}
use Rattle.dmr_record.specs.Received.{received_file}
use Rattle.dmr_station.proofs.Encodings.{one_encoding}
use Rattle.dmr_station.proofs.OneResult.{one_downlink_by_the_rules, one_downlink_of_what_is_meant}
use Rattle.dmr_station.specs.DownlinkRules.{slots_of, repeated_count, handed_frames}
use Rattle.dmr_station.specs.GatewayMeaning.{by_frame}
use Rattle.dmr_station.specs.Sent.{AreSentAs}
use Rattle.dmr_repeater.specs.Files.{KnownOctets}
use Rattle.dmr_repeater.specs.Headline.{HasOneResult, HasOneResultOfFrames}

-- where it is known what a sink held, octets are appended in one way
appended_alike : (old new other : KnownOctets) (octets : List ℕ) → IsSome old → Appends old new octets
    → Appends old other octets → new ≡ other
appended_alike None new other octets known u v = let bad : false ≡ true = known in cc
appended_alike (Some held) None other octets known u v = absurd u
appended_alike (Some held) (Some now) None octets known u v = absurd v
appended_alike (Some held) (Some now) (Some also) octets known u v = ap Some (u ∙ sym v)

-- what is meant of what was sent in both slots is written in one way, octet for octet
pub one_result : HasOneResult
one_result s first second frames sendings repeated other_repeated counts other_counts old new other u v =
    let same = one_downlink_of_what_is_meant s first second frames (by_frame 0 (length (handed_frames frames)) sendings)
    u.sending v.sending u.receipts v.receipts counts other_counts u.downlink v.downlink in
    let sent : u.sent ≡ v.sent = one_encoding 0 (slots_of u.sending) u.sent v.sent u.encoded
    (subst (λ x. AreSentAs 0 (slots_of x) v.sent) (sym same.0) v.encoded) in
    record {
      repeats = u.repeats ∙ ap (λ x. repeated_count (slots_of x)) same.0 ∙ sym v.repeats;
      counts_are = same.2;
      downlink = λ known. appended_alike old.downlink new.downlink other.downlink (downlink_file u.sent) known u.written
          (subst (λ x. Appends old.downlink other.downlink (downlink_file x)) (sym sent) v.written);
      received = λ known. appended_alike old.received new.received other.received (received_file u.receipts) known u.records
          (subst (λ x. Appends old.received other.received (received_file x)) (sym same.1) v.records);
    }

-- the same, of what the rules make of any frames and datagrams
pub one_result_of_frames : HasOneResultOfFrames
one_result_of_frames s frames sendings repeated other_repeated counts other_counts old new other u v =
    let same = one_downlink_by_the_rules s (by_frame 0 (length (handed_frames frames)) sendings) (handed_frames frames)
    u.rules.sending v.rules.sending u.receipts v.receipts counts other_counts u.rules.makes v.rules.makes in
    let sent : u.sent ≡ v.sent = one_encoding 0 (slots_of u.rules.sending) u.sent v.sent u.rules.encoded
    (subst (λ x. AreSentAs 0 (slots_of x) v.sent) (sym same.0) v.rules.encoded) in
    record {
      repeats = u.rules.repeats ∙ ap (λ x. repeated_count (slots_of x)) same.0 ∙ sym v.rules.repeats;
      counts_are = same.2;
      downlink = λ known. appended_alike old.downlink new.downlink other.downlink (downlink_file u.sent) known u.written
          (subst (λ x. Appends old.downlink other.downlink (downlink_file x)) (sym sent) v.written);
      received = λ known. appended_alike old.received new.received other.received (received_file u.receipts) known u.records
          (subst (λ x. Appends old.received other.received (received_file x)) (sym same.1) v.records);
    }
