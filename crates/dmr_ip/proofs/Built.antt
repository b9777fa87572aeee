-- What is built of contents is a datagram.
use Rattle.std.proofs.Common.{◌≡◌, ℕ, ◌+◌, ◌-◌, ◌*◌, ◌/◌, ◌%◌, ◌≤◌, Bool, true, false, cond}
use Rattle.std.proofs.Common.{◌==◌, List, [], ◌∷◌, ◌++◌, length, fold, refl, sym, ap, ◌∙◌, arith}
use Rattle.std.proofs.lemmas.Bool.{eqb-true}
use Rattle.dmr_ip.specs.Checksum.{words, plus, ones_complement_sum}
use Rattle.dmr_ip.specs.Datagram.{IsDatagram}
use Rattle.dmr_ip.specs.Contents.{AreOctets, Contents, FitsDatagram, address, datagram_between, datagram_of, ip_checksum}
use Rattle.dmr_ip.specs.Contents.{ip_header, pseudo_header, radio_address, sent_checksum, shown_contents, udp_checksum, udp_header}
use Rattle.dmr_ip.specs.Spelling.{SpellsDatagram}
use Rattle.dmr_ip.proofs.Sums.{AreWords, AreWords-words, sum_is_right, sum_is_right_sent}

-- the word that the octets of a number are
abbrev word : ℕ → ℕ
word n = 256 * (n / 256 % 256) + n % 256

word-le : (n : ℕ) → word n ≤ 65535
word-le n = omega arith

word-small : (n : ℕ) → n ≤ 65535 → word n ≡ n
word-small n h = omega arith

-- both words of an address
abbrev high : ℕ → ℕ
high n = 256 * (n / 16777216 % 256) + n / 65536 % 256

high-le : (n : ℕ) → high n ≤ 65535
high-le n = omega arith

abbrev low : ℕ → ℕ
low n = 256 * (n / 256 % 256) + n % 256

-- the words before and behind the header checksum
abbrev ip_before : (total identification : ℕ) → List ℕ
ip_before total identification = 17664 ∷ word total ∷ word identification ∷ 0 ∷ 16401 ∷ []

abbrev ip_behind : (source destination : ℕ) → List ℕ
ip_behind source destination = high source ∷ low source ∷ high destination ∷ low destination ∷ []

ip_header-right : (total identification source destination : ℕ) → ones_complement_sum (ip_header (ip_checksum total identification
    source destination) total identification source destination) ≡ 65535
ip_header-right total identification source destination =
    let sum : ℕ = ip_checksum total identification source destination in
    let before = ip_before total identification in
    let behind = ip_behind source destination in
    ap (λ w. fold plus 0 (before ++ w ∷ behind)) (word-small sum (omega arith))
    ∙ sum_is_right before behind
    (omega arith, (word-le total, (word-le identification, (omega arith, (omega arith, tt)))))
    (high-le source, (word-le source, (high-le destination, (word-le destination, tt))))

-- the words before the UDP checksum, with those of the pseudo header
abbrev udp_before : (total source destination source_port destination_port : ℕ) → List ℕ
udp_before total source destination source_port destination_port =
    high source ∷ low source ∷ high destination ∷ low destination ∷ 17 ∷ word total
    ∷ word source_port ∷ word destination_port ∷ word total ∷ []

sent_checksum-cases : (before behind : List ℕ) (sum : ℕ) (none : Bool) → sum ≡ 65535 - fold plus 0 (before ++ 0 ∷ behind) → (sum ==
    0) ≡ none → AreWords before → AreWords behind → fold plus 0 (before ++ cond none 65535 sum ∷ behind) ≡ 65535
sent_checksum-cases before behind sum true e z h k = sum_is_right_sent before behind h k (sym e ∙ eqb-true sum 0 z)
sent_checksum-cases before behind sum false e z h k = rw e (sum_is_right before behind h k)

sent_checksum-le : (sum : ℕ) (none : Bool) → sum ≤ 65535 → cond none 65535 sum ≤ 65535
sent_checksum-le sum true h = omega arith
sent_checksum-le sum false h = h

udp_header-right : (total source destination source_port destination_port : ℕ) (payload : List ℕ) → AreOctets payload →
    ones_complement_sum (pseudo_header total source destination ++ udp_header (udp_checksum total source destination source_port
    destination_port payload) total source_port destination_port ++ payload) ≡ 65535
udp_header-right total source destination source_port destination_port payload octets =
    let before = udp_before total source destination source_port destination_port in
    let behind = words payload in
    let sum : ℕ = 65535 - fold plus 0 (before ++ 0 ∷ behind) in
    ap (λ w. fold plus 0 (before ++ w ∷ behind)) (word-small (sent_checksum sum) (sent_checksum-le sum (sum == 0) (omega arith)))
    ∙ sent_checksum-cases before behind sum (sum == 0) refl refl (
      high-le source,
      (
        word-le source,
        (
          high-le destination,
          (
            word-le destination,
            (
              omega arith,
              (
                word-le total,
                (
                  word-le
                      source_port,
                  (word-le destination_port, (word-le total, tt)),
                ),
              ),
            ),
          ),
        ),
      ),
    )
    (AreWords-words payload octets)

-- what is built of contents that fit a datagram is a datagram
pub IsDatagram-built : (source destination : ℕ) (c : Contents) → FitsDatagram c → IsDatagram (datagram_between source destination c)
unfolding datagram_between
IsDatagram-built source destination c fits =
    let room : 28 + length c.payload ≤ 1400 = fits.room in
    record {
      at_least = omega arith;
      at_most = omega arith;
      counted = omega arith;
      version_four = refl;
      no_options = refl;
      header_sum = ip_header-right (20 + (8 + length c.payload)) c.identification source destination;
      last_fragment = refl;
      first_fragment = refl;
      carries_udp = refl;
      udp_at_least = omega arith;
      udp_counted = omega arith;
      udp_sum = λ _. udp_header-right (8 + length c.payload) source destination c.source_port c.destination_port c.payload
          fits.payload;
    }

-- The datagram shows the contents that it is built of.
pub shown_contents-built : (source destination : ℕ) (c : Contents) → FitsDatagram c → shown_contents (datagram_between source
    destination c) ≡ c
unfolding datagram_between
shown_contents-built source destination c fits =
    let identification : word c.identification ≡ c.identification = omega (arith, fits.identification) in
    let source_port : word c.source_port ≡ c.source_port = omega (arith, fits.source_port) in
    let destination_port : word c.destination_port ≡ c.destination_port = omega (arith, fits.destination_port) in
    rw (identification, source_port, destination_port) refl

-- So a datagram that is spelled is the one with the contents that it shows.
pub datagram_of-shown : (octets : List ℕ) (source destination : ℕ) (group : Bool) (datagram : List ℕ) → SpellsDatagram octets source
    destination group datagram → datagram ≡ datagram_of source destination group (shown_contents datagram)
datagram_of-shown octets source destination group datagram h =
    let shown = shown_contents-built (radio_address source) (address group destination) h.contents h.fits in
    rw (h.stands_for, shown) refl
