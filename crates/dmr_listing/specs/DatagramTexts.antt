-- What a line says of the octets of a record, which may be a datagram. RFC 791 and RFC 768.
use Rattle.std.specs.Prelude.{ℕ, ◌+◌, ◌-◌, ◌*◌, List, [], ◌∷◌, ◌++◌, Result, Ok, Err}
use Rattle.std.specs.Prelude.{codes, decimal, drop, length, slice_index, take}
use Rattle.dmr_ip.specs.Datagram.{number_at, parse}
use Rattle.dmr_ip.specs.declared.fault.IpFault.{IpFault}
use Rattle.dmr_listing.specs.Texts.{count_text, digits_text}
use Rattle.dmr_record.specs.declared.received.ReceivedKind.{ReceivedKind}
use Rattle.dmr_record.specs.declared.received.ReceivedKind.TheVariants as kind

-- an address of four octets, with dots between, and a port behind a colon
abbrev pub end_text : List ℕ → ℕ → List ℕ
end_text address port =
    decimal (slice_index address 0) ++ (codes "." ++ (decimal (slice_index address 1) ++ (codes "."
    ++ (decimal (slice_index address 2) ++ (codes "." ++ (decimal (slice_index address 3) ++ (codes ":" ++ decimal port)))))))

-- a datagram: where it is from and where it goes, and how many octets of data are behind its 28 of headers
abbrev pub datagram_text : List ℕ → List ℕ
datagram_text octets =
    codes "UDP " ++ (end_text (take 4 (drop 12 octets)) (number_at octets 20)
    ++ (codes " -> " ++ (end_text (take 4 (drop 16 octets)) (number_at octets 22)
    ++ (codes ", " ++ (count_text (length octets - 28) (codes "octet") ++ codes " of data")))))

-- a datagram as such, and octets that are none in digits
abbrev pub text_of_parsed : List ℕ → Result (List ℕ) IpFault → List ℕ
text_of_parsed octets (Ok datagram) = datagram_text datagram
text_of_parsed octets (Err fault) = digits_text octets

-- octets: the datagram that they are, or their digits
abbrev pub octets_text : List ℕ → List ℕ
octets_text octets = text_of_parsed octets (parse octets)

-- the octets of a status: the ports that it is from and for, and its number; any other octets in digits
abbrev pub status_text : List ℕ → List ℕ
status_text (source ∷ destination ∷ high ∷ low ∷ []) =
    codes "port " ++ (decimal source ++ (codes " -> " ++ (decimal destination
    ++ (codes ", status " ++ decimal (256 * high + low)))))
status_text octets = digits_text octets

-- what the octets of a received record say, by what they are
abbrev pub said_by : ReceivedKind → List ℕ → List ℕ
said_by kind.Datagram octets = octets_text octets
said_by kind.ShortData octets = digits_text octets
said_by kind.Status octets = status_text octets

-- how many octets a received record has, and what they say
abbrev pub received_text : ReceivedKind → List ℕ → List ℕ
received_text kind octets = count_text (length octets) (codes "octet") ++ (codes ": " ++ said_by kind octets)
