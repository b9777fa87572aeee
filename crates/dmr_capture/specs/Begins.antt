-- What a capture begins with.
use Rattle.std.specs.Prelude.{◌≡◌, ℕ, List}
use Rattle.dmr_capture.specs.Blocks.{section_type}
use Rattle.dmr_capture.specs.Records.{HasPcapMagic}
use Rattle.dmr_capture.specs.declared.pcap.Magic.{Magic}
use Rattle.dmr_capture.specs.declared.pcap.Magic.TheVariants.{OfPcap, OfPcapng}

-- Four octets begin such a capture.
abbrev pub HasMagic : List ℕ → Magic → Type 0
HasMagic octets (OfPcap order fraction) = HasPcapMagic octets order fraction
HasMagic octets OfPcapng = octets ≡ section_type
