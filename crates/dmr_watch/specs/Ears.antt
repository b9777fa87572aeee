-- What an ear makes of octets.
use Rattle.std.specs.Prelude.{◌≡◌, ◌==◌, ◌&&◌, ◌<◌, ℕ, Bool, true, false, not, if◌then◌else◌, List, [], ◌∷◌, ◌++◌, length, take}
use Rattle.dmr_record.specs.declared.head.FileFormat.{FileFormat}
use Rattle.dmr_record.specs.declared.head.FileFormat.TheVariants.{Uplink}
use Rattle.dmr_watch.specs.Heard.{HearsBurst, none_heard}
use Rattle.dmr_watch.specs.Reached.{nothing, reached_with}
use Rattle.dmr_watch.specs.declared.ear.Ear.{Ear}
use Rattle.dmr_watch.specs.declared.heard.Heard.{Heard}

-- nothing was heard so far
pub record is_new (ear : Ear) : Type 0 where
  pub reached : ear.reached ≡ nothing
  pub burst : ear.burst ≡ []
  pub heard : ear.heard ≡ none_heard

-- a file with bursts that come in
abbrev pub is_uplink : FileFormat → Bool
is_uplink Uplink = true
is_uplink format = false

-- the next octet is one of a burst of an uplink: it stands in a record, behind its tag
abbrev pub is_in_burst : Ear → Bool
is_in_burst ear = is_uplink ear.format && not (ear.reached.left == 0) && not (ear.reached.records == 0)

-- the octets of the burst that is coming in, with one octet more
abbrev pub burst_with : Ear → ℕ → List ℕ
burst_with ear octet = if is_in_burst ear then take 33 (ear.burst ++ octet ∷ []) else []

-- A burst counts once it has its 33 octets.
pub record CountsIfWhole (colour : ℕ) (burst : List ℕ) (before after : Heard) : Type 0 where
  pub part : length burst < 33 → after ≡ before
  pub whole : length burst ≡ 33 → HearsBurst colour burst before after

-- One octet more was heard.
pub record HearsOctet (ear : Ear) (octet : ℕ) (after : Ear) : Type 0 where
  pub format : after.format ≡ ear.format
  pub colour : after.colour ≡ ear.colour
  pub reached : after.reached ≡ reached_with ear.format ear.reached octet
  pub burst : after.burst ≡ burst_with ear octet
  pub heard : CountsIfWhole ear.colour after.burst ear.heard after.heard

-- More octets were heard, one by one.
abbrev pub Listens : Ear → List ℕ → Ear → Type 0
Listens ear [] after = after ≡ ear
Listens ear (octet ∷ octets) after = (next : Ear) × HearsOctet ear octet next × Listens next octets after
