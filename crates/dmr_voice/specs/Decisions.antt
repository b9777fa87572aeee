-- What a decision stands for, which says no more than what the place and the track behind it don't show.
use Rattle.std.specs.Prelude.{ℕ, Bool, false, List, replicate, Option, Some, None}
use Rattle.dmr_burst.specs.DataTypes as data_type
use Rattle.dmr_hearing.specs.Parts.{pi_of}
use Rattle.dmr_hearing.specs.declared.heard.DataBurst.{DataBurst}
use Rattle.dmr_hearing.specs.declared.heard.Heard.{Heard}
use Rattle.dmr_voice.specs.Places.{content_at}
use Rattle.dmr_voice.specs.Said.{Said, Data, Repeat}
use Rattle.dmr_voice.specs.Said as said
use Rattle.dmr_voice.specs.declared.decision.Decision.{Decision}
use Rattle.dmr_voice.specs.declared.decision.Decision.TheVariants as decision
use Rattle.dmr_voice.specs.declared.place.Place.{Place}
use Rattle.dmr_voice.specs.declared.said.Role.{Role}
use Rattle.dmr_voice.specs.declared.said.Role.TheVariants.{Call}
use Rattle.dmr_voice.specs.declared.track.Track.{Track}
use Rattle.dmr_voice.specs.declared.track.Track.TheVariants.{Gap, InCall}

-- The data burst that is heard is repeated, with this role.
abbrev pub data_said : Role → Option DataBurst → Said
data_said role None = said.Nothing
data_said role (Some data_burst) = Repeat (Data data_burst.kind data_burst.information) role

-- The header of the call that is to come is.
abbrev pub header_said : Track → Said
header_said (Gap header) = Repeat (Data data_type.voice_lc_header header.information) (Call header.link_control)
header_said _ = said.Nothing

-- This place of the call is, with these bits.
abbrev pub place_said : Place → Bool → ℕ → List Bool → Track → Said
place_said place pi field vocoder (InCall next call superframe) =
    Repeat (content_at place superframe pi field vocoder) (Call call)
place_said place pi field vocoder _ = said.Nothing

-- What a decision says of a place where this was heard and behind which the track stands so. One that they don't bear out says
-- nothing.
abbrev pub stands_for : Decision → Heard → Track → Said
stands_for decision.Nothing here behind = said.Nothing
stands_for (decision.Data role) here behind = data_said role here.data_burst
stands_for decision.HeaderAgain here behind = header_said behind
stands_for (decision.AsHeard place) here behind = place_said place (pi_of here.emb) here.embedded here.vocoder behind
stands_for (decision.Filled place) here behind = place_said place false 0 (replicate 216 false) behind
