-- What a burst counts as, by what is heard in its slot and what is repeated for it.
use Rattle.std.specs.Prelude.{ℕ, Option, Some, None, if◌then◌else◌}
use Rattle.dmr_burst.specs.declared.burst.Burst.{Burst}
use Rattle.dmr_burst.specs.declared.burst.Burst.TheVariants as burst
use Rattle.dmr_hearing.specs.Parts.{is_own}
use Rattle.dmr_hearing.specs.declared.heard.DataBurst.{DataBurst}
use Rattle.dmr_hearing.specs.declared.heard.Heard.{Heard}
use Rattle.dmr_voice.specs.declared.said.VoiceOut.{VoiceOut}
use Rattle.dmr_voice.specs.declared.said.VoiceOut.TheVariants.{Nothing, Repeat}
use Rattle.dmr_damage.specs.declared.mark.BurstMark.{BurstMark}
use Rattle.dmr_damage.specs.declared.mark.BurstMark.TheVariants.{Data, PlaceA, PlaceBToF, Unrepeated, Other}

-- Where data is repeated, the data burst that was heard; and where none was, a header is repeated once more.
abbrev pub mark_of_data : Option DataBurst → BurstMark
mark_of_data None = Other
mark_of_data (Some data_burst) = Data data_burst

-- Where this burst is repeated: data, place A where its sync was heard, or a place from B to F where its EMB was.
abbrev pub mark_of_burst : ℕ → Heard → Burst → BurstMark
mark_of_burst colour heard (burst.Data _ kind information) = mark_of_data heard.data_burst
mark_of_burst colour heard (burst.VoiceSync vocoder) = if heard.voice then PlaceA else Other
mark_of_burst colour heard (burst.Voice emb field vocoder) = if is_own colour heard.emb then PlaceBToF else Other

-- What the burst of a slot counts as that is heard so, where this is repeated for it.
abbrev pub burst_mark : ℕ → Heard → VoiceOut → BurstMark
burst_mark colour heard Nothing = Unrepeated
burst_mark colour heard (Repeat b role) = mark_of_burst colour heard b
