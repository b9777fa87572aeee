-- The laws of whole scripts: what `make` writes of one is a recording of what the script means, and a run repeats that.
use Rattle.std.specs.Prelude.{◌≡◌, ℕ, Bool, All, List, [], Some, Ok, length}
use Rattle.dmr_making_laws.specs.Lists.{AreListsOf, HasLists, silences_in_front}
use Rattle.dmr_planning.specs.Plans.{IsPlanOf, WritesPlan}
use Rattle.dmr_planning.specs.declared.plan.Made.{Made}
use Rattle.dmr_planning.specs.declared.plan.Plan.{Plan}
use Rattle.dmr_record.specs.Outgoing.{Sending}
use Rattle.dmr_record.specs.Uplink.{UplinkSlots}
use Rattle.dmr_repeater.specs.Files.{Files, KnownOctets}
use Rattle.dmr_repeater.specs.Headline.{ForWhatWasSent, HasRecording, LeavesAsMeant, WritesWhatIsMeant}
use Rattle.dmr_repeater.specs.Runs.{HasOutgoing}
use Rattle.dmr_repeater.specs.Summaries.{counts_in}
use Rattle.dmr_repeater.specs.declared.summary.Summary.{Summary}
use Rattle.dmr_script.specs.Fits.{FitsNumbered}
use Rattle.dmr_script.specs.Order.{MayStandBehind, said_nothing}
use Rattle.dmr_script.specs.declared.script.Script.{Script}
use Rattle.dmr_station.specs.StationRules.{Settings}
use Rattle.dmr_voice.specs.CallMeaning.{Cell, Transmission, sent_list}
use Rattle.dmr_voice.specs.WellFormed.{IsWellFormed}

-- 1. Scripts and plans.

-- What `read_script` and `plan_script` promise: the numbers of each statement fit their fields, each may stand behind those in
-- front of it, and the plan is the one that they say.
pub record IsPlannedScript (script : Script) (taken : Bool) (p : Plan) : Type 0 where
  pub fit : All FitsNumbered script.statements.items
  pub follow : MayStandBehind said_nothing script.statements.items
  pub planned : IsPlanOf script taken p

-- what is sent in each slot of a plan, with the silences in front of it
abbrev pub first_sent : Plan → List (Transmission × ℕ) → List Cell
first_sent p list = sent_list p.own (silences_in_front p.frames p.first.items) list

abbrev pub second_sent : Plan → List (Transmission × ℕ) → List Cell
second_sent p list = sent_list p.own (silences_in_front p.frames p.second.items) list

-- Each plan has lists: there are slots that each of its transmissions sends.
abbrev pub PlansHaveLists : Type 0
PlansHaveLists = (script : Script) (taken : Bool) (p : Plan) → IsPlannedScript script taken p → HasLists p

-- The list of each slot of a plan is well formed as a whole.
abbrev pub ListsAreWellFormed : Type 0
ListsAreWellFormed =
    (script : Script) (taken : Bool) (p : Plan) (first second : List (Transmission × ℕ)) →
    IsPlannedScript script taken p → AreListsOf p first second → IsWellFormed p.own first × IsWellFormed p.own second

-- 2. Recordings.

-- Octets are the uplink file of a recording of these transmissions in both slots. It has the frames of the plan.
pub record IsRecordingOfLists (p : Plan) (first second : List (Transmission × ℕ)) (uplink : KnownOctets) : Type 0 where
  pub frames : List UplinkSlots
  pub many : length frames ≡ p.frames
  pub has : HasRecording p.own (first_sent p first) (second_sent p second) frames uplink

-- So is what `write_uplink` writes of a plan into an empty file.
abbrev pub RecordingsAreOfTheirLists : Type 0
RecordingsAreOfTheirLists =
    (script : Script) (taken : Bool) (p : Plan) (made : Made) (first second : List (Transmission × ℕ)) (uplink : KnownOctets) →
    IsPlannedScript script taken p → AreListsOf p first second → WritesPlan p made (Some []) uplink →
    IsRecordingOfLists p first second uplink

-- 3. Runs.

-- A run of a repeater with the colour code of the script, over this uplink and these datagrams, ended well with this summary: what
-- `run` of dmr_repeater promises there by its clause `as_meant`.
pub record RunsOverUplink (s : Settings) (p : Plan) (sendings : List Sending) (summary : Summary) (uplink : KnownOctets)
    (old new : Files) : Type 0 where
  pub colour : s.colour ≡ p.own
  pub has : old.uplink ≡ uplink
  pub outgoing : HasOutgoing sendings old.outgoing
  pub as_meant : ForWhatWasSent s.colour old
      (λ first second frames sendings. LeavesAsMeant s first second frames sendings (Ok summary) old new)

-- It wrote the exact encoding of what the transmissions of the script mean.
pub record WritesWhatTheListsMean (s : Settings) (p : Plan) (first second : List (Transmission × ℕ)) (sendings : List Sending)
    (summary : Summary) (old new : Files) : Type 0 where
  pub frames : List UplinkSlots
  pub many : length frames ≡ p.frames
  pub has : HasRecording p.own (first_sent p first) (second_sent p second) frames old.uplink
  pub written : WritesWhatIsMeant s (first_sent p first) (second_sent p second) frames sendings summary.repeated
      (counts_in summary) old new

-- It wrote what the script means: the script has lists, and whichever they are, that is what they mean.
pub record WritesWhatTheScriptMeans (s : Settings) (p : Plan) (sendings : List Sending) (summary : Summary)
    (old new : Files) : Type 0 where
  pub lists : HasLists p
  pub written : (first second : List (Transmission × ℕ)) → AreListsOf p first second
      → WritesWhatTheListsMean s p first second sendings summary old new

-- Over what `make` wrote, a run that ends well wrote the exact encoding of what the script means.
abbrev pub RunsWriteWhatScriptsMean : Type 0
RunsWriteWhatScriptsMean =
    (script : Script) (taken : Bool) (p : Plan) (made : Made) (uplink : KnownOctets) →
    (s : Settings) (sendings : List Sending) (summary : Summary) (old new : Files) →
    IsPlannedScript script taken p → WritesPlan p made (Some []) uplink →
    RunsOverUplink s p sendings summary uplink old new → WritesWhatTheScriptMeans s p sendings summary old new
