-- Whole scripts.
use Rattle.std.proofs.Common.{◌≡◌, ℕ, ◌≤◌, Bool, All, List, [], length, Some, None, Ok}
use Rattle.std.proofs.Common.{ap, subst, sym, ◌∙◌, arith}
use Rattle.std.proofs.lemmas.List.{length-map}
use Rattle.std.specs.Io.KnownBytes.{Appends}
use Rattle.std.specs.List.{AllByRecursion}
use Rattle.dmr_making.specs.Playing.{AreFramesMade, IsFitPlaced, IsOrdered}
use Rattle.dmr_making.specs.declared.playing.PlacedTransmission.{PlacedTransmission}
use Rattle.dmr_making_laws.proofs.Existing.{list_somehow}
use Rattle.dmr_making_laws.proofs.Listing.{listed}
use Rattle.dmr_making_laws.proofs.OtherColours.{other_colours}
use Rattle.dmr_making_laws.proofs.Placing.{AreOthers, AreWellPlaced, EndWithin, planned_well, slots_within}
use Rattle.dmr_making_laws.proofs.SlotLines.{IsListRecorded, frames_made, frames_made_too, list_recorded}
use Rattle.dmr_making_laws.proofs.WellSaid.{IsWellPlaced}
use Rattle.dmr_making_laws.specs.Lists.{AreListsOf, silences_in_front}
use Rattle.dmr_making_laws.specs.Scripts.{IsPlannedScript, IsRecordingOfLists, ListsAreWellFormed, PlansHaveLists}
use Rattle.dmr_making_laws.specs.Scripts.{RecordingsAreOfTheirLists, RunsOverUplink, RunsWriteWhatScriptsMean}
use Rattle.dmr_making_laws.specs.Scripts.{WritesWhatTheListsMean, first_sent, second_sent}
use Rattle.dmr_planning.proofs.Pausing.{pauses}
use Rattle.dmr_planning.proofs.Planned.{EndsBy, IsAllFit, planned_fits}
use Rattle.dmr_planning.specs.Pausing.{ArePausedBetween}
use Rattle.dmr_planning.specs.Planning.{own_colour}
use Rattle.dmr_planning.specs.Plans.{IsPlanOf, WritesPlan}
use Rattle.dmr_planning.specs.declared.plan.Made.{Made}
use Rattle.dmr_planning.specs.declared.plan.Plan.{Plan}
use Rattle.dmr_record.specs.Outgoing.{Sending}
use Rattle.dmr_record.specs.Uplink.{UplinkSlots, uplink_file}
use Rattle.dmr_repeater.specs.Files.{Files, KnownOctets}
use Rattle.dmr_repeater.specs.Headline.{ForWhatWasSent, HasRecording, LeavesAsMeant}
use Rattle.dmr_repeater.specs.declared.summary.Summary.{Summary}
use Rattle.dmr_script.specs.Order.{said_nothing}
use Rattle.dmr_script.specs.declared.script.Script.{Script}
use Rattle.dmr_script.specs.declared.statement.NumberedStatement.{NumberedStatement}
use Rattle.dmr_station.specs.DownlinkRules.{slots_in}
use Rattle.dmr_station.specs.StationRules.{Settings}
use Rattle.dmr_voice.specs.CallMeaning.{Transmission}

-- 1. What holds of a slot of a plan.

-- What is placed is well placed and paused, and stands in order within the frames.
pub record IsSlotPlanned (own : ℕ) (all : List NumberedStatement) (frames : ℕ) (placed : List PlacedTransmission) : Type 0 where
  pub well : AllByRecursion (IsWellPlaced own all) placed
  pub paused : ArePausedBetween all own placed
  pub ordered : IsOrdered 0 placed
  pub ends : All (EndsBy frames) placed
  pub there : All (IsFitPlaced all) placed

-- and of both
record AreBothPlanned (p : Plan) : Type 0 where
  first : IsSlotPlanned p.own p.statements.now p.frames p.first.items
  second : IsSlotPlanned p.own p.statements.now p.frames p.second.items

ends_by : (end later : ℕ) (placed : List PlacedTransmission) → end ≤ later → All (EndsBy end) placed → All (EndsBy later) placed
ends_by end later placed le all = λ k d lt. let h = all k d lt in omega (arith, le, h)

slot_planned : (own frames end : ℕ) (all : List NumberedStatement) (placed items : List PlacedTransmission) → items ≡ placed
    → AllByRecursion (IsWellPlaced own all) placed → ArePausedBetween all own placed → IsOrdered 0 placed
    → All (EndsBy end) placed → All (IsFitPlaced all) placed → end ≤ frames → IsSlotPlanned own all frames items
slot_planned own frames end all placed items e well paused ordered ends there le =
    subst (IsSlotPlanned own all frames) (sym e) (record {
      well = well;
      paused = paused;
      ordered = ordered;
      ends = ends_by end frames placed le ends;
      there = there;
    })

both_planned : (script : Script) (taken : Bool) (p : Plan) → IsPlannedScript script taken p → AreBothPlanned p
both_planned script taken p s =
    let q : IsPlanOf script taken p = s.planned in
    let all : List NumberedStatement = script.statements.items in
    let own : ℕ = own_colour all in
    let well : AreOthers own all = λ at t e. other_colours said_nothing all at t s.follow e in
    let placed : AreWellPlaced own all q.planned = planned_well own all taken (length all) q.planned well s.fit q.planned_is in
    let fit : IsAllFit all q.planned = planned_fits all own taken (length all) q.planned s.fit q.planned_is in
    let paused = pauses all own taken (length all) q.planned q.planned_is in
    let within : EndWithin p.frames q.planned = slots_within q.planned p.frames q.frames in
    let first : IsSlotPlanned own all p.frames p.first.items =
    slot_planned own p.frames q.planned.first.state.end all q.planned.first.placed p.first.items q.first placed.first paused.0
    fit.first.ordered fit.first.ends fit.first.placed within.first in
    let second : IsSlotPlanned own all p.frames p.second.items =
    slot_planned own p.frames q.planned.second.state.end all q.planned.second.placed p.second.items q.second placed.second paused.1
    fit.second.ordered fit.second.ends fit.second.placed within.second in
    record {
      first = subst (λ (o : ℕ). IsSlotPlanned o p.statements.now p.frames p.first.items) (sym q.own)
          (subst (λ (ss : List NumberedStatement). IsSlotPlanned own ss p.frames p.first.items) (sym q.statements) first);
      second = subst (λ (o : ℕ). IsSlotPlanned o p.statements.now p.frames p.second.items) (sym q.own)
          (subst (λ (ss : List NumberedStatement). IsSlotPlanned own ss p.frames p.second.items) (sym q.statements) second);
    }

-- 2. The laws.

-- The lists of both slots are well formed.
pub lists_are_well_formed : ListsAreWellFormed
lists_are_well_formed script taken p first second s lists =
    let b : AreBothPlanned p = both_planned script taken p s in (
      listed p.own p.statements.now p.frames p.first.items first b.first.well b.first.paused lists.first_slot,
      listed p.own p.statements.now p.frames p.second.items second b.second.well b.second.paused lists.second_slot,
    )

-- what was written into an empty file is all that it has
all_written : (held : KnownOctets) (octets : List ℕ) → Appends (Some []) held octets → held ≡ Some octets
all_written None octets written = absurd written
all_written (Some now) octets written = ap Some written

-- What is written is a recording of both.
pub recordings_are_of_their_lists : RecordingsAreOfTheirLists
recordings_are_of_their_lists script taken p made first second uplink s lists w =
    let b : AreBothPlanned p = both_planned script taken p s in
    let r = w.recording in
    let one : IsListRecorded p.own p.statements.now p.frames p.first.items first =
    list_recorded p.own p.statements.now p.frames p.first.items first b.first.well b.first.ordered b.first.ends lists.first_slot in
    let two : IsListRecorded p.own p.statements.now p.frames p.second.items second =
    list_recorded p.own p.statements.now p.frames p.second.items second b.second.well b.second.ordered b.second.ends
    lists.second_slot in
    let frames : List UplinkSlots = r.frames in
    let are : AreFramesMade 0 one.line two.line frames = r.made one.line two.line one.is two.is in
    record {
      frames = frames;
      many = r.many;
      has = record {
        each = r.each;
        recording = record {
          first_slot = one.recorded (slots_in 0 frames) (length-map frames _ ∙ r.many)
              (λ k m is. frames_made 0 one.line two.line frames k k m (omega arith) are is);
          second_slot = two.recorded (slots_in 1 frames) (length-map frames _ ∙ r.many)
              (λ k m is. frames_made_too 0 one.line two.line frames k k m (omega arith) are is);
        };
        has = all_written uplink (uplink_file frames) r.written;
      };
    }

-- A plan has lists.
pub plans_have_lists : PlansHaveLists
plans_have_lists script taken p s =
    let b : AreBothPlanned p = both_planned script taken p s in
    let (first, is_first) = list_somehow p.own p.statements.now p.frames p.first.items b.first.well b.first.there in
    let (second, is_second) = list_somehow p.own p.statements.now p.frames p.second.items b.second.well b.second.there in
    record { first = first; second = second; are = record { first_slot = is_first; second_slot = is_second } }

-- A run over a recording of lists writes what they mean,
lists_are_meant : (script : Script) (taken : Bool) (p : Plan) (made : Made) (first second : List (Transmission × ℕ))
    → (uplink : KnownOctets) (s : Settings) (sendings : List Sending) (summary : Summary) (old new : Files)
    → IsPlannedScript script taken p → AreListsOf p first second → WritesPlan p made (Some []) uplink
    → RunsOverUplink s p sendings summary uplink old new → WritesWhatTheListsMean s p first second sendings summary old new
lists_are_meant script taken p made first second uplink s sendings summary old new planned lists w run =
    let wf = lists_are_well_formed script taken p first second planned lists in
    let of_lists : IsRecordingOfLists p first second uplink =
    recordings_are_of_their_lists script taken p made first second uplink planned lists w in
    let has : HasRecording p.own (first_sent p first) (second_sent p second) of_lists.frames old.uplink =
    subst (λ (o : KnownOctets). HasRecording p.own (first_sent p first) (second_sent p second) of_lists.frames o) (sym run.has)
    of_lists.has in
    let meant = subst (λ (c : ℕ). ForWhatWasSent c old
    (λ one two frames sent. LeavesAsMeant s one two frames sent (Ok summary) old new)) run.colour run.as_meant in
    record {
      frames = of_lists.frames;
      many = of_lists.many;
      has = has;
      written = (meant (silences_in_front p.frames p.first.items) (silences_in_front p.frames p.second.items) first second
          of_lists.frames sendings wf.0 wf.1 has run.outgoing).0;
    }

-- and so what the script means.
pub runs_write_what_scripts_mean : RunsWriteWhatScriptsMean
runs_write_what_scripts_mean script taken p made uplink s sendings summary old new planned w run = record {
  lists = plans_have_lists script taken p planned;
  written = λ first second lists.
      lists_are_meant script taken p made first second uplink s sendings summary old new planned lists w run;
}
