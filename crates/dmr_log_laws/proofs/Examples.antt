-- Examples that compute: what a log has to tell of some transmissions.
use Rattle.std.proofs.Common.{◌≡◌, ℕ, Bool, true, false, List, [], ◌∷◌, length, Option, Some, None, refl}
use Rattle.dmr_link.specs.declared.full_lc.FullLc.{FullLc}
use Rattle.dmr_log.specs.declared.transmission.CallStage.TheVariants as stage
use Rattle.dmr_log_laws.specs.CallEntries.{call_due, slots_before}
use Rattle.dmr_log_laws.specs.TryEntries.{there_count}
use Rattle.dmr_voice.specs.CallMeaning.{Block, Present, Superframe, Terminated, Silenced, HeaderAgain, PiHeader, Transmission}
use Rattle.dmr_voice.specs.CallMeaning.{VoiceCall, HeadersAlone, LateCall, Controls, cells}

abbrev group : FullLc
group = record { protect = false; reserved = false; flco = 0; fid = 0; body = 0 ∷ 0 ∷ 0 ∷ 1 ∷ 0 ∷ 0 ∷ 2 ∷ [] }

abbrev there : Option Present
there = Some (record { pi = false; embedded = 0 })

-- six places, of which B is absent
abbrev without_b : Option FullLc → Superframe
without_b carries = record { carries = carries; places = there ∷ None ∷ there ∷ there ∷ there ∷ there ∷ [] }

-- six places
abbrev whole : Option FullLc → Superframe
whole carries = record { carries = carries; places = there ∷ there ∷ there ∷ there ∷ there ∷ there ∷ [] }

-- 1. A header, a silence, six places of which one is absent, and a terminator: nine frames.

abbrev call : Transmission
call = VoiceCall group (true ∷ []) [] 1 (without_b (Some group) ∷ []) (Terminated (false ∷ []) 0)

call_is_told : call_due 1 call
    ≡ Some (record {
      stage = stage.Terminated (Some group);
      link_control = Some group;
      is_late = false;
      places = 6;
      filled = 1;
    })
call_is_told = refl

call_has_nine_slots : length (cells 1 call) ≡ 9
call_has_nine_slots = refl

-- 2. Headers alone have no place.

headers_are_told : call_due 1 (HeadersAlone group (true ∷ []) (HeaderAgain ∷ PiHeader [] ∷ []) Silenced)
    ≡ Some (record { stage = stage.Headers; link_control = Some group; is_late = false; places = 0; filled = 0 })
headers_are_told = refl

-- 3. Of a late call E and F come first. Nothing tells whose it is but a terminator, or a superframe of which B to E are there.

abbrev late : List Superframe → Transmission
late superframes = LateCall group (true ∷ true ∷ []) superframes Silenced

late_is_told : call_due 1 (late (without_b (Some group) ∷ []))
    ≡ Some (record { stage = stage.Places; link_control = None; is_late = true; places = 6; filled = 1 })
late_is_told = refl

late_begins_with_its_a : slots_before (late (without_b (Some group) ∷ [])) ≡ 2
late_begins_with_its_a = refl

late_is_known_by_its_terminator
    : call_due 1 (LateCall group (true ∷ true ∷ []) (without_b (Some group) ∷ []) (Terminated (false ∷ []) 0))
    ≡ Some (record {
      stage = stage.Terminated (Some group);
      link_control = Some group;
      is_late = true;
      places = 6;
      filled = 1;
    })
late_is_known_by_its_terminator = refl

late_is_known_by_a_superframe : call_due 1 (late (without_b (Some group) ∷ whole (Some group) ∷ []))
    ≡ Some (record { stage = stage.Places; link_control = Some group; is_late = true; places = 12; filled = 1 })
late_is_known_by_a_superframe = refl

-- 4. Data bursts are no call, and of three blocks one may be absent.

no_call_of_data : call_due 1 (Controls ((record { kind = 3; information = []; link_control = None }) ∷ [])) ≡ None
no_call_of_data = refl

abbrev block : Option Block
block = Some (record { kind = 7; information = [] })

two_blocks_are_there : there_count (block ∷ None ∷ block ∷ []) ≡ 2
two_blocks_are_there = refl
