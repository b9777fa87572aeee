-- What a printer of a page has taken of all that is told.
use Rattle.std.proofs.Common.{◌≡◌, ℕ, List, [], ◌∷◌, ◌++◌, Option, ap, subst}
use Rattle.dmr_log.specs.RecordingLogs.{AreFramesTaken, IsLoggedUpToFault, IsRestTold, RecordedFrames}
use Rattle.dmr_log.specs.declared.log.FrameTold.{FrameTold}
use Rattle.dmr_log.specs.declared.log.LogState.{LogState}
use Rattle.dmr_log_forms.proofs.Told.{given_to_part}
use Rattle.dmr_log_forms.specs.declared.columns.EntryColumns.{EntryColumns}
use Rattle.dmr_log_page.specs.Minutes.{PageState, PutsMinute, TakesTold}
use Rattle.dmr_log_page.specs.Pages.{AreMinutesPut, begun_page}
use Rattle.dmr_log_page.specs.Part.{AreMinutesPutUpToFault}
use Rattle.dmr_log_page.specs.declared.printer.PagePrinting.{PagePrinting}
use Rattle.dmr_recording.specs.Recordings.{RecordedSlot}
use Rattle.dmr_recording.specs.declared.fault_line.FaultLine.{FaultLine}

-- a page of which this is put, and whose minute has these entries so far
abbrev pub page_with : Option (List ℕ) → List EntryColumns → PageState
page_with held entries = record { held = held; entries = entries }

-- where it has none, no minute of it is put
pub begun_with : (held : Option (List ℕ)) {entries : List EntryColumns} → entries ≡ [] → page_with held entries ≡ begun_page held
begun_with held none = ap (page_with held) none

-- how a printer that is set so takes what is told
abbrev pub takes : PagePrinting → PageState → FrameTold → PageState → Type 0
takes printing old told new = TakesTold printing.address old told new

-- How a printer takes what is told: it stays set as it is, and its page goes on.
abbrev pub Takes : {L : Type 0} → (L → PageState) → (L → PagePrinting) → L → FrameTold → L → Type 0
Takes page set a told b = (set b ≡ set a) × TakesTold (set a).address (page a) told (page b)

-- What a printer took of frames is taken by its page, and it stays set as it is.
pub frames_taken : {L : Type 0} (page : L → PageState) (set : L → PagePrinting) {log_old log_new : LogState}
    {frames : RecordedFrames} {begun : List RecordedSlot} {part : List ℕ} {left_old left_new : Option (List ℕ)} {old new : L}
    → AreFramesTaken (Takes page set) log_old frames begun part log_new left_old left_new old new
    → (set new ≡ set old)
    × AreFramesTaken (takes (set old)) log_old frames begun part log_new left_old left_new (page old) (page new)
frames_taken page set {old = old} {new = new} taken =
    let given = given_to_part page set takes old new taken.told taken.given in (
      given.0,
      record {
        told = taken.told;
        each = taken.each;
        octets = taken.octets;
        logged = taken.logged;
        given = given.1;
      },
    )

-- What a printer took of the end is taken by its page.
pub rest_taken : {L : Type 0} (page : L → PageState) (set : L → PagePrinting) {read log_new : LogState} {old new : L}
    → IsRestTold (Takes page set) read log_new old new → IsRestTold (takes (set old)) read log_new (page old) (page new)
rest_taken page set {log_new = log_new} {old = old} {new = new} rest = record {
  told = rest.told;
  decided = rest.decided;
  logged = rest.logged;
  ended = rest.ended;
  given = (given_to_part page set takes old new (rest.told ++ log_new.told ∷ []) rest.given).1;
}

-- All that a printer took is put, with the last minute behind it. At the begin its page has no entries.
pub all_put : {L : Type 0} (page : L → PageState) (set : L → PagePrinting) {log_old log_new : LogState}
    {left_old left_new held_old held_new : Option (List ℕ)} {old new : L} (frames : RecordedFrames) (read : LogState) (between : L)
    → page old ≡ begun_page held_old
    → AreFramesTaken (Takes page set) log_old frames [] [] read left_old left_new old between
    → IsRestTold (Takes page set) read log_new between new
    → PutsMinute (page new).entries (page new).held held_new
    → AreMinutesPut (set old).address log_old log_new left_old left_new held_old held_new
all_put page set {log_old = log_old} {log_new = log_new} {left_old = left_old} {left_new = left_new} {old = old} {new = new}
    frames read between begin taken rest last =
    let first = frames_taken page set taken in
    record {
      frames = frames;
      read = read;
      between = page between;
      all = page new;
      taken = subst (λ (s : PageState). AreFramesTaken (takes (set old)) log_old frames [] [] read left_old left_new s
          (page between)) begin first.1;
      rest = subst (λ (p : PagePrinting). IsRestTold (takes p) read log_new (page between) (page new)) first.0
          (rest_taken page set rest);
      last = last;
    }

-- The same up to a fault.
pub put_up_to_fault : {L : Type 0} (page : L → PageState) (set : L → PagePrinting) {fault : FaultLine} {log_old log_new : LogState}
    {left_old left_new held_old held_new : Option (List ℕ)} {old new : L} (read : LogState) (between : L)
    → page old ≡ begun_page held_old
    → IsLoggedUpToFault (Takes page set) fault log_old read left_old left_new old between
    → IsRestTold (Takes page set) read log_new between new
    → PutsMinute (page new).entries (page new).held held_new
    → AreMinutesPutUpToFault (set old).address fault log_old log_new left_old left_new held_old held_new
put_up_to_fault page set {log_old = log_old} {log_new = log_new} {left_old = left_old} {left_new = left_new} {old = old} {new = new}
    read between begin logged rest last =
    let first = frames_taken page set logged.taken in
    record {
      read = read;
      between = page between;
      all = page new;
      taken = record {
        frames = logged.frames;
        begun = logged.begun;
        part = logged.part;
        few = logged.few;
        taken = subst (λ (s : PageState). AreFramesTaken (takes (set old)) log_old logged.frames logged.begun logged.part read
            left_old left_new s (page between)) begin first.1;
        shown = logged.shown;
        octet = logged.octet;
        place = logged.place;
      };
      rest = subst (λ (p : PagePrinting). IsRestTold (takes p) read log_new (page between) (page new)) first.0
          (rest_taken page set rest);
      last = last;
    }
