-- What is put of all that is told.
use Rattle.std.proofs.Common.{◌≡◌, ℕ, List, [], ◌∷◌, ◌++◌, Option, ap, ◌∙◌, subst}
use Rattle.std.specs.Option.{unwrap_or}
use Rattle.std.specs.Io.KnownBytes.{Consumes, IsAtEnd}
use Rattle.dmr_listing.specs.ListingRules.{GivenInTurn}
use Rattle.dmr_log.specs.RecordingLogs.{AreFramesTaken, IsLoggedUpToFault, IsRestTold, RecordedFrames}
use Rattle.dmr_log.specs.declared.log.FrameTold.{FrameTold}
use Rattle.dmr_log.specs.declared.log.LogState.{LogState}
use Rattle.dmr_log_forms.specs.Part.{ArePutUpToFault}
use Rattle.dmr_log_forms.specs.Printed.{PutsEntries, shown_of}
use Rattle.dmr_log_forms.specs.Whole.{AreAllPut, IsLogPut, PutsEnd, PutsHead, PutsTold, log_of}
use Rattle.dmr_log_forms.specs.declared.printer.Printing.{Printing}
use Rattle.dmr_log_forms.specs.declared.settings.LogForm.{LogForm}
use Rattle.dmr_log_forms.specs.declared.settings.LogSettings.{LogSettings}
use Rattle.dmr_record.specs.Head.{head_octets, magic_of}
use Rattle.dmr_record.specs.declared.head.FileFormat.TheVariants.{Uplink}
use Rattle.dmr_recording.specs.Recordings.{RecordedSlot}
use Rattle.dmr_recording.specs.declared.fault_line.FaultLine.{FaultLine}
use Rattle.dmr_show.specs.declared.filter.Filter.{Filter}

-- What was given to a taker in turn is given in turn to a part of it, where each is put to that part by something that stays.
pub given_to_part : {L M P : Type 0} (part : L → M) (stays : L → P) (Puts : P → M → FrameTold → M → Type 0) (old new : L)
    (told : List FrameTold)
    → GivenInTurn (λ (a : L) (t : FrameTold) (b : L). (stays b ≡ stays a) × Puts (stays a) (part a) t (part b)) old told new
    → (stays new ≡ stays old) × GivenInTurn (Puts (stays old)) (part old) told (part new)
given_to_part part stays Puts old new [] same = (ap stays same, ap part same)
given_to_part {M = M} part stays Puts old new (t ∷ told) (between, (kept, put), rest) =
    let others = given_to_part part stays Puts between new told rest in (
      others.0 ∙ kept,
      (
        part between,
        put,
        subst (λ p. GivenInTurn {S = M} {X = FrameTold} (Puts p) (part between) told (part new)) kept others.1,
      ),
    )

-- how a printer that is set so puts what is told
abbrev pub puts : Printing → Option (List ℕ) → FrameTold → Option (List ℕ) → Type 0
puts printing old told new = PutsTold printing.form printing.filter printing.address old told new

-- How a printer takes what is told: it stays set as it is, and puts that to its sink.
abbrev pub Prints : {L : Type 0} → (L → Option (List ℕ)) → (L → Printing) → L → FrameTold → L → Type 0
Prints held set a told b =
    (set b ≡ set a) × PutsEntries (set a).form (shown_of (set a).filter (set a).address told) (held a) (held b)

-- What a printer took of frames is put to its sink, and it stays set as it is.
pub frames_put : {L : Type 0} (held : L → Option (List ℕ)) (set : L → Printing) {log_old log_new : LogState}
    {frames : RecordedFrames} {begun : List RecordedSlot} {part : List ℕ} {left_old left_new : Option (List ℕ)} {old new : L}
    → AreFramesTaken (Prints held set) log_old frames begun part log_new left_old left_new old new
    → (set new ≡ set old)
    × AreFramesTaken (puts (set old)) log_old frames begun part log_new left_old left_new (held old) (held new)
frames_put held set {old = old} {new = new} taken =
    let given = given_to_part held set puts old new taken.told taken.given in (
      given.0,
      record {
        told = taken.told;
        each = taken.each;
        octets = taken.octets;
        logged = taken.logged;
        given = given.1;
      },
    )

-- What a printer took of the end is put to its sink.
pub rest_put : {L : Type 0} (held : L → Option (List ℕ)) (set : L → Printing) {read log_new : LogState} {old new : L}
    → IsRestTold (Prints held set) read log_new old new → IsRestTold (puts (set old)) read log_new (held old) (held new)
rest_put held set {log_new = log_new} {old = old} {new = new} rest = record {
  told = rest.told;
  decided = rest.decided;
  logged = rest.logged;
  ended = rest.ended;
  given = (given_to_part held set puts old new (rest.told ++ log_new.told ∷ []) rest.given).1;
}

-- All that a printer took is put to its sink.
pub all_put : {L : Type 0} (held : L → Option (List ℕ)) (set : L → Printing) {log_old log_new : LogState}
    {left_old left_new : Option (List ℕ)} {old new : L} (frames : RecordedFrames) (read : LogState) (between : L)
    → AreFramesTaken (Prints held set) log_old frames [] [] read left_old left_new old between
    → IsRestTold (Prints held set) read log_new between new
    → AreAllPut (set old).form (set old).filter (set old).address log_old log_new left_old left_new (held old) (held new)
all_put held set {log_new = log_new} {new = new} frames read between taken rest =
    let first = frames_put held set taken in
    record {
      frames = frames;
      read = read;
      between = held between;
      taken = first.1;
      rest = subst (λ (p : Printing). IsRestTold (puts p) read log_new (held between) (held new)) first.0 (rest_put held set rest);
    }

-- What a printer took up to a fault is put to its sink, and what is told at the end.
pub put_up_to_fault : {L : Type 0} (held : L → Option (List ℕ)) (set : L → Printing) {fault : FaultLine}
    {log_old log_new : LogState} {left_old left_new : Option (List ℕ)} {old new : L} (read : LogState) (between : L)
    → IsLoggedUpToFault (Prints held set) fault log_old read left_old left_new old between
    → IsRestTold (Prints held set) read log_new between new
    → ArePutUpToFault (set old).form (set old).filter (set old).address fault log_old log_new left_old left_new
    (held old) (held new)
put_up_to_fault held set {log_new = log_new} {new = new} read between logged rest =
    let first = frames_put held set logged.taken in
    record {
      read = read;
      between = held between;
      taken = record {
        frames = logged.frames;
        begun = logged.begun;
        part = logged.part;
        few = logged.few;
        taken = first.1;
        shown = logged.shown;
        octet = logged.octet;
        place = logged.place;
      };
      rest = subst (λ (p : Printing). IsRestTold (puts p) read log_new (held between) (held new)) first.0 (rest_put held set rest);
    }

-- what is put where the address and the begin of a log are told otherwise
pub all_same : (form : LogForm) (filter : Filter) {a b : ℕ} {log begin : LogState} (last : LogState) (l m h k : Option (List ℕ))
    → a ≡ b → log ≡ begin → AreAllPut form filter a log last l m h k → AreAllPut form filter b begin last l m h k
all_same form filter {a = a} {begin = begin} last l m h k same_address same_log put =
    subst (λ (n : ℕ). AreAllPut form filter n begin last l m h k) same_address
    (subst (λ (s : LogState). AreAllPut form filter a s last l m h k) same_log put)

-- What is put of a whole log, which is of this address.
pub log_put : {settings : LogSettings} {address : ℕ} {log last : LogState}
    {left_old left left_new held_old before behind held_new : Option (List ℕ)}
    → address ≡ unwrap_or settings.address 0 → log ≡ log_of settings.colour settings.address
    → Consumes left_old left (head_octets (magic_of Uplink)) → PutsHead settings.form held_old before
    → AreAllPut settings.form settings.filter address log last left left_new before behind
    → IsAtEnd left_new → PutsEnd settings.form behind held_new → IsLogPut settings left_old left_new held_old held_new
log_put same_address same_log uplink head entries all end = record {
  left = _;
  before = _;
  behind = _;
  last = _;
  uplink = uplink;
  head = head;
  entries = all_same _ _ _ _ _ _ _ same_address same_log entries;
  end = end;
  all = all;
}
