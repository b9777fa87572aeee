-- What a taker of a log is like that has refused what was told.
use Rattle.std.proofs.Common.{◌≡◌, ℕ, ◌⊎◌, Bool, true, List, Option, inl, inr, subst}
use Rattle.dmr_log.specs.RecordingLogs.{IsRefusedIn, IsRefusedInRest, RecordedFrames, silent_frames}
use Rattle.dmr_log.specs.declared.log.FrameTold.{FrameTold}
use Rattle.dmr_log.specs.declared.log.LogState.{LogState}
use Rattle.dmr_log_forms.proofs.Told.{Prints, given_to_part, puts}
use Rattle.dmr_log_forms.specs.Part.{ArePutUntilRefused, PutsFirstOfTold}
use Rattle.dmr_log_forms.specs.declared.printer.Printing.{Printing}
use Rattle.dmr_recording.specs.Endings.{IfFile, IfNotWritten}
use Rattle.dmr_recording.specs.declared.fault_line.FaultLine.{FaultLine}
use Rattle.dmr_recording.specs.declared.stop.Stop.{Stop}
use Rattle.dmr_recording.specs.declared.stop.Stop.TheVariants.{File, Output}

-- what holds where something could not be given, where it could not
pub not_written : {X : Type 0} (e : Stop) → e ≡ Output → IfNotWritten e X → X
not_written {X} e same x = subst (λ (s : Stop). IfNotWritten s X) same x

-- what holds of a fault of the file, where that is why
pub at_file : (Holds : FaultLine → Type 0) (e : Stop) {fault : FaultLine} → e ≡ File fault → IfFile e Holds → Holds fault
at_file Holds e same holds = subst (λ (s : Stop). IfFile s Holds) same holds

-- what holds of each taker behind a refusal holds of it at the end
pub holds_refused : {L : Type 0} {Takes Refuses : L → FrameTold → L → Type 0} {log : LogState} {old new : L}
    → ((frames : RecordedFrames) × IsRefusedIn Takes Refuses log frames old new) ⊎ IsRefusedInRest Takes Refuses log old new
    → (Holds : L → Type 0) → ((a : L) (told : FrameTold) (b : L) → Refuses a told b → Holds b) → Holds new
holds_refused {new = new} (inl (frames, refused)) Holds each =
    each refused.given.between refused.refused new refused.given.last
holds_refused {new = new} (inr rest) Holds each = each rest.rest.given.between rest.rest.refused new rest.rest.given.last

-- how a printer that is set so puts the first entries of what is told
abbrev pub puts_first : Printing → Option (List ℕ) → FrameTold → Option (List ℕ) → Type 0
puts_first printing old told new = PutsFirstOfTold printing.form printing.filter printing.address old told new

-- How a printer refuses what is told: where it has refused memory, it stays set as it is, and the first entries are put.
abbrev pub PrintsFirst : {L : Type 0} → (L → Option (List ℕ)) → (L → Printing) → (L → Bool) → (L → Type 0) → L → FrameTold → L
    → Type 0
PrintsFirst held set is_refused Holds a told b =
    is_refused b ≡ true → Holds b × (set b ≡ set a)
    × PutsFirstOfTold (set a).form (set a).filter (set a).address (held a) told (held b)

-- What a printer took before memory was refused is put to its sink, and the first entries of what it didn't take.
pub refused_in : {L : Type 0} (held : L → Option (List ℕ)) (set : L → Printing) (is_refused : L → Bool) (Holds : L → Type 0)
    {log : LogState} {frames : RecordedFrames} {old new : L} → is_refused new ≡ true
    → IsRefusedIn (Prints held set) (PrintsFirst held set is_refused Holds) log frames old new
    → IsRefusedIn (puts (set old)) (puts_first (set old)) log frames (held old) (held new)
refused_in held set is_refused Holds {old = old} {new = new} is refused =
    let behind = refused.given in
    let first = given_to_part held set puts old behind.between refused.told behind.taken in
    let (holds, same, put) = behind.last is in
    record {
      told = refused.told;
      decided = refused.decided;
      refused = refused.refused;
      logged = refused.logged;
      next = refused.next;
      given = record {
        between = held behind.between;
        taken = first.1;
        last = subst (λ (p : Printing). puts_first p (held behind.between) refused.refused (held new)) first.0 put;
      };
    }

-- the same, wherever memory was refused
pub refused_any : {L : Type 0} (held : L → Option (List ℕ)) (set : L → Printing) (is_refused : L → Bool) (Holds : L → Type 0)
    {log : LogState} {old new : L} → is_refused new ≡ true
    → ((frames : RecordedFrames) × IsRefusedIn (Prints held set) (PrintsFirst held set is_refused Holds) log frames old new)
    ⊎ IsRefusedInRest (Prints held set) (PrintsFirst held set is_refused Holds) log old new
    → ArePutUntilRefused (set old).form (set old).filter (set old).address log (held old) (held new)
refused_any held set is_refused Holds is (inl (frames, refused)) =
    inl (frames, refused_in held set is_refused Holds is refused)
refused_any held set is_refused Holds {old = old} {new = new} is (inr refused) =
    let first = given_to_part held set puts old refused.between refused.told refused.given in
    inr (record {
      frames = refused.frames;
      told = refused.told;
      read = refused.read;
      between = held refused.between;
      logged = refused.logged;
      given = first.1;
      silent = refused.silent;
      few = refused.few;
      rest = subst (λ (p : Printing). IsRefusedIn (puts p) (puts_first p) refused.read (silent_frames refused.silent)
          (held refused.between) (held new)) first.0 (refused_in held set is_refused Holds is refused.rest);
    })
