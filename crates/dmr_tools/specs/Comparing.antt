-- What is printed where two files are compared. Which files the system opens under two names, and what they hold, is the system's.
use Rattle.std.specs.Prelude.{◌≡◌, ◌⊎◌, ℕ, Bool, false, List, Option}
use Rattle.dmr_compare.specs.Files.{AreComparedInPart, AreToldApart}
use Rattle.dmr_compare.specs.Status.{trouble}
use Rattle.dmr_compare.specs.declared.settings.CompareSettings.{CompareSettings}
use Rattle.dmr_compare.specs.declared.trouble.Trouble.{Trouble}
use Rattle.dmr_lines.specs.Line.{PutsError}
use Rattle.dmr_tools.specs.Tasks.{Task, ToCompare, task_of}
use Rattle.dmr_tools.specs.declared.request.Request.{Request}

-- Some two files were compared whole, and the status tells whether they are the same.
abbrev pub IsSomeComparison : CompareSettings → ℕ → Option (List ℕ) → Option (List ℕ) → Type 0
IsSomeComparison settings status held_old held_new =
    (first_old first_new second_old second_new : Option (List ℕ))
    × AreToldApart settings status first_old first_new second_old second_new held_old held_new

-- No two files were opened, and nothing printed; or some two were compared in part, for a reason.
abbrev pub IsSomeComparisonInPart : CompareSettings → Option (List ℕ) → Option (List ℕ) → Type 0
IsSomeComparisonInPart settings held_old held_new =
    (held_new ≡ held_old)
    ⊎ ((reason : Trouble) × (first_old first_new second_old second_new : Option (List ℕ))
    × AreComparedInPart settings reason first_old first_new second_old second_new held_old held_new)

-- What a comparison prints that comes to its end, with this status. Of other tasks nothing is said here.
abbrev pub IsTaskCompared : Task → ℕ → Option (List ℕ) → Option (List ℕ) → Type 0
IsTaskCompared (ToCompare comparison) status held_old held_new = IsSomeComparison comparison.settings status held_old held_new
IsTaskCompared task status held_old held_new = Unit {0}

-- What one prints that doesn't, where it can be printed.
abbrev pub IsTaskComparedInPart : Task → Option (List ℕ) → Option (List ℕ) → Type 0
IsTaskComparedInPart (ToCompare comparison) held_old held_new = IsSomeComparisonInPart comparison.settings held_old held_new
IsTaskComparedInPart task held_old held_new = Unit {0}

-- The same of requests.
abbrev pub IsComparisonPrinted : Request → ℕ → Option (List ℕ) → Option (List ℕ) → Type 0
IsComparisonPrinted request status held_old held_new = IsTaskCompared (task_of request) status held_old held_new

abbrev pub IsComparisonPrintedInPart : Request → Option (List ℕ) → Option (List ℕ) → Type 0
IsComparisonPrintedInPart request held_old held_new = IsTaskComparedInPart (task_of request) held_old held_new

-- A comparison ends in trouble: behind what is printed, a line of error goes to the other sink.
pub record TellsTrouble (status : ℕ) (out_failed err_failed : Bool) (held_old held_new : Option (List ℕ)) : Type 0 where
  pub ends : status ≡ trouble
  pub printed : out_failed ≡ false
  pub line : err_failed ≡ false → PutsError held_old held_new
