-- What is to be done for each request. What is promised of the doing goes by that, so a new request has to say what it is.
use Rattle.std.specs.Prelude.{ℕ}
use Rattle.dmr_compare.specs.Status.{trouble}
use Rattle.dmr_lines.specs.Status.{failure}
use Rattle.dmr_tools.specs.declared.comparison.Comparison.{Comparison}
use Rattle.dmr_tools.specs.declared.listing.Listing.{Listing}
use Rattle.dmr_tools.specs.declared.listing.Listing.TheVariants as listing
use Rattle.dmr_tools.specs.declared.request.Request.{Request}
use Rattle.dmr_tools.specs.declared.request.Request.TheVariants.{Show, Backwards, Log, LogPage, LogRefused, Make, SharedOutput}
use Rattle.dmr_tools.specs.declared.request.Request.TheVariants.{Damage, Compare, SharedInput, Import, Export, NoStart, Elsewhere}

-- A file is to be listed, or what is repeated of it; one file is to be made of another, be it from another format, in one, with
-- wrong bits, or of a script; two files are to be compared; or nothing is to be done here, of what is refused or another program's.
pub data Task : Type 0 where
  ToList : Listing → Task
  ToCarry : Task
  ToCompare : Comparison → Task
  NotHere : Task

-- what is to be done for a request
abbrev pub task_of : Request → Task
task_of (Show name form filter) = ToList (listing.Lines form filter)
task_of (Log name settings) = ToList (listing.Log settings)
task_of (LogPage name settings) = ToList (listing.Page settings)
task_of (Make places) = ToCarry
task_of (Damage damage seed places) = ToCarry
task_of (Import format places) = ToCarry
task_of (Export format places) = ToCarry
task_of (Compare comparison) = ToCompare comparison
task_of Backwards = NotHere
task_of (LogRefused refusal) = NotHere
task_of SharedOutput = NotHere
task_of SharedInput = NotHere
task_of NoStart = NotHere
task_of (Elsewhere name) = NotHere

-- a file is to be listed, or what is repeated of it
abbrev pub IsToList : Task → Type 0
IsToList (ToList listing) = Unit {0}
IsToList task = ⊥

-- one file is to be made of another
abbrev pub IsToCarry : Task → Type 0
IsToCarry ToCarry = Unit {0}
IsToCarry task = ⊥

-- two files are to be compared
abbrev pub IsToCompare : Task → Type 0
IsToCompare (ToCompare comparison) = Unit {0}
IsToCompare task = ⊥

-- something is to be done here
abbrev pub IsToDo : Task → Type 0
IsToDo NotHere = ⊥
IsToDo task = Unit {0}

-- The same of requests.
abbrev pub IsShow : Request → Type 0
IsShow request = IsToList (task_of request)

abbrev pub IsCarrying : Request → Type 0
IsCarrying request = IsToCarry (task_of request)

abbrev pub IsComparison : Request → Type 0
IsComparison request = IsToCompare (task_of request)

abbrev pub IsTool : Request → Type 0
IsTool request = IsToDo (task_of request)

-- the exit status where what is printed of a task can't be printed
abbrev pub unwritten_of : Task → ℕ
unwritten_of (ToCompare comparison) = trouble
unwritten_of task = failure

abbrev pub unwritten_status : Request → ℕ
unwritten_status request = unwritten_of (task_of request)
