-- What is printed of a file that is listed, or of which a log is printed, perhaps as a page. Which file the system opens under a
-- name, and what it holds, is the system's.
use Rattle.std.specs.Prelude.{◌≡◌, ◌⊎◌, ℕ, List, Option}
use Rattle.dmr_log_forms.specs.Part.{IsLogPutUpTo}
use Rattle.dmr_log_forms.specs.Whole.{IsLogPut}
use Rattle.dmr_log_forms.specs.declared.fault.LogFault.{LogFault}
use Rattle.dmr_log_page.specs.Pages.{IsPagePut}
use Rattle.dmr_log_page.specs.Part.{IsPagePutUpTo}
use Rattle.dmr_show.specs.Showing.{IsShownInPart, IsShownWhole}
use Rattle.dmr_tools.specs.Tasks.{Task, ToList, task_of}
use Rattle.dmr_tools.specs.declared.listing.Listing.{Listing}
use Rattle.dmr_tools.specs.declared.listing.Listing.TheVariants as listing
use Rattle.dmr_tools.specs.declared.request.Request.{Request}

-- From what a file had left to what it has left then, it is listed whole, or its log or its page printed.
abbrev pub IsListingPut : Listing → Option (List ℕ) → Option (List ℕ) → Option (List ℕ) → Option (List ℕ) → Type 0
IsListingPut (listing.Lines form filter) left_old left_new held_old held_new =
    IsShownWhole form filter left_old left_new held_old held_new
IsListingPut (listing.Log settings) left_old left_new held_old held_new = IsLogPut settings left_old left_new held_old held_new
IsListingPut (listing.Page settings) left_old left_new held_old held_new = IsPagePut settings left_old left_new held_old held_new

-- The same in part, or up to a fault.
abbrev pub IsListingPutInPart : Listing → Option (List ℕ) → Option (List ℕ) → Option (List ℕ) → Option (List ℕ) → Type 0
IsListingPutInPart (listing.Lines form filter) left_old left_new held_old held_new =
    IsShownInPart form filter left_old left_new held_old held_new
IsListingPutInPart (listing.Log settings) left_old left_new held_old held_new =
    (fault : LogFault) × IsLogPutUpTo fault settings left_old left_new held_old held_new
IsListingPutInPart (listing.Page settings) left_old left_new held_old held_new =
    (fault : LogFault) × IsPagePutUpTo fault settings left_old left_new held_old held_new

-- some file is listed whole
abbrev pub IsSomeListingPut : Listing → Option (List ℕ) → Option (List ℕ) → Type 0
IsSomeListingPut listing held_old held_new =
    (left_old left_new : Option (List ℕ)) × IsListingPut listing left_old left_new held_old held_new

-- no file was opened, and nothing printed; or some file is listed in part
abbrev pub IsSomeListingPutInPart : Listing → Option (List ℕ) → Option (List ℕ) → Type 0
IsSomeListingPutInPart listing held_old held_new =
    (held_new ≡ held_old)
    ⊎ ((left_old left_new : Option (List ℕ)) × IsListingPutInPart listing left_old left_new held_old held_new)

-- What a task of listing prints that succeeds. Of other tasks nothing is said here.
abbrev pub IsTaskListed : Task → Option (List ℕ) → Option (List ℕ) → Type 0
IsTaskListed (ToList listing) held_old held_new = IsSomeListingPut listing held_old held_new
IsTaskListed task held_old held_new = Unit {0}

-- What one prints that doesn't, where it can be printed.
abbrev pub IsTaskListedInPart : Task → Option (List ℕ) → Option (List ℕ) → Type 0
IsTaskListedInPart (ToList listing) held_old held_new = IsSomeListingPutInPart listing held_old held_new
IsTaskListedInPart task held_old held_new = Unit {0}

-- The same of requests for a listing or a log.
abbrev pub IsListingPrinted : Request → Option (List ℕ) → Option (List ℕ) → Type 0
IsListingPrinted request held_old held_new = IsTaskListed (task_of request) held_old held_new

abbrev pub IsListingPrintedInPart : Request → Option (List ℕ) → Option (List ℕ) → Type 0
IsListingPrintedInPart request held_old held_new = IsTaskListedInPart (task_of request) held_old held_new
