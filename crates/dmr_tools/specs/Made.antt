-- What is made of a script, and printed of it. Which file the system opens under a name, and what it holds, is the system's.
use Rattle.std.specs.Prelude.{◌≡◌, ℕ, Bool, true, false, All, List, Option, None, is_some}
use Rattle.std.specs.Io.KnownBytes.{Appends, Keeps}
use Rattle.dmr_lines.specs.Line.{first_line, line_octets}
use Rattle.dmr_planning.specs.CountTexts.{made_text}
use Rattle.dmr_planning.specs.Plans.{IsPlanOf, WritesPlan}
use Rattle.dmr_planning.specs.Sending.{planned_sendings}
use Rattle.dmr_planning.specs.declared.plan.Made.{Made}
use Rattle.dmr_planning.specs.declared.plan.Plan.{Plan}
use Rattle.dmr_record.specs.Outgoing.{outgoing_file}
use Rattle.dmr_script.specs.Fits.{FitsNumbered}
use Rattle.dmr_script.specs.Order.{MayStandBehind, said_nothing}
use Rattle.dmr_script.specs.Reading.{IsScriptRead}
use Rattle.dmr_script.specs.declared.script.Script.{Script}
use Rattle.dmr_tools.specs.Making.{is_any_to_output}
use Rattle.dmr_tools.specs.declared.request.Request.{Request}
use Rattle.dmr_tools.specs.declared.request.Request.TheVariants.{Make}

-- 1. Files.

-- A script is what the whole of a text says, and this is its plan.
pub record IsPlanOfText (taken : Bool) (plan : Plan) (left_old left_new : Option (List ℕ)) : Type 0 where
  pub script : Script
  pub read : IsScriptRead None script.statements.items false left_old left_new
  pub fit : All FitsNumbered script.statements.items
  pub follow : MayStandBehind said_nothing script.statements.items
  pub planned : IsPlanOf script taken plan

-- Behind what a file held, it has the recording of a plan, which this counts.
pub record HasRecordingOf (plan : Plan) (made : Made) (held : Option (List ℕ)) : Type 0 where
  pub written : Option (List ℕ)
  pub is : WritesPlan plan made held written
  pub file : Option (List ℕ)
  pub kept : Keeps written file

-- Behind what a file held, it has the outgoing list of a plan.
pub record HasListOf (plan : Plan) (held : Option (List ℕ)) : Type 0 where
  pub written : Option (List ℕ)
  pub is : Appends held written (outgoing_file (planned_sendings plan.statements.now plan.sends.items))
  pub file : Option (List ℕ)
  pub kept : Keeps written file

-- Some script was read and planned, and its files were written: the recording, which this counts, and the list where one is made.
pub record IsSomeMaking (taken : Bool) (made : Made) : Type 0 where
  pub plan : Plan
  pub left_old : Option (List ℕ)
  pub left_new : Option (List ℕ)
  pub of_text : IsPlanOfText taken plan left_old left_new
  pub uplink : Option (List ℕ)
  pub recording : HasRecordingOf plan made uplink
  pub list : taken ≡ true → (outgoing : Option (List ℕ)) × HasListOf plan outgoing

-- 2. What is printed.

-- The line of its counts was put.
pub record PutsMade (taken : Bool) (held_old held_new : Option (List ℕ)) : Type 0 where
  pub made : Made
  pub is : IsSomeMaking taken made
  pub line : Appends held_old held_new (line_octets (first_line (made_text made)))

-- To the second sink where a file goes to standard output, and else to the first.
abbrev pub PutsMadeTo : (beside taken : Bool) → (out_old out_new err_old err_new : Option (List ℕ)) → Type 0
PutsMadeTo true taken out_old out_new err_old err_new = PutsMade taken err_old err_new
PutsMadeTo false taken out_old out_new err_old err_new = PutsMade taken out_old out_new

-- What a request for the files of a script prints that succeeds. Of others nothing is said here.
abbrev pub IsMadePrinted : Request → (out_old out_new err_old err_new : Option (List ℕ)) → Type 0
IsMadePrinted (Make places) out_old out_new err_old err_new =
    PutsMadeTo (is_any_to_output places) (is_some places.outgoing) out_old out_new err_old err_new
IsMadePrinted request out_old out_new err_old err_new = Unit {0}
