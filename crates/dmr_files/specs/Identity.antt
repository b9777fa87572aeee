-- Which files must not be one.
use Rattle.std.specs.Prelude.{◌==◌, ◌&&◌, ◌||◌, Bool, true, false, not, Option, Some, None}
use Rattle.dmr_files.specs.declared.identity.FileKind.{FileKind}
use Rattle.dmr_files.specs.declared.identity.FileKind.TheVariants.{Regular, Device, Other}
use Rattle.dmr_files.specs.declared.identity.Identity.{Identity}
use Rattle.dmr_files.specs.declared.system.StandardFiles.{StandardFiles}

-- one file, by its device and its number
abbrev pub is_one_file : Identity → Identity → Bool
is_one_file a b = a.device == b.device && a.number == b.number

-- a character device, to which any number may write
abbrev pub is_device : FileKind → Bool
is_device Regular = false
is_device Device = true
is_device Other = false

-- a file that holds what is written to it
abbrev pub is_regular : FileKind → Bool
is_regular Regular = true
is_regular Device = false
is_regular Other = false

-- more of a file may come while it is read
abbrev pub is_live : Identity → Bool
is_live file = not (is_regular file.kind)

-- an output that is this file gets into the other
abbrev pub clashes : Identity → Identity → Bool
clashes output other = not (is_device output.kind) && is_one_file output other

-- an output that is this file gets into what a standard stream reads or prints
abbrev pub is_behind : Identity → Option Identity → Bool
is_behind output (Some stream) = is_regular output.kind && is_one_file output stream
is_behind output None = false

-- an output that is this file gets into what any standard stream reads or prints
abbrev pub is_behind_any : Identity → StandardFiles → Bool
is_behind_any output standard =
    is_behind output standard.input || is_behind output standard.output || is_behind output standard.error

-- The files behind the standard streams that a command uses beside its own files: where an output is standard output, the command
-- prints nothing else there.
abbrev pub in_use : Bool → StandardFiles → StandardFiles
in_use true standard = record { input = standard.input; output = None; error = standard.error }
in_use false standard = standard
