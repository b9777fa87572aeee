-- Which outputs of a run may be written, and which inputs are live.
use Rattle.std.specs.Prelude.{◌≡◌, ◌||◌, Bool, false, Option, Some, None}
use Rattle.dmr_files.specs.Identity.{clashes, is_behind_any, is_live}
use Rattle.dmr_files.specs.declared.identity.Identity.{Identity}
use Rattle.dmr_program.specs.declared.opening.Taken.{Taken}

-- An output gets into a file, where there is one.
abbrev pub clashes_if_any : Identity → Option Identity → Bool
clashes_if_any output (Some other) = clashes output other
clashes_if_any output None = false

-- An output that may be written: it is no input, and is behind no standard stream.
pub record IsApart (taken : Taken) (output : Identity) : Type 0 where
  pub from_uplink : clashes output taken.uplink ≡ false
  pub from_outgoing : clashes_if_any output taken.outgoing ≡ false
  pub from_standard : is_behind_any output taken.standard ≡ false

-- More of an input may come while it is read.
abbrev pub is_any_live : Identity → Option Identity → Bool
is_any_live uplink (Some outgoing) = is_live uplink || is_live outgoing
is_any_live uplink None = is_live uplink
