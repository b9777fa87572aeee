-- Which output may be written beside one input.
use Rattle.std.specs.Prelude.{◌≡◌, false}
use Rattle.dmr_files.specs.Identity.{clashes, is_behind_any}
use Rattle.dmr_files.specs.declared.identity.Identity.{Identity}
use Rattle.dmr_files.specs.declared.system.StandardFiles.{StandardFiles}

-- An output that may be written: it is not the input, and is behind no standard stream.
pub record IsApartFrom (input : Identity) (standard : StandardFiles) (output : Identity) : Type 0 where
  pub from_input : clashes output input ≡ false
  pub from_standard : is_behind_any output standard ≡ false
