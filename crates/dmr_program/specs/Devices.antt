-- What is left of an outgoing list, and what a received file holds, by what their files do.
use Rattle.std.specs.Prelude.{ℕ, List, [], Option, Some, None}
use Rattle.dmr_record.specs.Outgoing.{outgoing_file}
use Rattle.dmr_files.specs.declared.system.Open.{Open}
use Rattle.dmr_program.specs.declared.devices.OutgoingList.{OutgoingList}
use Rattle.dmr_program.specs.declared.devices.OutgoingList.TheVariants.{File, Octets}
use Rattle.dmr_program.specs.declared.devices.ReceivedFile.{ReceivedFile}
use Rattle.dmr_program.specs.declared.devices.ReceivedFile.TheVariants as received

-- What an outgoing list has left: what its file has, or the octets that are at hand.
abbrev pub list_left : {I : Type 0} → (I → Option (List ℕ)) → OutgoingList I → Option (List ℕ)
list_left left (File file) = left file
list_left left (Octets octets) = Some octets.now

-- What a run has of an outgoing list that may be left out: what the open file has, and without one the outgoing file that has no
-- record.
abbrev pub list_opened : {I : Type 0} → (I → Option (List ℕ)) → Option (Open I) → Option (List ℕ)
list_opened left (Some opened) = left opened.file
list_opened left None = Some (outgoing_file [])

-- What a received file holds; nothing is known where it is kept nowhere.
abbrev pub file_contents : {O : Type 0} → (O → Option (List ℕ)) → ReceivedFile O → Option (List ℕ)
file_contents contents (received.File file) = contents file
file_contents contents received.Nowhere = None
