-- Information that is said in one way: what a burst carries of a link control, a block or a header is pinned.
use Rattle.std.proofs.Common.{◌≡◌, ℕ, Bool, List, subst}
use Rattle.dmr_bptc.specs.ProductWord.{IsWritten}
use Rattle.dmr_burst.specs.declared.burst.Burst.TheVariants as burst
use Rattle.dmr_csbk.proofs.Blocks.{same_message as same_csbk}
use Rattle.dmr_csbk.specs.Block.{IsCsbk}
use Rattle.dmr_csbk.specs.declared.block.Csbk.{Csbk}
use Rattle.dmr_data.proofs.HeaderForms.{same_form}
use Rattle.dmr_data.specs.HeaderForms.{IsWrittenForm}
use Rattle.dmr_data.specs.declared.header.Header.{Header}
use Rattle.dmr_link.proofs.SealedForms.{same_message as same_lc}
use Rattle.dmr_link.specs.Sealed.{IsLc}
use Rattle.dmr_link.specs.declared.full_lc.FullLc.{FullLc}
use Rattle.dmr_link.specs.declared.sealing.LcUse.{LcUse}
use Rattle.dmr_making.specs.Information.{IsLcInformation, IsCsbkInformation, IsHeaderInformation}
use Rattle.dmr_making.specs.Made.{IsMobileBurst}

-- a burst of one information is one of another that is equal
pub same_data : (colour kind : ℕ) (octets : List ℕ) (a b : List Bool) → a ≡ b → IsMobileBurst (burst.Data colour kind a) octets
    → IsMobileBurst (burst.Data colour kind b) octets
same_data colour kind octets a b e p = subst (λ (x : List Bool). IsMobileBurst (burst.Data colour kind x) octets) e p

-- what is written for a message is written for another that is equal
pub written_for : (m n information : List Bool) → m ≡ n → IsWritten m information → IsWritten n information
written_for m n information e w = subst (λ (x : List Bool). IsWritten x information) e w

-- The information of a link control is written.
pub of_lc : (lc_use : LcUse) (lc : FullLc) (message information : List Bool) → IsLc lc_use lc message
    → IsLcInformation lc_use lc information → IsWritten message information
of_lc lc_use lc message information p q =
    written_for q.message message information (same_lc lc_use lc q.message message q.sealed p) q.written

-- The information of a control block is written.
pub of_csbk : (csbk : Csbk) (message information : List Bool) → IsCsbk csbk message → IsCsbkInformation csbk information
    → IsWritten message information
of_csbk csbk message information p q =
    written_for q.message message information (same_csbk csbk q.message message q.block p) q.written

-- The information of a data header is written.
pub of_header : (header : Header) (message information : List Bool) → IsWrittenForm header message
    → IsHeaderInformation header information → IsWritten message information
of_header header message information p q =
    written_for q.message message information (same_form header q.message message q.form p) q.written
