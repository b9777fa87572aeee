-- What bits hold that are near a written form.
use Rattle.std.proofs.Common.{◌≡◌, ℕ, ◌<◌, ◌≤◌, Bool, List, Some, subst, ◌∙◌, ap}
use Rattle.dmr_bits.specs.Bits.{distance}
use Rattle.dmr_bptc.specs.ProductWord.{IsProductWord, IsWritten, column, information}
use Rattle.dmr_bptc.specs.Decoding.{IsDecoded}
use Rattle.dmr_bptc.proofs.Decoded.{undone, written_decoded}
use Rattle.dmr_bptc.proofs.Existing.{decoded_somehow}

-- Bits that are the written form of a message are decoded to it.
pub decoded_as_written : (message bits : List Bool) → IsWritten message bits → IsDecoded bits (Some message)
decoded_as_written message bits written =
    let found = decoded_somehow bits in
    subst (IsDecoded bits) (written_decoded message bits found.0 written found.1) found.1

-- Bits that differ at most once in each column from a product word that holds a message are too.
pub decoded_as_near : (message word bits : List Bool) → IsProductWord word → information word ≡ message
    → ((c : ℕ) → c < 15 → distance (column word c) (column bits c) ≤ 1) → IsDecoded bits (Some message)
decoded_as_near message word bits is holds near =
    let found = decoded_somehow bits in
    subst (IsDecoded bits) (undone bits word found.0 found.1 is (15, λ c h apart. near c h) ∙ ap Some holds) found.1
