-- Octets that are read of digits have eight bits.
use Rattle.std.proofs.Common.{◌≡◌, ℕ, ◌<◌, ◌∙◌, List, Ok, Err, Result, refl, subst, sym}
use Rattle.std.proofs.lemmas.List.Elements.{All-from_get_or}
use Rattle.std.specs.Prelude.{MatchResult}
use Rattle.hex.proofs.HexLemmas.{decode_of-ok, decode_sized-ok, decode_sized-twice}
use Rattle.hex.specs.Hex.{IsBytes, decode_sized}
use Rattle.hex.specs.declared.error.FromHexError.{FromHexError}
use Rattle.dmr_script.specs.Fits.{AreEightBits}

-- bytes are numbers of eight bits
pub small_bytes : (octets : List ℕ) → IsBytes octets → AreEightBits octets
small_bytes octets bytes = All-from_get_or (λ octet. octet < 256) octets 0 (λ k h. bytes k)

read_of : (text : List ℕ) (n : ℕ) (read : Result (List ℕ) FromHexError) (r : Result Unit FromHexError) (out : List ℕ)
    → decode_sized text n ≡ read → MatchResult read (λ bytes. (r ≡ Ok tt) × (out ≡ bytes)) (λ e. r ≡ Err e) → r ≡ Ok tt
    → AreEightBits out
read_of text n (Ok bytes) r out is told well =
    let twice = decode_sized-ok text n bytes is in
    let parts = decode_of-ok text bytes (sym (decode_sized-twice text n twice) ∙ is) in
    subst AreEightBits (sym told.1) (small_bytes bytes parts.3)
read_of text n (Err e) r out is told well = cc (told, well)

-- what was read into room for so many octets
pub small_read : (text : List ℕ) (n : ℕ) (r : Result Unit FromHexError) (out : List ℕ)
    → MatchResult (decode_sized text n) (λ bytes. (r ≡ Ok tt) × (out ≡ bytes)) (λ e. r ≡ Err e) → r ≡ Ok tt
    → AreEightBits out
small_read text n r out told well = read_of text n (decode_sized text n) r out refl told well
