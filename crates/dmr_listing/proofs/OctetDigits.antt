-- The digits of octets, one octet more.
use Rattle.std.proofs.Common.{◌≡◌, ◌∙◌, ap, sym, ℕ, ◌+◌, ◌-◌, ◌<◌, ◌^◌, false, true}
use Rattle.std.proofs.Common.{List, [], ◌++◌, length, take, get_or}
use Rattle.std.specs.Fmt.{digits, padded_integral, format_spec}
use Rattle.std.proofs.lemmas.Fmt.{hex_byte}
use Rattle.std.proofs.lemmas.List.{flat_map_more, take_more}
use Rattle.dmr_listing.specs.Texts.{digits_text, octet_digits}

-- what is printed of one octet is put behind the digits of those before it
pub digits_more : (octets : List ℕ) (i : ℕ) → i < length octets → get_or octets i 0 < 256
    → digits_text (take i octets)
    ++ padded_integral (format_spec 32 0 4 2 (2 ^ 64 - 1)) false [] (digits 16 true (get_or octets i 0))
    ≡ digits_text (take (i + 1) octets)
digits_more octets i inside small =
    ap (λ text. digits_text (take i octets) ++ text) (hex_byte true (get_or octets i 0) small)
    ∙ flat_map_more octet_digits [] (take i octets) (get_or octets i 0)
    ∙ ap digits_text (sym (take_more octets i 0 inside))
