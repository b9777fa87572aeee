-- A repeated burst is of a transmission.
use Rattle.std.proofs.Common.{◌≡◌, ◌==◌, ◌||◌, ℕ, Bool, true, false, cond, Option, Some, None, refl, sym, ap, ◌∙◌}
use Rattle.dmr_link.specs.declared.full_lc.FullLc.{FullLc}
use Rattle.dmr_listing.specs.declared.burst_line.BurstLine.{BurstLine}
use Rattle.dmr_listing.specs.declared.contents.Contents.{Contents}
use Rattle.dmr_listing.specs.declared.contents.Contents.TheVariants.{ControlBlock, DataHeader, OtherFormat}
use Rattle.dmr_log.specs.Repeated.{block_told, data_told, header_told, pi_header_told}
use Rattle.dmr_log.specs.Transmissions.{IsStep, begun_in, belongs, ended_by, is_burst, transmission_with}
use Rattle.dmr_log.specs.declared.checks.Checks.{Checks}
use Rattle.dmr_log.specs.declared.repeated.ControlKind.TheVariants as kind
use Rattle.dmr_log.specs.declared.repeated.Repeated.{Repeated}
use Rattle.dmr_log.specs.declared.repeated.Repeated.TheVariants as repeated
use Rattle.dmr_log.specs.declared.transmission.Ended.{Ended}
use Rattle.dmr_log.specs.declared.transmission.Transmission.{Transmission}
use Rattle.dmr_reading.specs.declared.reading.Reading.{Reading}
use Rattle.dmr_reading.specs.declared.reading.Reading.TheVariants as reading
use Rattle.dmr_dmrd_export.specs.Repeats.{own_or_headers, told_as, told_by_line}

-- 1. What is told of a repeated burst is no silence.

either : (b : Bool) (x y : Repeated) → is_burst x ≡ true → is_burst y ≡ true → is_burst (cond b x y) ≡ true
either true x y first second = first
either false x y first second = second

block : (contents : Option Contents) → is_burst (block_told contents) ≡ true
block (Some (ControlBlock b)) = refl
block contents = refl

header : (contents : Option Contents) → is_burst (header_told contents) ≡ true
header (Some (DataHeader h)) = refl
header (Some (OtherFormat octets)) = refl
header contents = refl

pi : (lc : Option FullLc) → is_burst (pi_header_told lc) ≡ true
pi None = refl
pi (Some lc) = refl

data_burst : (type : ℕ) (lc : Option FullLc) (contents : Option Contents) → is_burst (data_told type lc contents) ≡ true
data_burst type lc contents =
    let other = repeated.Control (kind.DataType type) in
    let of_block = cond ((type == 7) || ((type == 8) || (type == 10))) (repeated.Block type) other in
    let of_header = cond (type == 6) (header_told contents) of_block in
    let of_csbk = cond (type == 3) (block_told contents) of_header in
    let of_terminator = cond (type == 2) (repeated.Terminator lc) of_csbk in
    let of_call = cond (type == 1) (repeated.CallHeader lc) of_terminator in
    let e_block = either ((type == 7) || ((type == 8) || (type == 10))) (repeated.Block type) other refl refl in
    let e_header = either (type == 6) (header_told contents) of_block (header contents) e_block in
    let e_csbk = either (type == 3) (block_told contents) of_header (block contents) e_header in
    let e_terminator = either (type == 2) (repeated.Terminator lc) of_csbk refl e_csbk in
    let e_call = either (type == 1) (repeated.CallHeader lc) of_terminator refl e_terminator in
    either (type == 0) (pi_header_told lc) of_call (pi lc) e_call

told_burst : (headers : Option FullLc) (r : Reading) (contents : Option Contents) → is_burst (told_as headers r contents) ≡ true
told_burst headers (reading.Data side slot_type information) contents =
    data_burst slot_type.kind (own_or_headers contents headers) contents
told_burst headers (reading.Untyped side) contents = refl
told_burst headers (reading.VoiceSync side) contents = refl
told_burst headers (reading.Voice emb) contents = refl
told_burst headers reading.Unreadable contents = refl

pub told_is_burst : (headers : Option FullLc) (line : BurstLine) → is_burst (told_by_line headers line) ≡ true
told_is_burst headers line = told_burst headers line.reading line.contents

-- 2. A transmission is open behind a burst.

begun : (frame : ℕ) (r : Repeated) (checks : Checks) → is_burst r ≡ true → begun_in frame r checks ≡ None → ⊥
begun frame repeated.Nothing checks burst none = cc burst
begun frame (repeated.CallHeader lc) checks burst none = cc none
begun frame (repeated.Place lc is_filled) checks burst none = cc none
begun frame (repeated.Terminator lc) checks burst none = cc none
begun frame (repeated.DataHeader head) checks burst none = cc none
begun frame (repeated.Block type) checks burst none = cc none
begun frame (repeated.Control kind) checks burst none = cc none

by_choice : (b : Bool) (t : Transmission) (frame : ℕ) (r : Repeated) (checks : Checks) (ended : Option Ended)
    (after : Option Transmission) → is_burst r ≡ true
    → ◌≡◌ {A = Option Ended × Option Transmission} (ended, after) (cond b (None, Some (transmission_with t r checks))
    (Some (record { transmission = t; by = ended_by r }), begun_in frame r checks)) → after ≡ None → ⊥
by_choice true t frame r checks ended after burst step none =
    let is : after ≡ Some (transmission_with t r checks) = ap (λ (p : Option Ended × Option Transmission). p.1) step in
    let gone : Some (transmission_with t r checks) ≡ None = sym is ∙ none in
    cc gone
by_choice false t frame r checks ended after burst step none =
    let is : after ≡ begun_in frame r checks = ap (λ (p : Option Ended × Option Transmission). p.1) step in
    begun frame r checks burst (sym is ∙ none)

pub is_open : (current : Option Transmission) (frame : ℕ) (r : Repeated) (checks : Checks) (ended : Option Ended)
    (after : Option Transmission) → is_burst r ≡ true → IsStep current frame r checks ended after → after ≡ None → ⊥
is_open None frame r checks ended after burst (none_ended, is) none = begun frame r checks burst (sym is ∙ none)
is_open (Some t) frame r checks ended after burst (same, common, step) none =
    by_choice (belongs same t.subject r) t frame r checks ended after burst step none
